-- The order of reading in the tolerant way: octets are refused with a number and an index exactly where 01's table without 11 says so.
-- Each check agrees with its row of the table, as in the strict way; the run's law is the same.
use mathlib.Core.Path.{◌≡◌, refl, sym}
use mathlib.Core.Bool.{Bool, true, false}
use mathlib.Core.Logic.{◌↔◌, inl, inr}
use mathlib.Core.List.{List, [], ◌∷◌}
use Prim.Native.Nat.{ℕ}
use lib.ListN.{length}
use Rattle.wire_spec.specs.Layout.{Layout}
use Rattle.wire_spec.specs.Result.{refuse, ◌then◌}
use Rattle.wire_spec.specs.Anc.{Record, anc_record, checksum_ok, behind}
use Rattle.wire_spec.specs.Cells.{list_of}
use Rattle.wire_spec.specs.Packet.{anc_count, packet_read, content}
use Rattle.wire_spec.specs.Order.{Among, after, RefusedBy, anc_region, front_faults}
use Rattle.wire_spec.proofs.OrderLaws.{Agree, first-number}
use Rattle.wire_spec.proofs.ReadingOrder.{least_iff, headers-iff, size-iff, r-iff, words-iff, align-iff, run-13, room-14, staged-first}
use Rattle.wire_spec.proofs.IndexLaws.{front-among}
use Rattle.anc_tolerant_spec.specs.Tolerant.{tolerant_checks, Taken, through, tolerate_run, tolerated, tolerate_content, tolerate_into, tolerant_faults, ToleratedNot, TolerantIndex}

-- 9, 10, 9, 15, 16, 12 are the table's, in its order
tolerant-agree : (L : Layout) (s : List ℕ) → Agree (tolerant_faults L s) (tolerant_checks L s)
unfolding tolerant_checks
tolerant-agree L s = (
  refl,
  least_iff L s,
  λ h1. (refl, headers-iff L s, λ h2. (refl, size-iff L s, λ h3. (refl, r-iff L s, λ h4. (refl, words-iff L s, λ h5. (refl, align-iff L s, λ h6. tt))))),
)

-- whether a packet comes through or is left out, what is behind it is the same
rest-through : (t : Bool) (r : Record) (q : Taken) → (through t r q).rest ≡ q.rest
rest-through true r q = refl
rest-through false r q = refl

-- THE ORDER OF THE TOLERANT WAY: octets are refused with `n` and `i` exactly where 01's table without 11, taken in its order, gives them
pub refused-iff : (L : Layout) (s : List ℕ) (n i : ℕ) → (tolerate_content L s ≡ refuse n i) ↔ RefusedBy tolerant_faults L s n i
unfolding tolerate_content tolerate_run tolerated
refused-iff L s n i =
    staged-first L s (tolerate_run L 0 (anc_count s) (anc_region L s) then tolerated L s) n i
    (run-13 (tolerant_faults L) (tolerant_checks L) (tolerant-agree L) (behind L) (tolerate_run L) (λ s. record { records = []; left_out = 0; rest = s })
    (λ s q. through (checksum_ok L s) (anc_record L s) q) (λ q. q.rest) (λ i s. refl) (λ i n s. refl) (λ s. refl)
    (λ s q. rest-through (checksum_ok L s) (anc_record L s) q) (λ q. record { says = content (packet_read L q.records s); left_out = q.left_out }) (anc_count s) (anc_region L s) n i)

pub into-iff : (L : Layout) (s : List ℕ) (room n i : ℕ) → (tolerate_into L s room ≡ refuse n i) ↔ ToleratedNot L s room n i
unfolding tolerate_into
into-iff L s room n i = room-14 (tolerate_content L s) (λ t. length (list_of t.says.records)) room n i (refused-iff L s n i)

-- the numbers of the ANC packets' checks, 9 twice
anc-among : (n : ℕ) → Among (9 ∷ 10 ∷ 9 ∷ 15 ∷ 16 ∷ 12 ∷ []) n → Among (9 ∷ 10 ∷ 12 ∷ 15 ∷ 16 ∷ []) n
anc-among n (inl e) = inl e
anc-among n (inr (inl e)) = inr (inl e)
anc-among n (inr (inr (inl e))) = inl e
anc-among n (inr (inr (inr (inl e)))) = inr (inr (inr (inl e)))
anc-among n (inr (inr (inr (inr (inl e))))) = inr (inr (inr (inr (inl e))))
anc-among n (inr (inr (inr (inr (inr (inl e)))))) = inr (inr (inl e))
anc-among n (inr (inr (inr (inr (inr (inr x6)))))) = elim x6 [ ]

-- the index is the ANC packet's for 9, 10, 12, 15 and 16, and 0 otherwise; 11 is not among the numbers
pub tolerant-index : (L : Layout) (s : List ℕ) (room n i : ℕ) → ToleratedNot L s room n i → TolerantIndex (anc_count s) n i
tolerant-index L s room n i (inl (inl x)) = inr (front-among n (first-number n (front_faults L s) x.0), x.1)
tolerant-index L s room n i (inl (inr (_, inl x))) =
    inl (anc-among n (first-number n (tolerant_faults L (after (behind L) i (anc_region L s))) x.1.here), x.0)
tolerant-index L s room n i (inl (inr (_, inr x))) = inr (inr (inr (inr (inr (inr (inr (inr (inr (inl (sym x.2))))))))), x.3)
tolerant-index L s room n i (inr x) = inr (inr (inr (inr (inr (inr (inr (inr (inr (inr (inl (sym x.3)))))))))), x.4)
