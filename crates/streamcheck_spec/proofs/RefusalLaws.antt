-- Which refusals a report can have, and that the drafts of 2015 have no reserved bits.
-- By the reading's checks; a field of width 0 reads as 0.
use mathlib.Core.Path.{◌≡◌, refl, sym, ◌∙◌, ap, subst}
use mathlib.Core.Bool.{Bool, true, not, ◌&&◌}
use mathlib.Core.List.{List, [], ◌∷◌}
use mathlib.Core.Logic.{◌⊎◌, inl, inr}
use Prim.Native.Nat.{ℕ}
use lib.Dec.{eqb, leb}
use lib.ListN.{length, take, drop}
use Rattle.wire_spec.specs.declared.refusal.Refusal.{Refusal}
use Rattle.wire_spec.specs.Bits.{num, bits_at}
use Rattle.wire_spec.specs.Layout.{Layout, draft2015}
use Rattle.wire_spec.specs.Result.{Ok}
use Rattle.wire_spec.specs.Anc.{Record, anc_checks, read_run}
use Rattle.wire_spec.specs.Packet.{Packet, length_field, anc_count, run_at, packet_read, header_checks, padding_checks, payload_checks, read_records, read_packet}
use Rattle.wire_spec.proofs.ResultLaws.{Numbered, judge-numbered, then-numbered}
use Rattle.wire_spec.proofs.AncLaws.{run-numbered}
use Rattle.wire_spec.proofs.PacketIff.{read_is}
use Rattle.streamcheck_spec.specs.Rules.{Refuses, ReservedBitsSet}

-- "1 to 13, 15 or 16"
abbrev pub is_reading : ℕ → Bool
is_reading n = leb 1 n && (leb n 16 && not (eqb n 14))

records-numbered : (L : Layout) (s : List ℕ) → Numbered is_reading (read_records L s)
unfolding read_records anc_checks
records-numbered L s =
    then-numbered is_reading (read_run L 0 (anc_count s) (take (length_field s) (drop (run_at L s) s))) _
    (run-numbered is_reading L (λ t. refl) 0 (anc_count s) (take (length_field s) (drop (run_at L s) s)))
    (λ q. judge-numbered {A = List Record} is_reading 0 ((eqb (length q.1) 0, 13) ∷ []) (Ok q.0) refl tt)

packet-numbered : (L : Layout) (s : List ℕ) → Numbered is_reading (read_packet L s)
unfolding read_packet header_checks padding_checks payload_checks
packet-numbered L s =
    judge-numbered is_reading 0 (header_checks s) _ refl
    (judge-numbered is_reading 0 (padding_checks L s) _ refl
    (judge-numbered is_reading 0 (payload_checks L s) _ refl
    (then-numbered is_reading (read_records L s) _ (records-numbered L s) (λ rs. tt))))

-- "refused (1 to 13, 15 or 16, strictly; 30 or 31 ..)"
pub refused-numbers : (L : Layout) (ps : List (List ℕ)) (i : ℕ) (x : Refusal) → Refuses L ps i x
    → (is_reading x.number ≡ true) ⊎ ((x.number ≡ 30) ⊎ (x.number ≡ 31))
refused-numbers L ps i x (inl a) = inl (subst (Numbered is_reading) a.reading (packet-numbered L a.octets))
refused-numbers L ps i x (inr (inl a)) = inr (inl (ap (λ (z : Refusal). z.number) a.1))
refused-numbers L ps i x (inr (inr a)) = inr (inr (ap (λ (z : Refusal). z.number) a.1))

none-reserved : (s : List ℕ) (rs : List Record) → (packet_read draft2015 rs s).reserved ≡ 0
unfolding packet_read bits_at num
none-reserved s rs = refl

-- the drafts' payload header has no reserved bits
pub never-reserved : (ps : List (List ℕ)) (i : ℕ) → ReservedBitsSet draft2015 ps i → ⊥
never-reserved ps i h =
    let a = h.sound.compared.accepts in
    h.reserved
    (sym (ap (λ (k : Packet). k.reserved) (read_is draft2015 a.octets h.here a.reading))
    ∙ none-reserved a.octets h.here.records)
