-- A run taken in the tolerant way: which octets are accepted, and what comes through.
-- Packet by packet: the tolerant checks pass exactly where the octets of a well-formed record stand with some word in the checksum's place.
use mathlib.Core.Path.{◌≡◌, refl, ap, ap₂, sym, ◌∙◌, subst}
use mathlib.Core.Bool.{Bool, true, false, cond}
use mathlib.Core.Logic.{◌↔◌}
use mathlib.Core.List.{List, [], ◌∷◌, ◌++◌, append_assoc}
use Prim.Native.Nat.{ℕ, zero, suc, ◌+◌}
use native.Mathlib.Nat.{suc_inj}
use native.Mathlib.Omega.{arith}
use lib.ListN.{length, take, drop, length-append, take-append-drop}
use lib.Seq.{take_at, drop_at}
use Rattle.wire_spec.specs.Bits.{Below}
use Rattle.wire_spec.specs.Layout.{Layout}
use Rattle.wire_spec.specs.Result.{Result, Ok, judge, ◌then◌}
use Rattle.wire_spec.specs.Anc.{Each, Record, WellFormed, checksum, anc_octets_with, run_octets, anc_size, data_count, anc_record, sum_field, checksum_ok, behind}
use Rattle.wire_spec.proofs.BitLaws.{below-drop}
use Rattle.wire_spec.proofs.ResultLaws.{Passed, accepted-inj, judge-accepts, judge-passes, then-accepts}
use Rattle.wire_spec.proofs.SizeLaws.{length-with, length-anc}
use Rattle.wire_spec.proofs.AncLaws.{Sound, own-word, sound-iff, sound-count}
use Rattle.anc_tolerant_spec.specs.Tolerant.{tolerant_checks, Taken, through, tolerate_run}
use Rattle.anc_tolerant_spec.specs.Received.{Received, WellReceived, received_octets, records_of, is_own, through_of, left_out_of, Gives}

-- the tolerant checks are the strict ones but 11's
pub passed-sound : (L : Layout) (s : List ℕ) → Passed (tolerant_checks L s) ↔ Sound L s
unfolding tolerant_checks
passed-sound L s = (
  λ p. record { least = search; headers = search; whole = search; quiet = search; clear = search; zeros = search },
  λ g. (g.least, (g.headers, (g.whole, (g.quiet, (g.clear, (g.zeros, tt)))))),
)

-- what packets give
abbrev pub taken_of : List Received → List ℕ → Taken
taken_of ps rest = record { records = through_of ps; left_out = left_out_of ps; rest = rest }

-- one packet more
pub taken-cons : (t : Bool) (p : Received) (ps : List Received) (rest : List ℕ) → is_own p ≡ t
    → through t p.says (taken_of ps rest) ≡ taken_of (p ∷ ps) rest
taken-cons true p ps rest e = rw e
taken-cons false p ps rest e = rw e

-- the packet at the front of octets that pass
abbrev pub front : Layout → List ℕ → Received
front L s = record { says = anc_record L s; word = sum_field L s }

-- A RUN of n ANC packets is accepted in the tolerant way exactly when its octets are n packets, each the octets of a well-formed record with some
-- ten-bit word in the place of its checksum; those whose word is the record's own come through, in order, and the others are counted
pub run-through : (L : Layout) (i n : ℕ) (s : List ℕ) → Below 256 s → (q : Taken)
    → (tolerate_run L i n s ≡ Ok q) ↔ ((ps : List Received) × Gives L n s ps q)
unfolding tolerate_run
run-through L i zero s b q = (
  λ e.
      let h = accepted-inj e in (
        [],
        record {
          count = refl;
          formed = tt;
          octets = ap (λ (x : Taken). x.rest) h;
          through = sym (ap (λ (x : Taken). x.records) h);
          left_out = sym (ap (λ (x : Taken). x.left_out) h);
        },
      ),
  λ p. none p.0 p.1,
)
  where
    none : (ps : List Received) → Gives L 0 s ps q → ◌≡◌ {A = Result Taken} (Ok (record { records = []; left_out = 0; rest = s })) (Ok q)
    none [] h = ap Ok (λ j. record { records = sym h.through j; left_out = sym h.left_out j; rest = h.octets j })
    none (p ∷ ps) h = let o : suc (length ps) ≡ 0 = h.count in absurd (omega arith)
run-through L i (suc n) s b q =
    let ih = run-through L (i + 1) n (behind L s) (below-drop 256 (anc_size L (data_count L s)) s b) in (
      λ e.
          let a = judge-accepts i (tolerant_checks L s) _ _ e in
          let c = then-accepts (tolerate_run L (i + 1) n (behind L s)) _ _ a.1 in
          let g = (passed-sound L s).0 a.0 in
          let one = (sound-iff L s b (anc_record L s) (sum_field L s)).0 (g, refl, refl) in
          let more = (ih c.0).0 c.1 in
          let ps = more.0 in
          let size = anc_size L (length (anc_record L s).words) in
          let d : behind L s ≡ drop size s = ap (λ (x : ℕ). drop (anc_size L x) s) (sound-count L s g) in
          let same : c.0 ≡ taken_of ps c.0.rest = λ j. record { records = more.1.through j; left_out = more.1.left_out j; rest = c.0.rest } in
          let taken : taken_of (front L s ∷ ps) c.0.rest ≡ q =
          sym (taken-cons (checksum_ok L s) (front L s) ps c.0.rest (sym (own-word L s g.headers)))
          ∙ ap (through (checksum_ok L s) (anc_record L s)) (sym same) ∙ accepted-inj c.2 in (
            front L s ∷ ps,
            record {
              count = ap suc more.1.count;
              formed = (record { formed = one.0; word = one.1 }, more.1.formed);
              octets =
                  sym (take-append-drop size s) ∙ ap₂ ◌++◌ one.2 (sym d ∙ more.1.octets)
                  ∙ sym (append_assoc (anc_octets_with L (anc_record L s) (sum_field L s)) (received_octets L ps) c.0.rest)
                  ∙ ap (λ (x : Taken). received_octets L (front L s ∷ ps) ++ x.rest) taken;
              through = sym (ap (λ (x : Taken). x.records) taken);
              left_out = sym (ap (λ (x : Taken). x.left_out) taken);
            },
          ),
      λ p. back (λ x g. (ih x).1 g) p.0 p.1,
    )
  where
    back : ((x : Taken) → (ps : List Received) × Gives L n (behind L s) ps x → tolerate_run L (i + 1) n (behind L s) ≡ Ok x)
        → (ps : List Received) → Gives L (suc n) s ps q
        → judge i (tolerant_checks L s) (tolerate_run L (i + 1) n (behind L s) then λ q. Ok (through (checksum_ok L s) (anc_record L s) q)) ≡ Ok q
    back ih [] h = let o : 0 ≡ suc n = h.count in absurd (omega arith)
    back ih (p ∷ ps) h =
        let o = anc_octets_with L p.says p.word in
        let size = anc_size L (length p.says.words) in
        let e : s ≡ o ++ (received_octets L ps ++ q.rest) = h.octets ∙ append_assoc o (received_octets L ps) q.rest in
        let t : take size s ≡ o = rw e (take_at o _ size (length-with L p.says p.word)) in
        let one = (sound-iff L s b p.says p.word).1 (h.formed.0.formed, h.formed.0.word, t) in
        let here : front L s ≡ p = λ j. record { says = one.1 j; word = one.2 j } in
        let d : behind L s ≡ received_octets L ps ++ q.rest =
        ap (λ (x : ℕ). drop (anc_size L x) s) (sound-count L s one.0 ∙ ap (λ (x : Record). length x.words) one.1)
        ∙ rw e (drop_at o _ size (length-with L p.says p.word)) in
        let more = ih (taken_of ps q.rest) (ps, record { count = suc_inj h.count; formed = h.formed.1; octets = d; through = refl; left_out = refl }) in
        judge-passes i (tolerant_checks L s) _ ((passed-sound L s).1 one.0)
        ∙ ap (λ x. x then λ q. Ok (through (checksum_ok L s) (anc_record L s) q)) more
        ∙ ap Ok (
        taken-cons (checksum_ok L s) (front L s) ps q.rest (sym (own-word L s one.0.headers))
        ∙ ap (λ (x : Received). taken_of (x ∷ ps) q.rest) here
        ∙ λ j. record { records = sym h.through j; left_out = sym h.left_out j; rest = q.rest }
        )

-- packets take the octets that those of their records take
pub length-received : (L : Layout) (ps : List Received) → length (received_octets L ps) ≡ length (run_octets L (records_of ps))
length-received L [] = refl
length-received L (p ∷ ps) =
    length-append (anc_octets_with L p.says p.word) (received_octets L ps)
    ∙ ap₂ ◌+◌ (length-with L p.says p.word ∙ sym (length-anc L p.says)) (length-received L ps)
    ∙ sym (length-append (anc_octets_with L p.says (checksum p.says)) (run_octets L (records_of ps)))

-- each comes through or is left out
pub all-counted : (ps : List Received) → length (through_of ps) + left_out_of ps ≡ length ps
all-counted [] = refl
all-counted (p ∷ ps) = go (is_own p) (all-counted ps)
  where
    go : (t : Bool) → length (through_of ps) + left_out_of ps ≡ length ps
        → length (cond t (p.says ∷ through_of ps) (through_of ps)) + cond t (left_out_of ps) (suc (left_out_of ps)) ≡ suc (length ps)
    go true h = omega arith
    go false h = omega arith

-- and records of packets that are well-formed are so
pub received-formed : (L : Layout) (ps : List Received) → Each (WellReceived L) ps → Each (WellFormed L) (records_of ps)
received-formed L [] h = tt
received-formed L (p ∷ ps) h = (h.0.formed, received-formed L ps h.1)

pub length-records : (ps : List Received) → length (records_of ps) ≡ length ps
length-records [] = refl
length-records (p ∷ ps) = ap suc (length-records ps)

-- each packet of an accepted run comes through or is left out
pub run-counted : (L : Layout) (i n : ℕ) (s : List ℕ) (q : Taken) → tolerate_run L i n s ≡ Ok q → length q.records + q.left_out ≡ n
unfolding tolerate_run
run-counted L i zero s q e = let h = accepted-inj e in subst (λ (x : Taken). length x.records + x.left_out ≡ 0) h refl
run-counted L i (suc n) s q e =
    let a = judge-accepts i (tolerant_checks L s) _ _ e in
    let c = then-accepts (tolerate_run L (i + 1) n (behind L s)) _ _ a.1 in
    subst (λ (x : Taken). length x.records + x.left_out ≡ suc n) (accepted-inj c.2)
    (one (checksum_ok L s) (anc_record L s) c.0 n (run-counted L (i + 1) n (behind L s) c.0 c.1))
  where
    one : (t : Bool) (r : Record) (q : Taken) (n : ℕ) → length q.records + q.left_out ≡ n → length (through t r q).records + (through t r q).left_out ≡ suc n
    one true r q n h = omega arith
    one false r q n h = omega arith
