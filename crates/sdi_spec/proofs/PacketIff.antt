-- Packets are taken exactly where the stretch of well-formed records stands and no flag follows.
-- By the packet at the front: with a flag, its checks; without one, none is left.
use mathlib.Core.Path.{◌≡◌, refl, ap, sym, ◌∙◌, subst}
use mathlib.Core.Bool.{Bool, true, false, cond, true≢false}
use mathlib.Core.Logic.{◌↔◌}
use mathlib.Core.List.{List, [], ◌∷◌, ◌++◌, nil≢cons, append_assoc, cons-eq-cons}
use Prim.Native.Nat.{ℕ, zero, suc, ◌+◌, ◌≤◌}
use native.Mathlib.Omega.{arith}
use lib.ListN.{length, drop, length-drop}
use Rattle.wire_spec.specs.Layout.{rfc8331}
use Rattle.wire_spec.specs.Result.{Result, Ok, judge, ◌then◌}
use Rattle.wire_spec.specs.Anc.{Each, Record, WellFormed}
use Rattle.wire_spec.proofs.ResultLaws.{Passed, accepted-inj, judge-accepts, judge-passes, then-accepts}
use Rattle.sdi_spec.specs.declared.position.Position.{Position}
use Rattle.sdi_spec.specs.Packets.{flag, data_words, packet_words, stretch, Flagged, Stands, At, has_flag, line_count, line_record, packet_checks, behind, packets_from, placed}
use Rattle.sdi_spec.specs.Line.{PositionFits}
use Rattle.sdi_spec.proofs.PacketLaws.{flag-iff, packet-passed, packet-reads}

-- a flag is told by its test
pub flagged : (s : List ℕ) → Flagged s → has_flag s ≡ true
flagged s f = (flag-iff s).1 (f.1 ∙ ap (λ (x : List ℕ). flag ++ x) (sym (ap (drop 3) f.1)))

-- none is told where there is none
not-flagged : (s : List ℕ) → has_flag s ≡ false → Flagged s → ⊥
not-flagged s e f = true≢false (sym (flagged s f) ∙ e)

pub front-flagged : (r : Record) (rs : List Record) (s : List ℕ) → Stands (r ∷ rs) s → Flagged s
front-flagged r rs s h = (data_words r ++ (stretch rs ++ h.rest), h.words ∙ append_assoc (packet_words r) (stretch rs) h.rest)

placed-read : (P : Position) (t : List ℕ) → placed P (line_record P t) ≡ line_record P t
unfolding line_record
placed-read P t = refl

-- where no flag stands, nothing is taken
none-iff : (P : Position) (s : List ℕ) → (Flagged s → ⊥) → (rs : List Record)
    → (◌≡◌ {A = Result (List Record)} (Ok []) (Ok rs)) ↔ (Each (WellFormed rfc8331) rs × Each (At P) rs × Stands rs s)
none-iff P s ends [] = (λ e. (tt, tt, record { rest = s; words = refl; ends = ends }), λ p. refl)
none-iff P s ends (r ∷ rs) = (λ e. absurd (nil≢cons (accepted-inj e)), λ p. absurd (ends (front-flagged r rs s p.2)))

-- PACKETS, with a bound that is large enough
pub packets-iff : (bound : ℕ) (P : Position) → PositionFits P → (i : ℕ) (s : List ℕ) → length s ≤ bound → (rs : List Record)
    → (packets_from bound P i s ≡ Ok rs) ↔ (Each (WellFormed rfc8331) rs × Each (At P) rs × Stands rs s)
unfolding packets_from
packets-iff zero P fits i s h rs = none-iff P s (λ f. absurd (omega (arith, ap length f.1))) rs
packets-iff (suc bound) P fits i s h rs = go (has_flag s) refl (λ l qs. packets-iff bound P fits (i + 1) (behind s) l qs) rs
  where
    Ih : Type 0
    Ih = length (behind s) ≤ bound → (qs : List Record)
        → (packets_from bound P (i + 1) (behind s) ≡ Ok qs) ↔ (Each (WellFormed rfc8331) qs × Each (At P) qs × Stands qs (behind s))

    go : (t : Bool) → has_flag s ≡ t → Ih → (rs : List Record)
        → (cond t (judge i (packet_checks (drop 3 s)) (packets_from bound P (i + 1) (behind s) then λ rs. Ok (line_record P (drop 3 s) ∷ rs))) (Ok []) ≡ Ok rs)
        ↔ (Each (WellFormed rfc8331) rs × Each (At P) rs × Stands rs s)
    go false e ih rs = none-iff P s (not-flagged s e) rs
    go true e ih [] = (
      λ a.
          let j = judge-accepts i (packet_checks (drop 3 s)) _ [] a in
          let b = then-accepts (packets_from bound P (i + 1) (behind s)) _ [] j.1 in
          absurd (nil≢cons (sym (accepted-inj b.2))),
      λ p. absurd (p.2.ends (drop 3 s, sym p.2.words ∙ (flag-iff s).0 e)),
    )
    go true e from (r ∷ rs) =
        let f = (flag-iff s).0 e in
        let t = drop 3 s in
        let shorter : length (behind s) ≤ bound = rw (length-drop (4 + line_count t) t, length-drop 3 s) (omega (arith, ap length f)) in
        let ih = from shorter rs in (
          λ a.
              let j = judge-accepts i (packet_checks t) _ (r ∷ rs) a in
              let b = then-accepts (packets_from bound P (i + 1) (behind s)) _ (r ∷ rs) j.1 in
              let c = cons-eq-cons.0 (accepted-inj b.2) in
              let k = packet-passed P fits t j.0 in
              let more = ih.0 (b.1 ∙ ap Ok c.1) in
              let w : s ≡ packet_words r ++ behind s = f ∙ ap (λ (x : List ℕ). flag ++ x) k.1 ∙ ap (λ (x : Record). packet_words x ++ behind s) c.0 in (
                (subst (WellFormed rfc8331) c.0 k.0, more.0),
                (ap (placed P) (sym c.0) ∙ placed-read P t ∙ c.0, more.1),
                record {
                  rest = more.2.rest;
                  words = w ∙ ap (λ (x : List ℕ). packet_words r ++ x) more.2.words ∙ sym (append_assoc (packet_words r) (stretch rs) more.2.rest);
                  ends = more.2.ends;
                },
              ),
          λ p.
              let d = p.2 in
              let w : s ≡ packet_words r ++ (stretch rs ++ d.rest) = d.words ∙ append_assoc (packet_words r) (stretch rs) d.rest in
              let wt : t ≡ data_words r ++ (stretch rs ++ d.rest) = ap (drop 3) w in
              let q = subst (λ (x : List ℕ). Passed (packet_checks x) × (line_record P x ≡ placed P r) × (drop (4 + line_count x) x ≡ stretch rs ++ d.rest)) (sym wt)
              (packet-reads P r (stretch rs ++ d.rest) p.0.0) in
              let more = ih.1 (p.0.1, p.1.1, record { rest = d.rest; words = q.2; ends = d.ends }) in
              judge-passes i (packet_checks t) _ q.0
              ∙ ap (λ x. x then λ ys. Ok (line_record P t ∷ ys)) more
              ∙ ap (λ (x : Record). Ok (x ∷ rs)) (q.1 ∙ p.1.0),
        )
