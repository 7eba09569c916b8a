-- The tolerant way and the strict one: the same with none left out, and the same refusals but 11.
-- Packet by packet: the strict checks are the tolerant ones and the checksum.
use mathlib.Core.Path.{◌≡◌, refl, ap, sym, ◌∙◌, subst}
use mathlib.Core.Bool.{Bool, true, false, not}
use mathlib.Core.Logic.{◌↔◌}
use mathlib.Core.List.{List, [], ◌∷◌, ◌++◌}
use Prim.Native.Nat.{ℕ, zero, suc, ◌+◌}
use native.Mathlib.Omega.{arith}
use lib.Dec.{eqb}
use lib.ListN.{take, drop}
use Rattle.wire_spec.specs.declared.refusal.Refusal.{Refusal}
use Rattle.wire_spec.specs.Layout.{Layout}
use Rattle.wire_spec.specs.Result.{Result, Err, Ok, Checks, judge, ◌then◌}
use Rattle.wire_spec.specs.Anc.{Record, anc_record, checksum_ok, anc_checks, read_anc, read_run, behind}
use Rattle.wire_spec.proofs.ResultLaws.{Passed, Numbered, numbers, judge-numbered, then-numbered, accepted-inj, judge-accepts, judge-passes, then-accepts, and-true}
use Rattle.wire_spec.proofs.PacketLaws.{not_eqb}
use Rattle.wire_spec.proofs.AncLaws.{sound-passed}
use Rattle.anc_tolerant_spec.specs.Tolerant.{is_not11, tolerant_checks, Taken, through, tolerate_run}
use Rattle.anc_tolerant_spec.proofs.RunLaws.{passed-sound}

-- an answer is no refusal
pub Ok≢Err : {A : Type 0} {a : A} {x : Refusal} → Ok a ≡ Err x → ⊥
Ok≢Err e = let o : ◌≡◌ {A = ℕ} 0 1 = cc in omega arith

pub refused-inj : {A : Type 0} {x y : Refusal} → ◌≡◌ {A = Result A} (Err x) (Err y) → x ≡ y
refused-inj e = cc

-- what checks refuse they refuse, whatever the answer behind them
pub refuses-any : {A B : Type 0} (i : ℕ) (ts : Checks) (a : A) (y : Result B) (x : Refusal) → judge i ts (Ok a) ≡ Err x → judge i ts y ≡ Err x
refuses-any i [] a y x e = absurd (Ok≢Err e)
refuses-any i ((true, m) ∷ ts) a y x e = refuses-any i ts a y x e
refuses-any i ((false, m) ∷ ts) a y x e = ap Err (refused-inj e)

-- without one of them they refuse alike, but by that one's number
refuses-without : {A B : Type 0} (i n : ℕ) (t : Bool) (ts us : Checks) (a : A) (y : Result B) (x : Refusal)
    → judge i (ts ++ (t, n) ∷ us) (Ok a) ≡ Err x → (x.number ≡ n → ⊥) → judge i (ts ++ us) y ≡ Err x
refuses-without i n true [] us a y x e h = refuses-any i us a y x e
refuses-without i n false [] us a y x e h = absurd (h (sym (ap (λ (z : Refusal). z.number) (refused-inj e))))
refuses-without i n t ((true, m) ∷ ts) us a y x e h = refuses-without i n t ts us a y x e h
refuses-without i n t ((false, m) ∷ ts) us a y x e h = ap Err (refused-inj e)

-- they refuse by the number of one of them alone where that one fails, and those before it pass
refuses-at : {A : Type 0} (i n : ℕ) (t : Bool) (ts us : Checks) (a : A) (x : Refusal) → numbers (λ m. not (eqb m n)) (ts ++ us) ≡ true
    → judge i (ts ++ (t, n) ∷ us) (Ok a) ≡ Err x → x.number ≡ n → Passed ts × (t ≡ false)
refuses-at i n false [] us a x h e z = (tt, refl)
refuses-at {A} i n true [] us a x h e z =
    let k = judge-numbered (λ m. not (eqb m n)) i us (Ok a) h tt in
    let l : not (eqb x.number n) ≡ true = subst (Numbered (λ m. not (eqb m n))) e k in
    absurd (not_eqb x.number n l z)
refuses-at i n t ((true, m) ∷ ts) us a x h e z = let r = refuses-at i n t ts us a x (and-true (not (eqb m n)) _ h).1 e z in ((refl, r.0), r.1)
refuses-at i n t ((false, m) ∷ ts) us a x h e z =
    absurd (not_eqb m n (and-true (not (eqb m n)) _ h).0 (ap (λ (y : Refusal). y.number) (refused-inj e) ∙ z))

-- a run with none left out
abbrev pub whole : List Record → List ℕ → Taken
whole rs rest = record { records = rs; left_out = 0; rest = rest }

module _ (L : Layout) where
  -- the strict checks pass exactly where the tolerant ones do and the checksum holds
  pub checks-iff : (s : List ℕ) → Passed (anc_checks L s) ↔ (Passed (tolerant_checks L s) × (checksum_ok L s ≡ true))
  checks-iff s =
      let a = sound-passed L s in
      let b = passed-sound L s in
      (λ p. let q = a.0 p in (b.1 q.0, q.1), λ p. a.1 (b.0 p.0, p.1))

  -- a packet that is refused by another number than 11 is refused by it in the tolerant way
  pub anc-agrees : {A : Type 0} (i : ℕ) (s : List ℕ) (y : Result A) (x : Refusal) → read_anc L i s ≡ Err x → (x.number ≡ 11 → ⊥)
      → judge i (tolerant_checks L s) y ≡ Err x
  unfolding read_anc anc_checks tolerant_checks
  anc-agrees i s y x e h = refuses-without i 11 (checksum_ok L s) (take 5 (anc_checks L s)) (drop 6 (anc_checks L s)) (anc_record L s) y x e h

  -- and one that is refused by 11 passes those before 12, and its checksum fails
  pub anc-11 : (i : ℕ) (s : List ℕ) (x : Refusal) → read_anc L i s ≡ Err x → x.number ≡ 11 → Passed (take 5 (tolerant_checks L s)) × (checksum_ok L s ≡ false)
  unfolding read_anc anc_checks tolerant_checks
  anc-11 i s x e h = refuses-at i 11 (checksum_ok L s) (take 5 (anc_checks L s)) (drop 6 (anc_checks L s)) (anc_record L s) x refl e h

  -- a packet that is accepted passes the tolerant checks, and its checksum holds
  pub anc-passes : (i : ℕ) (s : List ℕ) (r : Record) → read_anc L i s ≡ Ok r → Passed (tolerant_checks L s) × (checksum_ok L s ≡ true) × (anc_record L s ≡ r)
  unfolding read_anc
  anc-passes i s r e =
      let a = judge-accepts i (anc_checks L s) (Ok (anc_record L s)) r e in
      let c = (checks-iff s).0 a.0 in
      (c.0, c.1, accepted-inj a.1)

  pub anc-accepts : (i : ℕ) (s : List ℕ) → Passed (tolerant_checks L s) → checksum_ok L s ≡ true → read_anc L i s ≡ Ok (anc_record L s)
  unfolding read_anc
  anc-accepts i s p c = judge-passes i (anc_checks L s) (Ok (anc_record L s)) ((checks-iff s).1 (p, c))

  -- A RUN that is refused by another number than 11 is refused by it in the tolerant way, with the same index
  pub run-agrees : (i n : ℕ) (s : List ℕ) (x : Refusal) → read_run L i n s ≡ Err x → (x.number ≡ 11 → ⊥) → tolerate_run L i n s ≡ Err x
  unfolding read_run tolerate_run
  run-agrees i zero s x e h = absurd (Ok≢Err e)
  run-agrees i (suc n) s x e h = go (read_anc L i s) refl (read_run L (i + 1) n (behind L s)) refl e (λ f. run-agrees (i + 1) n (behind L s) x f h)
    where
      go : (v : Result Record) → read_anc L i s ≡ v → (w : Result (List Record × List ℕ)) → read_run L (i + 1) n (behind L s) ≡ w
          → ◌≡◌ {A = Result (List Record × List ℕ)} (v then λ r. w then λ q. Ok (r ∷ q.0, q.1)) (Err x)
          → (read_run L (i + 1) n (behind L s) ≡ Err x → tolerate_run L (i + 1) n (behind L s) ≡ Err x)
          → judge i (tolerant_checks L s) (tolerate_run L (i + 1) n (behind L s) then λ q. Ok (through (checksum_ok L s) (anc_record L s) q)) ≡ Err x
      go (Err y) a w b e ih = anc-agrees i s _ x (a ∙ ap Err (refused-inj e)) h
      go (Ok r) a (Err y) b e ih =
          judge-passes i (tolerant_checks L s) _ (anc-passes i s r a).0
          ∙ ap (λ v. v then λ q. Ok (through (checksum_ok L s) (anc_record L s) q)) (ih (b ∙ ap Err (refused-inj e)))
      go (Ok r) a (Ok q) b e ih = absurd (Ok≢Err e)

  -- and 11 is never given
  pub run-never-11 : (i n : ℕ) (s : List ℕ) → Numbered is_not11 (tolerate_run L i n s)
  unfolding tolerate_run tolerant_checks
  run-never-11 i zero s = tt
  run-never-11 i (suc n) s =
      judge-numbered is_not11 i (tolerant_checks L s) _ refl (then-numbered is_not11 (tolerate_run L (i + 1) n (behind L s)) _ (run-never-11 (i + 1) n (behind L s)) (λ q. tt))

  -- a run of which none was left out
  pub run_none : (i n : ℕ) (s : List ℕ) (rs : List Record) (rest : List ℕ)
      → (tolerate_run L i n s ≡ Ok (whole rs rest)) ↔ (read_run L i n s ≡ Ok (rs, rest))
  unfolding tolerate_run read_run
  run_none i zero s rs rest = (
    λ e. let q = accepted-inj e in ap Ok (λ j. ((q j).records, (q j).rest)),
    λ e. let q = accepted-inj e in ap Ok (λ j. whole (q j).0 (q j).1),
  )
  run_none i (suc n) s rs rest = (
    λ e.
        let a = judge-accepts i (tolerant_checks L s) _ _ e in
        let b = then-accepts (tolerate_run L (i + 1) n (behind L s)) _ _ a.1 in
        forward (checksum_ok L s) refl a.0 b.0 b.1 (accepted-inj b.2) (run_none (i + 1) n (behind L s) b.0.records b.0.rest).0,
    λ e.
        let a = then-accepts (read_anc L i s) _ _ e in
        let c = anc-passes i s a.0 a.1 in
        let b = then-accepts (read_run L (i + 1) n (behind L s)) _ _ a.2 in
        let h = (run_none (i + 1) n (behind L s) b.0.0 b.0.1).1 b.1 in
        let q = accepted-inj b.2 in
        judge-passes i (tolerant_checks L s) _ c.0
        ∙ rw (h, c.1) (ap Ok (λ j. whole (c.2 j ∷ b.0.0) b.0.1) ∙ ap Ok (λ j. whole (q j).0 (q j).1)),
  )
    where
      forward : (t : Bool) → checksum_ok L s ≡ t → Passed (tolerant_checks L s) → (q : Taken) → tolerate_run L (i + 1) n (behind L s) ≡ Ok q
          → through t (anc_record L s) q ≡ whole rs rest
          → (tolerate_run L (i + 1) n (behind L s) ≡ Ok (whole q.records q.rest) → read_run L (i + 1) n (behind L s) ≡ Ok (q.records, q.rest))
          → ◌≡◌ {A = Result (List Record × List ℕ)} (read_anc L i s then λ r. read_run L (i + 1) n (behind L s) then λ q. Ok (r ∷ q.0, q.1)) (Ok (rs, rest))
      forward false c p q h e ih = let z : suc q.left_out ≡ 0 = ap (λ (x : Taken). x.left_out) e in absurd (omega arith)
      forward true c p q h e ih =
          let z : q.left_out ≡ 0 = ap (λ (x : Taken). x.left_out) e in
          let m = ih (h ∙ ap Ok (λ j. record { records = q.records; left_out = z j; rest = q.rest })) in
          rw (anc-accepts i s p c, m) (ap Ok (λ j. ((e j).records, (e j).rest)))
