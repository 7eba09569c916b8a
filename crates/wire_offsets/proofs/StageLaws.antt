-- What a stage tells: its checks hold and it found what it should, or the first that fails gives the refusal, whatever would follow.
-- By the checks in their order.
use mathlib.Core.Path.{◌≡◌, refl, ap, ◌∙◌}
use mathlib.Core.Bool.{Bool, true, false, cond}
use mathlib.Core.List.{[], ◌∷◌}
use Prim.Native.Nat.{ℕ}
use native.Mathlib.Omega.{arith}
use Rattle.wire_spec.specs.declared.refusal.Refusal.{Refusal}
use Rattle.wire_spec.specs.declared.count.OctetCount.{OctetCount}
use Rattle.wire_spec.specs.Result.{Result, Err, Ok, refuse, Checks, judge}
use Rattle.wire_spec.proofs.ResultLaws.{Passed, judge-accepts, accepted-inj}
use Rattle.wire_offsets.specs.Stage.{stage_of}

-- a stage that passed: its checks hold, and it found what it should
pub stage-passed : (ts : Checks) (v : ℕ) (n : OctetCount) → stage_of (judge 0 ts (Ok v)) ≡ Ok n → Passed ts × (v ≡ n.0)
stage-passed ts v n h = go (judge 0 ts (Ok v)) refl h
  where
    go : (r : Result ℕ) → judge 0 ts (Ok v) ≡ r → stage_of r ≡ Ok n → Passed ts × (v ≡ n.0)
    go (Err x) e h = let z : ◌≡◌ {A = ℕ} 0 1 = cc in absurd (omega arith)
    go (Ok m) e h =
        let p = judge-accepts 0 ts (Ok v) m e in
        let k : record { 0 = m } ≡ n = cc in
        (p.0, accepted-inj p.1 ∙ ap (λ (y : OctetCount). y.0) k)

-- a stage that refused decides, whatever would follow
pub stage-refused : {A : Type 0} (ts : Checks) (v : ℕ) (x : Refusal) (r : Result A) → stage_of (judge 0 ts (Ok v)) ≡ Err x → judge 0 ts r ≡ Err x
stage-refused [] v x r h = let z : ◌≡◌ {A = ℕ} 0 1 = cc in absurd (omega arith)
stage-refused (t ∷ ts) v x r h = go t.0 (stage-refused ts v x r) h
  where
    go : (b : Bool) → (stage_of (judge 0 ts (Ok v)) ≡ Err x → judge 0 ts r ≡ Err x)
        → stage_of (cond b (judge 0 ts (Ok v)) (refuse t.1 0)) ≡ Err x → cond b (judge 0 ts r) (refuse t.1 0) ≡ Err x
    go true ih h = ih h
    go false ih h = let e : record { number = t.1; index = 0 } ≡ x = cc in ap Err e
