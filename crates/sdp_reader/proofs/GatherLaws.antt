-- Items gathered one by one: the item at the front of what is left, and the items behind it.
-- By what the item at the front adds.
use mathlib.Core.Path.{◌≡◌, ap, sym, ◌∙◌}
use mathlib.Core.Bool.{true}
use mathlib.Core.List.{List, ◌∷◌}
use Prim.Native.Nat.{ℕ, ◌+◌, ◌-◌, ◌<◌, ◌≤◌}
use native.Mathlib.Omega.{arith}
use lib.ListN.{length, take, drop}
use Rattle.wire_spec.specs.declared.refusal.Refusal.{Refusal}
use Rattle.wire_spec.specs.Bits.{bit}
use Rattle.wire_spec.specs.Result.{Result, Err, Ok, ◌then◌}
use Rattle.wire_spec.proofs.ListLaws.{part-all}
use Rattle.sdp_spec.specs.declared.parameters.Parameters.{Parameters}
use Rattle.sdp_spec.specs.Reading.{next, add, gather}
use Rattle.sdp_spec.proofs.CutLaws.{left, left-next, next-shorter}
use Rattle.sdp_reader.specs.declared.Step.{Step}
use Rattle.sdp_reader.specs.Answers.{Stepped}

-- the item at the front of what is left
module _ (s : List ℕ) (r : Step) (step : Stepped s r) where
  -- the text behind it, as the code takes it
  abbrev pub Behind : List ℕ
  Behind = take (length s - r.used) (drop r.used s)

  pub behind-is : Behind ≡ next s
  behind-is = part-all r.used s ∙ step.rest

  pub behind-shorter : length Behind + bit r.more ≤ length s
  behind-shorter = rw (behind-is, step.more) (next-shorter s)

  pub left_step : left true s ≡ r.item ∷ left r.more Behind
  left_step = left-next s ∙ sym (rw (behind-is, step.more, step.item))

  module _ (i : ℕ) (p : Parameters) where
    gather-step : gather i p (left true s) ≡ (add i p r.item then λ q. gather (i + 1) q (left r.more Behind))
    unfolding gather
    gather-step = ap (gather i p) left_step

    -- it offends: the items are refused
    pub gather-refused : (x : Refusal) → add i p r.item ≡ Err x → gather i p (left true s) ≡ Err x
    gather-refused x e = gather-step ∙ ap (λ (v : Result Parameters). v then λ q. gather (i + 1) q (left r.more Behind)) e

    -- it does not: the items behind it are gathered
    pub gather-accepted : (q : Parameters) → add i p r.item ≡ Ok q
        → gather (i + 1) q (left r.more Behind) ≡ gather i p (left true s)
    gather-accepted q e =
        sym (gather-step ∙ ap (λ (v : Result Parameters). v then λ q. gather (i + 1) q (left r.more Behind)) e)

-- what is left gets shorter, and the index stays within the text
pub left_less : (a n b : ℕ) → a ≤ n → b ≡ 1 → a < n + b
left_less a n b h e = omega arith

pub index-next : (i a n b l : ℕ) → a ≤ n → b ≡ 1 → i + (n + b) ≤ l → i + 1 + a ≤ l
index-next i a n b l h e k = omega arith
