-- ENCODERS THAT RESTART (02, K11), by the answers that were given before: over any arrivals at a depacketizer just opened.
use Rattle.std.specs.Prelude.{◌≡◌, List, [], ◌∷◌, ◌⊎◌, ℕ, ◌+◌, ◌^◌, ◌%◌}
use Rattle.wire_spec.specs.declared.refusal.Refusal.{Refusal}
use Rattle.wire_spec.specs.Layout.{Layout}
use Rattle.wire_spec.specs.Result.{Ok}
use Rattle.wire_spec.specs.Packet.{Content, read_content}
use Rattle.depacketizer_spec.specs.declared.state.State.{State}
use Rattle.depacketizer_spec.specs.declared.state.Answer.TheVariants as answer
use Rattle.depacketizer_spec.specs.Step.{Step, step, open_state}
use Rattle.depacketizer_spec.specs.Table.{Counts, Drops, Fars}

-- An arrival: any octets, told any layout, with any store.
pub record Given : Type 0 where
  pub layout : Layout
  pub octets : List ℕ
  pub store : List ℕ

-- its step, in a state
abbrev pub step_of : State → Given → Step
step_of st c = step st c.layout c.octets c.store

-- the state after arrivals, the latest first, at a depacketizer just opened
abbrev pub state_after : (source type : ℕ) → List Given → State
state_after s t [] = open_state s t
state_after s t (c ∷ cs) = (step_of (state_after s t cs) c).state

-- "A far arrival is refused, and the number after it is remembered. .. Any fresh arrival clears the memory": of the arrivals from the last one refused
-- by 36 on all were refused, and `n` is the number after that one's
abbrev pub Waits : (source type : ℕ) → List Given → ℕ → Type 0
Waits s t [] n = ⊥
Waits s t (c ∷ cs) n =
    (r : Refusal) × ((step_of (state_after s t cs) c).answer ≡ answer.Refused r)
    × (((r.number ≡ 36) × (k : Content) × (read_content c.layout c.octets ≡ Ok k) × (n ≡ (k.number + 1) % 2 ^ 32))
    ⊎ ((r.number ≡ 36 → ⊥) × Waits s t cs n))

-- "If a far arrival has the remembered number, the keeper restarts: counts return to zero, and it is treated as a first arrival." Any other is refused.
pub record RestartsIf (waits : Type 0) (st : State) (k : Content) (lent : List ℕ) (x : Step) : Type 0 where
  pub restarts : waits → Counts st k.number 1 0 0 x.state × Drops answer.Skipped k lent x
  pub refuses : (waits → ⊥) → Fars st k.number lent x
