-- A refused arrival leaves the state's row and the store as they were, but for the late count (32) and the remembered number (36).
-- By the library's law of a refused step, and because the numbers of the state in a row are the row's own.
use Rattle.std.specs.Prelude.{Some, None}
use mathlib.Core.Path.{◌≡◌, refl, ap, ◌∙◌}
use mathlib.Core.Bool.{Bool, true, false, cond}
use mathlib.Core.List.{List}
use Prim.Native.Nat.{ℕ, ◌≤◌}
use lib.ListN.{length}
use Rattle.wire_spec.specs.Bits.{overwrite}
use Rattle.depacketizer_spec.specs.declared.state.Answer.{Answer}
use Rattle.depacketizer_spec.specs.declared.state.Answer.TheVariants as answer
use Rattle.depacketizer_spec.specs.Step.{Step, step}
use Rattle.depacketizer_spec.proofs.StepLaws.{refused-keeps}
use Rattle.capi_answer.specs.Rows.{is_layout, layout_of, layout_reply, row_reply}
use Rattle.capi_depacketizer.specs.Calls.{Arrived, arrive, arrived_at, no_arrival, rows_fit}
use Rattle.capi_depacketizer.specs.Rows.{arrival_reply}
use Rattle.capi_state.specs.State.{state_size}
use Rattle.capi_state.specs.State.{is_state, numbers_of, state_at, state_in}
use Rattle.capi_depacketizer.proofs.RowLaws.{rows_long}
use Rattle.capi_state.proofs.StateLaws.{row-again}

module _ (layout : ℕ) (state octets store given : List ℕ) where
  -- what an arrival that is refused by a number other than 32 and 36 leaves alone
  abbrev Keeps : Arrived → Type 0
  Keeps a =
      (a.reply.number ≡ 0 → ⊥) → (a.reply.number ≡ 32 → ⊥) → (a.reply.number ≡ 36 → ⊥)
      → (overwrite a.numbers state ≡ state) × (a.store ≡ store)

  abbrev next : Step
  next = step (state_at state) (layout_of layout) octets store

  answer_keeps : is_state state ≡ true → state_size ≤ length state → (x : Answer) → next.answer ≡ x
      → ((arrival_reply x).number ≡ 0 → ⊥) → ((arrival_reply x).number ≡ 32 → ⊥) → ((arrival_reply x).number ≡ 36 → ⊥)
      → (overwrite (numbers_of next.state) state ≡ state) × (next.store ≡ store)
  answer_keeps is long (answer.Refused x) e accepted late far =
      let k = (refused-keeps (state_at state) (layout_of layout) octets store x e).other late far in
      (ap (λ (z : Step). overwrite (numbers_of z.state) state) k ∙ row-again state is long, ap (λ (z : Step). z.store) k)
  answer_keeps is long answer.Skipped e accepted late far = absurd (accepted refl)
  answer_keeps is long answer.Held e accepted late far = absurd (accepted refl)
  answer_keeps is long answer.Mixed e accepted late far = absurd (accepted refl)
  answer_keeps is long answer.Overfull e accepted late far = absurd (accepted refl)
  answer_keeps is long (answer.Whole x) e accepted late far = absurd (accepted refl)

  state-keeps : (b : Bool) → is_state state ≡ b → state_size ≤ length state
      → Keeps (arrived_at (layout_of layout) (cond b (Some (state_at state)) None) octets store)
  state-keeps true is long = answer_keeps is long next.answer refl
  state-keeps false is long = λ accepted late far. (refl, refl)

  layout-keeps : (b : Bool) → state_size ≤ length state
      → Keeps (cond b (arrived_at (layout_of layout) (state_in state) octets store) (no_arrival layout_reply store))
  layout-keeps true long = state-keeps (is_state state) refl long
  layout-keeps false long = λ accepted late far. (refl, refl)

  rows-keep : (b : Bool) → rows_fit (length state) (length given) ≡ b
      → Keeps (cond b (cond (is_layout layout) (arrived_at (layout_of layout) (state_in state) octets store) (no_arrival layout_reply store)) (no_arrival row_reply store))
  rows-keep true fit = layout-keeps (is_layout layout) (rows_long (length state) (length given) fit).0
  rows-keep false fit = λ accepted late far. (refl, refl)

  -- "Lent memory is unchanged, and so is the keeper's state, but 32 adds one to the late count", and 36 changes the remembered number.
  pub refused-keeps-row : Keeps (arrive layout state octets store given)
  refused-keeps-row = rows-keep (rows_fit (length state) (length given)) refl
