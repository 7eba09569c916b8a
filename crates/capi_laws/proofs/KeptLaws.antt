-- What a refused arrival leaves of the rows.
-- By the library's law of a refused step, and because the numbers of the state in a row are the row's own.
use Rattle.std.specs.Prelude.{Some, None}
use mathlib.Core.Path.{◌≡◌, refl, ap, ◌∙◌}
use mathlib.Core.Bool.{Bool, true, false, cond}
use mathlib.Core.List.{List}
use Prim.Native.Nat.{ℕ, ◌+◌, ◌-◌, ◌^◌, ◌%◌, ◌≤◌, min}
use native.Mathlib.Omega.{arith}
use lib.ListN.{length, get_or, set}
use Rattle.wire_spec.specs.Bits.{overwrite}
use Rattle.wire_spec.specs.Result.{Ok}
use Rattle.wire_spec.specs.Packet.{Content, read_content}
use Rattle.depacketizer_spec.specs.declared.state.Answer.{Answer}
use Rattle.depacketizer_spec.specs.declared.state.Answer.TheVariants as answer
use Rattle.depacketizer_spec.specs.Step.{Step, step}
use Rattle.depacketizer_spec.proofs.StepLaws.{refused-keeps, passed}
use Rattle.capi_answer.specs.Rows.{is_layout, layout_of, layout_reply, row_reply}
use Rattle.capi_depacketizer.specs.Calls.{Arrived, arrive, arrived_at, no_arrival, rows_fit}
use Rattle.capi_depacketizer.specs.Rows.{arrival_reply}
use Rattle.capi_state.specs.State.{state_size, is_state, numbers_of, state_at, state_in}
use Rattle.capi_state.proofs.StateLaws.{row-again}
use Rattle.capi_depacketizer.proofs.RowLaws.{rows_long}
use Rattle.capi_depacketizer.proofs.KeptLaws.{refused-keeps-row}
use Rattle.capi_laws.specs.Kept.{Keeps}

module _ (layout : ℕ) (state octets store given : List ℕ) where
  abbrev next : Step
  next = step (state_at state) (layout_of layout) octets store

  -- what 32 and 36 leave
  abbrev Moves : Arrived → Type 0
  Moves a =
      (a.reply.number ≡ 32 → (overwrite a.numbers state ≡ set state 10 (min (get_or state 10 0 + 1) (2 ^ 64 - 1))) × (a.store ≡ store))
      × (a.reply.number ≡ 36
      → (k : Content) × (read_content (layout_of layout) octets ≡ Ok k) × (overwrite a.numbers state ≡ set (set state 12 1) 13 ((k.number + 1) % 2 ^ 32)) × (a.store ≡ store))

  refused-moves : is_state state ≡ true → state_size ≤ length state → (x : Answer) → next.answer ≡ x
      → ((arrival_reply x).number ≡ 32 → (overwrite (numbers_of next.state) state ≡ set state 10 (min (get_or state 10 0 + 1) (2 ^ 64 - 1))) × (next.store ≡ store))
      × ((arrival_reply x).number ≡ 36
      → (k : Content) × (read_content (layout_of layout) octets ≡ Ok k) × (overwrite (numbers_of next.state) state ≡ set (set state 12 1) 13 ((k.number + 1) % 2 ^ 32)) × (next.store ≡ store))
  refused-moves is long (answer.Refused x) e =
      let r = refused-keeps (state_at state) (layout_of layout) octets store x e in
      let row = row-again state is long in (
        λ n. (
          ap (λ (z : Step). overwrite (numbers_of z.state) state) (r.late n)
              ∙ ap (λ (l : List ℕ). set l 10 (min (get_or state 10 0 + 1) (2 ^ 64 - 1))) row,
          ap (λ (z : Step). z.store) (r.late n),
        ),
        λ n.
            let f = r.far n in (
              f.0,
              (passed (state_at state) (layout_of layout) (length store) octets f.0 f.1).1,
              ap (λ (z : Step). overwrite (numbers_of z.state) state) f.2
                  ∙ ap (λ (l : List ℕ). set (set l 12 1) 13 ((f.0.number + 1) % 2 ^ 32)) row,
              ap (λ (z : Step). z.store) f.2,
            ),
      )
  refused-moves is long answer.Skipped e = (λ n. absurd (omega arith), λ n. absurd (omega arith))
  refused-moves is long answer.Held e = (λ n. absurd (omega arith), λ n. absurd (omega arith))
  refused-moves is long answer.Mixed e = (λ n. absurd (omega arith), λ n. absurd (omega arith))
  refused-moves is long answer.Overfull e = (λ n. absurd (omega arith), λ n. absurd (omega arith))
  refused-moves is long (answer.Whole x) e = (λ n. absurd (omega arith), λ n. absurd (omega arith))

  state-moves : (b : Bool) → is_state state ≡ b → state_size ≤ length state
      → Moves (arrived_at (layout_of layout) (cond b (Some (state_at state)) None) octets store)
  state-moves true is long = refused-moves is long next.answer refl
  state-moves false is long = (λ n. absurd (omega arith), λ n. absurd (omega arith))

  layout-moves : (b : Bool) → state_size ≤ length state
      → Moves (cond b (arrived_at (layout_of layout) (state_in state) octets store) (no_arrival layout_reply store))
  layout-moves true long = state-moves (is_state state) refl long
  layout-moves false long = (λ n. absurd (omega arith), λ n. absurd (omega arith))

  rows-move : (b : Bool) → rows_fit (length state) (length given) ≡ b
      → Moves (cond b (cond (is_layout layout) (arrived_at (layout_of layout) (state_in state) octets store) (no_arrival layout_reply store)) (no_arrival row_reply store))
  rows-move true fit = layout-moves (is_layout layout) (rows_long (length state) (length given) fit).0
  rows-move false fit = (λ n. absurd (omega arith), λ n. absurd (omega arith))

  pub refused-row : Keeps (layout_of layout) state octets store (arrive layout state octets store given)
  refused-row =
      let m = rows-move (rows_fit (length state) (length given)) refl in
      record { late = m.0; far = m.1; other = refused-keeps-row layout state octets store given }
