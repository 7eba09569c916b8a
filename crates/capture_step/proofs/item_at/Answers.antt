-- `item_at` is the item at the front.
-- By where the reading stands.
use mathlib.Core.Path.{◌≡◌, ap, sym, subst, ◌∙◌}
use mathlib.Core.List.{List}
use Prim.Native.Nat.{ℕ}
use lib.ListN.{length}
use Rattle.capture_spec.specs.declared.state.Container.{Container}
use Rattle.capture_spec.specs.Items.{Read}
use Rattle.capture_spec.specs.declared.state.State.{State}
use Rattle.capture_spec.specs.Step.{Fits, step_in, step_of}
use Rattle.capture_spec.proofs.StepLaws.{step_fits}
use Rattle.capture_step.proofs.item_at.Goals as goal

item : (st : State) (s : List ℕ) (k : Container) (x : Read) → st.container ≡ k → x ≡ step_in k st s → (x ≡ step_of st s) × Fits x (length s)
unfolding step_of
item st s k x e f =
    let h : x ≡ step_in st.container st s = f ∙ ap (λ (z : Container). step_in z st s) (sym e) in
    (h, subst (λ (z : Read). Fits z (length s)) (sym h) (step_fits st s))

pub returns-in-Unknown : goal.returns-in-Unknown
returns-in-Unknown c = let a = c.args in let both = item a.state a.octets.now _ _ c.in-Unknown.is c.start_item.ensures in record { value = both.0; fits = both.1 }

pub returns-in-Classic : goal.returns-in-Classic
returns-in-Classic c = let a = c.args in let both = item a.state a.octets.now _ _ c.in-Classic.is c.record_item.ensures in record { value = both.0; fits = both.1 }

pub returns-in-Section : goal.returns-in-Section
returns-in-Section c = let a = c.args in let both = item a.state a.octets.now _ _ c.in-Section.is c.block_item.ensures in record { value = both.0; fits = both.1 }
