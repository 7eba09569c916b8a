-- What a writer takes of a list, whatever its own checks are: the first check that fails decides, and what passes all is written.
-- By the order of the checks in `records_to_write`.
use mathlib.Core.Path.{◌≡◌, ◌∙◌, subst}
use mathlib.Core.Bool.{true, false}
use mathlib.Core.List.{List}
use Prim.Native.Nat.{ℕ}
use lib.ListN.{take, get_or}
use Rattle.wire_spec.specs.declared.refusal.Refusal.{Refusal}
use Rattle.wire_spec.specs.Result.{Err, Ok, refuse, Checks}
use Rattle.wire_spec.specs.Anc.{Record}
use Rattle.wire_spec.specs.Cells.{read_list}
use Rattle.wire_spec.specs.Writing.{records_to_write}
use Rattle.wire_spec.proofs.ResultLaws.{Passed, accepted-inj, judge-accepts, judge-passes, judge-fails, then-accepts}

module _ (head : Checks) (limits : List Record → Checks) (cells : List ℕ) where
  -- a check before the list
  pub head-fails : (k : ℕ) → Passed (take k head) → (get_or head k (true, 0)).0 ≡ false → records_to_write head limits cells ≡ refuse (get_or head k (true, 0)).1 0
  head-fails k p e = judge-fails 0 k head _ p e

  module _ (ok : Passed head) where
    -- 20
    pub list-fails : (x : Refusal) → read_list cells ≡ Err x → records_to_write head limits cells ≡ Err x
    list-fails x e = judge-passes 0 head _ ok ∙ rw e

    module _ (rs : List Record) (reads : read_list cells ≡ Ok rs) where
      -- a limit
      pub limit-fails : (k : ℕ) → Passed (take k (limits rs)) → (get_or (limits rs) k (true, 0)).0 ≡ false
          → records_to_write head limits cells ≡ refuse (get_or (limits rs) k (true, 0)).1 0
      limit-fails k p e = judge-passes 0 head _ ok ∙ rw reads (judge-fails 0 k (limits rs) _ p e)

      pub all_pass : Passed (limits rs) → records_to_write head limits cells ≡ Ok rs
      all_pass p = judge-passes 0 head _ ok ∙ rw reads (judge-passes 0 (limits rs) _ p)

  -- what is written has passed all of them
  pub record Passes (rs : List Record) : Type 0 where
    pub head_passed : Passed head
    pub reads : read_list cells ≡ Ok rs
    pub limits-passed : Passed (limits rs)

  pub passes : (rs : List Record) → records_to_write head limits cells ≡ Ok rs → Passes rs
  passes rs e =
      let h = judge-accepts 0 head _ rs e in
      let r = then-accepts (read_list cells) _ rs h.1 in
      let l = judge-accepts 0 (limits r.0) (Ok r.0) rs r.2 in
      subst Passes (accepted-inj l.1) record { head_passed = h.0; reads = r.1; limits-passed = l.0 }
