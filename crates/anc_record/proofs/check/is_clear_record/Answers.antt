-- `is_clear_record` tells whether a record without a protected word stands at the front of the cells.
-- Its words tell it where they are there, and clear words fit.
use mathlib.Core.Path.{◌≡◌, ap, sym, ◌∙◌}
use mathlib.Core.Bool.{true}
use Prim.Native.Nat.{◌+◌, ◌<◌, ◌≤◌}
use native.Mathlib.Omega.{arith}
use lib.ListN.{length}
use Rattle.wire_spec.specs.Words.{header_numbers, all_clear}
use Rattle.wire_spec.specs.Cells.{head_cells, cell_count}
use Rattle.anc_record.specs.Answers.{has_words, is_clear_front}
use Rattle.anc_record.proofs.FrontLaws.{no_words, whole-count, whole-inside, words_are, clear-is}
use Rattle.anc_record.proofs.check.is_clear_record.Goals as goal

pub returns-then-not-has_words : goal.returns-then-not-has_words
returns-then-not-has_words c = ap is_clear_front (sym (no_words _ (sym c.has_words.ensures ∙ c.if-not-has_words.true)))

pub bounds-cells-7 : goal.bounds-cells-7
bounds-cells-7 c = let whole : has_words c.args.cells.now ≡ true = sym c.has_words.ensures ∙ c.if-not-has_words.false in
    let lies_in : let l = c.args.cells.now in (head_cells + cell_count l ≤ length l) × (cell_count l < header_numbers) = let l = c.args.cells.now in (whole-inside l (whole), whole-count l (whole)) in
    omega (arith, lies_in)

pub overflow_cast-end : goal.overflow_cast-end
overflow_cast-end c = let whole : has_words c.args.cells.now ≡ true = sym c.has_words.ensures ∙ c.if-not-has_words.false in
    let lies_in : let l = c.args.cells.now in (head_cells + cell_count l ≤ length l) × (cell_count l < header_numbers) = let l = c.args.cells.now in (whole-inside l (whole), whole-count l (whole)) in
    omega (arith, lies_in)

pub overflow_add-end : goal.overflow_add-end
overflow_add-end c = let whole : has_words c.args.cells.now ≡ true = sym c.has_words.ensures ∙ c.if-not-has_words.false in
    let lies_in : let l = c.args.cells.now in (head_cells + cell_count l ≤ length l) × (cell_count l < header_numbers) = let l = c.args.cells.now in (whole-inside l (whole), whole-count l (whole)) in
    omega (arith, lies_in)

pub slice_bounds-words_clear-end : goal.slice_bounds-words_clear-end
slice_bounds-words_clear-end c = let whole : has_words c.args.cells.now ≡ true = sym c.has_words.ensures ∙ c.if-not-has_words.false in
    let lies_in : let l = c.args.cells.now in (head_cells + cell_count l ≤ length l) × (cell_count l < header_numbers) = let l = c.args.cells.now in (whole-inside l (whole), whole-count l (whole)) in
    omega (arith, lies_in)

pub returns : goal.returns
returns c = let whole : has_words c.args.cells.now ≡ true = sym c.has_words.ensures ∙ c.if-not-has_words.false in
    let l = c.args.cells.now in
    c.words_clear.ensures ∙ ap all_clear (words_are l) ∙ sym (clear-is l (whole))
