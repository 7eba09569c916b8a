-- `check_record` answers what the record at the front of the cells is.
-- Each return knows the checks so far, which are those of the definition, and each refusal is the same answer.
use mathlib.Core.Path.{◌≡◌, ap, sym, ◌∙◌}
use mathlib.Core.Bool.{true, false}
use Prim.Native.Nat.{◌+◌, ◌^◌, ◌<◌, ◌≤◌}
use native.Mathlib.Omega.{arith}
use lib.ListN.{length}
use Rattle.wire_spec.specs.Words.{word_bits, header_numbers, all_clear}
use Rattle.wire_spec.specs.Cells.{head_cells, cell_count, all_below}
use Rattle.anc_record.specs.Answers.{has_words}
use Rattle.anc_record.proofs.FrontLaws.{word_cells, no_words, whole-count, whole-inside, words_are, words-large, words-fit, words-clear}
use Rattle.anc_record.proofs.check.check_record.Goals as goal

pub returns-then-not-has_words : goal.returns-then-not-has_words
returns-then-not-has_words c = sym (no_words _ (sym c.has_words.ensures ∙ c.if-not-has_words.true))

pub bounds-cells-7 : goal.bounds-cells-7
bounds-cells-7 c = let whole : has_words c.args.cells.now ≡ true = sym c.has_words.ensures ∙ c.if-not-has_words.false in
    let lies_in : let l = c.args.cells.now in (head_cells + cell_count l ≤ length l) × (cell_count l < header_numbers) = let l = c.args.cells.now in (whole-inside l (whole), whole-count l (whole)) in
    omega (arith, lies_in)

pub overflow_cast-n : goal.overflow_cast-n
overflow_cast-n c = let whole : has_words c.args.cells.now ≡ true = sym c.has_words.ensures ∙ c.if-not-has_words.false in
    let lies_in : let l = c.args.cells.now in (head_cells + cell_count l ≤ length l) × (cell_count l < header_numbers) = let l = c.args.cells.now in (whole-inside l (whole), whole-count l (whole)) in
    omega (arith, lies_in)

pub overflow_add-end : goal.overflow_add-end
overflow_add-end c = let whole : has_words c.args.cells.now ≡ true = sym c.has_words.ensures ∙ c.if-not-has_words.false in
    let lies_in : let l = c.args.cells.now in (head_cells + cell_count l ≤ length l) × (cell_count l < header_numbers) = let l = c.args.cells.now in (whole-inside l (whole), whole-count l (whole)) in
    omega (arith, lies_in)

pub overflow_cast-words : goal.overflow_cast-words
overflow_cast-words c = let whole : has_words c.args.cells.now ≡ true = sym c.has_words.ensures ∙ c.if-not-has_words.false in
    let lies_in : let l = c.args.cells.now in (head_cells + cell_count l ≤ length l) × (cell_count l < header_numbers) = let l = c.args.cells.now in (whole-inside l (whole), whole-count l (whole)) in
    omega (arith, lies_in)

pub slice_bounds-words_clear-end : goal.slice_bounds-words_clear-end
slice_bounds-words_clear-end c = let whole : has_words c.args.cells.now ≡ true = sym c.has_words.ensures ∙ c.if-not-has_words.false in
    let lies_in : let l = c.args.cells.now in (head_cells + cell_count l ≤ length l) × (cell_count l < header_numbers) = let l = c.args.cells.now in (whole-inside l (whole), whole-count l (whole)) in
    omega (arith, lies_in)

pub slice_bounds-words_in_range-end : goal.slice_bounds-words_in_range-end
slice_bounds-words_in_range-end c = let whole : has_words c.args.cells.now ≡ true = sym c.has_words.ensures ∙ c.if-not-has_words.false in
    let lies_in : let l = c.args.cells.now in (head_cells + cell_count l ≤ length l) × (cell_count l < header_numbers) = let l = c.args.cells.now in (whole-inside l (whole), whole-count l (whole)) in
    omega (arith, lies_in)

pub returns-then-words_clear : goal.returns-then-words_clear
returns-then-words_clear c = let whole : has_words c.args.cells.now ≡ true = sym c.has_words.ensures ∙ c.if-not-has_words.false in
    let l = c.args.cells.now in
    words-clear l (whole) (sym (ap all_clear (words_are l)) ∙ sym c.words_clear.ensures ∙ c.if-words_clear.true)

pub returns-then-words_in_range : goal.returns-then-words_in_range
returns-then-words_in_range c = let whole : has_words c.args.cells.now ≡ true = sym c.has_words.ensures ∙ c.if-not-has_words.false in
    let fits : all_below (2 ^ word_bits) (word_cells c.args.cells.now) ≡ c.words_in_range.result = let l = c.args.cells.now in
    sym (ap (all_below (2 ^ word_bits)) (words_are l)) ∙ sym c.words_in_range.ensures in
    let l = c.args.cells.now in
    let clear = sym (ap all_clear (words_are l)) ∙ sym c.words_clear.ensures ∙ c.if-words_clear.false in
    words-fit l (whole) false (fits ∙ c.if-words_in_range.true) clear

pub returns : goal.returns
returns c = let whole : has_words c.args.cells.now ≡ true = sym c.has_words.ensures ∙ c.if-not-has_words.false in
    let fits : all_below (2 ^ word_bits) (word_cells c.args.cells.now) ≡ c.words_in_range.result = let l = c.args.cells.now in
    sym (ap (all_below (2 ^ word_bits)) (words_are l)) ∙ sym c.words_in_range.ensures in
    let l = c.args.cells.now in
    sym (words-large l (whole) (fits ∙ c.if-words_in_range.false))
