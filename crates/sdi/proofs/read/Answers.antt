-- `read` lists the records of a line at the caller's position, or leaves the cells alone.
-- Each return knows the checks before it, in the order of the definition.
use Rattle.std.proofs.lemmas.Result.{err_from_is_err_and}
use mathlib.Core.Path.{◌≡◌, refl, ap, sym, ◌∙◌, subst}
use mathlib.Core.Bool.{true, not}
use mathlib.Core.List.{List}
use Prim.Native.Nat.{ℕ, ◌+◌, ◌-◌, ◌<◌, ◌≤◌}
use native.Mathlib.Omega.{arith}
use lib.ListN.{length, take, drop, length-drop}
use Rattle.wire_spec.specs.Bits.{overwrite}
use Rattle.wire_spec.specs.Result.{Result, Err, Ok, refuse, IsAccepted}
use Rattle.wire_spec.specs.Cells.{list_of}
use Rattle.wire_spec.proofs.ListLaws.{part-all}
use Rattle.sdi_spec.specs.declared.answer.Found.{Found}
use Rattle.sdi_spec.specs.declared.position.Position.{Position}
use Rattle.sdi_spec.specs.Packets.{packets_in}
use Rattle.sdi_spec.specs.Line.{position_ok}
use Rattle.sdi_spec.specs.Passes.{found_of, found_cells}
use Rattle.sdi_spec.proofs.CodeLaws.{passed, failed}
use Rattle.sdi_spec.proofs.LineIff.{position-iff}
use Rattle.sdi.proofs.EntryLaws.{read_is, read-70, read-71, read-20, read-73, read-packet-refused, read-14, read_fits, FoundThere, found-there}
use Rattle.sdi.proofs.read.Goals as goal

-- the answer of the pass over the words from `start` on, and the packets that it found
module _ (P : Position) (line : List ℕ) (start : ℕ) where
  abbrev Words : List ℕ
  Words = take (length line - start) (drop start line)

  found-is : (v : Result Found) → v ≡ found_of (packets_in P Words) → v ≡ found_of (packets_in P (drop start line))
  found-is v e = e ∙ ap (λ (x : List ℕ). found_of (packets_in P x)) (part-all start line)

  there : (found : Found) → position_ok P ≡ true → (v : Result Found) → v ≡ found_of (packets_in P Words) → v ≡ Ok found
      → FoundThere P (drop start line) found.count found.words
  there found placed v e f = found-there P ((position-iff P).0 placed) _ _ _ (sym (found-is v e) ∙ f)

pub returns-then-line-gt-MAX_LINE : goal.returns-then-line-gt-MAX_LINE
returns-then-line-gt-MAX_LINE c = let a = c.args in let both = read_is a.line.now a.start a.position a.cells.now (refuse 70 0) (read-70 a.line.now a.start a.position a.cells.now c.if-line-gt-MAX_LINE.true) _ _ c.refuse.ensures refl in record { value = both.0; cells_after = both.1 }

pub returns-then-start-line : goal.returns-then-start-line
returns-then-start-line c = let a = c.args in let both = read_is a.line.now a.start a.position a.cells.now (refuse 71 0) (read-71 a.line.now a.start a.position a.cells.now c.if-line-gt-MAX_LINE.false c.if-start-line.true) _ _ c.refuse-then-start-line.ensures refl in record { value = both.0; cells_after = both.1 }

pub returns-then-not-position_fits : goal.returns-then-not-position_fits
returns-then-not-position_fits c = let a = c.args in let both = read_is a.line.now a.start a.position a.cells.now (refuse 20 0)
    (read-20 a.line.now a.start a.position a.cells.now c.if-line-gt-MAX_LINE.false c.if-start-line.false (failed _ _ c.position_fits.ensures (ap not c.if-not-position_fits.true))) _ _ c.refuse-then-not-position_fits.ensures refl in record { value = both.0; cells_after = both.1 }

pub returns-then-not-words_in_range : goal.returns-then-not-words_in_range
returns-then-not-words_in_range c = let placed : position_ok c.args.position ≡ true = passed _ _ c.position_fits.ensures (ap not c.if-not-position_fits.false) in
    let a = c.args in let both = read_is a.line.now a.start a.position a.cells.now (refuse 73 0)
    (read-73 a.line.now a.start a.position a.cells.now c.if-line-gt-MAX_LINE.false c.if-start-line.false (placed) (failed _ _ c.words_in_range.ensures (ap not c.if-not-words_in_range.true))) _ _ c.refuse-then-not-words_in_range.ensures refl in record { value = both.0; cells_after = both.1 }

pub overflow_mul-need : goal.overflow_mul-need
overflow_mul-need c =
    let a = c.args in
    let placed = passed _ _ c.position_fits.ensures (ap not c.if-not-position_fits.false) in
    let h = there a.position a.line.now a.start c.in_ok-found.found placed _ (c.check_packets.ensures a.position) c.in_ok-found.was in
    omega (arith, h.few, h.inside, length-drop a.start a.line.now)

pub overflow_add-need : goal.overflow_add-need
overflow_add-need c =
    let a = c.args in
    let placed = passed _ _ c.position_fits.ensures (ap not c.if-not-position_fits.false) in
    let h = there a.position a.line.now a.start c.in_ok-found.found placed _ (c.check_packets.ensures a.position) c.in_ok-found.was in
    omega (arith, h.few, h.inside, length-drop a.start a.line.now)

pub returns-in_err-found : goal.returns-in_err-found
returns-in_err-found c =
    let a = c.args in
    let placed = passed _ _ c.position_fits.ensures (ap not c.if-not-position_fits.false) in
    let in-range = passed _ _ c.words_in_range.ensures (ap not c.if-not-words_in_range.false) in
    let p = err_from_is_err_and c.from_residual.result c.from_residual.ensures.1 in
    let refused = sym (found-is a.position a.line.now a.start _ (c.check_packets.ensures a.position)) ∙ c.in_err-found.was in
    let both =
    read_is a.line.now a.start a.position a.cells.now (Err c.in_err-found.field-0.0)
    (read-packet-refused a.line.now a.start a.position a.cells.now c.if-line-gt-MAX_LINE.false c.if-start-line.false
    placed in-range _ refused) _ _ refl refl in
    record { value = rw (p.1, p.2) both.0; cells_after = both.1 }

pub returns-then-cells-need : goal.returns-then-cells-need
returns-then-cells-need c =
    let a = c.args in
    let placed = passed _ _ c.position_fits.ensures (ap not c.if-not-position_fits.false) in
    let in-range = passed _ _ c.words_in_range.ensures (ap not c.if-not-words_in_range.false) in
    let h = there a.position a.line.now a.start c.in_ok-found.found placed _ (c.check_packets.ensures a.position) c.in_ok-found.was in
    let short : length a.cells.now < length (list_of h.records) = omega (arith, h.cells, c.if-cells-need.true) in
    let both =
    read_is a.line.now a.start a.position a.cells.now (refuse 14 0)
    (read-14 a.line.now a.start a.position a.cells.now c.if-line-gt-MAX_LINE.false c.if-start-line.false
    placed in-range h.records h.packets short) _ _ c.refuse-then-cells-need.ensures refl in
    record { value = both.0; cells_after = both.1 }

pub read_packets-requires : goal.read_packets-requires
read_packets-requires c =
    let a = c.args in
    let placed = passed _ _ c.position_fits.ensures (ap not c.if-not-position_fits.false) in
    let h = there a.position a.line.now a.start c.in_ok-found.found placed _ (c.check_packets.ensures a.position) c.in_ok-found.was in
    let room : length (list_of h.records) ≤ length a.cells.now = omega (arith, h.cells, c.if-cells-need.false) in
    rw (part-all a.start a.line.now) (
      (position-iff a.position).0 placed,
      subst IsAccepted (sym h.packets) tt,
      subst (λ (x : List ℕ). length x ≤ length a.cells.now) (sym (ap found_cells h.packets)) room,
    )

pub returns : goal.returns
returns c =
    let a = c.args in
    let placed = passed _ _ c.position_fits.ensures (ap not c.if-not-position_fits.false) in
    let in-range = passed _ _ c.words_in_range.ensures (ap not c.if-not-words_in_range.false) in
    let h = there a.position a.line.now a.start c.in_ok-found.found placed _ (c.check_packets.ensures a.position) c.in_ok-found.was in
    let fits : length (list_of h.records) ≤ length a.cells.now = omega (arith, h.cells, c.if-cells-need.false) in
    let cells_are : found_cells (packets_in a.position (drop a.start a.line.now)) ≡ list_of h.records = ap found_cells h.packets in
    let both =
    read_is a.line.now a.start a.position a.cells.now (Ok h.records)
    (read_fits a.line.now a.start a.position a.cells.now c.if-line-gt-MAX_LINE.false c.if-start-line.false
    placed in-range h.records h.packets fits) _ _
    (sym (λ j. Ok (record { count = h.count j; cells = h.cells j; end = a.start + h.words j })))
    (c.read_packets.ensures
    ∙ ap (λ (x : List ℕ). overwrite (found_cells (packets_in a.position x)) a.cells.now) (part-all a.start a.line.now)
    ∙ ap (λ (x : List ℕ). overwrite x a.cells.now) cells_are) in
    record { value = both.0; cells_after = both.1 }
