-- `write` puts the records of a list into the line, or leaves it alone.
-- Each return knows the checks before it, in the order of the definition.
use Rattle.std.proofs.lemmas.Result.{err_from_is_err_and}
use mathlib.Core.Path.{◌≡◌, refl, ap, sym, ◌∙◌, subst}
use mathlib.Core.List.{List}
use Prim.Native.Nat.{ℕ, ◌+◌, ◌-◌, ◌*◌, ◌<◌, ◌≤◌}
use native.Mathlib.Omega.{arith}
use lib.ListN.{length, take, drop, length-drop}
use Rattle.wire_spec.specs.Bits.{overwrite}
use Rattle.wire_spec.specs.Result.{Err, Ok, refuse, IsAccepted}
use Rattle.wire_spec.specs.Cells.{read_list}
use Rattle.wire_spec.proofs.ListLaws.{part-all, part-written}
use Rattle.sdi_spec.specs.Packets.{stretch}
use Rattle.sdi_spec.specs.Passes.{list_stretch}
use Rattle.sdi.proofs.EntryLaws.{written_is, write-70, write-71, write-list, write-72, write-fits, counted}
use Rattle.sdi.proofs.write.Goals as goal

pub returns-then-line-gt-MAX_LINE : goal.returns-then-line-gt-MAX_LINE
returns-then-line-gt-MAX_LINE c = let a = c.args in let both = written_is a.line.now a.start a.cells.now (refuse 70 0) (write-70 _ _ _ c.if-line-gt-MAX_LINE.true) _ _ c.refuse.ensures refl in record { value = both.0; line_after = both.1 }

pub returns-then-start-line : goal.returns-then-start-line
returns-then-start-line c = let a = c.args in let both = written_is a.line.now a.start a.cells.now (refuse 71 0) (write-71 _ _ _ c.if-line-gt-MAX_LINE.false c.if-start-line.true) _ _ c.refuse-then-start-line.ensures refl in record { value = both.0; line_after = both.1 }

pub returns-in_err-listed : goal.returns-in_err-listed
returns-in_err-listed c =
    let a = c.args in
    let p = err_from_is_err_and c.from_residual.result c.from_residual.ensures.1 in
    let refused = sym c.measure.ensures ∙ c.in_err-listed.was in
    let both =
    written_is a.line.now a.start a.cells.now (Err c.in_err-listed.field-0.0)
    (write-list _ _ _ c.if-line-gt-MAX_LINE.false c.if-start-line.false _ refused) _ _ refl refl in
    record { value = rw (p.1, p.2) both.0; line_after = both.1 }

pub overflow_mul-words : goal.overflow_mul-words
overflow_mul-words c =
    let a = c.args in
    let h = counted a.cells.now _ _ (sym c.measure.ensures ∙ c.in_ok-listed.was) in
    omega (arith, h.words)

pub overflow_sub-words : goal.overflow_sub-words
overflow_sub-words c =
    let a = c.args in
    let h = counted a.cells.now _ _ (sym c.measure.ensures ∙ c.in_ok-listed.was) in
    omega (arith, h.words)

pub returns-then-line-start : goal.returns-then-line-start
returns-then-line-start c =
    let a = c.args in
    let h = counted a.cells.now _ _ (sym c.measure.ensures ∙ c.in_ok-listed.was) in
    let words_are : length a.cells.now - 2 * c.in_ok-listed.listed.count ≡ length (stretch h.records) = omega (arith, h.words) in
    let short : length a.line.now - a.start < length (stretch h.records) = omega (arith, words_are, c.if-line-start.true) in
    let both =
    written_is a.line.now a.start a.cells.now (refuse 72 0)
    (write-72 _ _ _ c.if-line-gt-MAX_LINE.false c.if-start-line.false h.records h.listed short)
    _ _ c.refuse-then-line-start.ensures refl in
    record { value = both.0; line_after = both.1 }

pub write_packets-requires : goal.write_packets-requires
write_packets-requires c =
    let a = c.args in
    let h = counted a.cells.now _ _ (sym c.measure.ensures ∙ c.in_ok-listed.was) in
    let words_are : length a.cells.now - 2 * c.in_ok-listed.listed.count ≡ length (stretch h.records) = omega (arith, h.words) in
    let fits : length (stretch h.records) ≤ length a.line.now - a.start = omega (arith, words_are, c.if-line-start.false) in
    let stretch-is : list_stretch (read_list a.cells.now) ≡ stretch h.records = ap list_stretch h.listed in (
      subst IsAccepted (sym h.listed) tt,
      rw (stretch-is, part-all a.start a.line.now, length-drop a.start a.line.now) fits,
    )

pub returns : goal.returns
returns c =
    let a = c.args in
    let h = counted a.cells.now _ _ (sym c.measure.ensures ∙ c.in_ok-listed.was) in
    let words_are : length a.cells.now - 2 * c.in_ok-listed.listed.count ≡ length (stretch h.records) = omega (arith, h.words) in
    let fits : length (stretch h.records) ≤ length a.line.now - a.start = omega (arith, words_are, c.if-line-start.false) in
    let stretch-is : list_stretch (read_list a.cells.now) ≡ stretch h.records = ap list_stretch h.listed in
    let w = c.write_packets in
    let both =
    written_is a.line.now a.start a.cells.now (Ok (stretch h.records))
    (write-fits _ _ _ c.if-line-gt-MAX_LINE.false c.if-start-line.false h.records h.listed fits) _ _
    (ap (λ (n : ℕ). Ok (a.start + n)) words_are)
    (part-written a.start a.line.now (stretch h.records) w.new.words
    (w.ensures ∙ ap (λ (x : List ℕ). overwrite x (take (length a.line.now - a.start) (drop a.start a.line.now))) stretch-is)) in
    record { value = both.0; line_after = both.1 }
