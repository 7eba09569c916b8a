-- `write_words` stores the words from a bit on, and changes no other bit.
-- By its two rows: to the first word that starts an octet, and the words from there on.
use Rattle.std.proofs.Common.{◌≡◌, ◌+◌, ◌-◌, ◌*◌, ◌/◌, length, take, drop, sym, arith, length-drop, length-take-le}
use Rattle.wire_spec.specs.Bits.{bits}
use Rattle.wire_spec.proofs.BitLaws.{below-take, below-drop, length-bits}
use Rattle.wire_row_writer.proofs.Fields.{parts-stored}
use Rattle.wire_row_writer.proofs.row.write_words.Goals as goal

pub slice_bounds-write_few-end : goal.slice_bounds-write_few-end
slice_bounds-write_few-end c = sym (length-take-le _ _ (omega arith))

pub write_few-requires-2 : goal.write_few-requires-2
write_few-requires-2 c = let w = c.args.words.now in
    let first = c.words_before_octet-first.result in
    let e : length (take first w) ≡ first = length-take-le first w (omega arith) in
    (rw e (omega arith), below-take 1024 first w c.requires.1, rw e (omega arith))

pub write_from_octet-requires : goal.write_from_octet-requires
write_from_octet-requires c = let w = c.args.words.now in
    let first = c.words_before_octet-first.result in
    let kept = c.write_few-2.auto.octets in
    let e : length (take (length w - first) (drop first w)) ≡ length w - first = length-take-le (length w - first) (drop first w) (rw (length-drop first w) (omega arith)) in
    (rw e (omega arith), below-take 1024 (length w - first) (drop first w) (below-drop 1024 first w c.requires.1), rw e (omega arith))

pub returns : goal.returns
returns c = let a = c.args in
    let s = a.octets.now in
    let first = c.words_before_octet-first.result in
    let b : 8 * ((a.bit + 10 * first) / 8) ≡ a.bit + 10 * first = omega arith in
    rw (c.write_from_octet.ensures, c.write_few-2.ensures, b) (parts-stored (bits s) a.bit first a.words.now (omega (arith, length-bits s)) (omega arith))
