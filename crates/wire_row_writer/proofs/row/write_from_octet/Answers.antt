-- `write_from_octet` stores the words from an octet on, and changes no other bit.
-- By its two rows: four words a turn, and the words that are left.
use Rattle.std.proofs.Common.{◌≡◌, ◌+◌, ◌-◌, ◌*◌, ◌/◌, length, drop, arith, length-drop, length-take}
use Rattle.wire_spec.specs.Bits.{bits}
use Rattle.wire_spec.proofs.BitLaws.{below-take, below-drop, length-bits}
use Rattle.wire_row_writer.proofs.Fields.{parts-stored}
use Rattle.wire_row_writer.proofs.row.write_from_octet.Goals as goal

pub write_few-requires : goal.write_few-requires
write_few-requires c = let w = c.args.words.now in
    let last = 4 * ((length w - 1) / 4) in
    let kept = c.write_fours.auto.octets in
    (simp (length-take, length-drop) (omega arith), below-take 1024 (length w - last) (drop last w) (below-drop 1024 last w c.requires.1), simp (length-take, length-drop) (omega arith))

pub returns : goal.returns
returns c = let a = c.args in
    let w = a.words.now in
    let s = bits a.octets.now in
    let fours = (length w - 1) / 4 in
    let b : 8 * (a.from + 5 * fours) ≡ 8 * a.from + 10 * (4 * fours) = omega arith in
    rw (c.write_few.ensures, c.write_fours.ensures, b) (parts-stored s (8 * a.from) (4 * fours) w (omega (arith, length-bits a.octets.now)) (omega arith))
