-- `read_words` writes the words from a bit on to the first cells, and no other cell.
-- By its three rows: to the first word that starts an octet, eight words a turn, and the words that are left.
use mathlib.Core.Path.{◌≡◌}
use Prim.Native.Nat.{◌+◌, ◌-◌, ◌*◌, ◌/◌}
use native.Mathlib.Omega.{arith}
use Rattle.wire_row_reader.proofs.Rows.{splice-three}
use Rattle.wire_row_reader.proofs.row.read_words.Goals as goal

pub returns : goal.returns
returns c = let a = c.args in
    let first = c.words_before_octet-first.result in
    let eights = (a.count - first) / 8 in
    let b : 8 * ((a.bit + 10 * first) / 8) ≡ a.bit + 10 * first = omega arith in
    let d : 8 * ((a.bit + 10 * (first + 8 * eights)) / 8) ≡ a.bit + 10 * (first + 8 * eights) = omega arith in
    rw (c.read_rest.ensures, c.read_eights.ensures, c.read_few-2.ensures, b, d)
    (splice-three a.cells.now a.octets.now a.bit first (8 * eights) (a.count - (first + 8 * eights)) a.count (omega arith))
