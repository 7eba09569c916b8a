-- `read_rest` writes at most seven words from an octet on to the cells from one on, and no other cell.
-- By its two rows: four words where there are four, and the words that are left.
use mathlib.Core.Path.{◌≡◌, ap, ◌∙◌}
use Prim.Native.Nat.{ℕ, ◌+◌, ◌-◌, ◌*◌}
use native.Mathlib.Omega.{arith}
use Rattle.wire_spec.specs.Bits.{row_at, splice}
use Rattle.wire_spec.specs.Words.{word_bits}
use Rattle.wire_row_reader.proofs.Rows.{splice-rows}
use Rattle.wire_row_reader.proofs.row.read_rest.Goals as goal

pub returns : goal.returns
returns c = let a = c.args in
    let s = a.octets.now in
    let b : 8 * (a.from + 5) ≡ 8 * a.from + 10 * 4 = omega arith in
    let n : 4 + (a.count - 4) ≡ a.count = omega arith in
    rw (c.read_few-2.ensures, c.read_four.ensures, b)
    (splice-rows a.cells.now s a.to (8 * a.from) 4 (a.count - 4) (omega arith)
    ∙ ap (λ (x : ℕ). splice a.cells.now a.to (row_at word_bits s (8 * a.from) x)) n)
