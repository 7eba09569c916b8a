-- The lines of the cells before the place are put.
use Rattle.std.proofs.Common.{◌+◌, ◌*◌, ◌≤◌}
use Rattle.text.specs.Put.{Put}
use Rattle.fielddiff_spec.specs.Text.{diff_text}
use Rattle.fielddiff_lines.specs.Room.{line_room}
use Rattle.fielddiff_lines.proofs.DifferText.{cells_to}
use Rattle.fielddiff_lines.proofs.put_cells.Given as goal

abbrev pub invariant-loop-k : goal.invariant-loop-k
invariant-loop-k l = record {
  room : l.to ≤ l.at + line_room * l.k;
  put : Put l.initial.out l.at (diff_text (cells_to l.i l.j l.left l.right l.k)) l.out l.to;
}
