-- One line more, or none where the cells do not differ.
use Rattle.std.proofs.Common.{◌≡◌, ℕ, ap, min, length, arith}
use Rattle.fielddiff_spec.specs.Diff.{cell_lines, up_to}
use Rattle.fielddiff_spec.specs.Text.{diff_text}
use Rattle.text.proofs.PutLaws.{both, nothing, same}
use Rattle.fielddiff_lines.proofs.DifferText.{cells_to, cells-next}
use Rattle.fielddiff_lines.proofs.put_cells.Goals as goal

pub loop-k-init : goal.loop-k-init
unfolding up_to
loop-k-init c = record {
  room = omega arith;
  put = nothing c.args.out.now c.args.at (omega (arith, c.requires));
}

pub loop-k-preserved : goal.loop-k-preserved
loop-k-preserved c =
    let a = c.args in
    let l = c.loop-k in
    let p = c.put_cell-to.ensures in
    record {
      room = omega (arith, p.upper_bound, l.invariant.room);
      put = same (cells-next a.i a.j a.left.now a.right.now l.k) (both l.invariant.put p.put);
    }

pub returns-clause-put : goal.returns-clause-put
unfolding cell_lines
returns-clause-put c =
    let a = c.args in
    let l = c.loop-k in
    let e : l.k ≡ min (length a.left.now) (length a.right.now) = omega arith in
    same (ap (λ (k : ℕ). diff_text (cells_to a.i a.j a.left.now a.right.now k)) e) l.invariant.put
