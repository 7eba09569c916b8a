use Rattle.std.proofs.Common.{◌≡◌, Bool, ◌&&◌, leb, length, get_or, ap, ◌∙◌, add-one, arith, drop-cons}
use mathlib.Core.Bool.{and_assoc, and-true}
use lib.Seq.{drop-length}
use Rattle.wire_spec.proofs.BitLaws.{below_at}
use Rattle.wire_spec.specs.Words.{is_clear}
use Rattle.wire_row_scan.specs.Clear.{all_high}
use Rattle.wire_row_scan.proofs.ClearLaws.{high-min, high-set}
use Rattle.wire_row_scan.proofs.scan.test_lanes.Goals as goal

pub turned-requires : goal.turned-requires
turned-requires c = below_at 1024 c.args.words.now c.loop-j.j c.requires.1 (omega arith)

pub loop-j-preserved : goal.loop-j-preserved
loop-j-preserved c = let l = c.loop-j in
    let w = c.args.words.now in
    let old = get_or l.lows l.j 0 in
    let t = is_clear (get_or w l.j 0) in
    let y = ap (leb 8) c.min.ensures ∙ high-min old _ ∙ ap (λ (b : Bool). leb 8 old && b) c.turned.ensures in
    rw (high-set l.lows l.j _ t (omega arith) y, add-one l.j)
    (and_assoc (all_high l.lows) t _ ∙ (rw (drop-cons w l.j 0 (omega arith)) at l.invariant))

pub returns : goal.returns
returns c = let l = c.loop-j in
    let w = c.args.words.now in
    let e : l.j ≡ length w = omega arith in
    rw (e, drop-length w, and-true (all_high l.lows)) at l.invariant
