-- By the window's number.
use Rattle.std.proofs.Common.{arith}
use Rattle.fieldfile_scan_spec.proofs.Examples.{window}
use Rattle.fielddiff_run.proofs.compare.Goals as goal

pub compare_within-after-requires : goal.compare_within-after-requires
compare_within-after-requires c = record {
  left_window = omega (arith, window);
  right_window = omega (arith, window);
  left_field = omega arith;
  right_field = omega arith;
  text = omega arith;
}
