-- By the window's number.
use borrow.Author.Rules.{rules}
use Rattle.fieldfile_scan_spec.proofs.Examples.{window}
use Rattle.fielddiff_side.proofs.is_short.Goals as goal

pub returns : goal.returns
returns c = rw window (search rules)
