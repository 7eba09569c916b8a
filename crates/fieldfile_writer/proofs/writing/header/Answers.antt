-- `header` is the packed header of a field.
-- By the law of those seven octets.
use native.Mathlib.Omega.{arith}
use Rattle.fieldfile_writer.proofs.HeadOctets.{header-packed}
use Rattle.fieldfile_writer.proofs.writing.header.Goals as goal

pub returns : goal.returns
returns c = let a = c.args in header-packed a.timestamp.0 a.f a.count (omega arith) (omega arith) (omega arith)
