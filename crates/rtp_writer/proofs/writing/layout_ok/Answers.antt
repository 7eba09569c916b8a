-- `layout_ok` tests what the layout cannot hold.
-- By the variant that each arm is told.
use mathlib.Core.Path.{ap}
use mathlib.Core.Bool.{Bool, ◌&&◌}
use lib.Dec.{eqb}
use Rattle.rtp_writer.proofs.writing.layout_ok.Goals as goal

pub returns-in-Draft2015 : goal.returns-in-Draft2015
returns-in-Draft2015 c = rw c.in-Draft2015.is (ap (λ (b : Bool). eqb c.args.f 0 && b) c.no_stream.ensures)
