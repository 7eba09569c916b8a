-- `is_state` tells whether each number of a row is one that its value can have.
-- By the five tests in their order.
use mathlib.Core.Bool.{◌&&◌}
use lib.Dec.{leb}
use lib.ListN.{get_or}
use Rattle.capi_egress_state.specs.Row.{max8, next_at}
use Rattle.capi_egress_state.proofs.state.is_state.Goals as goal

pub returns : goal.returns
returns c = let row = c.args.row.now in
    λ i.
    c.joined-heads.ensures 8 i
    && (c.joined-counts.ensures 8 i
    && (c.joined-slots.ensures 8 i && (c.joined-lengths.ensures 16 i && leb (get_or row next_at 0) max8)))
