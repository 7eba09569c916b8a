-- `put_channel` writes the five numbers in which a row differs from a state.
-- What they are is `change-written`; that they are in the row, its length.
use native.Mathlib.Omega.{arith}
use lib.ListN.{length-set}
use Rattle.capi_egress_state.proofs.ChangeLaws.{change-written}
use Rattle.capi_egress_state.proofs.state.put_channel.Goals as goal

pub overflow_add-last : goal.overflow_add-last
overflow_add-last c = let z = c.requires in record { fits = omega (arith, z.head, z.count) }

pub overflow_add-last-2 : goal.overflow_add-last-2
overflow_add-last-2 c = let z = c.requires in record { fits = omega (arith, z.head, z.count) }

pub bounds-row-channel-2 : goal.bounds-row-channel-2
bounds-row-channel-2 c = let z = c.requires in
    simp (length-set) (omega (arith, z.long, z.channel))

pub bounds-row-last : goal.bounds-row-last
bounds-row-last c = let z = c.requires in
    simp (length-set) (omega (arith, z.long, z.channel))

pub bounds-row-last-2 : goal.bounds-row-last-2
bounds-row-last-2 c = let z = c.requires in
    simp (length-set) (omega (arith, z.long, z.channel))

pub returns : goal.returns
returns c = change-written _ _ _ c.requires
