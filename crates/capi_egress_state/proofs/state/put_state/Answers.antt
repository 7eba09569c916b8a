-- `put_state` writes the numbers of a state to the first of a row.
-- Part by part, each behind the one before.
use borrow.Author.Rules.{rules}
use mathlib.Core.Path.{◌≡◌, sym}
use native.Mathlib.Omega.{arith}
use lib.ListN.{length, length-set}
use Rattle.egress_spec.specs.Queues.{channels, slot_count}
use Rattle.capi_egress_state.proofs.RowLaws.{Sized, put_all}
use Rattle.capi_egress_state.proofs.state.put_state.Goals as goal

pub put_octets-requires : goal.put_octets-requires
put_octets-requires c = let n : channels ≡ length c.args.state.heads = (search rules) in
    omega (arith, n, c.requires)

pub put_octets-requires-2 : goal.put_octets-requires-2
put_octets-requires-2 c = let n : channels ≡ length c.args.state.counts = (search rules) in
    omega (arith, n, c.requires, c.put_octets.auto.row)

pub put_octets-requires-3 : goal.put_octets-requires-3
put_octets-requires-3 c = let n : slot_count ≡ length c.args.state.slots = (search rules) in
    omega (arith, n, c.requires, c.put_octets.auto.row, c.put_octets-2.auto.row)

pub put_lengths-requires : goal.put_lengths-requires
put_lengths-requires c = let n : slot_count ≡ length c.args.state.lengths = (search rules) in
    omega (arith, n, c.requires, c.put_octets.auto.row, c.put_octets-2.auto.row, c.put_octets-3.auto.row)

pub bounds-row-144 : goal.bounds-row-144
bounds-row-144 c = let long : length c.put_lengths.new.row ≡ length c.args.row.now = omega (arith, c.put_octets.auto.row, c.put_octets-2.auto.row, c.put_octets-3.auto.row, c.put_lengths.auto.row) in
    omega (arith, long, c.requires)

pub shape_of-row : goal.shape_of-row
shape_of-row c = let long : length c.put_lengths.new.row ≡ length c.args.row.now = omega (arith, c.put_octets.auto.row, c.put_octets-2.auto.row, c.put_octets-3.auto.row, c.put_lengths.auto.row) in
    simp length-set (long)

pub returns : goal.returns
returns c = let long : length c.put_lengths.new.row ≡ length c.args.row.now = omega (arith, c.put_octets.auto.row, c.put_octets-2.auto.row, c.put_octets-3.auto.row, c.put_lengths.auto.row) in
    let a = c.args in
    let z : Sized a.state =
    record {
      heads = sym ((search rules));
      counts = sym ((search rules));
      slots = sym ((search rules));
      lengths = sym ((search rules));
    } in
    put_all a.row.now a.state z _ _ _ _ c.put_octets.ensures c.put_octets-2.ensures c.put_octets-3.ensures c.put_lengths.ensures
    (omega (arith, long, c.requires))
