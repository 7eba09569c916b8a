-- `state_in` gives the state whose numbers stand in a row.
-- A row that is a state has numbers that fit; each part is taken whole.
use mathlib.Core.Path.{◌∙◌}
use native.Mathlib.Omega.{arith}
use lib.ListN.{get_or}
use Rattle.egress_spec.specs.Queues.{channels, slot_count}
use Rattle.capi_egress_state.specs.Row.{counts_at, lengths_at, next_at, part, slots_at}
use Rattle.capi_egress_state.proofs.FitLaws.{fitting, over-all, part_length}
use Rattle.capi_egress_state.proofs.state.state_in.Goals as goal

pub take_octets-requires : goal.take_octets-requires
take_octets-requires c = let row = c.args.row.now in
    let p = c.requires in
    ((fitting row p.1).heads, omega (arith, part_length row 0 channels (omega (arith, p.0))))

pub take_octets-requires-2 : goal.take_octets-requires-2
take_octets-requires-2 c = let row = c.args.row.now in
    let p = c.requires in
    ((fitting row p.1).counts, omega (arith, part_length row counts_at channels (omega (arith, p.0))))

pub take_octets-requires-3 : goal.take_octets-requires-3
take_octets-requires-3 c = let row = c.args.row.now in
    let p = c.requires in
    ((fitting row p.1).slots, omega (arith, part_length row slots_at slot_count (omega (arith, p.0))))

pub take_lengths-requires : goal.take_lengths-requires
take_lengths-requires c = let row = c.args.row.now in
    let p = c.requires in
    ((fitting row p.1).lengths, omega (arith, part_length row lengths_at slot_count (omega (arith, p.0))))

pub overflow_cast-result : goal.overflow_cast-result
overflow_cast-result c = let p = c.requires in omega (arith, (fitting c.args.row.now p.1).next)

pub returns : goal.returns
returns c = let row = c.args.row.now in
    let p = c.requires in
    let h = c.take_octets.ensures ∙ over-all (part row 0 channels) _ (part_length row 0 channels (omega (arith, p.0))) in
    let n = c.take_octets-2.ensures ∙ over-all (part row counts_at channels) _ (part_length row counts_at channels (omega (arith, p.0))) in
    let s = c.take_octets-3.ensures ∙ over-all (part row slots_at slot_count) _ (part_length row slots_at slot_count (omega (arith, p.0))) in
    let l = c.take_lengths.ensures ∙ over-all (part row lengths_at slot_count) _ (part_length row lengths_at slot_count (omega (arith, p.0))) in
    λ i. record { heads = h i; counts = n i; slots = s i; lengths = l i; next = get_or row next_at 0 }
