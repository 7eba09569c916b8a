-- `wanted_of` tells whether a record is wanted, by a list of pairs.
-- Invariant: an entry of what is left matches exactly where an entry of the whole does.
use Rattle.std.proofs.Common.{◌≡◌, drop}
use Rattle.anc_filter.specs.Wanted.{any_of}
use Rattle.anc_filter.proofs.wanted_of.Given as goal

abbrev pub invariant-loop-entry : goal.invariant-loop-entry
invariant-loop-entry l = any_of l.did l.sdid (drop l.entry-index l.pairs) ≡ any_of l.did l.sdid l.pairs
