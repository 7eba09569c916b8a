-- `add_pair` adds a pair where there are fewer than 64.
-- By the test of their number.
use borrow.Author.Tests.{lt-ltb, le-ltb}
use Rattle.sdp_spec.specs.Text.{max_pairs}
use Rattle.sdp_reader.proofs.add_pair.Goals as goal

pub returns-then-found-ge-MAX_PAIRS : goal.returns-then-found-ge-MAX_PAIRS
returns-then-found-ge-MAX_PAIRS c = rw (c.refuse_at.ensures, le-ltb c.args.found.pairs max_pairs c.if-found-ge-MAX_PAIRS.true)

pub returns : goal.returns
returns c = rw (lt-ltb c.args.found.pairs max_pairs c.if-found-ge-MAX_PAIRS.false)
