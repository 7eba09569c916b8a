-- `open` opens a depacketizer, or gives 24.
-- By the limit of the payload type.
use Rattle.wire_spec.specs.Result.{Ok}
use Rattle.std.proofs.Common.{ap, le-leb, ◌∙◌}
use borrow.Author.Tests.{lt-leb}
use Rattle.wire_spec.specs.Writing.{max_type}
use Rattle.depacketizer_spec.specs.declared.state.State.{State}
use Rattle.depacketizer.proofs.state.Depacketizer.open.Goals as goal

pub returns-then-payload_type-gt-MAX_TYPE : goal.returns-then-payload_type-gt-MAX_TYPE
returns-then-payload_type-gt-MAX_TYPE c = c.refuse.ensures ∙ rw (lt-leb c.args.payload_type max_type c.if-payload_type-gt-MAX_TYPE.true)

pub returns : goal.returns
returns c = rw (le-leb c.args.payload_type max_type c.if-payload_type-gt-MAX_TYPE.false)
    (ap (λ (x : State). Ok (record { state = x })) c.opened.ensures)
