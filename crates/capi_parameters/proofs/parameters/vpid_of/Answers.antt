-- `vpid_of` takes a number for a VPID code, or for none.
-- By the test against the largest code.
use borrow.Author.Tests.{le-leb, lt-leb}
use Rattle.sdp_spec.specs.Text.{max_code}
use Rattle.capi_parameters.proofs.parameters.vpid_of.Goals as goal

pub returns-then-code-le-MAX_CODE : goal.returns-then-code-le-MAX_CODE
returns-then-code-le-MAX_CODE c = rw (le-leb c.args.code max_code c.if-code-le-MAX_CODE.true)

pub returns-else-code-le-MAX_CODE : goal.returns-else-code-le-MAX_CODE
returns-else-code-le-MAX_CODE c = rw (lt-leb c.args.code max_code c.if-code-le-MAX_CODE.false)
