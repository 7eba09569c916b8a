-- `begin` puts the first line where there is room.
-- By the test.
use Rattle.wire_spec.specs.Result.{Ok}
use borrow.Author.Tests.{lt-leb, le-leb}
use native.Mathlib.Omega.{arith}
use mathlib.Core.Path.{refl, ap}
use lib.ListN.{length}
use Rattle.text.specs.Text.{ascii}
use Rattle.fieldlist_lines.specs.Room.{line_room}
use Rattle.fieldlist_session.proofs.session.begin.Goals as goal

pub returns-then-out-lt-LINE_ROOM : goal.returns-then-out-lt-LINE_ROOM
returns-then-out-lt-LINE_ROOM c = rw (c.refuse.ensures, lt-leb line_room (length c.args.out.now) c.if-out-lt-LINE_ROOM.true) (record { value = refl; out_after = refl; text_fits = tt })

pub returns : goal.returns
unfolding ascii
returns c = rw (le-leb line_room (length c.args.out.now) c.if-out-lt-LINE_ROOM.false) (record { value = ap Ok c.put.ensures.value; out_after = c.put.ensures.put.octets; text_fits = omega (arith, c.put.ensures.value) })
