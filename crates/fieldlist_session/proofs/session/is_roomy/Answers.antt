-- `is_roomy` tells whether there is room.
-- The division is the product's.
use borrow.Author.Tests.{lt-leb}
use Prim.Native.Nat.{◌+◌, ◌*◌}
use native.Mathlib.Omega.{arith}
use Rattle.fieldlist_lines.specs.Room.{line_room}
use Rattle.fieldlist_records.specs.Records.{cell_room}
use Rattle.fieldlist_session.proofs.TurnLaws.{divided}
use Rattle.fieldlist_session.proofs.session.is_roomy.Goals as goal

pub returns-then-octets-lt-LINE_ROOM : goal.returns-then-octets-lt-LINE_ROOM
returns-then-octets-lt-LINE_ROOM c = rw (lt-leb (line_room + cell_room * c.args.cells) c.args.octets (omega (arith, c.if-octets-lt-LINE_ROOM.true)))

pub returns : goal.returns
returns c = divided c.args.cells c.args.octets c.if-octets-lt-LINE_ROOM.false
