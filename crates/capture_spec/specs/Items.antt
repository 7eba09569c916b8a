-- What stands at the front of a capture, or why it is not read.
use Rattle.std.specs.Prelude.{ℕ, Result}
use Rattle.capture_spec.specs.declared.state.Item.{Item}
use Rattle.capture_spec.specs.declared.state.Unread.{Unread}

-- how many octets a record or a block has
abbrev pub Extent : Type 0
Extent = Result ℕ Unread

-- the item
abbrev pub Read : Type 0
Read = Result Item Unread
