-- `fieldlist` as a program over frames (01, "`fieldlist`"): what its buffers must hold, and what its whole run is.
use Rattle.wire_spec.specs.Result.{Result, Ok, Err}
use Rattle.std.specs.Prelude.{◌≡◌, List, ℕ, ◌+◌, ◌*◌, ◌≤◌}
use Rattle.wire_spec.specs.Bits.{overwrite}
use Rattle.wire_spec.specs.Layout.{Layout}
use Rattle.wire_spec.specs.Writing.{max_field_cells}
use Rattle.rtp_frames.specs.Frames.{max_frame}
use Rattle.program_spec.specs.declared.buffers.Buffers.{Buffers}
use Rattle.program_spec.specs.Frames.{over_frames}
use Rattle.program_spec.specs.Run as run
use Rattle.program_spec.specs.Run.{At, at}
use Rattle.program_spec.specs.Walk.{Program}
use Rattle.fieldlist_lines.specs.Room.{line_room}
use Rattle.fieldlist_records.specs.Records.{cell_room}
use Rattle.fieldlist_session.specs.declared.session.Session.{Session}
use Rattle.fieldlist_session.specs.declared.session.Session.TheVariants as session
use Rattle.fieldlist_session.specs.Answers.{fieldlist}
use Rattle.fieldlist_session.specs.Session.{title, listing}
use Rattle.program.specs.declared.run.Run.{Run}

-- WHAT THE BUFFERS MUST HOLD: a whole frame; a field's cells; and what one packet can print over that store
pub record Enough (input store out : ℕ) : Type 0 where
  pub frame : max_frame ≤ input
  pub cells : max_field_cells ≤ store
  pub text : line_room + cell_room * store ≤ out

-- the octets of a text
abbrev pub octets_of : Result ℕ → ℕ
octets_of (Ok n) = n
octets_of (Err x) = 0

-- `fieldlist` takes frames as its items
abbrev pub program : Program
program = over_frames fieldlist

-- at the start no depacketizer is open, nothing is read, and the first line is to be written
pub record Started (L : Layout) (out out' : List ℕ) (r : Run Session) : Type 0 where
  pub octets : out' ≡ overwrite title out
  pub waits : (store input : List ℕ) → run.Started program (session.Waiting L, store) (at (r.session, store) r.buffers input out')

-- the last lines do not depend on the store
abbrev pub Closes : Run Session → (input out : List ℕ) → Buffers → (out' : List ℕ) → Type 0
Closes v input out r out' = (store : List ℕ) → run.Closed program (at (v.session, store) v.buffers input out) r out'

-- THE WHOLE RUN: what is written is the listing of what is read
abbrev pub Ended : Layout → (store store' out' : List ℕ) → (after : Buffers) → Type 0
Ended L store store' out' after =
    (a : At (Session × List ℕ)) × (a.state.1 ≡ store')
    × run.Ended program (listing L store) (session.Waiting L, store) a out' after
