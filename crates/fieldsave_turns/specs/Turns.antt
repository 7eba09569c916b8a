-- `fieldsave` as a program over frames: what its buffers must hold, and what its whole run is.
use Rattle.std.specs.Prelude.{◌≡◌, List, ℕ, ◌≤◌}
use Rattle.wire_spec.specs.Bits.{overwrite}
use Rattle.wire_spec.specs.Layout.{Layout}
use Rattle.wire_spec.specs.Writing.{max_field_cells}
use Rattle.fieldfile_spec.specs.File.{file_head, written_version}
use Rattle.rtp_frames.specs.Frames.{max_frame}
use Rattle.program_spec.specs.declared.buffers.Buffers.{Buffers}
use Rattle.program_spec.specs.Frames.{over_frames}
use Rattle.program_spec.specs.Run as run
use Rattle.program_spec.specs.Run.{At, at}
use Rattle.program_spec.specs.Walk.{Program}
use Rattle.fieldlist_session.specs.declared.session.Session.{Session}
use Rattle.fieldlist_session.specs.declared.session.Session.TheVariants as session
use Rattle.fieldsave_session.specs.Answers.{fieldsave}
use Rattle.fieldsave_session.specs.Filing.{field_room, filing}
use Rattle.program.specs.declared.run.Run.{Run}

-- WHAT THE BUFFERS MUST HOLD: a whole frame; a field's cells; and the octets of any field
pub record Enough (input store out : ℕ) : Type 0 where
  pub frame : max_frame ≤ input
  pub cells : max_field_cells ≤ store
  pub text : field_room ≤ out

-- `fieldsave` takes frames as its items
abbrev pub program : Program
program = over_frames fieldsave

-- at the start no depacketizer is open, nothing is read, and the file's head is to be written
pub record Started (L : Layout) (out out' : List ℕ) (r : Run Session) : Type 0 where
  pub octets : out' ≡ overwrite (file_head written_version) out
  pub waits : (store input : List ℕ) → run.Started program (session.Waiting L, store) (at (r.session, store) r.buffers input out')

-- THE WHOLE RUN: what is written is the field file of what is read
abbrev pub Ended : Layout → (store store' out' : List ℕ) → (after : Buffers) → Type 0
Ended L store store' out' after =
    (a : At (Session × List ℕ)) × (a.state.1 ≡ store')
    × run.Ended program (filing L store) (session.Waiting L, store) a out' after
