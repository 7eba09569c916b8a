-- `streamcheck` as a program over frames (02, K12): what its buffers must hold, and what its whole run is.
use Rattle.wire_spec.specs.Result.{Result, Ok, Err}
use Rattle.std.specs.Prelude.{true, List, ℕ, ◌≤◌}
use Rattle.wire_spec.specs.Layout.{Layout}
use Rattle.wire_spec.specs.Packet.{max_packet}
use Rattle.rtp_frames.specs.Frames.{max_frame}
use Rattle.program_spec.specs.declared.buffers.Buffers.{Buffers}
use Rattle.program_spec.specs.Buffers as buffers
use Rattle.program_spec.specs.Frames.{over_frames}
use Rattle.program_spec.specs.Run as run
use Rattle.program_spec.specs.Run.{At}
use Rattle.program_spec.specs.Walk.{Program}
use Rattle.streamcheck_spec.specs.Text.{stream_text}
use Rattle.streamcheck_session.specs.declared.session.Session.{Session}
use Rattle.streamcheck_session.specs.Answers.{begun, streamcheck}
use Rattle.streamcheck_lines.specs.Lines.{lines_room}
use Rattle.program.specs.declared.run.Run.{Run}

-- WHAT THE BUFFERS MUST HOLD: a whole frame; the cells of any packet's records; and the lines of one packet
pub record Enough (input list out : ℕ) : Type 0 where
  pub frame : max_frame ≤ input
  pub cells : max_packet ≤ list
  pub text : lines_room ≤ out

-- the octets of a text
abbrev pub octets_of : Result ℕ → ℕ
octets_of (Ok n) = n
octets_of (Err x) = 0

-- `streamcheck` takes frames as its items; there are cells for any packet
abbrev pub program : Program
program = over_frames (streamcheck true)

-- at the start nothing is read, and nothing is to be written
abbrev pub started : Layout → Run Session
started L = record { session = begun L; buffers = buffers.begun 0 }

-- THE WHOLE RUN: what is written is the report on what is read
abbrev pub Ended : Layout → (out' : List ℕ) → (after : Buffers) → Type 0
Ended L out' after = (a : At Session) × run.Ended program (stream_text L) (begun L) a out' after
