-- `pcapframes` as a program that walks a capture: what its buffers must hold, and what its whole run is.
use Rattle.std.specs.Prelude.{◌≡◌, true, List, ℕ, ◌≤◌, length}
use Rattle.rtp_frames.specs.Frames.{max_frame}
use Rattle.capture_spec.specs.Numbers.{max_item}
use Rattle.program_spec.specs.declared.buffers.Buffers.{Buffers}
use Rattle.program_spec.specs.Buffers as buffers
use Rattle.program_spec.specs.Buffers.{is_done}
use Rattle.program_spec.specs.Run as run
use Rattle.program_spec.specs.Run.{At, unused}
use Rattle.program_spec.specs.Walk.{walk}
use Rattle.pcapframes_spec.specs.declared.session.Session.{Session}
use Rattle.pcapframes_spec.specs.Frames.{frames_of}
use Rattle.pcapframes_spec.specs.Session.{begun, frame_walk, last_of}
use Rattle.program.specs.declared.run.Run.{Run}

-- WHAT THE BUFFERS MUST HOLD: the longest item, and the longest frame
pub record Enough (input out : ℕ) : Type 0 where
  pub item : max_item ≤ input
  pub frame : max_frame ≤ out

-- at the start nothing is read, and nothing is to be written
abbrev pub started : Run Session
started = record { session = begun; buffers = buffers.begun 0 }

-- THE WHOLE RUN, which leaves these octets in the buffers, and these places: what is written is the frames of
-- all that is read, with no last text; and what is told at last is what the walk over it comes to
pub record Ended (port : ℕ) (s : Session) (input out : List ℕ) (after : Buffers) : Type 0 where
  pub before : At Session
  pub run : run.Ended (frame_walk port) (frames_of port) begun before out after
  pub holds : (before.input ≡ input) × (before.out ≡ out)
  pub at_last : s ≡ last_of before.state (length (unused before))
  pub complete : is_done after ≡ true → (run).written ≡ frames_of port (run).read
  pub carries : is_done after ≡ true → s ≡ (walk (frame_walk port) begun (run).read).state
