-- A program over frames of RFC 4571 takes them as its items.
use Rattle.std.specs.Prelude.{Bool, List, ℕ, ◌+◌, length}
use Rattle.rtp_frames.specs.Frames as rfc
use Rattle.rtp_frames.specs.Frames.{end, cut, frame, is_broken, length_size}
use Rattle.program_spec.specs.Walk.{Front, short, taken, Program}

-- what it carries from packet to packet, whether so many octets are room for what the next can print, the first text, what is printed for a packet, what is
-- carried on, and the last lines, told whether the last frame is broken off
pub record FrameProgram : Type 1 where
  pub State : Type 0
  pub room : State → ℕ → Bool
  pub first : List ℕ
  pub text : State → List ℕ → List ℕ
  pub next : State → List ℕ → State
  pub last : Bool → State → List ℕ

module _ (F : FrameProgram) where
  -- a whole frame is an item: its length, and its packet
  abbrev pub frame_front : F.State → rfc.Front → Front F.State
  frame_front s end = short
  frame_front s cut = short
  frame_front s (frame p rest) = taken (length_size + length p) (F.text s p) (F.next s p)

  abbrev pub over_frames : Program
  over_frames =
      record {
        State = F.State;
        room = F.room;
        front = λ (s : F.State) (o : List ℕ). frame_front s (rfc.front o);
        first = F.first;
        closing = λ (s : F.State) (o : List ℕ). F.last (is_broken (rfc.front o)) s;
        last = λ (s : F.State) (o : List ℕ). s;
      }
