-- What the code answers, and what it leaves in the cells and in the octets that it is lent.
use Rattle.wire_spec.specs.Result.{Result, Ok, Err}
use Rattle.std.specs.Prelude.{Bool, true, false, cond, ◌&&◌, List, [], ℕ, ◌+◌, ◌-◌, ◌^◌, ◌≤◌, leb, ltb, length}
use Rattle.wire_spec.specs.Bits.{overwrite}
use Rattle.wire_spec.specs.Layout.{Layout}
use Rattle.wire_spec.specs.Packet.{read_content}
use Rattle.rtp_strict_reader.specs.Answers.{cells_after}
use Rattle.rtp_frames.specs.Frames.{Front, end, cut, frame}
use Rattle.streamcheck_spec.specs.declared.checker.Checker.{Checker}
use Rattle.streamcheck_spec.specs.Check.{entries, opened}
use Rattle.streamcheck_spec.specs.Code.{findings_in, turn}
use Rattle.streamcheck_spec.specs.Text as text
use Rattle.streamcheck_spec.specs.Text.{report_text}
use Rattle.streamcheck_lines.specs.Lines.{cut_text, lines_room}
use Rattle.program_spec.specs.Frames.{FrameProgram}
use Rattle.program_spec.specs.Run.{room_too_small}
use Rattle.streamcheck_session.specs.declared.session.Session.{Session}

-- the lines of a packet
unfoldable pub packet_text : Session → List ℕ → List ℕ
packet_text s p = report_text (entries s.index (findings_in (turn s.layout s.checker p).outcome))

-- enough cells for the records of any packet, which has an octet for each of them, and octets for its lines; and the frame can still be counted:
-- a run has fewer than 2^64 turns, so its index never gets that far
abbrev pub roomy : (cells : Bool) (out index : ℕ) → Bool
roomy cells out index = cells && (leb lines_room out && ltb index (2 ^ 64 - 1))

-- the cells behind a frame: those of its packet's records are at their front
abbrev pub cells_then : (roomy : Bool) → Session → Front → List ℕ → List ℕ
cells_then false s f cells = cells
cells_then true s end cells = cells
cells_then true s cut cells = cells
cells_then true s (frame p rest) cells = cells_after (read_content s.layout p) cells

-- its octets, where there is room
abbrev pub text_of : Bool → List ℕ → Result ℕ
text_of roomy t = cond roomy (Ok (length t)) (Err room_too_small)

abbrev pub text_after : Bool → List ℕ → List ℕ → List ℕ
text_after roomy t out = cond roomy (overwrite t out) out

abbrev pub TextFits : Result ℕ → (out : ℕ) → Type 0
TextFits (Err x) out = Unit {0}
TextFits (Ok n) out = n ≤ out

-- before the first frame
abbrev pub begun : Layout → Session
begun L = record { layout = L; index = 0; checker = opened }

-- behind a packet
abbrev pub behind : Session → List ℕ → Session
behind s p = record { layout = s.layout; index = s.index + 1; checker = (turn s.layout s.checker p).checker }

abbrev pub counted : Session → Checker → Session
counted s k = record { layout = s.layout; index = s.index + 1; checker = k }

-- `streamcheck` AS A PROGRAM over frames: what is carried from packet to packet is the session; told whether there are cells for any packet
abbrev pub streamcheck : (cells : Bool) → FrameProgram
streamcheck cells =
    record {
      State = Session;
      room = λ (s : Session) (n : ℕ). roomy cells n s.index;
      first = [];
      text = packet_text;
      next = behind;
      last = λ (broken : Bool) (s : Session). cut_text broken s.index;
    }

-- what is printed for the rest of an input
abbrev pub remaining : Session → List ℕ → List ℕ
remaining s input = text.remaining s.layout s.index s.checker input
