-- What the code answers, and what it leaves in the store and in the octets that it is lent.
use Rattle.depacketizer.specs.declared.state.Depacketizer.{Depacketizer}
use Rattle.std.specs.Prelude.{Bool, cond, List, ℕ, ◌≤◌, length}
use Rattle.wire_spec.specs.Bits.{overwrite}
use Rattle.wire_spec.specs.Result.{Result, Ok, Err}
use Rattle.depacketizer_spec.specs.Step.{open_of}
use Rattle.depacketizer.specs.Answers.{opened_of}
use Rattle.depacketizer.specs.declared.inspect.Inspected.{Inspected}
use Rattle.fieldlist_session.specs.declared.session.Session.{Session}
use Rattle.fieldlist_session.specs.declared.session.Session.TheVariants as session
use Rattle.fieldlist_lines.specs.Room.{roomy}
use Rattle.program_spec.specs.Frames.{FrameProgram}
use Rattle.program_spec.specs.Run.{room_too_small}
use Rattle.fieldlist_session.specs.Session.{end_text, title, turn}

-- the number of a packet that was inspected, for its line
abbrev pub number_in : Result Inspected → ℕ
number_in (Err x) = 0
number_in (Ok p) = p.summary.head.number.0

-- the depacketizer that it opens
abbrev pub opening_by : Result Inspected → Result Depacketizer
opening_by (Err x) = Err x
opening_by (Ok p) = opened_of (open_of p.summary.head.source p.summary.head.payload_type)

-- the depacketizer that it arrives at
abbrev pub entered_by : Session → Result Inspected → Result Depacketizer
entered_by (session.Waiting L) i = opening_by i
entered_by (session.Open L d) i = Ok d

-- `fieldlist` AS A PROGRAM over frames: what is carried from packet to packet is the session and the store
abbrev pub fieldlist : FrameProgram
fieldlist =
    record {
      State = Session × List ℕ;
      room = λ (s : Session × List ℕ) (n : ℕ). roomy (length s.1) n;
      first = title;
      text = λ (s : Session × List ℕ) (p : List ℕ). (turn s.0 p s.1).text;
      next = λ (s : Session × List ℕ) (p : List ℕ). ((turn s.0 p s.1).session, (turn s.0 p s.1).store);
      last = λ (broken : Bool) (s : Session × List ℕ). end_text broken s.0;
    }

-- a text of its own, where there is room: its octets
abbrev pub text_of : Bool → List ℕ → Result ℕ
text_of roomy t = cond roomy (Ok (length t)) (Err room_too_small)

-- the lent octets then: the text is at their front
abbrev pub text_after : Bool → List ℕ → List ℕ → List ℕ
text_after roomy t out = cond roomy (overwrite t out) out

-- what is counted lies in the octets that were lent
abbrev pub TextFits : Result ℕ → (out : ℕ) → Type 0
TextFits (Err x) out = Unit {0}
TextFits (Ok n) out = n ≤ out
