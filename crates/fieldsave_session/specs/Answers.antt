-- What the code answers for a frame, and what it leaves in the octets that it is lent.
use Rattle.wire_spec.specs.Result.{Result, Ok, Err}
use Rattle.wire_spec.specs.declared.count.OctetCount.{OctetCount}
use Rattle.std.specs.Prelude.{Bool, List, [], ℕ, leb}
use Rattle.fieldfile_spec.specs.File.{file_head, written_version}
use Rattle.program_spec.specs.Frames.{FrameProgram}
use Rattle.fieldlist_session.specs.declared.session.Session.{Session}
use Rattle.fieldlist_session.specs.Session.{turn}
use Rattle.fieldsave_session.specs.Filing.{field_room, filed}

-- room for any field
abbrev pub roomy : (out : ℕ) → Bool
roomy out = leb field_room out

-- `fieldsave` AS A PROGRAM over frames: what is carried from packet to packet is the session and the store; there is nothing to write at the end
abbrev pub fieldsave : FrameProgram
fieldsave =
    record {
      State = Session × List ℕ;
      room = λ (s : Session × List ℕ) (n : ℕ). roomy n;
      first = file_head written_version;
      text = λ (s : Session × List ℕ) (p : List ℕ). filed s.0 p s.1;
      next = λ (s : Session × List ℕ) (p : List ℕ). ((turn s.0 p s.1).session, (turn s.0 p s.1).store);
      last = λ (broken : Bool) (s : Session × List ℕ). [];
    }

-- the octets that a writer wrote
abbrev pub octets_in : Result OctetCount → ℕ
octets_in (Ok n) = n.0
octets_in (Err x) = 0
