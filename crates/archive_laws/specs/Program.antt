-- THE PROGRAM: what `fieldsave` has written when it has come to its end and says that all was written, over the pieces that it read and wrote.
use Rattle.std.specs.Prelude.{◌≡◌, true, List, [], ◌++◌, map, ℕ, ◌≤◌, length}
use Rattle.wire_spec.specs.Bits.{Below}
use Rattle.wire_spec.specs.Layout.{Layout}
use Rattle.wire_spec.specs.Anc.{Each}
use Rattle.wire_spec.specs.Writing.{max_field_cells}
use Rattle.fieldfile_spec.specs.File.{end_of_file, read_file}
use Rattle.rtp_frames.specs.Frames.{frames}
use Rattle.depacketizer_spec.specs.Stream.{Stream, WellFormedStream, Arriving, octets_of, fresh, Near}
use Rattle.program_spec.specs.declared.buffers.Buffers.{Buffers}
use Rattle.program_spec.specs.Buffers.{is_done, written_in}
use Rattle.fieldlist_session.specs.declared.session.Session.TheVariants as session
use Rattle.fieldsave_turns.specs.Turns.{Ended}
use Rattle.archive_laws.specs.Archive.{OpenedByStream, Recorded, archived, calls_of}
use Rattle.archive_laws.specs.AnyArchive.{fresh_in}
use Rattle.archive_laws.specs.Exact.{whole_fields, written}

-- `Ended` is what the function `file` of `fieldsave` promises of the buffers that it answers
abbrev pub ProgramAsSent : Type 0
ProgramAsSent = (s : Stream) → WellFormedStream s → (tape : List Arriving) → Each (Recorded s) tape → OpenedByStream s tape → Near (calls_of tape)
    → (store left out : List ℕ) → max_field_cells ≤ length store
    → (after : Buffers) → is_done after ≡ true → (e : Ended s.layout store left out after)
    → Below 256 e.2.read → (frames e.2.read).packets ≡ map (octets_of s) tape
    → read_file (e.2.written ++ written_in e.2.closed.ready after out)
    ≡ record { fields = archived 0 s.fields (fresh (calls_of tape)); end = end_of_file }

-- and whatever was read, it is exactly what its fresh packets tell
abbrev pub ProgramExact : Type 0
ProgramExact = (L : Layout) (store left out : List ℕ) → max_field_cells ≤ length store
    → (after : Buffers) → is_done after ≡ true → (e : Ended L store left out after) → Below 256 e.2.read
    → read_file (e.2.written ++ written_in e.2.closed.ready after out)
    ≡ record { fields = map written (whole_fields [] [] (fresh_in (session.Waiting L) store (frames e.2.read).packets)); end = end_of_file }
