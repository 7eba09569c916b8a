-- FROM A CAPTURE TO THE ARCHIVE: `pcapframes`, and then `fieldsave` over what it wrote.
use Rattle.std.specs.Prelude.{◌≡◌, Bool, true, List, map, ℕ, ◌%◌, ◌≤◌, length}
use Rattle.wire_spec.specs.Bits.{Below}
use Rattle.wire_spec.specs.Anc.{Each}
use Rattle.wire_spec.specs.Writing.{max_field_cells}
use Rattle.fieldfile_spec.specs.File.{end_of_file, read_file}
use Rattle.depacketizer_spec.specs.Stream.{Stream, WellFormedStream, Arriving, octets_of, fresh, Near}
use Rattle.fieldsave_session.specs.Filing.{filing}
use Rattle.capture_spec.specs.declared.state.Order.{Order}
use Rattle.capture_datagram.specs.Link.{is_link_taken}
use Rattle.pcapframes_spec.specs.Frames.{frames_of, payloads_of}
use Rattle.pcapframes_spec.specs.Written.{BlocksFit, Captured, RecordsFit, payloads_among, pcap_of, pcapng_of}
use Rattle.archive_laws.specs.Archive.{OpenedByStream, Recorded, archived, calls_of}

-- the archive that a capture gives is as sent, where the tape is what its packets for the port hold
abbrev pub CapturedAsSent : (s : Stream) (tape : List Arriving) (port : ℕ) (capture : List ℕ) → Type 0
CapturedAsSent s tape port capture = Below 256 (frames_of port capture) → (store : List ℕ) → max_field_cells ≤ length store
    → read_file (filing s.layout store (frames_of port capture)) ≡ record { fields = archived 0 s.fields (fresh (calls_of tape)); end = end_of_file }

-- FROM A CAPTURE: whatever capture is read, in the payloads that are found in it; of a pcap file and of a pcapng file as the drafts have them written, in their packets'
pub record FromCapture (s : Stream) (tape : List Arriving) : Type 0 where
  pub any : (port : ℕ) (capture : List ℕ) → payloads_of port capture ≡ map (octets_of s) tape → CapturedAsSent s tape port capture
  pub pcap : (port : ℕ) (o : Order) (nano : Bool) (snap link : ℕ) (cs : List Captured) → is_link_taken (link % 65536) ≡ true → RecordsFit cs
      → payloads_among port (link % 65536) cs ≡ map (octets_of s) tape → CapturedAsSent s tape port (pcap_of o nano snap link cs)
  pub pcapng : (port : ℕ) (o : Order) (link snap : ℕ) (cs : List Captured) → is_link_taken link ≡ true → BlocksFit cs
      → payloads_among port link cs ≡ map (octets_of s) tape → CapturedAsSent s tape port (pcapng_of o link snap cs)

abbrev pub CaptureAsSent : Type 0
CaptureAsSent = (s : Stream) → WellFormedStream s → (tape : List Arriving) → Each (Recorded s) tape → OpenedByStream s tape → Near (calls_of tape) → FromCapture s tape
