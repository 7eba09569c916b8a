-- What a call returns as numbers: its own, and those that it writes to the first numbers of the answer's row.
use Rattle.wire_spec.specs.Result.{Result, Ok, Err}
use Rattle.std.specs.Prelude.{List, [], ◌∷◌, ℕ}
use Rattle.wire_spec.specs.Bits.{bit}
use Rattle.rtp_strict_reader.specs.declared.packet.Summary.{Summary}
use Rattle.rtp_reader.specs.declared.packet.TolerantRead.{TolerantRead}
use Rattle.capi_answer.specs.Rows.{Reply, accepted_reply, refused_reply}

-- what a packet says: source, payload type, marker, packet number, timestamp, F, records, cells; and how many records were left out (02, K9)
abbrev pub summary_row : Summary → ℕ → List ℕ
summary_row s omitted =
    s.head.source
    ∷ s.head.payload_type
    ∷ bit s.head.marker
    ∷ s.head.number.0
    ∷ s.head.timestamp.0
    ∷ s.head.f
    ∷ s.records
    ∷ s.cells
    ∷ omitted
    ∷ []

-- a packet read
abbrev pub packet_reply : Result TolerantRead → Reply
packet_reply (Err x) = refused_reply x
packet_reply (Ok p) = accepted_reply (summary_row p.summary p.omitted)
