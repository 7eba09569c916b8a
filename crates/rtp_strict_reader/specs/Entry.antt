-- What the entry point `read_strict` returns and leaves, and what that says of a packet (demand 2: "the records are the ones they define").
use Rattle.wire_spec.specs.Result.{Result}
use Rattle.std.specs.Prelude.{◌≡◌, List, ℕ, ◌+◌, ◌*◌, ◌≤◌, length}
use Rattle.wire_spec.specs.Bits.{bit}
use Rattle.wire_spec.specs.Layout.{Layout}
use Rattle.wire_spec.specs.Cells.{list_of}
use Rattle.wire_spec.specs.Packet.{Packet, WellFormedPacket, packet_octets, read_into}
use Rattle.rtp_strict_reader.specs.declared.packet.Summary.{Summary}
use Rattle.rtp_strict_reader.specs.Answers.{read_of, cells_after}

-- what `read_strict` returns for these octets, in the layout that it is told, and this lent list
abbrev pub read_returns : Layout → (octets cells : List ℕ) → Result Summary
read_returns L s cells = read_of (read_into L s (length cells))

-- what the lent list then holds
abbrev pub read_leaves : Layout → (octets cells : List ℕ) → List ℕ
read_leaves L s cells = cells_after (read_into L s (length cells)) cells

-- what is returned is the packet's own, value by value
pub record Says (k : Packet) (m : Summary) : Type 0 where
  pub source : m.head.source ≡ k.source
  pub type : m.head.payload_type ≡ k.type
  pub marker : bit m.head.marker ≡ k.marker
  pub number : m.head.number.0 ≡ k.extended * 65536 + k.sequence
  pub timestamp : m.head.timestamp.0 ≡ k.timestamp
  pub f : m.head.f ≡ k.f
  pub records : m.records ≡ length k.records
  pub cells : m.cells ≡ length (list_of k.records)

-- the octets are those of a well-formed packet that says this, and its records fit the lent list
pub record Holds (L : Layout) (octets cells : List ℕ) (k : Packet) (m : Summary) : Type 0 where
  pub formed : WellFormedPacket L k
  pub octets-are : octets ≡ packet_octets L k
  pub says : Says k m
  pub fits : length (list_of k.records) ≤ length cells
