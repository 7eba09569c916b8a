-- Whole captures as the drafts have them written, and the payloads that they hold for a port.
use Rattle.std.specs.Prelude.{Bool, List, [], ◌∷◌, ◌++◌, ℕ, ◌+◌, ◌%◌, ◌≤◌, ◌≡◌, length}
use Rattle.capture_spec.specs.declared.state.Order.{Order}
use Rattle.capture_spec.specs.Numbers.{max_item}
use Rattle.capture_spec.specs.Written.{enhanced_of, head_of, interface_of, magic_of, record_of, section_of}
use Rattle.capture_datagram.specs.Link.{datagram_in}
use Rattle.pcapframes_spec.specs.Frames.{found_then}

-- a packet as it is captured: two numbers of time, its original length, its captured octets; and in a block what follows them
pub record Captured : Type 0 where
  pub high : ℕ
  pub low : ℕ
  pub original : ℕ
  pub octets : List ℕ
  pub more : List ℕ

-- pcap: the file's header, and a record for each packet
abbrev pub records_of : Order → List Captured → List ℕ
records_of o [] = []
records_of o (c ∷ cs) = record_of o c.high c.low c.original c.octets ++ records_of o cs

abbrev pub pcap_of : Order → (nano : Bool) (snap link : ℕ) → List Captured → List ℕ
pcap_of o nano snap link cs = head_of o (magic_of nano) snap link ++ records_of o cs

-- pcapng: a section with one interface, and a block for each packet
abbrev pub blocks_of : Order → List Captured → List ℕ
blocks_of o [] = []
blocks_of o (c ∷ cs) = enhanced_of o 0 c.high c.low c.original c.octets c.more ++ blocks_of o cs

abbrev pub pcapng_of : Order → (link snap : ℕ) → List Captured → List ℕ
pcapng_of o link snap cs = section_of o ++ (interface_of o link snap ++ blocks_of o cs)

-- what is written is no longer than what is read
abbrev pub RecordsFit : List Captured → Type 0
RecordsFit [] = Unit {0}
RecordsFit (c ∷ cs) = (16 + length c.octets ≤ max_item) × RecordsFit cs

-- and a block's length is a multiple of four
abbrev pub BlocksFit : List Captured → Type 0
BlocksFit [] = Unit {0}
BlocksFit (c ∷ cs) =
    ((32 + (length c.octets + length c.more)) % 4 ≡ 0) × (32 + (length c.octets + length c.more) ≤ max_item) × BlocksFit cs

-- THE PAYLOADS of the packets for the port, in order
abbrev pub payloads_among : (port link : ℕ) → List Captured → List (List ℕ)
payloads_among port link [] = []
payloads_among port link (c ∷ cs) = found_then c.octets (datagram_in c.octets link port) (payloads_among port link cs)
