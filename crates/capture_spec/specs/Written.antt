-- Captures as the drafts have them written, in other words than the reader's: octets put one behind the other.
use Rattle.std.specs.Prelude.{Bool, true, false, List, [], ◌∷◌, ◌++◌, ℕ, ◌+◌, ◌/◌, ◌%◌, length}
use Rattle.capture_spec.specs.declared.state.Order.{Order}
use Rattle.capture_spec.specs.declared.state.Order.TheVariants as order

-- numbers of two and of four octets
abbrev pub half_of : Order → ℕ → List ℕ
half_of order.Big n = n / 256 ∷ n % 256 ∷ []
half_of order.Little n = n % 256 ∷ n / 256 ∷ []

abbrev pub word_of : Order → ℕ → List ℕ
word_of order.Big n = n / 256 / 256 / 256 ∷ n / 256 / 256 % 256 ∷ n / 256 % 256 ∷ n % 256 ∷ []
word_of order.Little n = n % 256 ∷ n / 256 % 256 ∷ n / 256 / 256 % 256 ∷ n / 256 / 256 / 256 ∷ []

-- pcap, "File Header": magic number, version 2.4, two reserved numbers, SnapLen, link type
abbrev pub head_of : Order → (magic snap link : ℕ) → List ℕ
head_of o magic snap link = word_of o magic ++ (half_of o 2 ++ (half_of o 4 ++ (word_of o 0 ++ (word_of o 0 ++ (word_of o snap ++ word_of o link)))))

-- "Packet Record": two numbers of time, Captured Packet Length, Original Packet Length, the packet
abbrev pub record_of : Order → (seconds fraction original : ℕ) → (packet : List ℕ) → List ℕ
record_of o seconds fraction original p = word_of o seconds ++ (word_of o fraction ++ (word_of o (length p) ++ (word_of o original ++ p)))

-- pcapng, "General Block Structure": type, length, body, length
abbrev pub block_of : Order → (type : ℕ) → (body : List ℕ) → List ℕ
block_of o t body = word_of o t ++ (word_of o (12 + length body) ++ (body ++ word_of o (12 + length body)))

-- "Section Header Block": Byte-Order Magic, version 1.0, Section Length (not told)
abbrev pub section_of : Order → List ℕ
section_of o = block_of o 0x0A0D0D0A (word_of o 0x1A2B3C4D ++ (half_of o 1 ++ (half_of o 0 ++ (word_of o 0xFFFFFFFF ++ word_of o 0xFFFFFFFF))))

-- "Interface Description Block": LinkType, reserved, SnapLen
abbrev pub interface_of : Order → (link snap : ℕ) → List ℕ
interface_of o link snap = block_of o 1 (half_of o link ++ (half_of o 0 ++ word_of o snap))

-- "Enhanced Packet Block": Interface ID, two numbers of time, Captured Packet Length, Original Packet Length, the packet; padding and options are `rest`
abbrev pub enhanced_of : Order → (id high low original : ℕ) → (packet rest : List ℕ) → List ℕ
enhanced_of o id high low original p rest =
    block_of o 6 (word_of o id ++ (word_of o high ++ (word_of o low ++ (word_of o (length p) ++ (word_of o original ++ (p ++ rest))))))

-- "Packet Block (obsolete)": an Interface ID of 16 bits, and Drops Count
abbrev pub obsolete_of : Order → (id drops high low original : ℕ) → (packet rest : List ℕ) → List ℕ
obsolete_of o id drops high low original p rest =
    block_of o 2 (half_of o id ++ (half_of o drops ++ (word_of o high ++ (word_of o low ++ (word_of o (length p) ++ (word_of o original ++ (p ++ rest)))))))

-- "Simple Packet Block": Original Packet Length, the packet
abbrev pub simple_of : Order → (original : ℕ) → (packet rest : List ℕ) → List ℕ
simple_of o original p rest = block_of o 3 (word_of o original ++ (p ++ rest))

-- the magic number of timestamps in nanoseconds, or in microseconds
abbrev pub magic_of : (nano : Bool) → ℕ
magic_of true = 0xA1B23C4D
magic_of false = 0xA1B2C3D4
