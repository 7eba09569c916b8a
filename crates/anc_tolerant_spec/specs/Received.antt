-- ANC data packets as they came, each with some ten-bit word in the place of its checksum: what the tolerant way takes, said without a reader.
use Rattle.std.specs.Prelude.{◌≡◌, Bool, cond, List, [], ◌∷◌, ◌++◌, ℕ, suc, ◌^◌, ◌<◌, eqb, length}
use Rattle.wire_spec.specs.Words.{word_bits}
use Rattle.wire_spec.specs.Layout.{Layout}
use Rattle.wire_spec.specs.Anc.{Each, Record, WellFormed, checksum, anc_octets_with}
use Rattle.wire_spec.specs.Packet.{Packet, WellFormedPacket, packet_around, content}
use Rattle.wire_spec.specs.Writing.{with_records}
use Rattle.anc_tolerant_spec.specs.Tolerant.{Taken, Tolerated}

-- a packet's record, and the word that stands in its checksum's place
pub record Received : Type 0 where
  pub says : Record
  pub word : ℕ

pub record WellReceived (L : Layout) (p : Received) : Type 0 where
  pub formed : WellFormed L p.says
  pub word : p.word < 2 ^ word_bits

-- packets one behind the other
abbrev pub received_octets : Layout → List Received → List ℕ
received_octets L [] = []
received_octets L (p ∷ ps) = anc_octets_with L p.says p.word ++ received_octets L ps

-- what they say, all of them
abbrev pub records_of : List Received → List Record
records_of [] = []
records_of (p ∷ ps) = p.says ∷ records_of ps

-- the word is the record's own checksum
abbrev pub is_own : Received → Bool
is_own p = eqb p.word (checksum p.says)

-- "the rest come through in order"
abbrev pub through_of : List Received → List Record
through_of [] = []
through_of (p ∷ ps) = cond (is_own p) (p.says ∷ through_of ps) (through_of ps)

-- "left out and counted"
abbrev pub left_out_of : List Received → ℕ
left_out_of [] = 0
left_out_of (p ∷ ps) = cond (is_own p) (left_out_of ps) (suc (left_out_of ps))

-- `n` packets stand at the front of the octets `s`: what comes through of them, and how many are left out
pub record Gives (L : Layout) (n : ℕ) (s : List ℕ) (ps : List Received) (q : Taken) : Type 0 where
  pub count : length ps ≡ n
  pub formed : Each (WellReceived L) ps
  pub octets : s ≡ received_octets L ps ++ q.rest
  pub through : q.records ≡ through_of ps
  pub left_out : q.left_out ≡ left_out_of ps

-- The octets `s` are those of the packet `p`, with these ANC packets in the place of its records': what it says with the records that come through,
-- and how many are left out.
pub record Comes (L : Layout) (s : List ℕ) (p : Packet) (ps : List Received) (t : Tolerated) : Type 0 where
  pub formed : WellFormedPacket L p
  pub received : Each (WellReceived L) ps
  pub records : p.records ≡ records_of ps
  pub octets : s ≡ packet_around L p (received_octets L ps)
  pub says : with_records (content p) (through_of ps) ≡ t.says
  pub left_out : left_out_of ps ≡ t.left_out
