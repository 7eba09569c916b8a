-- A packet of a field that was gathered, sent on (02, K13: "to send a field on in the packets it arrived in").
use Rattle.std.specs.Prelude.{◌≡◌, ◌↔◌, List, ℕ, length, take, drop}
use Rattle.wire_spec.specs.Layout.{Layout}
use Rattle.wire_spec.specs.Result.{Ok}
use Rattle.wire_spec.specs.Packet.{Content, BareOctets, read_content}
use Rattle.wire_spec.specs.Writing.{content_octets}
use Rattle.rtp_strict_reader.specs.declared.packet.Head.{Head}
use Rattle.rtp_writer.specs.Entry.{write_returns, write_leaves}
use Rattle.depacketizer_spec.specs.Stream.{parts, joined_cells, Sent}
use Rattle.depacketizer_forward.specs.Forward.{packet_cells}

-- the index of a sent packet within its field
abbrev pub index_of : Sent → ℕ
index_of x = length x.before

-- the cells of a field as handed out, behind those of the packets before this one
abbrev pub cells_onward : Sent → List ℕ
cells_onward x = drop (length (joined_cells x.before)) (joined_cells (parts x.field))

-- those with the packet's index
abbrev pub its_cells : Sent → List ℕ
its_cells x = take (packet_cells (index_of x) (cells_onward x)) (cells_onward x)

-- `write`, given them and what the packet of octets `o`, which says `k`, has beside its records: it writes a packet that says the same, and that
-- is the one that arrived exactly where that one had nothing that writing leaves out
pub record SentOn (L : Layout) (h : Head) (cells out o : List ℕ) (k : Content) : Type 0 where
  pub returns : write_returns L h cells out ≡ Ok (record { 0 = length (content_octets L k) })
  pub leaves : take (length (content_octets L k)) (write_leaves L h cells out) ≡ content_octets L k
  pub says : read_content L (content_octets L k) ≡ Ok k
  pub again : (content_octets L k ≡ o) ↔ BareOctets L o
