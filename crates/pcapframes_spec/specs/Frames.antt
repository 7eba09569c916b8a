-- The frames of a capture's datagrams: THE OUTPUT of `pcapframes`, as a definition over all of the capture.
use Rattle.std.specs.Prelude.{cond, List, [], ◌∷◌, ◌++◌, ℕ, zero, suc, ◌/◌, ◌%◌, length, take, drop, Ok, Err}
use Rattle.capture_spec.specs.Items.{Read}
use Rattle.capture_spec.specs.declared.state.Item.TheVariants as item
use Rattle.capture_spec.specs.declared.state.State.{State}
use Rattle.capture_spec.specs.declared.state.Place.{Place}
use Rattle.capture_spec.specs.Step.{behind, opened, step_of}
use Rattle.capture_datagram.specs.declared.answer.Found.{Found}
use Rattle.capture_datagram.specs.declared.answer.Found.TheVariants as found
use Rattle.capture_datagram.specs.Answer.{payload_of}
use Rattle.capture_datagram.specs.Link.{datagram_in, is_link_taken}
use Rattle.capture_spec.specs.declared.state.Unread.TheVariants as unread

-- RFC 4571, section 2: LENGTH, most significant octet first, then the packet
abbrev pub frame_of : List ℕ → List ℕ
frame_of p = length p / 256 ∷ length p % 256 ∷ p

-- frames one behind the other
abbrev pub framed : List (List ℕ) → List ℕ
framed [] = []
framed (p ∷ ps) = frame_of p ++ framed ps

-- the octets of a packet, in its item
abbrev pub packet_in : Place → List ℕ → List ℕ
packet_in p o = take p.size (drop p.at o)

-- the payload that was found before the others
abbrev pub found_then : List ℕ → Found → List (List ℕ) → List (List ℕ)
found_then packet (found.Frame a b) ps = payload_of packet a b ∷ ps
found_then packet found.Passed ps = ps
found_then packet found.Fragment ps = ps
found_then packet found.Cut ps = ps

-- the payloads of the item at the front, and then those of the rest; none behind a refusal, nor from a link type that is not taken on
abbrev pub payloads_on : ℕ → (State → List ℕ → List (List ℕ)) → State → List ℕ → Read → List (List ℕ)
payloads_on port next st o (Err unread.Short) = []
payloads_on port next st o (Err (unread.Refused x)) = []
payloads_on port next st o (Ok (item.Head c n)) = next (behind st (Ok (item.Head c n))) (drop n o)
payloads_on port next st o (Ok (item.Interface link snap n)) = next (behind st (Ok (item.Interface link snap n))) (drop n o)
payloads_on port next st o (Ok (item.Other n)) = next st (drop n o)
payloads_on port next st o (Ok (item.Packet p n)) =
    cond (is_link_taken p.link) (found_then (packet_in p o) (datagram_in (packet_in p o) p.link port) (next st (drop n o))) []

-- those of the first `most` items
unfoldable pub payloads_in : ℕ → (most : ℕ) → State → List ℕ → List (List ℕ)
payloads_in port zero st o = []
payloads_in port (suc m) st o = payloads_on port (payloads_in port m) st o (step_of st o)

-- the payloads of the UDP datagrams to a port, in the order of the capture: each item has an octet at the least
abbrev pub payloads_of : (port : ℕ) → List ℕ → List (List ℕ)
payloads_of port o = payloads_in port (suc (length o)) opened o

-- THE OUTPUT
abbrev pub frames_of : (port : ℕ) → List ℕ → List ℕ
frames_of port o = framed (payloads_of port o)
