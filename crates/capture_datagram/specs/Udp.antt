-- A UDP datagram (RFC 768) at the front of the octets `s` that were captured; `room` octets belong to it by the headers before it.
use Rattle.std.specs.Prelude.{Bool, ◌&&◌, List, [], ◌∷◌, ℕ, leb, eqb, length}
use Rattle.capture_datagram.specs.declared.answer.Found.{Found}
use Rattle.capture_datagram.specs.declared.answer.Found.TheVariants as found
use Rattle.capture_datagram.specs.Answer.{pair, Checks, judge}

-- the octets of the header: Source Port, Destination Port, Length, Checksum
abbrev pub udp_header : ℕ
udp_header = 8

-- "Destination Port"
abbrev pub destination : List ℕ → ℕ
destination s = pair s 2

-- "Length is the length in octets of this user datagram including this header and the data"
abbrev pub udp_length : List ℕ → ℕ
udp_length s = pair s 4

-- "This means the minimum value of the length is eight"; and the datagram lies within what carries it
unfoldable pub is_for_port : (port room : ℕ) → List ℕ → Bool
is_for_port port room s = eqb (destination s) port && (leb udp_header (udp_length s) && leb (udp_length s) room)

-- a header without room is malformed; one that has room and was not captured is cut
abbrev pub udp_checks : (port room : ℕ) → List ℕ → Checks Found
udp_checks port room s =
    (leb udp_header room, found.Passed)
    ∷ (leb udp_header (length s), found.Cut)
    ∷ (is_for_port port room s, found.Passed)
    ∷ (leb (udp_length s) (length s), found.Cut)
    ∷ []

unfoldable pub udp_in : (port room : ℕ) → List ℕ → Found
udp_in port room s = judge (udp_checks port room s) (found.Frame udp_header (udp_length s))
