-- Packets of the internet protocol, version 4 (RFC 791) and 6 (RFC 8200), at the front of the octets `s` that were captured.
use Rattle.std.specs.Prelude.{Bool, true, ◌&&◌, ◌||◌, cond, List, [], ◌∷◌, ℕ, zero, suc, ◌+◌, ◌-◌, ◌*◌, ◌/◌, ◌%◌, leb, eqb, length, drop, get_or, Result, Ok, Err}
use Rattle.capture_datagram.specs.declared.answer.Found.{Found}
use Rattle.capture_datagram.specs.declared.answer.Found.TheVariants as found
use Rattle.capture_datagram.specs.Answer.{pair, Checks, judge, beyond}
use Rattle.capture_datagram.specs.Udp.{udp_in}

-- the number of UDP among protocols and next headers (RFC 768: "protocol 17 (21 octal)")
abbrev pub protocol_udp : ℕ
protocol_udp = 17

-- "The Version field indicates the format of the internet header"
abbrev pub version : List ℕ → ℕ
version s = get_or s 0 0 / 16

-- RFC 791, section 3.1: the header without options
abbrev pub ipv4_header : ℕ
ipv4_header = 20

-- "Internet Header Length is the length of the internet header in 32 bit words", in octets
abbrev pub ipv4_size : List ℕ → ℕ
ipv4_size s = 4 * (get_or s 0 0 % 16)

-- "Total Length is the length of the datagram, measured in octets, including internet header and data"
abbrev pub total_length : List ℕ → ℕ
total_length s = pair s 2

-- "Note that the minimum value for a correct header is 5"
unfoldable pub is_ipv4_udp : List ℕ → Bool
is_ipv4_udp s =
    eqb (version s) 4
    && (leb ipv4_header (ipv4_size s)
    && (leb (ipv4_size s) (total_length s) && eqb (get_or s 9 0) protocol_udp))

-- More Fragments is 0 and the Fragment Offset is 0: the bits of both, behind "Bit 0: reserved" and "Bit 1: (DF)"
unfoldable pub is_ipv4_whole : List ℕ → Bool
is_ipv4_whole s = eqb (pair s 6 % 0x4000) 0

abbrev pub ipv4_checks : List ℕ → Checks Found
ipv4_checks s =
    (leb ipv4_header (length s), found.Cut)
    ∷ (is_ipv4_udp s, found.Passed)
    ∷ (is_ipv4_whole s, found.Fragment)
    ∷ (leb (ipv4_size s) (length s), found.Cut)
    ∷ []

-- the datagram behind the header with its options; what is behind the total length is the link's
unfoldable pub ipv4_in : ℕ → List ℕ → Found
ipv4_in port s = judge (ipv4_checks s) (beyond (ipv4_size s) (udp_in port (total_length s - ipv4_size s) (drop (ipv4_size s) s)))

-- RFC 8200, section 3: the header, and section 4: extension headers, which come in eights of octets
abbrev pub ipv6_header : ℕ
ipv6_header = 40

abbrev pub extension_unit : ℕ
extension_unit = 8

-- section 4.5: "The Fragment header is identified by a Next Header value of 44"
abbrev pub fragment_header : ℕ
fragment_header = 44

-- sections 4.3, 4.4 and 4.6: Hop-by-Hop Options, Routing, Destination Options
abbrev pub hop_by_hop_header : ℕ
hop_by_hop_header = 0

abbrev pub routing_header : ℕ
routing_header = 43

abbrev pub destination_header : ℕ
destination_header = 60

-- a header behind which another stands
unfoldable pub is_extension : ℕ → Bool
is_extension next = eqb next hop_by_hop_header || (eqb next routing_header || (eqb next destination_header || eqb next fragment_header))

-- a header that is UDP's, or one that it may stand behind
unfoldable pub leads_to_udp : ℕ → Bool
leads_to_udp next = eqb next protocol_udp || is_extension next

-- "Hdr Ext Len: .. Length of the .. header in 8-octet units, not including the first 8 octets"; the Fragment header has 8 octets
unfoldable pub extension_size : ℕ → List ℕ → ℕ
extension_size next s = cond (eqb next fragment_header) extension_unit (extension_unit * (1 + get_or s 1 0))

-- "If the fragment is a whole datagram (that is, both the Fragment Offset field and the M flag are zero), then it does not need any
-- further reassembly"
unfoldable pub is_ipv6_whole : ℕ → List ℕ → Bool
is_ipv6_whole next s = cond (eqb next fragment_header) (eqb (pair s 2 / 8) 0 && eqb (pair s 2 % 2) 0) true

-- a header that does not lead to UDP ends the way, before a fragment is told
abbrev pub extension_checks : (next room : ℕ) → List ℕ → Checks (Result ℕ Found)
extension_checks next room s =
    (leb extension_unit room, Err found.Passed)
    ∷ (leb extension_unit (length s), Err found.Cut)
    ∷ (leads_to_udp (get_or s 0 0) && leb (extension_size next s) room, Err found.Passed)
    ∷ (is_ipv6_whole next s, Err found.Fragment)
    ∷ (leb (extension_size next s) (length s), Err found.Cut)
    ∷ []

-- the extension header `next` at the front; the first octet is the "Next Header" behind it
unfoldable pub extension_in : (next room : ℕ) → List ℕ → Result ℕ Found
extension_in next room s = judge (extension_checks next room s) (Ok (extension_size next s))

-- what follows an extension header that is whole
abbrev pub onward : (ℕ → Found) → Result ℕ Found → Found
onward next (Err f) = f
onward next (Ok n) = beyond n (next n)

-- the headers behind one another, `next` the first; the first argument bounds how many there can be
unfoldable pub headers_in : ℕ → (port next room : ℕ) → List ℕ → Found
headers_in zero port next room s = found.Passed
headers_in (suc bound) port next room s =
    cond (is_extension next)
    (onward (λ n. headers_in bound port (get_or s 0 0) (room - n) (drop n s)) (extension_in next room s))
    (udp_in port room s)

-- each has an octet at the least
abbrev pub headers : (port next room : ℕ) → List ℕ → Found
headers port next room s = headers_in (suc (length s)) port next room s

-- "Payload Length .. Length of the IPv6 payload, i.e., the rest of the packet following this IPv6 header, in octets"
abbrev pub payload_length : List ℕ → ℕ
payload_length s = pair s 4

unfoldable pub is_ipv6_udp : List ℕ → Bool
is_ipv6_udp s = eqb (version s) 6 && leads_to_udp (get_or s 6 0)

abbrev pub ipv6_checks : List ℕ → Checks Found
ipv6_checks s =
    (leb ipv6_header (length s), found.Cut)
    ∷ (is_ipv6_udp s, found.Passed)
    ∷ []

unfoldable pub ipv6_in : ℕ → List ℕ → Found
ipv6_in port s = judge (ipv6_checks s) (beyond ipv6_header (headers port (get_or s 6 0) (payload_length s) (drop ipv6_header s)))
