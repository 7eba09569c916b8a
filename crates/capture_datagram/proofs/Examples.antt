-- Captured packets by hand, and what each holds for port 20000: computed.
use mathlib.Core.Path.{◌≡◌, refl}
use mathlib.Core.Bool.{true, false}
use mathlib.Core.List.{List, [], ◌∷◌, ◌++◌, map}
use Prim.Native.Nat.{ℕ}
use lib.ListN.{take, drop}
use Rattle.capture_datagram.specs.declared.answer.Found.{Found}
use Rattle.capture_datagram.specs.declared.answer.Found.TheVariants as found
use Rattle.capture_datagram.specs.Link.{link_of, is_tag, tag_octets, tagged, raw_in, link_in, datagram_in, is_link_taken}
use Rattle.capture_datagram.specs.Answer.{payload_of}
use Rattle.capture_datagram.specs.Ip.{
  is_ipv4_udp,
  is_ipv4_whole,
  ipv4_in,
  is_extension,
  leads_to_udp,
  extension_size,
  is_ipv6_whole,
  extension_in,
  headers_in,
  is_ipv6_udp,
  ipv6_in,
}
use Rattle.capture_datagram.specs.Udp.{is_for_port, udp_in}

-- from port 5004 to port 20000 (0x4E20): a length of 11, and three octets
abbrev udp : List ℕ
udp = 0x13 ∷ 0x8C ∷ 0x4E ∷ 0x20 ∷ 0x00 ∷ 0x0B ∷ 0x00 ∷ 0x00 ∷ 0x41 ∷ 0x42 ∷ 0x43 ∷ []

-- addresses of 4 octets, twice
abbrev ends : List ℕ
ends = 10 ∷ 0 ∷ 0 ∷ 1 ∷ 239 ∷ 1 ∷ 1 ∷ 1 ∷ []

-- an IPv4 header of 20 octets, with the octets of flags and offset, and the protocol
abbrev ipv4 : (flags offset protocol : ℕ) → List ℕ
ipv4 f o p = 0x45 ∷ 0x00 ∷ 0x00 ∷ 31 ∷ 0x12 ∷ 0x34 ∷ f ∷ o ∷ 64 ∷ p ∷ 0x00 ∷ 0x00 ∷ ends

-- one with a word of options
abbrev ipv4_options : List ℕ
ipv4_options = 0x46 ∷ 0x00 ∷ 0x00 ∷ 35 ∷ 0x12 ∷ 0x34 ∷ 0x40 ∷ 0x00 ∷ 64 ∷ 17 ∷ 0x00 ∷ 0x00 ∷ (ends ++ (0x94 ∷ 0x04 ∷ 0x00 ∷ 0x00 ∷ []))

-- an IPv6 header, with the payload length and the next header
abbrev ipv6 : (size next : ℕ) → List ℕ
ipv6 n h = 0x60 ∷ 0x00 ∷ 0x00 ∷ 0x00 ∷ 0x00 ∷ n ∷ h ∷ 64 ∷ (ends ++ (ends ++ (ends ++ ends)))

-- extension headers: options of 8 octets, and a fragment's
abbrev options : ℕ → List ℕ
options next = next ∷ 0 ∷ 0x05 ∷ 0x02 ∷ 0x00 ∷ 0x00 ∷ 0x01 ∷ 0x00 ∷ []

abbrev fragment : (next high low : ℕ) → List ℕ
fragment next h l = next ∷ 0 ∷ h ∷ l ∷ 0 ∷ 0 ∷ 0 ∷ 7 ∷ []

-- addresses of the Ethernet header
abbrev stations : List ℕ
stations = 0x01 ∷ 0x00 ∷ 0x5E ∷ 0x01 ∷ 0x01 ∷ 0x01 ∷ 0x02 ∷ 0x00 ∷ 0x00 ∷ 0x00 ∷ 0x00 ∷ 0x01 ∷ []

-- what stands before the protocol type in a Linux cooked capture
abbrev cooked : List ℕ
cooked = 0x00 ∷ 0x01 ∷ 0x00 ∷ 0x01 ∷ 0x00 ∷ 0x06 ∷ 0x02 ∷ 0x00 ∷ 0x00 ∷ 0x00 ∷ 0x00 ∷ 0x01 ∷ 0x00 ∷ 0x00 ∷ []

-- its version 2, with the protocol type first
abbrev cooked_v2 : List ℕ
cooked_v2 =
    0x08 ∷ 0x00 ∷ 0x00 ∷ 0x00 ∷ 0x00 ∷ 0x00 ∷ 0x00 ∷ 0x02
    ∷ 0x00 ∷ 0x01 ∷ 0x01 ∷ 0x06 ∷ 0x02 ∷ 0x00 ∷ 0x00 ∷ 0x00
    ∷ 0x00 ∷ 0x01 ∷ 0x00 ∷ 0x00 ∷ []

-- Ethernet with a service tag and a customer tag
abbrev in_tags : List ℕ → List ℕ
in_tags s = stations ++ (0x88 ∷ 0xA8 ∷ 0x00 ∷ 0x64 ∷ 0x81 ∷ 0x00 ∷ 0x00 ∷ 0x0A ∷ 0x08 ∷ 0x00 ∷ s)

abbrev in_ethernet : List ℕ → List ℕ
in_ethernet s = stations ++ (0x08 ∷ 0x00 ∷ s)

-- a packet of a link type, and what it holds
abbrev Example : Type 0
Example = ℕ × List ℕ × Found

abbrev examples : List Example
examples =
    -- behind tags; the payload of another port; a fragment, the first and a later one; another protocol
    (1, in_tags (ipv4 0x40 0x00 17 ++ udp), found.Frame 50 53)
    ∷ (1, in_tags (ipv4 0x40 0x00 17 ++ (0x4E ∷ 0x20 ∷ 0x13 ∷ 0x8C ∷ drop 4 udp)), found.Passed)
    ∷ (1, in_ethernet (ipv4 0x20 0x00 17 ++ udp), found.Fragment)
    ∷ (1, in_ethernet (ipv4 0x00 0x01 17 ++ udp), found.Fragment)
    ∷ (1, in_ethernet (ipv4 0x20 0x00 6 ++ udp), found.Passed)
    -- options; padding of the link
    ∷ (1, in_ethernet (ipv4_options ++ udp), found.Frame 46 49)
    ∷ (1, in_ethernet (ipv4 0x40 0x00 17 ++ udp) ++ (0x00 ∷ 0x00 ∷ []), found.Frame 42 45)
    -- cut by the capture: in the payload, in the headers of UDP, of IPv4 and of the link, in a tag
    ∷ (1, take 52 (in_tags (ipv4 0x40 0x00 17 ++ udp)), found.Cut)
    ∷ (1, take 49 (in_tags (ipv4 0x40 0x00 17 ++ udp)), found.Cut)
    ∷ (1, take 41 (in_tags (ipv4 0x40 0x00 17 ++ udp)), found.Cut)
    ∷ (1, take 11 (in_tags (ipv4 0x40 0x00 17 ++ udp)), found.Cut)
    ∷ (1, take 15 (in_tags (ipv4 0x40 0x00 17 ++ udp)), found.Cut)
    -- a total length that has no room for the datagram; a length under 8
    ∷ (228, 0x45 ∷ 0x00 ∷ 0x00 ∷ 30 ∷ (drop 4 (ipv4 0x40 0x00 17) ++ udp), found.Passed)
    ∷ (228, ipv4 0x40 0x00 17 ++ (take 5 udp ++ (0x07 ∷ drop 6 udp)), found.Passed)
    -- the other link types; raw packets of either version and of none
    ∷ (113, cooked ++ (0x08 ∷ 0x00 ∷ (ipv4 0x40 0x00 17 ++ udp)), found.Frame 44 47)
    ∷ (276, cooked_v2 ++ (ipv4 0x40 0x00 17 ++ udp), found.Frame 48 51)
    ∷ (101, ipv4 0x40 0x00 17 ++ udp, found.Frame 28 31)
    ∷ (12, ipv6 11 17 ++ udp, found.Frame 48 51)
    ∷ (101, 0x50 ∷ udp, found.Passed)
    ∷ (229, ipv4 0x40 0x00 17 ++ (ends ++ (ends ++ (ends ++ udp))), found.Passed)
    ∷ (105, in_tags (ipv4 0x40 0x00 17 ++ udp), found.Passed)
    -- extension headers; a fragment, one that is a whole datagram, one of another protocol; headers without room, or cut
    ∷ (229, ipv6 19 0 ++ (options 17 ++ udp), found.Frame 56 59)
    ∷ (229, ipv6 27 0 ++ (options 60 ++ (options 17 ++ udp)), found.Frame 64 67)
    ∷ (229, ipv6 19 44 ++ (fragment 17 0x00 0x01 ++ udp), found.Fragment)
    ∷ (229, ipv6 19 44 ++ (fragment 17 0x00 0x08 ++ udp), found.Fragment)
    ∷ (229, ipv6 19 44 ++ (fragment 17 0x00 0x00 ++ udp), found.Frame 56 59)
    ∷ (229, ipv6 19 44 ++ (fragment 6 0x00 0x01 ++ udp), found.Passed)
    ∷ (229, ipv6 7 0 ++ (options 17 ++ udp), found.Passed)
    ∷ (229, ipv6 19 0 ++ take 7 (options 17), found.Cut)
    ∷ (229, ipv6 10 17 ++ udp, found.Passed)
    ∷ []

-- what the definition says, and what is expected, of each
computed : map (λ (e : Example). datagram_in e.1 e.0 20000) examples ≡ map (λ (e : Example). e.2) examples
unfolding
    link_of is_tag tag_octets tagged raw_in link_in
    is_ipv4_udp is_ipv4_whole ipv4_in is_extension leads_to_udp extension_size is_ipv6_whole extension_in headers_in is_ipv6_udp ipv6_in
    is_for_port udp_in
computed = refl

its-payload : payload_of (in_tags (ipv4 0x40 0x00 17 ++ udp)) 50 53 ≡ 0x41 ∷ 0x42 ∷ 0x43 ∷ []
its-payload = refl

-- Ethernet, Linux cooked captures and raw packets; not IEEE 802.11
links-taken : map is_link_taken (1 ∷ 12 ∷ 101 ∷ 113 ∷ 228 ∷ 229 ∷ 276 ∷ 0 ∷ 105 ∷ []) ≡ true ∷ true ∷ true ∷ true ∷ true ∷ true ∷ true ∷ false ∷ false ∷ []
unfolding link_of
links-taken = refl
