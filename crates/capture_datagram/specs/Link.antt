-- A captured packet by its link type (the numbers and layouts of the tcpdump group's page of link-layer header types).
use Rattle.std.specs.Prelude.{Bool, true, false, not, ◌&&◌, ◌||◌, cond, List, [], ◌∷◌, ℕ, ◌+◌, ◌*◌, leb, eqb, length, drop}
use Rattle.capture_datagram.specs.declared.answer.Found.{Found}
use Rattle.capture_datagram.specs.declared.answer.Found.TheVariants as found
use Rattle.capture_datagram.specs.declared.link.Link.{Link}
use Rattle.capture_datagram.specs.declared.link.Link.TheVariants as link
use Rattle.capture_datagram.specs.Answer.{pair, Checks, judge, beyond}
use Rattle.capture_datagram.specs.Ip.{version, ipv4_in, ipv6_in}

-- LINKTYPE_ETHERNET, LINKTYPE_LINUX_SLL, LINKTYPE_LINUX_SLL2, LINKTYPE_RAW (12 where a system's own number was written), LINKTYPE_IPV4,
-- LINKTYPE_IPV6
abbrev pub link_types : List (ℕ × Link)
link_types =
    (1, link.Ethernet)
    ∷ (113, link.Cooked)
    ∷ (276, link.CookedV2)
    ∷ (12, link.Raw)
    ∷ (101, link.Raw)
    ∷ (228, link.Ipv4)
    ∷ (229, link.Ipv6)
    ∷ []

-- the link type of the number `n` in a table
abbrev pub lookup : ℕ → List (ℕ × Link) → Link
lookup n [] = link.Other
lookup n (t ∷ ts) = cond (eqb n t.0) t.1 (lookup n ts)

unfoldable pub link_of : ℕ → Link
link_of n = lookup n link_types

abbrev pub is_taken : Link → Bool
is_taken link.Ethernet = true
is_taken link.Cooked = true
is_taken link.CookedV2 = true
is_taken link.Raw = true
is_taken link.Ipv4 = true
is_taken link.Ipv6 = true
is_taken link.Other = false

-- the link types whose packets are looked into
abbrev pub is_link_taken : ℕ → Bool
is_link_taken n = is_taken (link_of n)

-- RFC 894: "must contain the value hexadecimal 0800"; RFC 2464, section 3: "the value 86DD hexadecimal"
abbrev pub ether_ipv4 : ℕ
ether_ipv4 = 0x0800

abbrev pub ether_ipv6 : ℕ
ether_ipv6 = 0x86DD

-- IEEE 802.1Q, table 9-1: of customer tags, and of service tags; the third is what others used before
abbrev pub customer_tag : ℕ
customer_tag = 0x8100

abbrev pub service_tag : ℕ
service_tag = 0x88A8

abbrev pub older_tag : ℕ
older_tag = 0x9100

unfoldable pub is_tag : ℕ → Bool
is_tag n = eqb n customer_tag || (eqb n service_tag || eqb n older_tag)

-- its Tag Protocol Identifier and its Tag Control Information, two octets each
abbrev pub tag_size : ℕ
tag_size = 4

-- a whole tag stands at the front
unfoldable pub has_tag : List ℕ → Bool
has_tag s = leb tag_size (length s) && is_tag (pair s 0)

-- the octets of the tags at the front that are whole
unfoldable pub tag_octets : List ℕ → ℕ
tag_octets [] = 0
tag_octets (h ∷ []) = 0
tag_octets (h ∷ l ∷ []) = 0
tag_octets (h ∷ l ∷ a ∷ []) = 0
tag_octets (h ∷ l ∷ a ∷ b ∷ s) = cond (is_tag (h * 256 + l)) (tag_size + tag_octets s) 0

-- what the packet at the front is, by the EtherType `type`
abbrev pub typed_in : (port type : ℕ) → List ℕ → Found
typed_in port type s = cond (eqb type ether_ipv4) (ipv4_in port s) (cond (eqb type ether_ipv6) (ipv6_in port s) found.Passed)

-- a tag that is not whole was cut
abbrev pub tag_checks : List ℕ → Checks Found
tag_checks s =
    (leb (tag_octets s + 2) (length s), found.Cut)
    ∷ (not (is_tag (pair s (tag_octets s))), found.Cut)
    ∷ []

-- the tags at the front, the EtherType behind them, and its packet
unfoldable pub tagged : ℕ → List ℕ → Found
tagged port s =
    let n = tag_octets s in
    judge (tag_checks s) (beyond (n + 2) (typed_in port (pair s n) (drop (n + 2) s)))

-- "Raw IP; the packet begins with an IPv4 or IPv6 header, with the version field of the header indicating whether it's an IPv4 or IPv6 header"
unfoldable pub raw_in : ℕ → List ℕ → Found
raw_in port s =
    judge ((leb 1 (length s), found.Cut) ∷ [])
    (cond (eqb (version s) 4) (ipv4_in port s) (cond (eqb (version s) 6) (ipv6_in port s) found.Passed))

-- IEEE 802.3: two addresses of 6 octets, then the EtherType
abbrev pub addresses : ℕ
addresses = 12

-- the packet type, the device type, the address's length and 8 octets for it, then the protocol type; libpcap puts tags there too
abbrev pub cooked_front : ℕ
cooked_front = 14

-- version 2: the protocol type first, in a header of 20 octets
abbrev pub cooked_v2_header : ℕ
cooked_v2_header = 20

-- what stands behind `n` octets that must have been captured
abbrev pub behind : ℕ → (List ℕ → Found) → List ℕ → Found
behind n rest s = judge ((leb n (length s), found.Cut) ∷ []) (beyond n (rest (drop n s)))

unfoldable pub link_in : Link → ℕ → List ℕ → Found
link_in link.Ethernet port s = behind addresses (tagged port) s
link_in link.Cooked port s = behind cooked_front (tagged port) s
link_in link.CookedV2 port s = behind cooked_v2_header (typed_in port (pair s 0)) s
link_in link.Raw port s = raw_in port s
link_in link.Ipv4 port s = ipv4_in port s
link_in link.Ipv6 port s = ipv6_in port s
link_in link.Other port s = found.Passed

-- What one captured packet holds for a UDP destination port.
-- "Cut" comes only where the captured octets end before what decides; all other answers stay whatever octets follow.
abbrev pub datagram_in : (packet : List ℕ) (link port : ℕ) → Found
datagram_in packet link port = link_in (link_of link) port packet
