-- A datagram as its sender wraps it, for what is found in it again: each header around what it carries.
-- The numbers are those of the RFCs and of IEEE 802.1Q as they stand there, not by the names of the
-- definitions that find it.
use Rattle.std.specs.Prelude.{◌≡◌, ◌⊎◌, List, [], ◌∷◌, ◌++◌, ℕ, ◌+◌, ◌*◌, ◌/◌, ◌%◌, ◌<◌, ◌≤◌, length}
use Rattle.capture_datagram.specs.declared.answer.Found.TheVariants as found
use Rattle.capture_datagram.specs.Answer.{payload_of}
use Rattle.capture_datagram.specs.Link.{datagram_in}

-- a number of 16 bits, the most significant octet first
abbrev pub word : ℕ → List ℕ
word n = n / 256 ∷ n % 256 ∷ []

-- RFC 768: Source Port, Destination Port, Length, Checksum
abbrev pub udp_around : (source destination checksum : ℕ) → List ℕ → List ℕ
udp_around s d c payload = word s ++ (word d ++ (word (8 + length payload) ++ (word c ++ payload)))

-- which part of a datagram a packet has: More Fragments, and the Fragment Offset
pub record Part : Type 0 where
  pub more : ℕ
  pub offset : ℕ

pub record PartFits (p : Part) : Type 0 where
  pub more : p.more < 2
  pub offset : p.offset < 0x2000

-- all of it
abbrev pub whole : Part
whole = record { more = 0; offset = 0 }

-- not all of it
abbrev pub IsFragment : Part → Type 0
IsFragment p = 0 < p.more + p.offset

-- what an IPv4 header has besides its lengths and its protocol; `flags` are the reserved bit and DF;
-- `words` of options
pub record Ipv4Head : Type 0 where
  pub service : ℕ
  pub identification : ℕ
  pub flags : ℕ
  pub time : ℕ
  pub checksum : ℕ
  pub addresses : List ℕ
  pub words : ℕ
  pub options : List ℕ

pub record Ipv4Fits (h : Ipv4Head) : Type 0 where
  pub addresses : length h.addresses ≡ 8
  pub words : h.words ≤ 10
  pub options : length h.options ≡ 4 * h.words

-- the header of a packet that carries `n` octets of UDP
abbrev pub ipv4_front : Ipv4Head → Part → ℕ → List ℕ
ipv4_front h p n =
    (0x45 + h.words) ∷ h.service ∷ (
    word (20 + 4 * h.words + n) ++ (
    word h.identification ++ (
    word (0x4000 * h.flags + 0x2000 * p.more + p.offset) ++ (
    h.time ∷ 17 ∷ (word h.checksum ++ (h.addresses ++ h.options))
    )
    )
    )
    )

abbrev pub ipv4_around : Ipv4Head → Part → List ℕ → List ℕ
ipv4_around h p s = ipv4_front h p (length s) ++ s

-- RFC 8200, sections 4.3, 4.4 and 4.6: Hop-by-Hop Options, Routing and Destination Options
abbrev pub OptionNumber : ℕ → Type 0
OptionNumber n = (n ≡ 0) ⊎ (n ≡ 43) ⊎ (n ≡ 60)

-- what UDP (RFC 768) may stand behind: nothing, a Fragment header (RFC 8200, section 4.5), or one of those
abbrev pub NextToUdp : ℕ → Type 0
NextToUdp n = (n ≡ 17) ⊎ (n ≡ 44) ⊎ OptionNumber n

-- an extension header: Hop-by-Hop Options, Routing or Destination Options, and its octets behind Hdr Ext Len
pub record Option : Type 0 where
  pub kind : ℕ
  pub units : ℕ
  pub content : List ℕ

pub record OptionFits (o : Option) : Type 0 where
  pub kind : OptionNumber o.kind
  pub content : length o.content ≡ 6 + 8 * o.units

abbrev pub AllFit : List Option → Type 0
AllFit [] = Unit {0}
AllFit (o ∷ os) = OptionFits o × AllFit os

-- the first header before the header `last`, and the headers around `s`, which begins with it
abbrev pub first : List Option → ℕ → ℕ
first [] last = last
first (o ∷ os) last = o.kind

abbrev pub option_front : Option → List Option → ℕ → List ℕ
option_front o os last = first os last ∷ o.units ∷ o.content

abbrev pub options_around : List Option → ℕ → List ℕ → List ℕ
options_around [] last s = s
options_around (o ∷ os) last s = option_front o os last ++ options_around os last s

-- a Fragment header before a header `next`: Next Header, reserved, Fragment Offset 13, reserved 2, M 1,
-- Identification
abbrev pub fragment_around : Part → (next : ℕ) → (ℕ × ℕ) → List ℕ → List ℕ
fragment_around p next id s = next ∷ 0 ∷ (word (8 * p.offset + p.more) ++ (word id.0 ++ (word id.1 ++ s)))

-- what an IPv6 header has besides its length and its next header
pub record Ipv6Head : Type 0 where
  pub class : ℕ
  pub label : ℕ × ℕ × ℕ
  pub hops : ℕ
  pub addresses : List ℕ

pub record Ipv6Fits (h : Ipv6Head) : Type 0 where
  pub class : h.class < 16
  pub addresses : length h.addresses ≡ 32

abbrev pub ipv6_front : Ipv6Head → (next n : ℕ) → List ℕ
ipv6_front h next n = (0x60 + h.class) ∷ h.label.0 ∷ h.label.1 ∷ h.label.2 ∷ (word n ++ (next ∷ h.hops ∷ h.addresses))

abbrev pub ipv6_around : Ipv6Head → List Option → (last : ℕ) → List ℕ → List ℕ
ipv6_around h os last s = ipv6_front h (first os last) (length (options_around os last s)) ++ options_around os last s

-- IEEE 802.1Q, table 9-1: of customer tags and of service tags; the third is what others used before
abbrev pub TagNumber : ℕ → Type 0
TagNumber n = (n ≡ 0x8100) ⊎ (n ≡ 0x88A8) ⊎ (n ≡ 0x9100)

-- tags: a protocol identifier and control information each
abbrev pub AreTags : List (ℕ × ℕ) → Type 0
AreTags [] = Unit {0}
AreTags (t ∷ ts) = TagNumber t.0 × AreTags ts

abbrev pub tags_around : List (ℕ × ℕ) → List ℕ → List ℕ
tags_around [] s = s
tags_around (t ∷ ts) s = word t.0 ++ (word t.1 ++ tags_around ts s)

-- Ethernet: two addresses, tags, the EtherType
abbrev pub ethernet_around : (stations : List ℕ) (tags : List (ℕ × ℕ)) (type : ℕ) → List ℕ → List ℕ
ethernet_around stations tags type s = stations ++ tags_around tags (word type ++ s)

-- link types (the tcpdump group's page): Ethernet, Linux cooked captures of either version, raw IP packets
abbrev pub LinkNumber : ℕ → Type 0
LinkNumber n = (n ≡ 1) ⊎ (n ≡ 113) ⊎ (n ≡ 276) ⊎ (n ≡ 12) ⊎ (n ≡ 101) ⊎ (n ≡ 228) ⊎ (n ≡ 229)

-- the payload is found in the packet of the link type, for the port
pub record Carries (packet : List ℕ) (link port : ℕ) (payload : List ℕ) : Type 0 where
  pub start : ℕ
  pub found : datagram_in packet link port ≡ found.Frame start (start + length payload)
  pub octets : payload_of packet start (start + length payload) ≡ payload
