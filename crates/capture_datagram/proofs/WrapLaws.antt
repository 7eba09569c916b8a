-- A datagram that is wrapped is found again: each header tells what it carries, and how much.
-- By the header's own octets; the numbers of 16 bits are what was written.
use Rattle.std.specs.Prelude.{Ok}
use mathlib.Core.Path.{◌≡◌, refl, ap, sym, ◌∙◌}
use mathlib.Core.Bool.{Bool, true, false, cond, ◌&&◌, and-true, and-false, or-true}
use mathlib.Core.List.{List, [], ◌∷◌, ◌++◌, append_assoc}
use mathlib.Core.Logic.{inl, inr}
use Prim.Native.Nat.{ℕ, zero, suc, ◌+◌, ◌-◌, ◌*◌, ◌/◌, ◌%◌, ◌<◌}
use native.Mathlib.Omega.{arith}
use borrow.Author.Tests.{le-leb, eq-eqb, ne_eqb}
use lib.Dec.{leb, eqb}
use lib.ListN.{length, take, drop, length-append}
use lib.Seq.{drop_at, take_at}
use Rattle.wire_spec.proofs.ResultLaws.{and_both}
use Rattle.capture_datagram.specs.declared.answer.Found.{Found}
use Rattle.capture_datagram.specs.declared.answer.Found.TheVariants as found
use Rattle.capture_datagram.specs.Answer.{pair, beyond, payload_of}
use Rattle.capture_datagram.specs.Udp.{destination, udp_length, is_for_port, udp_in}
use Rattle.capture_datagram.specs.Ip.{
  ipv4_size,
  total_length,
  is_ipv4_udp,
  is_ipv4_whole,
  ipv4_checks,
  ipv4_in,
  fragment_header,
  is_extension,
  leads_to_udp,
  extension_size,
  is_ipv6_whole,
  extension_checks,
  extension_in,
  headers,
  is_ipv6_udp,
  payload_length,
  ipv6_checks,
  ipv6_in,
}
use Rattle.capture_datagram.specs.Link.{is_tag, has_tag, tag_octets, typed_in, tagged, link_of, link_in, datagram_in}
use Rattle.capture_datagram.specs.Wrapped.{
  word,
  udp_around,
  Ipv4Head,
  Ipv4Fits,
  ipv4_front,
  ipv4_around,
  Part,
  PartFits,
  whole,
  IsFragment,
  fragment_around,
  OptionNumber,
  NextToUdp,
  Option,
  OptionFits,
  AllFit,
  first,
  option_front,
  options_around,
  Ipv6Head,
  Ipv6Fits,
  ipv6_front,
  ipv6_around,
  TagNumber,
  AreTags,
  tags_around,
  ethernet_around,
  Carries,
}
use Rattle.capture_datagram.proofs.AnswerLaws.{judge-holds}
use Rattle.capture_datagram.proofs.FieldLaws.{pair-drop, beyond-beyond}
use Rattle.capture_datagram.proofs.IpLaws.{headers-udp, headers-end, headers-next}
use Rattle.capture_datagram.proofs.LinkLaws.{tag-next, tag-none, beyond-none}
use Rattle.capture_datagram.proofs.StayLaws.{decided-stays}

-- the numbers that senders write are those that are looked for
option_is : (n : ℕ) → OptionNumber n → is_extension n ≡ true
unfolding is_extension
option_is n (inl e) = ap is_extension e
option_is n (inr (inl e)) = ap is_extension e
option_is n (inr (inr e)) = ap is_extension e

option-other : (n : ℕ) → OptionNumber n → eqb n fragment_header ≡ false
option-other n (inl e) = ap (λ (m : ℕ). eqb m fragment_header) e
option-other n (inr (inl e)) = ap (λ (m : ℕ). eqb m fragment_header) e
option-other n (inr (inr e)) = ap (λ (m : ℕ). eqb m fragment_header) e

next-is : (n : ℕ) → NextToUdp n → leads_to_udp n ≡ true
unfolding leads_to_udp is_extension
next-is n (inl e) = ap leads_to_udp e
next-is n (inr (inl e)) = ap leads_to_udp e
next-is n (inr (inr h)) = rw (option_is n h) (or-true (eqb n 17))

next-is-not : (n : ℕ) → (NextToUdp n → ⊥) → leads_to_udp n ≡ false
unfolding leads_to_udp is_extension
next-is-not n none =
    rw (
      ne_eqb n 17 (λ e. none (inl e)),
      ne_eqb n 44 (λ e. none (inr (inl e))),
      ne_eqb n 0 (λ e. none (inr (inr (inl e)))),
      ne_eqb n 43 (λ e. none (inr (inr (inr (inl e))))),
      ne_eqb n 60 (λ e. none (inr (inr (inr (inr e))))),
    )

tag_is : (n : ℕ) → TagNumber n → is_tag n ≡ true
unfolding is_tag
tag_is n (inl e) = ap is_tag e
tag_is n (inr (inl e)) = ap is_tag e
tag_is n (inr (inr e)) = ap is_tag e

tag-is-not : (n : ℕ) → (TagNumber n → ⊥) → is_tag n ≡ false
unfolding is_tag
tag-is-not n none =
    rw (
      ne_eqb n 0x8100 (λ e. none (inl e)),
      ne_eqb n 0x88A8 (λ e. none (inr (inl e))),
      ne_eqb n 0x9100 (λ e. none (inr (inr e))),
    )

-- what a datagram to `destination` answers
abbrev answer : (destination port size : ℕ) → Found
answer d port n = cond (eqb d port) (found.Frame 8 (8 + n)) found.Passed

udp-around : (source d checksum port : ℕ) (payload : List ℕ)
    → let u = udp_around source d checksum payload in
    udp_in port (length u) u ≡ answer d port (length payload)
unfolding udp_in is_for_port
udp-around source d checksum port payload =
    let n = length payload in
    let u = udp_around source d checksum payload in
    let to : destination u ≡ d = omega arith in
    let size : udp_length u ≡ 8 + n = omega arith in
    let least : leb 8 (length u) ≡ true = le-leb 8 (length u) (omega arith) in
    let whole : leb (8 + n) (length u) ≡ true = le-leb (8 + n) (length u) (omega arith) in
    let some : leb 8 (8 + n) ≡ true = le-leb 8 (8 + n) (omega arith) in
    rw (least, to, size, some, whole) (ap (λ (b : Bool). cond b (found.Frame 8 (8 + n)) found.Passed) (and-true (eqb d port)))

module _ (h : Ipv4Head) (p : Part) (u : List ℕ) (fits : Ipv4Fits h) (part : PartFits p) where
  ipv4-front : length (ipv4_front h p (length u)) ≡ 20 + 4 * h.words
  ipv4-front = omega (arith, length-append h.addresses h.options, fits.addresses, fits.options)

  ipv4-length : length (ipv4_around h p u) ≡ 20 + 4 * h.words + length u
  ipv4-length = length-append (ipv4_front h p (length u)) u ∙ ap (λ (n : ℕ). n + length u) ipv4-front

  ipv4-size : ipv4_size (ipv4_around h p u) ≡ 20 + 4 * h.words
  ipv4-size = omega (arith, fits.words)

  ipv4-total : total_length (ipv4_around h p u) ≡ 20 + 4 * h.words + length u
  ipv4-total = omega arith

  ipv4-long : leb 20 (length (ipv4_around h p u)) ≡ true
  ipv4-long = le-leb 20 (length (ipv4_around h p u)) (omega (arith, ipv4-length))

  ipv4-udp : is_ipv4_udp (ipv4_around h p u) ≡ true
  unfolding is_ipv4_udp
  ipv4-udp =
      let s = ipv4_around h p u in
      and_both (eq-eqb ((0x45 + h.words) / 16) 4 (omega (arith, fits.words)))
      (and_both (le-leb 20 (ipv4_size s) (omega (arith, ipv4-size)))
      (and_both (le-leb (ipv4_size s) (total_length s) (omega (arith, ipv4-size, ipv4-total))) refl))

  -- the bits of More Fragments and of the Fragment Offset
  ipv4-part : pair (ipv4_around h p u) 6 % 0x4000 ≡ 0x2000 * p.more + p.offset
  ipv4-part = omega (arith, part.more, part.offset)

  -- the whole of a datagram
  ipv4-around : (port : ℕ) → p ≡ whole → ipv4_in port (ipv4_around h p u) ≡ beyond (20 + 4 * h.words) (udp_in port (length u) u)
  unfolding ipv4_in is_ipv4_whole
  ipv4-around port all =
      let s = ipv4_around h p u in
      let n = 20 + 4 * h.words in
      let room : n + length u - n ≡ length u = omega arith in
      let none : pair s 6 % 0x4000 ≡ 0 = ipv4-part ∙ ap (λ (q : Part). 0x2000 * q.more + q.offset) all in
      judge-holds (ipv4_checks s) (beyond (ipv4_size s) (udp_in port (total_length s - ipv4_size s) (drop (ipv4_size s) s)))
      (ipv4-long, (ipv4-udp, (eq-eqb (pair s 6 % 0x4000) 0 none, (le-leb (ipv4_size s) (length s) (omega (arith, ipv4-size, ipv4-length)), tt))))
      ∙ rw (ipv4-size, ipv4-total, room, drop_at (ipv4_front h p (length u)) u n ipv4-front)

  -- a part of one
  ipv4-fragment : (port : ℕ) → IsFragment p → ipv4_in port (ipv4_around h p u) ≡ found.Fragment
  unfolding ipv4_in is_ipv4_whole
  ipv4-fragment port some =
      let s = ipv4_around h p u in
      rw (ipv4-long, ipv4-udp, ne_eqb (pair s 6 % 0x4000) 0 (λ e. omega (arith, ipv4-part)))

-- a header and those behind it
abbrev options-size : List Option → ℕ
options-size [] = 0
options-size (o ∷ os) = 8 * (1 + o.units) + options-size os

first-leads : (os : List Option) (last : ℕ) → AllFit os → leads_to_udp last ≡ true → leads_to_udp (first os last) ≡ true
unfolding leads_to_udp
first-leads [] last fits l = l
first-leads (o ∷ os) last fits l = rw (option_is o.kind fits.0.kind) (or-true (eqb o.kind 17))

module _ (o : Option) (os : List Option) (last : ℕ) (u : List ℕ) (fits : OptionFits o) (behind : AllFit os) (leads : leads_to_udp last ≡ true) where
  option-front : length (option_front o os last) ≡ 8 * (1 + o.units)
  option-front = omega (arith, fits.content)

  option-whole : let s = options_around (o ∷ os) last u in extension_in o.kind (length s) s ≡ Ok (8 * (1 + o.units))
  unfolding extension_in extension_size is_ipv6_whole
  option-whole =
      let s = options_around (o ∷ os) last u in
      let rest = options_around os last u in
      let n = 8 * (1 + o.units) in
      let all : length s ≡ n + length rest = length-append (option_front o os last) rest ∙ ap (λ (x : ℕ). x + length rest) option-front in
      let size : extension_size o.kind s ≡ n = rw (option-other o.kind fits.kind) in
      let least : leb 8 (length s) ≡ true = le-leb 8 (length s) (omega arith) in
      let inside : leb (extension_size o.kind s) (length s) ≡ true = le-leb (extension_size o.kind s) (length s) (omega arith) in
      let unbroken : is_ipv6_whole o.kind s ≡ true = rw (option-other o.kind fits.kind) in
      judge-holds (extension_checks o.kind (length s) s) (Ok (extension_size o.kind s))
      (least, (least, (and_both (first-leads os last behind leads) inside, (unbroken, (inside, tt))))) ∙ ap Ok size

module _ (port last : ℕ) (u : List ℕ) (leads : leads_to_udp last ≡ true) where
  options-around : (os : List Option) → AllFit os
      → headers port (first os last) (length (options_around os last u)) (options_around os last u) ≡ beyond (options-size os) (headers port last (length u) u)
  options-around [] fits = sym (beyond-none (headers port last (length u) u))
  options-around (o ∷ os) fits =
      let s = options_around (o ∷ os) last u in
      let rest = options_around os last u in
      let n = 8 * (1 + o.units) in
      let front = option-front o os last u fits.0 fits.1 leads in
      let room : length s - n ≡ length rest = omega (arith, length-append (option_front o os last) rest) in
      let kind = option_is o.kind fits.0.kind in
      headers-next port o.kind (length s) s n kind (option-whole o os last u fits.0 fits.1 leads)
      ∙ rw (room, drop_at (option_front o os last) rest n front) (ap (beyond n) (options-around os fits.1))
      ∙ beyond-beyond n (options-size os) (headers port last (length u) u)

  ipv6-around : (h : Ipv6Head) (os : List Option) → Ipv6Fits h → AllFit os
      → ipv6_in port (ipv6_around h os last u) ≡ beyond (40 + options-size os) (headers port last (length u) u)
  unfolding ipv6_in is_ipv6_udp
  ipv6-around h os fits behind =
      let rest = options_around os last u in
      let front = ipv6_front h (first os last) (length rest) in
      let s = ipv6_around h os last u in
      let long : length front ≡ 40 = omega (arith, fits.addresses) in
      let size : payload_length s ≡ length rest = omega arith in
      judge-holds (ipv6_checks s) (beyond 40 (headers port (first os last) (payload_length s) (drop 40 s))) (
        le-leb 40 (length s) (omega (arith, length-append front rest)),
        (and_both (eq-eqb ((0x60 + h.class) / 16) 6 (omega (arith, fits.class))) (first-leads os last behind leads), tt),
      )
      ∙ rw (size, drop_at front rest 40 long) (ap (beyond 40) (options-around os behind))
      ∙ beyond-beyond 40 (options-size os) (headers port last (length u) u)

-- the whole of a datagram has neither more fragments nor an offset
not-both : (offset more : ℕ) → 0 < more + offset → eqb offset 0 && eqb more 0 ≡ false
not-both zero more h = ne_eqb more 0 (λ e. omega arith)
not-both (suc offset) more h = rw (ne_eqb (suc offset) 0 (λ e. omega arith))

-- a fragment, of a header that leads to UDP
ipv6-fragment : (port : ℕ) (p : Part) (next : ℕ) (id : ℕ × ℕ) (u : List ℕ) → PartFits p → IsFragment p → leads_to_udp next ≡ true
    → let s = fragment_around p next id u in headers port fragment_header (length s) s ≡ found.Fragment
unfolding extension_in extension_size is_ipv6_whole is_extension
ipv6-fragment port p next id u part some leads =
    let s = fragment_around p next id u in
    let offset : pair s 2 / 8 ≡ p.offset = omega (arith, part.more) in
    let more : pair s 2 % 2 ≡ p.more = omega (arith, part.more) in
    let long : leb 8 (length s) ≡ true = le-leb 8 (length s) (omega arith) in
    let broken : is_ipv6_whole fragment_header s ≡ false = rw (offset, more) (not-both p.offset p.more some) in
    headers-end port fragment_header (length s) s found.Fragment refl (rw (long, leads, broken))

-- `p` stands at the octet `n` of `s`, to its end
record At (s : List ℕ) (n : ℕ) (p : List ℕ) : Type 0 where
  front : List ℕ
  is : s ≡ front ++ p
  size : length front ≡ n

at_drop : {s p : List ℕ} {n : ℕ} → At s n p → drop n s ≡ p
at_drop {s} {p} {n} a = ap (drop n) a.is ∙ drop_at a.front p n a.size

at_length : {s p : List ℕ} {n : ℕ} → At s n p → length s ≡ n + length p
at_length {s} {p} {n} a = ap length a.is ∙ length-append a.front p ∙ ap (λ (k : ℕ). k + length p) a.size

at-behind : {s x p : List ℕ} {n m : ℕ} → At s n x → At x m p → At s (n + m) p
at-behind {s} {x} {p} {n} {m} a b =
    record {
      front = a.front ++ b.front;
      is = a.is ∙ ap (λ (l : List ℕ). a.front ++ l) b.is ∙ sym (append_assoc a.front b.front p);
      size = length-append a.front b.front ∙ omega (arith, a.size, b.size);
    }

at-padded : {s p : List ℕ} {n : ℕ} → At s n p → (t : List ℕ) → At (s ++ t) n (p ++ t)
at-padded {s} {p} {n} a t = record { front = a.front; is = ap (λ (l : List ℕ). l ++ t) a.is ∙ append_assoc a.front p t; size = a.size }

at-payload : (s p t : List ℕ) (n : ℕ) → At s n (p ++ t) → payload_of s n (n + length p) ≡ p
at-payload s p t n a =
    let e : n + length p - n ≡ length p = omega arith in
    rw (e, at_drop a) (take_at p t (length p) refl)

options-at : (os : List Option) (last : ℕ) (u : List ℕ) → AllFit os → At (options_around os last u) (options-size os) u
options-at [] last u fits = record { front = []; is = refl; size = refl }
options-at (o ∷ os) last u fits =
    at-behind (record { front = option_front o os last; is = refl; size = omega (arith, fits.0.content) }) (options-at os last u fits.1)

ipv6-at : (h : Ipv6Head) (os : List Option) (last : ℕ) (u : List ℕ) → Ipv6Fits h → AllFit os → At (ipv6_around h os last u) (40 + options-size os) u
ipv6-at h os last u fits all =
    let rest = options_around os last u in
    at-behind (record { front = ipv6_front h (first os last) (length rest); is = refl; size = omega (arith, fits.addresses) }) (options-at os last u all)

-- tags, and the type behind them
not-a-tag : (type : ℕ) (s : List ℕ) → is_tag type ≡ false → has_tag (word type ++ s) ≡ false
unfolding has_tag
not-a-tag type s e =
    let w : type / 256 * 256 + type % 256 ≡ type = omega arith in
    rw (w, e) (and-false (leb 4 (length (word type ++ s))))

a-tag : (t : ℕ × ℕ) (s : List ℕ) → is_tag t.0 ≡ true → has_tag (word t.0 ++ (word t.1 ++ s)) ≡ true
unfolding has_tag
a-tag t s e =
    let w : t.0 / 256 * 256 + t.0 % 256 ≡ t.0 = omega arith in
    and_both (le-leb 4 (length (word t.0 ++ (word t.1 ++ s))) (omega arith)) (rw (w, e))

module _ (type : ℕ) (s : List ℕ) (other : is_tag type ≡ false) where
  tags-octets : (ts : List (ℕ × ℕ)) → AreTags ts → tag_octets (tags_around ts (word type ++ s)) ≡ 4 * length ts
  tags-octets [] a = tag-none (word type ++ s) (not-a-tag type s other)
  tags-octets (t ∷ ts) a =
      let rest = tags_around ts (word type ++ s) in
      let tag = a-tag t rest (tag_is t.0 a.0) in
      tag-next (word t.0 ++ (word t.1 ++ rest)) tag ∙ omega (arith, tags-octets ts a.1)

  tags-at : (ts : List (ℕ × ℕ)) → At (tags_around ts (word type ++ s)) (4 * length ts + 2) s
  tags-at [] = record { front = word type; is = refl; size = refl }
  tags-at (t ∷ ts) =
      let a = tags-at ts in
      record {
        front = word t.0 ++ (word t.1 ++ a.front);
        is = ap (λ (x : List ℕ). word t.0 ++ (word t.1 ++ x)) a.is;
        size = omega (arith, a.size);
      }

  -- the type stands behind the tags
  tags-type : (ts : List (ℕ × ℕ)) → pair (tags_around ts (word type ++ s)) (4 * length ts) ≡ type
  tags-type [] = omega arith
  tags-type (t ∷ ts) =
      let rest = tags_around ts (word type ++ s) in
      let e : 4 * length (t ∷ ts) ≡ 4 + 4 * length ts = omega arith in
      rw e (sym (pair-drop (word t.0 ++ (word t.1 ++ rest)) 4 (4 * length ts)) ∙ tags-type ts)

  tagged-around : (port : ℕ) (ts : List (ℕ × ℕ)) → AreTags ts → tagged port (tags_around ts (word type ++ s)) ≡ beyond (4 * length ts + 2) (typed_in port type s)
  unfolding tagged
  tagged-around port ts a =
      let x = tags_around ts (word type ++ s) in
      let n = 4 * length ts in
      let octets = tags-octets ts a in
      let place = tags-at ts in
      let is = tags-type ts in
      let captured : leb (n + 2) (length x) ≡ true = le-leb (n + 2) (length x) (omega (arith, at_length place)) in
      rw (octets, captured, is, other, at_drop place)

-- an IP packet that tells `f` of what stands behind `n` octets, in Ethernet
module _ (stations : List ℕ) (tags : List (ℕ × ℕ)) (type : ℕ) (ip : List ℕ) (long : length stations ≡ 12) (other : is_tag type ≡ false) where
  ethernet-around : (port n : ℕ) (f : Found) → AreTags tags → typed_in port type ip ≡ beyond n f
      → datagram_in (ethernet_around stations tags type ip) 1 port ≡ beyond (12 + (4 * length tags + 2 + n)) f
  unfolding link_of link_in
  ethernet-around port n f are told =
      let s = ethernet_around stations tags type ip in
      let x = tags_around tags (word type ++ ip) in
      let m = 4 * length tags + 2 in
      let captured : leb 12 (length s) ≡ true = le-leb 12 (length s) (omega (arith, length-append stations x)) in
      let inner = tagged-around type ip other port tags are ∙ ap (beyond m) told ∙ beyond-beyond m n f in
      rw (captured, drop_at stations x 12 long) (ap (beyond 12) inner) ∙ beyond-beyond 12 (m + n) f

  ethernet-at : {u : List ℕ} {n : ℕ} → At ip n u → At (ethernet_around stations tags type ip) (12 + (4 * length tags + 2 + n)) u
  ethernet-at a = at-behind (record { front = stations; is = refl; size = long }) (at-behind (tags-at type ip other tags) a)

-- a datagram at the octet `n` of a packet, which tells so
module _ (packet : List ℕ) (n source d checksum port : ℕ) (payload padding : List ℕ) where
  abbrev datagram : List ℕ
  datagram = udp_around source d checksum payload

  module _ (told : datagram_in packet 1 port ≡ beyond n (udp_in port (length datagram) datagram)) where
    -- it is found again, whatever the link pads
    carried : At packet n datagram → d ≡ port → Carries (packet ++ padding) 1 port payload
    carried a e =
        let f : answer d port (length payload) ≡ found.Frame 8 (8 + length payload) = rw (eq-eqb d port e) in
        let g : n + (8 + length payload) ≡ n + 8 + length payload = omega arith in
        let is = told ∙ ap (beyond n) (udp-around source d checksum port payload ∙ f) ∙ ap (found.Frame (n + 8)) g in
        let inner : At datagram 8 payload = record { front = take 8 datagram; is = refl; size = refl } in
        record {
          start = n + 8;
          found = decided-stays packet padding 1 port (λ c. let z : ◌≡◌ {A = ℕ} 0 1 = cc in omega arith) ∙ is;
          octets = at-payload (packet ++ padding) payload padding (n + 8) (at-padded (at-behind a inner) padding);
        }

    -- one to another port is passed over
    passed_over : (d ≡ port → ⊥) → datagram_in (packet ++ padding) 1 port ≡ found.Passed
    passed_over ne =
        let f : answer d port (length payload) ≡ found.Passed = rw (ne_eqb d port ne) in
        let is = told ∙ ap (beyond n) (udp-around source d checksum port payload ∙ f) in
        decided-stays packet padding 1 port (λ c. let z : ◌≡◌ {A = ℕ} 0 1 = cc in omega arith) ∙ is

-- Ethernet with any tags, and padding
module _ (stations : List ℕ) (tags : List (ℕ × ℕ)) (padding : List ℕ) (long : length stations ≡ 12) (are : AreTags tags) where
  abbrev in_ethernet : (type : ℕ) → List ℕ → List ℕ
  in_ethernet type ip = ethernet_around stations tags type ip ++ padding

  -- an answer that is no place, whatever the link pads
  told-so : (f : Found) (type : ℕ) (ip : List ℕ) (port : ℕ) → ((m : ℕ) → beyond m f ≡ f) → (f ≡ found.Cut → ⊥)
      → is_tag type ≡ false → typed_in port type ip ≡ f → datagram_in (in_ethernet type ip) 1 port ≡ f
  told-so f type ip port nowhere known other told =
      let around = ethernet-around stations tags type ip long other port 0 f are (told ∙ sym (nowhere 0)) in
      let is = around ∙ nowhere _ in
      decided-stays (ethernet_around stations tags type ip) padding 1 port (λ c. known (sym is ∙ c)) ∙ is

  fragment-told : (type : ℕ) (ip : List ℕ) (port : ℕ) → is_tag type ≡ false
      → typed_in port type ip ≡ found.Fragment → datagram_in (in_ethernet type ip) 1 port ≡ found.Fragment
  fragment-told type ip port =
      told-so found.Fragment type ip port (λ m. refl) (λ c. let z : ◌≡◌ {A = ℕ} 0 1 = cc in omega arith)

  passed-told : (type : ℕ) (ip : List ℕ) (port : ℕ) → is_tag type ≡ false
      → typed_in port type ip ≡ found.Passed → datagram_in (in_ethernet type ip) 1 port ≡ found.Passed
  passed-told type ip port =
      told-so found.Passed type ip port (λ m. refl) (λ c. let z : ◌≡◌ {A = ℕ} 0 1 = cc in omega arith)

  -- EtherTypes other than IPv4's (RFC 894) and IPv6's (RFC 2464) are passed over
  pub other-type-passed : (type : ℕ) (s : List ℕ) (port : ℕ)
      → (type ≡ 0x0800 → ⊥) → (type ≡ 0x86DD → ⊥) → (TagNumber type → ⊥)
      → datagram_in (in_ethernet type s) 1 port ≡ found.Passed
  other-type-passed type s port four six tag =
      passed-told type s port (tag-is-not type tag) (rw (ne_eqb type 0x0800 four, ne_eqb type 0x86DD six))

  -- and so is an IPv6 packet whose first header UDP cannot stand behind
  pub other-header-passed : (h : Ipv6Head) (next : ℕ) (s : List ℕ) (port : ℕ)
      → Ipv6Fits h → (NextToUdp next → ⊥)
      → datagram_in (in_ethernet 0x86DD (ipv6_front h next (length s) ++ s)) 1 port ≡ found.Passed
  unfolding is_tag ipv6_in is_ipv6_udp
  other-header-passed h next s port fits other =
      let front = ipv6_front h next (length s) in
      let ip = front ++ s in
      let captured = le-leb 40 (length ip) (omega (arith, length-append front s, fits.addresses)) in
      let is-six = eqb ((0x60 + h.class) / 16) 6 in
      let none : is_ipv6_udp ip ≡ false = rw (next-is-not next other) (and-false is-six) in
      passed-told 0x86DD ip port refl (rw (captured, none))

  -- around IPv4 with any options
  module _ (h : Ipv4Head) (fits : Ipv4Fits h) (port : ℕ) where
    -- a fragment is told, to whatever port and whatever it has
    pub ipv4-fragment-told : (p : Part) (s : List ℕ) → PartFits p → IsFragment p
        → datagram_in (in_ethernet 0x0800 (ipv4_around h p s)) 1 port ≡ found.Fragment
    unfolding is_tag
    ipv4-fragment-told p s part some =
        fragment-told 0x0800 (ipv4_around h p s) port refl (ipv4-fragment h p s fits part port some)

    module _ (source d checksum : ℕ) (payload : List ℕ) where
      abbrev ipv4 : List ℕ
      ipv4 = ipv4_around h whole (udp_around source d checksum payload)

      parts : PartFits whole
      parts = record { more = omega arith; offset = omega arith }

      ipv4-told : let u = udp_around source d checksum payload in
          let n = 12 + (4 * length tags + 2 + (20 + 4 * h.words)) in
          datagram_in (ethernet_around stations tags 0x0800 ipv4) 1 port ≡ beyond n (udp_in port (length u) u)
      unfolding is_tag
      ipv4-told =
          let u = udp_around source d checksum payload in
          let n = 20 + 4 * h.words in
          ethernet-around stations tags 0x0800 ipv4 long refl port n (udp_in port (length u) u) are
          (ipv4-around h whole u fits parts port refl)

      -- the payload is found
      pub ipv4-found : d ≡ port → Carries (in_ethernet 0x0800 ipv4) 1 port payload
      unfolding is_tag
      ipv4-found =
          let u = udp_around source d checksum payload in
          let ip : At ipv4 (20 + 4 * h.words) u = record { front = ipv4_front h whole (length u); is = refl; size = ipv4-front h whole u fits parts } in
          let packet = ethernet_around stations tags 0x0800 ipv4 in
          carried packet _ source d checksum port payload padding ipv4-told
          (ethernet-at stations tags 0x0800 ipv4 long refl ip)

      -- a datagram to another port is passed over
      pub ipv4-passed : (d ≡ port → ⊥) → datagram_in (in_ethernet 0x0800 ipv4) 1 port ≡ found.Passed
      ipv4-passed =
          let packet = ethernet_around stations tags 0x0800 ipv4 in
          passed_over packet _ source d checksum port payload padding ipv4-told

  -- around IPv6 with any extension headers
  module _ (h : Ipv6Head) (os : List Option) (fits : Ipv6Fits h) (all : AllFit os) (port : ℕ) where
    pub ipv6-fragment-told : (p : Part) (next : ℕ) (id : ℕ × ℕ) (s : List ℕ)
        → PartFits p → IsFragment p → NextToUdp next
        → let packet = in_ethernet 0x86DD (ipv6_around h os 44 (fragment_around p next id s)) in
        datagram_in packet 1 port ≡ found.Fragment
    unfolding is_tag leads_to_udp is_extension
    ipv6-fragment-told p next id s part some leads =
        let f = fragment_around p next id s in
        let part-told = ipv6-fragment port p next id s part some (next-is next leads) in
        fragment-told 0x86DD (ipv6_around h os 44 f) port refl
        (ipv6-around port 44 f refl h os fits all ∙ ap (beyond (40 + options-size os)) part-told)

    module _ (source d checksum : ℕ) (payload : List ℕ) where
      abbrev ipv6 : List ℕ
      ipv6 = ipv6_around h os 17 (udp_around source d checksum payload)

      ipv6-told : let u = udp_around source d checksum payload in
          let n = 12 + (4 * length tags + 2 + (40 + options-size os)) in
          datagram_in (ethernet_around stations tags 0x86DD ipv6) 1 port ≡ beyond n (udp_in port (length u) u)
      unfolding is_tag leads_to_udp is_extension
      ipv6-told =
          let u = udp_around source d checksum payload in
          let n = 40 + options-size os in
          ethernet-around stations tags 0x86DD ipv6 long refl port n (udp_in port (length u) u) are
          (ipv6-around port 17 u refl h os fits all ∙ ap (beyond n) (headers-udp port 17 (length u) u refl))

      pub ipv6-found : d ≡ port → Carries (in_ethernet 0x86DD ipv6) 1 port payload
      unfolding is_tag
      ipv6-found =
          let u = udp_around source d checksum payload in
          let packet = ethernet_around stations tags 0x86DD ipv6 in
          carried packet _ source d checksum port payload padding ipv6-told
          (ethernet-at stations tags 0x86DD ipv6 long refl (ipv6-at h os 17 u fits all))

      pub ipv6-passed : (d ≡ port → ⊥) → datagram_in (in_ethernet 0x86DD ipv6) 1 port ≡ found.Passed
      ipv6-passed =
          let packet = ethernet_around stations tags 0x86DD ipv6 in
          passed_over packet _ source d checksum port payload padding ipv6-told
