-- A payload that was found lies within the captured octets, and is no longer than a UDP length tells.
-- By the checks of each header, from the innermost out.
use Rattle.std.specs.Prelude.{Result, Ok, Err}
use mathlib.Core.Path.{◌≡◌, refl, subst}
use mathlib.Core.Bool.{Bool, true, false, cond, ◌&&◌}
use mathlib.Core.List.{List, [], ◌∷◌}
use Prim.Native.Nat.{ℕ, zero, suc, ◌+◌, ◌-◌, ◌<◌, ◌≤◌}
use native.Mathlib.Omega.{arith}
use borrow.Author.Tests.{leb-true}
use lib.Dec.{leb, eqb}
use lib.ListN.{length, drop, get_or, length-drop}
use lib.Seq.{get_or-drop}
use Rattle.wire_spec.proofs.ResultLaws.{and-true}
use Rattle.capture_datagram.specs.declared.answer.Found.{Found}
use Rattle.capture_datagram.specs.declared.answer.Found.TheVariants as found
use Rattle.capture_datagram.specs.declared.link.Link.{Link}
use Rattle.capture_datagram.specs.declared.link.Link.TheVariants as link
use Rattle.capture_datagram.specs.Answer.{pair, beyond}
use Rattle.capture_datagram.specs.Udp.{udp_header, destination, udp_length, is_for_port, udp_checks, udp_in}
use Rattle.capture_datagram.specs.Ip.{
  ipv4_size,
  total_length,
  ipv4_checks,
  ipv4_in,
  is_extension,
  extension_in,
  onward,
  headers_in,
  headers,
  payload_length,
  ipv6_checks,
  ipv6_in,
  version,
}
use Rattle.capture_datagram.specs.Link.{tag_octets, tag_checks, typed_in, ether_ipv4, ether_ipv6, tagged, raw_in, behind, link_of, link_in, datagram_in}
use Rattle.capture_datagram.proofs.AnswerLaws.{judge-all}
use Rattle.capture_datagram.proofs.IpLaws.{whole-extension, ends_nowhere, following}

-- "Length": 16 bits, of which the header takes 8
pub record Inside (s : List ℕ) (start end : ℕ) : Type 0 where
  pub ordered : start ≤ end
  pub inside : end ≤ length s
  pub size : end ≤ start + 65527

-- octets
abbrev Octets : List ℕ → Type 0
Octets s = (j : ℕ) → get_or s j 0 < 256

abbrev Lies : List ℕ → Found → Type 0
Lies s (found.Frame start end) = Inside s start end
Lies s found.Passed = Unit {0}
Lies s found.Fragment = Unit {0}
Lies s found.Cut = Unit {0}

-- behind `n` octets that were captured
lies-beyond : (s : List ℕ) (n : ℕ) (f : Found) → n ≤ length s → Lies (drop n s) f → Lies s (beyond n f)
lies-beyond s n (found.Frame a b) h i =
    let l = length-drop n s in
    record { ordered = omega (arith, i.ordered); inside = omega (arith, i.inside); size = omega (arith, i.size) }
lies-beyond s n found.Passed h i = tt
lies-beyond s n found.Fragment h i = tt
lies-beyond s n found.Cut h i = tt

octets-drop : (s : List ℕ) (n : ℕ) → Octets s → Octets (drop n s)
octets-drop s n o j = rw (get_or-drop n s j 0) (o (n + j))

udp-lies : (port room : ℕ) (s : List ℕ) → Octets s → Lies s (udp_in port room s)
unfolding udp_in is_for_port
udp-lies port room s o =
    judge-all (Lies s) (udp_checks port room s) (found.Frame udp_header (udp_length s)) (tt, (tt, (tt, (tt, tt))))
    (λ h.
    let fits = leb udp_header (udp_length s) in
    let within = leb (udp_length s) room in
    let t = and-true fits within (and-true (eqb (destination s) port) (fits && within) h.1.1.0).1 in
    record {
      ordered = leb-true 8 (udp_length s) t.0;
      inside = leb-true (udp_length s) (length s) h.1.1.1.0;
      size = omega (arith, o 4, o 5);
    })

ipv4-lies : (port : ℕ) (s : List ℕ) → Octets s → Lies s (ipv4_in port s)
unfolding ipv4_in
ipv4-lies port s o =
    let n = ipv4_size s in
    let f = udp_in port (total_length s - n) (drop n s) in
    judge-all (Lies s) (ipv4_checks s) (beyond n f) (tt, (tt, (tt, (tt, tt))))
    (λ h. lies-beyond s n f (leb-true n (length s) h.1.1.1.0) (udp-lies port (total_length s - n) (drop n s) (octets-drop s n o)))

-- an answer that is the same behind any octets is no place
lies-nowhere : (s : List ℕ) (f : Found) → ((k : ℕ) → beyond k f ≡ f) → Lies s f
lies-nowhere s (found.Frame a b) e =
    let g : found.Frame (1 + a) (1 + b) ≡ found.Frame a b = e 1 in
    let x : 1 + a ≡ a = cc in
    absurd (omega arith)
lies-nowhere s found.Passed e = tt
lies-nowhere s found.Fragment e = tt
lies-nowhere s found.Cut e = tt

module _ (port next room : ℕ) (s : List ℕ) (rest : ℕ → Found) (lie : (n : ℕ) → Lies (drop n s) (rest n)) where
  onward-lies : (x : Result ℕ Found) → extension_in next room s ≡ x → Lies s (onward rest x)
  onward-lies (Err f) e = lies-nowhere s f (ends_nowhere next room s f e)
  onward-lies (Ok n) e = lies-beyond s n (rest n) (whole-extension next room s n e).inside (lie n)

headers-lie : (bound port next room : ℕ) (s : List ℕ) → Octets s → Lies s (headers_in bound port next room s)
unfolding headers_in
headers-lie zero port next room s o = tt
headers-lie (suc bound) port next room s o =
    go (is_extension next) (λ n. headers-lie bound port (get_or s 0 0) (room - n) (drop n s) (octets-drop s n o))
  where
    go : (b : Bool) → ((n : ℕ) → Lies (drop n s) (following bound port room s n))
        → Lies s (cond b (onward (following bound port room s) (extension_in next room s)) (udp_in port room s))
    go true lie = onward-lies port next room s (following bound port room s) lie (extension_in next room s) refl
    go false lie = udp-lies port room s o

ipv6-lies : (port : ℕ) (s : List ℕ) → Octets s → Lies s (ipv6_in port s)
unfolding ipv6_in
ipv6-lies port s o =
    let f = headers port (get_or s 6 0) (payload_length s) (drop 40 s) in
    judge-all (Lies s) (ipv6_checks s) (beyond 40 f) (tt, (tt, tt))
    (λ h. lies-beyond s 40 f (leb-true 40 (length s) h.0) (headers-lie _ port (get_or s 6 0) (payload_length s) (drop 40 s) (octets-drop s 40 o)))

-- an answer of either version, or none
either_lies : (b c : Bool) (port : ℕ) (s : List ℕ) → Octets s → Lies s (cond b (ipv4_in port s) (cond c (ipv6_in port s) found.Passed))
either_lies true c port s o = ipv4-lies port s o
either_lies false true port s o = ipv6-lies port s o
either_lies false false port s o = tt

tagged-lies : (port : ℕ) (s : List ℕ) → Octets s → Lies s (tagged port s)
unfolding tagged
tagged-lies port s o =
    let n = tag_octets s + 2 in
    let type = pair s (tag_octets s) in
    let f = typed_in port type (drop n s) in
    judge-all (Lies s) (tag_checks s) (beyond n f) (tt, (tt, tt))
    (λ h. lies-beyond s n f (leb-true n (length s) h.0) (either_lies (eqb type ether_ipv4) (eqb type ether_ipv6) port (drop n s) (octets-drop s n o)))

behind-lies : (n : ℕ) (rest : List ℕ → Found) (s : List ℕ) → Lies (drop n s) (rest (drop n s)) → Lies s (behind n rest s)
behind-lies n rest s i =
    judge-all (Lies s) ((leb n (length s), found.Cut) ∷ []) (beyond n (rest (drop n s))) (tt, tt)
    (λ h. lies-beyond s n (rest (drop n s)) (leb-true n (length s) h.0) i)

link-lies : (k : Link) (port : ℕ) (s : List ℕ) → Octets s → Lies s (link_in k port s)
unfolding link_in raw_in
link-lies link.Ethernet port s o = behind-lies 12 (tagged port) s (tagged-lies port (drop 12 s) (octets-drop s 12 o))
link-lies link.Cooked port s o = behind-lies 14 (tagged port) s (tagged-lies port (drop 14 s) (octets-drop s 14 o))
link-lies link.CookedV2 port s o =
    let type = pair s 0 in
    behind-lies 20 (typed_in port type) s (either_lies (eqb type ether_ipv4) (eqb type ether_ipv6) port (drop 20 s) (octets-drop s 20 o))
link-lies link.Raw port s o =
    let v = version s in
    judge-all (Lies s) ((leb 1 (length s), found.Cut) ∷ []) (cond (eqb v 4) (ipv4_in port s) (cond (eqb v 6) (ipv6_in port s) found.Passed)) (tt, tt)
    (λ h. either_lies (eqb v 4) (eqb v 6) port s o)
link-lies link.Ipv4 port s o = ipv4-lies port s o
link-lies link.Ipv6 port s o = ipv6-lies port s o
link-lies link.Other port s o = tt

-- a frame that was found lies within the captured octets
pub frame-inside : (s : List ℕ) (link port start end : ℕ) → ((j : ℕ) → get_or s j 0 < 256) → datagram_in s link port ≡ found.Frame start end → Inside s start end
frame-inside s link port start end o e = subst (Lies s) e (link-lies (link_of link) port s o)
