-- What the checks of an IP header tell, and the headers of IPv6 one after the other.
-- By the tests of each header; an extension header that is whole takes eight octets at the least.
use Rattle.std.specs.Prelude.{Result, Ok, Err}
use mathlib.Core.Path.{◌≡◌, refl, ap, sym, ◌∙◌}
use mathlib.Core.Bool.{Bool, true, false, cond, ◌&&◌}
use mathlib.Core.List.{List}
use Prim.Native.Nat.{ℕ, zero, suc, ◌+◌, ◌-◌, ◌*◌, ◌<◌, ◌≤◌}
use native.Mathlib.Omega.{arith}
use borrow.Author.Tests.{leb-true}
use lib.Dec.{leb, eqb}
use lib.ListN.{length, drop, get_or, length-drop}
use Rattle.wire_spec.proofs.ResultLaws.{and-true}
use Rattle.capture_datagram.specs.declared.answer.Found.{Found}
use Rattle.capture_datagram.specs.Answer.{beyond}
use Rattle.capture_datagram.specs.Ip.{
  is_ipv4_udp,
  ipv4_size,
  total_length,
  version,
  ipv4_header,
  protocol_udp,
  fragment_header,
  is_extension,
  leads_to_udp,
  extension_size,
  is_ipv6_whole,
  extension_checks,
  extension_in,
  onward,
  headers_in,
  headers,
}
use Rattle.capture_datagram.specs.Udp.{udp_in}
use Rattle.capture_datagram.proofs.AnswerLaws.{judge-holds, all_hold, judge-changed}

-- the total length counts the header
pub ipv4-room : (s : List ℕ) → is_ipv4_udp s ≡ true → ipv4_size s ≤ total_length s
unfolding is_ipv4_udp
ipv4-room s e =
    let room = leb (ipv4_size s) (total_length s) in
    let udp = eqb (get_or s 9 0) protocol_udp in
    let long = leb ipv4_header (ipv4_size s) in
    let behind = (and-true (eqb (version s) 4) (long && (room && udp)) e).1 in
    leb-true _ _ (and-true room udp (and-true long (room && udp) behind).1).0

-- an extension header that is whole
pub record Whole (next room : ℕ) (s : List ℕ) (n : ℕ) : Type 0 where
  pub size : n ≡ extension_size next s
  pub some : 8 ≤ n
  pub inside : n ≤ length s
  pub within : n ≤ room
  pub leads : leads_to_udp (get_or s 0 0) ≡ true
  pub unbroken : is_ipv6_whole next s ≡ true

abbrev is_whole_extension : Result ℕ Found → Bool
is_whole_extension (Ok n) = true
is_whole_extension (Err f) = false

abbrev moved : ℕ → Result ℕ Found → Result ℕ Found
moved k (Ok n) = Ok n
moved k (Err f) = Err (beyond k f)

extension-least : (next : ℕ) (s : List ℕ) → 8 ≤ extension_size next s
unfolding extension_size
extension-least next s = go (eqb next fragment_header)
  where
    go : (b : Bool) → 8 ≤ cond b 8 (8 * (1 + get_or s 1 0))
    go true = omega arith
    go false = omega arith

pub whole-extension : (next room : ℕ) (s : List ℕ) (n : ℕ) → extension_in next room s ≡ Ok n → Whole next room s n
unfolding extension_in
whole-extension next room s n e =
    let size = extension_size next s in
    let ts = extension_checks next room s in
    let h = all_hold is_whole_extension ts (Ok size) refl (ap is_whole_extension e) in
    let k : n ≡ size = cc (judge-holds ts (Ok size) h) in
    let t = and-true (leads_to_udp (get_or s 0 0)) (leb size room) h.1.1.0 in
    record {
      size = k;
      some = omega (arith, extension-least next s);
      inside = omega (arith, leb-true size (length s) h.1.1.1.1.0);
      within = omega (arith, leb-true size room t.1);
      leads = t.0;
      unbroken = h.1.1.1.0;
    }

-- an extension header that goes no further is no place
pub ends_nowhere : (next room : ℕ) (s : List ℕ) (f : Found) → extension_in next room s ≡ Err f → (k : ℕ) → beyond k f ≡ f
unfolding extension_in
ends_nowhere next room s f e k =
    let m = judge-changed (moved k) (extension_checks next room s) (Ok (extension_size next s)) in
    let g : Err (beyond k f) ≡ Err f = ap (moved k) (sym e) ∙ m ∙ e in
    cc

-- what the headers behind one of `n` octets say
abbrev pub following : (bound port room : ℕ) → List ℕ → ℕ → Found
following bound port room s n = headers_in bound port (get_or s 0 0) (room - n) (drop n s)

module _ (b c port next room : ℕ) (s : List ℕ) (h : length s ≤ b) (k : length s ≤ c) where
  -- two bounds agree on what follows a header, where they agree on what is shorter
  onward-agrees : ((n : ℕ) → length (drop n s) < b → length (drop n s) < c → following b port room s n ≡ following c port room s n) → (x : Result ℕ Found)
      → extension_in next room s ≡ x → onward (following b port room s) x ≡ onward (following c port room s) x
  onward-agrees ih (Err f) e = refl
  onward-agrees ih (Ok n) e =
      let w = whole-extension next room s n e in
      let l = length-drop n s in
      ap (beyond n) (ih n (omega (arith, w.some, w.inside, l)) (omega (arith, w.some, w.inside, l)))

-- the bound does not matter
pub bounds-agree : (b c port next room : ℕ) (s : List ℕ) → length s < b → length s < c → headers_in b port next room s ≡ headers_in c port next room s
unfolding headers_in
bounds-agree zero c port next room s h k = absurd (omega arith)
bounds-agree (suc b) zero port next room s h k = absurd (omega arith)
bounds-agree (suc b) (suc c) port next room s h k =
    ap (λ (f : Found). cond (is_extension next) f (udp_in port room s))
    (onward-agrees b c port next room s (omega arith) (omega arith)
    (λ n. bounds-agree b c port (get_or s 0 0) (room - n) (drop n s))
    (extension_in next room s)
    refl)

-- a header that is no extension header; an extension header that goes no further; one that is whole, and those behind it
pub headers-udp : (port next room : ℕ) (s : List ℕ) → is_extension next ≡ false → headers port next room s ≡ udp_in port room s
unfolding headers_in
headers-udp port next room s e = rw e

pub headers-end : (port next room : ℕ) (s : List ℕ) (f : Found) → is_extension next ≡ true → extension_in next room s ≡ Err f
    → headers port next room s ≡ f
unfolding headers_in
headers-end port next room s f e x = rw (e, x)

pub headers-next : (port next room : ℕ) (s : List ℕ) (n : ℕ) → is_extension next ≡ true → extension_in next room s ≡ Ok n
    → headers port next room s ≡ beyond n (headers port (get_or s 0 0) (room - n) (drop n s))
unfolding headers_in
headers-next port next room s n e x =
    let w = whole-extension next room s n x in
    let l = length-drop n s in
    let short : length (drop n s) < length s = omega (arith, w.some, w.inside) in
    rw (e, x) (ap (beyond n) (bounds-agree (length s) (suc (length (drop n s))) port (get_or s 0 0) (room - n) (drop n s) short (omega arith)))
