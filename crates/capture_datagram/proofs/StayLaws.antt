-- What is decided stays, whatever octets follow: padding of the link, a check sequence, or what the capture cut off. So "Cut" alone comes from where
-- the captured octets end, and every other answer from the octets that stand there.
-- By the checks of each header: a test looks at octets that were captured, and a header that was captured stays so.
use Rattle.std.specs.Prelude.{Ok}
use mathlib.Core.Path.{◌≡◌, refl, ap, sym, ◌∙◌, subst}
use mathlib.Core.Bool.{Bool, true, false, not, cond, and-false}
use mathlib.Core.List.{List, [], ◌∷◌, ◌++◌}
use mathlib.Core.Logic.{◌⊎◌, inl, inr}
use Prim.Native.Nat.{ℕ, zero, suc, ◌+◌, ◌-◌, ◌*◌, ◌<◌, ◌≤◌}
use native.Mathlib.Omega.{arith}
use borrow.Author.Tests.{le-leb, leb-true, not-true}
use lib.Dec.{leb, eqb}
use lib.ListN.{length, drop, get_or, length-append, get_or-append}
use lib.Seq.{drop-append-le}
use Rattle.capture_datagram.specs.declared.answer.Found.{Found}
use Rattle.capture_datagram.specs.declared.answer.Found.TheVariants as found
use Rattle.capture_datagram.specs.declared.link.Link.{Link}
use Rattle.capture_datagram.specs.declared.link.Link.TheVariants as link
use Rattle.capture_datagram.specs.Answer.{pair, Checks, judge, beyond}
use Rattle.capture_datagram.specs.Udp.{udp_length, is_for_port, udp_checks, udp_in}
use Rattle.capture_datagram.specs.Ip.{
  ipv4_size,
  total_length,
  is_ipv4_udp,
  is_ipv4_whole,
  ipv4_checks,
  ipv4_in,
  is_extension,
  extension_size,
  is_ipv6_whole,
  extension_checks,
  extension_in,
  onward,
  headers_in,
  headers,
  is_ipv6_udp,
  payload_length,
  ipv6_checks,
  ipv6_in,
  version,
}
use Rattle.capture_datagram.specs.Link.{is_tag, has_tag, tag_octets, typed_in, ether_ipv4, ether_ipv6, tagged, raw_in, behind, link_of, link_in, datagram_in}
use Rattle.capture_datagram.proofs.AnswerLaws.{changed, judge-changed}
use Rattle.capture_datagram.proofs.FieldLaws.{pair-drop}
use Rattle.capture_datagram.proofs.IpLaws.{following, bounds-agree}
use Rattle.capture_datagram.proofs.LinkLaws.{tag-none}

-- the answer `f` is cut, or `g` is the same
abbrev Keeps : Found → Found → Type 0
Keeps found.Cut g = Unit {0}
Keeps (found.Frame a b) g = g ≡ found.Frame a b
Keeps found.Passed g = g ≡ found.Passed
Keeps found.Fragment g = g ≡ found.Fragment

keeps_same : (f : Found) → Keeps f f
keeps_same (found.Frame a b) = refl
keeps_same found.Passed = refl
keeps_same found.Fragment = refl
keeps_same found.Cut = tt

keeps-equal : {f g : Found} → g ≡ f → Keeps f g
keeps-equal {f} {g} e = subst (Keeps f) (sym e) (keeps_same f)

keeps-beyond : (n : ℕ) (f g : Found) → Keeps f g → Keeps (beyond n f) (beyond n g)
keeps-beyond n (found.Frame a b) g k = ap (beyond n) k
keeps-beyond n found.Passed g k = ap (beyond n) k
keeps-beyond n found.Fragment g k = ap (beyond n) k
keeps-beyond n found.Cut g k = tt

-- a check and the same check of more octets: one that tells of a cut holds on where it held, and any other is as it was
abbrev Step : Found → Bool → Bool → Type 0
Step found.Cut b c = b ≡ true → c ≡ true
Step (found.Frame x y) b c = c ≡ b
Step found.Passed b c = c ≡ b
Step found.Fragment b c = c ≡ b

-- so all of them, each where those before it hold, and then `P`
abbrev Kept : Checks Found → Checks Found → Type 0 → Type 0
Kept [] [] P = P
Kept [] (u ∷ us) P = ⊥
Kept (t ∷ ts) [] P = ⊥
Kept (t ∷ ts) (u ∷ us) P = (u.1 ≡ t.1) × Step t.1 t.0 u.0 × (t.0 ≡ true → Kept ts us P)

step-holds : (x : Found) (c : Bool) → Step x true c → c ≡ true
step-holds found.Cut c s = s refl
step-holds (found.Frame a b) c s = s
step-holds found.Passed c s = s
step-holds found.Fragment c s = s

step-fails : (x y g : Found) (c : Bool) → y ≡ x → Step x false c → Keeps x (cond c g y)
step-fails found.Cut y g c e s = tt
step-fails (found.Frame a b) y g c e s = rw s e
step-fails found.Passed y g c e s = rw s e
step-fails found.Fragment y g c e s = rw s e

judge-keeps : (ts us : Checks Found) (f g : Found) → Kept ts us (Keeps f g) → Keeps (judge ts f) (judge us g)
judge-keeps [] [] f g k = k
judge-keeps [] (u ∷ us) f g k = absurd k
judge-keeps (t ∷ ts) [] f g k = absurd k
judge-keeps ((true, x) ∷ ts) ((c, y) ∷ us) f g k = rw (step-holds x c k.1) (judge-keeps ts us f g (k.2 refl))
judge-keeps ((false, x) ∷ ts) ((c, y) ∷ us) f g k = step-fails x y (judge us g) c k.0 k.1

module _ (s t : List ℕ) where
  -- octets and numbers that were captured
  octet-stays : (k : ℕ) → k < length s → get_or (s ++ t) k 0 ≡ get_or s k 0
  octet-stays k h = get_or-append s t 0 k h

  pair-stays : (k : ℕ) → k + 2 ≤ length s → pair (s ++ t) k ≡ pair s k
  pair-stays k h = rw (octet-stays k (omega arith), octet-stays (k + 1) (omega arith))

  -- `n` octets that were captured
  seen : (n m : ℕ) → m ≡ n → leb n (length s) ≡ true → leb m (length (s ++ t)) ≡ true
  seen n m e h = le-leb m (length (s ++ t)) (omega (arith, leb-true n (length s) h, length-append s t))

udp-keeps : (port room : ℕ) (s t : List ℕ) → Keeps (udp_in port room s) (udp_in port room (s ++ t))
unfolding udp_in is_for_port
udp-keeps port room s t =
    judge-keeps (udp_checks port room s) (udp_checks port room (s ++ t)) (found.Frame 8 (udp_length s)) (found.Frame 8 (udp_length (s ++ t))) (
      refl,
      refl,
      λ r. (
        refl,
        seen s t 8 8 refl,
        λ c.
            let l = leb-true 8 (length s) c in
            let d = pair-stays s t 2 (omega arith) in
            let n = pair-stays s t 4 (omega arith) in (
              refl,
              rw (d, n),
              λ p. (refl, seen s t (udp_length s) (udp_length (s ++ t)) n, λ w. ap (found.Frame 8) n),
            ),
      ),
    )

-- what stands behind `n` octets that were captured
behind-keeps : (rest : List ℕ → Found) (s t : List ℕ) (n : ℕ) → n ≤ length s → ((u : List ℕ) → Keeps (rest u) (rest (u ++ t)))
    → Keeps (beyond n (rest (drop n s))) (beyond n (rest (drop n (s ++ t))))
behind-keeps rest s t n h k = keeps-beyond n (rest (drop n s)) (rest (drop n (s ++ t))) (rw (drop-append-le n s t h) (k (drop n s)))

ipv4-keeps : (port : ℕ) (s t : List ℕ) → Keeps (ipv4_in port s) (ipv4_in port (s ++ t))
unfolding ipv4_in is_ipv4_udp is_ipv4_whole
ipv4-keeps port s t =
    let n = ipv4_size s in
    let m = ipv4_size (s ++ t) in
    let room = total_length s - n in
    let f = beyond n (udp_in port room (drop n s)) in
    let g = beyond m (udp_in port (total_length (s ++ t) - m) (drop m (s ++ t))) in
    judge-keeps (ipv4_checks s) (ipv4_checks (s ++ t)) f g (
      refl,
      seen s t 20 20 refl,
      λ c.
          let l = leb-true 20 (length s) c in
          let first = octet-stays s t 0 (omega arith) in
          let total = pair-stays s t 2 (omega arith) in (
            refl,
            rw (first, total, octet-stays s t 9 (omega arith)),
            λ u. (
              refl,
              rw (pair-stays s t 6 (omega arith)),
              λ w. (
                refl,
                seen s t n m (rw first),
                λ o. rw (first, total) (behind-keeps (udp_in port room) s t n (leb-true n (length s) o) (λ x. udp-keeps port room x t)),
              ),
            ),
          ),
    )

keeps-by : {f f' g g' : Found} → f ≡ f' → g ≡ g' → Keeps f' g' → Keeps f g
keeps-by {f} {f'} {g} {g'} p q k = subst (λ (x : Found). Keeps x g) (sym p) (subst (λ (y : Found). Keeps f' y) (sym q) k)

module _ (next room : ℕ) (s t : List ℕ) (rest rest' : ℕ → Found) where
  -- one extension header, and what follows it
  onward-keeps : ((n : ℕ) → 8 ≤ length s → n ≤ length s → Keeps (beyond n (rest n)) (beyond n (rest' n)))
      → Keeps (onward rest (extension_in next room s)) (onward rest' (extension_in next room (s ++ t)))
  unfolding extension_in extension_size is_ipv6_whole
  onward-keeps k =
      let n = extension_size next s in
      let m = extension_size next (s ++ t) in
      let ts = extension_checks next room s in
      let us = extension_checks next room (s ++ t) in
      keeps-by (judge-changed (onward rest) ts (Ok n)) (judge-changed (onward rest') us (Ok m))
      (judge-keeps (changed (onward rest) ts) (changed (onward rest') us) (beyond n (rest n)) (beyond m (rest' m)) (
        refl,
        refl,
        λ r. (
          refl,
          seen s t 8 8 refl,
          λ c.
              let l = leb-true 8 (length s) c in
              let size : m ≡ n = rw (octet-stays s t 1 (omega arith)) in (
                refl,
                rw (octet-stays s t 0 (omega arith), octet-stays s t 1 (omega arith)),
                λ u. (
                  refl,
                  rw (pair-stays s t 2 (omega arith)),
                  λ w. (
                    refl,
                    seen s t n m size,
                    λ i. subst (λ (x : ℕ). Keeps (beyond n (rest n)) (beyond x (rest' x))) (sym size) (k n l (leb-true n (length s) i)),
                  ),
                ),
              ),
        ),
      ))

-- where both go one way
both-keep : (b : Bool) (f f' g g' : Found) → Keeps f f' → Keeps g g' → Keeps (cond b f g) (cond b f' g')
both-keep true f f' g g' k l = k
both-keep false f f' g g' k l = l

headers-keep : (bound port next room : ℕ) (s t : List ℕ) → Keeps (headers_in bound port next room s) (headers_in bound port next room (s ++ t))
unfolding headers_in
headers-keep zero port next room s t = refl
headers-keep (suc bound) port next room s t =
    both-keep (is_extension next) _ _ _ _
    (onward-keeps next room s t (following bound port room s) (following bound port room (s ++ t))
    (λ n l i.
    let first = get_or s 0 0 in
    let left = room - n in
    rw (octet-stays s t 0 (omega arith)) (behind-keeps (headers_in bound port first left) s t n i (λ u. headers-keep bound port first left u t))))
    (udp-keeps port room s t)

-- one bound for both
all-headers-keep : (port next room : ℕ) (s t : List ℕ) → Keeps (headers port next room s) (headers port next room (s ++ t))
all-headers-keep port next room s t =
    let b = suc (length (s ++ t)) in
    keeps-by (bounds-agree (suc (length s)) b port next room s (omega arith) (omega (arith, length-append s t))) refl (headers-keep b port next room s t)

ipv6-keeps : (port : ℕ) (s t : List ℕ) → Keeps (ipv6_in port s) (ipv6_in port (s ++ t))
unfolding ipv6_in is_ipv6_udp
ipv6-keeps port s t =
    let rest = headers port (get_or s 6 0) (payload_length s) in
    let rest' = headers port (get_or (s ++ t) 6 0) (payload_length (s ++ t)) in
    judge-keeps (ipv6_checks s) (ipv6_checks (s ++ t)) (beyond 40 (rest (drop 40 s))) (beyond 40 (rest' (drop 40 (s ++ t)))) (
      refl,
      seen s t 40 40 refl,
      λ c.
          let l = leb-true 40 (length s) c in
          let next = octet-stays s t 6 (omega arith) in
          let size = pair-stays s t 4 (omega arith) in (
            refl,
            rw (octet-stays s t 0 (omega arith), next),
            λ u. rw (next, size) (behind-keeps rest s t 40 l (λ x. all-headers-keep port (get_or s 6 0) (payload_length s) x t)),
          ),
    )

-- a packet of either version, or of none
either-keeps : (b c : Bool) (port : ℕ) (s t : List ℕ)
    → Keeps (cond b (ipv4_in port s) (cond c (ipv6_in port s) found.Passed)) (cond b (ipv4_in port (s ++ t)) (cond c (ipv6_in port (s ++ t)) found.Passed))
either-keeps true c port s t = ipv4-keeps port s t
either-keeps false true port s t = ipv6-keeps port s t
either-keeps false false port s t = refl

-- tags, of which the last is followed by a type that is no tag's
not-tag : (s : List ℕ) → is_tag (pair s 0) ≡ false → has_tag s ≡ false
unfolding has_tag
not-tag s e = rw e (and-false (leb 4 (length s)))

tags-stay : (s t : List ℕ) → tag_octets s + 2 ≤ length s → is_tag (pair s (tag_octets s)) ≡ false → tag_octets (s ++ t) ≡ tag_octets s
unfolding tag_octets
tags-stay [] t h e = absurd (omega arith)
tags-stay (x ∷ []) t h e = absurd (omega arith)
tags-stay (x ∷ y ∷ []) t h e = tag-none (x ∷ y ∷ t) (not-tag (x ∷ y ∷ t) e)
tags-stay (x ∷ y ∷ a ∷ []) t h e = tag-none (x ∷ y ∷ a ∷ t) (not-tag (x ∷ y ∷ a ∷ t) e)
tags-stay (x ∷ y ∷ a ∷ b ∷ s) t h e = go (is_tag (x * 256 + y)) refl (tags-stay s t)
  where
    go : (d : Bool) → is_tag (x * 256 + y) ≡ d → (tag_octets s + 2 ≤ length s → is_tag (pair s (tag_octets s)) ≡ false → tag_octets (s ++ t) ≡ tag_octets s)
        → cond (is_tag (x * 256 + y)) (4 + tag_octets (s ++ t)) 0 ≡ cond (is_tag (x * 256 + y)) (4 + tag_octets s) 0
    go false q ih = rw q
    go true q ih =
        let n = tag_octets s in
        let all = x ∷ y ∷ a ∷ b ∷ s in
        let f : tag_octets all ≡ 4 + n = rw q in
        let g : is_tag (pair all (4 + n)) ≡ false = ap (λ (k : ℕ). is_tag (pair all k)) (sym f) ∙ e in
        rw q (ap (λ (k : ℕ). 4 + k) (ih (omega arith) (ap is_tag (pair-drop all 4 n) ∙ g)))

tagged-keeps : (port : ℕ) (s t : List ℕ) → Keeps (tagged port s) (tagged port (s ++ t))
unfolding tagged
tagged-keeps port s t = go (leb (tag_octets s + 2) (length s)) (not (is_tag (pair s (tag_octets s)))) refl refl
  where
    go : (b c : Bool) → leb (tag_octets s + 2) (length s) ≡ b → not (is_tag (pair s (tag_octets s))) ≡ c → Keeps (tagged port s) (tagged port (s ++ t))
    go false c p q = rw p tt
    go true false p q = rw (p, q) tt
    go true true p q =
        let n = tag_octets s in
        let l = leb-true (n + 2) (length s) p in
        let e = tags-stay s t l (not-true (is_tag (pair s n)) q) in
        let type = pair-stays s t n l in
        rw (p, q, e, type, q, seen s t (n + 2) (n + 2) refl p)
        (behind-keeps (typed_in port (pair s n)) s t (n + 2) l (λ u. either-keeps (eqb (pair s n) ether_ipv4) (eqb (pair s n) ether_ipv6) port u t))

front-keeps : (n : ℕ) (rest rest' : List ℕ → Found) (s t : List ℕ) → (n ≤ length s → Keeps (beyond n (rest (drop n s))) (beyond n (rest' (drop n (s ++ t)))))
    → Keeps (behind n rest s) (behind n rest' (s ++ t))
front-keeps n rest rest' s t k =
    let f = beyond n (rest (drop n s)) in
    let g = beyond n (rest' (drop n (s ++ t))) in
    judge-keeps ((leb n (length s), found.Cut) ∷ []) ((leb n (length (s ++ t)), found.Cut) ∷ []) f g (
      refl,
      seen s t n n refl,
      λ c. k (leb-true n (length s) c),
    )

link-keeps : (k : Link) (port : ℕ) (s t : List ℕ) → Keeps (link_in k port s) (link_in k port (s ++ t))
unfolding link_in raw_in
link-keeps link.Ethernet port s t = front-keeps 12 (tagged port) (tagged port) s t (λ h. behind-keeps (tagged port) s t 12 h (λ u. tagged-keeps port u t))
link-keeps link.Cooked port s t = front-keeps 14 (tagged port) (tagged port) s t (λ h. behind-keeps (tagged port) s t 14 h (λ u. tagged-keeps port u t))
link-keeps link.CookedV2 port s t =
    let type = pair s 0 in
    front-keeps 20 (typed_in port type) (typed_in port (pair (s ++ t) 0)) s t
    (λ h.
    rw (pair-stays s t 0 (omega arith))
    (behind-keeps (typed_in port type) s t 20 h (λ u. either-keeps (eqb type ether_ipv4) (eqb type ether_ipv6) port u t)))
link-keeps link.Raw port s t =
    let v = version s in
    let w = version (s ++ t) in
    let f = cond (eqb v 4) (ipv4_in port s) (cond (eqb v 6) (ipv6_in port s) found.Passed) in
    let g = cond (eqb w 4) (ipv4_in port (s ++ t)) (cond (eqb w 6) (ipv6_in port (s ++ t)) found.Passed) in
    judge-keeps ((leb 1 (length s), found.Cut) ∷ []) ((leb 1 (length (s ++ t)), found.Cut) ∷ []) f g (
      refl,
      seen s t 1 1 refl,
      λ c. rw (octet-stays s t 0 (leb-true 1 (length s) c)) (either-keeps (eqb v 4) (eqb v 6) port s t),
    )
link-keeps link.Ipv4 port s t = ipv4-keeps port s t
link-keeps link.Ipv6 port s t = ipv6-keeps port s t
link-keeps link.Other port s t = refl

keeps-decided : (f g : Found) → Keeps f g → (f ≡ found.Cut → ⊥) → g ≡ f
keeps-decided (found.Frame a b) g k n = k
keeps-decided found.Passed g k n = k
keeps-decided found.Fragment g k n = k
keeps-decided found.Cut g k n = absurd (n refl)

-- what is decided stays, whatever octets follow
pub decided-stays : (s t : List ℕ) (link port : ℕ) → (datagram_in s link port ≡ found.Cut → ⊥) → datagram_in (s ++ t) link port ≡ datagram_in s link port
decided-stays s t link port n = keeps-decided (datagram_in s link port) (datagram_in (s ++ t) link port) (link-keeps (link_of link) port s t) n

-- a datagram to the port that the capture cut is told as cut, or is there as it would be whole
pub cut-is-told : (s t : List ℕ) (link port start end : ℕ) → datagram_in (s ++ t) link port ≡ found.Frame start end
    → (datagram_in s link port ≡ found.Cut) ⊎ (datagram_in s link port ≡ found.Frame start end)
cut-is-told s t link port start end e = go (datagram_in s link port) (link-keeps (link_of link) port s t)
  where
    go : (f : Found) → Keeps f (datagram_in (s ++ t) link port) → (f ≡ found.Cut) ⊎ (f ≡ found.Frame start end)
    go found.Cut k = inl refl
    go (found.Frame a b) k = inr (sym k ∙ e)
    go found.Passed k = inr (sym k ∙ e)
    go found.Fragment k = inr (sym k ∙ e)
