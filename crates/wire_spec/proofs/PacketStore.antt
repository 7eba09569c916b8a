-- A packet stored field by field: fields stored one after the other are stored together, and zeros that stood at the
-- packet's end are its alignment bits. By the law of one store after the other, and by what a store leaves of another.
use mathlib.Core.Path.{◌≡◌, refl, ap, ap₂, sym, ◌∙◌}
use mathlib.Core.Bool.{Bool}
use mathlib.Core.List.{List, [], ◌∷◌, ◌++◌, append_assoc, append-nil}
use Prim.Native.Nat.{ℕ, zero, suc, ◌+◌, ◌-◌, ◌*◌, ◌<◌, ◌≤◌}
use native.Mathlib.Nat.{zero-add, add-zero, add-suc}
use native.Mathlib.Omega.{arith}
use lib.ListN.{length, take, drop, length-append, length-drop}
use lib.Seq.{length-take-le, take-append_seam, drop-append_seam, drop-append-add, drop-append-le, drop-drop}
use Rattle.wire_spec.specs.declared.layout.Layout.TheVariants as layout
use Rattle.wire_spec.specs.Bits.{to_bits, bits, Fields, width, field_bits, splice}
use Rattle.wire_spec.specs.Layout.{Layout, rfc8331, draft2015, alignment}
use Rattle.wire_spec.specs.Anc.{Record, checksum, location_fields, body_fields, padding, anc_fields, anc_size, did_at}
use Rattle.wire_spec.proofs.BitLaws.{length-bits, length-to_bits, length-field_bits}
use Rattle.wire_spec.proofs.ListLaws.{splice-is, splice-append}
use Rattle.wire_spec.proofs.LayoutLaws.{places}
use Rattle.wire_spec.proofs.SizeLaws.{width-body, size-bits, pad-few, least_size_lem}
use Rattle.wire_spec.proofs.Store.{bits-splice}

pub field_bits-append : (fs gs : Fields) → field_bits (fs ++ gs) ≡ field_bits fs ++ field_bits gs
unfolding field_bits
field_bits-append [] gs = refl
field_bits-append (f ∷ fs) gs = rw (field_bits-append fs gs) (sym (append_assoc (to_bits f.0 f.1) (field_bits fs) (field_bits gs)))

pub field_bits-one : (w v : ℕ) → field_bits ((w, v) ∷ []) ≡ to_bits w v
unfolding field_bits
field_bits-one w v = append-nil (to_bits w v)

-- fields stored behind fields
pub store-behind : (b : List Bool) (fs gs : Fields) → splice (splice b 0 (field_bits fs)) (width fs) (field_bits gs) ≡ splice b 0 (field_bits (fs ++ gs))
store-behind b fs gs =
    ap (λ (k : ℕ). splice (splice b 0 (field_bits fs)) k (field_bits gs)) (sym (zero-add (length (field_bits fs)) ∙ length-field_bits fs))
    ∙ splice-append b 0 (field_bits fs) (field_bits gs) (omega arith)
    ∙ ap (splice b 0) (sym (field_bits-append fs gs))

-- x stored from the front over z, which was stored from m on: behind x stands what is left of z
splice-over : {A : Type 0} (b : List A) (m : ℕ) (z x : List A) → m ≤ length x → length x ≤ m + length z → m + length z ≤ length b
    → splice (splice b m z) 0 x ≡ splice b 0 (x ++ drop (length x - m) z)
splice-over {A} b m z x h k l =
    let j = length x - m in
    let t = drop (m + length z) b in
    let lm : length (take m b) ≡ m = length-take-le m b (omega arith) in
    let e : length x ≡ length (take m b) + j = rw lm (omega arith) in
    let d : drop (length x) (splice b m z) ≡ drop j z ++ t =
    ap (drop (length x)) (splice-is b m z) ∙ ap (λ (n : ℕ). drop n (take m b ++ (z ++ t))) e ∙ drop-append-add (take m b) (z ++ t) j ∙ drop-append-le j z t (omega arith) in
    let lj : m + length z ≡ length (x ++ drop j z) = sym (length-append x (drop j z) ∙ rw (length-drop j z) (omega arith)) in
    ap (λ (y : List A). x ++ y) d ∙ sym (append_assoc x (drop j z) t) ∙ ap (λ (n : ℕ). (x ++ drop j z) ++ drop n b) lj

drop-zeros : (j w : ℕ) → drop j (to_bits (w + j) 0) ≡ to_bits w 0
unfolding to_bits
drop-zeros zero w = rw (add-zero w)
drop-zeros (suc j) w = rw (add-suc w j) (drop-zeros j w)

-- fields stored over zeros that reach beyond them: what is left of the zeros is a field behind them
pub zeros-behind : (b : List Bool) (m j w : ℕ) (fs : Fields) → width fs ≡ m + j → m + (w + j) ≤ length b
    → splice (splice b m (to_bits (w + j) 0)) 0 (field_bits fs) ≡ splice b 0 (field_bits (fs ++ (w, 0) ∷ []))
zeros-behind b m j w fs e h =
    let x = field_bits fs in
    let z = to_bits (w + j) 0 in
    let lx : length x ≡ m + j = length-field_bits fs ∙ e in
    let lz : length z ≡ w + j = length-to_bits (w + j) 0 in
    let k : length x - m ≡ j = omega arith in
    splice-over b m z x (omega arith) (omega arith) (omega arith)
    ∙ ap (splice b 0)
    (ap (λ (y : List Bool). x ++ y) (ap (λ (n : ℕ). drop n z) k ∙ drop-zeros j w ∙ sym (field_bits-one w 0)) ∙ sym (field_bits-append fs ((w, 0) ∷ [])))

zero-octets : bits (0 ∷ 0 ∷ 0 ∷ 0 ∷ []) ≡ to_bits 32 0
unfolding bits to_bits
zero-octets = refl

-- THE ALIGNMENT BITS: a packet's body stored over octets of which the packet's last four were cleared
pub aligned : (L : Layout) (s : List ℕ) (r : Record) → anc_size L (length r.words) ≤ length s
    → splice (bits (splice s (anc_size L (length r.words) - 4) (0 ∷ 0 ∷ 0 ∷ 0 ∷ []))) 0 (field_bits (body_fields L r))
    ≡ splice (bits s) 0 (field_bits (anc_fields L r))
aligned L s r h =
    let n = length r.words in
    let size = anc_size L n in
    let m = 8 * (size - 4) in
    let fs = body_fields L r in
    let pad = padding (alignment L) (width fs) in
    let few : pad < 32 = pad-few L (width fs) in
    let whole : width fs + pad ≡ 8 * size = rw (width-body L r (checksum r)) (size-bits L n) in
    let least = least_size_lem L n in
    let p = places L in
    let e : 32 ≡ pad + (32 - pad) = omega arith in
    ap (λ (y : List Bool). splice y 0 (field_bits fs))
    (bits-splice s (size - 4) (0 ∷ 0 ∷ 0 ∷ 0 ∷ []) ∙ ap (splice (bits s) m) (zero-octets ∙ ap (λ (k : ℕ). to_bits k 0) e))
    ∙ zeros-behind (bits s) m (32 - pad) pad fs (omega arith) (omega (arith, length-bits s))

-- y stored behind x, over z, which is not longer
splice-under : {A : Type 0} (b x z y : List A) → length z ≤ length y → splice (splice b 0 (x ++ z)) (length x) y ≡ splice b 0 (x ++ y)
splice-under {A} b x z y h =
    let d : drop (length x) (splice b 0 (x ++ z)) ≡ z ++ drop (length (x ++ z)) b = ap (drop (length x)) (append_assoc x z _) ∙ drop-append_seam x _ in
    let t : take (length x) (splice b 0 (x ++ z)) ≡ x = ap (take (length x)) (append_assoc x z _) ∙ take-append_seam x _ in
    let n : length y ≡ length z + (length y - length z) = omega arith in
    let m : length (x ++ z) + (length y - length z) ≡ length (x ++ y) = rw (length-append x z, length-append x y) (omega arith) in
    let e : drop (length y) (z ++ drop (length (x ++ z)) b) ≡ drop (length (x ++ y)) b =
    ap (λ (k : ℕ). drop k (z ++ drop (length (x ++ z)) b)) n
    ∙ drop-append-add z _ (length y - length z)
    ∙ drop-drop (length y - length z) (length (x ++ z)) b
    ∙ ap (λ (k : ℕ). drop k b) m in
    ap₂ (λ (u v : List A). u ++ (y ++ drop (length y) v)) t d
    ∙ ap (λ (v : List A). x ++ (y ++ v)) e
    ∙ sym (append_assoc x y _)

-- DID BEHIND THE PLACE: words stored from DID on, behind the four octets that RFC 8331 has before it. In the drafts' layout, which has no S and
-- StreamNum, DID stands over the fourth.
pub location-behind : (L : Layout) (b : List Bool) (r : Record) (fs : Fields) → 8 ≤ width fs
    → splice (splice b 0 (field_bits (location_fields rfc8331 r))) (did_at L) (field_bits fs) ≡ splice b 0 (field_bits (location_fields L r ++ fs))
location-behind layout.Rfc8331 b r fs h = store-behind b (location_fields rfc8331 r) fs
location-behind layout.Draft2015 b r fs h =
    let place : Fields = (1, r.c) ∷ (11, r.line) ∷ (12, r.offset) ∷ [] in
    let stream : Fields = (1, r.s) ∷ (7, r.stream) ∷ [] in
    let x = field_bits place in
    let lx : length x ≡ 24 = length-field_bits place in
    ap (λ (y : List Bool). splice (splice b 0 y) 24 (field_bits fs)) (field_bits-append place stream)
    ∙ ap (λ (k : ℕ). splice (splice b 0 (x ++ field_bits stream)) k (field_bits fs)) (sym lx)
    ∙ splice-under b x (field_bits stream) (field_bits fs) (omega (arith, length-field_bits stream, length-field_bits fs))
    ∙ ap (splice b 0) (sym (field_bits-append place fs) ∙ none)
  where
    none : field_bits (((1, r.c) ∷ (11, r.line) ∷ (12, r.offset) ∷ []) ++ fs) ≡ field_bits (location_fields draft2015 r ++ fs)
    none = unfold field_bits to_bits in refl
