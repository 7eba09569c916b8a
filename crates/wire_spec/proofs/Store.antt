-- What the code stores: a field put into the two octets around it changes its own bits and no other.
-- By the number of those two octets, of which the bits before, in and behind the field are quotient and remainder.
use mathlib.Core.Path.{◌≡◌, refl, ap, ap₂, sym, ◌∙◌, subst}
use mathlib.Core.Bool.{Bool}
use mathlib.Core.List.{List, [], ◌∷◌, ◌++◌, append_assoc}
use Prim.Native.Nat.{ℕ, suc, ◌+◌, ◌-◌, ◌*◌, ◌/◌, ◌%◌, ◌^◌, ◌<◌, ◌≤◌}
use native.Mathlib.Nat.{mod-eq_of_lt, mod-mod}
use native.Mathlib.Numerals.{add-one}
use native.Mathlib.Omega.{arith}
use lib.ListN.{length, take, drop, get_or, set, length-append, length-drop, take-append-drop}
use lib.Seq.{take-add, drop-drop, drop-cons, length-take-le, sets-eq, drop-append-le, take-take}
use lib.Pow.{pow-add, high, low, mod-pow-add}
use Rattle.wire_spec.specs.Bits.{to_bits, num, bits, octets, Below, Fields, width, field_bits, pack, splice}
use Rattle.wire_spec.proofs.BitLaws.{num-below, num-inj, num-to_bits, to_bits-num, length-to_bits, length-bits, bits-take, bits-drop, below-take, below-drop, below-append, below-octets, length-field_bits, length-pack, octets-bits, bits-octets}
use Rattle.wire_spec.proofs.ListLaws.{splice-is, length-splice}
use Rattle.wire_spec.proofs.Window.{num-append, num-bits, number, below_all}

-- sixteen bits x, of which the n that end t before the last become v
abbrev pub put : ℕ → ℕ → ℕ → ℕ → ℕ
put x n t v = (x / 2 ^ (n + t) * 2 ^ n + v) * 2 ^ t + x % 2 ^ t

abbrev pub set_two : List ℕ → ℕ → ℕ → List ℕ
set_two s i y = take i s ++ (y / 256 ∷ y % 256 ∷ drop (i + 2) s)

pub bits-append : (a b : List ℕ) → bits (a ++ b) ≡ bits a ++ bits b
unfolding bits
bits-append [] b = refl
bits-append (o ∷ a) b = rw (bits-append a b) (sym (append_assoc (to_bits 8 o) (bits a) (bits b)))

-- the parts of a list of bits, as numbers
num-take : (b : List Bool) (p t : ℕ) → p + t ≡ length b → num (take p b) ≡ num b / 2 ^ t
num-take b p t h =
    let ly : length (drop p b) ≡ t = length-drop p b ∙ omega arith in
    sym (ap (λ (z : ℕ). z / 2 ^ t) (ap num (sym (take-append-drop p b)) ∙ num-append (take p b) (drop p b) ∙ rw ly) ∙ high (num (take p b)) t (num-below (drop p b) t ly))

num-drop : (b : List Bool) (p t : ℕ) → p + t ≡ length b → num (drop p b) ≡ num b % 2 ^ t
num-drop b p t h =
    let ly : length (drop p b) ≡ t = length-drop p b ∙ omega arith in
    sym (ap (λ (z : ℕ). z % 2 ^ t) (ap num (sym (take-append-drop p b)) ∙ num-append (take p b) (drop p b) ∙ rw ly) ∙ low (num (take p b)) t (num-below (drop p b) t ly))

-- sixteen bits
put-bits : (c : List Bool) (p n t v : ℕ) → p + n + t ≡ length c → v < 2 ^ n → to_bits (length c) (put (num c) n t v) ≡ splice c p (to_bits n v)
put-bits c p n t v h l =
    let ln = length-to_bits n v in
    let lt : length (drop (p + n) c) ≡ t = length-drop (p + n) c ∙ omega arith in
    let lp : length (take p c) ≡ p = length-take-le p c (omega arith) in
    let e : splice c p (to_bits n v) ≡ take p c ++ (to_bits n v ++ drop (p + n) c) = splice-is c p (to_bits n v) ∙ rw ln in
    let len : length (splice c p (to_bits n v)) ≡ length c = ap length e ∙ length-append (take p c) _ ∙ rw (length-append (to_bits n v) (drop (p + n) c), lp, ln, lt) (omega arith) in
    let val : num (splice c p (to_bits n v)) ≡ put (num c) n t v =
    ap num e ∙ num-append (take p c) _
    ∙ rw (length-append (to_bits n v) (drop (p + n) c), ln, lt, num-append (to_bits n v) (drop (p + n) c), lt, num-to_bits n v, mod-eq_of_lt l, num-take c p (n + t) (omega arith), num-drop c (p + n) t h, pow-add 2 n t) (omega arith) in
    rw (← val) (to_bits-num (splice c p (to_bits n v)) (length c) len)

two-octets : (y : ℕ) → to_bits 8 (y / 256) ++ to_bits 8 (y % 256) ≡ to_bits 16 y
two-octets y =
    num-inj (to_bits 8 (y / 256) ++ to_bits 8 (y % 256)) (to_bits 16 y)
    (length-append (to_bits 8 (y / 256)) (to_bits 8 (y % 256)) ∙ rw (length-to_bits 8 (y / 256), length-to_bits 8 (y % 256), length-to_bits 16 y))
    (num-append (to_bits 8 (y / 256)) (to_bits 8 (y % 256))
    ∙ rw (length-to_bits 8 (y % 256), num-to_bits 8 (y / 256), num-to_bits 8 (y % 256), mod-mod y 256, num-to_bits 16 y) (sym (mod-pow-add y 8 8)))

-- A STORE: exactly the field's bits become its value
pub store_two : (s : List ℕ) → Below 256 s → (i p n t v : ℕ) → p + n + t ≡ 16 → i + 2 ≤ length s → v < 2 ^ n
    → bits (set_two s i (put (number (take 2 (drop i s))) n t v)) ≡ splice (bits s) (8 * i + p) (to_bits n v)
store_two s b i p n t v h l hv =
    let win = take 2 (drop i s) in
    let c = bits win in
    let B = bits s in
    let y = put (number win) n t v in
    let N = to_bits n v in
    let lw : length win ≡ 2 = length-take-le 2 (drop i s) (rw (length-drop i s) (omega arith)) in
    let lc : length c ≡ 16 = length-bits win ∙ rw lw in
    let nc : num c ≡ number win = num-bits win (below-take 256 2 (drop i s) (below-drop 256 i s b)) in
    let mid : to_bits 16 y ≡ splice c p N = subst (λ (k : ℕ). to_bits 16 (put k n t v) ≡ splice c p N) nc (subst (λ (k : ℕ). to_bits k (put (num c) n t v) ≡ splice c p N) lc (put-bits c p n t v (h ∙ sym lc) hv)) in
    let ln : length N ≡ n = length-to_bits n v in
    let mid' : to_bits 16 y ≡ take p c ++ (N ++ drop (p + n) c) = mid ∙ splice-is c p N ∙ rw ln in
    let c_b : c ≡ take 16 (drop (8 * i) B) = bits-take 2 (drop i s) ∙ ap (take 16) (bits-drop i s) in
    let one : take (8 * i) B ++ take p c ≡ take (8 * i + p) B =
    ap (λ (z : List Bool). take (8 * i) B ++ take p z) c_b ∙ ap (λ (z : List Bool). take (8 * i) B ++ z) (take-take p 16 (drop (8 * i) B) (omega arith)) ∙ sym (take-add (8 * i) p B) in
    let e2 : 8 * (i + 2) ≡ 8 * i + 16 = omega arith in
    let tail : bits (drop (i + 2) s) ≡ drop 16 (drop (8 * i) B) = bits-drop (i + 2) s ∙ rw e2 (sym (drop-drop 16 (8 * i) B)) in
    let two : drop (p + n) c ++ bits (drop (i + 2) s) ≡ drop (8 * i + (p + n)) B =
    ap (λ (z : List Bool). drop (p + n) c ++ z) tail ∙ sym (drop-append-le (p + n) c (drop 16 (drop (8 * i) B)) (omega arith))
    ∙ ap (drop (p + n)) (ap (λ (z : List Bool). z ++ drop 16 (drop (8 * i) B)) c_b ∙ take-append-drop 16 (drop (8 * i) B)) ∙ drop-drop (p + n) (8 * i) B in
    let e3 : 8 * i + p + n ≡ 8 * i + (p + n) = omega arith in
    let last : take (8 * i + p) B ++ (N ++ drop (8 * i + (p + n)) B) ≡ splice B (8 * i + p) N = sym (splice-is B (8 * i + p) N ∙ rw (ln, e3)) in
    bits-append (take i s) (y / 256 ∷ y % 256 ∷ drop (i + 2) s)
    ∙ ap₂ ◌++◌ (bits-take i s) (pair y (drop (i + 2) s) ∙ ap (λ (z : List Bool). z ++ bits (drop (i + 2) s)) mid')
    ∙ ap (λ (z : List Bool). take (8 * i) B ++ z) (append_assoc (take p c) (N ++ drop (p + n) c) _ ∙ ap (λ (z : List Bool). take p c ++ z) (append_assoc N (drop (p + n) c) _))
    ∙ sym (append_assoc (take (8 * i) B) (take p c) _)
    ∙ ap₂ (λ (x z : List Bool). x ++ (N ++ z)) one two
    ∙ last
  where
    pair : (y : ℕ) (d : List ℕ) → bits (y / 256 ∷ y % 256 ∷ d) ≡ to_bits 16 y ++ bits d
    pair y d = unfold bits in (sym (append_assoc (to_bits 8 (y / 256)) (to_bits 8 (y % 256)) (bits d)) ∙ rw (two-octets y))

-- ten bits at an even place
pub store-ten : (s : List ℕ) → ((j : ℕ) → get_or s j 0 < 256) → (k w : ℕ) → k % 8 ≤ 6 → k / 8 + 1 < length s → w < 1024
    → bits (set (set s (k / 8) (put (get_or s (k / 8) 0 * 256 + get_or s (k / 8 + 1) 0) 10 (6 - k % 8) w / 256)) (k / 8 + 1)
    (put (get_or s (k / 8) 0 * 256 + get_or s (k / 8 + 1) 0) 10 (6 - k % 8) w % 256))
    ≡ splice (bits s) k (to_bits 10 w)
store-ten s sm k w h l hw =
    let i = k / 8 in
    let e : 8 * i + k % 8 ≡ k = omega arith in
    let x : number (take 2 (drop i s)) ≡ get_or s i 0 * 256 + get_or s (suc i) 0 = rw (drop-cons s i 0 (omega arith), drop-cons s (suc i) 0 (omega arith)) (omega arith) in
    let r = store_two s (below_all s sm) i (k % 8) 10 (6 - k % 8) w (omega arith) (omega arith) hw in
    rw (add-one i, sets-eq (put (get_or s i 0 * 256 + get_or s (suc i) 0) 10 (6 - k % 8) w / 256 ∷ put (get_or s i 0 * 256 + get_or s (suc i) 0) 10 (6 - k % 8) w % 256 ∷ []) s i (omega arith), append_assoc)
    (rw (x, e) at r)

-- octets written over, as bits
pub bits-splice : (s : List ℕ) (i : ℕ) (new : List ℕ) → bits (splice s i new) ≡ splice (bits s) (8 * i) (bits new)
bits-splice s i new =
    bits-append (take i s) _
    ∙ ap₂ ◌++◌ (bits-take i s)
    (bits-append new _
    ∙ ap (λ (b : List Bool). bits new ++ b)
    (bits-drop (length new) (drop i s) ∙ ap₂ (λ (n : ℕ) (b : List Bool). drop n b) (sym (length-bits new)) (bits-drop i s)))

pub bits-inj : (s t : List ℕ) → Below 256 s → Below 256 t → length s ≡ length t → bits s ≡ bits t → s ≡ t
bits-inj s t hs ht l e = sym (octets-bits s hs) ∙ ap₂ octets l e ∙ octets-bits t ht

-- FIELDS THAT FILL n OCTETS, stored from octet i on: those octets are now the packed fields, and no other has changed
pub stored : (s t : List ℕ) → Below 256 s → Below 256 t → (i n : ℕ) (fs : Fields) → width fs ≡ 8 * n → i + n ≤ length s
    → bits t ≡ splice (bits s) (8 * i) (field_bits fs) → t ≡ splice s i (pack fs)
stored s t hs ht i n fs w h e =
    let lf : length (field_bits fs) ≡ 8 * n = length-field_bits fs ∙ w in
    let lp : length (pack fs) ≡ n = length-pack [] fs n w in
    let ls : length (splice s i (pack fs)) ≡ length s = length-splice s i (pack fs) (omega arith) in
    let lt : length (bits t) ≡ length (bits s) = ap length e ∙ length-splice (bits s) (8 * i) (field_bits fs) (omega (arith, length-bits s)) in
    let l : length t ≡ length (splice s i (pack fs)) = omega (arith, length-bits s, length-bits t) in
    let p : bits (pack fs) ≡ field_bits fs = (let q : width fs / 8 ≡ n = rw w (omega arith) in rw q (bits-octets n (field_bits fs) lf)) in
    bits-inj t (splice s i (pack fs)) ht
    (below-append 256 (take i s) _ (below-take 256 i s hs) (below-append 256 (pack fs) _ (below-octets _ _) (below-drop 256 (length (pack fs)) (drop i s) (below-drop 256 i s hs))))
    l (e ∙ sym (bits-splice s i (pack fs) ∙ ap (splice (bits s) (8 * i)) p))
