-- What the code computes: a field is a quotient of the number that the octets around it write.
-- By the place of its bits in that number: those before it, its own, and those behind it.
use mathlib.Core.Path.{◌≡◌, refl, ap, sym, ◌∙◌}
use mathlib.Core.Bool.{Bool}
use mathlib.Core.List.{List, [], ◌∷◌, ◌++◌}
use Prim.Native.Nat.{ℕ, zero, suc, ◌+◌, ◌-◌, ◌*◌, ◌/◌, ◌%◌, ◌^◌, ◌<◌, ◌≤◌}
use native.Mathlib.Nat.{zero-mul, mod-eq_of_lt, mul_assoc}
use native.Mathlib.Numerals.{add-one}
use native.Mathlib.Omega.{arith}
use lib.ListN.{length, take, drop, get_or, length-append, length-drop, take-append-drop}
use lib.Seq.{take-take, drop-drop, drop-cons, length-take-le}
use lib.Pow.{pow-add, high, low}
use Rattle.wire_spec.specs.Bits.{to_bits, bit, num, bits, bits_at, Below}
use Rattle.wire_spec.proofs.BitLaws.{num-below, num-to_bits, length-bits, bits-take, bits-drop, below-take, below-drop}

pub take-drop-take : {A : Type 0} (k n m : ℕ) (l : List A) → k + n ≤ m → take n (drop k (take m l)) ≡ take n (drop k l)
take-drop-take zero n m l h = take-take n m l (omega arith)
take-drop-take (suc k) n zero l h = absurd (omega arith)
take-drop-take (suc k) n (suc m) [] h = refl
take-drop-take (suc k) n (suc m) (x ∷ l) h = take-drop-take k n m l (omega arith)

-- a part of the octets reads as it does in place
pub bits_at-slice : (s : List ℕ) (at m k n : ℕ) → k + n ≤ 8 * m → bits_at (take m (drop at s)) k n ≡ bits_at s (8 * at + k) n
unfolding bits_at
bits_at-slice s at m k n h =
    rw (bits-take m (drop at s), bits-drop at s, take-drop-take k n (8 * m) (drop (8 * at) (bits s)) h, drop-drop k (8 * at) (bits s))

pub num-append : (a b : List Bool) → num (a ++ b) ≡ num a * 2 ^ length b + num b
unfolding num
num-append [] b = omega (arith, zero-mul (2 ^ length b))
num-append (x ∷ a) b =
    rw (num-append a b, length-append a b, pow-add 2 (length a) (length b)) (omega (arith, mul_assoc (bit x) (2 ^ length a) (2 ^ length b)))

num-part : (b : List Bool) (p n t : ℕ) → p + n + t ≡ length b → num (take n (drop p b)) ≡ num b / 2 ^ t % 2 ^ n
num-part b p n t h =
    let x = take n (drop p b) in
    let y = drop n (drop p b) in
    let lx : length x ≡ n = length-take-le n (drop p b) (rw (length-drop p b) (omega arith)) in
    let ly : length y ≡ t = length-drop n (drop p b) ∙ rw (length-drop p b) (omega arith) in
    let hx = num-below x n lx in
    let hy = num-below y t ly in
    let e : num b ≡ (num (take p b) * 2 ^ n + num x) * 2 ^ t + num y =
    ap num (sym (take-append-drop p b) ∙ ap (λ (z : List Bool). take p b ++ z) (sym (take-append-drop n (drop p b))))
    ∙ num-append (take p b) (x ++ y)
    ∙ rw (length-append x y, lx, ly, num-append x y, ly, pow-add 2 n t) (omega arith) in
    sym (ap (λ (z : ℕ). z / 2 ^ t % 2 ^ n) e ∙ ap (λ (z : ℕ). z % 2 ^ n) (high (num (take p b) * 2 ^ n + num x) t hy) ∙ low (num (take p b)) n hx)

-- a part of a run of bits is a quotient of the run's number
pub bits_at-part : (s : List ℕ) (k m p n t : ℕ) → p + n + t ≡ m → k + m ≤ 8 * length s → bits_at s (k + p) n ≡ bits_at s k m / 2 ^ t % 2 ^ n
unfolding bits_at
bits_at-part s k m p n t h l =
    let b = drop k (bits s) in
    let lb : length (take m b) ≡ m = length-take-le m b (rw (length-drop k (bits s), length-bits s) (omega arith)) in
    ap (λ (x : List Bool). num (take n x)) (sym (drop-drop p k (bits s)))
    ∙ ap num (sym (take-drop-take p n m b (omega arith)))
    ∙ num-part (take m b) p n t (h ∙ sym lb)

-- octets as one number
abbrev pub number : List ℕ → ℕ
number [] = 0
number (o ∷ s) = o * 2 ^ (8 * length s) + number s

pub num-bits : (s : List ℕ) → Below 256 s → num (bits s) ≡ number s
unfolding bits num
num-bits [] h = refl
num-bits (o ∷ s) h =
    num-append (to_bits 8 o) (bits s)
    ∙ rw (length-bits s, num-bits s h.1, num-to_bits 8 o, mod-eq_of_lt h.0)

-- n bits from bit p on of the m octets from i on
pub window : (s : List ℕ) → Below 256 s → (i m p n t : ℕ) → p + n + t ≡ 8 * m → i + m ≤ length s
    → bits_at s (8 * i + p) n ≡ number (take m (drop i s)) / 2 ^ t % 2 ^ n
unfolding bits_at
window s b i m p n t h l =
    let c = take m (drop i s) in
    let lc : length c ≡ m = length-take-le m (drop i s) (rw (length-drop i s) (omega arith)) in
    sym (bits_at-slice s i m p n (omega arith))
    ∙ num-part (bits c) p n t (h ∙ sym (length-bits c ∙ rw lc))
    ∙ rw (num-bits c (below-take 256 m (drop i s) (below-drop 256 i s b)))

-- a field within two neighbouring octets
pub within-two : (s : List ℕ) → Below 256 s → (i p n t : ℕ) → p + n + t ≡ 16 → i + 2 ≤ length s
    → bits_at s (8 * i + p) n ≡ (get_or s i 0 * 256 + get_or s (suc i) 0) / 2 ^ t % 2 ^ n
within-two s b i p n t h l =
    window s b i 2 p n t h l
    ∙ rw (drop-cons s i 0 (omega arith), drop-cons s (suc i) 0 (omega arith))
    (let z : get_or s i 0 * 256 + (get_or s (suc i) 0 * 1 + 0) ≡ get_or s i 0 * 256 + get_or s (suc i) 0 = omega arith in rw z)

-- octets are octets at each place, and the other way
pub below_each : (s : List ℕ) → Below 256 s → (j : ℕ) → get_or s j 0 < 256
below_each [] h j = omega arith
below_each (x ∷ s) h zero = h.0
below_each (x ∷ s) h (suc j) = below_each s h.1 j

pub below_all : (s : List ℕ) → ((j : ℕ) → get_or s j 0 < 256) → Below 256 s
below_all [] h = tt
below_all (x ∷ s) h = (h 0, below_all s (λ j. h (suc j)))

-- ten bits at an even place
pub ten-at : (s : List ℕ) → ((j : ℕ) → get_or s j 0 < 256) → (k : ℕ) → k % 8 ≤ 6 → k / 8 + 1 < length s
    → bits_at s k 10 ≡ (get_or s (k / 8) 0 * 256 + get_or s (k / 8 + 1) 0) / 2 ^ (6 - k % 8) % 1024
ten-at s b k h l =
    let e : 8 * (k / 8) + k % 8 ≡ k = omega arith in
    rw (add-one (k / 8)) (rw e at (within-two s (below_all s b) (k / 8) (k % 8) 10 (6 - k % 8) (omega arith) (omega arith)))
