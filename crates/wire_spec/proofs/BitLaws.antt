-- Reading and packing undo one another: fields are read exactly where their bits stand.
-- Everything rests on `num-inj`: as many bits that write one number are the same bits.
use mathlib.Core.Path.{◌≡◌, refl, ap, ap₂, sym, ◌∙◌, subst}
use mathlib.Core.Bool.{Bool, true, false}
use mathlib.Core.Logic.{◌↔◌}
use mathlib.Core.List.{List, [], ◌∷◌, ◌++◌, cons-eq-cons}
use Prim.Native.Nat.{ℕ, zero, suc, ◌+◌, ◌*◌, ◌/◌, ◌%◌, ◌^◌, ◌<◌, ◌≤◌}
use native.Mathlib.Nat.{mod-one, mod-lt, mod-eq_of_lt, add-zero, zero-add, pow-suc, mul-zero, mul-suc, not-suc-le-zero, lt_of_lt_of_le}
use native.Mathlib.Numerals.{one-add}
use native.Mathlib.Omega.{arith}
use lib.Dec.{eqb, lit<}
use lib.ListN.{length, take, drop, get_or, length-append, length-take, length-drop}
use lib.Seq.{take-add, drop-drop, take-append-add, drop-append-add, length-take-le}
use lib.Pow.{pow_mono, mod-pow-add}
use Rattle.wire_spec.specs.Bits.{to_bits, bit, num, bits, octets, bits_at, Fields, width, field_bits, pack, Fit, Below, row, row_at}

-- the octets `s` read, from bit `k` on, as the fields
abbrev pub Reads : List ℕ → ℕ → Fields → Type 0
Reads s k [] = Unit {0}
Reads s k (f ∷ fs) = (bits_at s k f.0 ≡ f.1) × Reads s (k + f.0) fs

pub length-to_bits : (w v : ℕ) → length (to_bits w v) ≡ w
unfolding to_bits
length-to_bits zero v = refl
length-to_bits (suc w) v = ap suc (length-to_bits w v)

pub flag : (x : ℕ) → x < 2 → bit (eqb x 1) ≡ x
flag zero h = refl
flag (suc zero) h = refl
flag (suc (suc x)) h = absurd (omega arith)

pub num-to_bits : (w v : ℕ) → num (to_bits w v) ≡ v % 2 ^ w
unfolding to_bits num
num-to_bits zero v = sym (mod-one v)
num-to_bits (suc w) v =
    rw (flag (v / 2 ^ w % 2) (mod-lt (v / 2 ^ w) (lit< tt)), length-to_bits w v, num-to_bits w v, ← one-add w) (sym (mod-pow-add v 1 w))

pub num-lt : (bs : List Bool) → num bs < 2 ^ length bs
unfolding num
num-lt [] = lit< tt
num-lt (true ∷ bs) = omega (arith, num-lt bs, pow-suc 2 (length bs))
num-lt (false ∷ bs) = omega (arith, num-lt bs, pow-suc 2 (length bs))

pub num-below : (bs : List Bool) (w : ℕ) → length bs ≡ w → num bs < 2 ^ w
num-below bs w l = subst (λ (x : ℕ). num bs < 2 ^ x) l (num-lt bs)

-- n bits are below 2 ^ n
pub bits_at-lt : (s : List ℕ) (k n : ℕ) → bits_at s k n < 2 ^ n
unfolding bits_at
bits_at-lt s k n =
    lt_of_lt_of_le (num-lt (take n (drop k (bits s)))) (pow_mono {j = n} (rw (length-take n (drop k (bits s))) (omega arith)))

pub num-inj : (xs bs : List Bool) → length xs ≡ length bs → num xs ≡ num bs → xs ≡ bs
unfolding num
num-inj [] [] l e = refl
num-inj [] (b ∷ bs) l e = absurd (omega arith)
num-inj (a ∷ xs) [] l e = absurd (omega arith)
num-inj (true ∷ xs) (true ∷ bs) l e =
    let l' : length xs ≡ length bs = omega arith in
    ap (λ (x : List Bool). true ∷ x) (num-inj xs bs l' (omega (arith, ap (λ (x : ℕ). 2 ^ x) l')))
num-inj (false ∷ xs) (false ∷ bs) l e =
    let l' : length xs ≡ length bs = omega arith in
    ap (λ (x : List Bool). false ∷ x) (num-inj xs bs l' (omega arith))
num-inj (true ∷ xs) (false ∷ bs) l e =
    let l' : length xs ≡ length bs = omega arith in
    absurd (omega (arith, ap (λ (x : ℕ). 2 ^ x) l', num-lt bs))
num-inj (false ∷ xs) (true ∷ bs) l e =
    let l' : length xs ≡ length bs = omega arith in
    absurd (omega (arith, ap (λ (x : ℕ). 2 ^ x) l', num-lt xs))

pub to_bits-num : (bs : List Bool) (w : ℕ) → length bs ≡ w → to_bits w (num bs) ≡ bs
to_bits-num bs w l =
    num-inj (to_bits w (num bs)) bs (length-to_bits w (num bs) ∙ sym l)
    (num-to_bits w (num bs) ∙ mod-eq_of_lt (num-below bs w l))

append_inj : {A : Type 0} (a c b d : List A) → length a ≡ length c → a ++ b ≡ c ++ d → (a ≡ c) × (b ≡ d)
append_inj [] [] b d l e = (refl, e)
append_inj [] (y ∷ c) b d l e = absurd (omega arith)
append_inj (x ∷ a) [] b d l e = absurd (omega arith)
append_inj (x ∷ a) (y ∷ c) b d l e =
    let h = cons-eq-cons.0 e in
    let t = append_inj a c b d (omega arith) h.1 in
    (ap₂ ◌∷◌ h.0 t.0, t.1)

-- the fields are read exactly where their bits stand
pub reads-iff : (s : List ℕ) (k : ℕ) (fs : Fields) → k + width fs ≤ length (bits s)
    → Reads s k fs ↔ (Fit fs × (take (width fs) (drop k (bits s)) ≡ field_bits fs))
unfolding field_bits bits_at
reads-iff s k [] h = (λ r. (tt, refl), λ r. tt)
reads-iff s k (f ∷ fs) h =
    let w = f.0 in
    let b = drop k (bits s) in
    let lb : length (take w b) ≡ w = length-take-le w b (rw (length-drop k (bits s)) (omega arith)) in
    let ih = reads-iff s (k + w) fs (omega arith) in
    let e : take (w + width fs) b ≡ take w b ++ take (width fs) (drop (k + w) (bits s)) = rw (take-add w (width fs) b, drop-drop w k (bits s)) in (
      λ r.
          let i = ih.0 r.1 in (
            (rw (← r.0) (num-below (take w b) w lb), i.0),
            e ∙ ap₂ ◌++◌ (sym (to_bits-num (take w b) w lb) ∙ ap (to_bits w) r.0) i.1,
          ),
      λ r.
          let p = append_inj (take w b) (to_bits w f.1) _ _ (lb ∙ sym (length-to_bits w f.1)) (sym e ∙ r.1) in
          (ap num p.0 ∙ num-to_bits w f.1 ∙ mod-eq_of_lt r.0.0, ih.1 (r.0.1, p.1)),
    )

-- a field without bits reads as 0
pub no_bits : (s : List ℕ) (k : ℕ) → bits_at s k 0 ≡ 0
unfolding bits_at num
no_bits s k = refl

-- octets and their bits
pub length-bits : (s : List ℕ) → length (bits s) ≡ 8 * length s
unfolding bits to_bits
length-bits [] = refl
length-bits (o ∷ s) = omega (arith, length-bits s)

pub bits-take : (z : ℕ) (s : List ℕ) → bits (take z s) ≡ take (8 * z) (bits s)
unfolding bits to_bits
bits-take zero s = refl
bits-take (suc z) [] = sym (lib.Seq.take-nil (8 * suc z))
bits-take (suc z) (o ∷ s) =
    let e : 8 * suc z ≡ 8 + 8 * z = omega arith in
    rw e (ap (λ (x : List Bool). to_bits 8 o ++ x) (bits-take z s) ∙ sym (take-append-add (to_bits 8 o) (bits s) (8 * z)))

pub bits-drop : (z : ℕ) (s : List ℕ) → bits (drop z s) ≡ drop (8 * z) (bits s)
unfolding bits to_bits
bits-drop zero s = refl
bits-drop (suc z) [] = sym (lib.Seq.drop-nil (8 * suc z))
bits-drop (suc z) (o ∷ s) =
    let e : 8 * suc z ≡ 8 + 8 * z = omega arith in
    rw e (bits-drop z s ∙ sym (drop-append-add (to_bits 8 o) (bits s) (8 * z)))

pub length-octets : (n : ℕ) (bs : List Bool) → length (octets n bs) ≡ n
unfolding octets
length-octets zero bs = refl
length-octets (suc n) bs = ap suc (length-octets n (drop 8 bs))

pub octets-bits : (s : List ℕ) → Below 256 s → octets (length s) (bits s) ≡ s
unfolding octets bits to_bits
octets-bits [] h = refl
octets-bits (o ∷ s) h =
    ap₂ ◌∷◌ (num-to_bits 8 o ∙ mod-eq_of_lt h.0) (octets-bits s h.1)

pub bits-octets : (n : ℕ) (bs : List Bool) → length bs ≡ 8 * n → bits (octets n bs) ≡ bs
unfolding octets bits
bits-octets zero [] h = refl
bits-octets zero (b ∷ bs) h = absurd (omega arith)
bits-octets (suc n) bs h =
    let l : length (take 8 bs) ≡ 8 = length-take-le 8 bs (omega arith) in
    ap₂ ◌++◌ (to_bits-num (take 8 bs) 8 l) (bits-octets n (drop 8 bs) (rw (length-drop 8 bs) (omega arith)))
    ∙ lib.ListN.take-append-drop 8 bs

pub length-field_bits : (fs : Fields) → length (field_bits fs) ≡ width fs
unfolding field_bits
length-field_bits [] = refl
length-field_bits (f ∷ fs) = length-append (to_bits f.0 f.1) (field_bits fs) ∙ ap₂ ◌+◌ (length-to_bits f.0 f.1) (length-field_bits fs)

pub below-take : (b n : ℕ) (s : List ℕ) → Below b s → Below b (take n s)
below-take b zero s h = tt
below-take b (suc n) [] h = tt
below-take b (suc n) (x ∷ s) h = (h.0, below-take b n s h.1)

pub below-drop : (b n : ℕ) (s : List ℕ) → Below b s → Below b (drop n s)
below-drop b zero s h = h
below-drop b (suc n) [] h = tt
below-drop b (suc n) (x ∷ s) h = below-drop b n s h.1

-- fields that fill n octets are read exactly where their octets stand
module _ (s : List ℕ) (fs : Fields) (n : ℕ) (whole : width fs ≡ 8 * n) where
  pack-n : pack fs ≡ octets n (field_bits fs)
  pack-n = let e : width fs / 8 ≡ n = rw whole (omega arith) in rw e

  pub length-pack : length (pack fs) ≡ n
  length-pack = rw pack-n (length-octets n (field_bits fs))

  pub packed : Below 256 s → n ≤ length s → Reads s 0 fs → Fit fs × (take n s ≡ pack fs)
  packed h l r =
      let p = (reads-iff s 0 fs (rw (length-bits s) (omega arith))).0 r in
      let k : length (take n s) ≡ n = length-take-le n s l in (
        p.0,
        sym (octets-bits (take n s) (below-take 256 n s h))
            ∙ ap₂ octets k (bits-take n s ∙ ap (λ (x : ℕ). take x (bits s)) (sym whole) ∙ p.1)
            ∙ sym pack-n,
      )

  pub unpacked : Fit fs → take n s ≡ pack fs → Reads s 0 fs
  unpacked f e =
      let k : length (take n s) ≡ n = ap length e ∙ length-pack in
      let l : n ≤ length s = omega (arith, sym (length-take n s) ∙ k) in
      (reads-iff s 0 fs (rw (length-bits s) (omega arith))).1 (
        f,
        ap (λ (x : ℕ). take x (bits s)) whole ∙ sym (bits-take n s) ∙ ap bits (e ∙ pack-n)
            ∙ bits-octets n (field_bits fs) (length-field_bits fs ∙ whole),
      )

-- rows of fields, one after the other
pub width-append : (fs gs : Fields) → width (fs ++ gs) ≡ width fs + width gs
width-append [] gs = sym (zero-add (width gs))
width-append (f ∷ fs) gs = omega (arith, width-append fs gs)

pub reads-append : (s : List ℕ) (k : ℕ) (fs gs : Fields) → Reads s k (fs ++ gs) ↔ (Reads s k fs × Reads s (k + width fs) gs)
reads-append s k [] gs = rw (add-zero k) (λ r. (tt, r), λ r. r.1)
reads-append s k (f ∷ fs) gs =
    let ih = reads-append s (k + f.0) fs gs in
    let e : k + (f.0 + width fs) ≡ k + f.0 + width fs = omega arith in
    rw e (λ r. let i = ih.0 r.1 in ((r.0, i.0), i.1), λ r. (r.0.0, ih.1 (r.0.1, r.1)))

-- a row
pub width-row : (w : ℕ) (vs : List ℕ) → width (row w vs) ≡ w * length vs
width-row w [] = sym (mul-zero w)
width-row w (v ∷ vs) = omega (arith, width-row w vs, mul-suc w (length vs))

pub length-row_at : (w : ℕ) (s : List ℕ) (k n : ℕ) → length (row_at w s k n) ≡ n
unfolding row_at
length-row_at w s k zero = refl
length-row_at w s k (suc n) = ap suc (length-row_at w s (k + w) n)

pub reads-row_at : (w : ℕ) (s : List ℕ) (k n : ℕ) → Reads s k (row w (row_at w s k n))
unfolding row_at
reads-row_at w s k zero = tt
reads-row_at w s k (suc n) = (refl, reads-row_at w s (k + w) n)

pub row_at-reads : (w : ℕ) (s : List ℕ) (k : ℕ) (vs : List ℕ) → Reads s k (row w vs) → row_at w s k (length vs) ≡ vs
unfolding row_at
row_at-reads w s k [] r = refl
row_at-reads w s k (v ∷ vs) r = ap₂ ◌∷◌ r.0 (row_at-reads w s (k + w) vs r.1)

-- what is packed is octets
pub below-octets : (n : ℕ) (bs : List Bool) → Below 256 (octets n bs)
unfolding octets
below-octets zero bs = tt
below-octets (suc n) bs =
    (lt_of_lt_of_le (num-lt (take 8 bs)) (pow_mono {j = 8} (rw (length-take 8 bs) (omega arith))), below-octets n (drop 8 bs))

pub below_at : (b : ℕ) (s : List ℕ) (k : ℕ) → Below b s → k < length s → get_or s k 0 < b
below_at b [] k h l = absurd (not-suc-le-zero l)
below_at b (x ∷ s) zero h l = h.0
below_at b (x ∷ s) (suc k) h l = below_at b s k h.1 (omega arith)

pub below-append : (b : ℕ) (s t : List ℕ) → Below b s → Below b t → Below b (s ++ t)
below-append b [] t h k = k
below-append b (x ∷ s) t h k = (h.0, below-append b s t h.1 k)

pub fit_append : (fs gs : Fields) → Fit (fs ++ gs) ↔ (Fit fs × Fit gs)
fit_append [] gs = (λ h. (tt, h), λ h. h.1)
fit_append (f ∷ fs) gs =
    let ih = fit_append fs gs in
    (λ h. let i = ih.0 h.1 in ((h.0, i.0), i.1), λ h. (h.0.0, ih.1 (h.0.1, h.1)))
