-- Words, digits and names at the front of a text: what the readers of an item take from it.
-- By the octet at the front.
use mathlib.Core.Path.{◌≡◌, refl, ap, ap₂, sym, ◌∙◌}
use mathlib.Core.Bool.{Bool, true, false, cond, ◌&&◌, true≢false}
use mathlib.Core.List.{List, [], ◌∷◌, ◌++◌}
use Prim.Native.Nat.{ℕ, zero, suc, ◌+◌, ◌<◌, ◌≤◌}
use native.Mathlib.Omega.{arith}
use lib.Dec.{leb, ltb, eqb}
use lib.ListN.{length, take, drop, get_or, length-drop}
use lib.Seq.{drop-drop, get_or-drop}
use borrow.Author.Tests.{leb-true, ltb-true, lt-ltb, le-ltb, eqb-true, eqb-false, eq-eqb, ne_eqb}
use Rattle.std.specs.List.{list_all, prefix_len}
use Rattle.std.specs.Cmp.Lexicographic.{pointwise}
use Rattle.wire_spec.specs.Anc.{Each}
use Rattle.wire_spec.proofs.ResultLaws.{and-true}
use Rattle.sdp_spec.specs.Text.{within, is_name, is_value, digit_value, number, no_digit, hex_base, hex_most}
use Rattle.sdp_spec.specs.Reading.{starts_with, digits, hex_behind, name_length, are_value}

pub within-true : (a b o : ℕ) → within a b o ≡ true → (a ≤ o) × (o ≤ b)
within-true a b o e = let p = and-true (leb a o) (leb o b) e in (leb-true a o p.0, leb-true o b p.1)

-- WORDS
same : (a b : ℕ) → eqb a b ≡ eqb b a
same a b = go (eqb b a) refl
  where
    go : (t : Bool) → eqb b a ≡ t → eqb a b ≡ t
    go true e = eq-eqb a b (sym (eqb-true b a e))
    go false e = ne_eqb a b (λ h. eqb-false b a e (sym h))

-- what the library's `starts_with` tells
pub started : (word text : List ℕ) → pointwise eqb word (take (length word) text) ≡ starts_with word text
unfolding starts_with
started [] s = refl
started (w ∷ ws) [] = refl
started (w ∷ ws) (a ∷ s) = ap₂ ◌&&◌ (same w a) (started ws s)

-- a text that starts with a word is the word and what is behind it
pub starts_is : (word s : List ℕ) → starts_with word s ≡ true → s ≡ word ++ drop (length word) s
unfolding starts_with
starts_is [] s e = refl
starts_is (w ∷ ws) [] e = absurd (true≢false (sym e))
starts_is (w ∷ ws) (a ∷ s) e =
    let p = and-true (eqb a w) (starts_with ws s) e in
    λ i. eqb-true a w p.0 i ∷ starts_is ws s p.1 i

pub starts-length : (word s : List ℕ) → starts_with word s ≡ true → length word ≤ length s
unfolding starts_with
starts-length [] s e = omega arith
starts-length (w ∷ ws) [] e = absurd (true≢false (sym e))
starts-length (w ∷ ws) (a ∷ s) e = let h = starts-length ws s (and-true (eqb a w) (starts_with ws s) e).1 in omega arith

-- DIGITS
no-octet : digit_value 0 ≡ no_digit
unfolding digit_value
no-octet = refl

pub digits-none : (base most : ℕ) (s : List ℕ) → base ≤ digit_value (get_or s 0 0) → digits base most s ≡ []
unfolding digits
digits-none base zero s h = refl
digits-none base (suc most) [] h = refl
digits-none base (suc most) (a ∷ s) h = rw (le-ltb (digit_value a) base h)

pub digits_more : (base most : ℕ) (s : List ℕ) → base ≤ no_digit → digit_value (get_or s 0 0) < base
    → digits base (suc most) s ≡ get_or s 0 0 ∷ digits base most (drop 1 s)
unfolding digits
digits_more base most [] b h = let e = no-octet in absurd (omega arith)
digits_more base most (a ∷ s) b h = rw (lt-ltb (digit_value a) base h)

-- the first two octets
pub digits-one : (base most : ℕ) (s : List ℕ) → base ≤ no_digit → digit_value (get_or s 0 0) < base → base ≤ digit_value (get_or s 1 0)
    → digits base (suc most) s ≡ get_or s 0 0 ∷ []
digits-one base most s b h l = digits_more base most s b h ∙ ap (λ (ds : List ℕ). get_or s 0 0 ∷ ds) (digits-none base most (drop 1 s) (rw (get_or-drop 1 s 0 0) l))

pub digits-two : (base most : ℕ) (s : List ℕ) → base ≤ no_digit → digit_value (get_or s 0 0) < base → digit_value (get_or s 1 0) < base
    → digits base (suc (suc most)) s ≡ get_or s 0 0 ∷ get_or s 1 0 ∷ digits base most (drop 2 s)
digits-two base most s b h l =
    digits_more base (suc most) s b h
    ∙ ap (λ (ds : List ℕ). get_or s 0 0 ∷ ds)
    (digits_more base most (drop 1 s) b (rw (get_or-drop 1 s 0 0) l) ∙ rw (get_or-drop 1 s 0 0, drop-drop 1 1 s))

-- what the digits of a text are
pub record Are (base most : ℕ) (s ds : List ℕ) : Type 0 where
  pub each : Each (λ (d : ℕ). digit_value d < base) ds
  pub few : length ds ≤ most
  pub inside : length ds ≤ length s
  pub front : s ≡ ds ++ drop (length ds) s

pub digits_are : (base most : ℕ) (s : List ℕ) → Are base most s (digits base most s)
unfolding digits
digits_are base zero s = record { each = tt; few = omega arith; inside = omega arith; front = refl }
digits_are base (suc most) [] = record { each = tt; few = omega arith; inside = omega arith; front = refl }
digits_are base (suc most) (a ∷ s) = go (digits_are base most s) (ltb (digit_value a) base) refl
  where
    go : Are base most s (digits base most s) → (t : Bool) → ltb (digit_value a) base ≡ t
        → Are base (suc most) (a ∷ s) (cond t (a ∷ digits base most s) [])
    go d false e = record { each = tt; few = omega arith; inside = omega arith; front = refl }
    go d true e =
        record {
          each = (ltb-true (digit_value a) base e, d.each);
          few = omega (arith, d.few);
          inside = omega (arith, d.inside);
          front = ap (λ (x : List ℕ). a ∷ x) d.front;
        }

-- one or two hex digits write an octet
pub hex-octet : (ds : List ℕ) → Each (λ (d : ℕ). digit_value d < hex_base) ds → length ds ≤ hex_most → number hex_base ds < 256
unfolding number
hex-octet [] h l = omega arith
hex-octet (a ∷ []) h l = omega (arith, h.0)
hex-octet (a ∷ b ∷ []) h l = omega (arith, h.0, h.1.0)
hex-octet (a ∷ b ∷ x ∷ ds) h l = absurd (omega arith)

-- hex digits behind a word: the text starts with the word, and they stand behind it
pub record Behind (word s ds : List ℕ) : Type 0 where
  pub starts : starts_with word s ≡ true
  pub same : ds ≡ digits hex_base hex_most (drop (length word) s)
  pub fits : length word + length ds ≤ length s

pub hex-behind : (word s : List ℕ) → 0 < length (hex_behind word s) → Behind word s (hex_behind word s)
unfolding hex_behind
hex-behind word s h = go (starts_with word s) refl h
  where
    go : (t : Bool) → starts_with word s ≡ t → 0 < length (cond t (digits hex_base hex_most (drop (length word) s)) [])
        → Behind word s (cond t (digits hex_base hex_most (drop (length word) s)) [])
    go false e h = absurd (omega arith)
    go true e h =
        let l = starts-length word s e in
        let d = (digits_are hex_base hex_most (drop (length word) s)).inside in
        record { starts = e; same = refl; fits = omega (arith, length-drop (length word) s) }

-- the hex digits behind a word write an octet
pub behind-octet : (word s : List ℕ) → number hex_base (hex_behind word s) < 256
unfolding hex_behind number
behind-octet word s = go (starts_with word s)
  where
    go : (t : Bool) → number hex_base (cond t (digits hex_base hex_most (drop (length word) s)) []) < 256
    go false = omega arith
    go true = let d = digits_are hex_base hex_most (drop (length word) s) in hex-octet (digits hex_base hex_most (drop (length word) s)) d.each d.few

-- NAMES
pub name-is : (s : List ℕ) → prefix_len is_name s ≡ name_length s
unfolding name_length
name-is [] = refl
name-is (a ∷ s) = let e : 1 + prefix_len is_name s ≡ suc (name_length s) = omega (arith, name-is s) in ap (λ (n : ℕ). cond (is_name a) n 0) e

pub name-inside : (s : List ℕ) → name_length s ≤ length s
unfolding name_length
name-inside [] = omega arith
name-inside (a ∷ s) = go (name-inside s) (is_name a)
  where
    go : name_length s ≤ length s → (t : Bool) → cond t (suc (name_length s)) 0 ≤ suc (length s)
    go h true = omega arith
    go h false = omega arith

-- VALUES
pub value-is : (s : List ℕ) → list_all is_value s ≡ are_value s
unfolding are_value
value-is [] = refl
value-is (a ∷ s) = ap (λ (t : Bool). is_value a && t) (value-is s)
