-- What `option_of` found by its tests is what the word is.
use Rattle.std.proofs.Common.{◌≡◌, refl, ap, sym, Bool, true, false, ◌&&◌, cond, List, [], ◌∷◌, ℕ, eqb, take}
use Rattle.std.specs.Cmp.Lexicographic.{pointwise}
use Prim.Native.Char.{code}
use Prim.Native.String.{String, [] as []ˢ, ◌∷◌ as ◌∷ˢ◌}
use borrow.Author.Tests.{eqb-true, eqb-false, eq-eqb, ne_eqb}
use Rattle.program_arguments.specs.declared.options.Told.TheVariants as told
use Rattle.program_arguments.specs.Options.{is_text, dash, named, option_of}

-- a text's octets
abbrev pub octets : String → List ℕ
octets []ˢ = []
octets (c ∷ˢ s) = code c ∷ octets s

-- what `==` tells of a word and a text
pub as-text : (w : List ℕ) (s : String) → pointwise eqb w (octets s) ≡ is_text w s
unfolding is_text
as-text [] []ˢ = refl
as-text [] (c ∷ˢ s) = refl
as-text (x ∷ xs) []ˢ = refl
as-text (x ∷ xs) (c ∷ˢ s) = ap (λ (b : Bool). eqb x (code c) && b) (as-text xs s)

-- what `starts_with` tells of it
abbrev pub dashed : List ℕ → Bool
dashed w = pointwise eqb (dash ∷ []) (take 1 w)

first-dash : (x : ℕ) → eqb x dash ≡ eqb dash x && true
first-dash x = go (eqb dash x) refl
  where
    go : (b : Bool) → eqb dash x ≡ b → eqb x dash ≡ b && true
    go true e = eq-eqb x dash (sym (eqb-true dash x e))
    go false e = ne_eqb x dash (λ h. eqb-false dash x e (sym h))

pub by-tests : (w : List ℕ) → option_of w ≡ cond (dashed w) (named w) told.Operand
unfolding option_of
by-tests [] = refl
by-tests (x ∷ xs) = ap (λ (b : Bool). cond b (named (x ∷ xs)) told.Operand) (first-dash x)
