-- The octets of each class, of all 256, and the words of the grammar, against what 01 prints.
-- By computation.
use mathlib.Core.Path.{◌≡◌, refl}
use mathlib.Core.Bool.{Bool, not, cond}
use mathlib.Core.List.{List, [], ◌∷◌, map}
use Prim.Native.Nat.{ℕ, zero, suc}
use lib.Dec.{ltb}
use Rattle.text.specs.Text.{ascii}
use Rattle.sdp_spec.specs.Text.{did_sdid_word, vpid_code_word, open_word, comma_word, close_word, is_name, is_value, digit_value}

-- the octets that pass, in order: of `n` octets from `a` on
abbrev among : (ℕ → Bool) → (n a : ℕ) → List ℕ
among pass zero a = []
among pass (suc n) a = cond (pass a) (a ∷ among pass n (suc a)) (among pass n (suc a))

-- "letters, digits, `_` or `-`"; "octets other than `;` and space"
pub name-octets : among is_name 256 0 ≡ ascii "-0123456789ABCDEFGHIJKLMNOPQRSTUVWXYZ_abcdefghijklmnopqrstuvwxyz"
unfolding ascii is_name
name-octets = refl

pub value-octets : among (λ (o : ℕ). not (is_value o)) 256 0 ≡ ascii " ;"
unfolding ascii is_value
value-octets = refl

-- "hex digits of either case", and what each is worth; "digits"
pub hex-octets : (among (λ (o : ℕ). ltb (digit_value o) 16) 256 0 ≡ ascii "0123456789ABCDEFabcdef")
    × (map digit_value (ascii "0123456789ABCDEFabcdef")
    ≡ 0 ∷ 1 ∷ 2 ∷ 3 ∷ 4 ∷ 5 ∷ 6 ∷ 7 ∷ 8 ∷ 9 ∷ 10 ∷ 11 ∷ 12 ∷ 13 ∷ 14 ∷ 15 ∷ 10 ∷ 11 ∷ 12 ∷ 13 ∷ 14 ∷ 15 ∷ [])
    × (among (λ (o : ℕ). ltb (digit_value o) 10) 256 0 ≡ ascii "0123456789")
unfolding ascii digit_value
hex-octets = (refl, refl, refl)

-- "`DID_SDID={0xH,0xH}`", "`VPID_Code=`"
pub words : (did_sdid_word ≡ ascii "DID_SDID=") × (vpid_code_word ≡ ascii "VPID_Code=") × (open_word ≡ ascii "{0x") × (comma_word ≡ ascii ",0x") × (close_word ≡ 0x7D ∷ [])
unfolding ascii
words = (refl, refl, refl, refl, refl)
