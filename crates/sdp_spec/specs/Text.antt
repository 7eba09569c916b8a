-- The octets of a text of parameters (01, "SDP parameters"): its words, its signs, its digits.
use Rattle.std.specs.Prelude.{Bool, not, cond, ◌&&◌, ◌||◌, List, [], ◌∷◌, ◌++◌, ℕ, ◌+◌, ◌-◌, ◌*◌, ◌^◌, eqb, leb, length}

-- `;`, space and `=`
abbrev pub semicolon : ℕ
semicolon = 0x3B

abbrev pub space : ℕ
space = 0x20

abbrev pub equals_sign : ℕ
equals_sign = 0x3D

-- the known names `DID_SDID` and `VPID_Code`
abbrev pub did_sdid_name : List ℕ
did_sdid_name = 0x44 ∷ 0x49 ∷ 0x44 ∷ 0x5F ∷ 0x53 ∷ 0x44 ∷ 0x49 ∷ 0x44 ∷ []

abbrev pub vpid_code_name : List ℕ
vpid_code_name = 0x56 ∷ 0x50 ∷ 0x49 ∷ 0x44 ∷ 0x5F ∷ 0x43 ∷ 0x6F ∷ 0x64 ∷ 0x65 ∷ []

-- the names with their `=`
abbrev pub did_sdid_word : List ℕ
did_sdid_word = did_sdid_name ++ (equals_sign ∷ [])

abbrev pub vpid_code_word : List ℕ
vpid_code_word = vpid_code_name ++ (equals_sign ∷ [])

-- `{0x`, `,0x` and `}`
abbrev pub open_word : List ℕ
open_word = 0x7B ∷ 0x30 ∷ 0x78 ∷ []

abbrev pub comma_word : List ℕ
comma_word = 0x2C ∷ 0x30 ∷ 0x78 ∷ []

abbrev pub close_word : List ℕ
close_word = 0x7D ∷ []

-- the octets from `a` to `b`
abbrev pub within : ℕ → ℕ → ℕ → Bool
within a b o = leb a o && leb o b

-- "letters, digits, `_` or `-`"
unfoldable pub is_name : ℕ → Bool
is_name o = within 0x30 0x39 o || (within 0x41 0x5A o || (within 0x61 0x7A o || (eqb o 0x5F || eqb o 0x2D)))

-- "octets other than `;` and space"
unfoldable pub is_value : ℕ → Bool
is_value o = not (eqb o semicolon || eqb o space)

-- the value of a digit, hex "of either case"; `no_digit` for any other octet
abbrev pub no_digit : ℕ
no_digit = 16

unfoldable pub digit_value : ℕ → ℕ
digit_value o =
    cond (within 0x30 0x39 o) (o - 0x30)
    (cond (within 0x41 0x46 o) (o - 0x37)
    (cond (within 0x61 0x66 o) (o - 0x57) no_digit))

-- the number that digits of a base write
unfoldable pub number : ℕ → List ℕ → ℕ
number base [] = 0
number base (d ∷ ds) = digit_value d * base ^ length ds + number base ds

-- the bases, and how many digits a number may have: "H one or two hex digits", "one to three digits, at most 255"
abbrev pub hex_base : ℕ
hex_base = 16

abbrev pub hex_most : ℕ
hex_most = 2

abbrev pub decimal_base : ℕ
decimal_base = 10

abbrev pub decimal_most : ℕ
decimal_most = 3

abbrev pub max_code : ℕ
max_code = 255

-- 40: "text over 4,096 octets"; 43: "over 64 pairs"
abbrev pub max_text : ℕ
max_text = 4096

abbrev pub max_pairs : ℕ
max_pairs = 64
