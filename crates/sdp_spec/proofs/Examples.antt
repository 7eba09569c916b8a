-- Texts of RFC 8331 and of the drafts, refusals with their items, and what the laws leave open: the numbers.
-- By computation.
use Rattle.std.specs.Prelude.{Some, None}
use mathlib.Core.Path.{◌≡◌, refl}
use mathlib.Core.List.{List, [], ◌∷◌, ◌++◌}
use Prim.Native.Nat.{ℕ, zero, suc}
use Rattle.wire_spec.specs.Result.{Result, Ok, refuse}
use Rattle.sdp_spec.specs.Text.{semicolon, space, is_name, is_value, digit_value, number}
use Rattle.sdp_spec.specs.Grammar.{Content}
use Rattle.sdp_spec.specs.Reading.{starts_with, digits, hex_behind, did_sdid_of, vpid_code_of, name_length, are_value, other_of, item_of, skip_spaces, front, fronts, items, gather, read_text, read_into}
use Rattle.text.specs.Text.{digits as text_digits, decimal_in, decimal, hex}
use Rattle.sdp_spec.specs.Writing.{pair_text, code_text, pair_texts, separated, joined, write_text}

-- `DID_SDID={0x61,0x02}`
abbrev captions : List ℕ
captions = 0x44 ∷ 0x49 ∷ 0x44 ∷ 0x5F ∷ 0x53 ∷ 0x44 ∷ 0x49 ∷ 0x44 ∷ 0x3D ∷ 0x7B ∷ 0x30 ∷ 0x78 ∷ 0x36 ∷ 0x31 ∷ 0x2C ∷ 0x30 ∷ 0x78 ∷ 0x30 ∷ 0x32 ∷ 0x7D ∷ []

-- `DID_SDID={0x41,0x05}`
abbrev afd : List ℕ
afd = 0x44 ∷ 0x49 ∷ 0x44 ∷ 0x5F ∷ 0x53 ∷ 0x44 ∷ 0x49 ∷ 0x44 ∷ 0x3D ∷ 0x7B ∷ 0x30 ∷ 0x78 ∷ 0x34 ∷ 0x31 ∷ 0x2C ∷ 0x30 ∷ 0x78 ∷ 0x30 ∷ 0x35 ∷ 0x7D ∷ []

-- `VPID_Code=132`
abbrev vpid : List ℕ
vpid = 0x56 ∷ 0x50 ∷ 0x49 ∷ 0x44 ∷ 0x5F ∷ 0x43 ∷ 0x6F ∷ 0x64 ∷ 0x65 ∷ 0x3D ∷ 0x31 ∷ 0x33 ∷ 0x32 ∷ []

-- `DID_SDID={0xa,0xF}`
abbrev short : List ℕ
short = 0x44 ∷ 0x49 ∷ 0x44 ∷ 0x5F ∷ 0x53 ∷ 0x44 ∷ 0x49 ∷ 0x44 ∷ 0x3D ∷ 0x7B ∷ 0x30 ∷ 0x78 ∷ 0x61 ∷ 0x2C ∷ 0x30 ∷ 0x78 ∷ 0x46 ∷ 0x7D ∷ []

-- `a-b_9=x,y`
abbrev unknown : List ℕ
unknown = 0x61 ∷ 0x2D ∷ 0x62 ∷ 0x5F ∷ 0x39 ∷ 0x3D ∷ 0x78 ∷ 0x2C ∷ 0x79 ∷ []

-- `vpid_code=132`
abbrev lower_name : List ℕ
lower_name = 0x76 ∷ 0x70 ∷ 0x69 ∷ 0x64 ∷ 0x5F ∷ 0x63 ∷ 0x6F ∷ 0x64 ∷ 0x65 ∷ 0x3D ∷ 0x31 ∷ 0x33 ∷ 0x32 ∷ []

-- `DID_SDID={0x61, 0x02}`
abbrev spaced : List ℕ
spaced = 0x44 ∷ 0x49 ∷ 0x44 ∷ 0x5F ∷ 0x53 ∷ 0x44 ∷ 0x49 ∷ 0x44 ∷ 0x3D ∷ 0x7B ∷ 0x30 ∷ 0x78 ∷ 0x36 ∷ 0x31 ∷ 0x2C ∷ 0x20 ∷ 0x30 ∷ 0x78 ∷ 0x30 ∷ 0x32 ∷ 0x7D ∷ []

-- `VPID_Code=007`
abbrev leading : List ℕ
leading = 0x56 ∷ 0x50 ∷ 0x49 ∷ 0x44 ∷ 0x5F ∷ 0x43 ∷ 0x6F ∷ 0x64 ∷ 0x65 ∷ 0x3D ∷ 0x30 ∷ 0x30 ∷ 0x37 ∷ []

-- `VPID_Code=256`
abbrev over : List ℕ
over = 0x56 ∷ 0x50 ∷ 0x49 ∷ 0x44 ∷ 0x5F ∷ 0x43 ∷ 0x6F ∷ 0x64 ∷ 0x65 ∷ 0x3D ∷ 0x32 ∷ 0x35 ∷ 0x36 ∷ []

-- `VPID_Code=1320`
abbrev four : List ℕ
four = 0x56 ∷ 0x50 ∷ 0x49 ∷ 0x44 ∷ 0x5F ∷ 0x43 ∷ 0x6F ∷ 0x64 ∷ 0x65 ∷ 0x3D ∷ 0x31 ∷ 0x33 ∷ 0x32 ∷ 0x30 ∷ []

-- `VPID_Code`
abbrev bare : List ℕ
bare = 0x56 ∷ 0x50 ∷ 0x49 ∷ 0x44 ∷ 0x5F ∷ 0x43 ∷ 0x6F ∷ 0x64 ∷ 0x65 ∷ []

-- `DID_SDID={0x061,0x02}`
abbrev three : List ℕ
three = 0x44 ∷ 0x49 ∷ 0x44 ∷ 0x5F ∷ 0x53 ∷ 0x44 ∷ 0x49 ∷ 0x44 ∷ 0x3D ∷ 0x7B ∷ 0x30 ∷ 0x78 ∷ 0x30 ∷ 0x36 ∷ 0x31 ∷ 0x2C ∷ 0x30 ∷ 0x78 ∷ 0x30 ∷ 0x32 ∷ 0x7D ∷ []

-- `x=`
abbrev valueless : List ℕ
valueless = 0x78 ∷ 0x3D ∷ []

infixr 30 ◌then-text◌
-- two texts with `;` between them
abbrev ◌then-text◌ : List ℕ → List ℕ → List ℕ
s then-text t = s ++ (semicolon ∷ t)

abbrev says : List ℕ → Result Content
says pairs = Ok (record { pairs = pairs; vpid = None })

-- RFC 8331, section 4: `DID_SDID={0x61,0x02};DID_SDID={0x41,0x05};VPID_Code=132`, read and written; the drafts' has no VPID code
abbrev sample : Content
sample = record { pairs = 0x61 ∷ 0x02 ∷ 0x41 ∷ 0x05 ∷ []; vpid = Some 132 }

pub reads-sample : (read_text (captions then-text afd then-text vpid) ≡ Ok sample)
    × (read_into (captions then-text afd then-text vpid) 4 ≡ Ok sample)
    × (read_text captions ≡ says (0x61 ∷ 0x02 ∷ []))
    × (read_text (captions then-text afd) ≡ says (0x61 ∷ 0x02 ∷ 0x41 ∷ 0x05 ∷ []))
unfolding is_name is_value digit_value number starts_with digits hex_behind did_sdid_of vpid_code_of name_length are_value other_of item_of skip_spaces front fronts items gather read_text read_into
reads-sample = (refl, refl, refl, refl)

pub writes-sample : (write_text sample 55 ≡ Ok (captions then-text afd then-text vpid))
    × (write_text (record { pairs = 0x61 ∷ 0x02 ∷ 0x41 ∷ 0x05 ∷ []; vpid = None }) 41 ≡ Ok (captions then-text afd))
    × (write_text (record { pairs = []; vpid = Some 132 }) 13 ≡ Ok vpid)
    × (write_text (record { pairs = []; vpid = None }) 0 ≡ Ok [])
unfolding text_digits decimal_in decimal hex pair_text code_text pair_texts separated joined write_text
writes-sample = (refl, refl, refl, refl)

-- digits: one or two, of either case; leading zeros are read, and written are lower-case digits without them
pub digits-read : (read_text short ≡ says (0x0A ∷ 0x0F ∷ []))
    × (read_text leading ≡ Ok (record { pairs = []; vpid = Some 7 }))
    × (read_text three ≡ refuse 41 0)
    × (read_text four ≡ refuse 41 0)
    × (read_text over ≡ refuse 41 0)
unfolding is_name is_value digit_value number starts_with digits hex_behind did_sdid_of vpid_code_of name_length are_value other_of item_of skip_spaces front fronts items gather read_text read_into
digits-read = (refl, refl, refl, refl, refl)

pub digits-written : (pair_text 0x0A 0xFE ≡ 0x44 ∷ 0x49 ∷ 0x44 ∷ 0x5F ∷ 0x53 ∷ 0x44 ∷ 0x49 ∷ 0x44 ∷ 0x3D ∷ 0x7B ∷ 0x30 ∷ 0x78 ∷ 0x30 ∷ 0x61 ∷ 0x2C ∷ 0x30 ∷ 0x78 ∷ 0x66 ∷ 0x65 ∷ 0x7D ∷ [])
    × (code_text 0 ≡ 0x56 ∷ 0x50 ∷ 0x49 ∷ 0x44 ∷ 0x5F ∷ 0x43 ∷ 0x6F ∷ 0x64 ∷ 0x65 ∷ 0x3D ∷ 0x30 ∷ [])
    × (code_text 42 ≡ 0x56 ∷ 0x50 ∷ 0x49 ∷ 0x44 ∷ 0x5F ∷ 0x43 ∷ 0x6F ∷ 0x64 ∷ 0x65 ∷ 0x3D ∷ 0x34 ∷ 0x32 ∷ [])
    × (code_text 255 ≡ 0x56 ∷ 0x50 ∷ 0x49 ∷ 0x44 ∷ 0x5F ∷ 0x43 ∷ 0x6F ∷ 0x64 ∷ 0x65 ∷ 0x3D ∷ 0x32 ∷ 0x35 ∷ 0x35 ∷ [])
unfolding text_digits decimal_in decimal hex pair_text code_text
digits-written = (refl, refl, refl, refl)

-- spaces are passed over behind `;` alone: not before it, not before the first item, not within an item
pub spaces : (read_text (captions then-text (space ∷ space ∷ afd)) ≡ says (0x61 ∷ 0x02 ∷ 0x41 ∷ 0x05 ∷ []))
    × (read_text ((captions ++ (space ∷ [])) then-text afd) ≡ refuse 41 0)
    × (read_text (afd then-text ((unknown ++ (space ∷ [])) then-text afd)) ≡ refuse 41 1)
    × (read_text (space ∷ captions) ≡ refuse 41 0)
    × (read_text spaced ≡ refuse 41 0)
unfolding is_name is_value digit_value number starts_with digits hex_behind did_sdid_of vpid_code_of name_length are_value other_of item_of skip_spaces front fronts items gather read_text read_into
spaces = (refl, refl, refl, refl, refl)

-- no items; an empty item, between, first and last
pub empty : (read_text [] ≡ says [])
    × (read_text (captions then-text [] then-text afd) ≡ refuse 41 1)
    × (read_text ([] then-text afd) ≡ refuse 41 0)
    × (read_text (captions then-text []) ≡ refuse 41 1)
    × (read_text (captions then-text (space ∷ [])) ≡ refuse 41 1)
unfolding is_name is_value digit_value number starts_with digits hex_behind did_sdid_of vpid_code_of name_length are_value other_of item_of skip_spaces front fronts items gather read_text read_into
empty = (refl, refl, refl, refl, refl)

-- names are exact: another case is another name, and another name is passed over with its value
pub names : (read_text (unknown then-text afd) ≡ says (0x41 ∷ 0x05 ∷ []))
    × (read_text (lower_name then-text vpid) ≡ Ok (record { pairs = []; vpid = Some 132 }))
    × (read_text (afd then-text bare) ≡ refuse 41 1)
    × (read_text (afd then-text valueless) ≡ refuse 41 1)
unfolding is_name is_value digit_value number starts_with digits hex_behind did_sdid_of vpid_code_of name_length are_value other_of item_of skip_spaces front fronts items gather read_text read_into
names = (refl, refl, refl, refl)

-- the first item that offends; 41 of a second VPID_Code before its 42
pub second-code : (read_text (vpid then-text afd then-text leading then-text over) ≡ refuse 42 2)
    × (read_text (vpid then-text over) ≡ refuse 41 1)
    × (read_text (vpid then-text bare then-text vpid) ≡ refuse 41 1)
unfolding is_name is_value digit_value number starts_with digits hex_behind did_sdid_of vpid_code_of name_length are_value other_of item_of skip_spaces front fronts items gather read_text read_into
second-code = (refl, refl, refl)

-- `n` pairs more behind a text
abbrev more : ℕ → List ℕ → List ℕ
more zero s = s
more (suc n) s = more n (s then-text short)

-- 64 pairs are read, the 65th is 43, and 41 comes before it; 44 is last
pub limits : (read_text (more 64 short) ≡ refuse 43 64)
    × (read_text (more 63 short then-text over) ≡ refuse 41 64)
    × (read_into (more 1 short) 3 ≡ refuse 44 0)
    × (read_into (more 64 short) 3 ≡ refuse 43 64)
unfolding is_name is_value digit_value number starts_with digits hex_behind did_sdid_of vpid_code_of name_length are_value other_of item_of skip_spaces front fronts items gather read_text read_into
limits = (refl, refl, refl, refl)

-- an odd octet is 41, before 43 and 44
pub refusals-written : (write_text (record { pairs = 0x61 ∷ []; vpid = None }) 0 ≡ refuse 41 0)
    × (write_text (record { pairs = 0x61 ∷ 0x02 ∷ []; vpid = None }) 19 ≡ refuse 44 0)
unfolding text_digits decimal_in decimal hex pair_text code_text pair_texts separated joined write_text
refusals-written = (refl, refl)
