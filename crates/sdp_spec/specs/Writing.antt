-- Writing parameters: "pairs in order, two lower-case digits, then VPID_Code if present, without leading zeros or spaces".
use Rattle.std.specs.Prelude.{◌≡◌, List, [], ◌∷◌, ◌++◌, ℕ, ◌*◌, ◌%◌, ◌≤◌, eqb, leb, length, Option, Some, None}
use Rattle.wire_spec.specs.Bits.{Below}
use Rattle.wire_spec.specs.Result.{Result, Ok, judge}
use Rattle.text.specs.Text.{hex, decimal}
use Rattle.sdp_spec.specs.Text.{semicolon, did_sdid_word, vpid_code_word, open_word, comma_word, close_word, max_pairs}
use Rattle.sdp_spec.specs.Grammar.{codes, Content}

-- "`DID_SDID={0xH,0xH}`", "two lower-case digits"
unfoldable pub pair_text : ℕ → ℕ → List ℕ
pair_text did sdid = did_sdid_word ++ (open_word ++ (hex 2 did ++ (comma_word ++ (hex 2 sdid ++ close_word))))

-- "`VPID_Code=` and one to three digits", "without leading zeros"
unfoldable pub code_text : ℕ → List ℕ
code_text code = vpid_code_word ++ decimal code

-- the items: "pairs in order", ..
unfoldable pub pair_texts : List ℕ → List (List ℕ)
pair_texts [] = []
pair_texts (did ∷ []) = []
pair_texts (did ∷ sdid ∷ pairs) = pair_text did sdid ∷ pair_texts pairs

-- .. "then VPID_Code if present"
abbrev pub code_texts : Option ℕ → List (List ℕ)
code_texts (Some code) = code_text code ∷ []
code_texts None = []

-- "Items are separated by `;`": each item behind a `;`
unfoldable pub separated : List (List ℕ) → List ℕ
separated [] = []
separated (t ∷ ts) = semicolon ∷ (t ++ separated ts)

-- items with a `;` between them, without spaces
unfoldable pub joined : List (List ℕ) → List ℕ
joined [] = []
joined (t ∷ ts) = t ++ separated ts

-- the text that is written
abbrev pub text_of : Content → List ℕ
text_of k = joined (pair_texts k.pairs ++ code_texts k.vpid)

-- "an odd octet being 41, index 0, before 43"; "43, 44 apply, index 0"
unfoldable pub write_text : Content → ℕ → Result (List ℕ)
write_text k room =
    judge 0
    ((eqb (length k.pairs % 2) 0, 41)
    ∷ (leb (length k.pairs) (2 * max_pairs), 43)
    ∷ (leb (length (text_of k)) room, 44)
    ∷ [])
    (Ok (text_of k))

-- the parameters that are written and read back: octets, "DID then SDID", none odd (41), at most 64 pairs (43)
pub record Writable (k : Content) : Type 0 where
  pub octets : Below 256 k.pairs
  pub code : Below 256 (codes k.vpid)
  pub whole : length k.pairs % 2 ≡ 0
  pub few : length k.pairs ≤ 2 * max_pairs
