-- What a text of parameters is (01, "SDP parameters"; RFC 8331, section 4): its items, and what they say.
use Rattle.std.specs.Prelude.{◌≡◌, true, List, [], ◌∷◌, ◌++◌, ℕ, ◌*◌, ◌<◌, ◌≤◌, length, replicate, Option, Some, None}
use Rattle.wire_spec.specs.Anc.{Each}
use Rattle.sdp_spec.specs.declared.item.Item.{Item}
use Rattle.sdp_spec.specs.declared.item.Item.TheVariants.{DidSdid, VpidCode, Other, Malformed}
use Rattle.sdp_spec.specs.Text.{semicolon, space, equals_sign, did_sdid_name, vpid_code_name, did_sdid_word, vpid_code_word, open_word, comma_word, close_word, is_name, is_value, digit_value, number, hex_base, hex_most, decimal_base, decimal_most, max_code, max_text, max_pairs}

-- "one or two hex digits", "one to three digits": one to `most` digits of a base, that write the number `n`
pub record Numeral (base most n : ℕ) (ds : List ℕ) : Type 0 where
  pub digits : Each (λ (d : ℕ). digit_value d < base) ds
  pub some : 0 < length ds
  pub few : length ds ≤ most
  pub writes : number base ds ≡ n

-- "`DID_SDID={0xH,0xH}`, H one or two hex digits of either case"
pub record DidSdidText (did sdid : ℕ) (s : List ℕ) : Type 0 where
  pub did_digits : List ℕ
  pub sdid_digits : List ℕ
  pub did_numeral : Numeral hex_base hex_most did did_digits
  pub sdid_numeral : Numeral hex_base hex_most sdid sdid_digits
  pub text : s ≡ did_sdid_word ++ (open_word ++ (did_digits ++ (comma_word ++ (sdid_digits ++ close_word))))

-- "`VPID_Code=` and one to three digits, at most 255"
pub record VpidCodeText (code : ℕ) (s : List ℕ) : Type 0 where
  pub code_digits : List ℕ
  pub code_numeral : Numeral decimal_base decimal_most code code_digits
  pub most : code ≤ max_code
  pub text : s ≡ vpid_code_word ++ code_digits

-- "another name of one or more letters, digits, `_` or `-`, then `=` and one or more octets other than `;` and space"
pub record OtherText (s : List ℕ) : Type 0 where
  pub name : List ℕ
  pub value : List ℕ
  pub named : 0 < length name
  pub name_octets : Each (λ (o : ℕ). is_name o ≡ true) name
  pub not_did_sdid : name ≡ did_sdid_name → ⊥
  pub not_vpid_code : name ≡ vpid_code_name → ⊥
  pub valued : 0 < length value
  pub value_octets : Each (λ (o : ℕ). is_value o ≡ true) value
  pub text : s ≡ name ++ (equals_sign ∷ value)

-- the texts of an item
abbrev pub ItemText : Item → List ℕ → Type 0
ItemText (DidSdid did sdid) s = DidSdidText did sdid s
ItemText (VpidCode code) s = VpidCodeText code s
ItemText Other s = OtherText s
ItemText Malformed s = ⊥

-- "Items are separated by `;` and any spaces after it": the first item, and a text behind its separator
pub record Separated (First Rest : List ℕ → Type 0) (s : List ℕ) : Type 0 where
  pub first : List ℕ
  pub spaces : ℕ
  pub rest : List ℕ
  pub is_first : First first
  pub is_rest : Rest rest
  pub text : s ≡ first ++ (semicolon ∷ (replicate spaces space ++ rest))

-- the texts of a list of items; "Empty text has no items"
abbrev pub ItemsText : List Item → List ℕ → Type 0
ItemsText [] s = s ≡ []
ItemsText (x ∷ []) s = ItemText x s
ItemsText (x ∷ y ∷ xs) s = Separated (ItemText x) (ItemsText (y ∷ xs)) s

-- the pairs of a list of items in order, as octets, DID then SDID
abbrev pub pairs_of : List Item → List ℕ
pairs_of [] = []
pairs_of (DidSdid did sdid ∷ xs) = did ∷ sdid ∷ pairs_of xs
pairs_of (VpidCode code ∷ xs) = pairs_of xs
pairs_of (Other ∷ xs) = pairs_of xs
pairs_of (Malformed ∷ xs) = pairs_of xs

-- the VPID codes of a list of items in order
abbrev pub codes_of : List Item → List ℕ
codes_of [] = []
codes_of (DidSdid did sdid ∷ xs) = codes_of xs
codes_of (VpidCode code ∷ xs) = code ∷ codes_of xs
codes_of (Other ∷ xs) = codes_of xs
codes_of (Malformed ∷ xs) = codes_of xs

-- what a text says: the pairs as octets, DID and SDID in turn, and the VPID code
pub record Content : Type 0 where
  pub pairs : List ℕ
  pub vpid : Option ℕ

-- "the VPID_Code or none", as a list
abbrev pub codes : Option ℕ → List ℕ
codes (Some code) = code ∷ []
codes None = []

-- a text of well-formed items says their pairs in order, with at most 64 of them, and the one VPID code or none
pub record Says (s : List ℕ) (k : Content) : Type 0 where
  pub items : List Item
  pub text : ItemsText items s
  pub pairs : pairs_of items ≡ k.pairs
  pub vpid : codes_of items ≡ codes k.vpid
  pub few : length k.pairs ≤ 2 * max_pairs
  pub short : length s ≤ max_text
