-- Reading a text of parameters, in 01's order: "40; items left to right, the first that offends; 44".
use Rattle.std.specs.Prelude.{Bool, true, false, cond, ◌&&◌, List, [], ◌∷◌, map, ℕ, zero, suc, ◌+◌, eqb, leb, ltb, length, drop, get_or, Option, Some, None}
use Rattle.wire_spec.specs.Result.{Result, Ok, refuse, judge, ◌then◌}
use Rattle.sdp_spec.specs.declared.item.Item.{Item}
use Rattle.sdp_spec.specs.declared.item.Item.TheVariants.{DidSdid, VpidCode, Other, Malformed}
use Rattle.sdp_spec.specs.declared.parameters.Parameters.{Parameters}
use Rattle.sdp_spec.specs.Text.{semicolon, space, equals_sign, did_sdid_word, vpid_code_word, open_word, comma_word, close_word, is_name, is_value, digit_value, number, hex_base, hex_most, decimal_base, decimal_most, max_code, max_text, max_pairs}
use Rattle.sdp_spec.specs.Grammar.{Content, pairs_of}

-- does the text start with the word
unfoldable pub starts_with : List ℕ → List ℕ → Bool
starts_with [] s = true
starts_with (w ∷ ws) [] = false
starts_with (w ∷ ws) (a ∷ s) = eqb a w && starts_with ws s

-- the digits of a base at the front of the text, at most `most` of them
unfoldable pub digits : ℕ → ℕ → List ℕ → List ℕ
digits base zero s = []
digits base (suc most) [] = []
digits base (suc most) (a ∷ s) = cond (ltb (digit_value a) base) (a ∷ digits base most s) []

-- the hex digits behind a word that the text starts with
unfoldable pub hex_behind : List ℕ → List ℕ → List ℕ
hex_behind word s = cond (starts_with word s) (digits hex_base hex_most (drop (length word) s)) []

-- the text behind a word and its hex digits
abbrev pub behind : List ℕ → List ℕ → List ℕ
behind word s = drop (length word + length (hex_behind word s)) s

-- the value of `DID_SDID`: `{0xH,0xH}`
unfoldable pub did_sdid_of : List ℕ → Item
did_sdid_of s =
    cond (ltb 0 (length (hex_behind open_word s))
    && (ltb 0 (length (hex_behind comma_word (behind open_word s)))
    && (starts_with close_word (behind comma_word (behind open_word s))
    && eqb (length (behind comma_word (behind open_word s))) (length close_word))))
    (DidSdid (number hex_base (hex_behind open_word s)) (number hex_base (hex_behind comma_word (behind open_word s))))
    Malformed

-- the value of `VPID_Code`: "one to three digits, at most 255"
unfoldable pub vpid_code_of : List ℕ → Item
vpid_code_of s =
    cond (ltb 0 (length (digits decimal_base decimal_most s))
    && (eqb (length (digits decimal_base decimal_most s)) (length s)
    && leb (number decimal_base (digits decimal_base decimal_most s)) max_code))
    (VpidCode (number decimal_base (digits decimal_base decimal_most s)))
    Malformed

-- how many octets of a name stand at the front
unfoldable pub name_length : List ℕ → ℕ
name_length [] = 0
name_length (a ∷ s) = cond (is_name a) (suc (name_length s)) 0

-- are all of them octets of a value
unfoldable pub are_value : List ℕ → Bool
are_value [] = true
are_value (a ∷ s) = is_value a && are_value s

-- another name, `=`, and a value
unfoldable pub other_of : List ℕ → Item
other_of s =
    cond (ltb 0 (name_length s)
    && (eqb (get_or s (name_length s) 0) equals_sign
    && (ltb (name_length s + 1) (length s)
    && are_value (drop (name_length s + 1) s))))
    Other
    Malformed

-- "Names are exact; a known name with a wrong value is 41"
unfoldable pub item_of : List ℕ → Item
item_of s =
    cond (starts_with did_sdid_word s) (did_sdid_of (drop (length did_sdid_word) s))
    (cond (starts_with vpid_code_word s) (vpid_code_of (drop (length vpid_code_word) s))
    (other_of s))

-- the text without the spaces at its front
unfoldable pub skip_spaces : List ℕ → List ℕ
skip_spaces [] = []
skip_spaces (a ∷ s) = cond (eqb a space) (skip_spaces s) (a ∷ s)

-- the octets before the first `;`
unfoldable pub front : List ℕ → List ℕ
front [] = []
front (a ∷ s) = cond (eqb a semicolon) [] (a ∷ front s)

-- the text behind the first `;` and any spaces after it; none where there is no `;`
unfoldable pub next : List ℕ → List ℕ
next s = skip_spaces (drop (length (front s) + 1) s)

-- behind each `;`, and any spaces after it, the octets before the next
unfoldable pub fronts : List ℕ → List (List ℕ)
fronts [] = []
fronts (a ∷ s) = cond (eqb a semicolon) (front (skip_spaces s) ∷ fronts s) (fronts s)

-- "Empty text has no items"
unfoldable pub items : List ℕ → List Item
items [] = []
items (a ∷ s) = map item_of (front (a ∷ s) ∷ fronts (a ∷ s))

-- 43: "over 64 pairs"
abbrev pub add_pair : ℕ → Parameters → Result Parameters
add_pair i p = judge i ((ltb p.pairs max_pairs, 43) ∷ []) (Ok (record { pairs = p.pairs + 1; vpid = p.vpid }))

-- 42: "second VPID_Code"
abbrev pub add_code : ℕ → ℕ → Option ℕ → ℕ → Result Parameters
add_code i pairs (Some c) code = refuse 42 i
add_code i pairs None code = Ok (record { pairs = pairs; vpid = Some code })

-- one item more, of index `i`: 41, 42, 43
abbrev pub add : ℕ → Parameters → Item → Result Parameters
add i p (DidSdid did sdid) = add_pair i p
add i p (VpidCode code) = add_code i p.pairs p.vpid code
add i p Other = Ok p
add i p Malformed = refuse 41 i

-- items left to right, the first with the index `i`
unfoldable pub gather : ℕ → Parameters → List Item → Result Parameters
gather i p [] = Ok p
gather i p (x ∷ xs) = add i p x then λ q. gather (i + 1) q xs

-- before the first item
abbrev pub none : Parameters
none = record { pairs = 0; vpid = None }

-- "40; items left to right, the first that offends"
unfoldable pub read_text : List ℕ → Result Content
read_text s =
    judge 0 ((leb (length s) max_text, 40) ∷ [])
    (gather 0 none (items s) then λ p. Ok (record { pairs = pairs_of (items s); vpid = p.vpid }))

-- "44": room for so many octets is too small
unfoldable pub read_into : List ℕ → ℕ → Result Content
read_into s room = read_text s then λ k. judge 0 ((leb (length k.pairs) room, 44) ∷ []) (Ok k)
