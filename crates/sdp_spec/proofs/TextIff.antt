-- A text is read as a list of items exactly where it is a text of them.
-- By the items from left to right: no text of an item has a `;`, and none starts with a space.
use mathlib.Core.Path.{◌≡◌, refl, ap, ap₂, sym, ◌∙◌, subst}
use mathlib.Core.Bool.{Bool, true, false, cond, true≢false}
use mathlib.Core.List.{List, [], ◌∷◌, ◌++◌, map, nil≢cons, cons-eq-cons}
use Prim.Native.Nat.{ℕ, zero, suc, ◌+◌, ◌<◌, ◌≤◌}
use native.Mathlib.Numerals.{add-one}
use native.Mathlib.Omega.{arith}
use lib.Dec.{ltb, eqb}
use lib.ListN.{length, drop, get_or, replicate, take-append-drop}
use lib.Seq.{drop-cons, take_all}
use borrow.Author.Tests.{lt-ltb, ltb-true, ltb-false, eqb-true}
use Rattle.wire_spec.specs.Anc.{Each}
use Rattle.sdp_spec.specs.declared.item.Item.{Item}
use Rattle.sdp_spec.specs.declared.item.Item.TheVariants.{DidSdid, VpidCode, Other, Malformed}
use Rattle.sdp_spec.specs.Text.{semicolon, space, equals_sign, vpid_code_word, open_word, comma_word, close_word, is_name, is_value, digit_value, hex_base, decimal_base}
use Rattle.sdp_spec.specs.Grammar.{ItemText, ItemsText}
use Rattle.sdp_spec.specs.Reading.{item_of, skip_spaces, front, next, fronts, items}
use Rattle.sdp_spec.proofs.CutLaws.{front-take, fronts-skip, left, left-all, left-next}
use Rattle.sdp_spec.proofs.GatherIff.{Formed}
use Rattle.sdp_spec.proofs.ItemIff.{item-text, text-item, text-formed}

-- THE CUT
-- an octet behind the front is the `;`
front_at : (s : List ℕ) → length (front s) < length s → get_or s (length (front s)) 0 ≡ semicolon
unfolding front
front_at [] h = absurd (omega arith)
front_at (a ∷ s) h = go (front_at s) (eqb a semicolon) refl h
  where
    go : (length (front s) < length s → get_or s (length (front s)) 0 ≡ semicolon) → (t : Bool) → eqb a semicolon ≡ t
        → length (cond t [] (a ∷ front s)) < suc (length s) → get_or (a ∷ s) (length (cond t [] (a ∷ front s))) 0 ≡ semicolon
    go ih true e h = eqb-true a semicolon e
    go ih false e h = ih (omega arith)

-- the spaces that are passed over
record Spaces (s : List ℕ) : Type 0 where
  count : ℕ
  text : s ≡ replicate count space ++ skip_spaces s

spaces-of : (s : List ℕ) → Spaces s
unfolding skip_spaces
spaces-of [] = record { count = 0; text = refl }
spaces-of (a ∷ s) = go (spaces-of s) (eqb a space) refl
  where
    go : Spaces s → (t : Bool) → eqb a space ≡ t → Spaces (a ∷ s)
    go r true e =
        record {
          count = suc r.count;
          text = (λ i. eqb-true a space e i ∷ r.text i) ∙ sym (ap (λ (x : List ℕ). replicate (suc r.count) space ++ x) (ap (λ (t : Bool). cond t (skip_spaces s) (a ∷ s)) e));
        }
    go r false e = record { count = 0; text = sym (ap (λ (t : Bool). cond t (skip_spaces s) (a ∷ s)) e) }

pub cut-text : (s : List ℕ) → length (front s) < length s → (n : ℕ) × (s ≡ front s ++ (semicolon ∷ (replicate n space ++ next s)))
unfolding next
cut-text s h =
    let n = length (front s) in
    let r = spaces-of (drop (n + 1) s) in (
      r.count,
      sym (take-append-drop n s)
          ∙ ap₂ ◌++◌ (front-take s)
          (drop-cons s n 0 h ∙ (λ i. front_at s h i ∷ drop (sym (add-one n) i) s) ∙ ap (λ (x : List ℕ). semicolon ∷ x) r.text),
    )

-- READ, SO A TEXT
pub last-text : (s : List ℕ) → length s ≤ length (front s) → front s ≡ s
last-text s h = sym (front-take s) ∙ take_all (length (front s)) s h

left-text : (xs : List Item) (s : List ℕ) → left true s ≡ xs → Each Formed xs → ItemsText xs s
left-text [] s e f = absurd (nil≢cons (sym e))
left-text (x ∷ []) s e f = go (ltb (length (front s)) (length s)) refl (sym (left-next s) ∙ e)
  where
    go : (t : Bool) → ltb (length (front s)) (length s) ≡ t → item_of (front s) ∷ left t (next s) ≡ x ∷ [] → ItemText x s
    go true k h = absurd (nil≢cons (sym (cons-eq-cons.0 h).1))
    go false k h = item-text s x (ap item_of (sym (last-text s (ltb-false (length (front s)) (length s) k))) ∙ (cons-eq-cons.0 h).0) f.0
left-text (x ∷ y ∷ xs) s e f = go (ltb (length (front s)) (length s)) refl (left-text (y ∷ xs) (next s)) (sym (left-next s) ∙ e)
  where
    go : (t : Bool) → ltb (length (front s)) (length s) ≡ t → (left true (next s) ≡ y ∷ xs → Each Formed (y ∷ xs) → ItemsText (y ∷ xs) (next s))
        → item_of (front s) ∷ left t (next s) ≡ x ∷ y ∷ xs → ItemsText (x ∷ y ∷ xs) s
    go false k ih h = absurd (nil≢cons (cons-eq-cons.0 h).1)
    go true k ih h =
        let c = cut-text s (ltb-true (length (front s)) (length s) k) in
        record {
          first = front s;
          spaces = c.0;
          rest = next s;
          is_first = item-text (front s) x (cons-eq-cons.0 h).0 f.0;
          is_rest = ih (cons-eq-cons.0 h).1 f.1;
          text = c.1;
        }

pub items-text : (s : List ℕ) (xs : List Item) → items s ≡ xs → Each Formed xs → ItemsText xs s
unfolding items
items-text [] [] e f = refl
items-text [] (x ∷ xs) e f = absurd (nil≢cons e)
items-text (a ∷ s) xs e f = left-text xs (a ∷ s) e f

-- A TEXT, SO READ
-- octets that are no `;`
abbrev pub Plain : List ℕ → Type 0
Plain s = Each (λ (o : ℕ). eqb o semicolon ≡ false) s

plain-each : (P : ℕ → Type 0) → (P semicolon → ⊥) → (s : List ℕ) → Each P s → Plain s
plain-each P not-it [] h = tt
plain-each P not-it (a ∷ s) h = (go (eqb a semicolon) refl, plain-each P not-it s h.1)
  where
    go : (t : Bool) → eqb a semicolon ≡ t → t ≡ false
    go false e = refl
    go true e = absurd (not-it (subst P (eqb-true a semicolon e) h.0))

plain-append : (s t : List ℕ) → Plain s → Plain t → Plain (s ++ t)
plain-append [] t h k = k
plain-append (a ∷ s) t h k = (h.0, plain-append s t h.1 k)

no_digit : (base : ℕ) → base ≤ 16 → digit_value semicolon < base → ⊥
unfolding digit_value
no_digit base b h = omega arith

no_name : is_name semicolon ≡ true → ⊥
unfolding is_name
no_name e = true≢false (sym e)

no_value : is_value semicolon ≡ true → ⊥
unfolding is_value
no_value e = true≢false (sym e)

-- the text of an item has no `;`
item-plain : (x : Item) (s : List ℕ) → ItemText x s → Plain s
item-plain (DidSdid did sdid) s t =
    let d = plain-each (λ (d : ℕ). digit_value d < hex_base) (no_digit hex_base (omega arith)) t.did_digits t.did_numeral.digits in
    let e = plain-each (λ (d : ℕ). digit_value d < hex_base) (no_digit hex_base (omega arith)) t.sdid_digits t.sdid_numeral.digits in
    let sdid_part : Plain (comma_word ++ (t.sdid_digits ++ close_word)) = (refl, (refl, (refl, plain-append t.sdid_digits close_word e (refl, tt)))) in
    let did_part : Plain (open_word ++ (t.did_digits ++ (comma_word ++ (t.sdid_digits ++ close_word)))) =
    (refl, (refl, (refl, plain-append t.did_digits (comma_word ++ (t.sdid_digits ++ close_word)) d sdid_part))) in
    subst Plain (sym t.text) (refl, (refl, (refl, (refl, (refl, (refl, (refl, (refl, (refl, did_part)))))))))
item-plain (VpidCode code) s t =
    let name : Plain vpid_code_word = (refl, (refl, (refl, (refl, (refl, (refl, (refl, (refl, (refl, (refl, tt)))))))))) in
    subst Plain (sym t.text)
    (plain-append vpid_code_word t.code_digits name
    (plain-each (λ (d : ℕ). digit_value d < decimal_base) (no_digit decimal_base (omega arith)) t.code_digits t.code_numeral.digits))
item-plain Other s t =
    subst Plain (sym t.text)
    (plain-append t.name (equals_sign ∷ t.value) (plain-each (λ (o : ℕ). is_name o ≡ true) no_name t.name t.name_octets)
    (refl, plain-each (λ (o : ℕ). is_value o ≡ true) no_value t.value t.value_octets))
item-plain Malformed s t = absurd t

-- octets that start with one that is no space
abbrev Starts : List ℕ → Type 0
Starts [] = ⊥
Starts (a ∷ s) = eqb a space ≡ false

starts-append : (s t : List ℕ) → Starts s → Starts (s ++ t)
starts-append [] t h = absurd h
starts-append (a ∷ s) t h = h

name-no-space : (s : List ℕ) → 0 < length s → Each (λ (o : ℕ). is_name o ≡ true) s → Starts s
name-no-space [] l h = absurd (omega arith)
name-no-space (a ∷ s) l h = go (eqb a space) refl
  where
    no : is_name space ≡ true → ⊥
    no e = unfold is_name in (true≢false (sym e))

    go : (t : Bool) → eqb a space ≡ t → t ≡ false
    go false e = refl
    go true e = absurd (no (ap is_name (sym (eqb-true a space e)) ∙ h.0))

item-starts : (x : Item) (s : List ℕ) → ItemText x s → Starts s
item-starts (DidSdid did sdid) s t = subst Starts (sym t.text) refl
item-starts (VpidCode code) s t = subst Starts (sym t.text) refl
item-starts Other s t = subst Starts (sym t.text) (starts-append t.name _ (name-no-space t.name t.named t.name_octets))
item-starts Malformed s t = absurd t

items-starts : (x : Item) (xs : List Item) (s : List ℕ) → ItemsText (x ∷ xs) s → Starts s
items-starts x [] s t = item-starts x s t
items-starts x (y ∷ xs) s t = subst Starts (sym t.text) (starts-append t.first _ (item-starts x t.first t.is_first))

skip-self : (s : List ℕ) → Starts s → skip_spaces s ≡ s
unfolding skip_spaces
skip-self [] h = absurd h
skip-self (a ∷ s) h = rw h

skip-spaces : (n : ℕ) (s : List ℕ) → Starts s → skip_spaces (replicate n space ++ s) ≡ s
unfolding skip_spaces
skip-spaces zero s h = skip-self s h
skip-spaces (suc n) s h = skip-spaces n s h

pub front_self : (s : List ℕ) → Plain s → front s ≡ s
unfolding front
front_self [] h = refl
front_self (a ∷ s) h = rw h.0 (ap (λ (x : List ℕ). a ∷ x) (front_self s h.1))

pub fronts-self : (s : List ℕ) → Plain s → fronts s ≡ []
unfolding fronts
fronts-self [] h = refl
fronts-self (a ∷ s) h = rw h.0 (fronts-self s h.1)

pub front_cut : (s r : List ℕ) → Plain s → front (s ++ (semicolon ∷ r)) ≡ s
unfolding front
front_cut [] r h = refl
front_cut (a ∷ s) r h = rw h.0 (ap (λ (x : List ℕ). a ∷ x) (front_cut s r h.1))

pub fronts-cut : (s r : List ℕ) → Plain s → fronts (s ++ (semicolon ∷ r)) ≡ front (skip_spaces r) ∷ fronts r
unfolding fronts
fronts-cut [] r h = refl
fronts-cut (a ∷ s) r h = rw h.0 (fronts-cut s r h.1)

text-left : (x : Item) (xs : List Item) (s : List ℕ) → ItemsText (x ∷ xs) s → left true s ≡ x ∷ xs
text-left x [] s t =
    let p = item-plain x s t in
    ap₂ (λ (a : List ℕ) (b : List (List ℕ)). map item_of (a ∷ b)) (front_self s p) (fronts-self s p) ∙ ap (λ (y : Item). y ∷ []) (text-item x s t)
text-left x (y ∷ xs) s t =
    let a = t.first in
    let r = replicate t.spaces space ++ t.rest in
    let p = item-plain x a t.is_first in
    let k : skip_spaces r ≡ t.rest = skip-spaces t.spaces t.rest (items-starts y xs t.rest t.is_rest) in
    let f : fronts r ≡ fronts t.rest = sym (fronts-skip r) ∙ ap fronts k in
    ap (left true) t.text
    ∙ ap₂ (λ (u : List ℕ) (v : List (List ℕ)). map item_of (u ∷ v)) (front_cut a r p) (fronts-cut a r p ∙ ap₂ ◌∷◌ (ap front k) f)
    ∙ ap₂ ◌∷◌ (text-item x a t.is_first) (text-left y xs t.rest t.is_rest)

pub text-items : (xs : List Item) (s : List ℕ) → ItemsText xs s → items s ≡ xs
text-items [] s t = rw t (unfold items in refl)
text-items (x ∷ xs) s t =
    sym (left-all s) ∙ ap (λ (b : Bool). left b s) (lt-ltb 0 (length s) (longer s (items-starts x xs s t))) ∙ text-left x xs s t
  where
    longer : (u : List ℕ) → Starts u → 0 < length u
    longer [] h = absurd h
    longer (a ∷ u) h = omega arith

pub texts-formed : (xs : List Item) (s : List ℕ) → ItemsText xs s → Each Formed xs
texts-formed [] s t = tt
texts-formed (x ∷ []) s t = (text-formed x s t, tt)
texts-formed (x ∷ y ∷ xs) s t = (text-formed x t.first t.is_first, texts-formed (y ∷ xs) t.rest t.is_rest)
