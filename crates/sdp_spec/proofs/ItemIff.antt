-- An item's octets are read as an item exactly where they are a text of it.
-- By its parts from left to right: words, digits, a name, a value.
use mathlib.Core.Path.{◌≡◌, refl, ap, sym, ◌∙◌, subst}
use mathlib.Core.Bool.{Bool, true, false, cond, ◌&&◌, true≢false}
use mathlib.Core.List.{List, [], ◌∷◌, ◌++◌, append-nil}
use Prim.Native.Nat.{ℕ, zero, suc, ◌+◌, ◌<◌, ◌≤◌}
use native.Mathlib.Numerals.{add-one}
use native.Mathlib.Omega.{arith}
use lib.Dec.{ltb, leb, eqb}
use lib.ListN.{length, take, drop, get_or, length-append, length-drop, take-append-drop, drop_of_length-le}
use lib.Seq.{length-take-le, drop-cons, drop-drop, take-append_seam, drop-append_seam, get_or-append_seam}
use borrow.Author.Tests.{lt-ltb, ltb-true, le-leb, leb-true, eq-eqb, eqb-true}
use Rattle.wire_spec.specs.Anc.{Each}
use Rattle.wire_spec.proofs.ResultLaws.{and-true}
use Rattle.sdp_spec.specs.declared.item.Item.{Item}
use Rattle.sdp_spec.specs.declared.item.Item.TheVariants.{DidSdid, VpidCode, Other, Malformed}
use Rattle.sdp_spec.specs.Text.{equals_sign, did_sdid_name, vpid_code_name, did_sdid_word, vpid_code_word, open_word, comma_word, close_word, is_name, is_value, digit_value, number, hex_base, hex_most, decimal_base, decimal_most, max_code}
use Rattle.sdp_spec.specs.Grammar.{Numeral, DidSdidText, VpidCodeText, OtherText, ItemText}
use Rattle.sdp_spec.specs.Reading.{starts_with, digits, hex_behind, behind, did_sdid_of, vpid_code_of, name_length, are_value, other_of, item_of}
use Rattle.sdp_spec.proofs.ItemLaws.{starts_is, digits-none, digits_are, hex-behind, name-inside}
use Rattle.sdp_spec.proofs.GatherIff.{Formed}

-- READ, SO A TEXT
-- hex digits behind a word
behind-text : (word s : List ℕ) → 0 < length (hex_behind word s) → s ≡ word ++ (hex_behind word s ++ behind word s)
behind-text word s h =
    let b = hex-behind word s h in
    let ds = hex_behind word s in
    let d = digits_are hex_base hex_most (drop (length word) s) in
    let e : drop (length word) s ≡ ds ++ drop (length ds) (drop (length word) s) =
    subst (λ (x : List ℕ). drop (length word) s ≡ x ++ drop (length x) (drop (length word) s)) (sym b.same) d.front in
    starts_is word s b.starts ∙ ap (λ (x : List ℕ). word ++ x) (e ∙ ap (λ (x : List ℕ). ds ++ x) (drop-drop (length ds) (length word) s))

behind-numeral : (word s : List ℕ) → 0 < length (hex_behind word s) → Numeral hex_base hex_most (number hex_base (hex_behind word s)) (hex_behind word s)
behind-numeral word s h =
    let b = hex-behind word s h in
    subst (λ (x : List ℕ). 0 < length x → Numeral hex_base hex_most (number hex_base x) x) (sym b.same)
    (λ k. let d = digits_are hex_base hex_most (drop (length word) s) in record { digits = d.each; some = k; few = d.few; writes = refl }) h

module _ (s u : List ℕ) (x : Item) (e : s ≡ did_sdid_word ++ u) (f : Formed x) where
  abbrev Rest : List ℕ
  Rest = behind open_word u

  abbrev Last : List ℕ
  Last = behind comma_word Rest

  did-sdid-by : (t : Bool)
      → ltb 0 (length (hex_behind open_word u)) && (ltb 0 (length (hex_behind comma_word Rest)) && (starts_with close_word Last && eqb (length Last) 1)) ≡ t
      → cond t (DidSdid (number hex_base (hex_behind open_word u)) (number hex_base (hex_behind comma_word Rest))) Malformed ≡ x → ItemText x s
  did-sdid-by false k h = absurd (subst Formed (sym h) f)
  did-sdid-by true k h =
      let a = and-true (ltb 0 (length (hex_behind open_word u))) _ k in
      let b = and-true (ltb 0 (length (hex_behind comma_word Rest))) _ a.1 in
      let d = and-true (starts_with close_word Last) _ b.1 in
      let one = ltb-true 0 (length (hex_behind open_word u)) a.0 in
      let two = ltb-true 0 (length (hex_behind comma_word Rest)) b.0 in
      let n = eqb-true (length Last) 1 d.1 in
      let z : Last ≡ close_word = starts_is close_word Last d.0 ∙ ap (λ (y : List ℕ). close_word ++ y) (drop_of_length-le Last {i = 1} (omega arith)) in
      subst (λ (y : Item). ItemText y s) h
      (record {
        did_digits = hex_behind open_word u;
        sdid_digits = hex_behind comma_word Rest;
        did_numeral = behind-numeral open_word u one;
        sdid_numeral = behind-numeral comma_word Rest two;
        text =
            e ∙ ap (λ (y : List ℕ). did_sdid_word ++ y)
            (behind-text open_word u one
            ∙ ap (λ (y : List ℕ). open_word ++ (hex_behind open_word u ++ y))
            (behind-text comma_word Rest two ∙ ap (λ (y : List ℕ). comma_word ++ (hex_behind comma_word Rest ++ y)) z));
      })

  did-sdid-text : did_sdid_of u ≡ x → ItemText x s
  unfolding did_sdid_of
  did-sdid-text h = did-sdid-by _ refl h

module _ (s u : List ℕ) (x : Item) (e : s ≡ vpid_code_word ++ u) (f : Formed x) where
  abbrev Ds : List ℕ
  Ds = digits decimal_base decimal_most u

  vpid-code-by : (t : Bool) → ltb 0 (length Ds) && (eqb (length Ds) (length u) && leb (number decimal_base Ds) max_code) ≡ t
      → cond t (VpidCode (number decimal_base Ds)) Malformed ≡ x → ItemText x s
  vpid-code-by false k h = absurd (subst Formed (sym h) f)
  vpid-code-by true k h =
      let a = and-true (ltb 0 (length Ds)) _ k in
      let b = and-true (eqb (length Ds) (length u)) _ a.1 in
      let d = digits_are decimal_base decimal_most u in
      let n = eqb-true (length Ds) (length u) b.0 in
      let all : u ≡ Ds = d.front ∙ ap (λ (y : List ℕ). Ds ++ y) (drop_of_length-le u {i = length Ds} (omega arith)) ∙ append-nil Ds in
      subst (λ (y : Item). ItemText y s) h
      (record {
        code_digits = Ds;
        code_numeral = record { digits = d.each; some = ltb-true 0 (length Ds) a.0; few = d.few; writes = refl };
        most = leb-true (number decimal_base Ds) max_code b.1;
        text = e ∙ ap (λ (y : List ℕ). vpid_code_word ++ y) all;
      })

  vpid-code-text : vpid_code_of u ≡ x → ItemText x s
  unfolding vpid_code_of
  vpid-code-text h = vpid-code-by _ refl h

name-each : (s : List ℕ) → Each (λ (o : ℕ). is_name o ≡ true) (take (name_length s) s)
unfolding name_length
name-each [] = tt
name-each (a ∷ s) = go (name-each s) (is_name a) refl
  where
    go : Each (λ (o : ℕ). is_name o ≡ true) (take (name_length s) s) → (t : Bool) → is_name a ≡ t → Each (λ (o : ℕ). is_name o ≡ true) (take (cond t (suc (name_length s)) 0) (a ∷ s))
    go h true e = (e, h)
    go h false e = tt

value-each : (s : List ℕ) → are_value s ≡ true → Each (λ (o : ℕ). is_value o ≡ true) s
unfolding are_value
value-each [] e = tt
value-each (a ∷ s) e = let p = and-true (is_value a) (are_value s) e in (p.0, value-each s p.1)

-- a word that stands at the front is found
pub starts-self : (word s : List ℕ) → starts_with word (word ++ s) ≡ true
unfolding starts_with
starts-self [] s = refl
starts-self (w ∷ ws) s = rw (eq-eqb w w refl) (starts-self ws s)

module _ (s : List ℕ) (x : Item) (p : starts_with did_sdid_word s ≡ false) (q : starts_with vpid_code_word s ≡ false) (f : Formed x) where
  abbrev n : ℕ
  n = name_length s

  other-by : (t : Bool) → ltb 0 n && (eqb (get_or s n 0) equals_sign && (ltb (n + 1) (length s) && are_value (drop (n + 1) s))) ≡ t → cond t Other Malformed ≡ x → ItemText x s
  other-by false k h = absurd (subst Formed (sym h) f)
  other-by true k h =
      let a = and-true (ltb 0 n) _ k in
      let b = and-true (eqb (get_or s n 0) equals_sign) _ a.1 in
      let d = and-true (ltb (n + 1) (length s)) _ b.1 in
      let some = ltb-true 0 n a.0 in
      let more = ltb-true (n + 1) (length s) d.0 in
      let l : length (take n s) ≡ n = length-take-le n s (name-inside s) in
      let text : s ≡ take n s ++ (equals_sign ∷ drop (n + 1) s) =
      sym (take-append-drop n s)
      ∙ ap (λ (y : List ℕ). take n s ++ y)
      (drop-cons s n 0 (omega arith) ∙ ap (λ (o : ℕ). o ∷ drop (suc n) s) (eqb-true (get_or s n 0) equals_sign b.0) ∙ ap (λ (m : ℕ). equals_sign ∷ drop m s) (sym (add-one n))) in
      subst (λ (y : Item). ItemText y s) h
      (record {
        name = take n s;
        value = drop (n + 1) s;
        named = omega arith;
        name_octets = name-each s;
        not_did_sdid = λ e. true≢false (sym (starts-self did_sdid_word (drop (n + 1) s)) ∙ ap (starts_with did_sdid_word) (sym (text ∙ ap (λ (y : List ℕ). y ++ (equals_sign ∷ drop (n + 1) s)) e)) ∙ p);
        not_vpid_code = λ e. true≢false (sym (starts-self vpid_code_word (drop (n + 1) s)) ∙ ap (starts_with vpid_code_word) (sym (text ∙ ap (λ (y : List ℕ). y ++ (equals_sign ∷ drop (n + 1) s)) e)) ∙ q);
        valued = omega (arith, length-drop (n + 1) s);
        value_octets = value-each (drop (n + 1) s) d.1;
        text = text;
      })

  other_text : other_of s ≡ x → ItemText x s
  unfolding other_of
  other_text h = other-by _ refl h

pub item-text : (s : List ℕ) (x : Item) → item_of s ≡ x → Formed x → ItemText x s
unfolding item_of
item-text s x e f = go (starts_with did_sdid_word s) refl (starts_with vpid_code_word s) refl e
  where
    go : (a : Bool) → starts_with did_sdid_word s ≡ a → (b : Bool) → starts_with vpid_code_word s ≡ b
        → cond a (did_sdid_of (drop 9 s)) (cond b (vpid_code_of (drop 10 s)) (other_of s)) ≡ x → ItemText x s
    go true p b q e = did-sdid-text s (drop 9 s) x (starts_is did_sdid_word s p) f e
    go false p true q e = vpid-code-text s (drop 10 s) x (starts_is vpid_code_word s q) f e
    go false p false q e = other_text s x p q f e

-- A TEXT, SO READ
-- digits up to an octet that is none
pub digits-self : (base most : ℕ) (ds rest : List ℕ) → Each (λ (d : ℕ). digit_value d < base) ds → length ds ≤ most → base ≤ digit_value (get_or rest 0 0)
    → digits base most (ds ++ rest) ≡ ds
unfolding digits
digits-self base most [] rest h l k = digits-none base most rest k
digits-self base zero (a ∷ ds) rest h l k = absurd (omega arith)
digits-self base (suc most) (a ∷ ds) rest h l k =
    rw (lt-ltb (digit_value a) base h.0) (ap (λ (x : List ℕ). a ∷ x) (digits-self base most ds rest h.1 (omega arith) k))

module _ (word : List ℕ) (n : ℕ) (ds rest : List ℕ) (numeral : Numeral hex_base hex_most n ds) (stop : hex_base ≤ digit_value (get_or rest 0 0)) where
  hex-self : hex_behind word (word ++ (ds ++ rest)) ≡ ds
  unfolding hex_behind
  hex-self =
      rw (starts-self word (ds ++ rest))
      (ap (digits hex_base hex_most) (drop-append_seam word (ds ++ rest)) ∙ digits-self hex_base hex_most ds rest numeral.digits numeral.few stop)

  behind-self : behind word (word ++ (ds ++ rest)) ≡ rest
  behind-self =
      ap (λ (x : List ℕ). drop (length word + length x) (word ++ (ds ++ rest))) hex-self
      ∙ sym (drop-drop (length ds) (length word) (word ++ (ds ++ rest)))
      ∙ ap (drop (length ds)) (drop-append_seam word (ds ++ rest))
      ∙ drop-append_seam ds rest

comma-stops : hex_base ≤ digit_value 0x2C
unfolding digit_value
comma-stops = omega arith

close-stops : hex_base ≤ digit_value 0x7D
unfolding digit_value
close-stops = omega arith

end-stops : decimal_base ≤ digit_value 0
unfolding digit_value
end-stops = omega arith

did-sdid-read : (did sdid : ℕ) (s : List ℕ) → DidSdidText did sdid s → item_of s ≡ DidSdid did sdid
unfolding item_of did_sdid_of
did-sdid-read did sdid s t =
    let a = t.did_digits in
    let b = t.sdid_digits in
    let r = comma_word ++ (b ++ close_word) in
    let u = open_word ++ (a ++ r) in
    let ea : hex_behind open_word u ≡ a = hex-self open_word did a r t.did_numeral comma-stops in
    let er : behind open_word u ≡ r = behind-self open_word did a r t.did_numeral comma-stops in
    let eb : hex_behind comma_word (behind open_word u) ≡ b = ap (hex_behind comma_word) er ∙ hex-self comma_word sdid b close_word t.sdid_numeral close-stops in
    let el : behind comma_word (behind open_word u) ≡ close_word = ap (behind comma_word) er ∙ behind-self comma_word sdid b close_word t.sdid_numeral close-stops in
    rw (t.text, starts-self did_sdid_word u)
    ((λ i. cond (ltb 0 (length (ea i)) && (ltb 0 (length (eb i)) && (starts_with close_word (el i) && eqb (length (el i)) 1))) (DidSdid (number hex_base (ea i)) (number hex_base (eb i))) Malformed)
    ∙ rw (lt-ltb 0 (length a) t.did_numeral.some, lt-ltb 0 (length b) t.sdid_numeral.some, starts-self close_word [])
    (λ i. DidSdid (t.did_numeral.writes i) (t.sdid_numeral.writes i)))

vpid-code-read : (code : ℕ) (s : List ℕ) → VpidCodeText code s → item_of s ≡ VpidCode code
unfolding item_of vpid_code_of
vpid-code-read code s t =
    let d = t.code_digits in
    let no : starts_with did_sdid_word (vpid_code_word ++ d) ≡ false = unfold starts_with in refl in
    let e : digits decimal_base decimal_most d ≡ d =
    ap (digits decimal_base decimal_most) (sym (append-nil d)) ∙ digits-self decimal_base decimal_most d [] t.code_numeral.digits t.code_numeral.few end-stops in
    rw (t.text, no, starts-self vpid_code_word d)
    ((λ i. cond (ltb 0 (length (e i)) && (eqb (length (e i)) (length d) && leb (number decimal_base (e i)) max_code)) (VpidCode (number decimal_base (e i))) Malformed)
    ∙ rw (t.code_numeral.writes, lt-ltb 0 (length d) t.code_numeral.some, eq-eqb (length d) (length d) refl, le-leb code max_code t.most))

equals-ends : is_name equals_sign ≡ false
unfolding is_name
equals-ends = refl

-- a name up to its `=`
name-self : (name value : List ℕ) → Each (λ (o : ℕ). is_name o ≡ true) name → name_length (name ++ (equals_sign ∷ value)) ≡ length name
unfolding name_length
name-self [] value h = rw equals-ends
name-self (a ∷ name) value h = rw h.0 (ap suc (name-self name value h.1))

did-sdid-named : Each (λ (o : ℕ). is_name o ≡ true) did_sdid_name
unfolding is_name
did-sdid-named = (refl, (refl, (refl, (refl, (refl, (refl, (refl, (refl, tt))))))))

vpid-code-named : Each (λ (o : ℕ). is_name o ≡ true) vpid_code_name
unfolding is_name
vpid-code-named = (refl, (refl, (refl, (refl, (refl, (refl, (refl, (refl, (refl, tt)))))))))

-- two names before the same `=` are one
same_name : (a b x y : List ℕ) → Each (λ (o : ℕ). is_name o ≡ true) a → Each (λ (o : ℕ). is_name o ≡ true) b → a ++ (equals_sign ∷ x) ≡ b ++ (equals_sign ∷ y) → a ≡ b
same_name a b x y h k e =
    let n : length a ≡ length b = sym (name-self a x h) ∙ ap name_length e ∙ name-self b y k in
    sym (take-append_seam a (equals_sign ∷ x)) ∙ (λ i. take (n i) (e i)) ∙ take-append_seam b (equals_sign ∷ y)

other_name : (name value word known : List ℕ) → Each (λ (o : ℕ). is_name o ≡ true) name → Each (λ (o : ℕ). is_name o ≡ true) known
    → (name ≡ known → ⊥) → ((t : List ℕ) → word ++ t ≡ known ++ (equals_sign ∷ t)) → starts_with word (name ++ (equals_sign ∷ value)) ≡ false
other_name name value word known h k differs w = go (starts_with word (name ++ (equals_sign ∷ value))) refl
  where
    go : (t : Bool) → starts_with word (name ++ (equals_sign ∷ value)) ≡ t → t ≡ false
    go false e = refl
    go true e =
        let s = name ++ (equals_sign ∷ value) in
        absurd (differs (same_name name known value (drop (length word) s) h k (starts_is word s e ∙ w (drop (length word) s))))

value-self : (s : List ℕ) → Each (λ (o : ℕ). is_value o ≡ true) s → are_value s ≡ true
unfolding are_value
value-self [] h = refl
value-self (a ∷ s) h = rw h.0 (value-self s h.1)

other-read : (s : List ℕ) → OtherText s → item_of s ≡ Other
unfolding item_of other_of
other-read s t =
    let a = t.name in
    let v = t.value in
    let u = a ++ (equals_sign ∷ v) in
    let n = name-self a v t.name_octets in
    let e : get_or u (name_length u) 0 ≡ equals_sign = ap (λ (i : ℕ). get_or u i 0) n ∙ get_or-append_seam a equals_sign v 0 in
    let l : length u ≡ length a + suc (length v) = length-append a (equals_sign ∷ v) in
    let d : drop (name_length u + 1) u ≡ v =
    ap (λ (i : ℕ). drop (i + 1) u) n ∙ sym (drop-drop 1 (length a) u) ∙ ap (drop 1) (drop-append_seam a (equals_sign ∷ v)) in
    rw (
      t.text,
      other_name a v did_sdid_word did_sdid_name t.name_octets did-sdid-named t.not_did_sdid (λ t. refl),
      other_name a v vpid_code_word vpid_code_name t.name_octets vpid-code-named t.not_vpid_code (λ t. refl),
      lt-ltb 0 (name_length u) (omega (arith, n, t.named)),
      eq-eqb (get_or u (name_length u) 0) equals_sign e,
      lt-ltb (name_length u + 1) (length u) (omega (arith, n, t.valued)),
      ap are_value d ∙ value-self v t.value_octets,
    )

pub text-item : (x : Item) (s : List ℕ) → ItemText x s → item_of s ≡ x
text-item (DidSdid did sdid) s t = did-sdid-read did sdid s t
text-item (VpidCode code) s t = vpid-code-read code s t
text-item Other s t = other-read s t
text-item Malformed s t = absurd t

pub text-formed : (x : Item) (s : List ℕ) → ItemText x s → Formed x
text-formed (DidSdid did sdid) s t = tt
text-formed (VpidCode code) s t = tt
text-formed Other s t = tt
text-formed Malformed s t = t
