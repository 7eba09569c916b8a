-- WHAT IS WRITTEN READS BACK THE SAME, for every list of at most 64 pairs and every VPID code or none.
-- What is written is a text of the pairs' items and the VPID code's, so the grammar accepts it.
use Rattle.std.specs.Prelude.{Option, Some, None}
use mathlib.Core.Path.{◌≡◌, refl, ap, sym, ◌∙◌, subst}
use mathlib.Core.Bool.{Bool, true, false, cond, ◌&&◌}
use mathlib.Core.List.{List, [], ◌∷◌, ◌++◌, append-nil}
use Prim.Native.Nat.{ℕ, ◌+◌, ◌-◌, ◌*◌, ◌/◌, ◌%◌, ◌<◌, ◌≤◌}
use native.Mathlib.Omega.{arith}
use lib.Dec.{leb, ltb, eqb}
use lib.ListN.{length}
use borrow.Author.Tests.{ltb-true, ltb-false, le-leb, lt-leb, leb-true, eqb-true}
use Rattle.wire_spec.specs.Bits.{Below}
use Rattle.wire_spec.specs.Result.{Ok, Checks}
use Rattle.wire_spec.proofs.ResultLaws.{accepted-inj, judge-accepts}
use Rattle.text.specs.Text.{digit, digits, decimal, hex}
use Rattle.sdp_spec.specs.declared.item.Item.{Item}
use Rattle.sdp_spec.specs.declared.item.Item.TheVariants.{DidSdid, VpidCode}
use Rattle.sdp_spec.specs.Text.{digit_value, number, hex_base, hex_most, decimal_base, decimal_most, max_pairs}
use Rattle.sdp_spec.specs.Grammar.{Numeral, ItemText, ItemsText, pairs_of, codes_of, codes, Content, Says}
use Rattle.sdp_spec.specs.Reading.{read_text, read_into}
use Rattle.sdp_spec.specs.Writing.{pair_text, code_text, pair_texts, code_texts, separated, joined, text_of, write_text, Writable}
use Rattle.sdp_spec.proofs.WritingLaws.{decimal-one, decimal-two, decimal-three, codes-few, text-size}
use Rattle.sdp_spec.proofs.Acceptance.{accepts-iff, room-iff}

-- a digit that is written is read
digit-back : (v : ℕ) → v < 16 → digit_value (digit v) ≡ v
unfolding digit_value
digit-back v h = go (ltb v 10) refl
  where
    go : (t : Bool) → ltb v 10 ≡ t
        → cond (leb 0x30 (cond t (0x30 + v) (0x57 + v)) && leb (cond t (0x30 + v) (0x57 + v)) 0x39) (cond t (0x30 + v) (0x57 + v) - 0x30)
        (cond (leb 0x41 (cond t (0x30 + v) (0x57 + v)) && leb (cond t (0x30 + v) (0x57 + v)) 0x46) (cond t (0x30 + v) (0x57 + v) - 0x37)
        (cond (leb 0x61 (cond t (0x30 + v) (0x57 + v)) && leb (cond t (0x30 + v) (0x57 + v)) 0x66) (cond t (0x30 + v) (0x57 + v) - 0x57) 16)) ≡ v
    go true e = let l = ltb-true v 10 e in rw (le-leb 0x30 (0x30 + v) (omega arith), le-leb (0x30 + v) 0x39 (omega arith)) (omega arith)
    go false e =
        let l = ltb-false v 10 e in
        rw (
          le-leb 0x30 (0x57 + v) (omega arith),
          lt-leb (0x57 + v) 0x39 (omega arith),
          le-leb 0x41 (0x57 + v) (omega arith),
          lt-leb (0x57 + v) 0x46 (omega arith),
          le-leb 0x61 (0x57 + v) (omega arith),
          le-leb (0x57 + v) 0x66 (omega arith),
        )
        (omega arith)

hex-numeral : (n : ℕ) → n < 256 → Numeral hex_base hex_most n (hex 2 n)
unfolding number hex digits
hex-numeral n h =
    let a = digit-back (n / 16 % 16) (omega arith) in
    let b = digit-back (n % 16) (omega arith) in
    record { digits = (omega arith, (omega arith, tt)); some = omega arith; few = omega arith; writes = omega arith }

decimal-numeral : (n : ℕ) → n < 256 → Numeral decimal_base decimal_most n (decimal n)
unfolding number
decimal-numeral n h = go (ltb n 10) refl (ltb n 100) refl
  where
    go : (s : Bool) → ltb n 10 ≡ s → (t : Bool) → ltb n 100 ≡ t → Numeral decimal_base decimal_most n (decimal n)
    go true p t q =
        let l = ltb-true n 10 p in
        let a = digit-back n (omega arith) in
        subst (Numeral decimal_base decimal_most n) (sym (decimal-one n l)) (record { digits = (omega arith, tt); some = omega arith; few = omega arith; writes = omega arith })
    go false p true q =
        let l = ltb-false n 10 p in
        let m = ltb-true n 100 q in
        let a = digit-back (n / 10) (omega arith) in
        let b = digit-back (n % 10) (omega arith) in
        subst (Numeral decimal_base decimal_most n) (sym (decimal-two n l m))
        (record { digits = (omega arith, (omega arith, tt)); some = omega arith; few = omega arith; writes = omega arith })
    go false p false q =
        let m = ltb-false n 100 q in
        let a = digit-back (n / 10 / 10) (omega arith) in
        let b = digit-back (n / 10 % 10) (omega arith) in
        let d = digit-back (n % 10) (omega arith) in
        subst (Numeral decimal_base decimal_most n) (sym (decimal-three n m (omega arith)))
        (record { digits = (omega arith, (omega arith, (omega arith, tt))); some = omega arith; few = omega arith; writes = omega arith })

pair-item : (did sdid : ℕ) → did < 256 → sdid < 256 → ItemText (DidSdid did sdid) (pair_text did sdid)
unfolding pair_text
pair-item did sdid h k =
    record { did_digits = hex 2 did; sdid_digits = hex 2 sdid; did_numeral = hex-numeral did h; sdid_numeral = hex-numeral sdid k; text = refl }

code-item : (code : ℕ) → code < 256 → ItemText (VpidCode code) (code_text code)
unfolding code_text
code-item code h = record { code_digits = decimal code; code_numeral = decimal-numeral code h; most = omega arith; text = refl }

-- items and their texts, one by one
abbrev Texts : List Item → List (List ℕ) → Type 0
Texts [] [] = Unit {0}
Texts [] (t ∷ ts) = ⊥
Texts (x ∷ xs) [] = ⊥
Texts (x ∷ xs) (t ∷ ts) = ItemText x t × Texts xs ts

joined-text : (xs : List Item) (ts : List (List ℕ)) → Texts xs ts → ItemsText xs (joined ts)
unfolding joined separated
joined-text [] [] h = refl
joined-text [] (t ∷ ts) h = absurd h
joined-text (x ∷ xs) [] h = absurd h
joined-text (x ∷ []) (t ∷ []) h = subst (ItemText x) (sym (append-nil t)) h.0
joined-text (x ∷ []) (t ∷ u ∷ ts) h = absurd h.1
joined-text (x ∷ y ∷ xs) (t ∷ []) h = absurd h.1
joined-text (x ∷ y ∷ xs) (t ∷ u ∷ ts) h =
    record { first = t; spaces = 0; rest = joined (u ∷ ts); is_first = h.0; is_rest = joined-text (y ∷ xs) (u ∷ ts) h.1; text = refl }

-- the items that are written
abbrev code_items : Option ℕ → List Item
code_items (Some code) = VpidCode code ∷ []
code_items None = []

abbrev written_items : List ℕ → Option ℕ → List Item
written_items [] v = code_items v
written_items (did ∷ []) v = code_items v
written_items (did ∷ sdid ∷ l) v = DidSdid did sdid ∷ written_items l v

code-texts : (v : Option ℕ) → Below 256 (codes v) → Texts (code_items v) (code_texts v)
code-texts (Some code) h = (code-item code h.0, tt)
code-texts None h = tt

written-texts : (l : List ℕ) (v : Option ℕ) → Below 256 l → Below 256 (codes v) → Texts (written_items l v) (pair_texts l ++ code_texts v)
unfolding pair_texts
written-texts [] v h k = code-texts v k
written-texts (did ∷ []) v h k = code-texts v k
written-texts (did ∷ sdid ∷ l) v h k = (pair-item did sdid h.0 h.1.0, written-texts l v h.1.1 k)

code-pairs : (v : Option ℕ) → pairs_of (code_items v) ≡ []
code-pairs (Some code) = refl
code-pairs None = refl

written-pairs : (l : List ℕ) (v : Option ℕ) → length l % 2 ≡ 0 → pairs_of (written_items l v) ≡ l
written-pairs [] v h = code-pairs v
written-pairs (did ∷ []) v h = absurd (omega arith)
written-pairs (did ∷ sdid ∷ l) v h = ap (λ (x : List ℕ). did ∷ sdid ∷ x) (written-pairs l v (omega (arith, h)))

written-codes : (l : List ℕ) (v : Option ℕ) → codes_of (written_items l v) ≡ codes v
written-codes [] (Some code) = refl
written-codes [] None = refl
written-codes (did ∷ []) (Some code) = refl
written-codes (did ∷ []) None = refl
written-codes (did ∷ sdid ∷ l) v = written-codes l v

pub text_says : (k : Content) → Writable k → Says (text_of k) k
text_says k w =
    let l = k.pairs in
    let v = k.vpid in
    record {
      items = written_items l v;
      text = joined-text (written_items l v) (pair_texts l ++ code_texts v) (written-texts l v w.octets w.code);
      pairs = written-pairs l v w.whole;
      vpid = written-codes l v;
      few = w.few;
      short = let f = w.few in omega (arith, text-size l v w.whole, codes-few v);
    }

pub text-reads : (k : Content) → Writable k → read_text (text_of k) ≡ Ok k
text-reads k w = (accepts-iff (text_of k) k).1 (text_says k w)

-- what the writer wrote, the reader reads, with room for the pairs
pub written-reads : (k : Content) → Below 256 k.pairs → Below 256 (codes k.vpid) → (room space : ℕ) (s : List ℕ)
    → write_text k room ≡ Ok s → length k.pairs ≤ space → read_into s space ≡ Ok k
unfolding write_text
written-reads k h c room space s e l =
    let ts : Checks = (eqb (length k.pairs % 2) 0, 41) ∷ (leb (length k.pairs) (2 * max_pairs), 43) ∷ (leb (length (text_of k)) room, 44) ∷ [] in
    let a = judge-accepts 0 ts (Ok (text_of k)) s e in
    let w : Writable k = record { octets = h; code = c; whole = eqb-true (length k.pairs % 2) 0 a.0.0; few = leb-true (length k.pairs) (2 * max_pairs) a.0.1.0 } in
    ap (λ (t : List ℕ). read_into t space) (sym (accepted-inj a.1)) ∙ (room-iff (text_of k) space k).1 (text_says k w, l)
