-- `did_sdid` reads the value of a DID/SDID pair.
-- Each return knows the tests before it, in the order of the definition.
use mathlib.Core.Path.{◌≡◌, ap, ap₂, sym, ◌∙◌}
use mathlib.Core.Bool.{true, false}
use mathlib.Core.List.{List}
use Prim.Native.Nat.{ℕ, ◌+◌, ◌-◌, ◌<◌, ◌≤◌}
use native.Mathlib.Omega.{arith}
use lib.ListN.{length, take, drop, length-drop}
use borrow.Author.Tests.{lt-ltb, le-ltb, eq-eqb, ne_eqb}
use Rattle.wire_spec.proofs.ListLaws.{part-all}
use Rattle.sdp_item.specs.declared.Digits.{Digits}
use Rattle.sdp_spec.specs.declared.item.Item.TheVariants.{DidSdid, Malformed}
use Rattle.sdp_item.specs.Answers.{digits_of}
use Rattle.sdp_spec.specs.Text.{open_word, comma_word, close_word, number, hex_base}
use Rattle.sdp_spec.specs.Reading.{starts_with, hex_behind, behind, did_sdid_of}
use Rattle.sdp_spec.proofs.ItemLaws.{started, hex-behind, behind-octet}
use Rattle.sdp_item.proofs.did_sdid.Goals as goal

module _ (s : List ℕ) where
  abbrev Did : List ℕ
  Did = hex_behind open_word s

  abbrev Rest : List ℕ
  Rest = behind open_word s

  abbrev Sdid : List ℕ
  Sdid = hex_behind comma_word Rest

  abbrev Last : List ℕ
  Last = behind comma_word Rest

  no-did : length Did ≡ 0 → Malformed ≡ did_sdid_of s
  unfolding did_sdid_of
  no-did h = rw (le-ltb 0 (length Did) (omega arith))

  module _ (did : 0 < length Did) where
    no-sdid : length Sdid ≡ 0 → Malformed ≡ did_sdid_of s
    unfolding did_sdid_of
    no-sdid h = rw (lt-ltb 0 (length Did) did, le-ltb 0 (length Sdid) (omega arith))

    module _ (sdid : 0 < length Sdid) where
      not-closed : starts_with close_word Last ≡ false → Malformed ≡ did_sdid_of s
      unfolding did_sdid_of
      not-closed h = rw (lt-ltb 0 (length Did) did, lt-ltb 0 (length Sdid) sdid, h)

      more-behind : starts_with close_word Last ≡ true → (length Last ≡ 1 → ⊥) → Malformed ≡ did_sdid_of s
      unfolding did_sdid_of
      more-behind h k = rw (lt-ltb 0 (length Did) did, lt-ltb 0 (length Sdid) sdid, h, ne_eqb (length Last) 1 k)

      pair : starts_with close_word Last ≡ true → length Last ≡ 1 → DidSdid (number hex_base Did) (number hex_base Sdid) ≡ did_sdid_of s
      unfolding did_sdid_of
      pair h k = rw (lt-ltb 0 (length Did) did, lt-ltb 0 (length Sdid) sdid, h, eq-eqb (length Last) 1 k)

-- a number read behind a word of three octets, and the part behind it
module _ (word s : List ℕ) (d : Digits) (same : d ≡ digits_of hex_base (hex_behind word s)) where
  count : d.count ≡ length (hex_behind word s)
  count = ap (λ (x : Digits). x.count) same

  value : d.value ≡ number hex_base (hex_behind word s)
  value = ap (λ (x : Digits). x.value) same

  some : (d.count ≡ 0 → ⊥) → 0 < length (hex_behind word s)
  some h = omega (arith, count)

  inside : (d.count ≡ 0 → ⊥) → length word + d.count ≤ length s
  inside h = let f = (hex-behind word s (some h)).fits in omega (arith, count)

  part : take (length s - (length word + d.count)) (drop (length word + d.count) s) ≡ behind word s
  part = part-all (length word + d.count) s ∙ ap (λ (n : ℕ). drop (length word + n) s) count

-- what was read behind the two words
module _ (s : List ℕ) (d e : Digits) (same : d ≡ digits_of hex_base (hex_behind open_word s)) where
  abbrev Part : List ℕ
  Part = take (length s - (3 + d.count)) (drop (3 + d.count) s)

  module _ (same' : e ≡ digits_of hex_base (hex_behind comma_word Part)) where
    sdid-is : e ≡ digits_of hex_base (Sdid s)
    sdid-is = same' ∙ ap (λ (t : List ℕ). digits_of hex_base (hex_behind comma_word t)) (part open_word s d same)

    last-is : take (length Part - (3 + e.count)) (drop (3 + e.count) Part) ≡ Last s
    last-is = part comma_word Part e same' ∙ ap (behind comma_word) (part open_word s d same)

pub returns-then-did-eq0 : goal.returns-then-did-eq0
returns-then-did-eq0 c = no-did _ (sym (count open_word _ _ c.hex_behind-did.ensures) ∙ c.if-did-eq0.true)

pub overflow_add-behind_did : goal.overflow_add-behind_did
overflow_add-behind_did c = omega (arith, inside open_word c.args.value.now _ c.hex_behind-did.ensures c.if-did-eq0.false)

pub slice_bounds-rest-count : goal.slice_bounds-rest-count
slice_bounds-rest-count c = inside open_word _ _ c.hex_behind-did.ensures c.if-did-eq0.false

pub slice_bounds-rest-start : goal.slice_bounds-rest-start
slice_bounds-rest-start c = inside open_word _ _ c.hex_behind-did.ensures c.if-did-eq0.false

pub returns-then-sdid-eq0 : goal.returns-then-sdid-eq0
returns-then-sdid-eq0 c = no-sdid _ (some open_word _ _ c.hex_behind-did.ensures c.if-did-eq0.false) (sym (count comma_word _ _ (sdid-is _ _ _ c.hex_behind-did.ensures c.hex_behind-sdid.ensures)) ∙ c.if-sdid-eq0.true)

pub overflow_add-behind_sdid : goal.overflow_add-behind_sdid
overflow_add-behind_sdid c = let l = inside open_word c.args.value.now _ c.hex_behind-did.ensures c.if-did-eq0.false in let k = inside comma_word (Part c.args.value.now c.hex_behind-did.result c.hex_behind-did.result c.hex_behind-did.ensures) _ c.hex_behind-sdid.ensures c.if-sdid-eq0.false in
    let m = ap length (part-all (3 + c.hex_behind-did.result.count) c.args.value.now) in omega (arith, length-drop (3 + c.hex_behind-did.result.count) c.args.value.now)

pub slice_bounds-last-count : goal.slice_bounds-last-count
slice_bounds-last-count c = inside comma_word _ _ c.hex_behind-sdid.ensures c.if-sdid-eq0.false

pub slice_bounds-last-start : goal.slice_bounds-last-start
slice_bounds-last-start c = inside comma_word _ _ c.hex_behind-sdid.ensures c.if-sdid-eq0.false

pub returns-then-not-starts_with : goal.returns-then-not-starts_with
returns-then-not-starts_with c = not-closed _ (some open_word _ _ c.hex_behind-did.ensures c.if-did-eq0.false) (some comma_word _ _ (sdid-is _ _ _ c.hex_behind-did.ensures c.hex_behind-sdid.ensures) c.if-sdid-eq0.false) (ap (starts_with close_word) (sym (last-is _ _ _ c.hex_behind-did.ensures c.hex_behind-sdid.ensures)) ∙ sym (started close_word _) ∙ sym c.starts_with.ensures.value ∙ c.if-not-starts_with.true)

pub returns-then-last-ne1 : goal.returns-then-last-ne1
returns-then-last-ne1 c = more-behind _ (some open_word _ _ c.hex_behind-did.ensures c.if-did-eq0.false) (some comma_word _ _ (sdid-is _ _ _ c.hex_behind-did.ensures c.hex_behind-sdid.ensures) c.if-sdid-eq0.false) (ap (starts_with close_word) (sym (last-is _ _ _ c.hex_behind-did.ensures c.hex_behind-sdid.ensures)) ∙ sym (started close_word _) ∙ sym c.starts_with.ensures.value ∙ c.if-not-starts_with.false) (λ e. c.if-last-ne1.true (ap length (last-is _ _ _ c.hex_behind-did.ensures c.hex_behind-sdid.ensures) ∙ e))

pub overflow_cast-result : goal.overflow_cast-result
overflow_cast-result c = let v = value open_word c.args.value.now _ c.hex_behind-did.ensures in omega (arith, behind-octet open_word c.args.value.now)

pub overflow_cast-result-2 : goal.overflow_cast-result-2
overflow_cast-result-2 c = let v = value comma_word _ _ (sdid-is c.args.value.now _ _ c.hex_behind-did.ensures c.hex_behind-sdid.ensures) in omega (arith, behind-octet comma_word (Rest c.args.value.now))

pub returns : goal.returns
returns c = ap₂ DidSdid (value open_word _ _ c.hex_behind-did.ensures) (value comma_word _ _ (sdid-is _ _ _ c.hex_behind-did.ensures c.hex_behind-sdid.ensures))
    ∙ pair _ (some open_word _ _ c.hex_behind-did.ensures c.if-did-eq0.false) (some comma_word _ _ (sdid-is _ _ _ c.hex_behind-did.ensures c.hex_behind-sdid.ensures) c.if-sdid-eq0.false) (ap (starts_with close_word) (sym (last-is _ _ _ c.hex_behind-did.ensures c.hex_behind-sdid.ensures)) ∙ sym (started close_word _) ∙ sym c.starts_with.ensures.value ∙ c.if-not-starts_with.false) (ap length (sym (last-is _ _ _ c.hex_behind-did.ensures c.hex_behind-sdid.ensures)) ∙ c.if-last-ne1.false)
