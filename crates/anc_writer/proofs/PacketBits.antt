-- The packet of a record, as its stores leave it: the octets before DID, the header words, R, the words and the checksum.
-- Each store is a splice of bits behind the one before, over octets whose end was cleared.
use mathlib.Core.Path.{◌≡◌, refl, ap, sym, ◌∙◌}
use mathlib.Core.Bool.{Bool}
use mathlib.Core.List.{List, [], ◌∷◌, ◌++◌}
use Prim.Native.Nat.{ℕ, ◌+◌, ◌-◌, ◌*◌, ◌%◌, ◌≤◌}
use native.Mathlib.Omega.{arith}
use lib.ListN.{length, set}
use Rattle.wire_spec.specs.Bits.{to_bits, bits, Fields, width, row, field_bits, pack, Below, overwrite, splice}
use Rattle.wire_spec.specs.Words.{word_bits, sum_low, checksum_word}
use Rattle.wire_spec.specs.Layout.{Layout, rfc8331, draft2015}
use Rattle.wire_spec.specs.Anc.{Record, checksum, location_fields, header_fields, body_fields, anc_fields, anc_octets, anc_size, did_at, words_at}
use Rattle.wire_spec.proofs.BitLaws.{length-bits, length-field_bits, bits-octets, width-row}
use Rattle.wire_spec.proofs.ListLaws.{splice-append, set-splice}
use Rattle.wire_spec.proofs.PacketStore.{field_bits-append, field_bits-one, store-behind, zeros-behind, location-behind, aligned}
use Rattle.wire_spec.proofs.SizeLaws.{width-anc}
use Rattle.wire_spec.proofs.Store.{bits-splice, stored}
use Rattle.wire_words.proofs.SumLaws.{checksum-agree, low_first}
use Rattle.anc_writer.specs.Packet.{head_words, summed}

-- the checksum word asks for the sum modulo 512
pub summed-low : (words : List ℕ) (sum : ℕ) → summed words (sum % 512) ≡ summed words sum
summed-low words sum =
    ap (λ (w : ℕ). row word_bits words ++ (word_bits, w) ∷ []) (checksum-agree (sum % 512 + sum_low words) (sum + sum_low words) (low_first sum (sum_low words)))

-- the words, and the checksum word stored behind them
pub summed-stored : (b : List Bool) (at : ℕ) (words : List ℕ) (sum : ℕ) → at ≤ length b
    → splice (splice b at (field_bits (row word_bits words))) (at + word_bits * length words) (to_bits word_bits (checksum_word (sum + sum_low words)))
    ≡ splice b at (field_bits (summed words sum))
summed-stored b at words sum h =
    let fs = row word_bits words in
    let last : Fields = (word_bits, checksum_word (sum + sum_low words)) ∷ [] in
    (λ i.
    splice (splice b at (field_bits fs)) (at + sym (length-field_bits fs ∙ width-row word_bits words) i)
    (sym (field_bits-one word_bits (checksum_word (sum + sum_low words))) i))
    ∙ splice-append b at (field_bits fs) (field_bits last) h
    ∙ ap (splice b at) (sym (field_bits-append fs last))

module _ (L : Layout) (r : Record) where
  -- the header words behind the place
  abbrev headed : Fields
  headed = location_fields L r ++ row word_bits (head_words r)

  -- fields stored right behind others
  behind : (b : List Bool) (fs gs : Fields) (at : ℕ) → at ≡ width fs → splice (splice b 0 (field_bits fs)) at (field_bits gs) ≡ splice b 0 (field_bits (fs ++ gs))
  behind b fs gs at e = ap (λ (k : ℕ). splice (splice b 0 (field_bits fs)) k (field_bits gs)) e ∙ store-behind b fs gs

  -- the octets before DID as RFC 8331 has them, and the header words
  pub head-stored : (s s₁ s₂ : List ℕ) → s₁ ≡ overwrite (pack (location_fields rfc8331 r)) s
      → bits s₂ ≡ splice (bits s₁) (did_at L) (field_bits (row word_bits (head_words r)))
      → bits s₂ ≡ splice (bits s) 0 (field_bits headed)
  head-stored s s₁ s₂ e₁ e₂ =
      let lf = location_fields rfc8331 r in
      let ws = row word_bits (head_words r) in
      let b₁ : bits s₁ ≡ splice (bits s) 0 (field_bits lf) =
      ap bits e₁ ∙ bits-splice s 0 (pack lf) ∙ ap (splice (bits s) 0) (bits-octets 4 (field_bits lf) (length-field_bits lf)) in
      e₂ ∙ ap (λ (b : List Bool). splice b (did_at L) (field_bits ws)) b₁ ∙ location-behind L (bits s) r ws (omega arith)

  abbrev tail : Fields
  tail = summed r.words (sum_low (head_words r))

  -- the sums of the header words and of the words, together, make the record's checksum
  body_is : field_bits (header_fields L r ++ tail) ≡ field_bits (body_fields L r)
  body_is =
      let e : checksum_word (sum_low (head_words r) + sum_low r.words) ≡ checksum r = ap checksum_word (omega arith) in
      ap (λ (w : ℕ). field_bits (header_fields L r ++ (row word_bits r.words ++ (word_bits, w) ∷ []))) e

  -- THE PACKET: its last octets cleared, then all before the words, then the words and the checksum
  pub written : (s s₁ s₂ s₃ : List ℕ) → Below 256 s → Below 256 s₃ → (size : ℕ) → size ≡ anc_size L (length r.words) → size ≤ length s
      → s₁ ≡ splice s (size - 4) (0 ∷ 0 ∷ 0 ∷ 0 ∷ [])
      → bits s₂ ≡ splice (bits s₁) 0 (field_bits (header_fields L r))
      → (sum : ℕ) (words : List ℕ) → sum ≡ sum_low (head_words r) % 512 → words ≡ r.words
      → bits s₃ ≡ splice (bits s₂) (words_at L) (field_bits (summed words sum))
      → s₃ ≡ overwrite (anc_octets L r) s
  written s s₁ s₂ s₃ h h₃ size e l e₁ e₂ sum words es ew e₃ =
      let cleared = e₁ ∙ ap (λ (k : ℕ). splice s (k - 4) (0 ∷ 0 ∷ 0 ∷ 0 ∷ [])) e in
      let b₃ : bits s₃ ≡ splice (bits s₁) 0 (field_bits (header_fields L r ++ tail)) =
      e₃ ∙ (λ i. splice (e₂ i) (words_at L) (field_bits (summed (ew i) (es i))))
      ∙ ap (λ (fs : Fields). splice (splice (bits s₁) 0 (field_bits (header_fields L r))) (words_at L) (field_bits fs)) (summed-low r.words (sum_low (head_words r)))
      ∙ behind (bits s₁) (header_fields L r) tail (words_at L) (omega arith) in
      stored s s₃ h h₃ 0 (anc_size L (length r.words)) (anc_fields L r) (width-anc L r) (omega arith)
      (b₃ ∙ ap (splice (bits s₁) 0) body_is ∙ ap (λ (x : List ℕ). splice (bits x) 0 (field_bits (body_fields L r))) cleared ∙ aligned L s r (omega arith))

-- R: RFC 8331's layout has none; the drafts' is what is left of an octet that was cleared
pub no-r : (r : Record) → field_bits (headed rfc8331 r) ≡ field_bits (header_fields rfc8331 r)
unfolding field_bits to_bits
no-r r = refl

pub r-cleared : (r : Record) (s : List ℕ) → 7 ≤ length s
    → splice (bits (set s 6 0)) 0 (field_bits (headed draft2015 r)) ≡ splice (bits s) 0 (field_bits (header_fields draft2015 r))
r-cleared r s l =
    ap (λ (b : List Bool). splice b 0 (field_bits (headed draft2015 r)))
    (ap bits (set-splice s 6 0 (omega arith)) ∙ bits-splice s 6 (0 ∷ []) ∙ ap (splice (bits s) 48) zeros)
    ∙ zeros-behind (bits s) 48 6 2 (headed draft2015 r) (omega arith) (omega (arith, length-bits s))
  where
    zeros : bits (0 ∷ []) ≡ to_bits 8 0
    zeros = unfold bits to_bits in refl
