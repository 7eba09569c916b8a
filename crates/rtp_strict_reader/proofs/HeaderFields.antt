-- The fields of the RTP header and of the payload header as the code computes them from octets.
-- Each lies within one octet, or is two or four whole octets.
use mathlib.Core.Path.{◌≡◌, refl, ap, sym, ◌∙◌}
use mathlib.Core.Bool.{Bool, true, false}
use mathlib.Core.List.{List}
use Prim.Native.Nat.{ℕ, zero, suc, ◌+◌, ◌*◌, ◌/◌, ◌%◌, ◌<◌, ◌≤◌}
use native.Mathlib.Nat.{zero-mul, one-mul}
use native.Mathlib.Omega.{arith}
use borrow.Author.Tests.{leb-true, leb-false}
use lib.Dec.{leb}
use lib.ListN.{length, get_or}
use Rattle.wire_spec.specs.Bits.{bits_at, num}
use Rattle.wire_spec.specs.Layout.{rfc8331, payload_header_size}
use Rattle.wire_spec.specs.Packet.{header_least, source_count, has_extension, extension_at, extension_words, header_size, payload_at, length_field, anc_count, f_at, f_field}
use Rattle.wire_spec.proofs.FieldLaws.{within-octet}
use Rattle.rtp_strict_reader.specs.Answers.{SizeFound}

module _ (s : List ℕ) (octet : (j : ℕ) → get_or s j 0 < 256) (long : header_least ≤ length s) where
  pub version-at : bits_at s 0 2 ≡ get_or s 0 0 / 64
  version-at = within-octet s octet 0 (omega arith) 0 2 (omega arith) ∙ omega (arith, octet 0)

  pub padding-at : bits_at s 2 1 ≡ get_or s 0 0 / 32 % 2
  padding-at = within-octet s octet 0 (omega arith) 2 1 (omega arith)

  pub extension-at : has_extension s ≡ get_or s 0 0 / 16 % 2
  extension-at = within-octet s octet 0 (omega arith) 3 1 (omega arith)

  pub sources-at : source_count s ≡ get_or s 0 0 % 16
  sources-at = within-octet s octet 0 (omega arith) 4 4 (omega arith) ∙ omega arith

  pub marker-at : bits_at s 8 1 ≡ get_or s 1 0 / 128
  marker-at = within-octet s octet 1 (omega arith) 0 1 (omega arith) ∙ omega (arith, octet 1)

  pub type_at : bits_at s 9 7 ≡ get_or s 1 0 % 128
  type_at = within-octet s octet 1 (omega arith) 1 7 (omega arith) ∙ omega arith

  -- octets before the extension
  abbrev fixed : ℕ
  fixed = header_least + 4 * (get_or s 0 0 % 16)

  without : get_or s 0 0 / 16 % 2 ≡ 0 → header_size s ≡ fixed
  unfolding bits_at num
  without h =
      let x : has_extension s ≡ 0 = extension-at ∙ h in
      let w : extension_words s ≡ 0 = ap (λ (n : ℕ). bits_at s (extension_at s + 16 * n) (16 * n)) x in
      omega (arith, sources-at)

  pub size-without : get_or s 0 0 / 16 % 2 ≡ 0 → SizeFound s fixed
  size-without h = let e = without h in record { whole = λ l. sym e; cut = λ l. omega arith }

  -- with an extension, whose length stands in the last two of its first four octets
  has : (get_or s 0 0 / 16 % 2 ≡ 0 → ⊥) → has_extension s ≡ 1
  has h = extension-at ∙ one (get_or s 0 0 / 16 % 2) (omega arith) h
    where
      one : (x : ℕ) → x < 2 → (x ≡ 0 → ⊥) → x ≡ 1
      one x l h = omega arith

  pub size-cut : (get_or s 0 0 / 16 % 2 ≡ 0 → ⊥) → length s < fixed + 4 → SizeFound s (fixed + 4)
  size-cut h l = let x = has h in record { whole = λ m. absurd (omega (arith, sources-at)); cut = λ m. l }

  pub size-with : (get_or s 0 0 / 16 % 2 ≡ 0 → ⊥) → (words : ℕ) → words ≡ bits_at s (8 * (fixed + 2)) 16 → SizeFound s (fixed + 4 + 4 * words)
  size-with h words e =
      let x = has h in
      let k : extension_at s + 16 ≡ 8 * (fixed + 2) = omega (arith, sources-at) in
      let w : extension_words s ≡ words = ap (λ (n : ℕ). bits_at s (extension_at s + 16 * n) (16 * n)) x ∙ ap (λ (n : ℕ). bits_at s n 16) k ∙ sym e in
      let z : header_size s ≡ fixed + 4 + 4 * words = omega (arith, sources-at) in
      record { whole = λ m. sym z; cut = λ m. omega arith }

-- the payload header, at the octet `header`, as far as the layouts share it
module _ (s : List ℕ) (octet : (j : ℕ) → get_or s j 0 < 256) (header : ℕ) (here : header ≡ header_size s) (long : header + 5 ≤ length s) where
  pub length_at : bits_at s (8 * (header + 2)) 16 ≡ length_field s
  length_at = let k : 8 * (header + 2) ≡ payload_at s + 16 = omega arith in ap (λ (n : ℕ). bits_at s n 16) k

  pub extended-at : bits_at s (8 * header) 16 ≡ bits_at s (payload_at s) 16
  extended-at = ap (λ (n : ℕ). bits_at s (8 * n) 16) here

  pub count_at : anc_count s ≡ get_or s (header + 4) 0
  count_at =
      let k : payload_at s + 16 + 16 ≡ 8 * (header + 4) + 0 = omega arith in
      ap (λ (n : ℕ). bits_at s n 8) k ∙ within-octet s octet (header + 4) (omega arith) 0 8 (omega arith) ∙ omega (arith, octet (header + 4))

  -- F, which RFC 8331's layout has
  pub f-at : header + payload_header_size rfc8331 ≤ length s → f_field rfc8331 s ≡ get_or s (header + 5) 0 / 64
  f-at more =
      let k : f_at s ≡ 8 * (header + 5) + 0 = omega arith in
      ap (λ (n : ℕ). bits_at s n 2) k ∙ within-octet s octet (header + 5) (omega arith) 0 2 (omega arith) ∙ omega (arith, octet (header + 5))

-- what a test of the size that was found says of the header's size
module _ (s : List ℕ) (size : ℕ) (found : SizeFound s size) where
  pub size-over : length s < size → leb (header_size s) (length s) ≡ false
  size-over l = go (leb (header_size s) (length s)) refl
    where
      go : (t : Bool) → leb (header_size s) (length s) ≡ t → leb (header_size s) (length s) ≡ false
      go false e = e
      go true e = let z = found.whole (leb-true (header_size s) (length s) e) in absurd (omega (arith, leb-true (header_size s) (length s) e))

  pub size-within : size ≤ length s → size ≡ header_size s
  size-within l = go (leb (header_size s) (length s)) refl
    where
      go : (t : Bool) → leb (header_size s) (length s) ≡ t → size ≡ header_size s
      go true e = found.whole (leb-true (header_size s) (length s) e)
      go false e = absurd (omega (arith, found.cut (leb-false (header_size s) (length s) e)))

pub flag-times : (x y : ℕ) → x < 2 → x * y ≤ y
flag-times zero y h = omega (arith, zero-mul y)
flag-times (suc zero) y h = omega (arith, one-mul y)
flag-times (suc (suc x)) y h = absurd (omega arith)
