-- Four words that start an octet: the factors fit sixteen bits, and the five octets are the words' bits.
-- By cases on the word, where the factors are numerals; by the number that the bits write.
use Rattle.std.proofs.Common.{◌≡◌, ℕ, zero, suc, ◌+◌, ◌*◌, ◌/◌, ◌%◌, ◌<◌, [], ◌∷◌, ◌++◌, get_or, sym, ap, ◌∙◌, ap₂, append-nil, arith}
use native.Mathlib.Nat.{mod-mod}
use Rattle.wire_spec.specs.Bits.{bits, field_bits, row, to_bits}
use Rattle.wire_spec.specs.Words.{word_bits}
use Rattle.wire_words.proofs.Octets.{to_bits-append, to_bits-agree}
use Rattle.wire_row_writer.specs.Factors.{factors, shared_octet}

-- what two words put into the octet that they share
pub record Shared (a b f g : ℕ) : Type 0 where
  pub first : a * f < 65536
  pub second : b * g < 65536
  pub octet : a * f % 256 + b * g / 256 < 256

pub shared-fits : (a b j : ℕ) → a < 1024 → b < 1024 → j < 4 → Shared a b (get_or factors j 0) (get_or factors (j + 1) 0)
shared-fits a b zero ha hb h = record { first = omega arith; second = omega arith; octet = omega arith }
shared-fits a b (suc zero) ha hb h = record { first = omega arith; second = omega arith; octet = omega arith }
shared-fits a b (suc (suc zero)) ha hb h = record { first = omega arith; second = omega arith; octet = omega arith }
shared-fits a b (suc (suc (suc zero))) ha hb h = record { first = omega arith; second = omega arith; octet = omega arith }
shared-fits a b (suc (suc (suc (suc j)))) ha hb h = absurd (omega arith)

-- four words as forty bits
four-bits : (a b c d : ℕ) → b < 1024 → c < 1024 → d < 1024 → field_bits (row word_bits (a ∷ b ∷ c ∷ d ∷ [])) ≡ to_bits 40 (((a * 1024 + b) * 1024 + c) * 1024 + d)
unfolding field_bits
four-bits a b c d hb hc hd =
    let x = ((a * 1024 + b) * 1024 + c) * 1024 + d in
    let ea : x / 1073741824 ≡ a = omega arith in
    let eb : x / 1048576 ≡ a * 1024 + b = omega arith in
    let ec : x / 1024 ≡ (a * 1024 + b) * 1024 + c = omega arith in
    let ta : to_bits 10 a ≡ to_bits 10 (x / 1073741824) = ap (to_bits 10) (sym ea) in
    let tb : to_bits 10 b ≡ to_bits 10 (x / 1048576) = to_bits-agree 10 b (x / 1048576) (rw eb (omega arith)) in
    let tc : to_bits 10 c ≡ to_bits 10 (x / 1024) = to_bits-agree 10 c (x / 1024) (rw ec (omega arith)) in
    let td : to_bits 10 d ≡ to_bits 10 x = to_bits-agree 10 d x (omega arith) in
    ap₂ ◌++◌ ta (ap₂ ◌++◌ tb (ap₂ ◌++◌ tc (append-nil (to_bits 10 d) ∙ td) ∙ to_bits-append 10 10 x) ∙ to_bits-append 10 20 x) ∙ to_bits-append 10 30 x

-- the five octets of a number
five-bits : (x : ℕ) → bits (x / 4294967296 ∷ x / 16777216 % 256 ∷ x / 65536 % 256 ∷ x / 256 % 256 ∷ x % 256 ∷ []) ≡ to_bits 40 x
unfolding bits
five-bits x =
    let agree : (y : ℕ) → to_bits 8 (y % 256) ≡ to_bits 8 y = λ y. to_bits-agree 8 (y % 256) y (mod-mod y 256) in
    rw (agree (x / 16777216), agree (x / 65536), agree (x / 256), agree x, append-nil (to_bits 8 x), to_bits-append 8 8 x, to_bits-append 8 16 x, to_bits-append 8 24 x)
    (to_bits-append 8 32 x)

module _ (a b c d e : ℕ) (ha : a < 1024) (hb : b < 1024) (hc : c < 1024) (hd : d < 1024) where
  abbrev all : ℕ
  all = ((a * 1024 + b) * 1024 + c) * 1024 + d

  octet0 : a / 4 ≡ all / 4294967296
  octet0 = omega arith

  octet1 : shared_octet a b 0 ≡ all / 16777216 % 256
  octet1 = let q : all / 16777216 ≡ a * 64 + b / 16 = omega arith in rw q (omega arith)

  octet2 : shared_octet b c 1 ≡ all / 65536 % 256
  octet2 = let q : all / 65536 ≡ a * 16384 + b * 16 + c / 64 = omega arith in rw q (omega arith)

  octet3 : shared_octet c d 2 ≡ all / 256 % 256
  octet3 = let q : all / 256 ≡ a * 4194304 + b * 4096 + c * 4 + d / 256 = omega arith in rw q (omega arith)

  octet4 : shared_octet d e 3 ≡ all % 256
  octet4 = let r : d * 1 % 256 + e * 0 / 256 ≡ all % 256 = omega arith in r

  pub five-are : bits (a / 4 ∷ shared_octet a b 0 ∷ shared_octet b c 1 ∷ shared_octet c d 2 ∷ shared_octet d e 3 ∷ []) ≡ field_bits (row word_bits (a ∷ b ∷ c ∷ d ∷ []))
  five-are = (λ i. bits (octet0 i ∷ octet1 i ∷ octet2 i ∷ octet3 i ∷ octet4 i ∷ [])) ∙ five-bits all ∙ sym (four-bits a b c d hb hc hd)
