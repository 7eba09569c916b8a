-- A header word carries its number and is no protected word, and every word that is made fits ten bits.
-- By the parity bit as a number below 2; the rest is linear.
use mathlib.Core.Path.{◌≡◌, ap, sym, ◌∙◌}
use mathlib.Core.Bool.{true}
use Prim.Native.Nat.{ℕ, ◌+◌, ◌-◌, ◌*◌, ◌%◌, ◌^◌, ◌<◌, ◌≤◌}
use native.Mathlib.Nat.{mod-lt}
use native.Mathlib.Omega.{arith}
use lib.Dec.{lit<}
use borrow.Author.Tests.{eq-eqb, eqb-true, le-leb}
use Rattle.wire_spec.specs.Words.{word_bits, header_numbers, ones, header_word, is_header_word, least_clear, most_clear, is_clear, checksum_word}
use Rattle.wire_spec.proofs.ResultLaws.{and_both}

-- the low eight bits of a header word are its number
pub header-mod : (x : ℕ) → x < header_numbers → header_word x % header_numbers ≡ x
unfolding header_word
header-mod x h = go x (ones 8 x % 2) h (mod-lt (ones 8 x) (lit< tt))
  where
    go : (x p : ℕ) → x < 256 → p < 2 → (x + 256 * p + 512 * (1 - p)) % 256 ≡ x
    go x p h l = omega arith

-- a header word fits its field
pub header-lt : (x : ℕ) → x < header_numbers → header_word x < 2 ^ word_bits
unfolding header_word
header-lt x h = go x (ones 8 x % 2) h (mod-lt (ones 8 x) (lit< tt))
  where
    go : (x p : ℕ) → x < 256 → p < 2 → x + 256 * p + 512 * (1 - p) < 1024
    go x p h l = omega arith

-- the header word of a number passes the test
pub header-passes : (w x : ℕ) → w ≡ header_word x → x < header_numbers → is_header_word w ≡ true
header-passes w x e h =
    eq-eqb w (header_word (w % header_numbers)) (e ∙ ap header_word (sym (ap (λ (y : ℕ). y % header_numbers) e ∙ header-mod x h)))

-- b9 is the opposite of b8, so a header word lies from 0x100 to 0x2FF: it is no protected word
pub header-between : (x : ℕ) → x < header_numbers → (0x100 ≤ header_word x) × (header_word x < 0x300)
unfolding header_word
header-between x h = go x (ones 8 x % 2) h (mod-lt (ones 8 x) (lit< tt))
  where
    go : (x p : ℕ) → x < 256 → p < 2 → (0x100 ≤ x + 256 * p + 512 * (1 - p)) × (x + 256 * p + 512 * (1 - p) < 0x300)
    go x p h l = omega arith

pub header-clear : (w : ℕ) → is_header_word w ≡ true → is_clear w ≡ true
header-clear w e =
    let h = eqb-true w (header_word (w % header_numbers)) e in
    let r = header-between (w % header_numbers) (mod-lt w (lit< tt)) in
    and_both (le-leb least_clear w (omega arith)) (le-leb w most_clear (omega arith))

-- a checksum fits its field
pub checksum-lt : (sum : ℕ) → checksum_word sum < 2 ^ word_bits
unfolding checksum_word
checksum-lt sum = omega arith
