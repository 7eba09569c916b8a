-- The size of an ANC data packet: whole octets, a multiple of the alignment, never under the least size.
-- By cases on the layout, where its numbers are numerals; the rest is linear.
use mathlib.Core.Path.{◌≡◌, ◌∙◌}
use mathlib.Core.Logic.{⊎_elim}
use mathlib.Core.List.{[], ◌∷◌}
use Prim.Native.Nat.{ℕ, zero, suc, ◌+◌, ◌*◌, ◌/◌, ◌%◌, ◌<◌, ◌≤◌}
use native.Mathlib.Nat.{eq-zero-or-pos, add-zero}
use native.Mathlib.Omega.{arith}
use lib.ListN.{length}
use Rattle.wire_spec.specs.declared.layout.Layout.TheVariants as layout
use Rattle.wire_spec.specs.Bits.{width, row}
use Rattle.wire_spec.specs.Words.{word_bits}
use Rattle.wire_spec.specs.Layout.{Layout, rfc8331, draft2015, alignment, least_size}
use Rattle.wire_spec.specs.Anc.{Record, checksum, body_fields_with, padding, anc_fields_with, anc_fields, anc_octets_with, anc_octets, body_bits, anc_size}
use Rattle.wire_spec.specs.Writing.{OctetBound}
use Rattle.wire_spec.specs.Cells.{head_cells}
use Rattle.wire_spec.proofs.BitLaws.{width-append, width-row, length-pack}

pub width-body : (L : Layout) (r : Record) (word : ℕ) → width (body_fields_with L r word) ≡ body_bits L (length r.words)
width-body L r word = omega (arith, width-append (row word_bits r.words) ((word_bits, word) ∷ []), width-row word_bits r.words)

-- body and alignment fill whole octets
pub size-bits : (L : Layout) (n : ℕ) → body_bits L n + padding (alignment L) (body_bits L n) ≡ 8 * anc_size L n
unfolding anc_size
size-bits layout.Rfc8331 n = omega arith
size-bits layout.Draft2015 n = omega arith

-- the alignment bits lie in the last four octets
pub pad-few : (L : Layout) (n : ℕ) → padding (alignment L) n < 32
pad-few layout.Rfc8331 n = omega arith
pad-few layout.Draft2015 n = omega arith

-- whatever word stands in the checksum's place
pub width-with : (L : Layout) (r : Record) (word : ℕ) → width (anc_fields_with L r word) ≡ 8 * anc_size L (length r.words)
width-with L r word =
    width-append (body_fields_with L r word) _
    ∙ rw (width-body L r word, add-zero (padding (alignment L) (body_bits L (length r.words)))) (size-bits L (length r.words))

pub length-with : (L : Layout) (r : Record) (word : ℕ) → length (anc_octets_with L r word) ≡ anc_size L (length r.words)
length-with L r word = length-pack [] (anc_fields_with L r word) (anc_size L (length r.words)) (width-with L r word)

pub width-anc : (L : Layout) (r : Record) → width (anc_fields L r) ≡ 8 * anc_size L (length r.words)
width-anc L r = width-with L r (checksum r)

pub length-anc : (L : Layout) (r : Record) → length (anc_octets L r) ≡ anc_size L (length r.words)
length-anc L r = length-with L r (checksum r)

rounded-up : (b : ℕ) → (b + padding 32 b) / 8 ≡ 4 * ((b + 31) / 32)
rounded-up b = ⊎_elim (λ (h : b % 32 ≡ 0). rw h (omega arith)) (λ (h : 0 < b % 32). omega arith) (eq-zero-or-pos (b % 32))

-- "Size in octets: 4 x ceiling((72 + 10n) / 32)"
pub size-rfc8331 : (n : ℕ) → anc_size rfc8331 n ≡ 4 * ((72 + 10 * n + 31) / 32)
unfolding anc_size
size-rfc8331 n = rounded-up (72 + 10 * n)

-- "ceiling((66 + 10n) / 8) octets"
pub size-draft2015 : (n : ℕ) → anc_size draft2015 n ≡ (66 + 10 * n + 7) / 8
unfolding anc_size
size-draft2015 n = omega arith

pub least_size_lem : (L : Layout) (n : ℕ) → least_size L ≤ anc_size L n
least_size_lem layout.Rfc8331 n = rw (size-rfc8331 n) (omega arith)
least_size_lem layout.Draft2015 n = rw (size-draft2015 n) (omega arith)

-- "never more than 12 + 1.5n octets" (02, K7)
half-more : (n : ℕ) → 2 * (4 * ((72 + 10 * n + 31) / 32)) ≤ 24 + 3 * n
half-more zero = omega arith
half-more (suc zero) = omega arith
half-more (suc (suc zero)) = omega arith
half-more (suc (suc (suc zero))) = omega arith
half-more (suc (suc (suc (suc n)))) = omega arith

pub octet-bound : OctetBound
octet-bound layout.Rfc8331 n = rw (size-rfc8331 n) (half-more n)
octet-bound layout.Draft2015 n = rw (size-draft2015 n) (omega arith)

-- a record of n words takes head_cells + n cells, and at most one and a half octets for each
pub size-cells : (L : Layout) (n : ℕ) → 2 * anc_size L n ≤ 3 * (head_cells + n)
size-cells L n = omega (arith, octet-bound L n)

-- and at least one octet for each
pub cells-octets : (L : Layout) (n : ℕ) → head_cells + n ≤ anc_size L n
cells-octets layout.Rfc8331 n = rw (size-rfc8331 n) (omega arith)
cells-octets layout.Draft2015 n = rw (size-draft2015 n) (omega arith)
