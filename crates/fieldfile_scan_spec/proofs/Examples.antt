-- Examples, computed: turns over the octets at hand.
use mathlib.Core.Path.{◌≡◌, refl}
use mathlib.Core.List.{List, [], ◌∷◌, ◌++◌}
use Prim.Native.Nat.{ℕ}
use lib.ListN.{take}
use Rattle.wire_spec.specs.Bits.{to_bits, num, bits, bits_at, row_at}
use Rattle.wire_spec.specs.Words.{header_word, checksum_word}
use Rattle.wire_spec.specs.Layout.{rfc8331}
use Rattle.wire_spec.specs.Anc.{anc_size, anc_record, headers_ok, r_ok, words_ok, checksum_ok, alignment_ok, anc_checks, read_anc}
use Rattle.wire_spec.proofs.Examples.{a, a_octets, b, b_octets}
use Rattle.fieldfile_spec.specs.declared.format.Version.TheVariants as version
use Rattle.fieldfile_spec.specs.File.{end_of_file, field_header_checks}
use Rattle.fieldfile_scan_spec.specs.Window.{most_size, between, within, content, stops, gives, goes, turn}

abbrev fields₁ : List ℕ
fields₁ = 0x00 ∷ 0x00 ∷ 0x03 ∷ 0xE8 ∷ 0x02 ∷ 0x02 ∷ (a_octets ++ b_octets)

abbrev fields₂ : List ℕ
fields₂ = 0x00 ∷ 0x00 ∷ 0x03 ∷ 0xE8 ∷ 0x02 ∷ 0x00 ∷ 0x02 ∷ (a_octets ++ b_octets)

-- octets enough for any turn
pub window : most_size rfc8331 ≡ 328
unfolding anc_size
window = refl

-- turns: the header, the first packet over just its own octets, a packet cut, the last one, the end
pub turns : (turn (between version.Two) fields₂ ≡ goes (within 1000 2 2 []) 7)
    × (turn (within 1000 2 2 []) a_octets ≡ goes (within 1000 2 1 (a ∷ [])) 12)
    × (turn (within 1000 2 1 (a ∷ [])) (take 11 b_octets) ≡ stops (record { number = 9; index = 1 }))
    × (turn (within 1000 2 0 (a ∷ b ∷ [])) [] ≡ gives (content 1000 2 (a ∷ b ∷ [])))
    × (turn (between version.One) [] ≡ stops end_of_file)
    × (turn (between version.Two) (take 6 fields₂) ≡ stops (record { number = 52; index = 0 }))
    × (turn (between version.One) (take 6 fields₁) ≡ goes (within 1000 2 2 []) 6)
unfolding to_bits num bits bits_at row_at header_word checksum_word anc_size anc_record headers_ok r_ok words_ok checksum_ok alignment_ok anc_checks read_anc field_header_checks turn
turns = (refl, refl, refl, refl, refl, refl, refl)
