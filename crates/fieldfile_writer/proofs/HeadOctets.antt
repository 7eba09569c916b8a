-- The file's head and a field's header, packed into octets as the code packs them.
-- Each field reads back, so the octets are the packed fields.
use mathlib.Core.Path.{◌≡◌, refl, sym, ◌∙◌}
use mathlib.Core.List.{List, [], ◌∷◌}
use Prim.Native.Nat.{ℕ, ◌/◌, ◌%◌, ◌^◌, ◌<◌}
use native.Mathlib.Omega.{arith}
use lib.ListN.{get_or}
use Rattle.wire_spec.specs.Bits.{to_bits, num, octets, field_bits, Below, pack}
use Rattle.wire_spec.proofs.BitLaws.{Reads, packed}
use Rattle.wire_spec.proofs.Window.{below_each}
use Rattle.wire_spec.proofs.FieldLaws.{four-octets-at}
use Rattle.fieldfile_spec.specs.File.{written_version, timestamp_bits, file_f_bits, count_bits, field_header_size, file_head, field_header_fields}
use Rattle.fieldfile_reader.proofs.HeadFields.{f-at, count-2-at}

-- the first five octets
pub head-packed : 0x41 ∷ 0x4E ∷ 0x46 ∷ 0 ∷ 2 ∷ [] ≡ file_head written_version
unfolding to_bits num octets field_bits
head-packed = refl

-- a field's header
module _ (ts f count : ℕ) (ht : ts < 2 ^ timestamp_bits) (hf : f < 2 ^ file_f_bits) (hc : count < 2 ^ count_bits written_version) where
  abbrev pub header_octets : List ℕ
  header_octets = (ts / 16777216) ∷ (ts / 65536 % 256) ∷ (ts / 256 % 256) ∷ (ts % 256) ∷ f ∷ (count / 256) ∷ (count % 256) ∷ []

  below : Below 256 header_octets
  below = omega arith

  octet : (j : ℕ) → get_or header_octets j 0 < 256
  octet = below_each header_octets below

  reads : Reads header_octets 0 (field_header_fields written_version ts f count)
  reads = (
    four-octets-at header_octets octet 0 (omega arith) ∙ omega arith,
    (sym (f-at header_octets octet (omega arith)), (sym (count-2-at header_octets octet (omega arith)) ∙ omega arith, tt)),
  )

  pub header-packed : header_octets ≡ pack (field_header_fields written_version ts f count)
  header-packed = (packed header_octets (field_header_fields written_version ts f count) (field_header_size written_version) refl below (omega arith) reads).1
