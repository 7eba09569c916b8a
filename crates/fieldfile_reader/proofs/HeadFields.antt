-- The fields of the file's head and of a field's header, as the code computes them from octets.
-- Each is whole octets, so it is the number that they write.
use mathlib.Core.Path.{◌≡◌, refl, sym, ◌∙◌}
use mathlib.Core.List.{List}
use Prim.Native.Nat.{ℕ, ◌+◌, ◌*◌, ◌<◌, ◌≤◌}
use native.Mathlib.Omega.{arith}
use lib.ListN.{length, get_or}
use lib.Seq.{drop-cons}
use Rattle.wire_spec.specs.Bits.{bits_at}
use Rattle.wire_spec.proofs.Window.{window, below_all}
use Rattle.wire_spec.proofs.FieldLaws.{within-octet, two-octets-at}
use Rattle.fieldfile_spec.specs.declared.format.Version.TheVariants as version
use Rattle.fieldfile_spec.specs.File.{name_bits, name_size, file_f_bits, count_bits, field_header_size, file_f_field, count_field}

module _ (s : List ℕ) (octet : (j : ℕ) → get_or s j 0 < 256) where
  pub name-at : name_size ≤ length s → (get_or s 0 0 * 256 + get_or s 1 0) * 256 + get_or s 2 0 ≡ bits_at s 0 name_bits
  name-at l =
      sym
      (window s (below_all s octet) 0 name_size 0 name_bits 0 refl l
      ∙ rw (drop-cons s 0 0 (omega arith), drop-cons s 1 0 (omega arith), drop-cons s 2 0 (omega arith)) (omega (arith, octet 0, octet 1, octet 2)))

  -- F, and the count behind it: one octet, or two
  pub f-at : 4 < length s → get_or s 4 0 ≡ file_f_field s
  f-at long = sym (within-octet s octet 4 (omega arith) 0 file_f_bits (omega arith) ∙ omega (arith, octet 4))

  pub count-1-at : field_header_size version.One ≤ length s → get_or s 5 0 ≡ count_field version.One s
  count-1-at long = sym (within-octet s octet 5 (omega arith) 0 (count_bits version.One) (omega arith) ∙ omega (arith, octet 5))

  pub count-2-at : field_header_size version.Two ≤ length s → get_or s 5 0 * 256 + get_or s 6 0 ≡ count_field version.Two s
  count-2-at long = sym (two-octets-at s octet 5 (omega arith))
