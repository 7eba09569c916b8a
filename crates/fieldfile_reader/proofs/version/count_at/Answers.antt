-- `count_at` is the count that a field's header says.
-- By the version: the number of one octet, or of two.
use mathlib.Core.Path.{subst}
use Prim.Native.Nat.{◌≤◌}
use native.Mathlib.Omega.{arith}
use lib.ListN.{length}
use Rattle.fieldfile_spec.specs.declared.format.Version.{Version}
use Rattle.fieldfile_spec.specs.declared.format.Version.TheVariants as version
use Rattle.fieldfile_spec.specs.File.{field_header_size}
use Rattle.fieldfile_reader.proofs.HeadFields.{count-1-at}
use Rattle.fieldfile_reader.proofs.version.count_at.Goals as goal

pub bounds-octets-5 : goal.bounds-octets-5
bounds-octets-5 c = let s = c.args.octets.now in
    let l : field_header_size version.One ≤ length s = subst (λ (v : Version). field_header_size v ≤ length s) c.in-One.is c.requires in
    omega arith

pub overflow_cast-result : goal.overflow_cast-result
overflow_cast-result c = omega (arith, (c.shared_slice_known-1.given 5).fits)

pub pair_at-requires : goal.pair_at-requires
pair_at-requires c = let s = c.args.octets.now in
    let l : field_header_size version.Two ≤ length s = subst (λ (v : Version). field_header_size v ≤ length s) c.in-Two.is c.requires in
    omega arith

pub returns-in-One : goal.returns-in-One
returns-in-One c = let s = c.args.octets.now in
    let l : field_header_size version.One ≤ length s = subst (λ (v : Version). field_header_size v ≤ length s) c.in-One.is c.requires in
    rw c.in-One.is (count-1-at s (λ j. (c.shared_slice_known-1.given j).fits) l)

pub returns-in-Two : goal.returns-in-Two
returns-in-Two c = rw c.in-Two.is c.pair_at.ensures
