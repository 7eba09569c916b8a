-- `write_head` writes all that stands before the words, and tells the sum of the header words.
-- Each callee tells its store; the laws of a packet's stores put them together, in the layout that each arm is told.
use mathlib.Core.Path.{◌≡◌, ap, sym, subst, ◌∙◌}
use Prim.Native.Nat.{◌≤◌}
use native.Mathlib.Omega.{arith}
use lib.ListN.{length, set, length-set}
use Rattle.wire_spec.specs.Anc.{header_fields}
use Rattle.wire_spec.specs.Bits.{bits, field_bits, splice}
use Rattle.wire_spec.specs.Cells.{cell_record}
use Rattle.wire_spec.specs.Layout.{Layout, rfc8331, draft2015, least_size}
use Rattle.anc_writer.proofs.PacketBits.{head-stored, no-r, r-cleared}
use Rattle.anc_writer.proofs.head.write_head.Goals as goal

pub bounds-octets : goal.bounds-octets
bounds-octets c = let least : (L : Layout) → c.args.layout ≡ L → least_size L ≤ length c.args.octets.now = λ L e. subst (λ (N : Layout). least_size N ≤ length c.args.octets.now) e c.requires.cells_in_bounds.1 in
    omega (arith, least draft2015 c.in-Draft2015.is)

pub write_location-requires : goal.write_location-requires
write_location-requires c = let least : (L : Layout) → c.args.layout ≡ L → least_size L ≤ length c.args.octets.now = λ L e. subst (λ (N : Layout). least_size N ≤ length c.args.octets.now) e c.requires.cells_in_bounds.1 in
    (c.requires.well_formed, omega (arith, c.requires.cells_in_bounds.0), omega (arith, least rfc8331 c.in-Rfc8331.is))

pub write_header_words-requires : goal.write_header_words-requires
write_header_words-requires c = let least : (L : Layout) → c.args.layout ≡ L → least_size L ≤ length c.args.octets.now = λ L e. subst (λ (N : Layout). least_size N ≤ length c.args.octets.now) e c.requires.cells_in_bounds.1 in
    let k = c.write_location.auto.octets in
    let l = least rfc8331 c.in-Rfc8331.is in
    record { well_formed = c.requires.well_formed; cells_in_bounds = (c.requires.cells_in_bounds.0, record { even = omega arith; inside = omega (arith, k, l); near = omega arith }) }

pub returns-in-Rfc8331 : goal.returns-in-Rfc8331
returns-in-Rfc8331 c = let a = c.args in
    let r = cell_record a.cells.now in
    let e : a.layout ≡ rfc8331 = c.in-Rfc8331.is in record {
      value = c.write_header_words.ensures.value;
      octets_after = head-stored rfc8331 r a.octets.now c.write_location.new.octets c.write_header_words.new.octets c.write_location.ensures c.write_header_words.ensures.octets_after
          ∙ ap (splice (bits a.octets.now) 0) (no-r r)
          ∙ ap (λ (L : Layout). splice (bits a.octets.now) 0 (field_bits (header_fields L r))) (sym e);
    }

pub write_location-requires-in-Draft2015 : goal.write_location-requires-in-Draft2015
write_location-requires-in-Draft2015 c = let least : (L : Layout) → c.args.layout ≡ L → least_size L ≤ length c.args.octets.now = λ L e. subst (λ (N : Layout). least_size N ≤ length c.args.octets.now) e c.requires.cells_in_bounds.1 in
    (c.requires.well_formed, omega (arith, c.requires.cells_in_bounds.0), simp length-set (omega (arith, least draft2015 c.in-Draft2015.is)))

pub write_header_words-requires-in-Draft2015 : goal.write_header_words-requires-in-Draft2015
write_header_words-requires-in-Draft2015 c = let least : (L : Layout) → c.args.layout ≡ L → least_size L ≤ length c.args.octets.now = λ L e. subst (λ (N : Layout). least_size N ≤ length c.args.octets.now) e c.requires.cells_in_bounds.1 in
    let k = simp length-set at c.write_location-in-Draft2015.auto.octets in
    let l = least draft2015 c.in-Draft2015.is in
    record { well_formed = c.requires.well_formed; cells_in_bounds = (c.requires.cells_in_bounds.0, record { even = omega arith; inside = omega (arith, k, l); near = omega arith }) }

pub shape_of-octets-in-Draft2015 : goal.shape_of-octets-in-Draft2015
shape_of-octets-in-Draft2015 c = c.write_header_words-in-Draft2015.auto.octets ∙ c.write_location-in-Draft2015.auto.octets ∙ length-set c.args.octets.now 6 _

pub returns-in-Draft2015 : goal.returns-in-Draft2015
returns-in-Draft2015 c = let least : (L : Layout) → c.args.layout ≡ L → least_size L ≤ length c.args.octets.now = λ L e. subst (λ (N : Layout). least_size N ≤ length c.args.octets.now) e c.requires.cells_in_bounds.1 in
    let a = c.args in
    let r = cell_record a.cells.now in
    let e : a.layout ≡ draft2015 = c.in-Draft2015.is in record {
      value = c.write_header_words-in-Draft2015.ensures.value;
      octets_after = head-stored draft2015 r (set a.octets.now 6 0) c.write_location-in-Draft2015.new.octets c.write_header_words-in-Draft2015.new.octets c.write_location-in-Draft2015.ensures c.write_header_words-in-Draft2015.ensures.octets_after
          ∙ r-cleared r a.octets.now (omega (arith, least draft2015 e))
          ∙ ap (λ (L : Layout). splice (bits a.octets.now) 0 (field_bits (header_fields L r))) (sym e);
    }
