-- `write_packet` writes the packet of the record at the front of the cells to the first words, and no other word.
-- Its front, its user data words behind that, and the checksum.
use Rattle.std.proofs.Common.{◌≡◌, ◌∙◌, ap, refl, sym, List, ℕ, ◌+◌, ◌-◌, length, take, drop, rules, arith}
use borrow.Rule.Slice.PartMut.{put_mid}
use Rattle.wire_spec.specs.Bits.{overwrite}
use Rattle.wire_spec.specs.Cells.{head_cells, cell_count, cell_record}
use Rattle.sdi_spec.specs.Passes.{front_of, summed_at}
use Rattle.sdi_spec.proofs.CodeLaws.{two-parts, packet-written, Named, named}
use Rattle.sdi_packets.proofs.writing.write_packet.Goals as goal

pub overflow_cast-cells : goal.overflow_cast-cells
overflow_cast-cells c = omega (arith, (named c.args.cells.now c.requires.well_formed c.requires.cells_in_bounds.0).did)

pub overflow_cast-cells-2 : goal.overflow_cast-cells-2
overflow_cast-cells-2 c = omega (arith, (named c.args.cells.now c.requires.well_formed c.requires.cells_in_bounds.0).sdid)

pub overflow_cast-n-2 : goal.overflow_cast-n-2
overflow_cast-n-2 c = omega (arith, (named c.args.cells.now c.requires.well_formed c.requires.cells_in_bounds.0).count)

pub put_front-requires : goal.put_front-requires
put_front-requires c = let f : Named c.args.cells.now = named c.args.cells.now c.requires.well_formed c.requires.cells_in_bounds.0 in
    omega (arith, c.requires.cells_in_bounds.1)

pub put_checksum-requires : goal.put_checksum-requires
put_checksum-requires c = let f : Named c.args.cells.now = named c.args.cells.now c.requires.well_formed c.requires.cells_in_bounds.0 in
    (f.count, search rules)

pub returns-clause-words_after : goal.returns-clause-words_after
returns-clause-words_after c = let l = c.args.cells.now in
    let g : Named l = named l c.requires.well_formed c.requires.cells_in_bounds.0 in
    let n = cell_count l in
    let old = c.args.words.now in
    let front = c.put_front.new.words in
    let r = cell_record l in
    let user : c.copy.new.to ≡ r.words =
    c.copy.ensures ∙ ap (λ (m : ℕ). take m (drop head_cells l)) (let k : head_cells + n - head_cells ≡ n = omega arith in k) ∙ sym g.words in
    let long : 6 + n - 6 ≡ n = omega arith in
    let start : front ≡ overwrite (front_of r.did r.sdid (length r.words)) old = c.put_front.ensures ∙ ap (λ (x : List ℕ). overwrite x old) g.front in
    let both = (λ i. put_mid 6 (long i) front (user i)) ∙ two-parts old front (front_of r.did r.sdid (length r.words)) r.words 6 n refl g.long start in
    packet-written r old (put_mid 6 (6 + n - 6) front c.copy.new.to) c.put_checksum.new.words both
    (c.put_checksum.ensures ∙ ap (λ (m : ℕ). summed_at m (put_mid 6 (6 + n - 6) front c.copy.new.to)) (sym g.long))
