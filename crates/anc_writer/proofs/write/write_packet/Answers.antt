-- `write_packet` writes the record at the front of the cells as the packet at the front of the octets.
-- Each callee tells its store; the law of a packet's stores puts them together.
use mathlib.Core.Path.{◌≡◌, refl, ap, sym, ◌∙◌, subst}
use mathlib.Core.List.{List}
use Prim.Native.Nat.{ℕ, ◌+◌, ◌-◌, ◌^◌, ◌<◌, ◌≤◌}
use native.Mathlib.Omega.{arith}
use lib.ListN.{length, take, drop}
use Rattle.wire_spec.specs.Bits.{Below}
use Rattle.wire_spec.specs.Words.{word_bits, header_numbers}
use Rattle.wire_spec.specs.Anc.{Record, anc_size, words_at}
use Rattle.wire_spec.specs.Cells.{head_cells, cell_count, cell_record}
use Rattle.wire_spec.proofs.LayoutLaws.{places}
use Rattle.wire_spec.proofs.SizeLaws.{least_size_lem, size-bits}
use Rattle.wire_spec.proofs.Window.{below_all}
use Rattle.anc_record.proofs.FrontLaws.{length-words}
use Rattle.wire_words.specs.Word.{WordsFit}
use Rattle.anc_writer.proofs.PacketBits.{written}
use Rattle.anc_writer.proofs.write.write_packet.Goals as goal

pub overflow_cast-words : goal.overflow_cast-words
overflow_cast-words c = let given : Record = cell_record c.args.cells.now in
    let count-is : cell_count c.args.cells.now ≡ length (given).words = sym (length-words c.args.cells.now c.requires.cells_in_bounds) in
    omega (arith, count-is, c.requires.well_formed.fits.count)

pub clear_end-requires : goal.clear_end-requires
clear_end-requires c = let given : Record = cell_record c.args.cells.now in
    let count-is : cell_count c.args.cells.now ≡ length (given).words = sym (length-words c.args.cells.now c.requires.cells_in_bounds) in
    let room : anc_size c.args.layout (length (given).words) ≤ length c.args.octets.now = rw (← count-is) c.requires.cells_in_bounds_2 in
    let size_is : c.packet_size-size.result.0 ≡ anc_size c.args.layout (length (cell_record c.args.cells.now).words) = c.packet_size-size.ensures ∙ ap (anc_size c.args.layout) (count-is) in
    let L = c.args.layout in
    omega (arith, size_is, room, least_size_lem L (length (cell_record c.args.cells.now).words), (places L).least)

pub write_head-sum-requires : goal.write_head-sum-requires
write_head-sum-requires c = let given : Record = cell_record c.args.cells.now in
    let count-is : cell_count c.args.cells.now ≡ length (given).words = sym (length-words c.args.cells.now c.requires.cells_in_bounds) in
    let room : anc_size c.args.layout (length (given).words) ≤ length c.args.octets.now = rw (← count-is) c.requires.cells_in_bounds_2 in
    let L = c.args.layout in
    let kept = c.clear_end.auto.octets in
    record { well_formed = c.requires.well_formed; cells_in_bounds = (c.requires.cells_in_bounds, omega (arith, kept, room, least_size_lem L (length (cell_record c.args.cells.now).words))) }

pub write_user_words-requires : goal.write_user_words-requires
unfolding cell_record
write_user_words-requires c = let given : Record = cell_record c.args.cells.now in
    let count-is : cell_count c.args.cells.now ≡ length (given).words = sym (length-words c.args.cells.now c.requires.cells_in_bounds) in
    let user-is : let l = c.args.cells.now in take (head_cells + cell_count l - head_cells) (drop head_cells l) ≡ (given).words = let l = c.args.cells.now in
    let e : head_cells + cell_count l - head_cells ≡ cell_count l = omega arith in
    ap (λ (k : ℕ). take k (drop head_cells l)) e in
    let room : anc_size c.args.layout (length (given).words) ≤ length c.args.octets.now = rw (← count-is) c.requires.cells_in_bounds_2 in
    let L = c.args.layout in
    let r = cell_record c.args.cells.now in
    let n = length r.words in
    let o = c.write_head-sum.new.octets in
    let kept : length o ≡ length c.args.octets.now = c.write_head-sum.auto.octets ∙ c.clear_end.auto.octets in
    let f = c.requires.well_formed.fits in
    let e = sym (user-is) in
    let p = places L in
    let fit : WordsFit o (words_at L) (n + 1) = record { even = p.words-even; inside = omega (arith, kept, room, size-bits L n); near = omega (arith, p.did-near, p.r-few, f.count) } in record {
      words_len_bound = (
        subst (λ (l : List ℕ). length l < header_numbers) e f.count,
        subst (Below (2 ^ word_bits)) e f.words,
        omega (arith, c.write_head-sum.ensures.value),
      );
      words_fit = subst (λ (l : List ℕ). WordsFit o (words_at L) (length l + 1)) e fit;
    }

pub returns : goal.returns
unfolding cell_record
returns c = let given : Record = cell_record c.args.cells.now in
    let count-is : cell_count c.args.cells.now ≡ length (given).words = sym (length-words c.args.cells.now c.requires.cells_in_bounds) in
    let user-is : let l = c.args.cells.now in take (head_cells + cell_count l - head_cells) (drop head_cells l) ≡ (given).words = let l = c.args.cells.now in
    let e : head_cells + cell_count l - head_cells ≡ cell_count l = omega arith in
    ap (λ (k : ℕ). take k (drop head_cells l)) e in
    let room : anc_size c.args.layout (length (given).words) ≤ length c.args.octets.now = rw (← count-is) c.requires.cells_in_bounds_2 in
    let size_is : c.packet_size-size.result.0 ≡ anc_size c.args.layout (length (cell_record c.args.cells.now).words) = c.packet_size-size.ensures ∙ ap (anc_size c.args.layout) (count-is) in
    let a = c.args in
    let o = a.octets.now in
    let cleared = c.clear_end in
    let head = c.write_head-sum in
    let words = c.write_user_words in record {
      result_value = refl;
      octets_after = written a.layout (cell_record a.cells.now) o c.clear_end.new.octets c.write_head-sum.new.octets c.write_user_words.new.octets
          (below_all o (λ j. (c.slice_known-1.given j).fits)) (below_all c.write_user_words.new.octets (λ j. (c.slice_known-4-1.given j).fits))
          c.packet_size-size.result.0 (size_is) (omega (arith, size_is, room)) c.clear_end.ensures c.write_head-sum.ensures.octets_after
          head.result _ c.write_head-sum.ensures.value (user-is) c.write_user_words.ensures;
    }
