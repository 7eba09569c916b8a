-- `write_header_words` stores DID, SDID and Data_Count as header words, and tells their sum.
-- By the table's entries, which are the header words of the numbers.
use mathlib.Core.Path.{◌≡◌, ap, sym, ◌∙◌, subst}
use mathlib.Core.List.{List, [], ◌∷◌}
use Prim.Native.Nat.{ℕ, ◌^◌, ◌%◌, ◌<◌}
use native.Mathlib.Omega.{arith}
use lib.ListN.{get_or}
use Rattle.wire_spec.specs.Bits.{Below, bits, row, field_bits, splice}
use Rattle.wire_spec.specs.Words.{word_bits, header_numbers, header_word, sum_low}
use Rattle.wire_spec.specs.Cells.{cell_count, cell_record}
use Rattle.wire_spec.proofs.WordLaws.{header-lt}
use Rattle.anc_record.proofs.FrontLaws.{length-words}
use Rattle.anc_writer.specs.Packet.{head_words}
use Rattle.anc_writer.proofs.head.write_header_words.Goals as goal

pub overflow_cast-did : goal.overflow_cast-did
unfolding cell_record
overflow_cast-did c = let small : let l = c.args.cells.now in (get_or l 5 0 < header_numbers) × (get_or l 6 0 < header_numbers) × (cell_count l < header_numbers) = let f = c.requires.well_formed.fits in
    (f.did, f.sdid, omega (arith, length-words c.args.cells.now c.requires.cells_in_bounds.0, f.count)) in
    omega (arith, small)

pub overflow_cast-sdid : goal.overflow_cast-sdid
unfolding cell_record
overflow_cast-sdid c = let small : let l = c.args.cells.now in (get_or l 5 0 < header_numbers) × (get_or l 6 0 < header_numbers) × (cell_count l < header_numbers) = let f = c.requires.well_formed.fits in
    (f.did, f.sdid, omega (arith, length-words c.args.cells.now c.requires.cells_in_bounds.0, f.count)) in
    omega (arith, small)

pub overflow_cast-n : goal.overflow_cast-n
unfolding cell_record
overflow_cast-n c = let small : let l = c.args.cells.now in (get_or l 5 0 < header_numbers) × (get_or l 6 0 < header_numbers) × (cell_count l < header_numbers) = let f = c.requires.well_formed.fits in
    (f.did, f.sdid, omega (arith, length-words c.args.cells.now c.requires.cells_in_bounds.0, f.count)) in
    omega (arith, small)

pub write_few-requires : goal.write_few-requires
unfolding cell_record
write_few-requires c = let head-is : let l = c.args.cells.now in c.of.result ∷ c.of-2.result ∷ c.of-3.result ∷ [] ≡ head_words (cell_record l) = let l = c.args.cells.now in
    (λ i. c.of.ensures i ∷ c.of-2.ensures i ∷ (c.of-3.ensures ∙ ap header_word (sym (length-words l c.requires.cells_in_bounds.0))) i ∷ []) in
    let f = c.requires.well_formed.fits in
    (omega arith, subst (Below (2 ^ word_bits)) (sym (head-is)) (header-lt _ f.did, (header-lt _ f.sdid, (header-lt _ f.count, tt))), omega arith)

pub returns : goal.returns
unfolding cell_record
returns c = let head-is : let l = c.args.cells.now in c.of.result ∷ c.of-2.result ∷ c.of-3.result ∷ [] ≡ head_words (cell_record l) = let l = c.args.cells.now in
    (λ i. c.of.ensures i ∷ c.of-2.ensures i ∷ (c.of-3.ensures ∙ ap header_word (sym (length-words l c.requires.cells_in_bounds.0))) i ∷ []) in
    let o = c.args.octets.now in record { value = c.sum_cells.ensures ∙ ap (λ (ws : List ℕ). sum_low ws % 512) (head-is); octets_after = c.write_few.ensures ∙ ap (λ (ws : List ℕ). splice (bits o) c.args.at (field_bits (row word_bits ws))) (head-is) }
