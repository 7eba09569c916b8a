-- `read_header` writes what stands before a packet's words to the cells before a record's words, and tells Data_Count.
-- By the place of each field in the octets; the record's cells before its words are its header's.
use mathlib.Core.Path.{◌≡◌, ap, sym, subst, ◌∙◌}
use mathlib.Core.List.{List, [], ◌∷◌}
use Prim.Native.Nat.{ℕ, ◌+◌, ◌*◌, ◌/◌, ◌%◌, ◌<◌, ◌≤◌}
use native.Mathlib.Omega.{arith}
use lib.ListN.{length, take, get_or, length-set}
use lib.Seq.{sets-eq}
use Rattle.wire_spec.specs.Anc.{anc_record, data_count, did_at}
use Rattle.wire_spec.specs.Bits.{bits_at, overwrite}
use Rattle.wire_spec.specs.Cells.{head_cells, cells_in}
use Rattle.wire_spec.specs.Words.{word_bits, header_numbers}
use Rattle.wire_words.specs.Word.{WordsFit}
use Rattle.wire_spec.proofs.BitLaws.{bits_at-lt}
use Rattle.wire_spec.proofs.LayoutLaws.{places}
use Rattle.wire_spec.proofs.HeadLaws.{c-at, line_at, offset_at}
use Rattle.anc_record.proofs.HeaderLaws.{header-cells}
use Rattle.anc_reader.proofs.PacketLaws.{length-words, header-there, s_read, stream-read, s-small}
use Rattle.anc_reader.proofs.header.read_header.Goals as goal

pub bounds-octets-0 : goal.bounds-octets-0
bounds-octets-0 c = let four : 4 ≤ length c.args.octets.now = omega (arith, c.requires.0, (places c.args.layout).least) in
    omega (arith, four)

pub overflow_cast-o0 : goal.overflow_cast-o0
overflow_cast-o0 c = omega (arith, c.shared_slice_known-2-1.given 0)

pub bounds-octets-1 : goal.bounds-octets-1
bounds-octets-1 c = let four : 4 ≤ length c.args.octets.now = omega (arith, c.requires.0, (places c.args.layout).least) in
    omega (arith, four)

pub overflow_cast-o1 : goal.overflow_cast-o1
overflow_cast-o1 c = omega (arith, c.shared_slice_known-3-1.given 1)

pub bounds-octets-2 : goal.bounds-octets-2
bounds-octets-2 c = let four : 4 ≤ length c.args.octets.now = omega (arith, c.requires.0, (places c.args.layout).least) in
    omega (arith, four)

pub overflow_cast-o2 : goal.overflow_cast-o2
overflow_cast-o2 c = omega (arith, c.shared_slice_known-4-1.given 2)

pub bounds-octets-3 : goal.bounds-octets-3
bounds-octets-3 c = let four : 4 ≤ length c.args.octets.now = omega (arith, c.requires.0, (places c.args.layout).least) in
    omega (arith, four)

pub overflow_add-did : goal.overflow_add-did
overflow_add-did c = let fit : WordsFit c.args.octets.now c.did_at-did.result 3 = subst (λ (k : ℕ). WordsFit c.args.octets.now k 3) (sym c.did_at-did.ensures) (header-there c.args.layout c.args.octets.now c.requires.0) in
    omega (arith, (fit).near)

pub fetch-n-requires : goal.fetch-n-requires
fetch-n-requires c = let fit : WordsFit c.args.octets.now c.did_at-did.result 3 = subst (λ (k : ℕ). WordsFit c.args.octets.now k 3) (sym c.did_at-did.ensures) (header-there c.args.layout c.args.octets.now c.requires.0) in
    let f = fit in record { even = omega (arith, f.even); inside = omega (arith, f.inside); near = omega (arith, f.near) }

pub overflow_add-cells : goal.overflow_add-cells
overflow_add-cells c = omega (arith, c.shared_slice_known-5-1.given 1)

pub bounds-cells-1 : goal.bounds-cells-1
bounds-cells-1 c = simp length-set (omega arith)

pub overflow_add-cells-2 : goal.overflow_add-cells-2
overflow_add-cells-2 c = omega (arith, c.shared_slice_known-5-1.given 2)

pub bounds-cells-2 : goal.bounds-cells-2
bounds-cells-2 c = simp length-set (omega arith)

pub bounds-cells-3 : goal.bounds-cells-3
bounds-cells-3 c = simp length-set (omega arith)

pub bounds-cells-4 : goal.bounds-cells-4
bounds-cells-4 c = simp length-set (omega arith)

pub fetch-requires : goal.fetch-requires
fetch-requires c = let fit : WordsFit c.args.octets.now c.did_at-did.result 3 = subst (λ (k : ℕ). WordsFit c.args.octets.now k 3) (sym c.did_at-did.ensures) (header-there c.args.layout c.args.octets.now c.requires.0) in
    let f = fit in record { even = f.even; inside = omega (arith, f.inside); near = omega (arith, f.near) }

pub bounds-cells-5 : goal.bounds-cells-5
bounds-cells-5 c = simp length-set (omega arith)

pub overflow_add-did-2 : goal.overflow_add-did-2
overflow_add-did-2 c = let fit : WordsFit c.args.octets.now c.did_at-did.result 3 = subst (λ (k : ℕ). WordsFit c.args.octets.now k 3) (sym c.did_at-did.ensures) (header-there c.args.layout c.args.octets.now c.requires.0) in
    omega (arith, (fit).near)

pub fetch-requires-2 : goal.fetch-requires-2
fetch-requires-2 c = let fit : WordsFit c.args.octets.now c.did_at-did.result 3 = subst (λ (k : ℕ). WordsFit c.args.octets.now k 3) (sym c.did_at-did.ensures) (header-there c.args.layout c.args.octets.now c.requires.0) in
    let f = fit in record { even = omega (arith, f.even); inside = omega (arith, f.inside); near = omega (arith, f.near) }

pub bounds-cells-6 : goal.bounds-cells-6
bounds-cells-6 c = simp length-set (omega arith)

pub bounds-cells-7 : goal.bounds-cells-7
bounds-cells-7 c = simp length-set (omega arith)

pub bounds-cells-8 : goal.bounds-cells-8
bounds-cells-8 c = simp length-set (omega arith)

pub shape_of-cells : goal.shape_of-cells
shape_of-cells c = simp length-set

pub returns : goal.returns
unfolding anc_record
returns c = let four : 4 ≤ length c.args.octets.now = omega (arith, c.requires.0, (places c.args.layout).least) in
    let L = c.args.layout in
    let s = c.args.octets.now in
    let index = c.args.index in
    let old = c.args.cells.now in
    let o : (j : ℕ) → get_or s j 0 < 256 = λ j. (c.shared_slice_known-5-1.given j).fits in
    let l = four in
    let r = anc_record L s in
    let e3 : c.did_at-did.result + 2 * word_bits ≡ did_at L + word_bits + word_bits = omega (arith, c.did_at-did.ensures) in
    let e2 : c.did_at-did.result + word_bits ≡ did_at L + word_bits = omega (arith, c.did_at-did.ensures) in
    let count : c.fetch-n.result % header_numbers ≡ data_count L s = ap (λ (x : ℕ). x % header_numbers) (c.fetch-n.ensures ∙ ap (λ (k : ℕ). bits_at s k word_bits) e3) in
    let did : c.fetch.result ≡ bits_at s (did_at L) word_bits = c.fetch.ensures ∙ ap (λ (k : ℕ). bits_at s k word_bits) c.did_at-did.ensures in
    let sdid : c.fetch-2.result ≡ bits_at s (did_at L + word_bits) word_bits = c.fetch-2.ensures ∙ ap (λ (k : ℕ). bits_at s k word_bits) e2 in
    let x = c.stream_octet-o3.result in
    let sn : x / 128 ≡ r.s = ap (λ (y : ℕ). y / 128) c.stream_octet-o3.ensures ∙ sym (s_read L s o l) in
    let tn : x % 128 ≡ r.stream = ap (λ (y : ℕ). y % 128) c.stream_octet-o3.ensures ∙ sym (stream-read L s o l) in
    let stored : List ℕ =
    (get_or s 0 0 / 128) ∷ (get_or s 0 0 % 128 * 16 + get_or s 1 0 / 16) ∷ (get_or s 1 0 % 16 * 256 + get_or s 2 0) ∷ (x / 128) ∷ (x % 128)
    ∷ (c.fetch.result % header_numbers) ∷ (c.fetch-2.result % header_numbers) ∷ (c.fetch-n.result % header_numbers) ∷ index ∷ [] in
    let head : stored ≡ take head_cells (cells_in index r) = λ i.
    sym (c-at s o l) i ∷ sym (line_at s o l) i ∷ sym (offset_at s o l) i ∷ sn i ∷ tn i
    ∷ (did i % header_numbers) ∷ (sdid i % header_numbers) ∷ (count ∙ sym (length-words L s)) i ∷ index ∷ [] in record {
      result_value = count;
      cells_after = sets-eq stored old 0 (omega (arith, c.requires))
          ∙ ap (λ (x : List ℕ). overwrite x old) (head ∙ sym (header-cells r (bits_at-lt s 0 1) (s-small L s) index));
    }
