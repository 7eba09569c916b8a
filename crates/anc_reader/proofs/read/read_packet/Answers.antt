-- `read_packet` writes the record of the packet at the front to the first cells, and no other cell.
-- Its header, and its words behind that, in each layout where it has them.
use mathlib.Core.Path.{◌≡◌, refl, subst}
use mathlib.Core.List.{List}
use Prim.Native.Nat.{ℕ, ◌+◌, ◌≤◌}
use native.Mathlib.Omega.{arith}
use lib.ListN.{length, length-take, length-drop}
use Rattle.wire_spec.specs.Anc.{anc_size, data_count}
use Rattle.wire_spec.specs.Layout.{Layout, rfc8331, draft2015}
use Rattle.wire_spec.specs.Cells.{head_cells}
use Rattle.wire_spec.proofs.SizeLaws.{least_size_lem}
use Rattle.anc_reader.proofs.PacketLaws.{there}
use Rattle.anc_reader.proofs.RecordLaws.{packet-written}
use Rattle.anc_reader.proofs.read.read_packet.Goals as goal

-- what is asked for, in the layout that an arm is told
record Asked (L : Layout) (s cells : List ℕ) : Type 0 where
  fits : anc_size L (data_count L s) ≤ length s
  room : head_cells + data_count L s ≤ length cells

pub read_header-words-requires : goal.read_header-words-requires
read_header-words-requires c = let here : (L : Layout) → c.args.layout ≡ L → Asked L c.args.octets.now c.args.cells.now = λ L e. subst (λ (N : Layout). Asked N c.args.octets.now c.args.cells.now) e (record { fits = c.requires.octets_in_bounds; room = c.requires.octets_in_bounds_2 }) in
    let s = c.args.octets.now in
    omega (arith, here rfc8331 c.in-Rfc8331.is, least_size_lem rfc8331 (data_count rfc8331 s))

pub read_words-requires : goal.read_words-requires
read_words-requires c = let here : (L : Layout) → c.args.layout ≡ L → Asked L c.args.octets.now c.args.cells.now = λ L e. subst (λ (N : Layout). Asked N c.args.octets.now c.args.cells.now) e (record { fits = c.requires.octets_in_bounds; room = c.requires.octets_in_bounds_2 }) in
    let a = c.args in
    let h = here rfc8331 c.in-Rfc8331.is in
    let w = (there rfc8331 a.octets.now _ _ (omega arith) refl h.fits).words in
    let n = c.read_header-words.ensures.result_value in
    let k = c.read_header-words.auto.cells in
    (omega (arith, w), simp (length-take, length-drop) (omega (arith, h.room)))

pub returns-in-Rfc8331 : goal.returns-in-Rfc8331
returns-in-Rfc8331 c = let a = c.args in let both = packet-written a.layout rfc8331 a.octets.now a.index a.cells.now c.read_header-words.new.cells c.read_words.new.cells c.read_header-words.result.0 c.in-Rfc8331.is
    c.read_header-words.ensures.result_value c.read_header-words.ensures.cells_after c.read_words.ensures in record { result_value = both.0; cells_after = both.1 }

pub read_header-words-requires-in-Draft2015 : goal.read_header-words-requires-in-Draft2015
read_header-words-requires-in-Draft2015 c = let here : (L : Layout) → c.args.layout ≡ L → Asked L c.args.octets.now c.args.cells.now = λ L e. subst (λ (N : Layout). Asked N c.args.octets.now c.args.cells.now) e (record { fits = c.requires.octets_in_bounds; room = c.requires.octets_in_bounds_2 }) in
    let s = c.args.octets.now in
    omega (arith, here draft2015 c.in-Draft2015.is, least_size_lem draft2015 (data_count draft2015 s))

pub read_singly-requires : goal.read_singly-requires
read_singly-requires c = let here : (L : Layout) → c.args.layout ≡ L → Asked L c.args.octets.now c.args.cells.now = λ L e. subst (λ (N : Layout). Asked N c.args.octets.now c.args.cells.now) e (record { fits = c.requires.octets_in_bounds; room = c.requires.octets_in_bounds_2 }) in
    let a = c.args in
    let h = here draft2015 c.in-Draft2015.is in
    let w = (there draft2015 a.octets.now _ _ (omega arith) refl h.fits).words in
    let n = c.read_header-words-in-Draft2015.ensures.result_value in
    let k = c.read_header-words-in-Draft2015.auto.cells in
    (omega (arith, w), simp (length-take, length-drop) (omega (arith, h.room)))

pub returns-in-Draft2015 : goal.returns-in-Draft2015
returns-in-Draft2015 c = let a = c.args in let both = packet-written a.layout draft2015 a.octets.now a.index a.cells.now c.read_header-words-in-Draft2015.new.cells c.read_singly.new.cells c.read_header-words-in-Draft2015.result.0 c.in-Draft2015.is
    c.read_header-words-in-Draft2015.ensures.result_value c.read_header-words-in-Draft2015.ensures.cells_after c.read_singly.ensures in record { result_value = both.0; cells_after = both.1 }
