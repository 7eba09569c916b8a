-- `read_packet` writes the record of the packet at the front to the first cells, and no other cell.
-- Its head, and its words behind that.
use Rattle.std.proofs.Common.{◌≡◌, ◌∙◌, ap, refl, sym, List, ℕ, ◌+◌, ◌-◌, take, drop, arith}
use borrow.Rule.Slice.PartMut.{put_mid}
use Rattle.wire_spec.specs.Bits.{overwrite}
use Rattle.wire_spec.specs.Cells.{head_cells}
use Rattle.sdi_spec.specs.Packets.{user_words}
use Rattle.sdi_spec.specs.Passes.{head_of}
use Rattle.sdi_spec.proofs.CodeLaws.{two-parts, head-cells, length-user}
use Rattle.sdi_packets.proofs.reading.read_packet.Goals as goal

pub returns-clause-cells_after : goal.returns-clause-cells_after
returns-clause-cells_after c = let t = c.args.words.now in
    let old = c.args.cells.now in
    let n = c.data_count-n.result in
    let head = c.put_head.new.cells in
    let words : c.copy.new.to ≡ user_words t =
    c.copy.ensures ∙ ap (λ (m : ℕ). take m (drop 3 t)) (let k : 3 + n - 3 ≡ n = omega arith in k ∙ c.data_count-n.ensures) in
    let long : 9 + n - 9 ≡ n = omega arith in
    (λ i. put_mid 9 (long i) head (words i))
    ∙ two-parts old head (head_of c.args.position t) (user_words t) head_cells n refl (length-user t c.requires.0 ∙ sym c.data_count-n.ensures) c.put_head.ensures
    ∙ ap (λ (x : List ℕ). overwrite x old) (head-cells c.args.position t c.requires.0)
