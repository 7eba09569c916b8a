-- `store_four` stores four words from an octet on, and changes no other bit.
-- By the five octets that have the words' bits.
use Rattle.std.proofs.Common.{ℕ, ◌+◌, ◌*◌, ◌<◌, List, length, get_or, ap, ◌∙◌, arith}
use Rattle.wire_spec.specs.Bits.{bits, field_bits, row, splice}
use Rattle.wire_spec.specs.Words.{word_bits}
use Rattle.wire_spec.proofs.BitLaws.{below_at}
use Rattle.wire_spec.proofs.ListLaws.{part-written}
use Rattle.wire_spec.proofs.Store.{bits-splice}
use Rattle.wire_row_writer.proofs.Fields.{four-taken}
use Rattle.wire_row_writer.proofs.row.store_four.Goals as goal

pub five_octets-five-requires : goal.five_octets-five-requires
five_octets-five-requires c = let word : (n : ℕ) → n < length c.args.words.now → get_or c.args.words.now n 0 < 1024 = λ n h. below_at 1024 c.args.words.now n c.requires.0 h in
    let j = c.args.j in
    let w = word in
    ((w j (omega arith), (w (j + 1) (omega arith), (w (j + 2) (omega arith), (w (j + 3) (omega arith), (w (j + 4) (omega arith), tt))))), c.requires.3, c.zero-z.ensures)

pub returns : goal.returns
returns c = let a = c.args in
    let s = a.octets.now in
    let five = c.five_octets-five.result in
    ap bits (part-written a.at s five _ c.copy.ensures)
    ∙ bits-splice s a.at five
    ∙ ap (splice (bits s) (8 * a.at)) (c.five_octets-five.ensures ∙ ap (λ (x : List ℕ). field_bits (row word_bits x)) (four-taken a.words.now a.j c.requires.1))
