-- `write_few` stores at most four words from a bit on, and changes no other bit.
-- By the words stored one after the other.
use Rattle.std.proofs.Common.{◌≡◌, ℕ, ◌<◌, ◌≤◌, List, length, get_or, take, arith}
use Rattle.wire_spec.specs.Bits.{bits, field_bits, row, splice}
use Rattle.wire_spec.specs.Words.{word_bits}
use Rattle.wire_spec.proofs.BitLaws.{below_at, length-bits}
use Rattle.wire_row_writer.proofs.Fields.{none-stored, first-stored, next-stored, all-stored}
use Rattle.wire_row_writer.proofs.row.write_few.Goals as goal

pub returns-then-words-eq0 : goal.returns-then-words-eq0
returns-then-words-eq0 c = let a = c.args in
    all-stored (bits a.octets.now) a.bit 0 a.words.now (omega arith) (none-stored (bits a.octets.now) a.bit a.words.now)

pub store-requires : goal.store-requires
store-requires c = let word : (n : ℕ) → n < length c.args.words.now → get_or c.args.words.now n 0 < 1024 = λ n h. below_at 1024 c.args.words.now n c.requires.1 h in
    (omega arith, word 0 (omega arith))

pub returns-then-words-eq1 : goal.returns-then-words-eq1
returns-then-words-eq1 c = let Stored : ℕ → List ℕ → Type 0 = λ n octets. bits octets ≡ splice (bits c.args.octets.now) c.args.bit (field_bits (row word_bits (take n c.args.words.now))) in
    let one : Stored 1 c.store.new.octets = let a = c.args in
    first-stored (bits a.octets.now) a.bit a.words.now (omega arith) c.store.ensures in
    let a = c.args in
    all-stored (bits a.octets.now) a.bit 1 a.words.now (omega arith) (one)

pub store-requires-2 : goal.store-requires-2
store-requires-2 c = let word : (n : ℕ) → n < length c.args.words.now → get_or c.args.words.now n 0 < 1024 = λ n h. below_at 1024 c.args.words.now n c.requires.1 h in
    (omega arith, word 1 (omega arith))

pub returns-then-words-eq2 : goal.returns-then-words-eq2
returns-then-words-eq2 c = let inside : c.args.bit ≤ length (bits c.args.octets.now) = omega (arith, length-bits c.args.octets.now) in
    let Stored : ℕ → List ℕ → Type 0 = λ n octets. bits octets ≡ splice (bits c.args.octets.now) c.args.bit (field_bits (row word_bits (take n c.args.words.now))) in
    let one : Stored 1 c.store.new.octets = let a = c.args in
    first-stored (bits a.octets.now) a.bit a.words.now (omega arith) c.store.ensures in
    let two : Stored 2 c.store-2.new.octets = let a = c.args in
    next-stored (bits a.octets.now) a.bit 1 a.words.now (inside) (omega arith) (one) c.store-2.ensures in
    let a = c.args in
    all-stored (bits a.octets.now) a.bit 2 a.words.now (omega arith) (two)

pub store-requires-3 : goal.store-requires-3
store-requires-3 c = let word : (n : ℕ) → n < length c.args.words.now → get_or c.args.words.now n 0 < 1024 = λ n h. below_at 1024 c.args.words.now n c.requires.1 h in
    (omega arith, word 2 (omega arith))

pub returns-then-words-eq3 : goal.returns-then-words-eq3
returns-then-words-eq3 c = let inside : c.args.bit ≤ length (bits c.args.octets.now) = omega (arith, length-bits c.args.octets.now) in
    let Stored : ℕ → List ℕ → Type 0 = λ n octets. bits octets ≡ splice (bits c.args.octets.now) c.args.bit (field_bits (row word_bits (take n c.args.words.now))) in
    let one : Stored 1 c.store.new.octets = let a = c.args in
    first-stored (bits a.octets.now) a.bit a.words.now (omega arith) c.store.ensures in
    let two : Stored 2 c.store-2.new.octets = let a = c.args in
    next-stored (bits a.octets.now) a.bit 1 a.words.now (inside) (omega arith) (one) c.store-2.ensures in
    let three : Stored 3 c.store-3.new.octets = let a = c.args in
    next-stored (bits a.octets.now) a.bit 2 a.words.now (inside) (omega arith) (two) c.store-3.ensures in
    let a = c.args in
    all-stored (bits a.octets.now) a.bit 3 a.words.now (omega arith) (three)

pub store-requires-4 : goal.store-requires-4
store-requires-4 c = let word : (n : ℕ) → n < length c.args.words.now → get_or c.args.words.now n 0 < 1024 = λ n h. below_at 1024 c.args.words.now n c.requires.1 h in
    (omega arith, word 3 (omega arith))

pub returns : goal.returns
returns c = let inside : c.args.bit ≤ length (bits c.args.octets.now) = omega (arith, length-bits c.args.octets.now) in
    let Stored : ℕ → List ℕ → Type 0 = λ n octets. bits octets ≡ splice (bits c.args.octets.now) c.args.bit (field_bits (row word_bits (take n c.args.words.now))) in
    let one : Stored 1 c.store.new.octets = let a = c.args in
    first-stored (bits a.octets.now) a.bit a.words.now (omega arith) c.store.ensures in
    let two : Stored 2 c.store-2.new.octets = let a = c.args in
    next-stored (bits a.octets.now) a.bit 1 a.words.now (inside) (omega arith) (one) c.store-2.ensures in
    let three : Stored 3 c.store-3.new.octets = let a = c.args in
    next-stored (bits a.octets.now) a.bit 2 a.words.now (inside) (omega arith) (two) c.store-3.ensures in
    let four : Stored 4 c.store-4.new.octets = let a = c.args in
    next-stored (bits a.octets.now) a.bit 3 a.words.now (inside) (omega arith) (three) c.store-4.ensures in
    let a = c.args in
    all-stored (bits a.octets.now) a.bit 4 a.words.now (omega arith) (four)
