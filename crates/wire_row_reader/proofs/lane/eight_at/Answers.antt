-- `eight_at` is the eight words from an octet on.
-- By the word of each lane.
use mathlib.Core.Path.{◌≡◌, ap, ◌∙◌}
use mathlib.Core.List.{List, [], ◌∷◌}
use Prim.Native.Nat.{ℕ, ◌+◌, ◌*◌, ◌<◌}
use native.Mathlib.Omega.{arith}
use mir.Syntax.{w64}
use mir.Val.{Fits}
use lib.Dec.{lit<}
use lib.ListN.{length}
use Rattle.wire_spec.specs.Bits.{bits_at}
use Rattle.wire_row_reader.proofs.Rows.{row-run}
use Rattle.wire_row_reader.proofs.lane.eight_at.Goals as goal

-- a word at the same bit, told in other words
moved : (s : List ℕ) {w : ℕ} (p q : ℕ) → w ≡ bits_at s p 10 → p ≡ q → w ≡ bits_at s q 10
moved s p q h e = h ∙ ap (λ (k : ℕ). bits_at s k 10) e

pub returns : goal.returns
returns c = let a = c.args in
    let s = a.octets.now in
    let b = 8 * a.from in
    let w0 = moved s (b + 0) b c.lane.ensures (omega arith) in
    let w1 = moved s (8 * (a.from + 1) + 2) (b + 10) c.lane-2.ensures (omega arith) in
    let w2 = moved s (8 * (a.from + 2) + 4) (b + 20) c.lane-3.ensures (omega arith) in
    let w3 = moved s (8 * (a.from + 3) + 6) (b + 30) c.lane-4.ensures (omega arith) in
    let w4 = moved s (8 * (a.from + 5) + 0) (b + 40) c.lane-5.ensures (omega arith) in
    let w5 = moved s (8 * (a.from + 6) + 2) (b + 50) c.lane-6.ensures (omega arith) in
    let w6 = moved s (8 * (a.from + 7) + 4) (b + 60) c.lane-7.ensures (omega arith) in
    let w7 = moved s (8 * (a.from + 8) + 6) (b + 70) c.lane-8.ensures (omega arith) in
    (λ i. w0 i ∷ w1 i ∷ w2 i ∷ w3 i ∷ w4 i ∷ w5 i ∷ w6 i ∷ w7 i ∷ []) ∙ row-run 7 s b

pub overflow_add-from-7 : goal.overflow_add-from-7
overflow_add-from-7 c = let place : (o : ℕ) → o < 9 → Fits w64 (c.args.from + o) = λ o h. omega arith in
    place 8 (lit< tt)

pub lane-requires-8 : goal.lane-requires-8
lane-requires-8 c = let inside : (o : ℕ) → o < 9 → c.args.from + o + 1 < length c.args.octets.now = λ o h. omega arith in
    (inside 8 (lit< tt), c.step-one.ensures, c.requires.1, c.zero-z.ensures, lit< tt)
