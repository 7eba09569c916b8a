-- `block_extent` is the block at the front.
-- By the tests of its length, before and behind.
use mathlib.Core.Path.{sym, ◌∙◌}
use native.Mathlib.Omega.{arith}
use borrow.Author.Tests.{eq-eqb, ne_eqb, le-ltb, lt-ltb, leb-true}
use lib.Dec.{eqb, leb}
use Prim.Native.Nat.{◌%◌}
use Rattle.capture_spec.proofs.StepLaws.{and_left}
use Rattle.capture_block.proofs.block.block_extent.Goals as goal

pub returns-then-not-is_length : goal.returns-then-not-is_length
returns-then-not-is_length c = rw (← c.word_at-n.ensures.0, sym c.is_length.ensures ∙ c.if-not-is_length.true)

pub returns-then-n-gt-MAX_ITEM : goal.returns-then-n-gt-MAX_ITEM
returns-then-n-gt-MAX_ITEM c = rw (← c.word_at-n.ensures.0, sym c.is_length.ensures ∙ c.if-not-is_length.false, lt-ltb _ _ c.if-n-gt-MAX_ITEM.true)

pub returns-then-octets-n : goal.returns-then-octets-n
returns-then-octets-n c = rw (← c.word_at-n.ensures.0, sym c.is_length.ensures ∙ c.if-not-is_length.false, le-ltb _ _ c.if-n-gt-MAX_ITEM.false, lt-ltb _ _ c.if-octets-n.true)

pub overflow_sub-n : goal.overflow_sub-n
overflow_sub-n c = let n = c.word_at-n.result in
    let l = c.args.least in
    omega (arith, leb-true l n (and_left (leb l n) (eqb (n % 4) 0) (sym c.is_length.ensures ∙ c.if-not-is_length.false)), c.requires.0)

pub returns-then-word_at-n : goal.returns-then-word_at-n
returns-then-word_at-n c = rw (← c.word_at-n.ensures.0, sym c.is_length.ensures ∙ c.if-not-is_length.false, le-ltb _ _ c.if-n-gt-MAX_ITEM.false, le-ltb _ _ c.if-octets-n.false, ← c.word_at.ensures.0, ne_eqb _ _ c.if-word_at-n.true)

pub returns : goal.returns
returns c = rw (← c.word_at-n.ensures.0, sym c.is_length.ensures ∙ c.if-not-is_length.false, le-ltb _ _ c.if-n-gt-MAX_ITEM.false, le-ltb _ _ c.if-octets-n.false, ← c.word_at.ensures.0, eq-eqb _ _ c.if-word_at-n.false)
