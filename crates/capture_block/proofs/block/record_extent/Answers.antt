-- `record_extent` is the record at the front.
-- By the tests of its length.
use borrow.Author.Tests.{le-ltb, lt-ltb}
use Rattle.capture_block.proofs.block.record_extent.Goals as goal

pub returns-then-octets-lt-RECORD_HEAD : goal.returns-then-octets-lt-RECORD_HEAD
returns-then-octets-lt-RECORD_HEAD c = rw (lt-ltb _ 16 c.if-octets-lt-RECORD_HEAD.true)

pub returns-then-n-gt-MAX_ITEM : goal.returns-then-n-gt-MAX_ITEM
returns-then-n-gt-MAX_ITEM c = rw (le-ltb _ 16 c.if-octets-lt-RECORD_HEAD.false, ← c.word_at-n.ensures.0, lt-ltb _ _ c.if-n-gt-MAX_ITEM.true)

pub returns-then-octets-n : goal.returns-then-octets-n
returns-then-octets-n c = rw (le-ltb _ 16 c.if-octets-lt-RECORD_HEAD.false, ← c.word_at-n.ensures.0, le-ltb _ _ c.if-n-gt-MAX_ITEM.false, lt-ltb _ _ c.if-octets-n.true)

pub returns : goal.returns
returns c = rw (le-ltb _ 16 c.if-octets-lt-RECORD_HEAD.false, ← c.word_at-n.ensures.0, le-ltb _ _ c.if-n-gt-MAX_ITEM.false, le-ltb _ _ c.if-octets-n.false)
