-- `jibhotran_read` reads a packet in the tolerant way, or gives 255 or 254.
-- By what the library gives in each of its two ways, where the answer is long enough and the layout is one.
use Rattle.wire_spec.specs.Result.{Result}
use mathlib.Core.Path.{◌≡◌, ap, sym, ◌∙◌}
use mathlib.Core.List.{List}
use Prim.Native.Nat.{ℕ, ◌≤◌}
use borrow.Author.Tests.{le-leb, lt-leb}
use lib.ListN.{length}
use Rattle.wire_spec.specs.Layout.{Layout}
use Rattle.wire_spec.specs.Bits.{overwrite}
use Rattle.rtp_reader.specs.Entry.{tolerant_returns, tolerant_leaves}
use Rattle.rtp_reader.specs.declared.packet.TolerantRead.{TolerantRead}
use Rattle.capi_answer.specs.Rows.{answer_size, last_layout, layout_of}
use Rattle.capi_packet.specs.Calls.{read_cells, read_reply}
use Rattle.capi_packet.specs.Rows.{packet_reply}
use Rattle.capi_packet.proofs.packet.jibhotran_read.Goals as goal

pub returns-then-answer-lt-ANSWER_SIZE : goal.returns-then-answer-lt-ANSWER_SIZE
returns-then-answer-lt-ANSWER_SIZE c = let h = lt-leb answer_size (length c.args.answer.now) c.if-answer-lt-ANSWER_SIZE.true in record { value = rw h; cells_after = rw h; answer_after = rw h }

pub returns-then-layout-gt-LAST_LAYOUT : goal.returns-then-layout-gt-LAST_LAYOUT
returns-then-layout-gt-LAST_LAYOUT c = let h = le-leb answer_size (length c.args.answer.now) c.if-answer-lt-ANSWER_SIZE.false in
    let k = lt-leb c.args.layout last_layout c.if-layout-gt-LAST_LAYOUT.true in
    record { value = rw (h, k); cells_after = rw (h, k); answer_after = rw (h, k) }

-- the reply to what the library gives, in either way
module _ (l : ℕ) (s lent row : List ℕ) (h : answer_size ≤ length row) (k : l ≤ last_layout) (L : Layout) (told : L ≡ layout_of l) where
  replies : (t : Result TolerantRead) → t ≡ tolerant_returns L s lent
      → ((packet_reply t).number ≡ (read_reply l s lent row).number) × (overwrite (packet_reply t).row row ≡ overwrite (read_reply l s lent row).row row)
  replies t e =
      let w = e ∙ ap (λ (y : Layout). tolerant_returns y s lent) told in
      let fits = le-leb answer_size (length row) h in
      let is = le-leb l last_layout k in
      (rw (fits, is) (ap (λ x. (packet_reply x).number) w), rw (fits, is) (ap (λ x. overwrite (packet_reply x).row row) w))

  leaves : (after : List ℕ) → after ≡ tolerant_leaves L s lent → after ≡ read_cells l s lent row
  leaves after e =
      let w = e ∙ ap (λ (y : Layout). tolerant_leaves y s lent) told in
      rw (le-leb answer_size (length row) h, le-leb l last_layout k) w

pub read_outlined-read-requires : goal.read_outlined-read-requires
read_outlined-read-requires c = sym c.check.ensures ∙ c.in-Ok.is

pub read_refused-read-requires : goal.read_refused-read-requires
read_refused-read-requires c = sym c.check.ensures ∙ c.in-Err.is

pub returns-in-Ok : goal.returns-in-Ok
returns-in-Ok c = let a = c.args in
    let h = c.if-answer-lt-ANSWER_SIZE.false in
    let k = c.if-layout-gt-LAST_LAYOUT.false in
    let p = replies a.layout a.octets.now a.cells.now a.answer.now h k _ c.layout_of-told.ensures _ c.read_outlined-read.ensures.value in
    record { value = c.reply_read.ensures.value ∙ p.0; cells_after = leaves a.layout a.octets.now a.cells.now a.answer.now h k _ c.layout_of-told.ensures _ c.read_outlined-read.ensures.cells_after; answer_after = c.reply_read.ensures.answer_after ∙ p.1 }

pub returns-in-Err : goal.returns-in-Err
returns-in-Err c = let a = c.args in
    let h = c.if-answer-lt-ANSWER_SIZE.false in
    let k = c.if-layout-gt-LAST_LAYOUT.false in
    let p = replies a.layout a.octets.now a.cells.now a.answer.now h k _ c.layout_of-told.ensures _ c.read_refused-read.ensures.value in
    record { value = c.reply_read-in-Err.ensures.value ∙ p.0; cells_after = leaves a.layout a.octets.now a.cells.now a.answer.now h k _ c.layout_of-told.ensures _ c.read_refused-read.ensures.cells_after; answer_after = c.reply_read-in-Err.ensures.answer_after ∙ p.1 }
