-- `hex_behind` reads the hex digits behind a word.
-- By the test of the word, which the text is then as long as.
use mathlib.Core.Path.{ap, sym, ◌∙◌}
use mathlib.Core.List.{List}
use Prim.Native.Nat.{ℕ}
use lib.ListN.{length}
use Rattle.wire_spec.proofs.ListLaws.{part-all}
use Rattle.sdp_item.specs.Answers.{digits_of}
use Rattle.sdp_spec.specs.Text.{number, hex_base, hex_most}
use Rattle.sdp_spec.specs.Reading.{digits, hex_behind}
use Rattle.sdp_spec.proofs.ItemLaws.{started, starts-length}
use Rattle.sdp_item.proofs.hex_behind.Goals as goal

pub returns-then-not-starts_with : goal.returns-then-not-starts_with
unfolding hex_behind number
returns-then-not-starts_with c = let h = sym (started c.args.word.now c.args.text.now) ∙ sym c.starts_with.ensures.value ∙ c.if-not-starts_with.true in rw h

pub slice_bounds-hex-count : goal.slice_bounds-hex-count
slice_bounds-hex-count c = starts-length _ _ (sym (started c.args.word.now c.args.text.now) ∙ sym c.starts_with.ensures.value ∙ c.if-not-starts_with.false)

pub slice_bounds-hex-start : goal.slice_bounds-hex-start
slice_bounds-hex-start c = starts-length _ _ (sym (started c.args.word.now c.args.text.now) ∙ sym c.starts_with.ensures.value ∙ c.if-not-starts_with.false)

pub returns : goal.returns
unfolding hex_behind
returns c = let h = sym (started c.args.word.now c.args.text.now) ∙ sym c.starts_with.ensures.value ∙ c.if-not-starts_with.false in
    rw h (c.hex.ensures ∙ ap (λ (t : List ℕ). digits_of hex_base (digits hex_base hex_most t)) (part-all (length c.args.word.now) c.args.text.now))
