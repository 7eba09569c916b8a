-- `read_item` reads one item.
-- By its name: the first octets of the text decide.
use mathlib.Core.Path.{◌≡◌, ap, sym, ◌∙◌}
use mathlib.Core.Bool.{true, false}
use Rattle.wire_spec.proofs.ListLaws.{part-all}
use Rattle.sdp_spec.specs.Text.{did_sdid_word, vpid_code_word}
use Rattle.sdp_spec.specs.Reading.{starts_with, did_sdid_of, vpid_code_of, item_of}
use Rattle.sdp_spec.proofs.ItemLaws.{started, starts-length}
use Rattle.sdp_item.proofs.read_item.Goals as goal

pub slice_bounds-did_sdid-count : goal.slice_bounds-did_sdid-count
slice_bounds-did_sdid-count c = starts-length did_sdid_word _ (sym (started did_sdid_word c.args.text.now) ∙ sym c.starts_with.ensures.value ∙ c.if-starts_with.true)

pub slice_bounds-did_sdid-start : goal.slice_bounds-did_sdid-start
slice_bounds-did_sdid-start c = starts-length did_sdid_word _ (sym (started did_sdid_word c.args.text.now) ∙ sym c.starts_with.ensures.value ∙ c.if-starts_with.true)

pub returns-then-starts_with : goal.returns-then-starts_with
unfolding item_of
returns-then-starts_with c = let h : starts_with did_sdid_word c.args.text.now ≡ true = sym (started did_sdid_word c.args.text.now) ∙ sym c.starts_with.ensures.value ∙ c.if-starts_with.true in
    rw h (c.did_sdid.ensures ∙ ap did_sdid_of (part-all 9 c.args.text.now))

pub slice_bounds-vpid_code-count : goal.slice_bounds-vpid_code-count
slice_bounds-vpid_code-count c = starts-length vpid_code_word _ (sym (started vpid_code_word c.args.text.now) ∙ sym c.starts_with-2.ensures.value ∙ c.if-starts_with-2.true)

pub slice_bounds-vpid_code-start : goal.slice_bounds-vpid_code-start
slice_bounds-vpid_code-start c = starts-length vpid_code_word _ (sym (started vpid_code_word c.args.text.now) ∙ sym c.starts_with-2.ensures.value ∙ c.if-starts_with-2.true)

pub returns-then-starts_with-2 : goal.returns-then-starts_with-2
unfolding item_of
returns-then-starts_with-2 c = let h : starts_with did_sdid_word c.args.text.now ≡ false = sym (started did_sdid_word c.args.text.now) ∙ sym c.starts_with.ensures.value ∙ c.if-starts_with.false in
    let k : starts_with vpid_code_word c.args.text.now ≡ true = sym (started vpid_code_word c.args.text.now) ∙ sym c.starts_with-2.ensures.value ∙ c.if-starts_with-2.true in
    rw (h, k) (c.vpid_code.ensures ∙ ap vpid_code_of (part-all 10 c.args.text.now))

pub returns : goal.returns
unfolding item_of
returns c = let h : starts_with did_sdid_word c.args.text.now ≡ false = sym (started did_sdid_word c.args.text.now) ∙ sym c.starts_with.ensures.value ∙ c.if-starts_with.false in
    let k : starts_with vpid_code_word c.args.text.now ≡ false = sym (started vpid_code_word c.args.text.now) ∙ sym c.starts_with-2.ensures.value ∙ c.if-starts_with-2.false in
    rw (h, k) c.other.ensures
