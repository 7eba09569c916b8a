-- `offer` goes by the checks in their order; where all pass, the slot that the survey left free takes the packet.
use mathlib.Core.Path.{◌≡◌, sym, ◌∙◌}
use mathlib.Core.Bool.{true}
use native.Mathlib.Omega.{arith}
use lib.ListN.{length, length-take, length-drop}
use Rattle.egress_spec.specs.Step.{admits}
use Rattle.egress.proofs.OfferLaws.{seen, unseen, unsound-64, channel-60, size-61, full-62, Passed, passed, copied-whole}
use Rattle.egress.proofs.offer.Goals as goal

pub returns-then-not-seen : goal.returns-then-not-seen
returns-then-not-seen c = let a = c.args in let both = unsound-64 a.state a.channel a.packet.now a.memory.now _ (unseen _ _ _ c.survey-seen.ensures c.if-not-seen.true) c.refuse_offer.ensures in record { value = both.0; memory_after = both.1 }

pub returns-then-c-ge-CHANNELS : goal.returns-then-c-ge-CHANNELS
returns-then-c-ge-CHANNELS c = let admitted : admits c.args.state (length c.args.memory.now) ≡ true = seen _ _ _ c.survey-seen.ensures c.if-not-seen.false in
    let a = c.args in let both = channel-60 a.state a.channel a.packet.now a.memory.now _ (admitted) (omega arith) c.refuse_offer-then-c-ge-CHANNELS.ensures in record { value = both.0; memory_after = both.1 }

pub returns-then-not-offer_fits : goal.returns-then-not-offer_fits
returns-then-not-offer_fits c = let admitted : admits c.args.state (length c.args.memory.now) ≡ true = seen _ _ _ c.survey-seen.ensures c.if-not-seen.false in
    let a = c.args in let both = size-61 a.state a.channel a.packet.now a.memory.now _ (admitted) (omega arith) (sym c.offer_fits.ensures ∙ c.if-not-offer_fits.true) c.refuse_offer-then-not-offer_fits.ensures in record { value = both.0; memory_after = both.1 }

pub returns-then-state-c-ge-HELD : goal.returns-then-state-c-ge-HELD
returns-then-state-c-ge-HELD c = let admitted : admits c.args.state (length c.args.memory.now) ≡ true = seen _ _ _ c.survey-seen.ensures c.if-not-seen.false in
    let a = c.args in let both = full-62 a.state a.channel a.packet.now a.memory.now _ (admitted) (omega arith) (sym c.offer_fits.ensures ∙ c.if-not-offer_fits.false) (omega arith) c.refuse_offer-then-state-c-ge-HELD.ensures in record { value = both.0; memory_after = both.1 }

pub overflow_mul-from : goal.overflow_mul-from
overflow_mul-from c = let found : Passed c.args.state c.args.channel (length c.args.packet.now) (length c.args.memory.now) c.free_slot-slot.result = passed _ _ _ _ _ _ c.survey-seen.ensures c.if-not-seen.false (omega arith) (sym c.offer_fits.ensures ∙ c.if-not-offer_fits.false) (omega arith) c.free_slot-slot.ensures in
    let s = found in record { fits = omega (arith, s.low) }

pub slice_bounds-copy-count : goal.slice_bounds-copy-count
slice_bounds-copy-count c = let found : Passed c.args.state c.args.channel (length c.args.packet.now) (length c.args.memory.now) c.free_slot-slot.result = passed _ _ _ _ _ _ c.survey-seen.ensures c.if-not-seen.false (omega arith) (sym c.offer_fits.ensures ∙ c.if-not-offer_fits.false) (omega arith) c.free_slot-slot.ensures in
    let s = found in omega (arith, s.low, s.memory)

pub slice_bounds-copy-start : goal.slice_bounds-copy-start
slice_bounds-copy-start c = let found : Passed c.args.state c.args.channel (length c.args.packet.now) (length c.args.memory.now) c.free_slot-slot.result = passed _ _ _ _ _ _ c.survey-seen.ensures c.if-not-seen.false (omega arith) (sym c.offer_fits.ensures ∙ c.if-not-offer_fits.false) (omega arith) c.free_slot-slot.ensures in
    let s = found in omega (arith, s.low, s.memory)

pub copy-requires : goal.copy-requires
copy-requires c = let found : Passed c.args.state c.args.channel (length c.args.packet.now) (length c.args.memory.now) c.free_slot-slot.result = passed _ _ _ _ _ _ c.survey-seen.ensures c.if-not-seen.false (omega arith) (sym c.offer_fits.ensures ∙ c.if-not-offer_fits.false) (omega arith) c.free_slot-slot.ensures in
    let s = found in simp (length-take, length-drop) (omega (arith, s.low, s.most, s.memory))

pub overflow_cast-slot : goal.overflow_cast-slot
overflow_cast-slot c = let found : Passed c.args.state c.args.channel (length c.args.packet.now) (length c.args.memory.now) c.free_slot-slot.result = passed _ _ _ _ _ _ c.survey-seen.ensures c.if-not-seen.false (omega arith) (sym c.offer_fits.ensures ∙ c.if-not-offer_fits.false) (omega arith) c.free_slot-slot.ensures in
    let s = found in record { fits = omega (arith, s.low) }

pub overflow_cast-length : goal.overflow_cast-length
overflow_cast-length c = let found : Passed c.args.state c.args.channel (length c.args.packet.now) (length c.args.memory.now) c.free_slot-slot.result = passed _ _ _ _ _ _ c.survey-seen.ensures c.if-not-seen.false (omega arith) (sym c.offer_fits.ensures ∙ c.if-not-offer_fits.false) (omega arith) c.free_slot-slot.ensures in
    let s = found in record { fits = omega (arith, s.most) }

pub kept-requires : goal.kept-requires
kept-requires c = let found : Passed c.args.state c.args.channel (length c.args.packet.now) (length c.args.memory.now) c.free_slot-slot.result = passed _ _ _ _ _ _ c.survey-seen.ensures c.if-not-seen.false (omega arith) (sym c.offer_fits.ensures ∙ c.if-not-offer_fits.false) (omega arith) c.free_slot-slot.ensures in
    let s = found in (s.channel, s.head, s.count)

pub returns : goal.returns
returns c = let found : Passed c.args.state c.args.channel (length c.args.packet.now) (length c.args.memory.now) c.free_slot-slot.result = passed _ _ _ _ _ _ c.survey-seen.ensures c.if-not-seen.false (omega arith) (sym c.offer_fits.ensures ∙ c.if-not-offer_fits.false) (omega arith) c.free_slot-slot.ensures in
    let a = c.args in let both = copied-whole a.state a.channel c.free_slot-slot.result a.packet.now a.memory.now _ _ (found) c.kept.ensures c.copy.ensures in record { value = both.0; memory_after = both.1 }
