-- `take` goes by the checks in their order; where all pass, the head of the channel whose turn it is stands in the memory.
use mathlib.Core.Path.{◌≡◌}
use mathlib.Core.Bool.{true}
use native.Mathlib.Omega.{arith}
use lib.ListN.{length}
use Rattle.egress_spec.specs.Step.{admits}
use Rattle.egress_state.specs.Survey.{Heads}
use Rattle.egress.proofs.OfferLaws.{seen, unseen, admits-size}
use Rattle.egress.proofs.TakeLaws.{turn-heads, starts, unsound-64, nothing-63, room-23, handed-whole}
use Rattle.egress.proofs.take.Goals as goal

pub returns-then-not-seen : goal.returns-then-not-seen
returns-then-not-seen c = let a = c.args in let both = unsound-64 a.state a.memory.now a.out.now _ (unseen _ _ _ c.survey-seen.ensures c.if-not-seen.true) c.refuse_take.ensures in record { value = both.0; out_after = both.1 }

pub turn-c-requires : goal.turn-c-requires
turn-c-requires c = let admitted : admits c.args.state (length c.args.memory.now) ≡ true = seen _ _ _ c.survey-seen.ensures c.if-not-seen.false in
    let a = c.args in
    starts a.state (length a.memory.now) (admitted)

pub returns-then-c-ge-CHANNELS : goal.returns-then-c-ge-CHANNELS
returns-then-c-ge-CHANNELS c = let admitted : admits c.args.state (length c.args.memory.now) ≡ true = seen _ _ _ c.survey-seen.ensures c.if-not-seen.false in
    let a = c.args in let both = nothing-63 a.state a.memory.now a.out.now _ c.turn-c.result (admitted) c.turn-c.ensures (omega arith) c.refuse_take-then-c-ge-CHANNELS.ensures in record { value = both.0; out_after = both.1 }

pub head-stored-requires : goal.head-stored-requires
head-stored-requires c = let admitted : admits c.args.state (length c.args.memory.now) ≡ true = seen _ _ _ c.survey-seen.ensures c.if-not-seen.false in
    let heads : Heads c.args.state c.turn-c.result = let a = c.args in
    turn-heads a.state (length a.memory.now) c.turn-c.result (admitted) c.turn-c.ensures (omega arith) in
    heads

pub left-next-requires : goal.left-next-requires
left-next-requires c = let admitted : admits c.args.state (length c.args.memory.now) ≡ true = seen _ _ _ c.survey-seen.ensures c.if-not-seen.false in
    let heads : Heads c.args.state c.turn-c.result = let a = c.args in
    turn-heads a.state (length a.memory.now) c.turn-c.result (admitted) c.turn-c.ensures (omega arith) in
    heads

pub returns-then-out-length : goal.returns-then-out-length
returns-then-out-length c = let admitted : admits c.args.state (length c.args.memory.now) ≡ true = seen _ _ _ c.survey-seen.ensures c.if-not-seen.false in
    let a = c.args in let both = room-23 a.state a.memory.now a.out.now _ c.turn-c.result (admitted) c.turn-c.ensures (omega arith) (rw c.head-stored.ensures at c.if-out-length.true) c.refuse_take-then-out-length.ensures in record { value = both.0; out_after = both.1 }

-- where it ends
pub overflow_add-end : goal.overflow_add-end
overflow_add-end c = let admitted : admits c.args.state (length c.args.memory.now) ≡ true = seen _ _ _ c.survey-seen.ensures c.if-not-seen.false in
    let heads : Heads c.args.state c.turn-c.result = let a = c.args in
    turn-heads a.state (length a.memory.now) c.turn-c.result (admitted) c.turn-c.ensures (omega arith) in
    let h = heads in rw c.head-stored.ensures (record { fits = omega (arith, h.slot, h.most) })

pub slice_bounds-copy-end : goal.slice_bounds-copy-end
slice_bounds-copy-end c = let admitted : admits c.args.state (length c.args.memory.now) ≡ true = seen _ _ _ c.survey-seen.ensures c.if-not-seen.false in
    let heads : Heads c.args.state c.turn-c.result = let a = c.args in
    turn-heads a.state (length a.memory.now) c.turn-c.result (admitted) c.turn-c.ensures (omega arith) in
    let a = c.args in
    let h = heads in
    let s = admits-size a.state (length a.memory.now) (admitted) in
    rw c.head-stored.ensures (omega (arith, h.slot, h.most, s))

pub returns : goal.returns
returns c = let admitted : admits c.args.state (length c.args.memory.now) ≡ true = seen _ _ _ c.survey-seen.ensures c.if-not-seen.false in
    let a = c.args in let both = handed-whole a.state a.memory.now a.out.now _ c.turn-c.result c.head-stored.result _ (admitted) c.turn-c.ensures (omega arith)
    c.head-stored.ensures (omega arith) c.left-next.ensures c.copy.ensures in record { value = both.0; out_after = both.1 }
