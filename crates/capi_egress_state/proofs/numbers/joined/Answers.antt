use Rattle.std.proofs.Common.{◌≡◌, ◌∙◌, sym, length, arith}
use Rattle.capi_egress_state.proofs.FitLaws.{join-next, join-end}
use Rattle.capi_egress_state.proofs.numbers.joined.Goals as goal

pub loop-n-preserved : goal.loop-n-preserved
loop-n-preserved c = let l = c.loop-n in
    λ bits. join-next bits l.all c.args.numbers.now l.n-index (omega arith) ∙ l.invariant bits

pub returns : goal.returns
returns c = let row = c.args.numbers.now in
    let l = c.loop-n in
    let e : l.n-index ≡ length row = omega arith in
    λ bits. sym (join-end bits l.all row) ∙ (rw e at (l.invariant bits))
