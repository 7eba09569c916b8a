use Rattle.std.proofs.Common.{arith}
use Rattle.capi_egress_state.specs.Row.{max16}
use Rattle.capi_egress_state.proofs.FitLaws.{fit_at}
use Rattle.capi_egress_state.proofs.numbers.take_lengths.Goals as goal

pub overflow_cast-out : goal.overflow_cast-out
overflow_cast-out c = omega (arith, fit_at max16 c.args.numbers.now c.loop-k.k c.requires.0 (omega arith))
