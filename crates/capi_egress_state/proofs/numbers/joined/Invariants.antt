-- `joined` gives the bits of all the numbers.
-- Invariant: all fit a width exactly if what is joined does, and those that are left do.
use Rattle.std.proofs.Common.{◌≡◌, ◌&&◌, ℕ, ◌-◌, ◌^◌, drop, leb}
use Rattle.capi_egress_state.specs.Row.{all_fit}
use Rattle.capi_egress_state.proofs.numbers.joined.Given as goal

abbrev pub invariant-loop-n : goal.invariant-loop-n
invariant-loop-n l = (bits : ℕ)
    → leb l.all (2 ^ bits - 1) && all_fit (2 ^ bits - 1) (drop l.n-index l.numbers) ≡ all_fit (2 ^ bits - 1) l.numbers
