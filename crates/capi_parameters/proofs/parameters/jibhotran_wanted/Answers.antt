-- `jibhotran_wanted` gives 1 where a record is wanted, and 0 where not.
-- By the contracts of `wanted` and `flag`.
use mathlib.Core.Path.{ap, ◌∙◌}
use Rattle.wire_spec.specs.Bits.{bit}
use Rattle.capi_parameters.proofs.parameters.jibhotran_wanted.Goals as goal

pub returns : goal.returns
returns c = c.flag.ensures ∙ ap bit c.wanted.ensures
