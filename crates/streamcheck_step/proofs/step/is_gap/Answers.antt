-- `is_gap` tells a number that is not the next.
-- By whether there was a packet before.
use Rattle.std.proofs.Common.{◌≡◌, rules}
use Rattle.std.specs.Prelude.{Option}
use Rattle.rtp_strict_reader.specs.declared.packet.Head.{Head}
use Rattle.streamcheck_spec.specs.Code.{gap_in}
use Rattle.streamcheck_spec.proofs.OptionLaws.{by-value}
use Rattle.streamcheck_step.proofs.step.is_gap.Goals as goal

pub returns : goal.returns
returns c =
    let a = c.args in
    by-value (λ (h : Option Head). c.is_some_and.result ≡ gap_in h a.number.0) a.last c.is_some_and.ensures (λ h. h) (λ h e. search rules)
