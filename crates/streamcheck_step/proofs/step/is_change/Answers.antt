-- `is_change` tells a timestamp or an F that changed before a mark.
-- By whether there was a packet before.
use Rattle.std.proofs.Common.{◌≡◌, rules}
use Rattle.std.specs.Prelude.{Option}
use Rattle.rtp_strict_reader.specs.declared.packet.Head.{Head}
use Rattle.streamcheck_spec.specs.Code.{change_in}
use Rattle.streamcheck_spec.proofs.OptionLaws.{by-value}
use Rattle.streamcheck_step.proofs.step.is_change.Goals as goal

pub returns : goal.returns
returns c =
    let a = c.args in
    by-value (λ (h : Option Head). c.is_some_and.result ≡ change_in h a.timestamp.0 a.f) a.last c.is_some_and.ensures (λ h. h) (λ h e. search rules)
