-- `is_type` tells the payload type of the first accepted packet.
-- By whether there was a packet before.
use Rattle.std.proofs.Common.{◌≡◌, rules}
use Rattle.std.specs.Prelude.{Option}
use Rattle.rtp_strict_reader.specs.declared.packet.Head.{Head}
use Rattle.streamcheck_spec.specs.Code.{type_in}
use Rattle.streamcheck_spec.proofs.OptionLaws.{by-value}
use Rattle.streamcheck_step.proofs.step.is_type.Goals as goal

pub returns : goal.returns
returns c =
    let a = c.args in
    by-value (λ (h : Option Head). c.is_none_or.result ≡ type_in h a.payload_type) a.last c.is_none_or.ensures (λ h. h) (λ h e. search rules)
