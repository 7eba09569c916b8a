-- `report_packet` steps past a packet, and puts its lines.
-- By what `check_packet` gives.
use mathlib.Core.Path.{ap}
use Rattle.text.proofs.PutLaws.{same}
use Rattle.streamcheck_spec.specs.declared.checker.Step.{Step}
use Rattle.streamcheck_spec.specs.Check.{entries}
use Rattle.streamcheck_spec.specs.Code.{findings_in}
use Rattle.streamcheck_spec.specs.Text.{report_text}
use Rattle.streamcheck_session.specs.Answers.{packet_text}
use Rattle.streamcheck_session.proofs.session.report_packet.Goals as goal

pub returns : goal.returns
unfolding packet_text
returns c = record { checker_value = ap (λ (s : Step). s.checker) c.check_packet-step.ensures.value; cells_after = c.check_packet-step.ensures.cells_after; put = same (ap (λ (s : Step). report_text (entries c.args.session.index (findings_in s.outcome))) c.check_packet-step.ensures.value) c.put_outcome-length.ensures }
