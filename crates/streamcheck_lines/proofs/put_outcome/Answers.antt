-- `put_outcome` puts the lines of a packet.
-- By whether it is refused.
use Rattle.wire_spec.specs.Result.{Result}
use Rattle.streamcheck_spec.specs.declared.checker.Findings.{Findings}
use mathlib.Core.Path.{ap, sym, ◌∙◌}
use Rattle.text.proofs.PutLaws.{same}
use Rattle.streamcheck_spec.specs.Check.{entries}
use Rattle.streamcheck_spec.specs.Code.{findings_in}
use Rattle.streamcheck_spec.specs.Text.{report_text}
use Rattle.streamcheck_lines.proofs.LineLaws.{findings-text, refused-text}
use Rattle.streamcheck_lines.proofs.put_outcome.Goals as goal

pub returns-in-Err : goal.returns-in-Err
returns-in-Err c = let i = c.args.index in
    same (refused-text i _ ∙ sym (ap (λ (x : Result Findings). report_text (entries i (findings_in x))) c.in-Err.is)) c.put_refused.ensures

pub returns-in-Ok : goal.returns-in-Ok
returns-in-Ok c = let i = c.args.index in
    same (findings-text i _ ∙ sym (ap (λ (x : Result Findings). report_text (entries i (findings_in x))) c.in-Ok.is)) c.put_findings.ensures
