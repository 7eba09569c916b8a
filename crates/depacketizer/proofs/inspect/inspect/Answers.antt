-- `inspect` gives what the octets say, with its outline and its summary, or the refusal.
-- By what was checked.
use Rattle.wire_spec.specs.Result.{Ok}
use Rattle.std.proofs.Common.{sym, ap, ◌∙◌}
use Rattle.wire_spec.specs.Packet.{read_content}
use Rattle.rtp_strict_reader.proofs.ReadLaws.{Found, found, refused-is, summary-is}
use Rattle.depacketizer.specs.Answers.{inspected_of}
use Rattle.std.proofs.lemmas.Result.{err_from_is_err_and}
use Rattle.depacketizer.proofs.inspect.inspect.Goals as goal

pub returns-in_err-outline : goal.returns-in_err-outline
returns-in_err-outline c = let a = c.args in
    let p = err_from_is_err_and c.from_residual.result c.from_residual.ensures.1 in
    rw (p.1, p.2)
    (ap (inspected_of a.layout a.octets.now) (sym (refused-is a.layout a.octets.now (read_content a.layout a.octets.now) _ (sym c.check.ensures ∙ c.in_err-outline.was))))

pub summary_at-summary-requires : goal.summary_at-summary-requires
summary_at-summary-requires c = sym c.check.ensures ∙ c.in_ok-outline.was

pub returns : goal.returns
returns c = let accepts : let a = c.args in Found a.layout a.octets.now (read_content a.layout a.octets.now) c.in_ok-outline.outline = found _ _ _ _ (sym c.check.ensures ∙ c.in_ok-outline.was) in
    let a = c.args in
    let f = accepts in
    let m = summary-is _ _ _ f.reads c.summary_at-summary.ensures in
    sym (ap (inspected_of a.layout a.octets.now) f.reads ∙ λ i. Ok (record { outline = f.outline i; summary = m i }))
