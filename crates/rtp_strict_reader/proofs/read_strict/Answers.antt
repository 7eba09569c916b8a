-- `read_strict` reads a packet into the lent cells, or gives the refusal and leaves them.
-- By what the check found, and 14 last.
use mathlib.Core.Path.{ap, sym, ◌∙◌}
use lib.ListN.{length}
use Rattle.wire_spec.specs.Result.{Result}
use Rattle.wire_spec.specs.Packet.{Content}
use Rattle.rtp_strict_reader.specs.Answers.{read_of, cells_after}
use Rattle.rtp_strict_reader.proofs.ReadLaws.{into-refused, into-short, into-fits}
use Rattle.std.proofs.lemmas.Result.{err_from_is_err_and}
use Rattle.rtp_strict_reader.proofs.read_strict.Goals as goal

pub returns-in_err-outline : goal.returns-in_err-outline
returns-in_err-outline c = let a = c.args in
    let e = into-refused a.layout a.octets.now (length a.cells.now) _ (sym c.check.ensures ∙ c.in_err-outline.was) in
    let p = err_from_is_err_and c.from_residual.result c.from_residual.ensures.1 in
    record { value = rw (p.1, p.2) (ap read_of (sym e)); cells_after = ap (λ (r : Result Content). cells_after r a.cells.now) (sym e) }

pub returns-then-cells-outline : goal.returns-then-cells-outline
returns-then-cells-outline c = let a = c.args in
    let e = into-short a.layout a.octets.now _ (sym c.check.ensures ∙ c.in_ok-outline.was) (length a.cells.now) c.if-cells-outline.true in
    record { value = c.refuse.ensures ∙ ap read_of (sym e); cells_after = ap (λ (r : Result Content). cells_after r a.cells.now) (sym e) }

pub read_records-requires : goal.read_records-requires
read_records-requires c = record { octets_value = sym c.check.ensures ∙ c.in_ok-outline.was; cells_in_bounds = c.if-cells-outline.false }

pub summary_at-requires : goal.summary_at-requires
summary_at-requires c = sym c.check.ensures ∙ c.in_ok-outline.was

pub returns : goal.returns
returns c = let a = c.args in
    let e = into-fits a.layout a.octets.now _ (sym c.check.ensures ∙ c.in_ok-outline.was) (length a.cells.now) c.if-cells-outline.false in
    record { value = sym (ap read_of e ∙ c.summary_at.ensures); cells_after = c.read_records.ensures ∙ ap (λ (r : Result Content). cells_after r a.cells.now) (sym e) }
