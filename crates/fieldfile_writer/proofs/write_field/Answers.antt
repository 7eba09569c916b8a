-- `write_field` writes a field into the lent octets, or gives the refusal and leaves them.
-- By what was measured: the header, and the run behind it.
use mathlib.Core.Path.{refl, ◌≡◌, ap, sym, subst, ◌∙◌}
use Prim.Native.Nat.{ℕ, ◌+◌, ◌≤◌}
use native.Mathlib.Omega.{arith}
use lib.ListN.{length, length-take, length-drop}
use Rattle.wire_spec.specs.Layout.{rfc8331}
use Rattle.wire_spec.specs.Result.{IsAccepted, Ok}
use Rattle.wire_spec.proofs.AncLaws.{length_run}
use Rattle.anc_writer.specs.Answers.{list_octets}
use Rattle.fieldfile_spec.specs.File.{written_version, field_header_size, field_records}
use Rattle.anc_writer.proofs.ListedLaws.{Taken, taken, listed-refused}
use Rattle.fieldfile_spec.proofs.WritesLaws.{small, Writes, writes}
use Rattle.fieldfile_writer.proofs.WriteLaws.{written-whole, written-length}
use Rattle.std.proofs.lemmas.Result.{err_from_is_err_and}
use Rattle.fieldfile_writer.proofs.write_field.Goals as goal

pub returns-in_err-listed : goal.returns-in_err-listed
returns-in_err-listed c = let a = c.args in
    let e = listed-refused rfc8331 (field_records a.f a.cells.now (length a.out.now)) _ (sym c.measure.ensures ∙ c.in_err-listed.was) in
    let p = err_from_is_err_and c.from_residual.result c.from_residual.ensures.1 in
    record { value = rw (p.1, p.2, e) refl; out_after = rw e }

pub overflow_cast-listed : goal.overflow_cast-listed
overflow_cast-listed c = let found : let a = c.args in Taken rfc8331 (field_records a.f a.cells.now (length a.out.now)) c.in_ok-listed.listed.count c.in_ok-listed.listed.octets = let a = c.args in
    taken rfc8331 (field_records a.f a.cells.now (length a.out.now)) _ _ (sym c.measure.ensures ∙ c.in_ok-listed.was) in
    let fits : let a = c.args in Writes a.f a.cells.now (length a.out.now) (found).rs = let a = c.args in writes a.f a.cells.now (length a.out.now) (found).rs (found).reads in
    omega (arith, (fits).few, (found).count)

pub write_header-requires : goal.write_header-requires
write_header-requires c = let found : let a = c.args in Taken rfc8331 (field_records a.f a.cells.now (length a.out.now)) c.in_ok-listed.listed.count c.in_ok-listed.listed.octets = let a = c.args in
    taken rfc8331 (field_records a.f a.cells.now (length a.out.now)) _ _ (sym c.measure.ensures ∙ c.in_ok-listed.was) in
    let fits : let a = c.args in Writes a.f a.cells.now (length a.out.now) (found).rs = let a = c.args in writes a.f a.cells.now (length a.out.now) (found).rs (found).reads in
    let enough : field_header_size written_version + c.in_ok-listed.listed.octets.0 ≤ length c.args.out.now = omega (arith, (fits).enough, (found).size) in
    omega (arith, enough)

pub slice_bounds-write_run-count : goal.slice_bounds-write_run-count
slice_bounds-write_run-count c = let found : let a = c.args in Taken rfc8331 (field_records a.f a.cells.now (length a.out.now)) c.in_ok-listed.listed.count c.in_ok-listed.listed.octets = let a = c.args in
    taken rfc8331 (field_records a.f a.cells.now (length a.out.now)) _ _ (sym c.measure.ensures ∙ c.in_ok-listed.was) in
    let fits : let a = c.args in Writes a.f a.cells.now (length a.out.now) (found).rs = let a = c.args in writes a.f a.cells.now (length a.out.now) (found).rs (found).reads in
    let enough : field_header_size written_version + c.in_ok-listed.listed.octets.0 ≤ length c.args.out.now = omega (arith, (fits).enough, (found).size) in
    let same : length c.write_header.new.octets ≡ length c.args.out.now = c.write_header.auto.octets in
    omega (arith, same, enough)

pub slice_bounds-write_run-start : goal.slice_bounds-write_run-start
slice_bounds-write_run-start c = let found : let a = c.args in Taken rfc8331 (field_records a.f a.cells.now (length a.out.now)) c.in_ok-listed.listed.count c.in_ok-listed.listed.octets = let a = c.args in
    taken rfc8331 (field_records a.f a.cells.now (length a.out.now)) _ _ (sym c.measure.ensures ∙ c.in_ok-listed.was) in
    let fits : let a = c.args in Writes a.f a.cells.now (length a.out.now) (found).rs = let a = c.args in writes a.f a.cells.now (length a.out.now) (found).rs (found).reads in
    let enough : field_header_size written_version + c.in_ok-listed.listed.octets.0 ≤ length c.args.out.now = omega (arith, (fits).enough, (found).size) in
    let same : length c.write_header.new.octets ≡ length c.args.out.now = c.write_header.auto.octets in
    omega (arith, same, enough)

pub write_run-requires : goal.write_run-requires
write_run-requires c = let found : let a = c.args in Taken rfc8331 (field_records a.f a.cells.now (length a.out.now)) c.in_ok-listed.listed.count c.in_ok-listed.listed.octets = let a = c.args in
    taken rfc8331 (field_records a.f a.cells.now (length a.out.now)) _ _ (sym c.measure.ensures ∙ c.in_ok-listed.was) in
    let fits : let a = c.args in Writes a.f a.cells.now (length a.out.now) (found).rs = let a = c.args in writes a.f a.cells.now (length a.out.now) (found).rs (found).reads in
    let enough : field_header_size written_version + c.in_ok-listed.listed.octets.0 ≤ length c.args.out.now = omega (arith, (fits).enough, (found).size) in
    let same : length c.write_header.new.octets ≡ length c.args.out.now = c.write_header.auto.octets in
    let w = fits in
    let t = found in
    let e = ap (λ r. length (list_octets rfc8331 r)) w.reads ∙ length_run rfc8331 t.rs ∙ t.size in
    (subst IsAccepted (sym w.reads) tt, simp (length-take, length-drop) (omega (arith, e, same, enough)))

pub overflow_add-result : goal.overflow_add-result
overflow_add-result c = let found : let a = c.args in Taken rfc8331 (field_records a.f a.cells.now (length a.out.now)) c.in_ok-listed.listed.count c.in_ok-listed.listed.octets = let a = c.args in
    taken rfc8331 (field_records a.f a.cells.now (length a.out.now)) _ _ (sym c.measure.ensures ∙ c.in_ok-listed.was) in
    let fits : let a = c.args in Writes a.f a.cells.now (length a.out.now) (found).rs = let a = c.args in writes a.f a.cells.now (length a.out.now) (found).rs (found).reads in
    let enough : field_header_size written_version + c.in_ok-listed.listed.octets.0 ≤ length c.args.out.now = omega (arith, (fits).enough, (found).size) in
    omega (arith, enough, small c.args.cells.now (found).rs (fits).reads (fits).short, (found).size)

pub returns : goal.returns
returns c = let found : let a = c.args in Taken rfc8331 (field_records a.f a.cells.now (length a.out.now)) c.in_ok-listed.listed.count c.in_ok-listed.listed.octets = let a = c.args in
    taken rfc8331 (field_records a.f a.cells.now (length a.out.now)) _ _ (sym c.measure.ensures ∙ c.in_ok-listed.was) in
    let a = c.args in
    let t = found in
    let size = written-length a.timestamp.0 a.f a.cells.now (length a.out.now) t.rs t.reads in
    let all = written-whole a.timestamp.0 a.f a.cells.now (length a.out.now) t.rs t.reads _ (sym t.count) in
    let h = c.write_header in
    let w = c.write_run in record { value = sym (size ∙ ap (λ (n : ℕ). Ok (record { 0 = field_header_size written_version + n })) t.size); out_after = all a.out.now c.write_header.new.octets c.write_run.new.octets c.write_header.ensures c.write_run.ensures }
