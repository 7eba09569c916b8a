-- `write` writes a packet into the lent octets, or gives the refusal and leaves them.
-- By what was measured: the headers, and the run behind them.
use mathlib.Core.Path.{◌≡◌, ap, sym, subst, ◌∙◌}
use mathlib.Core.List.{List}
use Prim.Native.Nat.{ℕ, ◌+◌, ◌≤◌}
use native.Mathlib.Omega.{arith}
use lib.ListN.{length, length-take, length-drop}
use Rattle.wire_spec.specs.Result.{Result, IsAccepted, Ok}
use Rattle.wire_spec.proofs.AncLaws.{length_run}
use Rattle.wire_spec.specs.Writing.{packet_records}
use Rattle.wire_spec.specs.Written.{written_of, octets_after}
use Rattle.anc_writer.specs.Answers.{listed_of, list_octets}
use Rattle.rtp_writer.specs.Answers.{content_of}
use Rattle.rtp_writer.proofs.WriteLaws.{Fitting, fitting, written-whole, written-length, refused-write}
use Rattle.std.proofs.lemmas.Result.{err_from_is_err_and}
use Rattle.rtp_writer.proofs.write.Goals as goal

pub returns-in_err-listed : goal.returns-in_err-listed
returns-in_err-listed c = let a = c.args in
    let e = refused-write a.layout a.head a.cells.now (length a.out.now) _ (sym c.measure.ensures ∙ c.in_err-listed.was) in
    let p = err_from_is_err_and c.from_residual.result c.from_residual.ensures.1 in
    record { value = rw (p.1, p.2) (ap written_of (sym e)); out_after = ap (λ (r : Result (List ℕ)). octets_after r a.out.now) (sym e) }

pub overflow_cast-listed : goal.overflow_cast-listed
overflow_cast-listed c = let measured : listed_of c.args.layout (packet_records c.args.layout (content_of c.args.head) c.args.cells.now (length c.args.out.now)) ≡ Ok c.in_ok-listed.listed = sym c.measure.ensures ∙ c.in_ok-listed.was in
    let found : Fitting c.args.layout c.args.head c.args.cells.now (length c.args.out.now) _ _ (measured) = fitting _ _ _ _ _ _ (measured) in
    omega (arith, (found).few)

pub write_front-requires : goal.write_front-requires
write_front-requires c = let measured : listed_of c.args.layout (packet_records c.args.layout (content_of c.args.head) c.args.cells.now (length c.args.out.now)) ≡ Ok c.in_ok-listed.listed = sym c.measure.ensures ∙ c.in_ok-listed.was in
    let found : Fitting c.args.layout c.args.head c.args.cells.now (length c.args.out.now) _ _ (measured) = fitting _ _ _ _ _ _ (measured) in
    let t = found in (t.type, t.f, omega (arith, t.short), omega (arith, t.enough))

pub slice_bounds-write_run-count : goal.slice_bounds-write_run-count
slice_bounds-write_run-count c = let measured : listed_of c.args.layout (packet_records c.args.layout (content_of c.args.head) c.args.cells.now (length c.args.out.now)) ≡ Ok c.in_ok-listed.listed = sym c.measure.ensures ∙ c.in_ok-listed.was in
    let found : Fitting c.args.layout c.args.head c.args.cells.now (length c.args.out.now) _ _ (measured) = fitting _ _ _ _ _ _ (measured) in
    let behind : c.front_size-front.result + c.in_ok-listed.listed.octets.0 ≤ length c.write_front.new.octets = omega (arith, c.write_front.auto.octets, (found).enough, c.front_size-front.ensures) in
    omega (arith, behind)

pub slice_bounds-write_run-start : goal.slice_bounds-write_run-start
slice_bounds-write_run-start c = let measured : listed_of c.args.layout (packet_records c.args.layout (content_of c.args.head) c.args.cells.now (length c.args.out.now)) ≡ Ok c.in_ok-listed.listed = sym c.measure.ensures ∙ c.in_ok-listed.was in
    let found : Fitting c.args.layout c.args.head c.args.cells.now (length c.args.out.now) _ _ (measured) = fitting _ _ _ _ _ _ (measured) in
    let behind : c.front_size-front.result + c.in_ok-listed.listed.octets.0 ≤ length c.write_front.new.octets = omega (arith, c.write_front.auto.octets, (found).enough, c.front_size-front.ensures) in
    omega (arith, behind)

pub write_run-requires : goal.write_run-requires
write_run-requires c = let measured : listed_of c.args.layout (packet_records c.args.layout (content_of c.args.head) c.args.cells.now (length c.args.out.now)) ≡ Ok c.in_ok-listed.listed = sym c.measure.ensures ∙ c.in_ok-listed.was in
    let found : Fitting c.args.layout c.args.head c.args.cells.now (length c.args.out.now) _ _ (measured) = fitting _ _ _ _ _ _ (measured) in
    let behind : c.front_size-front.result + c.in_ok-listed.listed.octets.0 ≤ length c.write_front.new.octets = omega (arith, c.write_front.auto.octets, (found).enough, c.front_size-front.ensures) in
    let L = c.args.layout in
    let t = found in
    let e = ap (λ r. length (list_octets L r)) t.reads ∙ length_run L t.rs ∙ t.size in
    (subst IsAccepted (sym t.reads) tt, simp (length-take, length-drop) (omega (arith, e, behind)))

pub overflow_add-result : goal.overflow_add-result
overflow_add-result c = let measured : listed_of c.args.layout (packet_records c.args.layout (content_of c.args.head) c.args.cells.now (length c.args.out.now)) ≡ Ok c.in_ok-listed.listed = sym c.measure.ensures ∙ c.in_ok-listed.was in
    let found : Fitting c.args.layout c.args.head c.args.cells.now (length c.args.out.now) _ _ (measured) = fitting _ _ _ _ _ _ (measured) in
    omega (arith, (found).short, c.front_size-front.ensures)

pub returns : goal.returns
returns c = let measured : listed_of c.args.layout (packet_records c.args.layout (content_of c.args.head) c.args.cells.now (length c.args.out.now)) ≡ Ok c.in_ok-listed.listed = sym c.measure.ensures ∙ c.in_ok-listed.was in
    let a = c.args in
    let e = measured in
    let f = c.front_size-front in record {
      value = written-length a.layout a.head a.cells.now (length a.out.now) _ _ e f.result c.front_size-front.ensures;
      out_after = written-whole a.layout a.head a.cells.now (length a.out.now) _ _ e f.result c.front_size-front.ensures a.out.now c.write_front.new.octets
          c.write_run.new.octets c.write_front.ensures c.write_run.ensures;
    }
