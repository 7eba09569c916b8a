-- `read_own` writes the record of a packet that comes through, and nothing of one that is left out.
-- By the strict verdict: it refuses exactly where the checksum fails.
use mathlib.Core.Path.{◌≡◌, refl, ap, sym, subst, ◌∙◌}
use mathlib.Core.List.{List, append-nil}
use Prim.Native.Nat.{ℕ, ◌+◌, ◌≤◌}
use native.Mathlib.Omega.{arith}
use lib.ListN.{length}
use Rattle.wire_spec.specs.Bits.{overwrite}
use Rattle.wire_spec.specs.Result.{IsAccepted}
use Rattle.wire_spec.specs.Anc.{anc_record, anc_size, read_run}
use Rattle.wire_spec.specs.Cells.{head_cells, cells_of}
use Rattle.anc_reader.specs.Answers.{run_cells}
use Rattle.anc_reader.proofs.PacketLaws.{length-words}
use Rattle.anc_tolerant_reader.specs.Answers.{own_cells}
use Rattle.anc_tolerant_reader.proofs.PacketLaws.{Own, sized, front-passes, verdict-accepted, verdict-reads, not_own, one-run}
use Rattle.anc_tolerant_reader.proofs.read.read_own.Goals as goal

pub data_count-words-requires : goal.data_count-words-requires
data_count-words-requires c = (sized _ _ (front-passes _ _ c.requires.passed)).least

pub returns-in_default : goal.returns-in_default
returns-in_default c = let a = c.args in
    let f = not_own a.layout 0 a.octets.now c.requires.passed _ (sym c.check_packet-verdict.ensures ∙ c.in_default.is) in
    rw f (record { octets_value = (c.packet_size.ensures ∙ ap (anc_size a.layout) c.data_count-words.ensures, refl); cells_after = refl })

pub read_run-requires : goal.read_run-requires
read_run-requires c = let own : let a = c.args in Own a.layout 0 a.octets.now c.in-Ok.words = let a = c.args in verdict-accepted a.layout 0 a.octets.now _ (sym c.check_packet-verdict.ensures ∙ c.in-Ok.is) in
    let run_is : let a = c.args in run_cells (read_run a.layout 0 1 a.octets.now) ≡ own_cells a.layout a.octets.now = let a = c.args in
    let e = verdict-reads a.layout 0 a.octets.now _ (sym c.check_packet-verdict.ensures ∙ c.in-Ok.is) in
    rw (own).sums (ap run_cells (one-run a.layout a.octets.now _ e) ∙ append-nil (cells_of (anc_record a.layout a.octets.now))) in
    let a = c.args in
    let e = verdict-reads a.layout 0 a.octets.now _ (sym c.check_packet-verdict.ensures ∙ c.in-Ok.is) in record { accepted = subst IsAccepted (sym (one-run a.layout a.octets.now _ e)) tt; octets_in_bounds = subst (λ (l : List ℕ). length l ≤ length a.cells.now) (sym (run_is)) c.requires.octets_in_bounds }

pub returns : goal.returns
returns c = let own : let a = c.args in Own a.layout 0 a.octets.now c.in-Ok.words = let a = c.args in verdict-accepted a.layout 0 a.octets.now _ (sym c.check_packet-verdict.ensures ∙ c.in-Ok.is) in
    let run_is : let a = c.args in run_cells (read_run a.layout 0 1 a.octets.now) ≡ own_cells a.layout a.octets.now = let a = c.args in
    let e = verdict-reads a.layout 0 a.octets.now _ (sym c.check_packet-verdict.ensures ∙ c.in-Ok.is) in
    rw (own).sums (ap run_cells (one-run a.layout a.octets.now _ e) ∙ append-nil (cells_of (anc_record a.layout a.octets.now))) in
    let size_is : let a = c.args in length (own_cells a.layout a.octets.now) ≡ head_cells + c.in-Ok.words.0 = let a = c.args in
    let e : own_cells a.layout a.octets.now ≡ cells_of (anc_record a.layout a.octets.now) = rw (own).sums in
    ap length e ∙ omega (arith, length-words a.layout a.octets.now, (own).count) in
    let a = c.args in
    record { octets_value = (c.packet_size-2.ensures ∙ ap (anc_size a.layout) (sym (own).count), sym (size_is)); cells_after = c.read_run.ensures ∙ ap (λ (x : List ℕ). overwrite x a.cells.now) (run_is) }
