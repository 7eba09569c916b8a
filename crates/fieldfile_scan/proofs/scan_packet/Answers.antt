-- `scan_packet` gives 9 to 16, or what is read then, and keeps the packet's cells.
-- By what the check of the packet told.
use Rattle.wire_spec.specs.Result.{Ok}
use mathlib.Core.Path.{ap, sym, ◌∙◌}
use native.Mathlib.Omega.{arith}
use Rattle.wire_spec.specs.Layout.{rfc8331}
use Rattle.wire_spec.specs.Anc.{read_run}
use Rattle.fieldfile_scan.specs.declared.state.Part.{Part}
use Rattle.fieldfile_scan.specs.declared.state.State.TheVariants as state
use Rattle.fieldfile_scan.specs.declared.state.Scanned.TheVariants as scanned
use Rattle.fieldfile_scan.proofs.PacketLaws.{Told, told, few-cells, told-accepted, packet-on, packet-stops}
use Rattle.fieldfile_scan.proofs.scan_packet.Goals as goal

pub returns-in-Err : goal.returns-in-Err
returns-in-Err c = let a = c.args in
    let p = packet-stops a.part (read_run rfc8331 0 1 a.window.now) _ a.store.now (sym c.check_run.ensures ∙ c.in-Err.is) in
    record { value = c.refuse_at.ensures ∙ p.0; store_after = p.1 }

pub keep-requires : goal.keep-requires
keep-requires c = let accepted : Told c.args.window.now c.in-Ok.run'.octets c.in-Ok.run'.cells = told c.args.window.now _ _ (sym c.check_run.ensures ∙ c.in-Ok.is) in
    let s = c.args.window.now in
    let f = few-cells s _ _ (accepted) in
    record { records_bound = (omega (arith, c.requires.0.0), omega (arith, f, c.requires.0.0, c.requires.0.1)); accepted = told-accepted s _ _ (accepted) }

pub count-requires : goal.count-requires
count-requires c = let accepted : Told c.args.window.now c.in-Ok.run'.octets c.in-Ok.run'.cells = told c.args.window.now _ _ (sym c.check_run.ensures ∙ c.in-Ok.is) in
    let s = c.args.window.now in
    let f = few-cells s _ _ (accepted) in
    (c.requires.1, omega (arith, c.requires.0.0), omega (arith, f, c.requires.0.0, c.requires.0.1))

pub returns-in-Ok : goal.returns-in-Ok
returns-in-Ok c = let accepted : Told c.args.window.now c.in-Ok.run'.octets c.in-Ok.run'.cells = told c.args.window.now _ _ (sym c.check_run.ensures ∙ c.in-Ok.is) in
    let a = c.args in
    let o = c.in-Ok.run'.octets in
    record { value = ap (λ (p : Part). (Ok (scanned.On (state.Within p) o))) c.count.ensures ∙ packet-on a.window.now a.part o _ (accepted); store_after = c.keep.ensures }
