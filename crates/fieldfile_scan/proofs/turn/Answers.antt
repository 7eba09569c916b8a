-- `turn` reads the head, a field's header, or on in a field.
-- By the state.
use mathlib.Core.Path.{ap, sym, subst, ◌∙◌}
use Rattle.fieldfile_scan.specs.declared.state.State.{State}
use Rattle.fieldfile_scan.specs.Scan.{Reachable, scan, store_then}
use Rattle.fieldfile_scan.proofs.turn.Goals as goal

pub scan_part-requires : goal.scan_part-requires
scan_part-requires c = subst Reachable c.in-Within.is c.requires

pub returns-in-Start : goal.returns-in-Start
returns-in-Start c = let a = c.args in
    let e = sym c.in-Start.is in
    record { value = c.scan_head.ensures ∙ ap (λ (x : State). scan x a.window.now) e; store_after = ap (λ (x : State). store_then x a.window.now a.store.now) e }

pub returns-in-Between : goal.returns-in-Between
returns-in-Between c = let a = c.args in
    let e = sym c.in-Between.is in
    record { value = c.scan_header.ensures ∙ ap (λ (x : State). scan x a.window.now) e; store_after = ap (λ (x : State). store_then x a.window.now a.store.now) e }

pub returns-in-Within : goal.returns-in-Within
returns-in-Within c = let a = c.args in
    let e = sym c.in-Within.is in
    record { value = c.scan_part.ensures.value ∙ ap (λ (x : State). scan x a.window.now) e; store_after = c.scan_part.ensures.store_after ∙ ap (λ (x : State). store_then x a.window.now a.store.now) e }
