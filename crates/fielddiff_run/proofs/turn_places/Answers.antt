-- By which file is being read.
use Rattle.std.proofs.Common.{sym, subst, ◌∙◌}
use Rattle.fielddiff_turn.specs.declared.Run.{Run}
use Rattle.fielddiff_turn.specs.Turns.{Turned}
use Rattle.fielddiff_turn.proofs.TurnLaws.{left-turned, places-turned, right-turned}
use Rattle.fielddiff_run.proofs.turn_places.Goals as goal

pub returns-then-is_reading : goal.returns-then-is_reading
returns-then-is_reading c =
    let a = c.args in
    let t = c.advance in
    subst (λ (r : Run). Turned a.run a.lread.now a.rread.now a.lstore.now a.rstore.now a.out.now r t.new.input a.rread.now t.new.store a.rstore.now a.out.now) (sym c.with_left.ensures)
    (left-turned a.run a.lread.now a.rread.now a.lstore.now a.rstore.now a.out.now c.requires.bounds c.requires.text_room_in_bounds.1 (sym c.is_reading.ensures ∙ c.if-is_reading.true) t.result t.new.input t.new.store t.ensures)

pub returns-then-is_reading-2 : goal.returns-then-is_reading-2
returns-then-is_reading-2 c =
    let a = c.args in
    let t = c.advance-then-is_reading-2 in
    subst (λ (r : Run). Turned a.run a.lread.now a.rread.now a.lstore.now a.rstore.now a.out.now r a.lread.now t.new.input a.lstore.now t.new.store a.out.now) (sym c.with_right.ensures)
    (right-turned a.run a.lread.now a.rread.now a.lstore.now a.rstore.now a.out.now c.requires.bounds c.requires.text_room_in_bounds.1 (sym c.is_reading-2.ensures ∙ c.if-is_reading-2.true) t.result t.new.input t.new.store t.ensures)

pub returns : goal.returns
returns c =
    let a = c.args in
    let t = c.print_places in
    places-turned a.run a.lread.now a.rread.now a.lstore.now a.rstore.now a.out.now c.requires.bounds c.requires.text_room_in_bounds.1
    (sym c.is_reading.ensures ∙ c.if-is_reading.false) (sym c.is_reading-2.ensures ∙ c.if-is_reading-2.false) t.result t.new.out t.ensures.put t.ensures.value
