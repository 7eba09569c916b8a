-- `close` writes the last line, where the run is done.
-- There is room for it.
use mathlib.Core.Path.{ap, sym, ◌∙◌}
use native.Mathlib.Omega.{arith}
use Rattle.rtp_frames.specs.Frames.{front, is_broken}
use Rattle.program_spec.specs.declared.buffers.Buffers.{Buffers}
use Rattle.program_spec.specs.Buffers.{unused}
use Rattle.program_spec.proofs.StepLaws.{Put, closed-before, closed-last}
use Rattle.streamcheck_lines.specs.Lines.{cut_text}
use Rattle.streamcheck_turns.specs.Turns.{program}
use Rattle.streamcheck_turns.proofs.TurnLaws.{room-put}
use Rattle.streamcheck_turns.proofs.close.Goals as goal

pub returns-then-not-is_done : goal.returns-then-not-is_done
returns-then-not-is_done c = closed-before program (sym c.is_done.ensures ∙ c.if-not-is_done.true)

pub flush-requires : goal.flush-requires
flush-requires c = let put : let a = c.args in Put (cut_text (is_broken (front (unused a.run.buffers a.input.now))) a.run.session.index) a.out.now c.finish.new.out c.octets_of-filled.result = room-put _ c.args.out.now _ _ _ c.requires.lines_room_in_bounds c.finish.ensures.value c.finish.ensures.out_after c.octets_of-filled.ensures in
    omega (arith, ap (λ (b : Buffers). b.filled) c.finish-2.ensures, (put).fits)

pub returns : goal.returns
returns c = let put : let a = c.args in Put (cut_text (is_broken (front (unused a.run.buffers a.input.now))) a.run.session.index) a.out.now c.finish.new.out c.octets_of-filled.result = room-put _ c.args.out.now _ _ _ c.requires.lines_room_in_bounds c.finish.ensures.value c.finish.ensures.out_after c.octets_of-filled.ensures in
    closed-last program (sym c.is_done.ensures ∙ c.if-not-is_done.false) (put) c.finish-2.ensures c.flush.ensures
