-- What is left stands in front, and what was read behind it.
use Rattle.std.proofs.Common.{rules, refl, add-zero, arith, length, ◌-◌, ◌++◌}
use Rattle.std.proofs.Math.ListN.{drop}
use Rattle.std.specs.Prelude.{false, pos, negsuc}
use Rattle.program_spec.proofs.BufferLaws.{part_moved}
use Rattle.program.proofs.buffers.read_more.Goals as goal

pub returns-in-Ok : goal.returns-in-Ok
returns-in-Ok c =
    let b = c.args.buffers in
    let i = c.args.input.now in
    let k = b.end - b.at in
    let w = c.move_to_front.new.octets ++ drop b.end i in
    let tail = drop (length w - k) (drop k w) in
    record {
      answer = pos c.in-Ok.n;
      count = c.in-Ok.n;
      interrupted = false;
      filled = refl;
      bounds = search rules;
      octets = part_moved i b.at b.end (omega arith) (omega arith) c.move_to_front.new.octets c.read.new.octets tail c.in-Ok.n c.move_to_front.ensures;
      size = omega arith;
      counts = refl;
      signal = refl;
      goes_on = search rules;
      fails = search rules;
    }

pub returns-in-Err : goal.returns-in-Err
returns-in-Err c =
    let b = c.args.buffers in
    let i = c.args.input.now in
    let k = b.end - b.at in
    let w = c.move_to_front.new.octets ++ drop b.end i in
    let tail = drop (length w - k) (drop k w) in
    record {
      answer = negsuc 0;
      count = 0;
      interrupted = c.is_interrupted-interrupted.result;
      filled = refl;
      bounds = search rules;
      octets = simp add-zero at (part_moved i b.at b.end (omega arith) (omega arith) c.move_to_front.new.octets c.read.new.octets tail 0 c.move_to_front.ensures);
      size = omega arith;
      counts = refl;
      signal = tt;
      goes_on = refl;
      fails = refl;
    }
