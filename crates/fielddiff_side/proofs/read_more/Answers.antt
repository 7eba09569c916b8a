-- What is left stands in front, and what was read behind it; a read that failed put nothing.
use Rattle.std.proofs.Common.{◌≡◌, ℕ, Bool, true, false, refl, ap, add-zero, arith, length, ◌-◌, ◌++◌}
use Rattle.std.proofs.Math.ListN.{drop}
use mathlib.Core.Bool.{not, ◌&&◌, ◌||◌}
use borrow.Author.Rules.{rules}
use borrow.Author.Tests.{le-ltb}
use lib.Dec.{eqb, ltb}
use lib.IntN.{pos, negsuc}
use Rattle.program_spec.proofs.BufferLaws.{part_moved}
use Rattle.fielddiff_side.proofs.read_more.Goals as goal

or-none : (b : Bool) → b ≡ (b || false)
or-none true = refl
or-none false = refl

-- a read that did not fail goes on where it put something
went_on : (n : ℕ) (b : Bool) → ltb 0 n ≡ (ltb 0 n || (ltb n 0 && b))
went_on n b = rw (le-ltb n 0 (omega arith)) (or-none (ltb 0 n))

pub returns-in-Ok : goal.returns-in-Ok
returns-in-Ok c =
    let d = c.args.side in
    let i = c.args.input.now in
    let k = d.end - d.at in
    let w = c.move_to_front.new.octets ++ drop d.end i in
    let tail = drop (length w - k) (drop k w) in
    record {
      answer = pos c.in-Ok.n;
      count = c.in-Ok.n;
      interrupted = false;
      standing = refl;
      bounds = search rules;
      octets = part_moved i d.at d.end (omega arith) (omega arith) c.move_to_front.new.octets c.read.new.octets tail c.in-Ok.n c.move_to_front.ensures;
      size = omega arith;
      counts = refl;
      signal = refl;
      goes_on = went_on c.in-Ok.n _;
      fails = search rules;
    }

pub returns-in-Err : goal.returns-in-Err
returns-in-Err c =
    let d = c.args.side in
    let i = c.args.input.now in
    let k = d.end - d.at in
    let w = c.move_to_front.new.octets ++ drop d.end i in
    let tail = drop (length w - k) (drop k w) in
    let signal = c.is_interrupted-interrupted.result in
    record {
      answer = negsuc 0;
      count = 0;
      interrupted = signal;
      standing = refl;
      bounds = search rules;
      octets = simp add-zero at (part_moved i d.at d.end (omega arith) (omega arith) c.move_to_front.new.octets c.read.new.octets tail 0 c.move_to_front.ensures);
      size = omega arith;
      counts = refl;
      signal = tt;
      goes_on = ap (λ (b : Bool). signal || not (b && eqb k 0)) c.is_at_start.ensures;
      fails = refl;
    }
