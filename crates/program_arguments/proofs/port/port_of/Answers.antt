-- By the digit at the front of those that are left.
use Rattle.std.proofs.Common.{arith}
use Rattle.program_arguments.proofs.PortLaws.{goes_on, is_none, is_number, stops}
use Rattle.program_arguments.proofs.port.port_of.Goals as goal

pub returns-then-value-gt-MAX_PORT : goal.returns-then-value-gt-MAX_PORT
returns-then-value-gt-MAX_PORT c =
    let l = c.loop-digit in
    stops c.args.word.now l.value l.digit-index l.invariant.left c.next_value-value.result c.loop-digit-test.true c.next_value-value.ensures c.if-value-gt-MAX_PORT.true

pub loop-digit-preserved : goal.loop-digit-preserved
loop-digit-preserved c =
    let l = c.loop-digit in
    record {
      small = c.if-value-gt-MAX_PORT.false;
      left = goes_on c.args.word.now l.value l.digit-index l.invariant.left c.next_value-value.result c.loop-digit-test.true c.next_value-value.ensures c.if-value-gt-MAX_PORT.false;
    }

pub returns-then-value-eq0 : goal.returns-then-value-eq0
returns-then-value-eq0 c =
    let l = c.loop-digit in
    is_none c.args.word.now l.value l.digit-index l.invariant.left (omega arith) c.if-value-eq0.true

pub returns : goal.returns
returns c =
    let l = c.loop-digit in
    is_number c.args.word.now l.value l.digit-index l.invariant.left (omega arith) c.if-value-eq0.false
