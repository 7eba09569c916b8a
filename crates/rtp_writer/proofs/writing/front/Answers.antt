-- `front` is the packed RTP header, and payload header up to ANC_Count.
-- By the law of those seventeen octets.
use native.Mathlib.Omega.{arith}
use Rattle.wire_spec.specs.Writing.{HeadFits}
use Rattle.rtp_writer.specs.Answers.{content_of}
use Rattle.rtp_writer.proofs.FrontLaws.{bit-lt, front-packed}
use Rattle.rtp_writer.proofs.writing.front.Goals as goal

pub overflow_mul-result : goal.overflow_mul-result
overflow_mul-result c = omega (arith, c.flag.ensures, bit-lt c.args.head.marker)

pub overflow_add-result : goal.overflow_add-result
overflow_add-result c = omega (arith, c.flag.ensures, bit-lt c.args.head.marker)

pub returns : goal.returns
returns c = let a = c.args in
    let h = a.head in
    let fits : HeadFits (content_of h) = record { marker = bit-lt h.marker; number = omega arith; timestamp = omega arith; source = omega arith } in
    rw c.flag.ensures (front-packed h a.count a.size.0 fits (omega arith) (omega arith) (omega arith))
