-- By the length that the first two octets give.
use Rattle.std.proofs.Common.{arith}
use Rattle.rtp_frames.proofs.FrameLaws.{front-short, front-whole}
use Rattle.rtp_frames.proofs.frame_at.Goals as goal

pub returns-then-octets-size : goal.returns-then-octets-size
returns-then-octets-size c = front-short c.args.octets.now c.if-octets-lt-LENGTH_SIZE.false c.pair_at-size.result c.pair_at-size.ensures (λ j. (c.type_inv.octets j).fits) (omega arith)

pub returns : goal.returns
returns c = front-whole c.args.octets.now c.if-octets-lt-LENGTH_SIZE.false c.pair_at-size.result c.pair_at-size.ensures (λ j. (c.type_inv.octets j).fits) (omega arith)
