-- `padding_flag` is P.
-- By its place in the first octet.
use Rattle.rtp_strict_reader.proofs.HeaderFields.{padding-at}
use Rattle.rtp_strict_reader.proofs.stages.padding_flag.Goals as goal

pub returns : goal.returns
returns c = rw (c.wide.ensures, padding-at c.args.octets.now (λ j. (c.shared_slice_known-1.given j).fits) c.requires)
