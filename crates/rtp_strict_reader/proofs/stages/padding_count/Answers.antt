-- `padding_count` is the last octet where P is set, and 0 otherwise.
-- P is 0 or 1, so the product is at most the last octet.
use Prim.Native.Nat.{◌-◌}
use native.Mathlib.Omega.{arith}
use lib.ListN.{length}
use Rattle.wire_spec.proofs.BitLaws.{bits_at-lt}
use Rattle.rtp_strict_reader.proofs.HeaderFields.{flag-times}
use Rattle.rtp_strict_reader.proofs.stages.padding_count.Goals as goal

pub overflow_mul-result : goal.overflow_mul-result
overflow_mul-result c = let s = c.args.octets.now in
    omega (arith, flag-times c.padding_flag.result c.wide.result (omega (arith, c.padding_flag.ensures, bits_at-lt s 2 1)), c.shared_slice_known-2-1.given (length s - 1))

pub returns : goal.returns
returns c = rw (c.padding_flag.ensures, c.wide.ensures)
