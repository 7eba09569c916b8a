-- By the buffers' sizes; the length of a long array comes by a law, and is not counted.
use Rattle.std.proofs.Common.{arith}
use Rattle.program_spec.proofs.RunLaws.{still-enough, zeros}
use Rattle.streamcheck_turns.specs.Turns.{Enough}
use Rattle.streamcheck.proofs.check_file.Goals as goal

pub check-after-requires : goal.check-after-requires
check-after-requires c =
    still-enough Enough {i = 262148} {s = 65535} {o = 61440} (zeros 262148) (zeros 65535) (zeros 61440) (record { frame = omega arith; cells = omega arith; text = omega arith })
