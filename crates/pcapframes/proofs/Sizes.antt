-- The sizes of the buffers are enough.
use Rattle.std.proofs.Common.{ℕ, arith}
use Rattle.pcapframes_turns.specs.Turns.{Enough}

-- two of the longest items, ..
abbrev pub input-size : ℕ
input-size = 532480

-- .. and four of the longest frames
abbrev pub out-size : ℕ
out-size = 262148

pub sizes : Enough input-size out-size
sizes = record { item = omega arith; frame = omega arith }
