-- By the buffers' sizes; the length of a long array comes by a law, and is not counted.
use Rattle.std.proofs.Common.{sym}
use Rattle.program_spec.proofs.RunLaws.{zeros}
use Rattle.pcapframes_turns.proofs.TurnLaws.{still-enough}
use Rattle.pcapframes.proofs.Sizes.{input-size, out-size, sizes}
use Rattle.pcapframes.proofs.extract_frames.Goals as goal

pub slice_bounds-extract-end : goal.slice_bounds-extract-end
slice_bounds-extract-end c = sym (zeros input-size)

pub extract-requires : goal.extract-requires
extract-requires c = still-enough _ _ (zeros input-size) (zeros out-size) sizes
