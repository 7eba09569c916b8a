-- By the buffers' sizes; the length of a long array comes by a law, and is not counted.
use Rattle.std.proofs.Common.{sym, arith}
use Rattle.program_spec.proofs.RunLaws.{still-enough, zeros}
use Rattle.fieldlist_turns.specs.Turns.{Enough}
use Rattle.fieldlist.proofs.list_file.Goals as goal

pub slice_bounds-list-end-3 : goal.slice_bounds-list-end-3
slice_bounds-list-end-3 c = sym (zeros 1474880)

pub list-after-requires : goal.list-after-requires
list-after-requires c = still-enough Enough {i = 262148} {s = 36864} {o = 1474880} (zeros 262148) (zeros 36864) (zeros 1474880) (record { frame = omega arith; cells = omega arith; text = omega arith })
