-- What the answers say in the papers' terms: the refusal, or what was found.
use Rattle.wire_spec.specs.declared.count.WordCount.{WordCount}
use Rattle.std.specs.Prelude.{List, [], ℕ, length}
use Rattle.wire_spec.specs.Result.{Result, Err, Ok}
use Rattle.wire_spec.specs.Layout.{Layout}
use Rattle.wire_spec.specs.Anc.{Record, run_size}
use Rattle.wire_spec.specs.Cells.{list_in, list_of}
use Rattle.anc_reader.specs.declared.check.Run.{Run}

-- one packet (01, "Order of reading": 9 to 12; 02: 15, 16): its Data_Count, which "counts ten-bit words"
abbrev pub verdict_of : Result Record → Result WordCount
verdict_of (Err x) = Err x
verdict_of (Ok r) = Ok (record { 0 = length r.words })

-- a run: the octets of its packets, as "Length counts octets", and the cells of its records, for 14: "lent list shorter than the records need"
abbrev pub run_of : Layout → Result (List Record × List ℕ) → Result Run
run_of L (Err x) = Err x
run_of L (Ok q) = Ok (record { octets = record { 0 = run_size L q.0 }; cells = length (list_of q.0) })

-- the cells of a run's records (01, "Records in a lent list"), of the packet with index `p` within its field
abbrev pub run_cells_in : ℕ → Result (List Record × List ℕ) → List ℕ
run_cells_in p (Err x) = []
run_cells_in p (Ok q) = list_in p q.0

-- "The packet and line readers give 0" (02, K13)
abbrev pub run_cells : Result (List Record × List ℕ) → List ℕ
run_cells x = run_cells_in 0 x
