-- What the answers say in the papers' terms: the refusal, or what was found.
use Rattle.std.specs.Prelude.{Bool, true, false, cond, List, [], ℕ, ◌+◌, length}
use Rattle.wire_spec.specs.Result.{Result, Err, Ok, judge}
use Rattle.wire_spec.specs.Layout.{Layout}
use Rattle.wire_spec.specs.Anc.{anc_record, checksum_ok}
use Rattle.wire_spec.specs.Cells.{head_cells, cells_of, list_of}
use Rattle.anc_tolerant_spec.specs.Tolerant.{tolerant_checks, Taken}
use Rattle.anc_tolerant_reader.specs.declared.packet.Part.{Part}
use Rattle.anc_tolerant_reader.specs.declared.check.Tally.{Tally}
use Rattle.anc_tolerant_reader.specs.declared.check.TolerantRun.{TolerantRun}

-- one packet: whether its checksum is its own
abbrev pub tolerate_anc : Layout → ℕ → List ℕ → Result Bool
tolerate_anc L i s = judge i (tolerant_checks L s) (Ok (checksum_ok L s))

-- with its Data_Count
abbrev pub part_of : ℕ → Result Bool → Result Part
part_of n (Err x) = Err x
part_of n (Ok t) = Ok (record { words = record { 0 = n }; own = t })

-- a packet of `n` words counted: "a record that fails only its checksum is left out and counted", and "14 goes by the records that come through"
abbrev pub tallied : Tally → ℕ → Bool → Tally
tallied t n true = record { omitted = t.omitted; cells = t.cells + (head_cells + n) }
tallied t n false = record { omitted = t.omitted + 1; cells = t.cells }

-- a run: how many were left out, the cells of the rest, and the octets behind them
abbrev pub tolerant_run_of : Result Taken → Result TolerantRun
tolerant_run_of (Err x) = Err x
tolerant_run_of (Ok q) =
    Ok (record { tally = record { omitted = q.left_out; cells = length (list_of q.records) }; left = record { 0 = length q.rest } })

-- the cells of a packet: those of its record, if its checksum is its own
abbrev pub own_cells : Layout → List ℕ → List ℕ
own_cells L s = cond (checksum_ok L s) (cells_of (anc_record L s)) []

-- the cells of a run's records
abbrev pub taken_cells : Result Taken → List ℕ
taken_cells (Err x) = []
taken_cells (Ok q) = list_of q.records
