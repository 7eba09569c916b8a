-- What a turn of the code gives, from the octets at hand and from what it holds. proofs/ ties it to the turns of `fieldfile_scan_spec`.
use Rattle.std.specs.Prelude.{cond, ◌&&◌, List, [], ◌∷◌, ℕ, zero, suc, ◌+◌, ◌-◌, ◌*◌, ◌≤◌, leb, length}
use Rattle.wire_spec.specs.Bits.{splice}
use Rattle.wire_spec.specs.Layout.{rfc8331}
use Rattle.wire_spec.specs.Result.{Result, Err, Ok, judge}
use Rattle.wire_spec.specs.Words.{header_numbers}
use Rattle.wire_spec.specs.Anc.{Record, read_run, run_size}
use Rattle.wire_spec.specs.Cells.{head_cells, list_of}
use Rattle.fieldfile_spec.specs.declared.format.Version.{Version}
use Rattle.fieldfile_spec.specs.File.{count_field, end_of_file, field_header_checks, field_header_size, file_checks, file_f_field, file_head_size, timestamp_field, version_of, within_limits}
use Rattle.fieldfile_scan.specs.declared.state.Part.{Part}
use Rattle.fieldfile_scan.specs.declared.state.State.{State}
use Rattle.fieldfile_scan.specs.declared.state.State.TheVariants as state
use Rattle.fieldfile_scan.specs.declared.state.Scanned.{Scanned}
use Rattle.fieldfile_scan.specs.declared.state.Scanned.TheVariants as scanned

-- packets that a header can count
abbrev pub max_count : ℕ
max_count = 65535

-- what a state that was read can say: no more packets than a header counts, none with more cells than a packet can have
abbrev pub InReach : Part → Type 0
InReach p = (p.left + p.records ≤ max_count) × (p.cells ≤ p.records * (head_cells + header_numbers))

-- the answer of a stage that goes on
abbrev pub onward : State → Result ℕ → Result Scanned
onward st (Err x) = Err x
onward st (Ok n) = Ok (scanned.On st (record { 0 = n }))

-- 50, 51
abbrev pub head_scanned : List ℕ → Result Scanned
head_scanned w = onward (state.Between (version_of w)) (judge 0 (file_checks w) (Ok file_head_size))

-- a field of which no packet is read yet
abbrev pub field_begun : Version → List ℕ → Part
field_begun v w =
    record {
      version = v;
      timestamp = record { 0 = timestamp_field w };
      f = file_f_field w;
      left = count_field v w;
      records = 0;
      cells = 0;
    }

-- 54, 52, 53
abbrev pub header_scanned : Version → List ℕ → Result Scanned
header_scanned v [] = Err end_of_file
header_scanned v (o ∷ w) =
    onward (state.Within (field_begun v (o ∷ w))) (judge 0 (field_header_checks v (o ∷ w)) (Ok (field_header_size v)))

-- 21, or the field
abbrev pub finished : Part → Result Scanned
finished p =
    cond (within_limits p.records p.cells)
    (Ok (scanned.Field (record { timestamp = p.timestamp; f = p.f; records = p.records; cells = p.cells }) p.version))
    (Err (record { number = 21; index = 0 }))

-- one packet more
abbrev pub counted : Part → (cells : ℕ) → Part
counted p n =
    record {
      version = p.version;
      timestamp = p.timestamp;
      f = p.f;
      left = p.left - 1;
      records = p.records + 1;
      cells = p.cells + n;
    }

-- 9 to 16, "the ANC packet" as index
abbrev pub packet_of : Part → Result (List Record × List ℕ) → Result Scanned
packet_of p (Err x) = Err (record { number = x.number; index = p.records })
packet_of p (Ok q) = Ok (scanned.On (state.Within (counted p (length (list_of q.0)))) (record { 0 = run_size rfc8331 q.0 }))

abbrev pub packet_scanned : Part → List ℕ → Result Scanned
packet_scanned p w = packet_of p (read_run rfc8331 0 1 w)

-- the store then: the packet's cells behind those before it, where the field stays within the limits and the store has room
abbrev pub kept_of : Part → Result (List Record × List ℕ) → List ℕ → List ℕ
kept_of p (Err x) store = store
kept_of p (Ok q) store =
    let n = p.cells + length (list_of q.0) in
    cond (within_limits (p.records + 1) n && leb n (length store)) (splice store p.cells (list_of q.0)) store

abbrev pub kept : Part → List ℕ → List ℕ → List ℕ
kept p w store = kept_of p (read_run rfc8331 0 1 w) store

-- ONE TURN
abbrev pub part_scanned : (left : ℕ) → Part → List ℕ → Result Scanned
part_scanned zero p w = finished p
part_scanned (suc n) p w = packet_scanned p w

abbrev pub scan : State → List ℕ → Result Scanned
scan state.Start w = head_scanned w
scan (state.Between v) w = header_scanned v w
scan (state.Within p) w = part_scanned p.left p w

abbrev pub part_kept : (left : ℕ) → Part → List ℕ → List ℕ → List ℕ
part_kept zero p w store = store
part_kept (suc n) p w store = kept p w store

abbrev pub store_then : State → List ℕ → List ℕ → List ℕ
store_then state.Start w store = store
store_then (state.Between v) w store = store
store_then (state.Within p) w store = part_kept p.left p w store

abbrev pub Reachable : State → Type 0
Reachable state.Start = Unit {0}
Reachable (state.Between v) = Unit {0}
Reachable (state.Within p) = InReach p
