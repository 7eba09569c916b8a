-- A depacketizer's state as a row of fifteen numbers: source, payload type, phase, heard, last, timestamp, F, records, cells, fresh, late,
-- missing, whether a number is remembered, that number, and packets (02, K13).
use Rattle.std.specs.Prelude.{Bool, cond, ◌&&◌, List, [], ◌∷◌, ℕ, ◌-◌, ◌^◌, eqb, leb, get_or, Option, Some, None}
use Rattle.wire_spec.specs.Bits.{bit}
use Rattle.depacketizer_spec.specs.declared.state.State.{State}
use Rattle.depacketizer_spec.specs.declared.state.Phase.{Phase}
use Rattle.depacketizer_spec.specs.declared.state.Phase.TheVariants as phase

-- numbers that a state needs
abbrev pub state_size : ℕ
state_size = 15

-- a phase's number: lost 0, ready 1, filling 2
abbrev pub phase_number : Phase → ℕ
phase_number phase.Lost = 0
phase_number phase.Ready = 1
phase_number phase.Filling = 2

-- the phase of a number
abbrev pub phase_in : ℕ → Phase
phase_in n = cond (eqb n 0) phase.Lost (cond (eqb n 1) phase.Ready phase.Filling)

-- the numbers of a state
abbrev pub numbers_of : State → List ℕ
numbers_of s =
    s.source
    ∷ s.payload_type
    ∷ phase_number s.phase
    ∷ bit s.heard
    ∷ s.last.0
    ∷ s.timestamp.0
    ∷ s.f
    ∷ s.records
    ∷ s.cells
    ∷ s.fresh
    ∷ s.late
    ∷ s.missing
    ∷ bit s.remembers
    ∷ s.remembered.0
    ∷ s.packets
    ∷ []

-- the number of a row at an index
abbrev pub at : List ℕ → ℕ → ℕ
at row k = get_or row k 0

-- the largest number of 32 bits
abbrev pub max32 : ℕ
max32 = 2 ^ 32 - 1

-- the largest number of 8 bits
abbrev pub max8 : ℕ
max8 = 2 ^ 8 - 1

-- is each number one that its value can have: source, last, timestamp and the remembered number 32 bits, payload type and F 8, a phase, and
-- 0 or 1 twice
unfoldable pub is_state : List ℕ → Bool
is_state row =
    (leb (at row 0) max32 && leb (at row 1) max8)
    && ((leb (at row 2) 2 && (leb (at row 3) 1 && leb (at row 4) max32))
    && ((leb (at row 5) max32 && leb (at row 6) max8) && (leb (at row 12) 1 && leb (at row 13) max32)))

-- the numbers of a row as a state
abbrev pub state_at : List ℕ → State
state_at row =
    record {
      source = at row 0;
      payload_type = at row 1;
      phase = phase_in (at row 2);
      heard = eqb (at row 3) 1;
      last = record { 0 = at row 4 };
      timestamp = record { 0 = at row 5 };
      f = at row 6;
      records = at row 7;
      cells = at row 8;
      fresh = at row 9;
      late = at row 10;
      missing = at row 11;
      remembers = eqb (at row 12) 1;
      remembered = record { 0 = at row 13 };
      packets = at row 14;
    }

-- the state that stands in a row, if one does
abbrev pub state_in : List ℕ → Option State
state_in row = cond (is_state row) (Some (state_at row)) None
