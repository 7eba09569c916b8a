-- What the program holds between its turns, what is still to be printed, and what its whole run is (02, K14).
-- No contract of the libraries says what the operating system's calls do, so it is assumed here that a write which does not fail writes what it is passed;
-- what is assumed of a read stands in `fielddiff_side`.
use Rattle.std.specs.Prelude.{◌≡◌, Bool, true, false, not, ◌&&◌, ◌||◌, List, [], ◌++◌, ℕ, ◌+◌, ◌-◌, ◌*◌, ◌<◌, ◌≤◌, min, eqb, length, take, drop}
use Rattle.wire_spec.specs.Anc.{Record, Each}
use Rattle.wire_spec.specs.Cells.{cell_count, head_cells, list_of}
use Rattle.wire_spec.specs.Writing.{max_field_cells}
use Rattle.fieldfile_scan_spec.specs.Window.{most_words}
use Rattle.fielddiff_spec.specs.Diff.{Line}
use Rattle.fielddiff_spec.specs.Text.{diff_text, comparison}
use Rattle.fielddiff_spec.specs.Rest.{Standing, rest_of, lines_from, record_lines_from}
use Rattle.fielddiff_lines.specs.Room.{line_room}
use Rattle.fieldfile_scan_spec.specs.declared.found.Found.{Found}
use Rattle.fieldfile_scan_spec.specs.declared.found.Place.{Place}
use Rattle.fieldfile_scan_spec.specs.declared.found.Place.TheVariants as place
use Rattle.program_spec.specs.declared.buffers.Buffers.{Buffers}
use Rattle.program_spec.specs.Buffers.{Begins, Flushed, begun}
use Rattle.program_spec.specs.Turns.{Passed, Turning, max_turns, turns_of}
use Rattle.fielddiff_side.specs.declared.Side.{Side}
use Rattle.fielddiff_side.specs.Side as side
use Rattle.fielddiff_side.specs.Side.{HeldReachable, InSide, MayCome, Short, StandsAs, is_broken, is_reading, next_side, opened, place_of, read_in, unscanned, window_size}
use Rattle.fielddiff_turn.specs.declared.Run.{Run}
use Rattle.fielddiff_turn.specs.declared.Records.{Records}
use Rattle.fielddiff_turn.specs.declared.Phase.{Phase}
use Rattle.fielddiff_turn.specs.declared.Phase.TheVariants as phase

-- room for the lines of a record, the most that a turn prints: one for each of its cells
abbrev pub text_room : ℕ
text_room = line_room * (head_cells + most_words)

-- WHAT THE BUFFERS MUST HOLD: the octets that any turn needs, and more to read; a field's cells; and the text of one turn
pub record Enough (left_input right_input left_store right_store out : ℕ) : Type 0 where
  pub left_window : window_size ≤ left_input
  pub right_window : window_size ≤ right_input
  pub left_field : max_field_cells ≤ left_store
  pub right_field : max_field_cells ≤ right_store
  pub text : text_room ≤ out

-- the places lie in buffers of so many octets, and the files stand where turns reach
pub record Bounds (v : Run) (left_input right_input out : ℕ) : Type 0 where
  pub left : InSide v.left left_input
  pub right : InSide v.right right_input
  pub left_reach : HeldReachable v.left.standing
  pub right_reach : HeldReachable v.right.standing
  pub text : v.filled ≤ out

-- the text that is still to be written
abbrev pub unwritten : Run → List ℕ → List ℕ
unwritten v out = take v.filled out

-- WHAT IS WRITTEN from one of these to the next: it waited, and no longer does
abbrev pub written_in : (before after : Run) → List ℕ → List ℕ
written_in v r out = take (v.filled - r.filled) out

-- nothing is read, and nothing waits
abbrev pub started : (left right : Side) → Run
started l r = record { left = l; right = r; position = 0; phase = phase.Places; filled = 0; «open» = true }

-- what follows the lines of a position: the records of two fields, the next position, or nothing behind a refusal and behind both ends
abbrev pub beside_field : ℕ → Found → Place → Phase
beside_field i k (place.Field m) =
    phase.Comparing (record { position = i; index = 0; count = min k.records m.records; left = 0; right = 0 })
beside_field i k place.Ended = phase.Places
beside_field i k (place.Refused n) = phase.Done

abbrev pub beside_end : Place → Phase
beside_end (place.Field m) = phase.Places
beside_end place.Ended = phase.Done
beside_end (place.Refused n) = phase.Done

abbrev pub phase_after : ℕ → (p q : Place) → Phase
phase_after i (place.Field k) q = beside_field i k q
phase_after i place.Ended q = beside_end q
phase_after i (place.Refused n) q = phase.Done

abbrev pub is_over : Phase → Bool
is_over phase.Places = false
is_over (phase.Comparing r) = false
is_over phase.Done = true

abbrev pub places_done : Run → (filled : ℕ) → Run
places_done v n =
    record {
      left = next_side v.left;
      right = next_side v.right;
      position = v.position + 1;
      phase = phase_after v.position (place_of v.left.standing) (place_of v.right.standing);
      filled = n;
      «open» = not (is_over (phase_after v.position (place_of v.left.standing) (place_of v.right.standing)));
    }

-- the cells of the record at a place of the store
abbrev pub record_end : List ℕ → ℕ → ℕ
record_end store at = at + head_cells + cell_count (drop at store)

abbrev pub cells_here : List ℕ → ℕ → List ℕ
cells_here store at = take (record_end store at - at) (drop at store)

-- a record stands there
pub record Here (store : List ℕ) (at : ℕ) : Type 0 where
  pub head : at + head_cells ≤ length store
  pub end : record_end store at ≤ length store
  pub few : cell_count (drop at store) ≤ most_words

abbrev pub behind_record : Records → (left right : List ℕ) → Records
behind_record r left right =
    record {
      position = r.position;
      index = r.index + 1;
      count = r.count;
      left = record_end left r.left;
      right = record_end right r.right;
    }

abbrev pub with_phase : Run → Phase → (filled : ℕ) → Run
with_phase v p n = record { left = v.left; right = v.right; position = v.position; phase = p; filled = n; «open» = true }

abbrev pub with_left : Run → Side → Run
with_left v d =
    record {
      left = d;
      right = v.right;
      position = v.position;
      phase = phase.Places;
      filled = v.filled;
      «open» = not (is_broken d);
    }

abbrev pub with_right : Run → Side → Run
with_right v d =
    record {
      left = v.left;
      right = d;
      position = v.position;
      phase = phase.Places;
      filled = v.filled;
      «open» = not (is_broken d);
    }

-- the text is written, or the write failed and it still waits
pub record RunFlushed (v r : Run) : Type 0 where
  pub text : Buffers
  pub flushed : Flushed (begun v.filled) text
  pub is : r ≡ record { left = v.left; right = v.right; position = v.position; phase = v.phase; filled = text.filled; «open» = v.«open» && text.«open» }

-- WHERE THE FILES STAND: each of them, and the records of both that are still to be compared
pub record Now : Type 0 where
  pub left : Standing
  pub right : Standing
  pub left_records : List Record
  pub right_records : List Record

-- these records stand in the stores, from the places on
pub record RecordsStand (r : Records) (left right : List ℕ) (xs ys : List Record) : Type 0 where
  pub left_room : r.left + length (list_of xs) ≤ length left
  pub left_cells : take (length (list_of xs)) (drop r.left left) ≡ list_of xs
  pub right_room : r.right + length (list_of ys) ≤ length right
  pub right_cells : take (length (list_of ys)) (drop r.right right) ≡ list_of ys
  pub count : r.count ≡ r.index + min (length xs) (length ys)
  pub left_short : Each Short xs
  pub right_short : Each Short ys

abbrev pub PhaseStands : Phase → (left right : List ℕ) → Now → Type 0
PhaseStands phase.Places left right n = Unit {0}
PhaseStands (phase.Comparing r) left right n = RecordsStand r left right n.left_records n.right_records
PhaseStands phase.Done left right n = Unit {0}

pub record Stands (v : Run) (left_store right_store : List ℕ) (n : Now) : Type 0 where
  pub left : StandsAs v.left.standing left_store n.left
  pub right : StandsAs v.right.standing right_store n.right
  pub phase : PhaseStands v.phase left_store right_store n

-- WHAT IS STILL TO BE PRINTED, where the octets `s` and `t` are left of the files
abbrev pub lines_left : Phase → (i : ℕ) → Now → (s t : List ℕ) → List Line
lines_left phase.Places i n s t = lines_from i (rest_of n.left s) (rest_of n.right t)
lines_left (phase.Comparing r) i n s t =
    record_lines_from r.position r.index n.left_records n.right_records ++ lines_from i (rest_of n.left s) (rest_of n.right t)
lines_left phase.Done i n s t = []

-- the text that waits, and that of the lines that are left, where `s` and `t` are still to be read
abbrev pub to_print : (v : Run) (n : Now) (left_input right_input out s t : List ℕ) → List ℕ
to_print v n left_input right_input out s t =
    unwritten v out ++ diff_text (lines_left v.phase v.position n (unscanned v.left left_input ++ s) (unscanned v.right right_input ++ t))

-- one turn: what was to be printed is what was written, and what is still to be
pub record Kept (v : Run) (n : Now) (left_input right_input out : List ℕ) (r : Run) (left_input' right_input' left_store' right_store' out' : List ℕ) : Type 0 where
  pub to : Now
  pub stands : Stands r left_store' right_store' to
  pub left_comes : (s : List ℕ) → MayCome r.left s → MayCome v.left (read_in v.left r.left left_input' ++ s)
  pub right_comes : (t : List ℕ) → MayCome r.right t → MayCome v.right (read_in v.right r.right right_input' ++ t)
  pub same : (s t : List ℕ) → MayCome r.left s → MayCome r.right t
      → to_print v n left_input right_input out (read_in v.left r.left left_input' ++ s) (read_in v.right r.right right_input' ++ t)
      ≡ written_in v r out ++ to_print r to left_input' right_input' out' s t

-- WHAT A TURN DOES: it writes the text that waits, where there is no room for more, or behind the end of the list; it goes on with a file that is being read;
-- it puts the lines of a position, or of a record; or it goes on to the next position, behind the last record that both have
pub data Step (v : Run) (left_input right_input left_store right_store : List ℕ) (r : Run) (left_input' right_input' : List ℕ) : Type 0 where
  writes : 0 < v.filled → RunFlushed v r → Step v left_input right_input left_store right_store r left_input' right_input'
  rests : is_over v.phase ≡ true → RunFlushed v r → Step v left_input right_input left_store right_store r left_input' right_input'
  left_on : is_reading v.left.standing ≡ true → side.Step v.left left_input r.left left_input' → r ≡ with_left v r.left
      → Step v left_input right_input left_store right_store r left_input' right_input'
  right_on : is_reading v.right.standing ≡ true → side.Step v.right right_input r.right right_input' → r ≡ with_right v r.right
      → Step v left_input right_input left_store right_store r left_input' right_input'
  places : v.phase ≡ phase.Places → r ≡ places_done v r.filled → Step v left_input right_input left_store right_store r left_input' right_input'
  next : (c : Records) → v.phase ≡ phase.Comparing c → (c.index ≡ c.count → ⊥) → r ≡ with_phase v (phase.Comparing (behind_record c left_store right_store)) r.filled
      → Step v left_input right_input left_store right_store r left_input' right_input'
  last : (c : Records) → v.phase ≡ phase.Comparing c → c.index ≡ c.count → r ≡ with_phase v phase.Places v.filled
      → Step v left_input right_input left_store right_store r left_input' right_input'

-- ONE TURN, from where the files stand
pub record Turned (v : Run) (left_input right_input left_store right_store out : List ℕ) (r : Run) (left_input' right_input' left_store' right_store' out' : List ℕ) : Type 0 where
  pub step : Step v left_input right_input left_store right_store r left_input' right_input'
  pub bounds : Bounds r (length left_input') (length right_input') (length out')
  pub position : r.position ≤ v.position + 1
  pub keeps : (n : Now) → Stands v left_store right_store n → Kept v n left_input right_input out r left_input' right_input' left_store' right_store' out'

-- a turn that reads nothing, whatever the inputs hold
abbrev pub StillTurned : (v : Run) (left_store right_store out : List ℕ) (r : Run) (out' : List ℕ) → Type 0
StillTurned v left_store right_store out r out' =
    (left_input right_input : List ℕ) → Bounds v (length left_input) (length right_input) (length out)
    → Turned v left_input right_input left_store right_store out r left_input right_input left_store right_store out'

-- WHERE THE PROGRAM STANDS between two turns: what it carries, and what its buffers hold
pub record At : Type 0 where
  pub run : Run
  pub left_input : List ℕ
  pub right_input : List ℕ
  pub left_store : List ℕ
  pub right_store : List ℕ
  pub out : List ℕ

abbrev pub at : Run → (left_input right_input left_store right_store out : List ℕ) → At
at v left_input right_input left_store right_store out =
    record { run = v; left_input = left_input; right_input = right_input; left_store = left_store; right_store = right_store; out = out }

-- A PROGRAM IN TURNS, which reads two files
abbrev pub turning : Turning
turning =
    record {
      Read = List ℕ × List ℕ;
      none = ([], []);
      join = λ (r g : List ℕ × List ℕ). (r.0 ++ g.0, r.1 ++ g.1);
      At = At;
      is_open = λ (a : At). a.run.«open»;
      Turn =
          λ (a b : At). Turned a.run a.left_input a.right_input a.left_store a.right_store a.out
          b.run b.left_input b.right_input b.left_store b.right_store b.out;
      read_in = λ (a b : At). (read_in a.run.left b.run.left b.left_input, read_in a.run.right b.run.right b.right_input);
      written_in = λ (a b : At). written_in a.run b.run a.out;
    }

-- a write that failed
abbrev pub WriteFailed : (before after : At) → Type 0
WriteFailed a b = RunFlushed a.run b.run × (b.run.«open» ≡ false)

-- the list has ended, and no text waits: none whose write failed
abbrev pub is_whole : Run → Bool
is_whole v = is_over v.phase && eqb v.filled 0

-- WHY A RUN HAS ENDED: the list has, a read failed in the middle of a file, or text waits whose write failed
pub data Closes (v : Run) : Type 0 where
  list : is_over v.phase ≡ true → Closes v
  left : is_broken v.left ≡ true → Closes v
  right : is_broken v.right ≡ true → Closes v
  text : 0 < v.filled → Closes v

-- a write failed: the run has ended, though its list has not, and no read failed
abbrev pub is_stuck : Run → Bool
is_stuck v = not (v.«open» || is_over v.phase) && not (is_broken v.left || is_broken v.right)

-- HOW A RUN CLOSES: the text that waits is written; where a write failed, nothing more is
pub data Closed (v r : Run) : Type 0 where
  stuck : is_stuck v ≡ true → r ≡ v → Closed v r
  flushes : is_stuck v ≡ false → RunFlushed v r → Closed v r

-- THE WHOLE RUN, which leaves these octets, cells and texts in the buffers, and stands at `after`. It goes on
-- until the list ends, a read fails in the middle of a file, a write fails, or no turn is left. What was
-- written is what the output for the two files begins with, whatever is still to come of them; and if all was
-- written, it is the output
pub record Ended (left_open right_open : Bool) (left_input right_input left_store right_store out : List ℕ)
    (after : Run) : Type 0 where
  pub from : At
  pub starts : from.run ≡ started (opened left_open) (opened right_open)
  pub read_left : List ℕ
  pub read_right : List ℕ
  pub written : List ℕ
  pub before : Run
  pub passed : Passed turning from (read_left, read_right) written (at before left_input right_input left_store right_store out)
  pub closed : Closed before after
  pub ends : before.«open» ≡ true → turns_of turning passed ≡ max_turns
  pub closes : before.«open» ≡ false → Closes before
  pub begins : (s t : List ℕ) → MayCome before.left s → MayCome before.right t
      → Begins (comparison (read_left ++ s) (read_right ++ t)) (written ++ written_in before after out)
  pub complete : is_whole after ≡ true → (s t : List ℕ) → MayCome before.left s → MayCome before.right t
      → written ++ written_in before after out ≡ comparison (read_left ++ s) (read_right ++ t)
