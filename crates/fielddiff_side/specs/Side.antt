-- One of the two files: what is held of it between the turns, and what is to come of it (02, K14).
-- No contract of the libraries says what the operating system's calls do, so it is assumed here that a read puts the next octets of its file, as many as it
-- answers, where it is told to, and answers 0 only at the file's end.
use Rattle.wire_spec.specs.Result.{Result, Ok, Err}
use Rattle.std.specs.Prelude.{◌≡◌, Bool, true, false, cond, not, ◌&&◌, ◌||◌, List, [], ◌++◌, ℕ, ◌+◌, ◌-◌, ◌≤◌, ◌<◌, eqb, ltb, ℤ, pos, length, take, drop}
use Rattle.std.specs.Int.Signed.{lt_z}
use Rattle.wire_spec.specs.declared.refusal.Refusal.{Refusal}
use Rattle.wire_spec.specs.Words.{header_numbers}
use Rattle.wire_spec.specs.Layout.{rfc8331}
use Rattle.wire_spec.specs.Anc.{Record, Each}
use Rattle.wire_spec.specs.Cells.{list_of}
use Rattle.fielddiff_spec.specs.Diff.{end_number}
use Rattle.fieldfile_scan_spec.specs.Window.{between, within, content, most_size}
use Rattle.fieldfile_scan_spec.specs.Store.{Holds}
use Rattle.fielddiff_spec.specs.Rest.{Standing, starts, reading, has, over, rest_of}
use Rattle.fieldfile_scan_spec.specs.declared.found.Place.{Place}
use Rattle.fieldfile_scan_spec.specs.declared.found.Place.TheVariants as place
use Rattle.fieldfile_scan.specs.declared.state.State.{State}
use Rattle.fieldfile_scan.specs.declared.state.State.TheVariants as state
use Rattle.fieldfile_scan.specs.declared.state.Scanned.{Scanned}
use Rattle.fieldfile_scan.specs.declared.state.Scanned.TheVariants as scanned
use Rattle.fieldfile_scan.specs.Scan.{Reachable, scan}
use Rattle.program_spec.specs.Buffers.{Begins, Count, Interrupted}
use Rattle.fielddiff_side.specs.declared.Side.{Side}
use Rattle.fielddiff_side.specs.declared.Standing.{Standing as Held}
use Rattle.fielddiff_side.specs.declared.Standing.TheVariants as held

-- octets that are enough for any turn: those of the largest ANC data packet
abbrev pub window_size : ℕ
window_size = most_size rfc8331

-- a file that is open, or one that is not and "reads as empty"
abbrev pub opened : Bool → Side
opened b = record { standing = held.Reading state.Start; at = 0; end = 0; more = b; failed = false }

-- the places lie in an input of so many octets
abbrev pub InSide : Side → ℕ → Type 0
InSide d input = (d.at ≤ d.end) × (d.end ≤ input)

-- the octets that were read and are still to be scanned
abbrev pub unscanned : Side → List ℕ → List ℕ
unscanned d input = take (d.end - d.at) (drop d.at input)

-- WHAT IS READ from one of these to the next: it stands behind what was left
abbrev pub read_in : (before after : Side) → List ℕ → List ℕ
read_in d r input = drop (d.end - d.at) (unscanned r input)

-- octets that may still come of a file: none where it has ended
abbrev pub MayCome : Side → List ℕ → Type 0
MayCome d s = d.more ≡ false → s ≡ []

-- fewer octets than any turn needs, and there may be more
abbrev pub is_short : Side → Bool
is_short d = d.more && ltb (d.end - d.at) window_size

-- the file's head is not scanned yet
abbrev pub is_at_start : Held → Bool
is_at_start (held.Reading state.Start) = true
is_at_start (held.Reading (state.Between v)) = false
is_at_start (held.Reading (state.Within p)) = false
is_at_start (held.Field k v) = false
is_at_start held.Ended = false
is_at_start (held.Refused n) = false

-- nothing of the file is read yet
abbrev pub is_unread : Side → Bool
is_unread d = is_at_start d.standing && eqb (d.end - d.at) 0

-- a read failed behind octets that were read: what is to come of the file is not known
abbrev pub is_broken : Side → Bool
is_broken d = d.failed && d.more

abbrev pub is_reading : Held → Bool
is_reading (held.Reading st) = true
is_reading (held.Field k v) = false
is_reading held.Ended = false
is_reading (held.Refused n) = false

-- by what a turn gave: 54 is only the end
abbrev pub stood_as : Result Scanned → Held
stood_as (Err x) = cond (eqb x.number end_number) held.Ended (held.Refused x.number)
stood_as (Ok (scanned.Field k v)) = held.Field k v
stood_as (Ok (scanned.On st n)) = held.Reading st

abbrev pub used_of : Result Scanned → ℕ
used_of (Err x) = 0
used_of (Ok (scanned.Field k v)) = 0
used_of (Ok (scanned.On st n)) = n.0

-- behind a turn
abbrev pub behind_turn : Side → Result Scanned → Side
behind_turn d y = record { standing = stood_as y; at = d.at + used_of y; end = d.end; more = d.more; failed = false }

-- what the file has at the position
abbrev pub place_of : Held → Place
place_of (held.Reading st) = place.Ended
place_of (held.Field k v) = place.Field k
place_of held.Ended = place.Ended
place_of (held.Refused n) = place.Refused n

-- to the next position: behind a field the file is read on
abbrev pub next_held : Held → Held
next_held (held.Reading st) = held.Reading st
next_held (held.Field k v) = held.Reading (state.Between v)
next_held held.Ended = held.Ended
next_held (held.Refused n) = held.Refused n

abbrev pub next_side : Side → Side
next_side d = record { standing = next_held d.standing; at = d.at; end = d.end; more = d.more; failed = d.failed }

-- a record that a packet can have
abbrev pub Short : Record → Type 0
Short r = length r.words < header_numbers

-- WHERE A FILE STANDS, by what is held of it: a field's records are in the store as long as they are within the limits
abbrev pub StandsAs : Held → (store : List ℕ) → Standing → Type 0
StandsAs (held.Reading state.Start) store x = x ≡ starts
StandsAs (held.Reading (state.Between v)) store x = x ≡ reading v (between v)
StandsAs (held.Reading (state.Within p)) store x =
    (rs : List Record)
    × (x ≡ reading p.version (within p.timestamp.0 p.f p.left rs))
    × Holds (record { records = p.records; cells = p.cells; store = store }) rs
    × Each Short rs
StandsAs (held.Field k v) store x =
    (rs : List Record)
    × (x ≡ has v (content k.timestamp.0 k.f rs))
    × (k.records ≡ length rs)
    × (length (list_of rs) ≤ length store)
    × (take (length (list_of rs)) store ≡ list_of rs)
    × Each Short rs
StandsAs held.Ended store x = (y : Refusal) × (x ≡ over y) × (y.number ≡ end_number)
StandsAs (held.Refused n) store x = (y : Refusal) × (x ≡ over y) × (y.number ≡ n) × (n ≡ end_number → ⊥)

-- the state of a file that is being read is one that the turns reach
abbrev pub HeldReachable : Held → Type 0
HeldReachable (held.Reading st) = Reachable st
HeldReachable (held.Field k v) = Unit {0}
HeldReachable held.Ended = Unit {0}
HeldReachable (held.Refused n) = Unit {0}

-- more is read behind what was left; there may be more if something was, or if the read failed. A failure is
-- kept, unless a signal interrupted the read, which is then tried again. A file whose first read fails cannot
-- be read at all: like one that cannot be opened, it "reads as empty" (02, K14)
pub record ReadMore (d : Side) (input : List ℕ) (r : Side) (input' : List ℕ) : Type 0 where
  pub answer : ℤ
  pub count : ℕ
  pub interrupted : Bool
  pub standing : r.standing ≡ d.standing
  pub bounds : InSide r (length input')
  pub octets : Begins (unscanned r input') (unscanned d input)
  pub size : r.end - r.at ≡ d.end - d.at + count
  pub counts : Count answer count
  pub signal : Interrupted answer interrupted
  pub goes_on : r.more ≡ (ltb 0 count || (lt_z answer (pos 0) && (interrupted || not (is_unread d))))
  pub fails : r.failed ≡ (lt_z answer (pos 0) && not interrupted)

-- WHAT A TURN OF A FILE DOES: more is read where fewer octets are at hand than any turn needs, and else these are scanned; a file that is not being read stays
pub data Step (d : Side) (input : List ℕ) (r : Side) (input' : List ℕ) : Type 0 where
  reads : is_short d ≡ true → ReadMore d input r input' → Step d input r input'
  scans : (st : State) → d.standing ≡ held.Reading st → is_short d ≡ false → r ≡ behind_turn d (scan st (unscanned d input)) → Step d input r input'
  stays : is_reading d.standing ≡ false → r ≡ d → Step d input r input'

-- what is to come of a file that stands there, from the position on, is what was to come
pub record Kept (d : Side) (input : List ℕ) (x : Standing) (r : Side) (input' store' : List ℕ) : Type 0 where
  pub to : Standing
  pub stands : StandsAs r.standing store' to
  pub comes : (s : List ℕ) → MayCome r s → MayCome d (read_in d r input' ++ s)
  pub same : (s : List ℕ) → MayCome r s → rest_of x (unscanned d input ++ (read_in d r input' ++ s)) ≡ rest_of to (unscanned r input' ++ s)

-- ONE TURN OF A FILE
pub record Advanced (d : Side) (input store : List ℕ) (r : Side) (input' store' : List ℕ) : Type 0 where
  pub step : Step d input r input'
  pub bounds : InSide r (length input')
  pub reach : HeldReachable r.standing
  pub keeps : (x : Standing) → StandsAs d.standing store x → Kept d input x r input' store'
