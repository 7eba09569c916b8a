-- What fits is within the limits, and where a packet is appended.
-- By cases on the phase, and on the tests.
use Rattle.std.proofs.Common.{◌≡◌, ℕ, ◌<◌, ◌≤◌, Bool, true, false, cond, ◌&&◌, ◌||◌, eqb, leb, sym, refl, true≢false, eqb-true, leb-true}
use borrow.Author.Tests.{lt-leb}
use Rattle.wire_spec.specs.Writing.{max_field_records, max_field_cells, max_field_packets}
use Rattle.wire_spec.proofs.ResultLaws.{and-true}
use Rattle.depacketizer_spec.specs.declared.state.State.{State}
use Rattle.depacketizer_spec.specs.declared.state.Phase.{Phase}
use Rattle.depacketizer_spec.specs.declared.state.Phase.TheVariants as phase
use Rattle.depacketizer_spec.specs.Step.{lost, gathered_in, gathered, gathered_cells, gathered_packets, Carried, fits, follow, is_filling, is_lost, packets_ok, sound}

over : (a b c : Bool) → b ≡ false → a && (b && c) ≡ false
over true b c e = rw e
over false b c e = refl

-- cells over the limit do not fit
pub over-cells : (r c n room : ℕ) → max_field_cells < c → fits r c n room ≡ false
over-cells r c n room h = over (leb r max_field_records) (leb c max_field_cells) (leb c room && leb n max_field_packets) (lt-leb c max_field_cells h)

-- what fits is within the limits
pub record Fitting (r c n room : ℕ) : Type 0 where
  pub records : r ≤ max_field_records
  pub cells : c ≤ max_field_cells
  pub enough : c ≤ room
  pub packets : n ≤ max_field_packets

pub fitting : (r c n room : ℕ) → fits r c n room ≡ true → Fitting r c n room
fitting r c n room h =
    let a = and-true (leb r max_field_records) (leb c max_field_cells && (leb c room && leb n max_field_packets)) h in
    let b = and-true (leb c max_field_cells) (leb c room && leb n max_field_packets) a.1 in
    let d = and-true (leb c room) (leb n max_field_packets) b.1 in
    record {
      records = leb-true r max_field_records a.0;
      cells = leb-true c max_field_cells b.0;
      enough = leb-true c room d.0;
      packets = leb-true n max_field_packets d.1;
    }

-- a sound state is within the limits, and has cells and packets only where it is filling
pub record Sound (st : State) (room : ℕ) : Type 0 where
  pub fitting : Fitting st.records st.cells st.packets room
  pub empty : is_filling st.phase ≡ false → st.cells ≡ 0
  pub none : is_filling st.phase ≡ false → st.packets ≡ 0

none_is : (p : Phase) (n : ℕ) → packets_ok p n ≡ true → is_filling p ≡ false → n ≡ 0
none_is phase.Lost n h e = eqb-true n 0 h
none_is phase.Ready n h e = eqb-true n 0 h
none_is phase.Filling n h e = absurd (true≢false e)

pub sound-is : (st : State) (room : ℕ) → sound st room ≡ true → Sound st room
sound-is st room h =
    let a = and-true (fits st.records st.cells st.packets room) _ h in
    let d = and-true (packets_ok st.phase st.packets) _ a.1 in
    let b = and-true (is_filling st.phase || (eqb st.records 0 && eqb st.cells 0)) (st.heard || is_lost st.phase) d.1 in
    record {
      fitting = fitting st.records st.cells st.packets room a.0;
      none = none_is st.phase st.packets d.0;
      empty = λ e. eqb-true st.cells 0 (and-true (eqb st.records 0) (eqb st.cells 0) (either (is_filling st.phase) _ e b.0)).1;
    }
  where
    either : (a b : Bool) → a ≡ false → a || b ≡ true → b ≡ true
    either true b e h = absurd (true≢false e)
    either false b e h = h

-- where a packet is appended: after the cells that the state has, with its packets as the index
cells_in : (p : Phase) (t f r c n : ℕ) → (is_filling p ≡ false → c ≡ 0) → gathered_cells (gathered_in p t f r c n) ≡ c
cells_in phase.Lost t f r c n h = sym (h refl)
cells_in phase.Ready t f r c n h = sym (h refl)
cells_in phase.Filling t f r c n h = refl

packets-in : (p : Phase) (t f r c n : ℕ) → (is_filling p ≡ false → n ≡ 0) → gathered_packets (gathered_in p t f r c n) ≡ n
packets-in phase.Lost t f r c n h = sym (h refl)
packets-in phase.Ready t f r c n h = sym (h refl)
packets-in phase.Filling t f r c n h = refl

pub appended-at : (st : State) (room : ℕ) (n : Bool) (p : Carried) → Sound st room
    → (follow (cond n (gathered st) lost) p room).append ≡ true
    → (gathered_cells (cond n (gathered st) lost) ≡ st.cells) × (gathered_packets (cond n (gathered st) lost) ≡ st.packets)
appended-at st room false p s h = absurd (true≢false (sym h))
appended-at st room true p s h = (
  cells_in st.phase st.timestamp.0 st.f st.records st.cells st.packets s.empty,
  packets-in st.phase st.timestamp.0 st.f st.records st.cells st.packets s.none,
)
