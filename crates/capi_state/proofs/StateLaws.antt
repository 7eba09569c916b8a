-- A row that is a state has numbers that fit their values; the numbers of a state are that state again, and the other way about.
-- By the tests in their order, by the phase, whether a packet was heard and whether a number is remembered.
use Rattle.std.specs.Prelude.{Some}
use mathlib.Core.Path.{◌≡◌, refl, sym}
use mathlib.Core.Bool.{Bool, true, false, ◌&&◌}
use mathlib.Core.List.{List, ◌++◌}
use Prim.Native.Nat.{ℕ, zero, suc, ◌≤◌}
use native.Mathlib.Omega.{arith}
use lib.Dec.{eqb, leb}
use lib.ListN.{length}
use borrow.Author.Tests.{leb-true, le-leb}
use Rattle.wire_spec.specs.Bits.{bit, overwrite}
use Rattle.wire_spec.proofs.BitLaws.{flag}
use Rattle.wire_spec.proofs.ListLaws.{drop-run}
use Rattle.wire_spec.proofs.ResultLaws.{and-true}
use Rattle.depacketizer_spec.specs.declared.state.State.{State}
use Rattle.depacketizer_spec.specs.declared.state.Phase.{Phase}
use Rattle.depacketizer_spec.specs.declared.state.Phase.TheVariants as phase
use Rattle.capi_state.specs.State.{state_size}
use Rattle.capi_state.specs.State.{at, is_state, max32, max8, numbers_of, phase_in, phase_number, state_at, state_in}

-- each number is one that its value can have
pub record RowFits (row : List ℕ) : Type 0 where
  pub source : at row 0 ≤ max32
  pub type : at row 1 ≤ max8
  pub phase : at row 2 ≤ 2
  pub heard : at row 3 ≤ 1
  pub last : at row 4 ≤ max32
  pub timestamp : at row 5 ≤ max32
  pub f : at row 6 ≤ max8
  pub remembers : at row 12 ≤ 1
  pub remembered : at row 13 ≤ max32

pub fitting : (row : List ℕ) → is_state row ≡ true → RowFits row
unfolding is_state
fitting row h =
    let w = and-true (leb (at row 0) max32 && leb (at row 1) max8) _ h in
    let x = and-true (leb (at row 0) max32) (leb (at row 1) max8) w.0 in
    let y = and-true (leb (at row 2) 2 && (leb (at row 3) 1 && leb (at row 4) max32)) ((leb (at row 5) max32 && leb (at row 6) max8) && (leb (at row 12) 1 && leb (at row 13) max32)) w.1 in
    let p = and-true (leb (at row 2) 2) (leb (at row 3) 1 && leb (at row 4) max32) y.0 in
    let q = and-true (leb (at row 5) max32 && leb (at row 6) max8) (leb (at row 12) 1 && leb (at row 13) max32) y.1 in
    let z = and-true (leb (at row 5) max32) (leb (at row 6) max8) q.0 in
    let m = and-true (leb (at row 12) 1) (leb (at row 13) max32) q.1 in
    record {
      source = leb-true (at row 0) max32 x.0;
      type = leb-true (at row 1) max8 x.1;
      phase = leb-true (at row 2) 2 p.0;
      heard = leb-true (at row 3) 1 (and-true (leb (at row 3) 1) (leb (at row 4) max32) p.1).0;
      last = leb-true (at row 4) max32 (and-true (leb (at row 3) 1) (leb (at row 4) max32) p.1).1;
      timestamp = leb-true (at row 5) max32 z.0;
      f = leb-true (at row 6) max8 z.1;
      remembers = leb-true (at row 12) 1 m.0;
      remembered = leb-true (at row 13) max32 m.1;
    }

pub phase-known : (p : Phase) → phase_number p ≤ 2
phase-known phase.Lost = omega arith
phase-known phase.Ready = omega arith
phase-known phase.Filling = omega arith

phase-again : (p : Phase) → phase_in (phase_number p) ≡ p
phase-again phase.Lost = refl
phase-again phase.Ready = refl
phase-again phase.Filling = refl

pub heard-known : (b : Bool) → bit b ≤ 1
heard-known true = omega arith
heard-known false = omega arith

heard-again : (b : Bool) → eqb (bit b) 1 ≡ b
heard-again true = refl
heard-again false = refl

-- whatever follows them in a row, the numbers of a state are that state again
pub state-again : (s : State) (rest : List ℕ) → RowFits (numbers_of s) → state_in (numbers_of s ++ rest) ≡ Some s
unfolding is_state
state-again s rest v =
    rw
    (le-leb s.source max32 v.source, le-leb s.payload_type max8 v.type, le-leb (phase_number s.phase) 2 v.phase, le-leb (bit s.heard) 1 v.heard, le-leb s.last.0 max32 v.last, le-leb s.timestamp.0 max32 v.timestamp, le-leb s.f max8 v.f, le-leb (bit s.remembers) 1 v.remembers, le-leb s.remembered.0 max32 v.remembered)
    (rw (phase-again s.phase, heard-again s.heard, heard-again s.remembers))

phase-number : (n : ℕ) → n ≤ 2 → phase_number (phase_in n) ≡ n
phase-number zero h = refl
phase-number (suc zero) h = refl
phase-number (suc (suc zero)) h = refl
phase-number (suc (suc (suc n))) h = absurd (omega arith)

-- the numbers of the state that stands in a row are the row's own
pub row-again : (row : List ℕ) → is_state row ≡ true → state_size ≤ length row → overwrite (numbers_of (state_at row)) row ≡ row
row-again row h l =
    let v = fitting row h in
    rw (phase-number (at row 2) v.phase, flag (at row 3) (omega (arith, v.heard)), flag (at row 12) (omega (arith, v.remembers))) (sym (drop-run 14 0 0 row l))
