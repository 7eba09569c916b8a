-- What is gathered is within a field's limits and the store, check 35 then passes, and appended cells have room.
-- By cases on what is gathered, and on the tests.
use mathlib.Core.Path.{◌≡◌, refl, sym}
use mathlib.Core.Bool.{Bool, true, false, cond, true≢false, ◌&&◌, ◌||◌, or-true, and-false}
use Prim.Native.Nat.{ℕ, ◌+◌, ◌≤◌}
use borrow.Author.Tests.{le-leb, leb-true}
use native.Mathlib.Omega.{arith}
use lib.Dec.{leb, eqb}
use Rattle.depacketizer_spec.specs.Step.{Gathered, lost, ready, filling, phase_of, gathered_records, gathered_cells, gathered_packets, Carried, fits, join_fits, join_if_fits, join, join_if_same, follow, is_filling, is_lost, packets_ok}
use Rattle.wire_spec.proofs.ResultLaws.{and-true, and_both}
use Rattle.depacketizer_spec.specs.declared.state.Phase.TheVariants as phase

-- what is gathered is within the limits and the store, and a field that is gathered has packets
abbrev pub gathered_fits : Gathered → (room : ℕ) → Bool
gathered_fits g room = fits (gathered_records g) (gathered_cells g) (gathered_packets g) room && packets_ok (phase_of g) (gathered_packets g)

pub nothing-fits : (room : ℕ) → fits 0 0 0 room ≡ true
nothing-fits room = rw (le-leb 0 room (omega arith))

-- what is gathered of a field that fits
pub taken-fits : (b : Bool) (t f r c n room : ℕ) → 1 ≤ n → fits r c n room ≡ true → gathered_fits (cond b ready (filling t f r c n)) room ≡ true
taken-fits true t f r c n room h e = rw (nothing-fits room)
taken-fits false t f r c n room h e = and_both e (le-leb _ n (omega arith))

-- check 35 by what is gathered
abbrev pub sound_in : Gathered → Bool → ℕ → Bool
sound_in g heard room =
    fits (gathered_records g) (gathered_cells g) (gathered_packets g) room
    && (packets_ok (phase_of g) (gathered_packets g)
    && ((is_filling (phase_of g) || (eqb (gathered_records g) 0 && eqb (gathered_cells g) 0)) && (heard || is_lost (phase_of g))))

-- it passes where nothing is gathered and no field can start
pub sound-lost : (heard : Bool) (room : ℕ) → sound_in lost heard room ≡ true
sound-lost heard room = rw (nothing-fits room, or-true heard)

-- after a first arrival it passes where what is gathered fits
pub sound-heard : (g : Gathered) (room : ℕ) → gathered_fits g room ≡ true → sound_in g true room ≡ true
sound-heard lost room h = rw (nothing-fits room)
sound-heard ready room h = rw (nothing-fits room)
sound-heard (filling t f r c n) room h = let a = and-true (fits r c n room) (packets_ok phase.Filling n) h in rw (a.0, a.1)

join-room : (r c n : ℕ) (p : Carried) (room : ℕ) → (join r c n p room).append ≡ true → c + p.cells ≤ room
join-room r c n p room h = go (join_fits r c n p room) (leb (c + p.cells) room) _ refl refl h
  where
    go : (b l : Bool) (m : ℕ) → join_fits r c n p room ≡ b → leb (c + p.cells) room ≡ l
        → (join_if_fits b p (r + p.records) (c + p.cells) m).append ≡ true → c + p.cells ≤ room
    go true true m e q h = leb-true (c + p.cells) room q
    go true false m e q h = absurd (true≢false (sym (simp (q, and-false) at e)))
    go false l m e q h = absurd (true≢false (sym h))

-- appended cells have room behind those that are gathered
pub follow-room : (g : Gathered) (p : Carried) (room : ℕ) → (follow g p room).append ≡ true → gathered_cells g + p.cells ≤ room
follow-room lost p room h = absurd (true≢false (sym h))
follow-room ready p room h = join-room 0 0 0 p room h
follow-room (filling t f r c n) p room h = go (eqb t p.timestamp && eqb f p.f) h
  where
    go : (b : Bool) → (join_if_same b r c n p room).append ≡ true → c + p.cells ≤ room
    go true h = join-room r c n p room h
    go false h = absurd (true≢false (sym h))
