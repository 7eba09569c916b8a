-- One place more in a survey: what it says of the state, and which slots are then used.
use mathlib.Core.Path.{◌≡◌, refl, sym, ◌∙◌, ap}
use mathlib.Core.Bool.{Bool, true, false, true≢false, ◌||◌, and-false}
use mathlib.Core.List.{List}
use Prim.Native.Nat.{ℕ, zero, suc, ◌+◌, ◌*◌, ◌/◌, ◌<◌}
use native.Mathlib.Omega.{arith}
use native.Mathlib.Numerals.{add-one}
use lib.Dec.{eqb}
use lib.ListN.{length, length-set, get_or, set, replicate}
use lib.Seq.{get_or-set_same, get_or-set_other}
use borrow.Author.Tests.{eqb-true, eqb-false, eq-eqb, ne_eqb}
use Rattle.egress_spec.specs.declared.state.State.{State}
use Rattle.egress_state.specs.Survey.{SeenOf}
use Rattle.egress_spec.specs.Places.{held_at, held, slot_at, length_fits, used_below}
use Rattle.egress_spec.specs.Places.{place_ok, all_upto, numbers_ok, sound}
use mir.Val.{Fits}
use mir.Syntax.{w64}
use Rattle.egress_spec.proofs.PlaceLaws.{slot-fits}
use Rattle.egress_spec.proofs.Upto.{upto-fails, upto-more}

-- the slots that are used at the places below `k`
abbrev pub Marks : State → ℕ → List Bool → Type 0
Marks st k used = (s : ℕ) → s < 64 → get_or used s false ≡ used_below st k s

none : (n s : ℕ) → get_or (replicate n false) s false ≡ false
none zero s = refl
none (suc n) zero = refl
none (suc n) (suc s) = none n s

pub no-marks : (st : State) → Marks st 0 (replicate 64 false)
unfolding used_below
no-marks st s h = none 64 s

-- whether a channel holds a packet at its place `i`
pub held_of : (st : State) (c i : ℕ) → i < 8
    → held_at (8 * c + i) (get_or st.heads c 0) (get_or st.counts c 0) ≡ held st (8 * c + i)
held_of st c i h =
    let e : (8 * c + i) / 8 ≡ c = omega arith in
    sym (ap (λ (d : ℕ). held_at (8 * c + i) (get_or st.heads d 0) (get_or st.counts d 0)) e)

pub unfit : (st : State) (k : ℕ) → held st k ≡ true → length_fits (get_or st.lengths k 0) ≡ false → place_ok st k ≡ false
unfit st k h e = rw (h, e)

pub twice : (st : State) (k : ℕ) → held st k ≡ true → used_below st k (slot_at st k) ≡ true → place_ok st k ≡ false
twice st k h e = rw (h, e) (and-false (length_fits (get_or st.lengths k 0)))

pub fit : (st : State) (k : ℕ) → held st k ≡ true → length_fits (get_or st.lengths k 0) ≡ true → used_below st k (slot_at st k) ≡ false → place_ok st k ≡ true
fit st k h e u = rw (h, e, u)

pub free : (st : State) (k : ℕ) → held st k ≡ false → place_ok st k ≡ true
free st k h = rw h

pub marks-free : (st : State) (k : ℕ) (used : List Bool) → held st k ≡ false → Marks st k used → Marks st (k + 1) used
unfolding used_below
marks-free st k used h m s l = rw (add-one k, h) (m s l)

pub marks-held : (st : State) (k : ℕ) (used : List Bool) → length used ≡ 64 → held st k ≡ true → Marks st k used → Marks st (k + 1) (set used (slot_at st k) true)
unfolding used_below
marks-held st k used n h m s l = rw (add-one k, h) (go (eqb s (slot_at st k)) refl)
  where
    go : (b : Bool) → eqb s (slot_at st k) ≡ b → get_or (set used (slot_at st k) true) s false ≡ b || used_below st k s
    go true e = rw (← eqb-true s (slot_at st k) e) (get_or-set_same used s true false (omega arith))
    go false e = get_or-set_other used (slot_at st k) s true false (eqb-false s (slot_at st k) e) ∙ m s l

abbrev pub Fit : State → ℕ → Type 0
Fit st k = length_fits (get_or st.lengths k 0) ≡ true

pub refuses-memory : (st : State) (n : ℕ) (used : List Bool) → (n ≡ 65536 → ⊥) → SeenOf st n (record { sound = false; used = used })
refuses-memory st n used e = record { sound = rw (ne_eqb n 65536 e); used = λ z. absurd (true≢false (sym z)) }

pub refuses-state : (st : State) (n : ℕ) (used : List Bool) → sound st ≡ false → SeenOf st n (record { sound = false; used = used })
refuses-state st n used e = record { sound = sym (rw e (and-false (eqb n 65536))); used = λ z. absurd (true≢false (sym z)) }

pub refuses-numbers : (st : State) (n : ℕ) (used : List Bool) → numbers_ok st ≡ false → SeenOf st n (record { sound = false; used = used })
refuses-numbers st n used e = refuses-state st n used (rw e)

pub refuses-place : (st : State) (n : ℕ) (used : List Bool) (k : ℕ) → k < 64 → place_ok st k ≡ false → SeenOf st n (record { sound = false; used = used })
refuses-place st n used k h e = refuses-state st n used (rw (upto-fails (place_ok st) 64 k e h) (and-false (numbers_ok st)))

pub fits_below : {s : ℕ} → s < 64 → Fits w64 s
fits_below h = record { fits = omega arith }

-- What a survey has found of the places below `k`.
pub record Passed (st : State) (memory k : ℕ) (used : List Bool) : Type 0 where
  pub size : memory ≡ 65536
  pub long : length used ≡ 64
  pub numbers : numbers_ok st ≡ true
  pub places : all_upto (place_ok st) k ≡ true
  pub marks : Marks st k used

module _ (st : State) (memory k : ℕ) (used : List Bool) (p : Passed st memory k used) where
  pub passed-free : held st k ≡ false → Passed st memory (k + 1) used
  passed-free h =
      record {
        size = p.size;
        long = p.long;
        numbers = p.numbers;
        places = upto-more (place_ok st) k p.places (free st k h);
        marks = marks-free st k used h p.marks;
      }

  -- the slot's mark, before it is set
  pub mark-at : k < 64 → get_or used (slot_at st k) false ≡ used_below st k (slot_at st k)
  mark-at l = p.marks (slot_at st k) (slot-fits st k p.numbers l)

  pub passed-held : k < 64 → held st k ≡ true → Fit st k → get_or used (slot_at st k) false ≡ false
      → Passed st memory (k + 1) (set used (slot_at st k) true)
  passed-held l h e u =
      record {
        size = p.size;
        long = length-set used (slot_at st k) true ∙ p.long;
        numbers = p.numbers;
        places = upto-more (place_ok st) k p.places (fit st k h e (sym (mark-at l) ∙ u));
        marks = marks-held st k used p.long h p.marks;
      }

pub passes : (st : State) (memory k : ℕ) (used : List Bool) → k ≡ 64 → Passed st memory k used
    → SeenOf st memory (record { sound = true; used = used })
passes st memory k used e p =
    record {
      sound = rw (eq-eqb memory 65536 p.size, p.numbers, rw e at p.places);
      used = λ z. rw e at p.marks;
    }
