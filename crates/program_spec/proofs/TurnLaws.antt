-- What holds of any run in turns: what every turn leaves, what it counts, and WHAT IT PRINTS: where each turn keeps what is to be printed, but for what it
-- writes, what was written begins the output, whatever is still to come.
-- Turn by turn.
use mathlib.Core.Path.{◌≡◌, refl, ap, sym, ◌∙◌}
use mathlib.Core.Bool.{true, false, true≢false}
use mathlib.Core.List.{List, ◌++◌, append_assoc}
use Prim.Native.Nat.{ℕ, ◌+◌, ◌≤◌}
use native.Mathlib.Omega.{arith}
use lib.ListN.{length, take}
use lib.Seq.{take-append_seam}
use Rattle.program_spec.specs.Buffers.{Begins}
use Rattle.program_spec.specs.Turns.{Turning, Passed, Stopped, started, turned, turns_of}

module _ (T : Turning) {from : T.At} where
  -- what holds at the start, and behind every turn
  pub always : (Q : T.At → Type 0) → Q from → ((a b : T.At) → T.Turn a b → Q b)
      → {read : T.Read} {written : List ℕ} {here : T.At} → Passed T from read written here → Q here
  always Q h k started = h
  always Q h k (turned {a = a} {b = b} p o t) = k a b t

  -- a number that a turn raises by 1 at the most is at most the turns that were made
  pub counts-turns : (f : T.At → ℕ) → ((a b : T.At) → T.Turn a b → f b ≤ f a + 1)
      → {read : T.Read} {written : List ℕ} {here : T.At} → (p : Passed T from read written here) → f here ≤ f from + turns_of T p
  counts-turns f h started = omega arith
  counts-turns f h (turned {a = a} {b = b} p o t) = omega (arith, counts-turns f h p, h a b t)

-- THE LOOP of a program: so many turns were made, and the run goes on
pub record Going (T : Turning) (from here : T.At) (turns : ℕ) : Type 0 where
  pub read : T.Read
  pub written : List ℕ
  pub passed : Passed T from read written here
  pub made : turns_of T passed ≡ turns
  pub goes_on : T.is_open here ≡ true

module _ {T : Turning} {from : T.At} where
  pub first-turn : T.is_open from ≡ true → Going T from from 0
  first-turn o = record { read = _; written = _; passed = started; made = refl; goes_on = o }

  pub next-turn : {here : T.At} {turns : ℕ} → Going T from here turns → {there : T.At} → T.Turn here there → T.is_open there ≡ true → Going T from there (turns + 1)
  next-turn f t o = record { read = _; written = _; passed = turned f.passed f.goes_on t; made = ap (λ (n : ℕ). n + 1) f.made; goes_on = o }

  -- it stops behind a turn that leaves it closed
  pub last-turn : {here : T.At} {turns : ℕ} → Going T from here turns → {there : T.At} → T.Turn here there → T.is_open there ≡ false → {most : ℕ} → Stopped T most from there
  last-turn f t o = record { read = _; written = _; passed = turned f.passed f.goes_on t; ends = λ e. absurd (true≢false (sym e ∙ o)) }

-- WHAT A PROGRAM PRINTS: of a place where it stands so, what is still to be printed, by what is still to come; a turn keeps it, but for what it writes
pub record Prints (T : Turning) (from : T.At) (whole : T.Read → List ℕ) : Type 1 where
  pub Stands : T.At → Type 0
  pub MayCome : T.At → T.Read → Type 0
  pub to_print : (a : T.At) → Stands a → T.Read → List ℕ
  pub joins : (a b c : T.Read) → T.join (T.join a b) c ≡ T.join a (T.join b c)
  pub first : Stands from
  pub starts : (unread : T.Read) → MayCome from unread → to_print from first unread ≡ whole (T.join T.none unread)
  pub next : (a b : T.At) → T.Turn a b → Stands a → Stands b
  pub comes : (a b : T.At) → T.Turn a b → Stands a → (unread : T.Read) → MayCome b unread → MayCome a (T.join (T.read_in a b) unread)
  pub keeps : (a b : T.At) (t : T.Turn a b) (s : Stands a) (unread : T.Read) → MayCome b unread
      → to_print a s (T.join (T.read_in a b) unread) ≡ T.written_in a b ++ to_print b (next a b t s) unread

-- a list begins with the first of its parts
pub begins-with : (first rest l : List ℕ) → first ++ rest ≡ l → Begins l first
begins-with first rest l e = ap (take (length first)) (sym e) ∙ take-append_seam first rest

module _ {T : Turning} {from : T.At} {whole : T.Read → List ℕ} (P : Prints T from whole) where
  pub record Stood (read : T.Read) (written : List ℕ) (here : T.At) : Type 0 where
    pub stands : P.Stands here
    pub prints : (unread : T.Read) → P.MayCome here unread → written ++ P.to_print here stands unread ≡ whole (T.join read unread)

  -- THE INVARIANT OF A RUN: what was written, and what is still to be printed, is the output
  pub run-prints : {read : T.Read} {written : List ℕ} {here : T.At} → Passed T from read written here → Stood read written here
  run-prints started = record { stands = P.first; prints = P.starts }
  run-prints (turned {read} {written} {a} {b} p o t) = go (run-prints p)
    where
      go : Stood read written a → Stood (T.join read (T.read_in a b)) (written ++ T.written_in a b) b
      go z =
          record {
            stands = P.next a b t z.stands;
            prints =
                λ u m. append_assoc written (T.written_in a b) (P.to_print b (P.next a b t z.stands) u)
                ∙ ap (λ (l : List ℕ). written ++ l) (sym (P.keeps a b t z.stands u m))
                ∙ z.prints (T.join (T.read_in a b) u) (P.comes a b t z.stands u m)
                ∙ ap whole (sym (P.joins read (T.read_in a b) u));
          }
