-- THE WHOLE OUTPUT of `fielddiff` is the text of the list of differences, for what was read and whatever still comes.
-- Each turn keeps what is printed (`TurnLaws`).
use mathlib.Core.Path.{◌≡◌, refl, ap, ap₂, sym, subst, ◌∙◌}
use mathlib.Core.Bool.{Bool, true, false, true≢false, cond, not, ◌&&◌, ◌||◌}
use mathlib.Core.List.{List, [], ◌++◌, append_assoc, append-nil}
use Prim.Native.Nat.{ℕ, ◌+◌, ◌-◌, ◌<◌, ◌≤◌}
use native.Mathlib.Omega.{arith}
use borrow.Author.Tests.{eqb-true}
use lib.Dec.{eqb}
use lib.ListN.{length, take, drop}
use lib.Seq.{take-add, take-append_seam}
use Rattle.wire_spec.proofs.ResultLaws.{and-true}
use Rattle.fieldfile_spec.specs.File.{read_file}
use Rattle.fielddiff_spec.specs.Diff.{Line}
use Rattle.fielddiff_spec.specs.Text.{diff_text, comparison}
use Rattle.fielddiff_spec.specs.Rest.{starts}
use Rattle.fielddiff_spec.proofs.FromLaws.{from-0}
use Rattle.program_spec.specs.Buffers.{Begins}
use Rattle.program_spec.specs.Turns.{LastTurn, Passed, Stopped, max_turns, started as no-turn, turned, turns_of}
use Rattle.program_spec.proofs.TurnLaws.{Prints, always, counts-turns, run-prints}
use Rattle.fielddiff_side.specs.Side.{MayCome, is_broken, opened, unscanned}
use Rattle.fielddiff_turn.specs.declared.Run.{Run}
use Rattle.fielddiff_turn.specs.declared.Phase.{Phase}
use Rattle.fielddiff_turn.specs.declared.Phase.TheVariants as phase
use Rattle.fielddiff_turn.specs.Turns as turns
use Rattle.fielddiff_turn.specs.Turns.{At, Bounds, Closed, Closes, Ended, Now, RunFlushed, Stands, Step, WriteFailed, is_over, is_whole, lines_left, started, to_print, turning, written_in}

-- where the program stands at the start
abbrev Starts : Bool → Bool → At → Type 0
Starts lo ro a = a.run ≡ started (opened lo) (opened ro)

-- IT PRINTS in turns, as any program does (`program_spec` `TurnLaws`), the text of the list
prints : (lo ro : Bool) (from : At) → Starts lo ro from → Prints turning from (λ (r : List ℕ × List ℕ). comparison r.0 r.1)
prints lo ro from e =
    let n : Now = record { left = starts; right = starts; left_records = []; right_records = [] } in
    record {
      Stands = λ (a : At). (n : Now) × Stands a.run a.left_store a.right_store n;
      MayCome = λ (a : At) (u : List ℕ × List ℕ). MayCome a.run.left u.0 × MayCome a.run.right u.1;
      to_print = λ (a : At) (z : (n : Now) × Stands a.run a.left_store a.right_store n) (u : List ℕ × List ℕ). to_print a.run z.0 a.left_input a.right_input a.out u.0 u.1;
      joins = λ x y z i. (append_assoc x.0 y.0 z.0 i, append_assoc x.1 y.1 z.1 i);
      first = (n, subst (λ (v : Run). Stands v from.left_store from.right_store n) (sym e) (record { left = refl; right = refl; phase = tt }));
      starts = λ u m. (λ i. to_print (e i) n from.left_input from.right_input from.out u.0 u.1) ∙ sym (ap diff_text (from-0 (read_file u.0) (read_file u.1)));
      next = λ a b t z. let k = t.keeps z.0 z.1 in (k.to, k.stands);
      comes = λ a b t z u m. let k = t.keeps z.0 z.1 in (k.left_comes u.0 m.0, k.right_comes u.1 m.1);
      keeps = λ a b t z u m. (t.keeps z.0 z.1).same u.0 u.1 m.0 m.1;
    }

-- where a run stands
pub record Stood (read_left read_right written : List ℕ) (v : Run) (left_input right_input left_store right_store out : List ℕ) : Type 0 where
  pub now : Now
  pub stands : Stands v left_store right_store now
  pub prints : (s t : List ℕ) → MayCome v.left s → MayCome v.right t → written ++ to_print v now left_input right_input out s t ≡ comparison (read_left ++ s) (read_right ++ t)

-- THE INVARIANT OF A RUN
pub run-stands : {lo ro : Bool} {from : At} → Starts lo ro from → {read : List ℕ × List ℕ} {written : List ℕ} {a : At} → Passed turning from read written a
    → Stood read.0 read.1 written a.run a.left_input a.right_input a.left_store a.right_store a.out
unfolding prints
run-stands {lo} {ro} {from} e p =
    let z = run-prints (prints lo ro from e) p in
    record { now = z.stands.0; stands = z.stands.1; prints = λ s t m k. z.prints (s, t) (m, k) }

pub run-bounds : {lo ro : Bool} {from : At} → Starts lo ro from → {read : List ℕ × List ℕ} {written : List ℕ} {a : At} → Passed turning from read written a
    → Bounds a.run (length a.left_input) (length a.right_input) (length a.out)
run-bounds {from = from} e p =
    always turning (λ (a : At). Bounds a.run (length a.left_input) (length a.right_input) (length a.out))
    (subst (λ (v : Run). Bounds v (length from.left_input) (length from.right_input) (length from.out)) (sym e)
    (record { left = (omega arith, omega arith); right = (omega arith, omega arith); left_reach = tt; right_reach = tt; text = omega arith }))
    (λ a b t. t.bounds) p

-- the position is at most the turns that were made
pub position-made : {lo ro : Bool} {from : At} → Starts lo ro from → {read : List ℕ × List ℕ} {written : List ℕ} {a : At} → (p : Passed turning from read written a)
    → a.run.position ≤ turns_of turning p
position-made e p = omega (arith, counts-turns turning (λ (a : At). a.run.position) (λ a b t. t.position) p, ap (λ (v : Run). v.position) e)

-- text that waited was written, and the run goes on, or it waits still
flush-closes : (v r : Run) → v.«open» ≡ true → 0 < v.filled → RunFlushed v r → r.«open» ≡ false → Closes r
flush-closes v r o h f e = go f.flushed.written f.flushed.filled f.flushed.goes_on
  where
    go : (w : Bool) → f.text.filled ≡ cond w 0 v.filled → f.text.«open» ≡ (w && true) → Closes r
    go true n g = absurd (true≢false (sym (ap (λ (x : Run). x.«open») f.is ∙ ap₂ ◌&&◌ o g) ∙ e))
    go false n g = turns.text (omega (arith, ap (λ (x : Run). x.filled) f.is, n, h))

not-false : (b : Bool) → not b ≡ false → b ≡ true
not-false true e = refl
not-false false e = absurd (true≢false e)

-- WHY A RUN ENDS, by its last turn
step-closes : (v : Run) (left_input right_input left_store right_store : List ℕ) (r : Run) (left_input' right_input' : List ℕ)
    → v.«open» ≡ true → Step v left_input right_input left_store right_store r left_input' right_input' → r.«open» ≡ false → Closes r
step-closes v a b c d r a' b' o (turns.writes h f) e = flush-closes v r o h f e
step-closes v a b c d r a' b' o (turns.rests h f) e = turns.list (ap (λ (x : Run). is_over x.phase) f.is ∙ h)
step-closes v a b c d r a' b' o (turns.left_on h s is) e = turns.left (not-false (is_broken r.left) (sym (ap (λ (x : Run). x.«open») is) ∙ e))
step-closes v a b c d r a' b' o (turns.right_on h s is) e = turns.right (not-false (is_broken r.right) (sym (ap (λ (x : Run). x.«open») is) ∙ e))
step-closes v a b c d r a' b' o (turns.places h is) e =
    turns.list (ap (λ (x : Run). is_over x.phase) is ∙ not-false _ (sym (ap (λ (x : Run). x.«open») is) ∙ e))
step-closes v a b c d r a' b' o (turns.next q h ne is) e = absurd (true≢false (sym (ap (λ (x : Run). x.«open») is) ∙ e))
step-closes v a b c d r a' b' o (turns.last q h n is) e = absurd (true≢false (sym (ap (λ (x : Run). x.«open») is) ∙ e))

pub run-closes : {lo ro : Bool} {from : At} → Starts lo ro from → {read : List ℕ × List ℕ} {written : List ℕ} {a : At} → Passed turning from read written a
    → a.run.«open» ≡ false → Closes a.run
run-closes e no-turn q = absurd (true≢false (sym (ap (λ (v : Run). v.«open») e) ∙ q))
run-closes e (turned {a = a} {b = b} p o t) q =
    step-closes a.run a.left_input a.right_input a.left_store a.right_store b.run b.left_input b.right_input o t.step q

-- while a run is open its list has not ended, and no read failed in the middle of a file
record Goes (v : Run) : Type 0 where
  pub list : is_over v.phase ≡ false
  pub left : is_broken v.left ≡ false
  pub right : is_broken v.right ≡ false

not-true : (b : Bool) → not b ≡ true → b ≡ false
not-true true e = absurd (true≢false (sym e))
not-true false e = refl

flushed-goes : (v r : Run) → RunFlushed v r → Goes v → Goes r
flushed-goes v r f g = subst Goes (sym f.is) (record { list = g.list; left = g.left; right = g.right })

step-goes : (v : Run) (left_input right_input left_store right_store : List ℕ) (r : Run) (left_input' right_input' : List ℕ)
    → Goes v → Step v left_input right_input left_store right_store r left_input' right_input' → r.«open» ≡ true → Goes r
step-goes v a b c d r a' b' g (turns.writes h f) o = flushed-goes v r f g
step-goes v a b c d r a' b' g (turns.rests h f) o = flushed-goes v r f g
step-goes v a b c d r a' b' g (turns.left_on h s is) o =
    subst Goes (sym is) (record { list = refl; left = not-true _ (sym (ap (λ (x : Run). x.«open») is) ∙ o); right = g.right })
step-goes v a b c d r a' b' g (turns.right_on h s is) o =
    subst Goes (sym is) (record { list = refl; left = g.left; right = not-true _ (sym (ap (λ (x : Run). x.«open») is) ∙ o) })
step-goes v a b c d r a' b' g (turns.places h is) o =
    subst Goes (sym is) (record { list = not-true _ (sym (ap (λ (x : Run). x.«open») is) ∙ o); left = g.left; right = g.right })
step-goes v a b c d r a' b' g (turns.next q h ne is) o = subst Goes (sym is) (record { list = refl; left = g.left; right = g.right })
step-goes v a b c d r a' b' g (turns.last q h n is) o = subst Goes (sym is) (record { list = refl; left = g.left; right = g.right })

run-goes : {lo ro : Bool} {from : At} → Starts lo ro from → {read : List ℕ × List ℕ} {written : List ℕ} {a : At} → Passed turning from read written a
    → a.run.«open» ≡ true → Goes a.run
run-goes e no-turn q = subst Goes (sym e) (record { list = refl; left = refl; right = refl })
run-goes e (turned {a = a} {b = b} p o t) q =
    step-goes a.run a.left_input a.right_input a.left_store a.right_store b.run b.left_input b.right_input (run-goes e p o) t.step q

-- behind a write that failed
failed-goes : {lo ro : Bool} {from : At} → Starts lo ro from → {read : List ℕ × List ℕ} {written : List ℕ} {a : At} → (p : Passed turning from read written a)
    → LastTurn turning WriteFailed p → Goes a.run × (a.run.«open» ≡ false)
failed-goes e no-turn w = absurd w
failed-goes e (turned {a = a} {b = b} p o t) (f, q) = (flushed-goes a.run b.run f (run-goes e p o), q)

-- A WRITE THAT FAILED IS NOT TRIED AGAIN: nothing more is written, and the run says that not all was
pub run-stops : {lo ro : Bool} {after : Run} {left_input right_input left_store right_store out : List ℕ}
    (e : Ended lo ro left_input right_input left_store right_store out after)
    → LastTurn turning WriteFailed e.passed → (after ≡ e.before) × (is_whole after ≡ false)
run-stops {after = after} e w = go (failed-goes e.starts e.passed w) e.closed
  where
    go : Goes e.before × (e.before.«open» ≡ false) → Closed e.before after → (after ≡ e.before) × (is_whole after ≡ false)
    go (g, o) (turns.stuck s is) = (is, ap is_whole is ∙ ap (λ (b : Bool). b && eqb e.before.filled 0) g.list)
    go (g, o) (turns.flushes s f) = absurd (true≢false (sym (λ i. not (o i || g.list i) && not (g.left i || g.right i)) ∙ s))

module _ {read_left read_right written : List ℕ} {v : Run} {left_input right_input left_store right_store out : List ℕ} (z : Stood read_left read_right written v left_input right_input left_store right_store out) where
  -- WHAT WAS WRITTEN, with what is written at the close, begins the output
  pub run-begins : (r : Run) (s t : List ℕ) → MayCome v.left s → MayCome v.right t
      → Begins (comparison (read_left ++ s) (read_right ++ t)) (written ++ written_in v r out)
  run-begins r s t m k = ap (take (length (written ++ first))) (sym whole) ∙ take-append_seam (written ++ first) (second ++ lines)
    where
      count : ℕ
      count = v.filled - r.filled

      first : List ℕ
      first = take count out

      second : List ℕ
      second = take (v.filled - count) (drop count out)

      lines : List ℕ
      lines = diff_text (lines_left v.phase v.position z.now (unscanned v.left left_input ++ s) (unscanned v.right right_input ++ t))

      both : count + (v.filled - count) ≡ v.filled
      both = omega arith

      split : first ++ second ≡ take v.filled out
      split = sym (take-add count (v.filled - count) out) ∙ ap (λ (n : ℕ). take n out) both

      whole : (written ++ first) ++ (second ++ lines) ≡ comparison (read_left ++ s) (read_right ++ t)
      whole =
          append_assoc written first (second ++ lines)
          ∙ ap (λ (l : List ℕ). written ++ l) (sym (append_assoc first second lines) ∙ ap (λ (l : List ℕ). l ++ lines) split)
          ∙ z.prints s t m k

  over-lines : (p : Phase) (s t : List ℕ) → is_over p ≡ true → lines_left p v.position z.now s t ≡ []
  over-lines phase.Places s t e = absurd (true≢false (sym e))
  over-lines (phase.Comparing r) s t e = absurd (true≢false (sym e))
  over-lines phase.Done s t e = refl

  closed-over : (r : Run) → Closed v r → is_over v.phase ≡ is_over r.phase
  closed-over r (turns.stuck s e) = sym (ap (λ (x : Run). is_over x.phase) e)
  closed-over r (turns.flushes s f) = sym (ap (λ (x : Run). is_over x.phase) f.is)

  -- THE WHOLE: the texts written, joined, are the output
  pub run-whole : (r : Run) → Closed v r → is_whole r ≡ true → (s t : List ℕ) → MayCome v.left s → MayCome v.right t
      → written ++ written_in v r out ≡ comparison (read_left ++ s) (read_right ++ t)
  run-whole r f w s t m k =
      let q = and-true (is_over r.phase) (eqb r.filled 0) w in
      let p : is_over v.phase ≡ true = closed-over r f ∙ q.0 in
      let n : r.filled ≡ 0 = eqb-true r.filled 0 q.1 in
      let d : v.filled - r.filled ≡ v.filled = omega (arith, n) in
      let e = over-lines v.phase (unscanned v.left left_input ++ s) (unscanned v.right right_input ++ t) p in
      ap (λ (j : ℕ). written ++ take j out) d
      ∙ ap (λ (l : List ℕ). written ++ l) (sym (append-nil (take v.filled out)) ∙ sym (ap (λ (l : List Line). take v.filled out ++ diff_text l) e))
      ∙ z.prints s t m k

-- A RUN THAT HAS STOPPED, and is closed
pub run-ended : {lo ro : Bool} {from : At} → Starts lo ro from → {here : At} → Stopped turning max_turns from here → {r : Run} → Closed here.run r
    → Ended lo ro here.left_input here.right_input here.left_store here.right_store here.out r
run-ended {from = from} e {here} f {r} c =
    record {
      from = from;
      starts = e;
      read_left = f.read.0;
      read_right = f.read.1;
      written = f.written;
      before = here.run;
      passed = f.passed;
      closed = c;
      ends = f.ends;
      closes = run-closes e f.passed;
      begins = run-begins (run-stands e f.passed) r;
      complete = λ h. run-whole (run-stands e f.passed) r c h;
    }
