-- THE WHOLE OUTPUT: what was written, and then what waits and what the walk gives for the octets that are left, read or not, is the output at the start and
-- behind every turn. So where all of it is written, that is the output for what was read.
-- By what each turn does.
use mathlib.Core.Path.{◌≡◌, refl, ap, sym, subst, ◌∙◌}
use mathlib.Core.Logic.{◌⊎◌, inl, inr}
use mathlib.Core.Bool.{Bool, true, false, cond, not, ◌&&◌, ◌||◌}
use mathlib.Core.List.{List, [], ◌++◌, append_assoc, append-nil}
use Prim.Native.Nat.{ℕ, ◌+◌, ◌-◌, ◌≤◌}
use native.Mathlib.Omega.{arith}
use lib.Dec.{eqb}
use lib.ListN.{length, take, drop, drop_of_length-le, length-drop, length-replicate, replicate}
use Rattle.program_spec.specs.declared.buffers.Buffers.{Buffers}
use Rattle.program_spec.specs.Buffers as buffers
use Rattle.program_spec.specs.Buffers.{Begins, Flushed, ended, is_done}
use Rattle.program_spec.specs.Turns.{Passed, Stopped, started, turned, LastTurn, max_turns}
use Rattle.program_spec.specs.Walk.{Front, short, taken, over, Program, Walked, Lawful, Stays, walk, output}
use Rattle.program_spec.specs.Run.{At, Closed, Closing, Ended, InBounds, ItemTaken, NoneTaken, Started, Step, Stops, Turned, at-end, free, is-over, read_in, turning, unused, unwritten, written_in}
use Rattle.program_spec.proofs.BufferLaws.{Done, Kept, done, flushed-keeps, not_done, octets-parts, refilled-ends, refilled-keeps, short as short-part}
use Rattle.program_spec.proofs.TurnLaws.{Prints, always, begins-with, run-prints}
use Rattle.program_spec.proofs.WalkLaws.{next-text, over-text, short-text}

-- the length of a buffer at its start comes by a law, and is not counted
pub zeros : (n : ℕ) → length {0} {A = ℕ} (replicate n 0) ≡ n
zeros n = length-replicate {0} {A = ℕ} n 0

-- buffers of the same sizes hold what is asked of them
pub still-enough : (E : ℕ → ℕ → ℕ → Type 0) {i s o : ℕ} {i' s' o' : ℕ} → i' ≡ i → s' ≡ s → o' ≡ o → E i s o → E i' s' o'
still-enough E a b d e = rw (a, b, d) e

pub start-bounds : {P : Program} {s₀ : P.State} {a : At P.State} → Started P s₀ a → InBounds a
start-bounds t = (t.bounds.0, omega (arith, t.bounds.1), t.bounds.2)

pub bounds : {P : Program} {from here : At P.State} {read written : List ℕ} → InBounds from → Passed (turning P) from read written here → InBounds here
bounds {P} i p = always (turning P) (λ (a : At P.State). InBounds a) i (λ a b x. x.bounds) p

-- a number that an item raises by 1 at the most, a turn does
pub item-counts : (P : Program) (f : P.State → ℕ) → ((s : P.State) (o : List ℕ) (n : ℕ) (t : List ℕ) (z : P.State) → P.front s o ≡ taken n t z → f z ≤ f s + 1)
    → ((s : P.State) (o : List ℕ) (z : P.State) → P.front s o ≡ over z → f z ≤ f s + 1) → (a b : At P.State) → Turned P a b → f b.state ≤ f a.state + 1
item-counts P f h k a b t = go (P.room a.state (free a)) (P.front a.state (unused a)) refl t.step
  where
    go : (r : Bool) (g : Front P.State) → P.front a.state (unused a) ≡ g → Step r g a b → f b.state ≤ f a.state + 1
    go false g e x = omega (arith, ap f x.0)
    go true short e x = omega (arith, ap f x.0)
    go true (over z) e x = omega (arith, ap f x.0, k a.state (unused a) z e)
    go true (taken n q z) e x = omega (arith, ap f x.0, h a.state (unused a) n q z e)

module _ (P : Program) (law : Lawful P) where
  -- what is still to be written, with `unread` still to be read
  abbrev to_write : At P.State → List ℕ → List ℕ
  to_write a unread = unwritten a ++ (walk P a.state (unused a ++ unread)).text

  module _ (a b : At P.State) (inside : InBounds a) where
    -- what is to be written, and what is carried at last, are kept
    abbrev Keeps : Type 0
    Keeps =
        (unread : List ℕ)
        → (to_write a (read_in a b ++ unread) ≡ written_in a b ++ to_write b unread)
        × ((walk P a.state (unused a ++ (read_in a b ++ unread))).state ≡ (walk P b.state (unused b ++ unread)).state)

    abbrev Stays-put : List ℕ → Type 0
    Stays-put input = Kept a.buffers a.input a.out inside b.buffers input b.out

    here_on : Stays-put b.input → (unread : List ℕ) → unused a ++ (read_in a b ++ unread) ≡ unused b ++ unread
    here_on k unread =
        sym (append_assoc (unused a) (read_in a b) unread)
        ∙ ap (λ (z : List ℕ). z ++ unread) (sym (octets-parts a.buffers a.input a.out inside b.buffers b.input k.octets))

    -- a turn that takes no item
    kept : b.state ≡ a.state → Stays-put b.input → Keeps
    kept e k unread =
        let all = here_on k unread in (
          (λ i. k.text i ++ (walk P (sym e i) (all i)).text) ∙ append_assoc (written_in a b) (unwritten b) (walk P b.state (unused b ++ unread)).text,
          (λ i. (walk P (sym e i) (all i)).state),
        )

    -- one that takes an item
    taken-keeps : (n : ℕ) (t : List ℕ) (z : P.State) → P.front a.state (unused a) ≡ taken n t z → b.state ≡ z → ItemTaken a n t b → Keeps
    taken-keeps n t z f e x unread =
        let o = unused a in
        let m : a.buffers.filled - b.buffers.filled ≡ 0 = omega (arith, x.filled) in
        let g : read_in a b ≡ [] =
        ap (drop (a.buffers.end - a.buffers.at)) x.octets
        ∙ drop_of_length-le (drop n o) {i = a.buffers.end - a.buffers.at} (omega (arith, length-drop n o, short-part a.buffers a.input a.out inside)) in
        let w = next-text P law a.state o unread n t z f in
        let all : walk P z (drop n o ++ unread) ≡ walk P b.state (unused b ++ unread) = λ i. walk P (sym e i) (sym x.octets i ++ unread) in (
          ap (λ (y : List ℕ). to_write a (y ++ unread)) g
              ∙ ap (λ (y : Walked P.State). unwritten a ++ y.text) w
              ∙ sym (append_assoc (unwritten a) t (walk P z (drop n o ++ unread)).text)
              ∙ (λ i. take (sym m i) a.out ++ (sym x.text i ++ (all i).text)),
          ap (λ (y : List ℕ). (walk P a.state (o ++ (y ++ unread))).state) g ∙ ap (λ (y : Walked P.State). y.state) w ∙ ap (λ (y : Walked P.State). y.state) all,
        )

    -- one after which nothing more is taken
    over-keeps : (z : P.State) → P.front a.state (unused a) ≡ over z → b.state ≡ z → Stays-put b.input → Keeps
    over-keeps z f e k unread =
        let u = unused a in
        let g = read_in a b in
        let before = over-text P law a.state (u ++ (g ++ unread)) z (law.over-longer a.state u (g ++ unread) z f) in
        let then : walk P b.state (unused b ++ unread) ≡ record { text = P.closing z []; state = z } =
        ap (λ (y : P.State). walk P y (unused b ++ unread)) e ∙ over-text P law z (unused b ++ unread) z ((law.stays a.state u z f).front (unused b ++ unread)) in
        let both = before ∙ sym then in (
          (λ i. k.text i ++ (both i).text) ∙ append_assoc (written_in a b) (unwritten b) (walk P b.state (unused b ++ unread)).text,
          ap (λ (y : Walked P.State). y.state) both,
        )

    same-input : b.input ≡ a.input → Stays-put a.input → Stays-put b.input
    same-input e k = subst (λ (z : List ℕ). Stays-put z) (sym e) k

    flush-keeps : Flushed a.buffers b.buffers → NoneTaken a b → Stays-put a.input
    flush-keeps x w = flushed-keeps a.buffers a.input a.out inside b.buffers b.out x w

    ended-keeps : Flushed (ended a.buffers a.buffers.filled) b.buffers → NoneTaken a b → Stays-put a.input
    ended-keeps x w =
        let k = flushed-keeps (ended a.buffers a.buffers.filled) a.input a.out inside b.buffers b.out x w in
        record { octets = k.octets; text = k.text; rest = k.rest }

    -- ONE TURN keeps both
    turn-keeps : Turned P a b → Keeps
    turn-keeps t = go (P.room a.state (free a)) (P.front a.state (unused a)) refl t.step
      where
        go : (r : Bool) (f : Front P.State) → P.front a.state (unused a) ≡ f → Step r f a b → Keeps
        go false f e (s, w, x, same, h) = kept s (same-input same (flush-keeps x w))
        go true short e (s, w, x) = kept s (refilled-keeps a.buffers a.input a.out inside b.buffers b.input b.out x w)
        go true (over z) e (s, w, x, same) = over-keeps z e s (same-input same (ended-keeps x w))
        go true (taken n q z) e (s, x) = taken-keeps n q z e s x

    -- a run that is done has no whole item left, or takes none any more
    turn-rests : a.buffers.«open» ≡ true → Turned P a b → is_done b.buffers ≡ true
        → ((P.front b.state (unused b) ≡ short) ⊎ Stays P b.state) × Stops P a b
    turn-rests o t h = go (P.room a.state (free a)) (P.front a.state (unused a)) refl t.step
      where
        d : Done b.buffers
        d = done b.buffers h

        go : (r : Bool) (f : Front P.State) → P.front a.state (unused a) ≡ f → Step r f a b
            → ((P.front b.state (unused b) ≡ short) ⊎ Stays P b.state) × Stops P a b
        go false f e (s, w, x, same, waits) = flush x.written x.filled x.goes_on
          where
            flush : (z : Bool) → b.buffers.filled ≡ cond z 0 a.buffers.filled → b.buffers.«open» ≡ (z && a.buffers.«open»)
                → ((P.front b.state (unused b) ≡ short) ⊎ Stays P b.state) × Stops P a b
            flush true n y = absurd (not_done b.buffers (y ∙ o) h)
            flush false n y = absurd (omega (arith, n, d.empty, waits))
        go true short e (s, w, x) =
            let k = refilled-keeps a.buffers a.input a.out inside b.buffers b.input b.out x w in
            let q = refilled-ends a.buffers a.input b.buffers b.input o x h in
            (inl ((λ i. P.front (s i) (k.rest h i)) ∙ e), at-end q.0 q.1 q.2 q.3)
        go true (over z) e (s, w, x, same) = (inr (subst (λ (y : P.State). Stays P y) (sym s) (law.stays a.state (unused a) z e)), is-over z e)
        go true (taken n q z) e (s, x) = absurd (not_done b.buffers x.goes_on h)

  -- at the end the walk has only the last text left
  left : (s : P.State) (o : List ℕ) → (P.front s o ≡ short) ⊎ Stays P s → walk P s o ≡ record { text = P.closing s o; state = P.last s o }
  left s o (inl e) = short-text P law s o e
  left s o (inr y) = over-text P law s o s (y.front o) ∙ (λ i. record { text = sym (y.closing o) i; state = sym (y.last o) i })

  module _ {s₀ : P.State} {from : At P.State} (starts : Started P s₀ from) where
    -- at the start the whole output is to be written
    begins : (unread : List ℕ) → (to_write from unread ≡ output P s₀ unread) × ((walk P from.state (unused from ++ unread)).state ≡ (walk P s₀ unread).state)
    begins unread =
        let b = from.buffers in
        let n : b.end - b.at ≡ 0 = omega (arith, starts.bounds.1) in
        let nothing : unused from ≡ [] = ap (λ (k : ℕ). take k (drop b.at from.input)) n in
        ((λ i. starts.text i ++ (walk P (starts.state i) (nothing i ++ unread)).text), (λ i. (walk P (starts.state i) (nothing i ++ unread)).state))

    prints : Prints (turning P) from (output P s₀)
    prints =
        record {
          Stands = λ (a : At P.State). InBounds a;
          MayCome = λ (a : At P.State) (unread : List ℕ). Unit {0};
          to_print = λ (a : At P.State) (i : InBounds a) (unread : List ℕ). to_write a unread;
          joins = λ x y z. append_assoc x y z;
          first = start-bounds starts;
          starts = λ unread m. (begins unread).0;
          next = λ a b t i. t.bounds;
          comes = λ a b t i unread m. tt;
          keeps = λ a b t i unread m. (turn-keeps a b i t unread).0;
        }

    module _ {read written : List ℕ} {here : At P.State} (p : Passed (turning P) from read written here) where
      stood : InBounds here × ((unread : List ℕ) → written ++ to_write here unread ≡ output P s₀ (read ++ unread))
      unfolding prints
      stood = let z = run-prints prints p in (z.stands, λ unread. z.prints unread tt)

      -- what was written is a beginning of it
      run-begins : (unread : List ℕ) → Begins (output P s₀ (read ++ unread)) written
      run-begins unread = begins-with written _ _ (stood.1 unread)

      -- and the text that waits comes next
      run-waits : (unread : List ℕ) → Begins (output P s₀ (read ++ unread)) (written ++ unwritten here)
      run-waits unread =
          begins-with (written ++ unwritten here) _ _
          (append_assoc written (unwritten here) (walk P here.state (unused here ++ unread)).text ∙ stood.1 unread)

    -- what is carried at last is the walk's
    run-carries : {read written : List ℕ} {here : At P.State} → Passed (turning P) from read written here → (unread : List ℕ)
        → (walk P here.state (unused here ++ unread)).state ≡ (walk P s₀ (read ++ unread)).state
    run-carries started unread = (begins unread).1
    run-carries (turned {read} {written} {a} {b} p o t) unread =
        sym (turn-keeps a b (stood p).0 t unread).1 ∙ run-carries p (read_in a b ++ unread)
        ∙ ap (λ (o : List ℕ). (walk P s₀ o).state) (sym (append_assoc read (read_in a b) unread))

    run-rests : {read written : List ℕ} {here : At P.State} → (p : Passed (turning P) from read written here) → is_done here.buffers ≡ true
        → ((P.front here.state (unused here) ≡ short) ⊎ Stays P here.state) × LastTurn (turning P) (Stops P) p
    run-rests started h = absurd (not_done from.buffers starts.goes_on h)
    run-rests (turned {a = a} {b = b} p o t) h = turn-rests a b (stood p).0 o t h

    module _ {read written : List ℕ} {here : At P.State} (p : Passed (turning P) from read written here) where
      rests-at : is_done here.buffers ≡ true → walk P here.state (unused here ++ []) ≡ record { text = P.closing here.state (unused here); state = P.last here.state (unused here) }
      rests-at e = ap (walk P here.state) (append-nil (unused here)) ∙ left here.state (unused here) (run-rests p e).0

      -- at the end of the input only the last text is still to be written
      run-but-last : is_done here.buffers ≡ true → written ++ P.closing here.state (unused here) ≡ output P s₀ read
      run-but-last e =
          let d = done here.buffers e in
          ap (λ (z : List ℕ). written ++ z) (sym (λ i. take (d.empty i) here.out ++ (rests-at e i).text))
          ∙ (stood p).1 []
          ∙ ap (output P s₀) (append-nil read)

      module _ (r : Buffers) (out' : List ℕ) (c : Closed P here r out') where
        -- it waits
        run-last : is_done here.buffers ≡ true → written ++ buffers.unwritten c.ready out' ≡ output P s₀ read
        run-last e =
            let x = subst (λ (z : Bool). Closing P z here c.ready r out') e c.step in
            ap (λ (z : List ℕ). written ++ z) x.text ∙ run-but-last e

        -- it is written where the input had ended, and then nothing waits
        closed-done : is_done r ≡ true → is_done here.buffers ≡ true
        closed-done h = go (is_done here.buffers) refl c.step
          where
            go : (z : Bool) → is_done here.buffers ≡ z → Closing P z here c.ready r out' → is_done here.buffers ≡ true
            go false e (a, x, same) = subst (λ (z : Buffers). is_done z ≡ true) x h
            go true e x = e

        -- THE WHOLE: the texts written, joined, are the output for the pieces read, joined
        run-whole : is_done r ≡ true → written ++ buffers.written_in c.ready r out' ≡ output P s₀ read
        run-whole h =
            let n : c.ready.filled - r.filled ≡ c.ready.filled = omega (arith, (done r h).empty) in
            ap (λ (j : ℕ). written ++ take j out') n ∙ run-last (closed-done h)

  -- A RUN THAT HAS STOPPED, and its last text
  pub run-ended : (whole : List ℕ → List ℕ) {s₀ : P.State} → ((l : List ℕ) → whole l ≡ output P s₀ l) → {from here : At P.State} → Started P s₀ from
      → Stopped (turning P) max_turns from here → {r : Buffers} {out' : List ℕ} → Closed P here r out'
      → Ended P whole s₀ here out' r
  run-ended whole {s₀} w {from} {here} starts f {r} {out'} c =
      let p = f.passed in
      record {
        from = from;
        starts = starts;
        read = f.read;
        written = f.written;
        passed = p;
        closed = c;
        ends = f.ends;
        begins = λ unread. subst (λ (l : List ℕ). Begins l f.written) (sym (w (f.read ++ unread))) (run-begins starts p unread);
        waits = λ unread. subst (λ (l : List ℕ). Begins l (f.written ++ unwritten here)) (sym (w (f.read ++ unread))) (run-waits starts p unread);
        but_last = λ h. run-but-last starts p h ∙ sym (w f.read);
        last-waits = λ h. run-last starts p r out' c h ∙ sym (w f.read);
        complete = λ h. run-whole starts p r out' c h ∙ sym (w f.read);
        carries =
            λ h. let d = closed-done starts p r out' c h in
            sym (ap (λ (y : Walked P.State). y.state) (rests-at starts p d)) ∙ run-carries starts p [] ∙ ap (λ (o : List ℕ). (walk P s₀ o).state) (append-nil f.read);
        stops = λ h. (run-rests starts p (closed-done starts p r out' c h)).1;
      }

-- BEHIND A READ OR A WRITE THAT FAILED no turn is made, nothing more is written, and the run says that not all was
pub write-fails : (b r : Buffers) (t : Flushed b r) → t.written ≡ false → (r.«open» ≡ false) × (r.failed ≡ true)
write-fails b r t e = (t.goes_on ∙ ap (λ (w : Bool). w && b.«open») e, t.fails ∙ ap (λ (w : Bool). not w || b.failed) e)

no_end : (b : Buffers) → b.failed ≡ true → is_done b ≡ false
no_end b f = go b.«open»
  where
    go : (o : Bool) → (not (o || b.failed) && eqb b.filled 0) ≡ false
    go true = refl
    go false = ap (λ (x : Bool). not x && eqb b.filled 0) f

pub failed-stops : {P : Program} {whole : List ℕ → List ℕ} {s₀ : P.State} {before : At P.State}
    {out' : List ℕ} {after : Buffers} (e : Ended P whole s₀ before out' after) → before.buffers.failed ≡ true
    → (after ≡ before.buffers) × (out' ≡ before.out) × (is_done after ≡ false)
failed-stops {P} {before = before} {out' = out'} {after = after} e f =
    let d = no_end before.buffers f in
    let x = subst (λ (z : Bool). Closing P z before e.closed.ready after out') d e.closed.step in
    (x.1, x.2, ap is_done x.1 ∙ d)
