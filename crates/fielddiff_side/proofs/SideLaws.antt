-- A turn of one file keeps what is to come of it, whatever still comes.
-- By what the turn was: octets were read, octets were scanned, or nothing was done.
use mathlib.Core.Path.{◌≡◌, refl, ap, sym, ◌∙◌, subst}
use mathlib.Core.Bool.{Bool, true, false, true≢false, not, ◌&&◌, ◌||◌}
use mathlib.Core.Logic.{◌⊎◌, inl, inr}
use mathlib.Core.List.{List, [], ◌++◌, append_assoc}
use Prim.Native.Nat.{ℕ, ◌+◌, ◌-◌, ◌<◌, ◌≤◌}
use native.Mathlib.Omega.{arith}
use borrow.Author.Tests.{eq-eqb, ltb-false, ltb-true, ne_eqb}
use lib.Dec.{eqb, ltb}
use lib.IntN.{ℤ, pos, negsuc}
use lib.Signed.{lt_z}
use lib.ListN.{length, take, drop, drop_of_length-le, length-drop, take-append-drop}
use lib.Seq.{drop-append-le}
use Rattle.wire_spec.specs.Layout.{rfc8331}
use Rattle.wire_spec.specs.Writing.{max_field_cells}
use Rattle.wire_spec.proofs.ResultLaws.{and-true}
use Rattle.fieldfile_scan_spec.specs.Window.{AtHand, most_size}
use Rattle.fieldfile_scan_spec.proofs.Examples.{window}
use Rattle.fielddiff_spec.specs.Rest.{Standing, rest_of}
use Rattle.fieldfile_scan.specs.declared.state.State.{State}
use Rattle.fieldfile_scan.specs.declared.state.State.TheVariants as state
use Rattle.fieldfile_scan.specs.Scan.{Reachable, scan, store_then}
use Rattle.program_spec.specs.Buffers.{Count}
use Rattle.program_spec.proofs.BufferLaws.{length-here, part-behind}
use Rattle.fielddiff_side.specs.declared.Side.{Side}
use Rattle.fielddiff_side.specs.declared.Standing.{Standing as Held}
use Rattle.fielddiff_side.specs.declared.Standing.TheVariants as held
use Rattle.fielddiff_side.specs.Side.{is_at_start, is_broken, is_unread}
use Rattle.fielddiff_side.specs.Side.{Advanced, HeldReachable, InSide, Kept, MayCome, ReadMore, StandsAs, behind_turn, is_reading, is_short, read_in, reads, scans, stays, unscanned, used_of, window_size}
use Rattle.fielddiff_side.proofs.ScanLaws.{Went, scan_steps, scan-went}

-- a read that failed put nothing
failed-count : (z : ℤ) (n : ℕ) → Count z n → lt_z z (pos 0) ≡ true → n ≡ 0
failed-count (pos k) n c f = absurd (omega (arith, ltb-true k 0 f))
failed-count (negsuc k) n c f = c

and-false : (b : Bool) → (b && false) ≡ false
and-false true = refl
and-false false = refl

or-true : (b : Bool) → (b || true) ≡ true
or-true true = refl
or-true false = refl

module _ (d : Side) (input : List ℕ) (inside : InSide d (length input)) where
  pub here-long : length (unscanned d input) ≡ d.end - d.at
  here-long = length-here input d.at d.end inside.0 inside.1

  -- A FILE WHOSE READ FAILS IN THE MIDDLE is broken: there may be more of it, and the comparison ends
  pub later-read-fails : (r : Side) (input' : List ℕ) (t : ReadMore d input r input') → d.at < d.end
      → lt_z t.answer (pos 0) ≡ true → t.interrupted ≡ false → is_broken r ≡ true
  later-read-fails r input' t h f i =
      let some : eqb (d.end - d.at) 0 ≡ false = ne_eqb (d.end - d.at) 0 (λ q. omega (arith, q, h)) in
      let start = is_at_start d.standing in
      let later : is_unread d ≡ false = ap (λ (b : Bool). start && b) some ∙ and-false start in
      let fails : r.failed ≡ true = t.fails ∙ (λ j. f j && not (i j)) in
      let nothing = ltb 0 t.count in
      let goes : r.more ≡ (nothing || true) = t.goes_on ∙ (λ j. nothing || (f j && (i j || not (later j)))) in
      let more : r.more ≡ true = goes ∙ or-true nothing in
      λ j. fails j && more j

  -- ONE WHOSE FIRST READ FAILS reads as empty: no octet of it is at hand, none is to come, and the comparison
  -- goes on
  pub first-read-fails : (r : Side) (input' : List ℕ) (t : ReadMore d input r input')
      → d.standing ≡ held.Reading state.Start → d.at ≡ d.end
      → lt_z t.answer (pos 0) ≡ true → t.interrupted ≡ false
      → (unscanned r input' ≡ []) × (r.more ≡ false) × (is_broken r ≡ false)
  first-read-fails r input' t s e f i =
      let none : t.count ≡ 0 = failed-count t.answer t.count t.counts f in
      let here : eqb (d.end - d.at) 0 ≡ true = eq-eqb (d.end - d.at) 0 (omega (arith, e)) in
      let first : is_unread d ≡ true = λ j. is_at_start (s j) && here j in
      let over : r.more ≡ false = t.goes_on ∙ (λ j. ltb 0 (none j) || (f j && (i j || not (first j)))) in
      let empty : r.end - r.at ≡ 0 = omega (arith, t.size, e, none) in
      let whole : is_broken r ≡ false = ap (λ (b : Bool). r.failed && b) over ∙ and-false r.failed in
      (ap (λ (n : ℕ). take n (drop r.at input')) empty, over, whole)

  -- nothing was read
  pub none_read : read_in d d input ≡ []
  none_read = drop_of_length-le (unscanned d input) {i = d.end - d.at} (omega (arith, here-long))

  pub idle-advanced : (store : List ℕ) → HeldReachable d.standing → is_reading d.standing ≡ false → Advanced d input store d input store
  idle-advanced store reach still =
      record {
        step = stays still refl;
        bounds = inside;
        reach = reach;
        keeps =
            λ x h. record {
              to = x;
              stands = h;
              comes = λ s m. subst (λ (z : List ℕ). MayCome d (z ++ s)) (sym none_read) m;
              same = λ s m. ap (λ (z : List ℕ). rest_of x (unscanned d input ++ (z ++ s))) none_read;
            };
      }

  -- more was
  pub read-advanced : (store : List ℕ) (r : Side) (input' : List ℕ) → HeldReachable d.standing → is_short d ≡ true → ReadMore d input r input' → Advanced d input store r input' store
  read-advanced store r input' reach short t =
      record {
        step = reads short t;
        bounds = t.bounds;
        reach = subst HeldReachable (sym t.standing) reach;
        keeps =
            λ x h. record {
              to = x;
              stands = subst (λ (z : Held). StandsAs z store x) (sym t.standing) h;
              comes = λ s m e. absurd (true≢false (sym (and-true d.more (ltb (d.end - d.at) window_size) short).0 ∙ e));
              same = λ s m. ap (rest_of x) (sym (append_assoc (unscanned d input) (read_in d r input') s) ∙ ap (λ (z : List ℕ). z ++ s) (sym parts));
            };
      }
    where
      parts : unscanned r input' ≡ unscanned d input ++ read_in d r input'
      parts =
          sym (take-append-drop (d.end - d.at) (unscanned r input'))
          ∙ ap (λ (z : List ℕ). z ++ drop (d.end - d.at) (unscanned r input')) (ap (λ (n : ℕ). take n (unscanned r input')) (sym here-long) ∙ t.octets)

  -- a turn uses octets that are at hand
  pub turn-fits : (st : State) → Reachable st → d.at + used_of (scan st (unscanned d input)) ≤ d.end
  turn-fits st reach = let z = (scan_steps st (unscanned d input) reach).fits in omega (arith, z, here-long, inside.0)

  -- a turn was made
  module _ (st : State) (store : List ℕ) (room : max_field_cells ≤ length store) (is : d.standing ≡ held.Reading st) (reach : Reachable st) (long : is_short d ≡ false) where
    fits : used_of (scan st (unscanned d input)) ≤ d.end - d.at
    fits = let z = (scan_steps st (unscanned d input) reach).fits in omega (arith, z, here-long)

    behind : unscanned (behind_turn d (scan st (unscanned d input))) input ≡ drop (used_of (scan st (unscanned d input))) (unscanned d input)
    behind = part-behind input d.at d.end inside.0 inside.1 (used_of (scan st (unscanned d input))) (turn-fits st reach)

    nothing : read_in d (behind_turn d (scan st (unscanned d input))) input ≡ []
    nothing =
        ap (drop (d.end - d.at)) behind
        ∙ drop_of_length-le (drop (used_of (scan st (unscanned d input))) (unscanned d input)) {i = d.end - d.at}
        (omega (arith, length-drop (used_of (scan st (unscanned d input))) (unscanned d input), here-long))

    -- the octets at hand are enough
    at-hand : (s : List ℕ) → MayCome d s → AtHand (most_size rfc8331) (unscanned d input) (unscanned d input ++ s)
    at-hand s m = record { behind = s; starts = refl; enough = go d.more refl }
      where
        go : (b : Bool) → d.more ≡ b → (most_size rfc8331 ≤ length (unscanned d input)) ⊎ (s ≡ [])
        go false e = inr (m e)
        go true e =
            let l : ltb (d.end - d.at) window_size ≡ false = ap (λ (b : Bool). b && ltb (d.end - d.at) window_size) (sym e) ∙ long in
            inl (omega (arith, ltb-false (d.end - d.at) window_size l, window, here-long))

    pub scan-advanced : Advanced d input store (behind_turn d (scan st (unscanned d input))) input (store_then st (unscanned d input) store)
    scan-advanced =
        record {
          step = scans st is long refl;
          bounds = (turn-fits st reach, inside.1);
          reach = (scan_steps st (unscanned d input) reach).reach;
          keeps = λ x h. kept x (scan-went st store (unscanned d input) x room (subst (λ (z : Held). StandsAs z store x) is h));
        }
      where
        kept : (x : Standing) → Went (scan st (unscanned d input)) (unscanned d input) (store_then st (unscanned d input) store) x → Kept d input x (behind_turn d (scan st (unscanned d input))) input (store_then st (unscanned d input) store)
        kept x t =
            record {
              to = t.to;
              stands = t.stands;
              comes = λ s m. subst (λ (z : List ℕ). MayCome d (z ++ s)) (sym nothing) m;
              same =
                  λ s m. ap (λ (z : List ℕ). rest_of x (unscanned d input ++ (z ++ s))) nothing
                  ∙ t.same (unscanned d input ++ s) (at-hand s m)
                  ∙ ap (rest_of t.to) (drop-append-le (used_of (scan st (unscanned d input))) (unscanned d input) s (omega (arith, fits, here-long)) ∙ ap (λ (z : List ℕ). z ++ s) (sym behind));
            }
