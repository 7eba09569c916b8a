-- The walk over a packet's records finds one that is out of order exactly where there is one, and leaves the last plain place.
-- By induction over the records that are left.
use mathlib.Core.Path.{◌≡◌, refl, sym, ◌∙◌, ap, subst}
use mathlib.Core.Bool.{Bool, true, false, cond, ◌&&◌, ◌||◌, true≢false}
use mathlib.Core.List.{List, [], ◌∷◌}
use mathlib.Core.Logic.{◌⊎◌, inl, inr, ⊎_elim, ◌↔◌}
use Prim.Native.Nat.{ℕ, suc, ◌<◌, ◌≤◌}
use native.Mathlib.Omega.{arith}
use Rattle.std.specs.Prelude.{Option, Some, None}
use lib.Dec.{eqb, ltb}
use lib.ListN.{drop}
use borrow.Author.Tests.{eqb-true, eqb-false, eq-eqb, ltb-true, lt-ltb}
use Rattle.anc_record.specs.declared.location.Line.{Line}
use Rattle.anc_record.specs.declared.location.Line.TheVariants as line
use Rattle.anc_record.specs.declared.location.Offset.{Offset}
use Rattle.anc_record.specs.declared.location.Offset.TheVariants as offset
use Rattle.wire_spec.specs.Layout.{Layout}
use Rattle.anc_record.specs.Location.{line_of, offset_of}
use Rattle.wire_spec.specs.Result.{Result, Err, Ok}
use Rattle.wire_spec.specs.Anc.{Record}
use Rattle.wire_spec.specs.Packet.{Packet}
use Rattle.streamcheck_spec.specs.declared.checker.Checker.{Checker}
use Rattle.streamcheck_spec.specs.declared.place.Place.{Place}
use Rattle.streamcheck_spec.specs.Rules.{At, Lower, Marked, Plain, Sound, PlainAt, OutOfOrderAt, OutOfRasterOrder}
use Rattle.streamcheck_spec.specs.Check.{is_line, is_offset, is_plain, is_lower, place_of, descends, place_after, place_within, carried}
use Rattle.streamcheck_spec.proofs.RuleLaws.{less-or-equal-or-more, at_one, at-within, at_next, at_none, sound-one, refused-excludes}
use Rattle.streamcheck_spec.proofs.FindingLaws.{and_split, or_split, or_left, or_right}
use Rattle.streamcheck_spec.proofs.KnownLaws.{Verdict}
use Rattle.streamcheck_spec.proofs.PlaceLaws.{plain-at-one, plain-before-one, PlainPlace, PlaceBefore, past-special, past-plain, past-packet, past-mark}

line-is : (l : Line) → is_line l ≡ true → (x : ℕ) × (l ≡ line.Number x)
line-is (line.Number x) e = (x, refl)
line-is line.Unspecified e = absurd (true≢false (sym e))
line-is line.Vertical e = absurd (true≢false (sym e))
line-is line.TooLarge e = absurd (true≢false (sym e))

offset-is : (l : Offset) → is_offset l ≡ true → (x : ℕ) × (l ≡ offset.Number x)
offset-is (offset.Number x) e = (x, refl)
offset-is offset.Unspecified e = absurd (true≢false (sym e))
offset-is offset.Horizontal e = absurd (true≢false (sym e))
offset-is offset.SavToEav e = absurd (true≢false (sym e))
offset-is offset.TooLarge e = absurd (true≢false (sym e))

-- the test of a plain place
pub plain-is : (r : Record) → is_plain r.line r.offset ≡ true → Plain r
unfolding is_plain
plain-is r e =
    let p = and_split (is_line (line_of r.line)) (is_offset (offset_of r.offset)) e in
    record { line = line-is (line_of r.line) p.0; offset = offset-is (offset_of r.offset) p.1 }

pub is-plain : (r : Record) → Plain r → is_plain r.line r.offset ≡ true
unfolding is_plain
is-plain r p =
    let a : is_line (line_of r.line) ≡ true = ap is_line p.line.1 in
    let b : is_offset (offset_of r.offset) ≡ true = ap is_offset p.offset.1 in
    rw (a, b)

-- the test of an order
lower-is : (a b c d : ℕ) → ltb a c || (eqb a c && ltb b d) ≡ true → (a < c) ⊎ ((a ≡ c) × (b < d))
lower-is a b c d e =
    ⊎_elim (λ x. inl (ltb-true a c x)) (λ x. let y = and_split (eqb a c) (ltb b d) x in inr (eqb-true a c y.0, ltb-true b d y.1))
    (or_split (ltb a c) (eqb a c && ltb b d) e)

is-lower : (a b c d : ℕ) → (a < c) ⊎ ((a ≡ c) × (b < d)) → ltb a c || (eqb a c && ltb b d) ≡ true
is-lower a b c d (inl x) = or_left (ltb a c) (eqb a c && ltb b d) (lt-ltb a c x)
is-lower a b c d (inr x) =
    or_right (ltb a c) (eqb a c && ltb b d) (rw (eq-eqb a c x.0, lt-ltb b d x.1))

module _ (L : Layout) (ps : List (List ℕ)) where
  module _ (i : ℕ) (k : Packet) (s : Sound L ps i k) where
    -- a record of this packet that is plain, and one that stands there
    plain_here : (b : ℕ) (r : Record) → At k.records b r → is_plain r.line r.offset ≡ true → PlainAt L ps i b r
    plain_here b r a e = record { packet = k; sound = s; at = a; plain = plain-is r e }

    at_here : (b : ℕ) (r : Record) → PlainAt L ps i b r → At k.records b r
    at_here b r p =
        subst (λ (z : Packet). At z.records b r) (sound-one L ps i p.packet k p.sound s) p.at

    special-here : (b : ℕ) (r : Record) → At k.records b r → is_plain r.line r.offset ≡ false → (q : Record) → PlainAt L ps i b q → ⊥
    special-here b r a e q p =
        let d = at_one k.records b q r (at_here b q p) a in
        true≢false (sym (ap (λ (z : Record). is_plain z.line z.offset) (sym d) ∙ is-plain q p.plain) ∙ e)

    -- a plain record is out of order exactly where it belongs before the known place
    order-shows : (b : ℕ) (r : Record) (q : Place) → PlainPlace L ps q i b → PlainAt L ps i b r
        → ltb r.line q.line || (eqb r.line q.line && ltb r.offset q.offset) ≡ true → OutOfOrderAt L ps i b
    order-shows b r q v p e =
        record {
          r = r;
          here = p;
          h = v.h;
          a = v.a;
          q = v.r;
          last = v.last;
          lower =
              subst (λ (z : ℕ). (r.line < z) ⊎ ((r.line ≡ z) × (r.offset < v.r.offset))) v.line
              (subst (λ (z : ℕ). (r.line < q.line) ⊎ ((r.line ≡ q.line) × (r.offset < z))) v.offset
              (lower-is r.line r.offset q.line q.offset e));
        }

    order-found : (b : ℕ) (r : Record) (q : Place) → PlainPlace L ps q i b → PlainAt L ps i b r → OutOfOrderAt L ps i b
        → ltb r.line q.line || (eqb r.line q.line && ltb r.offset q.offset) ≡ true
    order-found b r q v p g =
        let x : g.r ≡ r = plain-at-one L ps i b g.r r g.here p in
        let y : g.q ≡ v.r = plain-before-one L ps g.h g.a v.h v.a i b g.q v.r g.last v.last in
        let w : Lower r v.r = subst (λ (z : Record). Lower r z) y (subst (λ (z : Record). Lower z g.q) x g.lower) in
        is-lower r.line r.offset q.line q.offset
        (subst (λ (z : ℕ). (r.line < z) ⊎ ((r.line ≡ z) × (r.offset < q.offset))) (sym v.line)
        (subst (λ (z : ℕ). (r.line < v.r.line) ⊎ ((r.line ≡ v.r.line) × (r.offset < z))) (sym v.offset) w))

    lower-iff : (b : ℕ) (r : Record) (q : Option Place) → PlaceBefore L ps q i b → PlainAt L ps i b r → (is_lower r.line r.offset q ≡ true) ↔ OutOfOrderAt L ps i b
    unfolding is_lower
    lower-iff b r None v p = (λ e. absurd (true≢false (sym e)), λ g. absurd (v g.h g.a g.q g.last.before g.last.field g.last.plain))
    lower-iff b r (Some q) v p = (order-shows b r q v p, order-found b r q v p)

    -- some record from `b` on is out of order
    abbrev From : ℕ → Type 0
    From b = (c : ℕ) × (b ≤ c) × OutOfOrderAt L ps i c

    later : (b : ℕ) → From (suc b) → From b
    later b x = (x.0, let y = x.1 in omega arith, x.2)

    -- one is the first of them, or a later one
    here-or-later : (b : ℕ) → From b → OutOfOrderAt L ps i b ⊎ From (suc b)
    here-or-later b x =
        ⊎_elim (λ h. inr (x.0, h, x.2))
        (⊎_elim (λ e. inl (subst (λ (z : ℕ). OutOfOrderAt L ps i z) (sym e) x.2)) (λ h. let y = x.1 in absurd (omega arith)))
        (less-or-equal-or-more b x.0)

    descends-iff : (rs : List Record) (q : Option Place) (b : ℕ) → drop b k.records ≡ rs → PlaceBefore L ps q i b
        → (descends q rs ≡ true) ↔ From b
    unfolding descends
    descends-iff [] q b e v = (
      λ x. absurd (true≢false (sym x)),
      λ x.
          let y = at_none k.records b e in
          let z = at-within k.records x.0 x.2.r (at_here x.0 x.2.r x.2.here) in
          let w = x.1 in
          absurd (omega arith),
    )
    descends-iff (r ∷ rs) q b e v = go (λ (z : Option Place). descends-iff rs z (suc b) (at_next k.records b r rs e)) (is_plain r.line r.offset) refl
      where
        a : At k.records b r
        a = (rs, e)

        go : ((z : Option Place) → PlaceBefore L ps z i (suc b) → (descends z rs ≡ true) ↔ From (suc b)) → (t : Bool) → is_plain r.line r.offset ≡ t
            → (cond t (is_lower r.line r.offset q || descends (place_of r) rs) (descends q rs) ≡ true) ↔ From b
        go below true d =
            let p = plain_here b r a d in
            let here = lower-iff b r q v p in
            let rest = below (place_of r) (past-plain L ps i b r p) in (
              λ x. ⊎_elim (λ y. (b, omega arith, here.0 y)) (λ y. later b (rest.0 y)) (or_split (is_lower r.line r.offset q) (descends (place_of r) rs) x),
              λ x. ⊎_elim (λ y. or_left (is_lower r.line r.offset q) (descends (place_of r) rs) (here.1 y))
                  (λ y. or_right (is_lower r.line r.offset q) (descends (place_of r) rs) (rest.1 y)) (here-or-later b x),
            )
        go below false d =
            let n = special-here b r a d in
            let rest = below q (past-special L ps i b q n v) in (
              λ x. later b (rest.0 x),
              λ x. ⊎_elim (λ y. absurd (n y.r y.here)) (λ y. rest.1 y) (here-or-later b x),
            )

    -- "records .. out of raster order within a field"
    pub raster-iff : (q : Option Place) → PlaceBefore L ps q i 0 → (descends q k.records ≡ true) ↔ OutOfRasterOrder L ps i
    raster-iff q v =
        let x = descends-iff k.records q 0 refl v in
        (λ e. let y = x.0 e in (y.0, y.2), λ g. x.1 (g.0, omega arith, g.1))

    -- the last plain place after the records that are left
    place-behind : (rs : List Record) (q : Option Place) (b : ℕ) → drop b k.records ≡ rs → PlaceBefore L ps q i b → (Marked k → ⊥)
        → PlaceBefore L ps (place_after q rs) (suc i) 0
    unfolding place_after
    place-behind [] q b e v u =
        past-packet L ps i b q
        (λ a r p.
        let y = at_none k.records b e in
        let z = at-within k.records a r (at_here a r p) in
        omega arith)
        (λ l t d. u (ap (λ (z : Packet). z.marker) (sound-one L ps i k l s t) ∙ d)) v
    place-behind (r ∷ rs) q b e v u = go (λ (z : Option Place) (w : PlaceBefore L ps z i (suc b)). place-behind rs z (suc b) (at_next k.records b r rs e) w u) (is_plain r.line r.offset) refl
      where
        a : At k.records b r
        a = (rs, e)

        go : ((z : Option Place) → PlaceBefore L ps z i (suc b) → PlaceBefore L ps (place_after z rs) (suc i) 0)
            → (t : Bool) → is_plain r.line r.offset ≡ t
            → PlaceBefore L ps (cond t (place_after (place_of r) rs) (place_after q rs)) (suc i) 0
        go below true d = below (place_of r) (past-plain L ps i b r (plain_here b r a d))
        go below false d = below q (past-special L ps i b q (special-here b r a d) v)

    -- "a field ends at a mark"
    place-within : (t : Bool) → eqb k.marker 1 ≡ t → (q : Option Place) → PlaceBefore L ps q i 0
        → PlaceBefore L ps (place_within t (place_after q k.records)) (suc i) 0
    place-within true e q v = past-mark L ps i k s (eqb-true k.marker 1 e)
    place-within false e q v = place-behind k.records q 0 refl v (eqb-false k.marker 1 e)

  -- after packet `i` the place is that of the last plain record within the field
  pub place_after_lem : (st : Checker) (i : ℕ) (answer : Result Packet) → PlaceBefore L ps st.place i 0 → Verdict L ps i answer
      → PlaceBefore L ps (carried st answer).place (suc i) 0
  place_after_lem st i (Err x) v t =
      past-packet L ps i 0 st.place (λ a r p. absurd (refused-excludes L ps i x p.packet t p.sound))
      (λ k s d. refused-excludes L ps i x k t s) v
  place_after_lem st i (Ok k) v t = place-within i k t (eqb k.marker 1) refl st.place v
