-- What the layouts differ in: their places, as the code uses them, and what each can hold of what RFC 8331's holds.
-- By cases on the layout, where its numbers are numerals.
use mathlib.Core.Path.{◌≡◌, refl}
use mathlib.Core.Bool.{true, ◌&&◌}
use mathlib.Core.Logic.{◌↔◌}
use mathlib.Core.List.{List, [], ◌∷◌}
use Prim.Native.Nat.{ℕ, ◌+◌, ◌*◌, ◌%◌, ◌^◌, ◌<◌, ◌≤◌}
use native.Mathlib.Omega.{arith}
use lib.Dec.{eqb}
use borrow.Author.Tests.{eq-eqb, eqb-true}
use Rattle.wire_spec.specs.declared.layout.Layout.TheVariants as layout
use Rattle.wire_spec.specs.Words.{word_bits}
use Rattle.wire_spec.specs.Layout.{Layout, rfc8331, draft2015, r_bits, least_size, f_bits, payload_header_size}
use Rattle.wire_spec.specs.Anc.{Each, Record, WellFormed, did_at, words_at}
use Rattle.wire_spec.specs.Writing.{no_stream, layout_ok}
use Rattle.wire_spec.proofs.ResultLaws.{and-true, and_both}

-- THE PLACES OF A LAYOUT: words start at even bits, within the first octets of the smallest packet
pub record Places (L : Layout) : Type 0 where
  pub did-even : did_at L % 2 ≡ 0
  pub words-even : words_at L % 2 ≡ 0
  pub did-near : did_at L ≤ 32
  pub r-few : r_bits L ≤ 2
  pub least : words_at L + word_bits ≤ 8 * least_size L
  pub least-near : least_size L ≤ 12
  pub payload-least : 5 ≤ payload_header_size L
  pub payload-near : payload_header_size L ≤ 8

pub places : (L : Layout) → Places L
places layout.Rfc8331 =
    record {
      did-even = refl;
      words-even = refl;
      did-near = omega arith;
      r-few = omega arith;
      least = omega arith;
      least-near = omega arith;
      payload-least = omega arith;
      payload-near = omega arith;
    }
places layout.Draft2015 =
    record {
      did-even = refl;
      words-even = refl;
      did-near = omega arith;
      r-few = omega arith;
      least = omega arith;
      least-near = omega arith;
      payload-least = omega arith;
      payload-near = omega arith;
    }

-- a record of the drafts' layout is one of RFC 8331's whose S and StreamNum are zero
draft-record : (r : Record) → (WellFormed rfc8331 r × (r.s ≡ 0) × (r.stream ≡ 0)) ↔ WellFormed draft2015 r
draft-record r = (
  λ p.
      let g = p.0.fits in
      record {
        fits = record { c = g.c; line = g.line; offset = g.offset; s = omega (arith, p.1); stream = omega (arith, p.2); did = g.did; sdid = g.sdid; count = g.count; words = g.words };
        clear = p.0.clear;
      },
  λ w.
      let g = w.fits in (
        record {
          fits = record { c = g.c; line = g.line; offset = g.offset; s = omega (arith, g.s); stream = omega (arith, g.stream); did = g.did; sdid = g.sdid; count = g.count; words = g.words };
          clear = w.clear;
        },
        omega (arith, g.s),
        omega (arith, g.stream),
      ),
)

draft-each : (rs : List Record) → (Each (WellFormed rfc8331) rs × (no_stream rs ≡ true)) ↔ Each (WellFormed draft2015) rs
draft-each [] = (λ p. tt, λ h. (tt, refl))
draft-each (r ∷ rs) =
    let ih = draft-each rs in
    let one = draft-record r in (
      λ p.
          let a = and-true (eqb r.s 0 && eqb r.stream 0) (no_stream rs) p.1 in
          let b = and-true (eqb r.s 0) (eqb r.stream 0) a.0 in
          (one.0 (p.0.0, eqb-true r.s 0 b.0, eqb-true r.stream 0 b.1), ih.0 (p.0.1, a.1)),
      λ h.
          let x = one.1 h.0 in
          let y = ih.1 h.1 in
          ((x.0, y.0), and_both (and_both (eq-eqb r.s 0 x.1) (eq-eqb r.stream 0 x.2)) y.1),
    )

-- WHAT PASSES 25 is what the layout can hold: F and the records of a list that passed 24 and 20 fit their fields
pub layout-iff : (L : Layout) (f : ℕ) (rs : List Record)
    → (Each (WellFormed rfc8331) rs × (f ≤ 3) × (layout_ok L f rs ≡ true)) ↔ (Each (WellFormed L) rs × (f < 2 ^ f_bits L))
layout-iff layout.Rfc8331 f rs = (λ p. (p.0, omega (arith, p.1)), λ p. (p.0, omega (arith, p.1), refl))
layout-iff layout.Draft2015 f rs = (
  λ p.
      let a = and-true (eqb f 0) (no_stream rs) p.2 in
      let z = eqb-true f 0 a.0 in
      ((draft-each rs).0 (p.0, a.1), omega arith),
  λ p.
      let d = (draft-each rs).1 p.0 in
      let z : f ≡ 0 = omega (arith, p.1) in
      (d.0, omega arith, and_both (eq-eqb f 0 z) d.1),
)
