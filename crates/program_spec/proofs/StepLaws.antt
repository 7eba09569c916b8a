-- ONE TURN, from what is answered for the item at the front and from what `after_step` does with it; a text put at the start; and the last text.
-- By the answer.
use mathlib.Core.Path.{◌≡◌, refl, ap, sym, subst, ◌∙◌}
use mathlib.Core.Bool.{Bool, true, false, true≢false}
use mathlib.Core.List.{List, []}
use Prim.Native.Nat.{ℕ, zero, suc, ◌+◌, ◌-◌, ◌≤◌, ◌<◌}
use native.Mathlib.Omega.{arith}
use lib.ListN.{length, take, drop, length-append}
use lib.Seq.{take-append_seam}
use Rattle.wire_spec.specs.Bits.{overwrite}
use Rattle.wire_spec.proofs.ListLaws.{part-written, take-splice}
use Rattle.program_spec.specs.declared.buffers.Buffers.{Buffers}
use Rattle.program_spec.specs.declared.buffers.Step.{Step as Answer}
use Rattle.program_spec.specs.declared.buffers.Step.TheVariants as answer
use Rattle.program_spec.specs.Buffers.{Flushed, begun, ended, is_done}
use Rattle.program_spec.specs.Walk.{Front, short, taken, over, Program}
use Rattle.program_spec.specs.Run.{Answers, At, CanStep, Closed, Closing, Fits, InBounds, Started, Step, Stepped, Turned, answer_of, at, free, octets_after, room_too_small, state_after, unused}
use Rattle.program_spec.proofs.BufferLaws.{done, flushed-bounds, lent, length-lent, out_with, part-behind, read-bounds, short as short-part, text-waits}

-- what an entry point answers, by the room and by what stands at the front
module _ (P : Program) {most : ℕ} {s : P.State} {octets out : List ℕ} where
  pub no_room : P.room s (length out) ≡ false → Answers P most s octets out (answer.Refused room_too_small) s out
  no_room e =
      record {
        answer = sym (ap (λ (r : Bool). answer_of r (P.front s octets)) e);
        state = sym (ap (λ (r : Bool). state_after r s (P.front s octets)) e);
        text = sym (ap (λ (r : Bool). octets_after r (P.front s octets) out) e);
        fits = tt;
      }

  module _ (e : P.room s (length out) ≡ true) where
    by : {f : Front P.State} {y : Answer} {s' : P.State} {out' : List ℕ} → P.front s octets ≡ f → y ≡ answer_of true f → s' ≡ state_after true s f → out' ≡ octets_after true f out
        → Fits y most (length octets) (length out) → Answers P most s octets out y s' out'
    by f y n o w =
        record {
          answer = y ∙ sym (λ i. answer_of (e i) (f i));
          state = n ∙ sym (λ i. state_after (e i) s (f i));
          text = o ∙ sym (λ i. octets_after (e i) (f i) out);
          fits = w;
        }

    pub is-short : P.front s octets ≡ short → length octets < most → Answers P most s octets out answer.Short s out
    is-short f w = by f refl refl refl w

    pub is-over : {z : P.State} → P.front s octets ≡ over z → Answers P most s octets out answer.Over z out
    is-over f = by f refl refl refl tt

    pub is-taken : {n : ℕ} {t : List ℕ} {z : P.State} → P.front s octets ≡ taken n t z → {used size : ℕ} {s' : P.State} {out' : List ℕ}
        → used ≡ n → size ≡ length t → s' ≡ z → out' ≡ overwrite t out → used ≤ length octets → size ≤ length out → Answers P most s octets out (answer.Taken used size) s' out'
    is-taken f u k n o i j = by f (λ l. answer.Taken (u l) (k l)) n o (i, j)

-- there was no room, though all of `out` is enough: text waits
waits : (P : Program) (a : At P.State) → P.room a.state (length a.out) ≡ true → P.room a.state (free a) ≡ false → 0 < a.buffers.filled
waits P a enough e = go a.buffers.filled refl
  where
    go : (n : ℕ) → a.buffers.filled ≡ n → 0 < n
    go zero h = let l : free a ≡ length a.out = omega (arith, h) in absurd (true≢false (sym enough ∙ ap (P.room a.state) (sym l) ∙ e))
    go (suc n) h = omega arith

module _ (P : Program) {most : ℕ} (a : At P.State) {s' : P.State} {part : List ℕ} (inside : InBounds a) (same_size : length (out_with a.buffers a.out part) ≡ length a.out) where
  -- what `after_step` asks
  pub can-step : {y : Answer} → Answers P most a.state (unused a) (lent a.buffers a.out) y s' part → most ≤ length a.input → CanStep y a.buffers (length a.input) (length (out_with a.buffers a.out part))
  can-step {y} k h = go y k.fits
    where
      go : (y : Answer) → Fits y most (length (unused a)) (length (lent a.buffers a.out)) → CanStep y a.buffers (length a.input) (length (out_with a.buffers a.out part))
      go (answer.Taken used size) f =
          (omega (arith, f.0, short-part a.buffers a.input a.out (inside), inside.0), omega (arith, f.1, length-lent a.buffers a.out, inside.2, same_size))
      go answer.Short f = omega (arith, f, short-part a.buffers a.input a.out (inside), h)
      go answer.Over f = tt
      go (answer.Refused d) f = tt

  -- THE TURN
  pub turned_by : {y : Answer} → Answers P most a.state (unused a) (lent a.buffers a.out) y s' part → P.room a.state (length a.out) ≡ true → {r : Buffers} {input' : List ℕ}
      → Stepped y a.buffers a.input r input' → Turned P a (at s' r input' (out_with a.buffers a.out part))
  turned_by {y} k enough {r} {input'} x =
      go (P.room a.state (length (lent a.buffers a.out))) (P.front a.state (unused a)) refl refl y k.answer k.state k.text k.fits x
    where
      free-room : {q : Bool} → P.room a.state (length (lent a.buffers a.out)) ≡ q → P.room a.state (free a) ≡ q
      free-room e = ap (P.room a.state) (sym (length-lent a.buffers a.out)) ∙ e

      by-step : (q : Bool) (f : Front P.State) → P.room a.state (length (lent a.buffers a.out)) ≡ q → P.front a.state (unused a) ≡ f
          → InBounds (at s' r input' (out_with a.buffers a.out part)) → Step q f a (at s' r input' (out_with a.buffers a.out part))
          → Turned P a (at s' r input' (out_with a.buffers a.out part))
      by-step q f e g i t =
          record {
            bounds = i;
            step =
                subst (λ (z : Bool). Step z (P.front a.state (unused a)) a (at s' r input' (out_with a.buffers a.out part))) (sym (free-room e))
                (subst (λ (z : Front P.State). Step q z a (at s' r input' (out_with a.buffers a.out part))) (sym g) t);
          }

      go : (q : Bool) (f : Front P.State) → P.room a.state (length (lent a.buffers a.out)) ≡ q → P.front a.state (unused a) ≡ f → (y : Answer) → y ≡ answer_of q f → s' ≡ state_after q a.state f
          → part ≡ octets_after q f (lent a.buffers a.out) → Fits y most (length (unused a)) (length (lent a.buffers a.out)) → Stepped y a.buffers a.input r input'
          → Turned P a (at s' r input' (out_with a.buffers a.out part))
      go false f e g (answer.Refused d) h n o w (t, same) =
          let i = flushed-bounds a.buffers a.input a.out (inside) r t in
          by-step false f e g (i.0, omega (arith, i.1, ap length same), omega (arith, i.2, same_size)) (n, text-waits a.buffers a.out part inside.2, t, same, waits P a enough (free-room e))
      go true short e g answer.Short h n o w t =
          let i = read-bounds a.buffers a.input a.out (inside) r input' t in
          by-step true short e g (i.0, i.1, omega (arith, i.2, same_size)) (n, text-waits a.buffers a.out part inside.2, t)
      go true (over z) e g answer.Over h n o w (t, same) =
          let i = flushed-bounds (ended a.buffers a.buffers.filled) a.input a.out (inside) r t in
          by-step true (over z) e g (i.0, omega (arith, i.1, ap length same), omega (arith, i.2, same_size)) (n, text-waits a.buffers a.out part inside.2, t, same)
      go true (taken m u z) e g (answer.Taken used size) h n o w (t, same) =
          let p : used ≡ m = cc in
          let l : size ≡ length u = cc in
          let c : (a.buffers.at + used ≤ a.buffers.end) × (a.buffers.filled + size ≤ length a.out) =
          (omega (arith, w.0, short-part a.buffers a.input a.out (inside), inside.0), omega (arith, w.1, length-lent a.buffers a.out, inside.2)) in
          by-step true (taken m u z) e g
          (subst (λ (d : Buffers). InBounds (at s' d input' (out_with a.buffers a.out part))) (sym t) (c.0, omega (arith, inside.1, ap length same), omega (arith, c.1, same_size))) (
            n,
            record {
              filled = ap (λ (d : Buffers). d.filled) t ∙ ap (λ (j : ℕ). a.buffers.filled + j) l;
              text =
                  (λ i. take (t i).filled (out_with a.buffers a.out part))
                  ∙ (λ i. take (a.buffers.filled + l i) (part-written a.buffers.filled a.out u part o i)) ∙ take-splice a.out a.buffers.filled u inside.2;
              octets =
                  (λ i. take ((t i).end - (t i).at) (drop (t i).at (same i)))
                  ∙ part-behind a.input a.buffers.at a.buffers.end inside.0 inside.1 used c.0 ∙ ap (λ (j : ℕ). drop j (unused a)) p;
              goes_on = ap (λ (d : Buffers). d.«open») t;
            },
          )
      go false f e g answer.Short h n o w t = let z : ◌≡◌ {A = ℕ} 0 1 = cc in absurd (omega arith)
      go false f e g answer.Over h n o w t = let z : ◌≡◌ {A = ℕ} 0 1 = cc in absurd (omega arith)
      go false f e g (answer.Taken i j) h n o w t = let z : ◌≡◌ {A = ℕ} 0 1 = cc in absurd (omega arith)
      go true short e g (answer.Refused d) h n o w t = let z : ◌≡◌ {A = ℕ} 0 1 = cc in absurd (omega arith)
      go true short e g answer.Over h n o w t = let z : ◌≡◌ {A = ℕ} 0 1 = cc in absurd (omega arith)
      go true short e g (answer.Taken i j) h n o w t = let z : ◌≡◌ {A = ℕ} 0 1 = cc in absurd (omega arith)
      go true (over z) e g (answer.Refused d) h n o w t = let z : ◌≡◌ {A = ℕ} 0 1 = cc in absurd (omega arith)
      go true (over z) e g answer.Short h n o w t = let z : ◌≡◌ {A = ℕ} 0 1 = cc in absurd (omega arith)
      go true (over z) e g (answer.Taken i j) h n o w t = let z : ◌≡◌ {A = ℕ} 0 1 = cc in absurd (omega arith)
      go true (taken m u v) e g (answer.Refused d) h n o w t = let z : ◌≡◌ {A = ℕ} 0 1 = cc in absurd (omega arith)
      go true (taken m u v) e g answer.Short h n o w t = let z : ◌≡◌ {A = ℕ} 0 1 = cc in absurd (omega arith)
      go true (taken m u v) e g answer.Over h n o w t = let z : ◌≡◌ {A = ℕ} 0 1 = cc in absurd (omega arith)

-- a text is put
pub record Put (t out out' : List ℕ) (n : ℕ) : Type 0 where
  pub octets : out' ≡ overwrite t out
  pub text : take n out' ≡ t
  pub fits : n ≤ length out'

pub text-put : (t out : List ℕ) {out' : List ℕ} {n : ℕ} → out' ≡ overwrite t out → n ≡ length t → Put t out out' n
text-put t out o k =
    record {
      octets = o;
      text = (λ i. take (k i) (o i)) ∙ take-append_seam t (drop (length t) out);
      fits = omega (arith, k, ap length o, length-append t (drop (length t) out));
    }

-- the first text
pub first-put : (P : Program) {s₀ : P.State} {out out' input : List ℕ} {n : ℕ} {b : Buffers} → b ≡ begun n → Put P.first out out' n → Started P s₀ (at s₀ b input out')
first-put P {s₀} {out' = out'} {input = input} e p =
    subst (λ (z : Buffers). Started P s₀ (at s₀ z input out')) (sym e) (record { state = refl; bounds = (omega arith, omega arith, p.fits); text = p.text; goes_on = refl })

-- the last text: none where the run is not done, else it is put and written
module _ (P : Program) {a : At P.State} where
  pub closed-before : is_done a.buffers ≡ false → Closed P a a.buffers a.out
  closed-before e = record { ready = a.buffers; step = subst (λ (z : Bool). Closing P z a a.buffers a.buffers a.out) (sym e) (refl, refl, refl) }

  pub closed-last : {ready r : Buffers} {out' : List ℕ} {n : ℕ} → is_done a.buffers ≡ true → Put (P.closing a.state (unused a)) a.out out' n → ready ≡ ended a.buffers n
      → Flushed ready r → Closed P a r out'
  closed-last {ready} {r} {out'} e p k f =
      record {
        ready = ready;
        step =
            subst (λ (z : Bool). Closing P z a ready r out') (sym e)
            (record { octets = p.octets; text = ap (λ (z : Buffers). take z.filled out') k ∙ p.text; flushed = f });
      }

  -- where there is none
  pub closed-without : P.closing a.state (unused a) ≡ [] → Closed P a a.buffers a.out
  closed-without w = go (is_done a.buffers) refl
    where
      go : (z : Bool) → is_done a.buffers ≡ z → Closed P a a.buffers a.out
      go false e = closed-before e
      go true e =
          let d = done a.buffers e in
          closed-last e (text-put (P.closing a.state (unused a)) a.out (sym (ap (λ (t : List ℕ). overwrite t a.out) w)) (sym (ap length w))) refl
          (record { written = true; at = refl; end = refl; filled = d.empty; goes_on = d.ended; fails = refl })
