-- The tests on numbers, timestamps, F and reserved bits hold exactly where the rules are broken.
-- The last packet not refused is one, and the state is its.
use mathlib.Core.Path.{◌≡◌, refl, sym, ◌∙◌, ap, subst}
use mathlib.Core.Bool.{Bool, true, false, not, ◌&&◌, ◌||◌, true≢false}
use mathlib.Core.List.{List}
use mathlib.Core.Logic.{◌⊎◌, inl, inr, ⊎_elim, ◌↔◌}
use Prim.Native.Nat.{ℕ}
use lib.Dec.{eqb}
use borrow.Author.Tests.{eqb-false, ne_eqb, not-true}
use Rattle.std.specs.Prelude.{Option, Some, None}
use Rattle.wire_spec.specs.Layout.{Layout}
use Rattle.wire_spec.specs.Packet.{Packet}
use Rattle.rtp_strict_reader.specs.declared.packet.Head.{Head}
use Rattle.streamcheck_spec.specs.Rules.{number_of, following, Sound, Previous, Pair, NumberNotNext, ChangedBeforeMark, ReservedBitsSet}
use Rattle.streamcheck_spec.specs.Check.{is_gap, is_change, is_reserved}
use Rattle.streamcheck_spec.proofs.RuleLaws.{less-or-equal-or-more, sound-one}
use Rattle.streamcheck_spec.proofs.KnownLaws.{KnownBefore, Follows}

-- a test that fails of two numbers that are equal
not_eqb : (a b : ℕ) → not (eqb a b) ≡ true → a ≡ b → ⊥
not_eqb a b e = eqb-false a b (not-true (eqb a b) e)

eqb-not : (a b : ℕ) → (a ≡ b → ⊥) → not (eqb a b) ≡ true
eqb-not a b h = rw (ne_eqb a b h)

pub and_split : (a b : Bool) → a && b ≡ true → (a ≡ true) × (b ≡ true)
and_split true b e = (refl, e)
and_split false b e = absurd (true≢false (sym e))

pub or_split : (a b : Bool) → a || b ≡ true → (a ≡ true) ⊎ (b ≡ true)
or_split true b e = inl refl
or_split false b e = inr e

pub or_left : (a b : Bool) → a ≡ true → a || b ≡ true
or_left a b e = rw e

pub or_right : (a b : Bool) → b ≡ true → a || b ≡ true
or_right true b e = refl
or_right false b e = e

module _ (L : Layout) (ps : List (List ℕ)) where
  -- the last packet not refused is one
  pub previous-one : (i g h : ℕ) (k l : Packet) → Previous L ps i g k → Previous L ps i h l → k ≡ l
  previous-one i g h k l a b =
      ⊎_elim (λ c. absurd (a.greatest h c b.before l b.sound))
      (⊎_elim (λ e. sound-one L ps h k l (subst (λ (z : ℕ). Sound L ps z k) e a.sound) b.sound)
      (λ c. absurd (b.greatest g c a.before k a.sound)))
      (less-or-equal-or-more g h)

  module _ (i : ℕ) (k : Packet) (s : Sound L ps i k) where
    -- what is compared is this packet and the one that the state has
    same_here : (l m : Packet) → Pair L ps i l m → k ≡ l
    same_here l m p = sound-one L ps i k l s p.sound

    same-last : (st : Head) (n : Follows L ps st i) (l m : Packet) → Pair L ps i l m → n.last ≡ m
    same-last st n l m p = previous-one i n.h p.h n.last m n.previous p.previous

    pair : (st : Head) (n : Follows L ps st i) → Pair L ps i k n.last
    pair st n = record { sound = s; h = n.h; previous = n.previous }

    gap-shows : (last : Option Head) → KnownBefore L ps last i → is_gap last k ≡ true → NumberNotNext L ps i
    unfolding is_gap
    gap-shows None n e = absurd (true≢false (sym e))
    gap-shows (Some st) n e =
        record {
          here = k;
          last = n.last;
          pair = pair st n;
          number = λ z. not_eqb (number_of k) (following st.number.0) e (z ∙ ap following (sym n.number));
        }

    gap-found : (last : Option Head) → KnownBefore L ps last i → NumberNotNext L ps i → is_gap last k ≡ true
    unfolding is_gap
    gap-found None n g =
        absurd (n g.pair.h g.pair.previous.before g.last g.pair.previous.sound.compared.accepts)
    gap-found (Some st) n g =
        eqb-not (number_of k) (following st.number.0)
        (λ z. g.number
        (ap number_of (sym (same_here g.here g.last g.pair))
        ∙ z
        ∙ ap following (n.number ∙ ap number_of (same-last st n g.here g.last g.pair))))

    pub gap-iff : (last : Option Head) → KnownBefore L ps last i → (is_gap last k ≡ true) ↔ NumberNotNext L ps i
    gap-iff last n = (gap-shows last n, gap-found last n)

    change-shows : (last : Option Head) → KnownBefore L ps last i → is_change last k ≡ true → ChangedBeforeMark L ps i
    unfolding is_change
    change-shows None n e = absurd (true≢false (sym e))
    change-shows (Some st) n e =
        let c = and_split (not st.marker) _ e in
        record {
          here = k;
          last = n.last;
          pair = pair st n;
          unmarked = λ z. not_eqb n.last.marker 1 (ap not (sym n.marked) ∙ c.0) z;
          differs =
              ⊎_elim
              (λ d. inl (λ z. not_eqb k.timestamp st.timestamp.0 d (z ∙ sym n.timestamp)))
              (λ d. inr (λ z. not_eqb k.f st.f d (z ∙ sym n.f)))
              (or_split (not (eqb k.timestamp st.timestamp.0)) (not (eqb k.f st.f)) c.1);
        }

    change-found : (last : Option Head) → KnownBefore L ps last i → ChangedBeforeMark L ps i → is_change last k ≡ true
    unfolding is_change
    change-found None n g =
        absurd (n g.pair.h g.pair.previous.before g.last g.pair.previous.sound.compared.accepts)
    change-found (Some st) n g =
        let here = same_here g.here g.last g.pair in
        let last = same-last st n g.here g.last g.pair in
        let u : not st.marker ≡ true =
        ap not n.marked ∙ eqb-not n.last.marker 1 (λ z. g.unmarked (ap (λ (y : Packet). y.marker) (sym last) ∙ z)) in
        let d : not (eqb k.timestamp st.timestamp.0) || not (eqb k.f st.f) ≡ true =
        ⊎_elim
        (λ t. or_left (not (eqb k.timestamp st.timestamp.0)) (not (eqb k.f st.f))
        (eqb-not k.timestamp st.timestamp.0
        (λ z. t (ap (λ (y : Packet). y.timestamp) (sym here) ∙ z ∙ n.timestamp ∙ ap (λ (y : Packet). y.timestamp) last))))
        (λ t. or_right (not (eqb k.timestamp st.timestamp.0)) (not (eqb k.f st.f))
        (eqb-not k.f st.f (λ z. t (ap (λ (y : Packet). y.f) (sym here) ∙ z ∙ n.f ∙ ap (λ (y : Packet). y.f) last))))
        g.differs in
        rw (u, d)

    pub change-iff : (last : Option Head) → KnownBefore L ps last i → (is_change last k ≡ true) ↔ ChangedBeforeMark L ps i
    change-iff last n = (change-shows last n, change-found last n)

    pub reserved-iff : (is_reserved k ≡ true) ↔ ReservedBitsSet L ps i
    unfolding is_reserved
    reserved-iff = (
      λ e. record { here = k; sound = s; reserved = not_eqb k.reserved 0 e },
      λ g. eqb-not k.reserved 0
          (λ z. g.reserved (ap (λ (y : Packet). y.reserved) (sym (sound-one L ps i k g.here s g.sound)) ∙ z)),
    )
