-- The plain record before a place of the stream: there is none, or one, and which it is from one record and one packet to the next.
-- By the order of packets and records.
use mathlib.Core.Path.{◌≡◌, refl, sym, subst}
use mathlib.Core.List.{List}
use mathlib.Core.Logic.{◌⊎◌, inl, inr, ⊎_elim}
use Prim.Native.Nat.{ℕ, suc, ◌<◌}
use native.Mathlib.Omega.{arith}
use Rattle.std.specs.Prelude.{Option, Some, None}
use Rattle.wire_spec.specs.Layout.{Layout}
use Rattle.wire_spec.specs.Anc.{Record}
use Rattle.wire_spec.specs.Packet.{Packet}
use Rattle.streamcheck_spec.specs.declared.place.Place.{Place}
use Rattle.streamcheck_spec.specs.Rules.{At, Before, Marked, Sound, PlainAt, SameField, PlainBefore}
use Rattle.streamcheck_spec.specs.Check.{place_of}
use Rattle.streamcheck_spec.proofs.RuleLaws.{less-or-equal-or-more, at_one, sound-one}
use Rattle.streamcheck_spec.proofs.KnownLaws.{before-next}

-- of two places one is before the other, or they are one
order : (h a i b : ℕ) → Before h a i b ⊎ (((h ≡ i) × (a ≡ b)) ⊎ Before i b h a)
order h a i b =
    ⊎_elim (λ c. inl (inl c))
    (⊎_elim
    (λ e. ⊎_elim (λ c. inl (inr (e, c))) (⊎_elim (λ d. inr (inl (e, d))) (λ c. inr (inr (inr (sym e, c))))) (less-or-equal-or-more a b))
    (λ c. inr (inr (inl c))))
    (less-or-equal-or-more h i)

-- before the next record: before this one, or this one
before-next-record : (h a i b : ℕ) → Before h a i (suc b) → Before h a i b ⊎ ((h ≡ i) × (a ≡ b))
before-next-record h a i b (inl c) = inl (inl c)
before-next-record h a i b (inr c) =
    ⊎_elim (λ d. inl (inr (c.0, d))) (⊎_elim (λ e. inr (c.0, e)) (λ d. let x = c.1 in absurd (omega arith))) (less-or-equal-or-more a b)

-- nothing lies between a record and the next
none_between : (i b m c : ℕ) → Before i b m c → Before m c i (suc b) → ⊥
none_between i b m c (inl x) (inl y) = omega arith
none_between i b m c (inl x) (inr y) = let e = y.0 in omega arith
none_between i b m c (inr x) (inl y) = let e = x.0 in omega arith
none_between i b m c (inr x) (inr y) = let e = x.1 in let d = y.1 in omega arith

module _ (L : Layout) (ps : List (List ℕ)) where
  -- a place has one record
  pub plain-at-one : (i b : ℕ) (r q : Record) → PlainAt L ps i b r → PlainAt L ps i b q → r ≡ q
  plain-at-one i b r q x y =
      let e = sound-one L ps i x.packet y.packet x.sound y.sound in
      at_one y.packet.records b r q (subst (λ (k : Packet). At k.records b r) e x.at) y.at

  -- the plain record before a place is one
  pub plain-before-one : (h a g c i b : ℕ) (r q : Record) → PlainBefore L ps h a r i b → PlainBefore L ps g c q i b → r ≡ q
  plain-before-one h a g c i b r q x y =
      ⊎_elim (λ d. absurd (x.nearest g c q d y.before y.plain))
      (⊎_elim
      (λ e. plain-at-one g c r q
      (subst (λ (z : ℕ). PlainAt L ps g z r) e.1 (subst (λ (z : ℕ). PlainAt L ps z a r) e.0 x.plain)) y.plain)
      (λ d. absurd (y.nearest h a r d x.before x.plain)))
      (order h a g c)

  -- there is no plain record before
  abbrev pub NonePlain : (i b : ℕ) → Type 0
  NonePlain i b = (h a : ℕ) (r : Record) → Before h a i b → SameField L ps h i → PlainAt L ps h a r → ⊥

  -- there is one, at the place `q`
  pub record PlainPlace (q : Place) (i b : ℕ) : Type 0 where
    pub h : ℕ
    pub a : ℕ
    pub r : Record
    pub last : PlainBefore L ps h a r i b
    pub line : q.line ≡ r.line
    pub offset : q.offset ≡ r.offset

  abbrev pub PlaceBefore : Option Place → (i b : ℕ) → Type 0
  PlaceBefore None i b = NonePlain i b
  PlaceBefore (Some q) i b = PlainPlace q i b

  -- past a record that is not plain
  pub past-special : (i b : ℕ) (q : Option Place) → ((r : Record) → PlainAt L ps i b r → ⊥) → PlaceBefore q i b → PlaceBefore q i (suc b)
  past-special i b None n v = λ h a r x d p.
      ⊎_elim (λ y. v h a r y d p)
      (λ e. n r (subst (λ (z : ℕ). PlainAt L ps i z r) e.1 (subst (λ (z : ℕ). PlainAt L ps z a r) e.0 p)))
      (before-next-record h a i b x)
  past-special i b (Some q) n v =
      record {
        h = v.h;
        a = v.a;
        r = v.r;
        last =
            record {
              plain = v.last.plain;
              before = ⊎_elim (λ x. inl x) (λ x. inr (x.0, let y = x.1 in omega arith)) v.last.before;
              field = v.last.field;
              nearest =
                  λ m c z x y p. ⊎_elim (λ w. v.last.nearest m c z x w p)
                  (λ e. n z (subst (λ (w : ℕ). PlainAt L ps i w z) e.1 (subst (λ (w : ℕ). PlainAt L ps w c z) e.0 p)))
                  (before-next-record m c i b y);
            };
        line = v.line;
        offset = v.offset;
      }

  -- past a plain record
  pub past-plain : (i b : ℕ) (r : Record) → PlainAt L ps i b r → PlaceBefore (place_of r) i (suc b)
  past-plain i b r p =
      record {
        h = i;
        a = b;
        r = r;
        last =
            record {
              plain = p;
              before = inr (refl, omega arith);
              field = λ m x y k s d. omega arith;
              nearest = λ m c z x y w. none_between i b m c x y;
            };
        line = refl;
        offset = refl;
      }

  -- a place before the next packet is before this one's record `b`, if no plain record stands at `b` or behind it
  before-next-packet : (i b m c : ℕ) (r : Record) → ((a : ℕ) (q : Record) → PlainAt L ps i a q → a < b) → PlainAt L ps m c r
      → Before m c (suc i) 0 → Before m c i b
  before-next-packet i b m c r n p (inl x) =
      ⊎_elim (λ y. inl y) (λ e. inr (e, n c r (subst (λ (z : ℕ). PlainAt L ps z c r) e p))) (before-next L ps m i x)
  before-next-packet i b m c r n p (inr x) = let y = x.1 in absurd (omega arith)

  -- to the next packet: no plain record at `b` or behind it, and no mark
  pub past-packet : (i b : ℕ) (q : Option Place) → ((a : ℕ) (r : Record) → PlainAt L ps i a r → a < b)
      → ((k : Packet) → Sound L ps i k → Marked k → ⊥) → PlaceBefore q i b → PlaceBefore q (suc i) 0
  past-packet i b None n u v = λ h a r x d p.
      v h a r (before-next-packet i b h a r n p x) (λ m y z. d m y (omega arith)) p
  past-packet i b (Some q) n u v =
      record {
        h = v.h;
        a = v.a;
        r = v.r;
        last =
            record {
              plain = v.last.plain;
              before = inl (⊎_elim (λ x. omega arith) (λ x. let e = x.0 in omega arith) v.last.before);
              field =
                  λ m x y k s d. ⊎_elim (λ w. v.last.field m x w k s d) (λ e. u k (subst (λ (z : ℕ). Sound L ps z k) e s) d)
                  (before-next L ps m i y);
              nearest = λ m c z x y p. v.last.nearest m c z x (before-next-packet i b m c z n p y) p;
            };
        line = v.line;
        offset = v.offset;
      }

  -- past a marked packet there is none
  pub past-mark : (i : ℕ) (k : Packet) → Sound L ps i k → Marked k → NonePlain (suc i) 0
  past-mark i k s d h a r (inl x) f p = f i (omega arith) (omega arith) k s d
  past-mark i k s d h a r (inr x) f p = let y = x.1 in omega arith

  -- before the first packet there is none
  pub place-at-start : NonePlain 0 0
  place-at-start h a r (inl x) f p = omega arith
  place-at-start h a r (inr x) f p = let y = x.1 in omega arith
