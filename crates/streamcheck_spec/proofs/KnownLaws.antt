-- What the checker carries: the first accepted packet's source and type, and what the last packet not refused says.
-- By induction from packet to packet; a packet is admitted exactly where the rules do not refuse it.
use mathlib.Core.Path.{◌≡◌, refl, sym, ◌∙◌, subst}
use mathlib.Core.Bool.{Bool, true, false}
use mathlib.Core.List.{List, [], ◌∷◌}
use mathlib.Core.Logic.{◌⊎◌, inl, inr, ⊎_elim}
use Prim.Native.Nat.{ℕ, suc, ◌<◌}
use native.Mathlib.Omega.{arith}
use lib.Dec.{eqb}
use borrow.Author.Tests.{eqb-true, eqb-false}
use Rattle.std.specs.Prelude.{Option, Some, None}
use Rattle.wire_spec.specs.declared.refusal.Refusal.{Refusal}
use Rattle.wire_spec.specs.Layout.{Layout}
use Rattle.wire_spec.specs.Result.{Result, Err, Ok, judge, ◌then◌}
use Rattle.wire_spec.specs.Packet.{Packet, read_packet}
use Rattle.rtp_strict_reader.specs.declared.packet.Head.{Head}
use Rattle.streamcheck_spec.specs.declared.checker.Checker.{Checker}
use Rattle.streamcheck_spec.specs.Rules.{At, number_of, Reads, First, Compared, Refuses, Sound, Previous}
use Rattle.streamcheck_spec.specs.Check.{opened, origin_checks, admitted, carried}
use Rattle.streamcheck_spec.proofs.RuleLaws.{less-or-equal-or-more, refused-excludes}

module _ (L : Layout) (ps : List (List ℕ)) where
  -- no packet before `i` is accepted
  abbrev pub NoneAccepted : ℕ → Type 0
  NoneAccepted i = (h : ℕ) → h < i → (k : Packet) → Reads L ps h (Ok k) → ⊥

  -- the state is that of the last packet not refused before `i`
  pub record Follows (st : Head) (i : ℕ) : Type 0 where
    pub origin : ℕ
    pub opening : Packet
    pub first : First L ps origin opening
    pub source : st.source ≡ opening.source
    pub type : st.payload_type ≡ opening.type
    pub h : ℕ
    pub last : Packet
    pub previous : Previous L ps i h last
    pub number : st.number.0 ≡ number_of last
    pub timestamp : st.timestamp.0 ≡ last.timestamp
    pub f : st.f ≡ last.f
    pub marked : st.marker ≡ eqb last.marker 1

  abbrev pub KnownBefore : Option Head → ℕ → Type 0
  KnownBefore None i = NoneAccepted i
  KnownBefore (Some st) i = Follows st i

  -- what an answer of the checker has to say of packet `i`
  abbrev pub Verdict : ℕ → Result Packet → Type 0
  Verdict i (Err x) = Refuses L ps i x
  Verdict i (Ok k) = Sound L ps i k

  -- the first accepted packet is not refused
  pub first-sound : (i : ℕ) (k : Packet) → NoneAccepted i → Reads L ps i (Ok k) → Sound L ps i k
  first-sound i k n a =
      record {
        opening = k;
        compared = record { accepts = a; origin = i; first = record { accepts = a; least = n } };
        source = refl;
        type = refl;
      }

  -- 30 and 31
  origin-verdict : (last : Option Head) (i : ℕ) (k : Packet) → KnownBefore last i → Reads L ps i (Ok k)
      → Verdict i (judge 0 (origin_checks last k) (Ok k))
  origin-verdict None i k n a = first-sound i k n a
  origin-verdict (Some st) i k n a = go (eqb k.source st.source) refl (eqb k.type st.payload_type) refl
    where
      compared : Compared L ps i k n.opening
      compared = record { accepts = a; origin = n.origin; first = n.first }

      go : (s : Bool) → eqb k.source st.source ≡ s → (t : Bool) → eqb k.type st.payload_type ≡ t
          → Verdict i (judge 0 ((s, 30) ∷ (t, 31) ∷ []) (Ok k))
      go true e true d =
          record {
            opening = n.opening;
            compared = compared;
            source = eqb-true k.source st.source e ∙ n.source;
            type = eqb-true k.type st.payload_type d ∙ n.type;
          }
      go true e false d =
          inr
          (inr (
            record {
              here = k;
              there = n.opening;
              compared = compared;
              source = eqb-true k.source st.source e ∙ n.source;
              type = λ z. eqb-false k.type st.payload_type d (z ∙ sym n.type);
            },
            refl,
          ))
      go false e t d =
          inr
          (inl (
            record {
              here = k;
              there = n.opening;
              compared = compared;
              source = λ z. eqb-false k.source st.source e (z ∙ sym n.source);
            },
            refl,
          ))

  -- the checker admits a packet exactly where the rules do not refuse it
  pub verdict : (st : Checker) (i : ℕ) (p : List ℕ) → At ps i p → KnownBefore st.last i → Verdict i (admitted L st p)
  unfolding admitted
  verdict st i p a n = go (read_packet L p) refl
    where
      go : (q : Result Packet) → read_packet L p ≡ q → Verdict i (q then λ k. judge 0 (origin_checks st.last k) (Ok k))
      go (Err x) e = inl (record { octets = p; at = a; reading = e })
      go (Ok k) e = origin-verdict st.last i k n (record { octets = p; at = a; reading = e })

  -- before the first packet nothing is known
  pub known-at-start : KnownBefore opened.last 0
  known-at-start h b k a = omega arith

  -- an index before the next is before this one, or is this one
  pub before-next : (m i : ℕ) → m < suc i → (m < i) ⊎ (m ≡ i)
  before-next m i b =
      ⊎_elim (λ h. inl h) (⊎_elim (λ e. inr e) (λ h. inl (omega arith))) (less-or-equal-or-more m i)

  -- a refused packet leaves what was known
  refused-known : (last : Option Head) (i : ℕ) (x : Refusal) → KnownBefore last i → Refuses L ps i x → KnownBefore last (suc i)
  refused-known None i x n v = λ h b k a.
      ⊎_elim (λ c. n h c k a)
      (λ e. refused-excludes L ps i x k v (first-sound i k n (subst (λ (z : ℕ). Reads L ps z (Ok k)) e a)))
      (before-next h i b)
  refused-known (Some st) i x n v =
      record {
        origin = n.origin;
        opening = n.opening;
        first = n.first;
        source = n.source;
        type = n.type;
        h = n.h;
        last = n.last;
        previous =
            record {
              before = let b = n.previous.before in omega arith;
              sound = n.previous.sound;
              greatest =
                  λ m c b l s. ⊎_elim (λ d. n.previous.greatest m c d l s)
                  (λ e. refused-excludes L ps i x l v (subst (λ (z : ℕ). Sound L ps z l) e s)) (before-next m i b);
            };
        number = n.number;
        timestamp = n.timestamp;
        f = n.f;
        marked = n.marked;
      }

  -- after packet `i` the state is that of the last packet not refused
  pub known-after : (st : Checker) (i : ℕ) (q : Result Packet) → KnownBefore st.last i → Verdict i q → KnownBefore (carried st q).last (suc i)
  known-after st i (Err x) n v = refused-known st.last i x n v
  known-after st i (Ok k) n v =
      record {
        origin = v.compared.origin;
        opening = v.opening;
        first = v.compared.first;
        source = v.source;
        type = v.type;
        h = i;
        last = k;
        previous = record { before = omega arith; sound = v; greatest = λ m c b l s. omega arith };
        number = refl;
        timestamp = refl;
        f = refl;
        marked = refl;
      }
