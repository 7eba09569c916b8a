-- A state is sound exactly when none of 64's cases holds.
use mathlib.Core.Path.{◌≡◌, refl, sym, ◌∙◌, ap}
use mathlib.Core.Bool.{Bool, true, false, true≢false, not, ◌&&◌, ◌||◌}
use Prim.Native.Nat.{ℕ, zero, suc, ◌≤◌, ◌<◌}
use native.Mathlib.Omega.{arith}
use lib.Dec.{eqb, ltb}
use lib.ListN.{get_or}
use borrow.Author.Tests.{eqb-true, ltb-true, ltb-false, lt-ltb, le-leb}
use Rattle.egress_spec.specs.declared.state.State.{State}
use Rattle.egress_spec.specs.Places.{held, slot_at, length_fits, used_below, place_ok, channel_ok, slot_ok, sound}
use Rattle.egress_spec.specs.Laws.{SoundState}
use Rattle.egress_spec.proofs.Upto.{upto_all}
use Rattle.egress_spec.proofs.PlaceLaws.{numbers, head-fits, count_fits, next_fits, slot-fits, held-ready}
use Rattle.egress_spec.proofs.FreeLaws.{used-at}

-- of two held places with one slot neither comes first
earlier : (st : State) (j k : ℕ) → sound st ≡ true → k < 64 → held st j ≡ true → held st k ≡ true → slot_at st j ≡ slot_at st k → j < k → ⊥
earlier st j k s l a b e h =
    true≢false (sym (used-at st k j h a) ∙ ap (used_below st k) e ∙ (held-ready st k s l b).once)

-- a used slot is held at a place
used-from : (st : State) (n s : ℕ) → used_below st n s ≡ true → (j : ℕ) × (j < n) × (held st j ≡ true) × (s ≡ slot_at st j)
unfolding used_below
used-from st zero s e = absurd (true≢false (sym e))
used-from st (suc n) s e = go (held st n) refl (eqb s (slot_at st n)) refl e (λ f. used-from st n s f)
  where
    up : (j : ℕ) × (j < n) × (held st j ≡ true) × (s ≡ slot_at st j) → (j : ℕ) × (j < suc n) × (held st j ≡ true) × (s ≡ slot_at st j)
    up w = (w.0, omega (arith, w.1), w.2, w.3)

    go : (a : Bool) → held st n ≡ a → (b : Bool) → eqb s (slot_at st n) ≡ b → (a && b) || used_below st n s ≡ true
        → (used_below st n s ≡ true → (j : ℕ) × (j < n) × (held st j ≡ true) × (s ≡ slot_at st j)) → (j : ℕ) × (j < suc n) × (held st j ≡ true) × (s ≡ slot_at st j)
    go true x true y f i = (n, omega arith, x, eqb-true s (slot_at st n) y)
    go true x false y f i = up (i f)
    go false x b y f i = up (i f)

-- 64's cases of a state, both ways
pub sound-says : (st : State) → sound st ≡ true → SoundState st
sound-says st s =
    record {
      starts = λ c h. let g = head-fits st c (numbers st s) h in omega arith;
      counts = λ c h. count_fits st c (numbers st s) h;
      next = let g = next_fits st s in omega arith;
      slots = λ k l. slot-fits st k (numbers st s) l;
      lengths = λ k l h. let r = held-ready st k s l h in (r.least, r.most);
      once = λ j k x y a b e. same j k (λ h. earlier st j k s y a b e h) (λ h. earlier st k j s x b a (sym e) h);
    }
  where
    same : (j k : ℕ) → (j < k → ⊥) → (k < j → ⊥) → j ≡ k
    same j k f g = go (ltb j k) refl
      where
        go : (b : Bool) → ltb j k ≡ b → j ≡ k
        go true z = absurd (f (ltb-true j k z))
        go false z = back (ltb k j) refl (ltb-false j k z)
          where
            back : (b : Bool) → ltb k j ≡ b → k ≤ j → j ≡ k
            back true y h = absurd (g (ltb-true k j y))
            back false y h = let w = ltb-false k j y in omega arith

pub says-sound : (st : State) → SoundState st → sound st ≡ true
says-sound st p =
    rw (upto_all (channel_ok st) 8 channel, lt-ltb st.next 8 (let g = p.next in omega arith), upto_all (slot_ok st) 64 (λ k l. lt-ltb (slot_at st k) 64 (p.slots k l)), upto_all (place_ok st) 64 place)
  where
    channel : (c : ℕ) → c < 8 → channel_ok st c ≡ true
    channel c h =
        let a = p.starts c h in
        rw (le-leb (get_or st.heads c 0) 7 (omega arith), le-leb (get_or st.counts c 0) 8 (p.counts c h))

    place : (k : ℕ) → k < 64 → place_ok st k ≡ true
    place k l = go (held st k) refl
      where
        unused : held st k ≡ true → (b : Bool) → used_below st k (slot_at st k) ≡ b → b ≡ false
        unused h true z = let w = used-from st k (slot_at st k) z in let e = p.once w.0 k (omega (arith, w.1)) l w.2 h (sym w.3) in absurd (omega (arith, w.1, e))
        unused h false z = refl

        go : (b : Bool) → held st k ≡ b → not b || (length_fits (get_or st.lengths k 0) && not (used_below st k (slot_at st k))) ≡ true
        go false z = refl
        go true z =
            let f = p.lengths k l z in
            rw (le-leb 1 (get_or st.lengths k 0) f.0, le-leb (get_or st.lengths k 0) 1024 f.1, unused z (used_below st k (slot_at st k)) refl)
