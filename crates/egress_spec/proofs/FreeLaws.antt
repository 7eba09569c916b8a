-- A channel that holds fewer than eight leaves a slot free: 64 slots are not all held by 63 packets.
use mathlib.Core.Path.{◌≡◌, refl, sym, ◌∙◌, ap}
use mathlib.Core.Bool.{Bool, true, false, true≢false, cond, ◌&&◌, ◌||◌}
use mathlib.Core.List.{List, [], ◌∷◌}
use Prim.Native.Nat.{ℕ, zero, suc, ◌+◌, ◌*◌, ◌%◌, ◌≤◌, ◌<◌}
use native.Mathlib.Omega.{arith}
use lib.Dec.{eqb, ltb}
use lib.ListN.{length, get_or}
use borrow.Author.Tests.{eqb-true, eqb-false, eq-eqb, ltb-true, ltb-false}
use Rattle.egress_spec.specs.declared.state.State.{State}
use Rattle.egress_spec.specs.Places.{held, slot_at, used_below, sound}
use Rattle.egress_spec.specs.Step.{seek, free_slot}
use Rattle.egress_spec.proofs.PlaceLaws.{numbers, head-fits, place-low, place-channel, place-free}

abbrev elem : ℕ → List ℕ → Bool
elem s [] = false
elem s (x ∷ l) = eqb s x || elem s l

abbrev without : ℕ → List ℕ → List ℕ
without n [] = []
without n (x ∷ l) = cond (eqb n x) l (x ∷ without n l)

without-length : (n : ℕ) (l : List ℕ) → elem n l ≡ true → suc (length (without n l)) ≤ length l
without-length n [] e = absurd (true≢false (sym e))
without-length n (x ∷ l) e = go (eqb n x) e (λ f. without-length n l f)
  where
    go : (b : Bool) → b || elem n l ≡ true → (elem n l ≡ true → suc (length (without n l)) ≤ length l)
        → suc (length (cond b l (x ∷ without n l))) ≤ suc (length l)
    go true f i = omega arith
    go false f i = omega (arith, i f)

without-elem : (s n : ℕ) (l : List ℕ) → (s ≡ n → ⊥) → elem s l ≡ true → elem s (without n l) ≡ true
without-elem s n [] d e = e
without-elem s n (x ∷ l) d e = go (eqb n x) refl (eqb s x) refl e (λ f. without-elem s n l d f)
  where
    go : (b : Bool) → eqb n x ≡ b → (a : Bool) → eqb s x ≡ a → a || elem s l ≡ true → (elem s l ≡ true → elem s (without n l) ≡ true)
        → elem s (cond b l (x ∷ without n l)) ≡ true
    go true p true q f i = absurd (d (eqb-true s x q ∙ sym (eqb-true n x p)))
    go true p false q f i = f
    go false p true q f i = rw q
    go false p false q f i = rw q (i f)

-- a list that has every number below `n` has `n` of them
cover : (n : ℕ) (l : List ℕ) → ((s : ℕ) → s < n → elem s l ≡ true) → n ≤ length l
cover zero l h = omega arith
cover (suc n) l h =
    let i = cover n (without n l) (λ s k. without-elem s n l (λ e. omega arith) (h s (omega arith))) in
    omega (arith, without-length n l (h n (omega arith)), i)

abbrev held_slots : State → ℕ → List ℕ
held_slots st zero = []
held_slots st (suc k) = cond (held st k) (slot_at st k ∷ held_slots st k) (held_slots st k)

used-elem : (st : State) (k s : ℕ) → used_below st k s ≡ elem s (held_slots st k)
unfolding used_below
used-elem st zero s = refl
used-elem st (suc k) s = go (held st k) (used-elem st k s)
  where
    go : (b : Bool) → used_below st k s ≡ elem s (held_slots st k) → (b && eqb s (slot_at st k)) || used_below st k s ≡ elem s (cond b (slot_at st k ∷ held_slots st k) (held_slots st k))
    go true e = rw e
    go false e = e

held-few : (st : State) (k : ℕ) → length (held_slots st k) ≤ k
held-few st zero = omega arith
held-few st (suc k) = go (held st k) (held-few st k)
  where
    go : (b : Bool) → length (held_slots st k) ≤ k → length (cond b (slot_at st k ∷ held_slots st k) (held_slots st k)) ≤ suc k
    go true e = omega arith
    go false e = omega arith

held-fewer : (st : State) (k j : ℕ) → j < k → held st j ≡ false → length (held_slots st k) < k
held-fewer st zero j h e = absurd (omega arith)
held-fewer st (suc k) j h e = go (held st k) refl (eqb j k) refl (λ f. held-fewer st k j f e)
  where
    go : (b : Bool) → held st k ≡ b → (a : Bool) → eqb j k ≡ a → (j < k → length (held_slots st k) < k)
        → length (cond b (slot_at st k ∷ held_slots st k) (held_slots st k)) < suc k
    go false p a q i = omega (arith, held-few st k)
    go true p true q i = absurd (true≢false (sym p ∙ ap (held st) (sym (eqb-true j k q)) ∙ e))
    go true p false q i = omega (arith, i (let d = eqb-false j k q in omega (arith, d)))

seek-full : (n : ℕ) (f : ℕ → Bool) (s j : ℕ) → s + n ≤ seek n f s → s ≤ j → j < s + n → f j ≡ true
unfolding seek
seek-full zero f s j h a b = absurd (omega arith)
seek-full (suc n) f s j h a b = go (f s) refl h (eqb j s) refl (λ g k. seek-full n f (suc s) j g k (omega arith))
  where
    go : (t : Bool) → f s ≡ t → s + suc n ≤ cond t (seek n f (suc s)) s → (e : Bool) → eqb j s ≡ e
        → (suc s + n ≤ seek n f (suc s) → suc s ≤ j → f j ≡ true) → f j ≡ true
    go false p q e z i = absurd (omega arith)
    go true p q true z i = rw (eqb-true j s z) p
    go true p q false z i = i (omega arith) (let d = eqb-false j s z in omega (arith, d))

-- the same tests find the same number
pub seek-same : (n : ℕ) (f g : ℕ → Bool) (s : ℕ) → ((j : ℕ) → j < s + n → f j ≡ g j) → seek n f s ≡ seek n g s
unfolding seek
seek-same zero f g s h = refl
seek-same (suc n) f g s h = rw (h s (omega arith)) (ap (λ (t : ℕ). cond (g s) t s) (seek-same n f g (suc s) (λ j k. h j (omega arith))))

clash : (a : ℕ) → 64 ≤ a → a < 64 → ⊥
clash a h k = omega arith

pub free-below : (st : State) (j : ℕ) → j < 64 → held st j ≡ false → free_slot st < 64
free-below st j h e = go (ltb (free_slot st) 64) refl
  where
    go : (b : Bool) → ltb (free_slot st) 64 ≡ b → free_slot st < 64
    go true p = ltb-true (free_slot st) 64 p
    go false p =
        let full : (s : ℕ) → s < 64 → elem s (held_slots st 64) ≡ true = λ s k. sym (used-elem st 64 s) ∙ seek-full 64 (used_below st 64) 0 s (ltb-false (free_slot st) 64 p) (omega arith) (omega arith) in
        absurd (clash (length (held_slots st 64)) (cover 64 (held_slots st 64) full) (held-fewer st 64 j h e))

-- a held place's slot is used
pub used-at : (st : State) (n k : ℕ) → k < n → held st k ≡ true → used_below st n (slot_at st k) ≡ true
unfolding used_below
used-at st zero k l h = absurd (omega arith)
used-at st (suc n) k l h = go (eqb k n) refl (λ z. used-at st n k z h)
  where
    or_right : (a : Bool) → a || true ≡ true
    or_right true = refl
    or_right false = refl

    go : (b : Bool) → eqb k n ≡ b → (k < n → used_below st n (slot_at st k) ≡ true) → (held st n && eqb (slot_at st k) (slot_at st n)) || used_below st n (slot_at st k) ≡ true
    go true e i = let z = eqb-true k n e in rw (← z, h, eq-eqb (slot_at st k) (slot_at st k) refl)
    go false e i = rw (i (let d = eqb-false k n e in omega (arith, d))) (or_right (held st n && eqb (slot_at st k) (slot_at st n)))

-- what is sought is free
seek-free : (n : ℕ) (f : ℕ → Bool) (s : ℕ) → seek n f s < s + n → f (seek n f s) ≡ false
unfolding seek
seek-free zero f s h = absurd (omega arith)
seek-free (suc n) f s h = go (f s) refl h (λ z. seek-free n f (suc s) z)
  where
    go : (b : Bool) → f s ≡ b → cond b (seek n f (suc s)) s < s + suc n → (seek n f (suc s) < suc s + n → f (seek n f (suc s)) ≡ false) → f (cond b (seek n f (suc s)) s) ≡ false
    go true e l i = i (omega arith)
    go false e l i = e

pub unused : (st : State) → free_slot st < 64 → used_below st 64 (free_slot st) ≡ false
unused st h = seek-free 64 (used_below st 64) 0 h

-- a channel that holds fewer than eight leaves a slot free
pub free_one : (st : State) (c : ℕ) → sound st ≡ true → c < 8 → get_or st.counts c 0 < 8 → free_slot st < 64
free_one st c e h f =
    let g = head-fits st c (numbers st e) h in
    let x = get_or st.heads c 0 + get_or st.counts c 0 in
    free-below st (8 * c + x % 8) (place-low c x h) (rw (place-channel c x) (place-free c (get_or st.heads c 0) (get_or st.counts c 0) g f))

-- "a held slot" is given to no offer
pub held-apart : (st : State) (k : ℕ) → free_slot st < 64 → k < 64 → held st k ≡ true → slot_at st k ≡ free_slot st → ⊥
held-apart st k f l h e = true≢false (sym (used-at st 64 k l h) ∙ ap (used_below st 64) e ∙ unused st f)
