-- An offer keeps the state sound.
use mathlib.Core.Path.{◌≡◌, refl}
use mathlib.Core.Bool.{Bool, true, false, true≢false, not, ◌&&◌, ◌||◌, and-false}
use Prim.Native.Nat.{ℕ, zero, suc, ◌+◌, ◌-◌, ◌*◌, ◌/◌, ◌%◌, ◌≤◌, ◌<◌}
use native.Mathlib.Omega.{arith}
use lib.Dec.{eqb, ltb}
use lib.ListN.{length, get_or}
use lib.Seq.{get_or-set_same, get_or-set_other}
use borrow.Author.Tests.{eqb-true, eqb-false, ne_eqb, ltb-true, ltb-false, lt-ltb, le-ltb, le-leb}
use Rattle.egress_spec.specs.declared.state.State.{State}
use Rattle.egress_spec.specs.Places.{held_at, held, slot_at, length_fits, used_below, place_ok, all_upto, channel_ok, slot_ok, numbers_ok, sound}
use Rattle.egress_spec.specs.Step.{free_slot, place_of, kept_state}
use Rattle.egress_spec.proofs.Upto.{and_left, and_right, upto-at, upto_all}
use Rattle.egress_spec.proofs.PlaceLaws.{place_ok_lem, slots-fit, place-channel, place-free}
use Rattle.egress_spec.proofs.FreeLaws.{unused, held-apart}

-- the counts of a place: one more at `n` changes only the place `n` behind the head
count-more : (k c h n : ℕ) → h < 8 → n < 8 → k / 8 ≡ c → (k ≡ 8 * c + (h + n) % 8 → ⊥) → held_at k h (n + 1) ≡ held_at k h n
count-more k c h n a b e d = go (ltb ((k % 8 + 8 - h) % 8) n) refl
  where
    go : (t : Bool) → ltb ((k % 8 + 8 - h) % 8) n ≡ t → ltb ((k % 8 + 8 - h) % 8) (n + 1) ≡ t
    go true z = let y = ltb-true ((k % 8 + 8 - h) % 8) n z in lt-ltb ((k % 8 + 8 - h) % 8) (n + 1) (omega arith)
    go false z = let y = ltb-false ((k % 8 + 8 - h) % 8) n z in le-ltb ((k % 8 + 8 - h) % 8) (n + 1) (far k c h n a b e d y)
      where
        far : (k c h n : ℕ) → h < 8 → n < 8 → k / 8 ≡ c → (k ≡ 8 * c + (h + n) % 8 → ⊥) → n ≤ (k % 8 + 8 - h) % 8 → n + 1 ≤ (k % 8 + 8 - h) % 8
        far k c h n a b e d y = omega (arith, d)

module _ (st : State) (c l : ℕ) (s : sound st ≡ true) (lc : c < 8) (least : 1 ≤ l) (most : l ≤ 1024)
    (hh : get_or st.heads c 0 < 8) (hn : get_or st.counts c 0 < 8) (free : free_slot st < 64)
    (lk : length st.counts ≡ 8) (ls : length st.slots ≡ 64) (ll : length st.lengths ≡ 64) where
  abbrev at : ℕ
  at = place_of st c (get_or st.counts c 0)

  abbrev next : State
  next = kept_state st c (free_slot st) l

  held_same : (k : ℕ) → (k ≡ at → ⊥) → held next k ≡ held st k
  held_same k d = go (eqb (k / 8) c) refl
    where
      go : (b : Bool) → eqb (k / 8) c ≡ b → held next k ≡ held st k
      go true e = let z = eqb-true (k / 8) c e in
          rw (z, get_or-set_same st.counts c (get_or st.counts c 0 + 1) 0 (omega arith)) (count-more k c (get_or st.heads c 0) (get_or st.counts c 0) hh hn z d)
      go false e = rw (get_or-set_other st.counts c (k / 8) (get_or st.counts c 0 + 1) 0 (eqb-false (k / 8) c e))

  slot_same : (k : ℕ) → (k ≡ at → ⊥) → slot_at next k ≡ slot_at st k
  slot_same k d = get_or-set_other st.slots at k (free_slot st) 0 d

  slot-new : at < 64 → slot_at next at ≡ free_slot st
  slot-new h = get_or-set_same st.slots at (free_slot st) 0 (omega arith)

  not-held : held st at ≡ false
  not-held = rw (place-channel c (get_or st.heads c 0 + get_or st.counts c 0)) (place-free c (get_or st.heads c 0) (get_or st.counts c 0) hh hn)

  -- slots other than the new one are used as before
  used-same : at < 64 → (x : ℕ) → (x ≡ free_slot st → ⊥) → (n : ℕ) → used_below next n x ≡ used_below st n x
  unfolding used_below
  used-same h x d zero = refl
  used-same h x d (suc n) = go (eqb n at) refl (used-same h x d n)
    where
      none : (a : Bool) → a && false ≡ false
      none a = and-false a

      go : (b : Bool) → eqb n at ≡ b → used_below next n x ≡ used_below st n x
          → (held next n && eqb x (slot_at next n)) || used_below next n x ≡ (held st n && eqb x (slot_at st n)) || used_below st n x
      go true e i = let z = eqb-true n at e in
          rw (z, slot-new h, ne_eqb x (free_slot st) d, and-false (held next at), not-held) (rw z at i)
      go false e i = let z = eqb-false n at e in rw (held_same n z, slot_same n z, i)

  -- below the new place the new slot is used by none
  used_low : (x n : ℕ) → n ≤ at → used_below next n x ≡ used_below st n x
  unfolding used_below
  used_low x zero h = refl
  used_low x (suc n) h =
      let z : n ≡ at → ⊥ = λ e. omega arith in
      rw (held_same n z, slot_same n z, used_low x n (omega arith))

  used-monotone : (x n k : ℕ) → n ≤ k → used_below st k x ≡ false → used_below st n x ≡ false
  unfolding used_below
  used-monotone x n zero h e = let z : n ≡ 0 = omega arith in rw z
  used-monotone x n (suc k) h e = go (eqb n (suc k)) refl (λ g. used-monotone x n k g (or-false (held st k && eqb x (slot_at st k)) (used_below st k x) e))
    where
      or-false : (a b : Bool) → a || b ≡ false → b ≡ false
      or-false true b e = absurd (true≢false e)
      or-false false b e = e

      go : (b : Bool) → eqb n (suc k) ≡ b → (n ≤ k → used_below st n x ≡ false) → used_below st n x ≡ false
      go true z i = rw (eqb-true n (suc k) z) e
      go false z i = i (let d = eqb-false n (suc k) z in omega (arith, d))

  or-true : (a : Bool) → a || true ≡ true
  or-true true = refl
  or-true false = refl

  pub kept-places : at < 64 → (k : ℕ) → k < 64 → place_ok next k ≡ true
  kept-places h k g = go (eqb k at) refl
    where
      fits : length_fits l ≡ true
      fits = rw (le-leb 1 l least, le-leb l 1024 most)

      old : (b : Bool) → held st k ≡ b → (k ≡ at → ⊥) → not b || (length_fits (get_or st.lengths k 0) && not (used_below st k (slot_at st k))) ≡ true
          → not b || (length_fits (get_or st.lengths k 0) && not (used_below next k (slot_at st k))) ≡ true
      old false b z i = refl
      old true b z i = rw (used-same h (slot_at st k) (held-apart st k free g b) k) i

      go : (b : Bool) → eqb k at ≡ b → place_ok next k ≡ true
      go true e = let z = eqb-true k at e in
          rw (z, slot-new h, get_or-set_same st.lengths at l 0 (omega arith), fits, used_low (free_slot st) at (omega arith), used-monotone (free_slot st) at 64 (omega arith) (unused st free))
          (or-true (not (held next at)))
      go false e = let z = eqb-false k at e in
          rw (held_same k z, slot_same k z, get_or-set_other st.lengths at k l 0 z)
          (old (held st k) refl z (place_ok_lem st k s g))

  pub kept-sound : at < 64 → sound next ≡ true
  kept-sound h =
      let numbers = and_left (numbers_ok st) (all_upto (place_ok st) 64) s in
      rw (
        upto_all (channel_ok next) 8 (λ d g. one d g (eqb d c) refl (upto-at (channel_ok st) 8 d (and_left (all_upto (channel_ok st) 8) (ltb st.next 8 && all_upto (slot_ok st) 64) numbers) g)),
        and_left (ltb st.next 8) (all_upto (slot_ok st) 64) (and_right (all_upto (channel_ok st) 8) (ltb st.next 8 && all_upto (slot_ok st) 64) numbers),
        upto_all (slot_ok next) 64 (λ k g. slot k g (eqb k at) refl (upto-at (slot_ok st) 64 k (slots-fit st numbers) g)),
        upto_all (place_ok next) 64 (kept-places h),
      )
    where
      slot : (k : ℕ) → k < 64 → (b : Bool) → eqb k at ≡ b → slot_ok st k ≡ true → slot_ok next k ≡ true
      slot k g true e i = rw (eqb-true k at e, slot-new h) (lt-ltb (free_slot st) 64 free)
      slot k g false e i = rw (slot_same k (eqb-false k at e)) i

      one : (d : ℕ) → d < 8 → (b : Bool) → eqb d c ≡ b → channel_ok st d ≡ true → channel_ok next d ≡ true
      one d g true e i = let z = eqb-true d c e in
          rw (z, get_or-set_same st.counts c (get_or st.counts c 0 + 1) 0 (omega arith), le-leb (get_or st.heads c 0) 7 (omega arith), le-leb (get_or st.counts c 0 + 1) 8 (omega arith))
      one d g false e i = rw (get_or-set_other st.counts c d (get_or st.counts c 0 + 1) 0 (eqb-false d c e)) i
