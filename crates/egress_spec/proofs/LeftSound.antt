-- A take keeps the state sound: it holds less.
use mathlib.Core.Path.{◌≡◌, refl, sym}
use mathlib.Core.Bool.{Bool, true, false, true≢false, cond, not, ◌&&◌, ◌||◌}
use Prim.Native.Nat.{ℕ, zero, suc, ◌+◌, ◌-◌, ◌/◌, ◌%◌, ◌≤◌, ◌<◌}
use native.Mathlib.Omega.{arith}
use lib.Dec.{eqb, ltb}
use lib.ListN.{length, get_or}
use lib.Seq.{get_or-set_same, get_or-set_other}
use borrow.Author.Tests.{eqb-true, eqb-false, ltb-true, ltb-false, lt-ltb, le-leb}
use Rattle.egress_spec.specs.declared.state.State.{State}
use Rattle.egress_spec.specs.Queues.{behind}
use Rattle.egress_spec.specs.Places.{held_at, held, slot_at, length_fits, used_below, place_ok, all_upto, channel_ok, slot_ok, numbers_ok, sound}
use Rattle.egress_spec.specs.Step.{left_state}
use Rattle.egress_spec.proofs.Upto.{and_left, upto-at, upto_all}
use Rattle.egress_spec.proofs.Circle.{behind-channel}
use Rattle.egress_spec.proofs.PlaceLaws.{place_ok_lem, slots-fit}

-- without its head a channel holds no other place
count_less : (k h n : ℕ) → h < 8 → 0 < n → n ≤ 8 → held_at k (behind h) (n - 1) ≡ true → held_at k h n ≡ true
count_less k h n a b d e = go (ltb h 7) refl e
  where
    go : (t : Bool) → ltb h 7 ≡ t → held_at k (cond t (suc h) 0) (n - 1) ≡ true → held_at k h n ≡ true
    go true z f = let y = ltb-true ((k % 8 + 8 - suc h) % 8) (n - 1) f in let w = ltb-true h 7 z in lt-ltb ((k % 8 + 8 - h) % 8) n (omega arith)
    go false z f = let y = ltb-true ((k % 8 + 8 - 0) % 8) (n - 1) f in let w = ltb-false h 7 z in lt-ltb ((k % 8 + 8 - h) % 8) n (omega arith)

module _ (st : State) (c : ℕ) (s : sound st ≡ true) (lc : c < 8) (hh : get_or st.heads c 0 < 8) (hn : 0 < get_or st.counts c 0) (hm : get_or st.counts c 0 ≤ 8)
    (lk : length st.counts ≡ 8) (lh : length st.heads ≡ 8) where
  abbrev next : State
  next = left_state st c

  held-less : (k : ℕ) → held next k ≡ true → held st k ≡ true
  held-less k = go (eqb (k / 8) c) refl
    where
      go : (b : Bool) → eqb (k / 8) c ≡ b → held next k ≡ true → held st k ≡ true
      go true e f =
          let z = eqb-true (k / 8) c e in
          let g : held_at k (behind (get_or st.heads c 0)) (get_or st.counts c 0 - 1) ≡ true =
          rw (z, get_or-set_same st.heads c (behind (get_or st.heads c 0)) 0 (omega arith), get_or-set_same st.counts c (get_or st.counts c 0 - 1) 0 (omega arith)) at f in
          rw z (count_less k (get_or st.heads c 0) (get_or st.counts c 0) hh hn hm g)
      go false e f =
          let d = eqb-false (k / 8) c e in
          rw (get_or-set_other st.heads c (k / 8) (behind (get_or st.heads c 0)) 0 d, get_or-set_other st.counts c (k / 8) (get_or st.counts c 0 - 1) 0 d) at f

  less : (a b e u : Bool) → (b ≡ true → a ≡ true) → (a && e) || u ≡ false → b && e ≡ false
  less true true e u f h = or_left e u h
    where
      or_left : (x y : Bool) → x || y ≡ false → x ≡ false
      or_left true y h = h
      or_left false y h = refl
  less false true e u f h = absurd (true≢false (sym (f refl)))
  less a false e u f h = refl

  or_right : (a b : Bool) → a || b ≡ false → b ≡ false
  or_right true b e = absurd (true≢false e)
  or_right false b e = e

  used-less : (x n : ℕ) → used_below st n x ≡ false → used_below next n x ≡ false
  unfolding used_below
  used-less x zero e = refl
  used-less x (suc n) e =
      rw (less (held st n) (held next n) (eqb x (slot_at st n)) (used_below st n x) (held-less n) e, used-less x n (or_right (held st n && eqb x (slot_at st n)) (used_below st n x) e))

  left-place : (k : ℕ) → place_ok st k ≡ true → place_ok next k ≡ true
  left-place k p = go (held next k) refl
    where
      inner : (b e u v : Bool) → b ≡ true → (u ≡ false → v ≡ false) → not b || (e && not u) ≡ true → e && not v ≡ true
      inner true true true v z f h = absurd (true≢false (sym h))
      inner true true false v z f h = rw (f refl)
      inner true false u v z f h = h
      inner false e u v z f h = absurd (true≢false (sym z))

      go : (b : Bool) → held next k ≡ b → not b || (length_fits (get_or st.lengths k 0) && not (used_below next k (slot_at st k))) ≡ true
      go false z = refl
      go true z = inner (held st k) (length_fits (get_or st.lengths k 0)) (used_below st k (slot_at st k)) (used_below next k (slot_at st k)) (held-less k z) (used-less (slot_at st k) k) p

  pub left-sound : sound next ≡ true
  left-sound =
      let numbers = and_left (numbers_ok st) (all_upto (place_ok st) 64) s in
      let b = behind-channel c in
      rw (
        upto_all (channel_ok next) 8 (λ d g. one d g (eqb d c) refl (upto-at (channel_ok st) 8 d (and_left (all_upto (channel_ok st) 8) (ltb st.next 8 && all_upto (slot_ok st) 64) numbers) g)),
        lt-ltb (behind c) 8 (omega arith),
        slots-fit st numbers,
        upto_all (place_ok next) 64 (λ k g. left-place k (place_ok_lem st k s g)),
      )
    where
      one : (d : ℕ) → d < 8 → (b : Bool) → eqb d c ≡ b → channel_ok st d ≡ true → channel_ok next d ≡ true
      one d g true e i = let z = eqb-true d c e in
          rw (
            z,
            get_or-set_same st.heads c (behind (get_or st.heads c 0)) 0 (omega arith),
            get_or-set_same st.counts c (get_or st.counts c 0 - 1) 0 (omega arith),
            le-leb (behind (get_or st.heads c 0)) 7 (behind-channel (get_or st.heads c 0)),
            le-leb (get_or st.counts c 0 - 1) 8 (omega arith),
          )
      one d g false e i = let z = eqb-false d c e in
          rw (get_or-set_other st.heads c d (behind (get_or st.heads c 0)) 0 z, get_or-set_other st.counts c d (get_or st.counts c 0 - 1) 0 z) i
