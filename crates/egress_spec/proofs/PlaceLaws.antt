-- What a sound state says of its numbers and of its held places.
use mathlib.Core.Path.{◌≡◌, refl, sym}
use mathlib.Core.Bool.{Bool, true, false, true≢false, not, ◌&&◌, ◌||◌}
use Prim.Native.Nat.{ℕ, ◌+◌, ◌-◌, ◌*◌, ◌/◌, ◌%◌, ◌≤◌, ◌<◌}
use native.Mathlib.Omega.{arith}
use lib.Dec.{leb, ltb}
use lib.ListN.{get_or}
use borrow.Author.Tests.{lt-ltb, le-ltb, ltb-true, leb-true}
use Rattle.egress_spec.specs.declared.state.State.{State}
use Rattle.egress_spec.specs.Places.{held_at, held, slot_at, length_fits, used_below, place_ok, all_upto, channel_ok, slot_ok, numbers_ok, sound}
use Rattle.egress_spec.specs.Step.{head_place}
use Rattle.egress_spec.proofs.Upto.{and_left, and_right, upto-at}

pub numbers : (st : State) → sound st ≡ true → numbers_ok st ≡ true
numbers st e = and_left (numbers_ok st) (all_upto (place_ok st) 64) e

pub place_ok_lem : (st : State) (k : ℕ) → sound st ≡ true → k < 64 → place_ok st k ≡ true
place_ok_lem st k e h = upto-at (place_ok st) 64 k (and_right (numbers_ok st) (all_upto (place_ok st) 64) e) h

-- a channel's head is one of its places, and it holds at most eight
channel-fits : (st : State) (c : ℕ) → numbers_ok st ≡ true → c < 8 → channel_ok st c ≡ true
channel-fits st c e h = upto-at (channel_ok st) 8 c (and_left (all_upto (channel_ok st) 8) (ltb st.next 8 && all_upto (slot_ok st) 64) e) h

pub head-fits : (st : State) (c : ℕ) → numbers_ok st ≡ true → c < 8 → get_or st.heads c 0 < 8
head-fits st c e h =
    let g = leb-true (get_or st.heads c 0) 7 (and_left (leb (get_or st.heads c 0) 7) (leb (get_or st.counts c 0) 8) (channel-fits st c e h)) in
    omega arith

pub count_fits : (st : State) (c : ℕ) → numbers_ok st ≡ true → c < 8 → get_or st.counts c 0 ≤ 8
count_fits st c e h =
    leb-true (get_or st.counts c 0) 8 (and_right (leb (get_or st.heads c 0) 7) (leb (get_or st.counts c 0) 8) (channel-fits st c e h))

pub next_fits : (st : State) → sound st ≡ true → st.next < 8
next_fits st e = ltb-true st.next 8 (and_left (ltb st.next 8) (all_upto (slot_ok st) 64) (and_right (all_upto (channel_ok st) 8) (ltb st.next 8 && all_upto (slot_ok st) 64) (numbers st e)))

-- every slot is one of the 64, held or not
pub slots-fit : (st : State) → numbers_ok st ≡ true → all_upto (slot_ok st) 64 ≡ true
slots-fit st e = and_right (ltb st.next 8) (all_upto (slot_ok st) 64) (and_right (all_upto (channel_ok st) 8) (ltb st.next 8 && all_upto (slot_ok st) 64) e)

pub slot-fits : (st : State) (k : ℕ) → numbers_ok st ≡ true → k < 64 → slot_at st k < 64
slot-fits st k e h = ltb-true (slot_at st k) 64 (upto-at (slot_ok st) 64 k (slots-fit st e) h)

-- a held place's slot and its length are in range
pub record Ready (st : State) (k : ℕ) : Type 0 where
  pub slot : get_or st.slots k 0 < 64
  pub least : 1 ≤ get_or st.lengths k 0
  pub most : get_or st.lengths k 0 ≤ 1024
  pub once : used_below st k (slot_at st k) ≡ false

length-fits : (l : ℕ) → length_fits l ≡ true → (1 ≤ l) × (l ≤ 1024)
length-fits l r = (leb-true 1 l (and_left (leb 1 l) (leb l 1024) r), leb-true l 1024 (and_right (leb 1 l) (leb l 1024) r))

pub held-ready : (st : State) (k : ℕ) → sound st ≡ true → k < 64 → held st k ≡ true → Ready st k
held-ready st k e l h =
    let p : not (held st k) || (length_fits (get_or st.lengths k 0) && not (used_below st k (slot_at st k))) ≡ true = place_ok_lem st k e l in
    let f = rw h at p in
    let r = length-fits (get_or st.lengths k 0) (and_left (length_fits (get_or st.lengths k 0)) (not (used_below st k (slot_at st k))) f) in
    record {
      slot = slot-fits st k (numbers st e) l;
      least = r.0;
      most = r.1;
      once = negated (used_below st k (slot_at st k)) (and_right (length_fits (get_or st.lengths k 0)) (not (used_below st k (slot_at st k))) f);
    }
  where
    negated : (b : Bool) → not b ≡ true → b ≡ false
    negated true z = absurd (true≢false (sym z))
    negated false z = refl

-- places of a channel: packet `i` behind a head at `h`
pub place-held : (c h i n : ℕ) → h < 8 → i < n → n ≤ 8 → held_at (8 * c + (h + i) % 8) h n ≡ true
place-held c h i n a b d = lt-ltb (((8 * c + (h + i) % 8) % 8 + 8 - h) % 8) n (omega arith)

pub place-low : (c x : ℕ) → c < 8 → 8 * c + x % 8 < 64
place-low c x h = omega arith

pub place-channel : (c x : ℕ) → (8 * c + x % 8) / 8 ≡ c
place-channel c x = omega arith

-- the place behind a channel's last packet holds none
pub place-free : (c h n : ℕ) → h < 8 → n < 8 → held_at (8 * c + (h + n) % 8) h n ≡ false
place-free c h n a b = le-ltb (((8 * c + (h + n) % 8) % 8 + 8 - h) % 8) n (omega arith)

pub head-place : (c h : ℕ) → h < 8 → 8 * c + (h + 0) % 8 ≡ 8 * c + h
head-place c h l = omega arith

-- so the head of a channel that holds a packet can be handed out
pub head-ready : (st : State) (c : ℕ) → sound st ≡ true → c < 8 → 0 < get_or st.counts c 0 → Ready st (head_place st c)
head-ready st c e h g =
    let x = get_or st.heads c 0 in
    let b = head-fits st c (numbers st e) h in
    rw (← head-place c x b)
    (held-ready st (8 * c + (x + 0) % 8) e (place-low c (x + 0) h)
    (rw (place-channel c (x + 0)) (place-held c x 0 (get_or st.counts c 0) b g (count_fits st c (numbers st e) h))))
