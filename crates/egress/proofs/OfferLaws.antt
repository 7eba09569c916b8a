-- What an offer comes to, by the checks in their order.
use mathlib.Core.Path.{◌≡◌, refl, sym, ◌∙◌, ap}
use mathlib.Core.Bool.{true, false, not, ◌&&◌}
use mathlib.Core.List.{List, ◌++◌}
use Prim.Native.Nat.{ℕ, ◌-◌, ◌*◌, ◌≤◌, ◌<◌}
use native.Mathlib.Omega.{arith}
use lib.Dec.{eqb, leb}
use lib.ListN.{length, get_or, take, drop}
use borrow.Author.Tests.{eqb-true, leb-true, le-leb, lt-leb, le-ltb, lt-ltb, not-true, not-false}
use Rattle.wire_spec.specs.Bits.{overwrite, splice}
use Rattle.wire_spec.specs.Result.{Ok, refuse}
use Rattle.wire_spec.proofs.ListLaws.{part-written}
use Rattle.egress_spec.specs.declared.state.State.{State}
use Rattle.egress_spec.specs.declared.state.Offered.{Offered}
use Rattle.egress_spec.specs.Places.{used_below, sound}
use Rattle.egress_spec.specs.Step.{admits, seek, free_slot, kept_state, offer_of, offered_of, memory_after}
use Rattle.egress_spec.proofs.Upto.{and_left, and_right}
use Rattle.egress_spec.proofs.PlaceLaws.{numbers, head-fits}
use Rattle.egress_spec.proofs.FreeLaws.{seek-same, free_one}
use Rattle.egress_state.specs.declared.survey.Seen.{Seen}
use Rattle.egress_state.specs.Survey.{SeenOf}

-- what a survey says, passed or not
pub seen : (st : State) (n : ℕ) (s : Seen) → SeenOf st n s → not s.sound ≡ false → admits st n ≡ true
seen st n s o h = sym o.sound ∙ not-false s.sound h

pub unseen : (st : State) (n : ℕ) (s : Seen) → SeenOf st n s → not s.sound ≡ true → admits st n ≡ false
unseen st n s o h = sym o.sound ∙ not-true s.sound h

pub admits-sound : (st : State) (n : ℕ) → admits st n ≡ true → sound st ≡ true
admits-sound st n e = and_right (eqb n 65536) (sound st) e

pub admits-size : (st : State) (n : ℕ) → admits st n ≡ true → n ≡ 65536
admits-size st n e = eqb-true n 65536 (and_left (eqb n 65536) (sound st) e)

module _ (st : State) (c : ℕ) (p m : List ℕ) (r : Offered) where
  -- the answer and the memory, as the contract says
  abbrev pub Meets : (now : List ℕ) → Type 0
  Meets now = (r ≡ offered_of st (offer_of st c (length p) (length m))) × (now ≡ memory_after st (offer_of st c (length p) (length m)) p m)

  refusal : (x : ℕ) → offer_of st c (length p) (length m) ≡ refuse x 0 → r ≡ offered_of st (refuse x 0) → Meets m
  refusal x e f = rw e (f, refl)

  pub unsound-64 : admits st (length m) ≡ false → r ≡ offered_of st (refuse 64 0) → Meets m
  unsound-64 h f = refusal 64 (rw h) f

  pub channel-60 : admits st (length m) ≡ true → 8 ≤ c → r ≡ offered_of st (refuse 60 0) → Meets m
  channel-60 a h f = refusal 60 (rw (a, lt-leb c 7 (omega arith))) f

  pub size-61 : admits st (length m) ≡ true → c < 8 → leb 1 (length p) && leb (length p) 1024 ≡ false → r ≡ offered_of st (refuse 61 0) → Meets m
  size-61 a h e f = refusal 61 (rw (a, le-leb c 7 (omega arith), e)) f

  pub full-62 : admits st (length m) ≡ true → c < 8 → leb 1 (length p) && leb (length p) 1024 ≡ true → 8 ≤ get_or st.counts c 0 → r ≡ offered_of st (refuse 62 0) → Meets m
  full-62 a h e g f = refusal 62 (rw (a, le-leb c 7 (omega arith), e, le-ltb (get_or st.counts c 0) 8 g)) f

-- An offer that passes every check, and the slot that the code found for it.
pub record Passed (st : State) (c size n s : ℕ) : Type 0 where
  pub admitted : admits st n ≡ true
  pub channel : c < 8
  pub fits : leb 1 size && leb size 1024 ≡ true
  pub most : size ≤ 1024
  pub count : get_or st.counts c 0 < 8
  pub head : get_or st.heads c 0 < 8
  pub memory : n ≡ 65536
  pub slot : s ≡ free_slot st
  pub low : s < 64

pub passed : (st : State) (c size n slot : ℕ) (s : Seen) → SeenOf st n s → not s.sound ≡ false → c < 8 → leb 1 size && leb size 1024 ≡ true
    → get_or st.counts c 0 < 8 → slot ≡ seek 64 (λ i. get_or s.used i false) 0 → Passed st c size n slot
passed st c size n slot s o h k f g e =
    let a = seen st n s o h in
    let z : slot ≡ free_slot st =
    e ∙ seek-same 64 (λ i. get_or s.used i false) (used_below st 64) 0 (λ j l. o.used (not-false s.sound h) j (omega arith)) in
    record {
      admitted = a;
      channel = k;
      fits = f;
      most = leb-true size 1024 (and_right (leb 1 size) (leb size 1024) f);
      count = g;
      head = head-fits st c (numbers st (admits-sound st n a)) k;
      memory = admits-size st n a;
      slot = z;
      low = rw z (free_one st c (admits-sound st n a) k g);
    }

-- the packet stands in its slot, and nothing else of the memory has changed
pub copied-whole : (st : State) (c slot : ℕ) (p m part : List ℕ) (n : State) → Passed st c (length p) (length m) slot
    → n ≡ kept_state st c slot (length p) → part ≡ overwrite p (take (length m - 1024 * slot) (drop (1024 * slot) m))
    → Meets st c p m (record { state = n; answer = Ok tt }) (take (1024 * slot) m ++ (part ++ drop (length m - 1024 * slot) (drop (1024 * slot) m)))
copied-whole st c slot p m part n a i q =
    let h = a.channel in
    rw (a.admitted, le-leb c 7 (omega arith), a.fits, lt-ltb (get_or st.counts c 0) 8 a.count) (
      ap (λ (z : State). record { state = z; answer = Ok tt }) (i ∙ ap (λ (s : ℕ). kept_state st c s (length p)) a.slot),
      part-written (1024 * slot) m p part q ∙ ap (λ (s : ℕ). splice m (1024 * s) p) a.slot,
    )
