-- What a take comes to, by the checks in their order.
use mathlib.Core.Path.{◌≡◌, refl, ◌∙◌, ap}
use mathlib.Core.Bool.{Bool, true, false, cond}
use mathlib.Core.List.{List}
use Prim.Native.Nat.{ℕ, zero, suc, ◌+◌, ◌-◌, ◌≤◌, ◌<◌}
use native.Mathlib.Omega.{arith}
use lib.Dec.{ltb}
use lib.ListN.{length, get_or, take, drop}
use borrow.Author.Tests.{le-leb, lt-leb, ltb-true}
use Rattle.wire_spec.specs.Bits.{overwrite}
use Rattle.wire_spec.specs.Result.{refuse, Ok}
use Rattle.egress_spec.specs.declared.state.State.{State}
use Rattle.egress_spec.specs.declared.state.Taken.{Taken}
use Rattle.egress_spec.specs.Queues.{behind}
use Rattle.egress_spec.specs.Step.{admits, turn_of, turn_for, head_length, left_state, take_of, taken_of, out_after}
use Rattle.egress_spec.proofs.PlaceLaws.{numbers, head-fits, next_fits, head-ready}
use Rattle.egress_state.specs.declared.place.Stored.{Stored}
use Rattle.egress_state.specs.Survey.{Heads, head_of}
use Rattle.egress.proofs.OfferLaws.{admits-sound}

-- whose turn it is holds a packet
turn_holds : (n : ℕ) (l : List ℕ) (c : ℕ) → turn_of n l c < 8 → 0 < get_or l (turn_of n l c) 0
unfolding turn_of
turn_holds zero l c e = absurd (omega arith)
turn_holds (suc n) l c e = go (ltb 0 (get_or l c 0)) refl e (λ f. turn_holds n l (behind c) f)
  where
    go : (b : Bool) → ltb 0 (get_or l c 0) ≡ b → cond b c (turn_of n l (behind c)) < 8
        → (turn_of n l (behind c) < 8 → 0 < get_or l (turn_of n l (behind c)) 0) → 0 < get_or l (cond b c (turn_of n l (behind c))) 0
    go true z f i = ltb-true 0 (get_or l c 0) z
    go false z f i = i f

pub turn-heads : (st : State) (n c : ℕ) → admits st n ≡ true → c ≡ turn_for st → c < 8 → Heads st c
turn-heads st n c a e h =
    let s = admits-sound st n a in
    let k : 0 < get_or st.counts c 0 = rw e (turn_holds 8 st.counts st.next (rw e at h)) in
    let r = head-ready st c s h k in
    record { channel = h; count = k; head = head-fits st c (numbers st s) h; slot = r.slot; most = r.most }

pub starts : (st : State) (n : ℕ) → admits st n ≡ true → st.next < 8
starts st n a = next_fits st (admits-sound st n a)

module _ (st : State) (m out : List ℕ) (r : Taken) where
  -- the answer and what was lent, as the contract says
  abbrev pub Meets : (now : List ℕ) → Type 0
  Meets now = (r ≡ taken_of st (take_of st (length m) (length out))) × (now ≡ out_after st m (take_of st (length m) (length out)) out)

  refusal : (x : ℕ) → take_of st (length m) (length out) ≡ refuse x 0 → r ≡ taken_of st (refuse x 0) → Meets out
  refusal x e f = rw e (f, refl)

  pub unsound-64 : admits st (length m) ≡ false → r ≡ taken_of st (refuse 64 0) → Meets out
  unsound-64 h f = refusal 64 (rw h) f

  pub nothing-63 : (c : ℕ) → admits st (length m) ≡ true → c ≡ turn_for st → 8 ≤ c → r ≡ taken_of st (refuse 63 0) → Meets out
  nothing-63 c a e h f = refusal 63 (rw (a, ← e, lt-leb c 7 (omega arith))) f

  pub room-23 : (c : ℕ) → admits st (length m) ≡ true → c ≡ turn_for st → c < 8 → length out < head_length st c → r ≡ taken_of st (refuse 23 0) → Meets out
  room-23 c a e h g f = refusal 23 (rw (a, ← e, le-leb c 7 (omega arith), lt-leb (head_length st c) (length out) g)) f

same_size : (a b : ℕ) → a + b - a ≡ b
same_size a b = omega arith

-- the head is handed out, and nothing else of what was lent has changed
pub handed-whole : (st : State) (m out after : List ℕ) (c : ℕ) (h : Stored) (n : State) → admits st (length m) ≡ true → c ≡ turn_for st → c < 8 → h ≡ head_of st c
    → h.octets ≤ length out → n ≡ left_state st c → after ≡ overwrite (take (h.from + h.octets - h.from) (drop h.from m)) out
    → Meets st m out (record { state = n; answer = Ok (record { channel = c; octets = record { 0 = h.octets } }) }) after
handed-whole st m out after c h n a e l f g i q =
    let size : h.octets ≡ head_length st c = ap (λ (x : Stored). x.octets) f in
    rw (a, ← e, le-leb c 7 (omega arith), le-leb (head_length st c) (length out) (rw size at g))
    (rw (i, size), q ∙ ap (λ (z : ℕ). overwrite (take z (drop h.from m)) out) (same_size h.from h.octets) ∙ rw f)
