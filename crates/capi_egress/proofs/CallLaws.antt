-- What a call gives: by the rows' lengths, by whether the numbers are a state, and by what the library gives of that state.
use Rattle.egress_spec.specs.declared.state.HandedOut.{HandedOut}
use mathlib.Core.Path.{◌≡◌, refl, sym, ◌∙◌, ap, subst}
use mathlib.Core.Bool.{Bool, true, false, true≢false, cond}
use mathlib.Core.List.{List, [], ◌∷◌}
use Prim.Native.Nat.{ℕ, ◌≤◌, ◌<◌}
use native.Mathlib.Omega.{arith}
use lib.Dec.{eqb, leb}
use lib.ListN.{length, get_or}
use borrow.Author.Tests.{leb-true, ltb-true}
use Rattle.wire_spec.specs.declared.count.OctetCount.{OctetCount}
use Rattle.wire_spec.specs.Result.{Checks, Result, Err, Ok}
use Rattle.wire_spec.proofs.ResultLaws.{accepted-inj, and-true, judge-accepts}
use Rattle.egress_spec.specs.declared.state.State.{State}
use Rattle.egress_spec.specs.declared.state.Offered.{Offered}
use Rattle.egress_spec.specs.declared.state.Taken.{Taken}
use Rattle.egress_spec.specs.Queues.{memory_size, offer_checks}
use Rattle.egress_spec.specs.Places.{sound}
use Rattle.egress_spec.specs.Step as step
use Rattle.egress_spec.proofs.PlaceLaws.{count_fits, head-fits, numbers}
use Rattle.capi_egress_state.specs.Row.{ChangedAt, is_state, row_size, state_at}
use Rattle.capi_egress_state.proofs.ChangeLaws.{kept-changed, left-changed}
use Rattle.capi_answer.specs.Rows.{answer_size, refused_reply, row_reply}
use Rattle.capi_egress.specs.Calls.{Given, at_state, offered_at, offered_by, rows_fit, taken_at, taken_by, unchanged}

pub rows_long : (state answer : ℕ) → rows_fit state answer ≡ true → (row_size ≤ state) × (answer_size ≤ answer)
rows_long state answer h =
    let p = and-true (leb row_size state) (leb answer_size answer) h in
    (leb-true row_size state p.0, leb-true answer_size answer p.1)

module _ (state answer lent : List ℕ) (x : Given) where
  -- a row is too short
  pub at-short : rows_fit (length state) (length answer) ≡ false → unchanged row_reply lent ≡ at_state state answer lent x
  at-short h =
      sym (ap (λ (t : Bool). cond t (cond (is_state state) x (unchanged (refused_reply (record { number = 64; index = 0 })) lent)) (unchanged row_reply lent)) h)

  -- the numbers are no state
  pub at-unsound : rows_fit (length state) (length answer) ≡ true → is_state state ≡ false
      → unchanged (refused_reply (record { number = 64; index = 0 })) lent ≡ at_state state answer lent x
  at-unsound h k =
      sym
      (ap (λ (t : Bool). cond t (cond (is_state state) x (unchanged (refused_reply (record { number = 64; index = 0 })) lent)) (unchanged row_reply lent)) h
      ∙ ap (λ (t : Bool). cond t x (unchanged (refused_reply (record { number = 64; index = 0 })) lent)) k)

  -- they are one
  pub at-state : rows_fit (length state) (length answer) ≡ true → is_state state ≡ true → x ≡ at_state state answer lent x
  at-state h k =
      sym
      (ap (λ (t : Bool). cond t (cond (is_state state) x (unchanged (refused_reply (record { number = 64; index = 0 })) lent)) (unchanged row_reply lent)) h
      ∙ ap (λ (t : Bool). cond t x (unchanged (refused_reply (record { number = 64; index = 0 })) lent)) k)

-- what the library gave, of the state in the row
pub offered-at : (in_row st : State) → st ≡ in_row → (c : ℕ) (p m : List ℕ) (o : Offered) (left : List ℕ)
    → o ≡ step.offered_of st (step.offer_of st c (length p) (length m)) → left ≡ step.memory_after st (step.offer_of st c (length p) (length m)) p m
    → (y : Result (Unit {0})) → o.answer ≡ y → offered_by y o.state left ≡ offered_at in_row c p m
offered-at in_row st s c p m o left e d y f =
    ap (λ (z : Result (Unit {0})). offered_by z o.state left) (sym f) ∙ (λ i. offered_by (e i).answer (e i).state (d i)) ∙ ap (λ (q : State). offered_at q c p m) s

pub taken_at_lem : (in_row st : State) → st ≡ in_row → (m out : List ℕ) (o : Taken) (left : List ℕ)
    → o ≡ step.taken_of st (step.take_of st (length m) (length out)) → left ≡ step.out_after st m (step.take_of st (length m) (length out)) out
    → (y : Result HandedOut) → o.answer ≡ y → taken_by y o.state left ≡ taken_at in_row m out
taken_at_lem in_row st s m out o left e d y f =
    ap (λ (z : Result HandedOut). taken_by z o.state left) (sym f) ∙ (λ i. taken_by (e i).answer (e i).state (d i)) ∙ ap (λ (q : State). taken_at q m out) s

-- what an offer that is copied in and a take that hands out a packet change of the row
abbrev is_copied : Result (Unit {0}) → Bool
is_copied (Ok _) = true
is_copied (Err x) = false

abbrev is_handed : Result HandedOut → Bool
is_handed (Ok p) = true
is_handed (Err x) = false

abbrev channel_of : Result HandedOut → ℕ
channel_of (Ok p) = p.channel
channel_of (Err x) = 0

module _ (row : List ℕ) (long : row_size ≤ length row) where
  abbrev st : State
  st = state_at row

  pub copied-changed : (c : ℕ) (p m : List ℕ) (o : Offered)
      → o ≡ step.offered_of st (step.offer_of st c (length p) (length m)) → o.answer ≡ Ok tt
      → ChangedAt row o.state c
  copied-changed c p m o e y = go (step.offer_of st c (length p) (length m)) refl e
    where
      go : (r : Result State) → step.offer_of st c (length p) (length m) ≡ r → o ≡ step.offered_of st r
          → ChangedAt row o.state c
      go (Err x) f i = absurd (true≢false (ap is_copied (sym y ∙ ap (λ (z : Offered). z.answer) i)))
      go (Ok n) f i =
          let held = get_or st.counts c 0 in
          let checks : Checks = (step.admits st (length m), 64) ∷ offer_checks c (length p) held in
          let j = judge-accepts 0 checks (Ok (step.kept_state st c (step.free_slot st) (length p))) n f in
          let t = j.0 in
          let l = leb-true c 7 t.1.0 in
          let few = ltb-true held 8 t.1.1.1.0 in
          let s = (and-true (eqb (length m) memory_size) (sound st) t.0).1 in
          let low = head-fits st c (numbers st s) (omega (arith, l)) in
          let next = accepted-inj j.1 ∙ sym (ap (λ (z : Offered). z.state) i) in
          subst (λ (z : State). ChangedAt row z c) next
          (kept-changed row c long (omega (arith, l)) (step.free_slot st) (length p) low few)

  pub handed-changed : (m out : List ℕ) (o : Taken)
      → o ≡ step.taken_of st (step.take_of st (length m) (length out))
      → (c : ℕ) (n : OctetCount) → o.answer ≡ Ok (record { channel = c; octets = n }) → ChangedAt row o.state c
  handed-changed m out o e c n y = go (step.take_of st (length m) (length out)) refl e
    where
      go : (r : Result ℕ) → step.take_of st (length m) (length out) ≡ r → o ≡ step.taken_of st r
          → ChangedAt row o.state c
      go (Err x) f i = absurd (true≢false (ap is_handed (sym y ∙ ap (λ (z : Taken). z.answer) i)))
      go (Ok d) f i =
          let turn = step.turn_for st in
          let fits = leb (step.head_length st turn) (length out) in
          let checks : Checks = (step.admits st (length m), 64) ∷ (leb turn 7, 63) ∷ (fits, 23) ∷ [] in
          let j = judge-accepts 0 checks (Ok turn) d f in
          let t = j.0 in
          let l = leb-true turn 7 t.1.0 in
          let k : turn ≡ d = accepted-inj j.1 in
          let s = (and-true (eqb (length m) memory_size) (sound st) t.0).1 in
          let same : d ≡ c = ap channel_of (sym (ap (λ (z : Taken). z.answer) i) ∙ y) in
          let low : d < 8 = omega (arith, l, k) in
          subst (λ (z : State). ChangedAt row z c) (sym (ap (λ (z : Taken). z.state) i))
          (subst (λ (z : ℕ). ChangedAt row (step.left_state st d) z) same
          (left-changed row d long low (count_fits st d (numbers st s) low)))
