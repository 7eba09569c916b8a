-- What a step does whatever the state: a refusal keeps the store and the state, but 32 counts one more as late, and 36 changes the
-- remembered number.
-- By the checks in their order: a fresh packet is never refused.
use mathlib.Core.Path.{◌≡◌, refl, ◌∙◌, ap, sym, subst}
use mathlib.Core.Bool.{Bool, true, false, true≢false, cond, ◌&&◌}
use mathlib.Core.List.{List, [], ◌∷◌}
use mathlib.Core.Logic.{◌⊎◌, inl, inr}
use Prim.Native.Nat.{ℕ, ◌+◌, ◌^◌, ◌<◌}
use native.Mathlib.Omega.{arith}
use lib.Dec.{eqb}
use lib.ListN.{length}
use Rattle.wire_spec.specs.declared.refusal.Refusal.{Refusal}
use Rattle.wire_spec.specs.Result.{Result, Err, Ok, refuse}
use Rattle.wire_spec.specs.Layout.{Layout}
use Rattle.wire_spec.specs.Packet.{Content, read_content}
use Rattle.depacketizer_spec.specs.declared.state.State.{State}
use Rattle.depacketizer_spec.specs.declared.state.Field.{Field}
use Rattle.depacketizer_spec.specs.declared.state.Answer.{Answer}
use Rattle.depacketizer_spec.specs.declared.state.Answer.TheVariants as answer
use Rattle.depacketizer_spec.specs.Step.{Gathered, lost, ready, filling, gathered, Carried, whole_if_marked, field_with, join_fits, join_if_fits, join, join_if_same, follow, carried, Class, late, next, far, ahead, classify, distance, Step, late_step, fresh_step, far_step, is_remembered, open_state, far_or_restart, class_step, packet_step, opened_checks, admit, admission, admitted_step, sound, step}
use Rattle.wire_spec.proofs.ResultLaws.{Numbered, then-accepts, judge-accepts}
use Rattle.depacketizer_spec.proofs.NumberLaws.{is_admission, admit-numbered, number_small}

abbrev pub is_refusal : Answer → Bool
is_refusal answer.Skipped = false
is_refusal answer.Held = false
is_refusal answer.Mixed = false
is_refusal answer.Overfull = false
is_refusal (answer.Whole x) = false
is_refusal (answer.Refused x) = true

taken-answers : (x : Field) (b : Bool) → is_refusal (whole_if_marked b x) ≡ false
taken-answers x true = refl
taken-answers x false = refl

join-answers : (r c n : ℕ) (p : Carried) (room : ℕ) → is_refusal (join r c n p room).answer ≡ false
join-answers r c n p room = go (join_fits r c n p room) _
  where
    go : (b : Bool) (m : ℕ) → is_refusal (join_if_fits b p (r + p.records) (c + p.cells) m).answer ≡ false
    go true m = taken-answers (field_with p (r + p.records) (c + p.cells) m) p.marked
    go false m = refl

-- a fresh packet is not refused
pub follow-answers : (g : Gathered) (p : Carried) (room : ℕ) → is_refusal (follow g p room).answer ≡ false
follow-answers lost p room = refl
follow-answers ready p room = join-answers 0 0 0 p room
follow-answers (filling t f r c n) p room = go (eqb t p.timestamp && eqb f p.f)
  where
    go : (b : Bool) → is_refusal (join_if_same b r c n p room).answer ≡ false
    go true = join-answers r c n p room
    go false = refl

pub not-refused : (a : Answer) (x : Refusal) → is_refusal a ≡ false → a ≡ answer.Refused x → ⊥
not-refused a x h e = true≢false (sym (ap is_refusal e) ∙ h)

-- a packet of the opened source and type is refused only where it is late or far
abbrev Unfresh : State → Content → List ℕ → Step → Type 0
Unfresh st k store z = (z ≡ late_step st store) ⊎ (z ≡ far_step st k.number store)

far-refuses : (b : Bool) (st : State) (k : Content) (store : List ℕ) (x : Refusal) → (far_or_restart b st k store).answer ≡ answer.Refused x
    → Unfresh st k store (far_or_restart b st k store)
far-refuses true st k store x e = absurd (not-refused _ x (follow-answers lost (carried k) (length store)) e)
far-refuses false st k store x e = inr refl

class-refuses : (c : Class) (st : State) (k : Content) (store : List ℕ) (x : Refusal) → (class_step c st k store).answer ≡ answer.Refused x
    → Unfresh st k store (class_step c st k store)
class-refuses late st k store x e = inl refl
class-refuses next st k store x e = absurd (not-refused _ x (follow-answers (gathered st) (carried k) (length store)) e)
class-refuses far st k store x e = far-refuses (is_remembered st k.number) st k store x e
class-refuses (ahead n) st k store x e = absurd (not-refused _ x (follow-answers lost (carried k) (length store)) e)

packet-refuses : (b : Bool) (st : State) (k : Content) (store : List ℕ) (x : Refusal) → (packet_step b st k store).answer ≡ answer.Refused x
    → Unfresh st k store (packet_step b st k store)
packet-refuses false st k store x e = absurd (not-refused _ x (follow-answers lost (carried k) (length store)) e)
packet-refuses true st k store x e = class-refuses (classify (distance st.last.0 k.number)) st k store x e

pub refusal-inj : {x y : Refusal} → answer.Refused x ≡ answer.Refused y → x ≡ y
refusal-inj e = cc

-- the step that refuses and changes nothing
abbrev pub unchanged : State → List ℕ → Refusal → Step
unchanged st store x = record { answer = answer.Refused x; state = st; store = store }

-- a step that refuses: it changes nothing, or counts one more as late, or remembers the number after that of the packet, which `says` it
pub record Refuses (st : State) (store : List ℕ) (says : Result Content) (x : Refusal) (z : Step) : Type 0 where
  pub other : (x.number ≡ 32 → ⊥) → (x.number ≡ 36 → ⊥) → z ≡ unchanged st store x
  pub late : x.number ≡ 32 → z ≡ late_step st store
  pub far : x.number ≡ 36 → (k : Content) × (says ≡ Ok k) × (z ≡ far_step st k.number store)

-- not a number of `Refuses`' own cases
abbrev Changeless : ℕ → Type 0
Changeless n = (n ≡ 32 → ⊥) × (n ≡ 36 → ⊥)

unchanged-refuses : (st : State) (store : List ℕ) (says : Result Content) (x y : Refusal) → Changeless y.number
    → (unchanged st store y).answer ≡ answer.Refused x → Refuses st store says x (unchanged st store y)
unchanged-refuses st store says x y n e =
    let p : y ≡ x = refusal-inj e in
    let q : y.number ≡ x.number = ap (λ (z : Refusal). z.number) p in
    record { other = λ m o. ap (unchanged st store) p; late = λ m. absurd (n.0 (q ∙ m)); far = λ m. absurd (n.1 (q ∙ m)) }

-- the number that a step refuses by
refused-by : (x y : Refusal) (z w : Step) → z ≡ w → w.answer ≡ answer.Refused y → z.answer ≡ answer.Refused x → y.number ≡ x.number
refused-by x y z w q a e = ap (λ (v : Refusal). v.number) (refusal-inj (sym a ∙ sym (ap (λ (v : Step). v.answer) q) ∙ e))

unfresh-refuses : (st : State) (k : Content) (store : List ℕ) (x : Refusal) (z : Step) → Unfresh st k store z → z.answer ≡ answer.Refused x
    → Refuses st store (Ok k) x z
unfresh-refuses st k store x z (inl q) e =
    let n : 32 ≡ x.number = refused-by x _ z (late_step st store) q refl e in
    record { other = λ m o. absurd (m (sym n)); late = λ m. q; far = λ m. absurd (omega arith) }
unfresh-refuses st k store x z (inr q) e =
    let n : 36 ≡ x.number = refused-by x _ z (far_step st k.number store) q refl e in
    record { other = λ m o. absurd (o (sym n)); late = λ m. absurd (omega arith); far = λ m. (k, refl, q) }

changeless : (n : ℕ) → is_admission n ≡ true → Changeless n
changeless n h =
    (λ e. true≢false (sym (subst (λ (m : ℕ). is_admission m ≡ true) e h)), λ e. true≢false (sym (subst (λ (m : ℕ). is_admission m ≡ true) e h)))

admitted-refuses : (st : State) (r : Result Content) (store : List ℕ) (x : Refusal) → Numbered is_admission r
    → (admitted_step st r store).answer ≡ answer.Refused x → Refuses st store r x (admitted_step st r store)
admitted-refuses st (Err y) store x h e = unchanged-refuses st store _ x y (changeless y.number h) e
admitted-refuses st (Ok k) store x h e = unfresh-refuses st k store x _ (packet-refuses st.heard st k store x e) e

checked-refuses : (b : Bool) (st : State) (r : Result Content) (store : List ℕ) (x : Refusal) → Numbered is_admission r
    → (admitted_step st (cond b r (refuse 35 0)) store).answer ≡ answer.Refused x
    → Refuses st store (cond b r (refuse 35 0)) x (admitted_step st (cond b r (refuse 35 0)) store)
checked-refuses true st r store x h e = admitted-refuses st r store x h e
checked-refuses false st r store x h e =
    unchanged-refuses st store _ x (record { number = 35; index = 0 }) (λ n. omega arith, λ n. omega arith) e

-- "Lent memory is unchanged, and so is the keeper's state, but 32 adds one to the late count", and 36 "changes only the remembered number":
-- over any state
pub refused-keeps : (st : State) (L : Layout) (octets store : List ℕ) (x : Refusal) → (step st L octets store).answer ≡ answer.Refused x
    → Refuses st store (admission st L (length store) octets) x (step st L octets store)
unfolding step
refused-keeps st L octets store x e =
    checked-refuses (sound st (length store)) st (admit L st.source st.payload_type octets) store x
    (admit-numbered L st.source st.payload_type octets)
    e

-- what passes 35 is not refused by it
pub admitted-not-35 : (st : State) (r : Result Content) (store : List ℕ) (x : Refusal) → Numbered is_admission r
    → (admitted_step st r store).answer ≡ answer.Refused x → x.number ≡ 35 → ⊥
admitted-not-35 st (Err y) store x h e n =
    let p : y.number ≡ 35 = ap (λ (q : Refusal). q.number) (refusal-inj e) ∙ n in
    true≢false (sym (subst (λ (m : ℕ). is_admission m ≡ true) p h))
admitted-not-35 st (Ok k) store x h e n = go (packet-refuses st.heard st k store x e)
  where
    go : Unfresh st k store (packet_step st.heard st k store) → ⊥
    go (inl q) =
        let p : 32 ≡ x.number = refused-by x _ _ (late_step st store) q refl e in
        omega arith
    go (inr q) =
        let p : 36 ≡ x.number = refused-by x _ _ (far_step st k.number store) q refl e in
        omega arith

-- the step of a sound state
pub sound-step : (st : State) (L : Layout) (octets store : List ℕ) → sound st (length store) ≡ true
    → step st L octets store ≡ admitted_step st (admit L st.source st.payload_type octets) store
unfolding step
sound-step st L octets store h = rw h

-- what an admitted packet has passed
pub passed : (st : State) (L : Layout) (room : ℕ) (s : List ℕ) (k : Content) → admission st L room s ≡ Ok k
    → (sound st room ≡ true) × (read_content L s ≡ Ok k)
passed st L room s k h =
    let p = judge-accepts 0 ((sound st room, 35) ∷ []) (admit L st.source st.payload_type s) k h in
    let a = then-accepts (read_content L s) _ k p.1 in
    let b = judge-accepts 0 (opened_checks st.source st.payload_type a.0.source a.0.type) (Ok a.0) k a.2 in
    (p.0.0, a.1 ∙ b.1)

-- the step of what is refused, and of what is admitted
module _ (st : State) (L : Layout) (s store : List ℕ) where
  pub step-refused : (x : Refusal) → admission st L (length store) s ≡ Err x → step st L s store ≡ unchanged st store x
  unfolding step
  step-refused x h = ap (λ (r : Result Content). admitted_step st r store) h

  pub step-admitted : (k : Content) → admission st L (length store) s ≡ Ok k → step st L s store ≡ packet_step st.heard st k store
  unfolding step
  step-admitted k h = ap (λ (r : Result Content). admitted_step st r store) h

-- Every step refuses and changes nothing, or counts one more as late, or remembers a number, or is that of a fresh packet, from the state
-- or from one just opened. What holds of these four holds of every step.
module _ (st : State) (L : Layout) (octets store : List ℕ) (P : Step → Type 0) (refuses : (x : Refusal) → P (unchanged st store x)) (lates : P (late_step st store))
    (fars : (number : ℕ) → P (far_step st number store))
    (freshens : (from : State) (k : Content) → read_content L octets ≡ Ok k → sound st (length store) ≡ true → (found : Gathered) (missing : ℕ)
    → P (fresh_step from found missing k store)) where
  far-is : (b : Bool) (k : Content) → read_content L octets ≡ Ok k → sound st (length store) ≡ true → P (far_or_restart b st k store)
  far-is true k e h = freshens (open_state st.source st.payload_type) k e h lost 0
  far-is false k e h = fars k.number

  class-is : (c : Class) (k : Content) → read_content L octets ≡ Ok k → sound st (length store) ≡ true → P (class_step c st k store)
  class-is late k e h = lates
  class-is next k e h = freshens st k e h (gathered st) 0
  class-is far k e h = far-is (is_remembered st k.number) k e h
  class-is (ahead n) k e h = freshens st k e h lost n

  packet-is : (b : Bool) (k : Content) → read_content L octets ≡ Ok k → sound st (length store) ≡ true → P (packet_step b st k store)
  packet-is false k e h = freshens st k e h lost 0
  packet-is true k e h = class-is (classify (distance st.last.0 k.number)) k e h

  admitted-is : (r : Result Content) → admission st L (length store) octets ≡ r → P (admitted_step st r store)
  admitted-is (Err x) e = refuses x
  admitted-is (Ok k) e = let p = passed st L (length store) octets k e in packet-is st.heard k p.1 p.0

  pub step_is : P (step st L octets store)
  unfolding step
  step_is = admitted-is (admission st L (length store) octets) refl

-- the last fresh number stays one of 32 bits
pub last-small : (st : State) (L : Layout) (octets store : List ℕ) → st.last.0 < 2 ^ 32 → (step st L octets store).state.last.0 < 2 ^ 32
last-small st L octets store h =
    step_is st L octets store (λ (x : Step). x.state.last.0 < 2 ^ 32) (λ x. h) h (λ n. h) (λ from k e s g m. number_small L octets k e)
