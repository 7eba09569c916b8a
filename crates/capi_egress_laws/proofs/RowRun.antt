-- K10 THROUGH THE C BOUNDARY: from a row that `jibhotran_outlet_open` wrote, any calls answer as eight queues and a pointer do, and a refusal changes nothing.
-- A row that is a state is one after every call, so each call is one of the library's.
use mathlib.Core.Path.{◌≡◌, refl, ap, ap₂, sym, ◌∙◌, subst}
use mathlib.Core.Bool.{Bool, true, false, not, cond, true≢false}
use mathlib.Core.Logic.{◌↔◌}
use mathlib.Core.List.{List, [], ◌∷◌, ◌++◌}
use Prim.Native.Nat.{ℕ, suc, ◌<◌, ◌≤◌}
use native.Mathlib.Omega.{arith}
use lib.Dec.{eqb, leb}
use lib.ListN.{length, drop, get_or, length-append}
use borrow.Author.Tests.{le-leb, eq-eqb, eqb-true, not-true}
use Rattle.wire_spec.specs.declared.refusal.Refusal.{Refusal}
use Rattle.wire_spec.specs.Bits.{overwrite}
use Rattle.wire_spec.specs.Anc.{Each}
use Rattle.wire_spec.specs.Result.{Result, Err, Ok}
use Rattle.wire_spec.proofs.ResultLaws.{Numbered, and_both, and-true, judge-numbered}
use Rattle.egress_spec.specs.declared.state.State.{State}
use Rattle.egress_spec.specs.Queues.{Call, offering, taking, Answer, copied, no, memory_size, opened, answers, offer_checks}
use Rattle.egress_spec.specs.Places.{open_state, sound}
use Rattle.egress_spec.specs.Step.{admits, free_slot, kept_state, offer_of, offered_of, memory_after, take_of, taken_of, out_after, turn_for, head_length}
use Rattle.egress_spec.specs.Calls.{Called, call, offer_heard, take_heard, lent_to, answers_from}
use Rattle.egress_spec.proofs.Simulation.{answers-as-queues}
use Rattle.egress_spec.proofs.SoundLaws.{sound-says, says-sound}
use Rattle.capi_egress_state.specs.Row.{all_fit, fits, is_state, numbers_of, row_size, state_at}
use Rattle.capi_egress_state.proofs.FitLaws.{fit-any, fitting, part_length}
use Rattle.capi_egress_state.proofs.HandedOn.{Holds, holds_fits, call-holds, row-holds}
use Rattle.capi_egress_state.proofs.RowLaws.{Sized, fits-again, state-again}
use Rattle.capi_answer.specs.Rows.{answer_size, refused_reply, row_reply}
use Rattle.capi_egress.specs.Calls.{Given, unchanged, rows_fit, offered_by, taken_by}
use Rattle.capi_egress.specs.Calls as calls
use Rattle.capi_egress_laws.specs.RowRun.{RowSound, RowCall, calls_of, given_to, leaves, row_call, heard, row_answers, opened_row}

-- no refusal has the number 0
abbrev is_not0 : ℕ → Bool
is_not0 n = not (eqb n 0)

offer-numbered : (st : State) (c n m : ℕ) → Numbered is_not0 (offer_of st c n m)
offer-numbered st c n m = judge-numbered is_not0 0 ((admits st m, 64) ∷ offer_checks c n (get_or st.counts c 0)) (Ok (kept_state st c (free_slot st) n)) refl tt

take-numbered : (st : State) (m room : ℕ) → Numbered is_not0 (take_of st m room)
take-numbered st m room =
    judge-numbered is_not0 0 ((admits st m, 64) ∷ (leb (turn_for st) 7, 63) ∷ (leb (head_length st (turn_for st)) room, 23) ∷ []) (Ok (turn_for st)) refl tt

-- what a call through a row has given, against the library's call
record Alike (state m : List ℕ) (k : Call) (answer : List ℕ) (g : Given) (r : Called) : Type 0 where
  hears : heard k (leaves state m k answer g) ≡ r.answer
  memory : (leaves state m k answer g).memory ≡ r.memory
  lent : (leaves state m k answer g).lent ≡ r.lent
  next : state_at (leaves state m k answer g).state ≡ r.state
  is : is_state (leaves state m k answer g).state ≡ true
  long : row_size ≤ length (leaves state m k answer g).state

-- a state's numbers in a row
long-row : (s : State) → Sized s → (row : List ℕ) → row_size ≤ length (overwrite (numbers_of s) row)
long-row s z row =
    let two = s.heads ++ s.counts in
    let three = two ++ s.slots in
    omega (
      arith,
      z.heads,
      z.counts,
      z.slots,
      z.lengths,
      length-append s.heads s.counts,
      length-append two s.slots,
      length-append three s.lengths,
      length-append (three ++ s.lengths) (s.next ∷ []),
      length-append (numbers_of s) (drop (length (numbers_of s)) row),
    )

refusal_is : (x : Refusal) (c : ℕ) → is_not0 x.number ≡ true → (a : Answer) → cond (eqb x.number 0) a (no (record { number = x.number; index = x.index })) ≡ no x
refusal_is x c h a = rw (not-true (eqb x.number 0) h)

module _ (state m answer : List ℕ) (long : row_size ≤ length state) (is : is_state state ≡ true) where
  abbrev st : State
  st = state_at state

  offer-alike : (c : ℕ) (p : List ℕ) (r : Result State) → Numbered is_not0 r → Holds (offered_of st r).state
      → Alike state m (offering c p) answer (offered_by (offered_of st r).answer (offered_of st r).state (memory_after st r p m))
      (record { state = (offered_of st r).state; memory = memory_after st r p m; lent = p; answer = offer_heard (offered_of st r).answer })
  offer-alike c p (Err x) h s = record { hears = refusal_is x c h copied; memory = refl; lent = refl; next = refl; is = is; long = long }
  offer-alike c p (Ok n) h s =
      record {
        hears = refl;
        memory = refl;
        lent = refl;
        next = state-again n (drop (length (numbers_of n)) state) s.sized;
        is = fits-again n (drop (length (numbers_of n)) state) s.sized (holds_fits n s);
        long = long-row n s.sized state;
      }

  take-alike : (out : List ℕ) (r : Result ℕ) → Numbered is_not0 r → Holds (taken_of st r).state
      → Alike state m (taking out) answer (taken_by (taken_of st r).answer (taken_of st r).state (out_after st m r out))
      (record { state = (taken_of st r).state; memory = m; lent = out_after st m r out; answer = take_heard (taken_of st r).answer (out_after st m r out) })
  take-alike out (Err x) h s = record { hears = refusal_is x 0 h _; memory = refl; lent = refl; next = refl; is = is; long = long }
  take-alike out (Ok c) h s =
      let n = (taken_of st (Ok c)).state in
      record {
        hears = refl;
        memory = refl;
        lent = refl;
        next = state-again n (drop (length (numbers_of n)) state) s.sized;
        is = fits-again n (drop (length (numbers_of n)) state) s.sized (holds_fits n s);
        long = long-row n s.sized state;
      }

  -- one call through a row is the library's call
  alike : answer_size ≤ length answer → (k : Call) → Alike state m k answer (given_to state m k answer) (call st m k)
  alike room (offering c p) =
      rw (le-leb row_size (length state) long, le-leb answer_size (length answer) room, is)
      (offer-alike c p (offer_of st c (length p) (length m)) (offer-numbered st c (length p) (length m)) (call-holds st m (offering c p) (row-holds state long is)))
  alike room (taking out) =
      rw (le-leb row_size (length state) long, le-leb answer_size (length answer) room, is)
      (take-alike out (take_of st (length m) (length out)) (take-numbered st (length m) (length out)) (call-holds st m (taking out) (row-holds state long is)))

-- the rows that are lent for answers are long enough
abbrev pub Roomy : RowCall → Type 0
Roomy k = answer_size ≤ length k.answer

rows_alike : (ks : List RowCall) → Each Roomy ks → (state m : List ℕ) → row_size ≤ length state → is_state state ≡ true → row_answers state m ks ≡ answers_from (state_at state) m (calls_of ks)
rows_alike [] f state m long is = refl
rows_alike (k ∷ ks) f state m long is =
    let a = alike state m k.answer long is f.0 k.call in
    let r = row_call state m k in
    ap₂ ◌∷◌ a.hears
    (rows_alike ks f.1 r.state r.memory a.long a.is ∙ ap₂ (λ (s : State) (n : List ℕ). answers_from s n (calls_of ks)) a.next a.memory)

-- "From an outlet just opened, empty, any sequence of calls answers as eight queues and a pointer do.", through the C boundary
pub rows-as-queues : (state m : List ℕ) → 145 ≤ length state → length m ≡ 65536 → (ks : List RowCall) → Each Roomy ks
    → row_answers (opened_row state) m ks ≡ answers opened (calls_of ks)
rows-as-queues state m long size ks f =
    let opens : opened_row state ≡ overwrite (numbers_of open_state) state = rw (le-leb row_size (length state) long) in
    let rest = drop (length (numbers_of open_state)) state in
    let again : state_at (opened_row state) ≡ open_state = ap state_at opens ∙ state-again open_state rest empty in
    rows_alike ks f (opened_row state) m (subst (λ (row : List ℕ). row_size ≤ length row) (sym opens) (long-row open_state empty state)) (ap is_state opens ∙ fits-again open_state rest empty fit)
    ∙ ap (λ (s : State). answers_from s m (calls_of ks)) again
    ∙ answers-as-queues m size (calls_of ks)
  where
    empty : Sized open_state
    empty = record { heads = refl; counts = refl; slots = refl; lengths = refl }

    fit : fits open_state ≡ true
    fit = unfold all_fit in refl

-- "A refusal changes nothing.": of any rows and any memory, a row too short and numbers that are no state included
pub record Unchanged (state m : List ℕ) (k : RowCall) : Type 0 where
  pub row : (row_call state m k).state ≡ state
  pub memory : (row_call state m k).memory ≡ m
  pub lent : (row_call state m k).lent ≡ lent_to k.call

module _ (state m answer : List ℕ) where
  -- what is given, whichever case it is
  offer-stays : (c : ℕ) (p : List ℕ) (a b : Bool) (r : Result State)
      → ((leaves state m (offering c p) answer
      (cond a (cond b (offered_by (offered_of (state_at state) r).answer (offered_of (state_at state) r).state (memory_after (state_at state) r p m))
      (unchanged (refused_reply (record { number = 64; index = 0 })) m)) (unchanged row_reply m))).number ≡ 0 → ⊥)
      → ((leaves state m (offering c p) answer
      (cond a (cond b (offered_by (offered_of (state_at state) r).answer (offered_of (state_at state) r).state (memory_after (state_at state) r p m))
      (unchanged (refused_reply (record { number = 64; index = 0 })) m)) (unchanged row_reply m))).state ≡ state)
      × ((leaves state m (offering c p) answer
      (cond a (cond b (offered_by (offered_of (state_at state) r).answer (offered_of (state_at state) r).state (memory_after (state_at state) r p m))
      (unchanged (refused_reply (record { number = 64; index = 0 })) m)) (unchanged row_reply m))).memory ≡ m)
  offer-stays c p false b r h = (refl, refl)
  offer-stays c p true false r h = (refl, refl)
  offer-stays c p true true (Err x) h = (refl, refl)
  offer-stays c p true true (Ok n) h = absurd (h refl)

  take-stays : (out : List ℕ) (a b : Bool) (r : Result ℕ)
      → ((leaves state m (taking out) answer
      (cond a (cond b (taken_by (taken_of (state_at state) r).answer (taken_of (state_at state) r).state (out_after (state_at state) m r out))
      (unchanged (refused_reply (record { number = 64; index = 0 })) out)) (unchanged row_reply out))).number ≡ 0 → ⊥)
      → ((leaves state m (taking out) answer
      (cond a (cond b (taken_by (taken_of (state_at state) r).answer (taken_of (state_at state) r).state (out_after (state_at state) m r out))
      (unchanged (refused_reply (record { number = 64; index = 0 })) out)) (unchanged row_reply out))).state ≡ state)
      × ((leaves state m (taking out) answer
      (cond a (cond b (taken_by (taken_of (state_at state) r).answer (taken_of (state_at state) r).state (out_after (state_at state) m r out))
      (unchanged (refused_reply (record { number = 64; index = 0 })) out)) (unchanged row_reply out))).lent ≡ out)
  take-stays out false b r h = (refl, refl)
  take-stays out true false r h = (refl, refl)
  take-stays out true true (Err x) h = (refl, refl)
  take-stays out true true (Ok n) h = absurd (h refl)

pub row-refusal-changes-nothing : (state m : List ℕ) (k : RowCall) → ((row_call state m k).number ≡ 0 → ⊥) → Unchanged state m k
row-refusal-changes-nothing state m k h = go k.call h
  where
    go : (c : Call) → ((leaves state m c k.answer (given_to state m c k.answer)).number ≡ 0 → ⊥)
        → Unchanged state m (record { call = c; answer = k.answer })
    go (offering c p) h =
        let s = offer-stays state m k.answer c p (rows_fit (length state) (length k.answer)) (is_state state) (offer_of (state_at state) c (length p) (length m)) h in
        record { row = s.0; memory = s.1; lent = refl }
    go (taking out) h =
        let s = take-stays state m k.answer out (rows_fit (length state) (length k.answer)) (is_state state) (take_of (state_at state) (length m) (length out)) h in
        record { row = s.0; memory = refl; lent = s.1 }

-- 64, OF A ROW: exactly where one of its cases holds, and it comes before every other number
fit_all : (most : ℕ) (l : List ℕ) → ((k : ℕ) → k < length l → get_or l k 0 ≤ most) → all_fit most l ≡ true
unfolding all_fit
fit_all most [] h = refl
fit_all most (n ∷ ns) h = and_both (le-leb n most (h 0 (omega arith))) (fit_all most ns (λ k l. h (suc k) (omega arith)))

module _ (state m answer : List ℕ) (long : row_size ≤ length state) (room : answer_size ≤ length answer) where
  sound-is : RowSound state m → (is_state state ≡ true) × (admits (state_at state) (length m) ≡ true)
  sound-is s =
      let p = s.sound in
      let st = state_at state in
      let size = part_length state in (
        holds_fits st (record {
          sized = record { heads = size 0 8 (omega arith); counts = size 8 8 (omega arith); slots = size 16 64 (omega arith); lengths = size 80 64 (omega arith) };
          heads = fit_all 255 st.heads (λ k l. let g = p.starts k (omega (arith, size 0 8 (omega arith))) in omega arith);
          counts = fit_all 255 st.counts (λ k l. let g = p.counts k (omega (arith, size 8 8 (omega arith))) in omega arith);
          slots = fit_all 255 st.slots (λ k l. let g = p.slots k (omega (arith, size 16 64 (omega arith))) in omega arith);
          lengths = fit_all 65535 st.lengths (λ k l. s.lengths k (omega (arith, size 80 64 (omega arith))));
          next = let g = p.next in omega arith;
        }),
        and_both (eq-eqb (length m) memory_size s.memory) (says-sound st p),
      )

  is-sound : is_state state ≡ true → admits (state_at state) (length m) ≡ true → RowSound state m
  is-sound e a =
      let b = and-true (eqb (length m) memory_size) (sound (state_at state)) a in
      record {
        memory = eqb-true (length m) memory_size b.0;
        sound = sound-says (state_at state) b.1;
        lengths = λ k l. fit-any 65535 (state_at state).lengths k (fitting state e).lengths;
      }

  offer-number : (c : ℕ) (p : List ℕ) (x : Bool) (y : Bool) → is_state state ≡ x → admits (state_at state) (length m) ≡ y
      → ((calls.offer state c p m answer).reply.number ≡ 64) ↔ (RowSound state m → ⊥)
  offer-number c p false y e a = (λ z s. true≢false (sym (sound-is s).0 ∙ e), λ n. rw (le-leb row_size (length state) long, le-leb answer_size (length answer) room, e))
  offer-number c p true false e a = (λ z s. true≢false (sym (sound-is s).1 ∙ a), λ n. rw (le-leb row_size (length state) long, le-leb answer_size (length answer) room, e, a))
  offer-number c p true true e a = (
    λ z. absurd (other (offer_of (state_at state) c (length p) (length m)) later
        (rw (le-leb row_size (length state) long, le-leb answer_size (length answer) room, e) at z)),
    λ n. absurd (n (is-sound e a)),
  )
    where
      later : Numbered (λ (n : ℕ). not (eqb n 64)) (offer_of (state_at state) c (length p) (length m))
      later =
          rw a
          (judge-numbered (λ (n : ℕ). not (eqb n 64)) 0 (offer_checks c (length p) (get_or (state_at state).counts c 0))
          (Ok (kept_state (state_at state) c (free_slot (state_at state)) (length p))) refl tt)

      other : (r : Result State) → Numbered (λ (n : ℕ). not (eqb n 64)) r
          → (offered_by (offered_of (state_at state) r).answer (offered_of (state_at state) r).state (memory_after (state_at state) r p m)).reply.number ≡ 64 → ⊥
      other (Err x) h z = true≢false (sym h ∙ ap (λ (n : ℕ). not (eqb n 64)) z)
      other (Ok n) h z = omega arith

  take-number : (out : List ℕ) (x : Bool) (y : Bool) → is_state state ≡ x → admits (state_at state) (length m) ≡ y
      → ((calls.take state m out answer).reply.number ≡ 64) ↔ (RowSound state m → ⊥)
  take-number out false y e a = (λ z s. true≢false (sym (sound-is s).0 ∙ e), λ n. rw (le-leb row_size (length state) long, le-leb answer_size (length answer) room, e))
  take-number out true false e a = (λ z s. true≢false (sym (sound-is s).1 ∙ a), λ n. rw (le-leb row_size (length state) long, le-leb answer_size (length answer) room, e, a))
  take-number out true true e a = (
    λ z. absurd (other (take_of (state_at state) (length m) (length out)) later
        (rw (le-leb row_size (length state) long, le-leb answer_size (length answer) room, e) at z)),
    λ n. absurd (n (is-sound e a)),
  )
    where
      later : Numbered (λ (n : ℕ). not (eqb n 64)) (take_of (state_at state) (length m) (length out))
      later =
          rw a
          (judge-numbered (λ (n : ℕ). not (eqb n 64)) 0
          ((leb (turn_for (state_at state)) 7, 63) ∷ (leb (head_length (state_at state) (turn_for (state_at state))) (length out), 23) ∷ []) (Ok (turn_for (state_at state))) refl tt)

      other : (r : Result ℕ) → Numbered (λ (n : ℕ). not (eqb n 64)) r
          → (taken_by (taken_of (state_at state) r).answer (taken_of (state_at state) r).state (out_after (state_at state) m r out)).reply.number ≡ 64 → ⊥
      other (Err x) h z = true≢false (sym h ∙ ap (λ (n : ℕ). not (eqb n 64)) z)
      other (Ok n) h z = omega arith

  pub row-64-iff : (k : Call) → ((row_call state m (record { call = k; answer = answer })).number ≡ 64) ↔ (RowSound state m → ⊥)
  row-64-iff (offering c p) = offer-number c p (is_state state) (admits (state_at state) (length m)) refl refl
  row-64-iff (taking out) = take-number out (is_state state) (admits (state_at state) (length m)) refl refl
