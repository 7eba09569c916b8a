-- "Memory and state are handed on unaltered from call to call": a state that came out of a row fits a row again after any call.
use mathlib.Core.Path.{◌≡◌, refl, ◌∙◌, subst}
use mathlib.Core.Bool.{true}
use mathlib.Core.List.{List, ◌∷◌}
use Prim.Native.Nat.{ℕ, ◌+◌, ◌-◌, ◌≤◌}
use native.Mathlib.Omega.{arith}
use lib.Dec.{eqb, leb}
use lib.ListN.{length, drop, get_or, length-set}
use borrow.Author.Tests.{leb-true, le-leb, ltb-true}
use Rattle.wire_spec.specs.Bits.{overwrite}
use Rattle.wire_spec.specs.Result.{Result, Err, Ok}
use Rattle.wire_spec.proofs.ResultLaws.{accepted-inj, and-true, judge-accepts}
use Rattle.egress_spec.specs.declared.state.State.{State}
use Rattle.egress_spec.specs.Queues.{Call, offering, taking, behind, channels, memory_size, offer_checks, slot_count, slot_size}
use Rattle.egress_spec.specs.Places.{sound}
use Rattle.egress_spec.specs.Step.{admits, free_slot, kept_state, left_state, offer_of, offered_of, place_of, take_of, taken_of}
use Rattle.egress_spec.specs.Calls.{call}
use Rattle.egress_spec.proofs.Upto.{and_right}
use Rattle.egress_spec.proofs.FreeLaws.{free_one}
use Rattle.egress_spec.proofs.Circle.{behind-channel}
use Rattle.capi_egress_state.specs.Row.{all_fit, counts_at, fits, is_state, lengths_at, max16, max8, numbers_of, row_size, slots_at, state_at}
use Rattle.capi_egress_state.proofs.FitLaws.{fit-any, fit-set, fitting, part_length}
use Rattle.capi_egress_state.proofs.RowLaws.{Sized, fits-again, state-again}

-- arrays of a state's lengths, whose numbers fit
pub record Holds (s : State) : Type 0 where
  pub sized : Sized s
  pub heads : all_fit max8 s.heads ≡ true
  pub counts : all_fit max8 s.counts ≡ true
  pub slots : all_fit max8 s.slots ≡ true
  pub lengths : all_fit max16 s.lengths ≡ true
  pub next : s.next ≤ max8

pub holds_fits : (s : State) → Holds s → fits s ≡ true
holds_fits s h = rw (h.heads, h.counts, h.slots, h.lengths, le-leb s.next max8 h.next)

kept-holds : (st : State) (c slot n : ℕ) → Holds st → slot ≤ max8 → n ≤ max16 → get_or st.counts c 0 + 1 ≤ max8 → Holds (kept_state st c slot n)
kept-holds st c slot n h s l k =
    let at = place_of st c (get_or st.counts c 0) in
    let more = get_or st.counts c 0 + 1 in
    record {
      sized =
          record {
            heads = h.sized.heads;
            counts = length-set st.counts c more ∙ h.sized.counts;
            slots = length-set st.slots at slot ∙ h.sized.slots;
            lengths = length-set st.lengths at n ∙ h.sized.lengths;
          };
      heads = h.heads;
      counts = fit-set max8 st.counts c more h.counts k;
      slots = fit-set max8 st.slots at slot h.slots s;
      lengths = fit-set max16 st.lengths at n h.lengths l;
      next = h.next;
    }

left-holds : (st : State) (c : ℕ) → Holds st → Holds (left_state st c)
left-holds st c h =
    let head = behind (get_or st.heads c 0) in
    let fewer = get_or st.counts c 0 - 1 in
    record {
      sized =
          record {
            heads = length-set st.heads c head ∙ h.sized.heads;
            counts = length-set st.counts c fewer ∙ h.sized.counts;
            slots = h.sized.slots;
            lengths = h.sized.lengths;
          };
      heads = fit-set max8 st.heads c head h.heads (omega (arith, behind-channel (get_or st.heads c 0)));
      counts = fit-set max8 st.counts c fewer h.counts (omega (arith, fit-any max8 st.counts c h.counts));
      slots = h.slots;
      lengths = h.lengths;
      next = omega (arith, behind-channel c);
    }

pub call-holds : (st : State) (m : List ℕ) (k : Call) → Holds st → Holds (call st m k).state
call-holds st m (offering c p) h = go (offer_of st c (length p) (length m)) refl
  where
    go : (r : Result State) → offer_of st c (length p) (length m) ≡ r → Holds (offered_of st r).state
    go (Err x) e = h
    go (Ok n) e =
        let j = judge-accepts 0 ((admits st (length m), 64) ∷ offer_checks c (length p) (get_or st.counts c 0)) (Ok (kept_state st c (free_slot st) (length p))) n e in
        let t = j.0 in
        let l = leb-true c 7 t.1.0 in
        let few = ltb-true (get_or st.counts c 0) 8 t.1.1.1.0 in
        let low = free_one st c (and_right (eqb (length m) memory_size) (sound st) t.0) (omega arith) few in
        let size = leb-true (length p) slot_size (and-true (leb 1 (length p)) (leb (length p) slot_size) t.1.1.0).1 in
        subst Holds (accepted-inj j.1) (kept-holds st c (free_slot st) (length p) h (omega (arith, low)) (omega (arith, size)) (omega (arith, few)))
call-holds st m (taking out) h = go (take_of st (length m) (length out))
  where
    go : (r : Result ℕ) → Holds (taken_of st r).state
    go (Err x) = h
    go (Ok c) = left-holds st c h

-- the numbers of a row that is a state
pub row-holds : (row : List ℕ) → row_size ≤ length row → is_state row ≡ true → Holds (state_at row)
row-holds row l e =
    let f = fitting row e in
    record {
      sized =
          record {
            heads = part_length row 0 channels (omega arith);
            counts = part_length row counts_at channels (omega arith);
            slots = part_length row slots_at slot_count (omega arith);
            lengths = part_length row lengths_at slot_count (omega arith);
          };
      heads = f.heads;
      counts = f.counts;
      slots = f.slots;
      lengths = f.lengths;
      next = f.next;
    }

-- So a row that is a state is one after every call too, and what stands in it is what the library's call leaves: every theorem of the outlet's calls is one
-- of calls through a row.
pub handed-on : (row m : List ℕ) (k : Call) → row_size ≤ length row → is_state row ≡ true
    → (is_state (overwrite (numbers_of (call (state_at row) m k).state) row) ≡ true)
    × (state_at (overwrite (numbers_of (call (state_at row) m k).state) row) ≡ (call (state_at row) m k).state)
handed-on row m k l e =
    let s = (call (state_at row) m k).state in
    let h = call-holds (state_at row) m k (row-holds row l e) in
    let rest = drop (length (numbers_of s)) row in
    (fits-again s rest h.sized (holds_fits s h), state-again s rest h.sized)
