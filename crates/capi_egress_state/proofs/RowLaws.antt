-- The parts of a state put one behind the other are its numbers; read again they are the state, and the other way about.
use mathlib.Core.Path.{◌≡◌, sym, ◌∙◌, ap}
use mathlib.Core.Bool.{true}
use mathlib.Core.List.{List, [], ◌∷◌, ◌++◌, append_assoc, head-eq_of_cons-eq}
use Prim.Native.Nat.{ℕ, ◌+◌, ◌<◌, zero-le}
use native.Mathlib.Omega.{arith}
use lib.ListN.{length, take, drop, set, get_or, length-append}
use lib.Seq.{drop-cons, take_at, drop_at}
use Rattle.wire_spec.specs.Bits.{overwrite, splice}
use Rattle.wire_spec.proofs.ListLaws.{splice-append, set-splice}
use Rattle.egress_spec.specs.declared.state.State.{State}
use Rattle.egress_spec.specs.Queues.{channels, slot_count}
use Rattle.capi_egress_state.specs.Row.{counts_at, fits, is_state, lengths_at, next_at, numbers_of, part, slots_at, state_at}

-- one part more
more : (row l piece new : List ℕ) (at : ℕ) → l ≡ splice row 0 piece → at ≡ 0 + length piece → splice l at new ≡ splice row 0 (piece ++ new)
more row l piece new at e n = (λ i. splice (e i) (n i) new) ∙ splice-append row 0 piece new zero-le

-- Arrays as long as a state's are.
pub record Sized (s : State) : Type 0 where
  pub heads : length s.heads ≡ channels
  pub counts : length s.counts ≡ channels
  pub slots : length s.slots ≡ slot_count
  pub lengths : length s.lengths ≡ slot_count

module _ (row : List ℕ) (s : State) (z : Sized s) (r1 r2 r3 r4 : List ℕ) where
  pub put_all : r1 ≡ splice row 0 s.heads → r2 ≡ splice r1 counts_at s.counts → r3 ≡ splice r2 slots_at s.slots → r4 ≡ splice r3 lengths_at s.lengths
      → next_at < length r4 → set r4 next_at s.next ≡ overwrite (numbers_of s) row
  put_all e1 e2 e3 e4 h =
      let two = s.heads ++ s.counts in
      let three = two ++ s.slots in
      let f2 = e2 ∙ more row r1 s.heads s.counts counts_at e1 (omega (arith, z.heads)) in
      let f3 = e3 ∙ more row r2 two s.slots slots_at f2 (omega (arith, z.heads, z.counts, length-append s.heads s.counts)) in
      let f4 = e4 ∙ more row r3 three s.lengths lengths_at f3
      (omega (arith, z.heads, z.counts, z.slots, length-append s.heads s.counts, length-append two s.slots)) in
      set-splice r4 next_at s.next h
      ∙ more row r4 (three ++ s.lengths) (s.next ∷ []) next_at f4
      (omega (arith, z.heads, z.counts, z.slots, z.lengths, length-append s.heads s.counts, length-append two s.slots, length-append three s.lengths))

-- a part behind others
piece : (a b c : List ℕ) (at n : ℕ) → length a ≡ at → length b ≡ n → part ((a ++ b) ++ c) at n ≡ b
piece a b c at n e f = ap (λ (l : List ℕ). part l at n) (append_assoc a b c) ∙ ap (take n) (drop_at a (b ++ c) at e) ∙ take_at b c n f

-- whatever follows them in a row, the numbers of a state are that state again
pub state-again : (s : State) (rest : List ℕ) → Sized s → state_at (numbers_of s ++ rest) ≡ s
state-again s rest z =
    let two = s.heads ++ s.counts in
    let three = two ++ s.slots in
    let four = three ++ s.lengths in
    let l2 : length two ≡ slots_at = omega (arith, z.heads, z.counts, length-append s.heads s.counts) in
    let l3 : length three ≡ lengths_at = omega (arith, l2, z.slots, length-append two s.slots) in
    let l4 : length four ≡ next_at = omega (arith, l3, z.lengths, length-append three s.lengths) in
    let w1 : numbers_of s ++ rest ≡ four ++ (s.next ∷ rest) = append_assoc four (s.next ∷ []) rest in
    let w2 = w1 ∙ append_assoc three s.lengths (s.next ∷ rest) in
    let w3 = w2 ∙ append_assoc two s.slots (s.lengths ++ (s.next ∷ rest)) in
    let w4 = w3 ∙ append_assoc s.heads s.counts (s.slots ++ (s.lengths ++ (s.next ∷ rest))) in
    let h : part (numbers_of s ++ rest) 0 channels ≡ s.heads = ap (take channels) w4 ∙ take_at s.heads _ channels z.heads in
    let n : part (numbers_of s ++ rest) counts_at channels ≡ s.counts = ap (λ (l : List ℕ). part l counts_at channels) w3 ∙ piece s.heads s.counts _ counts_at channels z.heads z.counts in
    let t : part (numbers_of s ++ rest) slots_at slot_count ≡ s.slots = ap (λ (l : List ℕ). part l slots_at slot_count) w2 ∙ piece two s.slots _ slots_at slot_count l2 z.slots in
    let l : part (numbers_of s ++ rest) lengths_at slot_count ≡ s.lengths = ap (λ (l : List ℕ). part l lengths_at slot_count) w1 ∙ piece three s.lengths _ lengths_at slot_count l3 z.lengths in
    let long : next_at < length (numbers_of s ++ rest) = omega (arith, l4, length-append four (s.next ∷ []), length-append (numbers_of s) rest) in
    let x : get_or (numbers_of s ++ rest) next_at 0 ≡ s.next =
    head-eq_of_cons-eq (sym (drop-cons (numbers_of s ++ rest) next_at 0 long) ∙ ap (drop next_at) w1 ∙ drop_at four (s.next ∷ rest) next_at l4) in
    λ i. record { heads = h i; counts = n i; slots = t i; lengths = l i; next = x i }

-- and the row is a state where the state's numbers fit
pub fits-again : (s : State) (rest : List ℕ) → Sized s → fits s ≡ true → is_state (numbers_of s ++ rest) ≡ true
fits-again s rest z f = ap fits (state-again s rest z) ∙ f
