-- A call changes few of a row's numbers: with these written, the row has the numbers of the state that it leaves.
use mathlib.Core.Path.{◌≡◌, refl, sym, ◌∙◌, ap, subst}
use mathlib.Core.List.{List, [], ◌∷◌, ◌++◌, append_assoc}
use Prim.Native.Nat.{ℕ, zero, suc, ◌+◌, ◌-◌, ◌≤◌, ◌<◌}
use native.Mathlib.Omega.{arith}
use lib.ListN.{length, get_or, set, drop, length-set, length-append, take-append-drop}
use lib.Seq.{drop-cons, drop-drop, get_or-set_same, set-append_left, set-get_or}
use Rattle.wire_spec.specs.Bits.{overwrite}
use Rattle.egress_spec.specs.declared.state.State.{State}
use Rattle.egress_spec.specs.Queues.{behind, channels}
use Rattle.egress_spec.specs.Step.{kept_state, left_state, place_of}
use Rattle.egress_spec.proofs.Circle.{behind-channel}
use Rattle.egress_spec.proofs.PlaceLaws.{place-low}
use Rattle.capi_egress_state.specs.Row.{ChangedAt, SetAt, last_place, numbers_of, part, row_size, state_at}
use Rattle.capi_egress_state.proofs.FitLaws.{part_length}

-- a number behind the first ones
set-behind : (xs ys : List ℕ) (k i v : ℕ) → k ≡ length xs + i → set (xs ++ ys) k v ≡ xs ++ set ys i v
set-behind [] ys k i v e = let z : k ≡ i = omega arith in ap (λ (j : ℕ). set ys j v) z
set-behind (x ∷ xs) ys zero i v e = absurd (omega arith)
set-behind (x ∷ xs) ys (suc k) i v e = ap (λ (r : List ℕ). x ∷ r) (set-behind xs ys k i v (omega arith))

-- a row as four parts and the rest, and a number set in each of them
abbrev Parts : (h n s l rest : List ℕ) → List ℕ
Parts h n s l rest = h ++ (n ++ (s ++ (l ++ rest)))

module _ (h n s l : List ℕ) (x : ℕ) (rest : List ℕ) where
  abbrev whole : List ℕ
  whole = Parts h n s l (x ∷ rest)

  set-head : (k c v : ℕ) → k ≡ c → c < length h → set whole k v ≡ Parts (set h c v) n s l (x ∷ rest)
  set-head k c v e i = ap (λ (j : ℕ). set whole j v) e ∙ set-append_left h _ c v i

  set-count : (k c v : ℕ) → k ≡ length h + c → c < length n → set whole k v ≡ Parts h (set n c v) s l (x ∷ rest)
  set-count k c v e i = set-behind h _ k c v e ∙ ap (λ (r : List ℕ). h ++ r) (set-append_left n _ c v i)

  -- behind the heads and the counts
  set-later : (k i v : ℕ) → k ≡ length h + (length n + i) → set whole k v ≡ h ++ (n ++ set (s ++ (l ++ (x ∷ rest))) i v)
  set-later k i v e =
      set-behind h _ k (length n + i) v e
      ∙ ap (λ (r : List ℕ). h ++ r) (set-behind n _ (length n + i) i v refl)

  set-slot : (k at v : ℕ) → k ≡ length h + (length n + at) → at < length s
      → set whole k v ≡ Parts h n (set s at v) l (x ∷ rest)
  set-slot k at v e i = set-later k at v e ∙ ap (λ (r : List ℕ). h ++ (n ++ r)) (set-append_left s _ at v i)

  -- and behind the slots
  set_last : (k i v : ℕ) → k ≡ length h + (length n + (length s + i))
      → set whole k v ≡ h ++ (n ++ (s ++ set (l ++ (x ∷ rest)) i v))
  set_last k i v e =
      set-later k (length s + i) v e
      ∙ ap (λ (r : List ℕ). h ++ (n ++ r)) (set-behind s _ (length s + i) i v refl)

  set-length : (k at v : ℕ) → k ≡ length h + (length n + (length s + at)) → at < length l
      → set whole k v ≡ Parts h n s (set l at v) (x ∷ rest)
  set-length k at v e i = set_last k at v e ∙ ap (λ (r : List ℕ). h ++ (n ++ (s ++ r))) (set-append_left l _ at v i)

  set_next : (k v : ℕ) → k ≡ length h + (length n + (length s + (length l + 0)))
      → set whole k v ≡ Parts h n s l (v ∷ rest)
  set_next k v e =
      set_last k (length l + 0) v e
      ∙ ap (λ (r : List ℕ). h ++ (n ++ (s ++ r))) (set-behind l (x ∷ rest) (length l + 0) 0 v refl)

-- the row that is given, and the numbers of a state before what follows them
apart : (row : List ℕ) → row_size ≤ length row
    → row ≡ Parts (part row 0 8) (part row 8 8) (part row 16 64) (part row 80 64) (get_or row 144 0 ∷ drop 145 row)
apart row e =
    sym (take-append-drop 8 row)
    ∙ ap (λ (r : List ℕ). h ++ r) (cut 8 8)
    ∙ ap (λ (r : List ℕ). h ++ (n ++ r)) (cut 16 64)
    ∙ ap (λ (r : List ℕ). h ++ (n ++ (part row 16 64 ++ r))) (cut 80 64)
    ∙ ap (Parts h n (part row 16 64) (part row 80 64)) (drop-cons row 144 0 (omega (arith, e)))
  where
    h : List ℕ
    h = part row 0 8

    n : List ℕ
    n = part row 8 8

    cut : (at n : ℕ) → drop at row ≡ part row at n ++ drop (at + n) row
    cut at n =
        sym (take-append-drop n (drop at row)) ∙ ap (λ (r : List ℕ). part row at n ++ r) (drop-drop n at row)

spread : (h n s l rest : List ℕ) (x : ℕ)
    → ((((h ++ n) ++ s) ++ l) ++ (x ∷ [])) ++ rest ≡ Parts h n s l (x ∷ rest)
spread h n s l rest x =
    append_assoc (((h ++ n) ++ s) ++ l) (x ∷ []) rest ∙ append_assoc ((h ++ n) ++ s) l (x ∷ rest)
    ∙ append_assoc (h ++ n) s (l ++ (x ∷ rest)) ∙ append_assoc h n (s ++ (l ++ (x ∷ rest)))

-- the five numbers of a change
abbrev pub written : (row : List ℕ) (s : State) (c at : ℕ) → List ℕ
written row s c at =
    let r1 = set row (0 + c) (get_or s.heads c 0) in
    let r2 = set r1 (8 + c) (get_or s.counts c 0) in
    let r3 = set r2 (16 + at) (get_or s.slots at 0) in
    let r4 = set r3 (80 + at) (get_or s.lengths at 0) in
    set r4 144 s.next

module _ (row : List ℕ) (s : State) (c : ℕ) (z : ChangedAt row s c) where
  abbrev at : ℕ
  at = last_place s c

  low : at < 64
  low = place-low c _ z.channel

  sized : (at n : ℕ) → at + n ≤ 145 → length (part row at n) ≡ n
  sized at n e = part_length row at n (omega (arith, e, z.long))

  -- as long as they were
  kept : (old new : List ℕ) (k n : ℕ) → SetAt old new k → length old ≡ n → length new ≡ n
  kept old new k n e f = ap length e ∙ length-set old k (get_or new k 0) ∙ f

  numbers-long : length (numbers_of s) ≡ 145
  numbers-long =
      let two = s.heads ++ s.counts in
      let three = two ++ s.slots in
      let four = three ++ s.lengths in
      omega (
        arith,
        length-append s.heads s.counts,
        length-append two s.slots,
        length-append three s.lengths,
        length-append four (s.next ∷ []),
        kept (part row 0 8) s.heads c 8 z.heads (sized 0 8 (omega arith)),
        kept (part row 8 8) s.counts c 8 z.counts (sized 8 8 (omega arith)),
        kept (part row 16 64) s.slots at 64 z.slots (sized 16 64 (omega arith)),
        kept (part row 80 64) s.lengths at 64 z.lengths (sized 80 64 (omega arith)),
      )

  pub change-written : written row s c (last_place s c) ≡ overwrite (numbers_of s) row
  change-written =
      let h = part row 0 8 in
      let n = part row 8 8 in
      let l = part row 16 64 in
      let m = part row 80 64 in
      let x = get_or row 144 0 in
      let rest = drop 145 row in
      let h' = set h c (get_or s.heads c 0) in
      let n' = set n c (get_or s.counts c 0) in
      let l' = set l at (get_or s.slots at 0) in
      let m' = set m at (get_or s.lengths at 0) in
      let k = z.channel in
      let a : length h' ≡ 8 = length-set h c _ ∙ sized 0 8 (omega arith) in
      let b : length n' ≡ 8 = length-set n c _ ∙ sized 8 8 (omega arith) in
      let d : length l' ≡ 64 = length-set l at _ ∙ sized 16 64 (omega arith) in
      let e : length m' ≡ 64 = length-set m at _ ∙ sized 80 64 (omega arith) in
      let q1 = ap (λ (r : List ℕ). set r (0 + c) (get_or s.heads c 0)) (apart row z.long)
      ∙ set-head h n l m x rest (0 + c) c _ (omega arith) (omega (arith, sized 0 8 (omega arith), k)) in
      let q2 = ap (λ (r : List ℕ). set r (8 + c) (get_or s.counts c 0)) q1
      ∙ set-count h' n l m x rest (8 + c) c _ (omega (arith, a)) (omega (arith, sized 8 8 (omega arith), k)) in
      let q3 = ap (λ (r : List ℕ). set r (16 + at) (get_or s.slots at 0)) q2
      ∙ set-slot h' n' l m x rest (16 + at) at _ (omega (arith, a, b))
      (omega (arith, sized 16 64 (omega arith), low)) in
      let q4 = ap (λ (r : List ℕ). set r (80 + at) (get_or s.lengths at 0)) q3
      ∙ set-length h' n' l' m x rest (80 + at) at _ (omega (arith, a, b, d))
      (omega (arith, sized 80 64 (omega arith), low)) in
      ap (λ (r : List ℕ). set r 144 s.next) q4
      ∙ set_next h' n' l' m' x rest 144 s.next (omega (arith, a, b, d, e))
      ∙ sym (λ i. Parts (z.heads i) (z.counts i) (z.slots i) (z.lengths i) (s.next ∷ rest))
      ∙ sym (spread s.heads s.counts s.slots s.lengths rest s.next)
      ∙ ap (λ (j : ℕ). numbers_of s ++ drop j row) (sym numbers-long)

-- what an offer and a take change
set-one : (l : List ℕ) (p q v : ℕ) → p ≡ q → p < length l → SetAt l (set l p v) q
set-one l p q v e h =
    subst (λ (j : ℕ). SetAt l (set l p v) j) e (ap (set l p) (sym (get_or-set_same l p v 0 h)))

set-none : (l : List ℕ) (k : ℕ) → SetAt l l k
set-none l k = sym (set-get_or l k 0)

module _ (row : List ℕ) (c : ℕ) (long : row_size ≤ length row) (h : c < channels) where
  abbrev st : State
  st = state_at row

  in-heads : c < length st.heads
  in-heads = omega (arith, part_length row 0 8 (omega (arith, long)), h)

  in-counts : c < length st.counts
  in-counts = omega (arith, part_length row 8 8 (omega (arith, long)), h)

  pub kept-changed : (slot size : ℕ) → get_or st.heads c 0 < 8 → get_or st.counts c 0 < 8
      → ChangedAt row (kept_state st c slot size) c
  kept-changed slot size a b =
      let k = get_or st.counts c 0 in
      let more = set st.counts c (k + 1) in
      let n : get_or more c 0 ≡ k + 1 = get_or-set_same st.counts c (k + 1) 0 in-counts in
      let e : place_of st c k ≡ last_place (kept_state st c slot size) c = rw n (omega arith) in
      let low = place-low c (get_or st.heads c 0 + k) h in
      let in-slots : place_of st c k < length st.slots =
      omega (arith, low, part_length row 16 64 (omega (arith, long))) in
      let in-lengths : place_of st c k < length st.lengths =
      omega (arith, low, part_length row 80 64 (omega (arith, long))) in
      record {
        long = long;
        channel = h;
        head = a;
        count = rw n (omega (arith, b));
        heads = set-none st.heads c;
        counts = set-one st.counts c c (k + 1) refl in-counts;
        slots = set-one st.slots (place_of st c k) _ slot e in-slots;
        lengths = set-one st.lengths (place_of st c k) _ size e in-lengths;
      }

  pub left-changed : get_or st.counts c 0 ≤ 8 → ChangedAt row (left_state st c) c
  left-changed b =
      let x = get_or st.heads c 0 in
      let k = get_or st.counts c 0 in
      record {
        long = long;
        channel = h;
        head = rw (get_or-set_same st.heads c (behind x) 0 in-heads) (omega (arith, behind-channel x));
        count = rw (get_or-set_same st.counts c (k - 1) 0 in-counts) (omega (arith, b));
        heads = set-one st.heads c c (behind x) refl in-heads;
        counts = set-one st.counts c c (k - 1) refl in-counts;
        slots = set-none st.slots _;
        lengths = set-none st.lengths _;
      }
