-- Numbers that all fit: one by one, and those of a row.
use mathlib.Core.Path.{◌≡◌, refl}
use mathlib.Core.Bool.{Bool, true, false, ◌&&◌, and_assoc, and_comm}
use mathlib.Core.List.{List, [], ◌∷◌, append-nil}
use Prim.Native.Nat.{ℕ, zero, suc, ◌+◌, ◌-◌, ◌^◌, ◌≤◌, ◌<◌}
use native.Mathlib.Numerals.{add-one}
use native.Mathlib.Omega.{arith}
use lib.Bits.{bit_or, or_lt, or_add_and, and_le_l, and_le_r}
use lib.Dec.{leb}
use lib.Pow.{pow_pos}
use lib.ListN.{length, get_or, drop, set, length-take, length-drop}
use lib.Seq.{drop-cons, drop-length}
use borrow.Author.Tests.{leb-true, leb-false, le-leb, lt-leb}
use Rattle.wire_spec.proofs.ResultLaws.{and-true}
use Rattle.wire_spec.specs.Bits.{overwrite}
use Rattle.egress_spec.specs.Queues.{channels, slot_count}
use Rattle.capi_egress_state.specs.Row.{all_fit, counts_at, is_state, lengths_at, max16, max8, next_at, part, slots_at}

-- one by one
pub fit_at : (most : ℕ) (l : List ℕ) (k : ℕ) → all_fit most l ≡ true → k < length l → get_or l k 0 ≤ most
unfolding all_fit
fit_at most [] k e h = absurd (omega arith)
fit_at most (n ∷ ns) zero e h = leb-true n most (and-true (leb n most) (all_fit most ns) e).0
fit_at most (n ∷ ns) (suc k) e h = fit_at most ns k (and-true (leb n most) (all_fit most ns) e).1 (omega arith)

-- the bits of two numbers fit a width exactly if both numbers do
or_above : (a b : ℕ) → (a ≤ bit_or a b) × (b ≤ bit_or a b)
or_above a b =
    let e = or_add_and a b in
    let l = and_le_l a b in
    let r = and_le_r a b in
    (omega (arith, e, r), omega (arith, e, l))

or-fits : (bits a b : ℕ) → leb (bit_or a b) (2 ^ bits - 1) ≡ leb a (2 ^ bits - 1) && leb b (2 ^ bits - 1)
or-fits bits a b = go (leb a most) refl (leb b most) refl
  where
    most : ℕ
    most = 2 ^ bits - 1

    go : (x : Bool) → leb a most ≡ x → (y : Bool) → leb b most ≡ y → leb (bit_or a b) most ≡ x && y
    go true e true f =
        let p = pow_pos bits in
        let l = leb-true a most e in
        let r = leb-true b most f in
        let h = or_lt bits a b (omega (arith, p, l)) (omega (arith, p, r)) in
        le-leb (bit_or a b) most (omega (arith, h))
    go true e false f =
        let r = leb-false b most f in
        lt-leb (bit_or a b) most (omega (arith, r, (or_above a b).1))
    go false e y f =
        let l = leb-false a most e in
        lt-leb (bit_or a b) most (omega (arith, l, (or_above a b).0))

-- what is joined and those from `k` on: one more is joined, or none is left
pub join-next : (bits all : ℕ) (l : List ℕ) (k : ℕ) → k < length l
    → leb (bit_or all (get_or l k 0)) (2 ^ bits - 1) && all_fit (2 ^ bits - 1) (drop (k + 1) l)
    ≡ leb all (2 ^ bits - 1) && all_fit (2 ^ bits - 1) (drop k l)
unfolding all_fit
join-next bits all l k h =
    rw (add-one k, or-fits bits all (get_or l k 0), drop-cons l k 0 h)
    (and_assoc (leb all (2 ^ bits - 1)) (leb (get_or l k 0) (2 ^ bits - 1))
    (all_fit (2 ^ bits - 1) (drop (suc k) l)))

pub join-end : (bits all : ℕ) (l : List ℕ)
    → leb all (2 ^ bits - 1) && all_fit (2 ^ bits - 1) (drop (length l) l) ≡ leb all (2 ^ bits - 1)
unfolding all_fit
join-end bits all l = rw (drop-length l) (and_comm (leb all (2 ^ bits - 1)) true)

-- the numbers of a row that is a state
pub record RowFits (row : List ℕ) : Type 0 where
  pub heads : all_fit max8 (part row 0 channels) ≡ true
  pub counts : all_fit max8 (part row counts_at channels) ≡ true
  pub slots : all_fit max8 (part row slots_at slot_count) ≡ true
  pub lengths : all_fit max16 (part row lengths_at slot_count) ≡ true
  pub next : get_or row next_at 0 ≤ max8

pub fitting : (row : List ℕ) → is_state row ≡ true → RowFits row
fitting row e =
    let a = and-true (all_fit max8 (part row 0 channels)) _ e in
    let b = and-true (all_fit max8 (part row counts_at channels)) _ a.1 in
    let c = and-true (all_fit max8 (part row slots_at slot_count)) _ b.1 in
    let d = and-true (all_fit max16 (part row lengths_at slot_count)) (leb (get_or row next_at 0) max8) c.1 in
    record { heads = a.0; counts = b.0; slots = c.0; lengths = d.0; next = leb-true (get_or row next_at 0) max8 d.1 }

-- all of a row written over
pub over-all : (new old : List ℕ) → length new ≡ length old → overwrite new old ≡ new
over-all new old e = rw (e, drop-length old) (append-nil new)

pub part_length : (row : List ℕ) (at n : ℕ) → at + n ≤ length row → length (part row at n) ≡ n
part_length row at n h = simp (length-take, length-drop) (omega arith)

-- whatever the index
pub fit-any : (most : ℕ) (l : List ℕ) (k : ℕ) → all_fit most l ≡ true → get_or l k 0 ≤ most
unfolding all_fit
fit-any most [] k e = omega arith
fit-any most (n ∷ ns) zero e = leb-true n most (and-true (leb n most) (all_fit most ns) e).0
fit-any most (n ∷ ns) (suc k) e = fit-any most ns k (and-true (leb n most) (all_fit most ns) e).1

-- with one of them set
pub fit-set : (most : ℕ) (l : List ℕ) (k v : ℕ) → all_fit most l ≡ true → v ≤ most → all_fit most (set l k v) ≡ true
unfolding all_fit
fit-set most [] k v e h = refl
fit-set most (n ∷ ns) zero v e h = rw (le-leb v most h) (and-true (leb n most) (all_fit most ns) e).1
fit-set most (n ∷ ns) (suc k) v e h =
    let p = and-true (leb n most) (all_fit most ns) e in
    rw p.0 (fit-set most ns k v p.1 h)
