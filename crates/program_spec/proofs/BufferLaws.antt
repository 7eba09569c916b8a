-- Parts of the buffers, and what a write and a read leave of them.
-- By the laws of `take` and `drop`.
use mathlib.Core.Path.{◌≡◌, refl, ap, sym, subst, ◌∙◌}
use mathlib.Core.Bool.{Bool, true, false, true≢false, cond, not, ◌&&◌, ◌||◌}
use mathlib.Core.List.{List, ◌++◌, append_assoc, append-nil}
use Rattle.std.specs.Prelude.{Some, None}
use Prim.Native.Nat.{ℕ, ◌+◌, ◌-◌, ◌<◌, ◌≤◌}
use native.Mathlib.Omega.{arith}
use borrow.Author.Tests.{eqb-true, ltb-false, ne_eqb}
use lib.Dec.{eqb, ltb}
use lib.IntN.{ℤ, pos, negsuc}
use lib.Signed.{lt_z}
use lib.ListN.{length, take, drop, length-drop, length-take, take-append-drop}
use lib.Seq.{length-take-le, take-add, take_all, take_at, take-length, take-take, drop_at, drop-drop}
use Rattle.wire_spec.specs.Bits.{overwrite}
use Rattle.program_spec.specs.declared.buffers.Buffers.{Buffers}
use Rattle.program_spec.specs.declared.buffers.Failure.TheVariants as failure
use Rattle.program_spec.specs.Buffers.{Begins, Count, Flushed, InBounds, ReadMore, ReadOn, Refilled}
use Rattle.program_spec.specs.Buffers.{failure_of, is_done, read_in, unused, unwritten, written_in}

-- all from `k` on
pub part_length : (k : ℕ) (l : List ℕ) → length (take (length l - k) (drop k l)) ≡ length l - k
part_length k l = length-take-le (length l - k) (drop k l) (rw (length-drop k l) (omega arith))

-- the part from `m` to `n`
drop-take : (m n : ℕ) (l : List ℕ) → m ≤ n → m ≤ length l → drop m (take n l) ≡ take (n - m) (drop m l)
drop-take m n l h k =
    let e : n ≡ m + (n - m) = omega arith in
    ap (λ (j : ℕ). drop m (take j l)) e ∙ ap (drop m) (take-add m (n - m) l) ∙ drop_at (take m l) (take (n - m) (drop m l)) m (length-take-le m l k)

module _ (input : List ℕ) (at end : ℕ) (order : at ≤ end) (inside : end ≤ length input) where
  abbrev here : List ℕ
  here = take (end - at) (drop at input)

  pub length-here : length here ≡ end - at
  length-here = length-take-le (end - at) (drop at input) (rw (length-drop at input) (omega arith))

  -- behind the first `used` octets of a part
  pub part-behind : (used : ℕ) → at + used ≤ end → take (end - (at + used)) (drop (at + used) input) ≡ drop used here
  part-behind used h =
      let e : end - at - used ≡ end - (at + used) = omega arith in
      sym (drop-take used (end - at) (drop at input) (omega arith) (rw (length-drop at input) (omega arith))
      ∙ (λ i. take (e i) (drop-drop used at input i)))

  -- the part moved to the front, and `n` octets read behind it
  pub part_moved : (moved read tail : List ℕ) (n : ℕ) → moved ≡ overwrite (drop at (take end input)) (take end input)
      → Begins (take (end - at + n - 0) (take (end - at) (moved ++ drop end input) ++ (read ++ tail))) here
  part_moved moved read tail n m =
      let k = end - at in
      let a = drop at (take end input) in
      let b = drop (length a) (take end input) in
      let e : a ≡ here = drop-take at end input order (omega arith) in
      let l : length a ≡ k = ap length e ∙ length-here in
      let w = moved ++ drop end input in
      let first : take k w ≡ here =
      ap (λ (z : List ℕ). take k (z ++ drop end input)) m ∙ ap (take k) (append_assoc a b (drop end input)) ∙ take_at a (b ++ drop end input) k l ∙ e in
      take-take (length here) (k + n - 0) (take k w ++ (read ++ tail)) (omega (arith, length-here))
      ∙ take_at (take k w) (read ++ tail) (length here) (ap length first) ∙ first

-- the octets of `out` that are lent, and all of them with what is left there
abbrev pub lent : Buffers → List ℕ → List ℕ
lent b out = take (length out - b.filled) (drop b.filled out)

abbrev pub out_with : Buffers → List ℕ → List ℕ → List ℕ
out_with b out part = take b.filled out ++ (part ++ drop (length out - b.filled) (drop b.filled out))

pub length-lent : (b : Buffers) (out : List ℕ) → length (lent b out) ≡ length out - b.filled
length-lent b out = part_length b.filled out

-- the text that waits is as it was
pub text-waits : (b : Buffers) (out part : List ℕ) → b.filled ≤ length out → unwritten b (out_with b out part) ≡ unwritten b out
text-waits b out part h = take_at (take b.filled out) _ b.filled (length-take-le b.filled out h)

-- nothing more to come, and nothing that waits, is done; not where a read or a write failed, and not with text that waits
end-is-done : is_done (record { at = 5; end = 7; filled = 0; «open» = false; failed = false }) ≡ true
end-is-done = refl

failed-is-no-end : is_done (record { at = 5; end = 7; filled = 0; «open» = false; failed = true }) ≡ false
failed-is-no-end = refl

waiting-is-no-end : is_done (record { at = 5; end = 7; filled = 1; «open» = false; failed = false }) ≡ false
waiting-is-no-end = refl

-- WHICH CALL FAILED: a read, after which no text waits, or a write, after which its text does
abbrev ending : (filled : ℕ) (failed : Bool) → Buffers
ending n f = record { at = 5; end = 7; filled = n; «open» = false; failed = f }

nothing-failed : failure_of (ending 1 false) ≡ None
nothing-failed = refl

read-failed : failure_of (ending 0 true) ≡ Some failure.Read
read-failed = refl

write-failed : failure_of (ending 9 true) ≡ Some failure.Write
write-failed = refl

pub failed-to-read : (b : Buffers) (input : List ℕ) (r : Buffers) (input' : List ℕ)
    (t : Refilled b input r input')
    → t.flushed.«open» ≡ true → r.failed ≡ true → failure_of r ≡ Some failure.Read
failed-to-read b input r input' t o e = go t.text.written t.text.filled t.text.goes_on
  where
    x : ReadMore t.flushed input r input'
    x = subst (λ (z : Bool). ReadOn z t.flushed input r input') o t.octets

    go : (w : Bool) → t.flushed.filled ≡ cond w 0 b.filled → t.flushed.«open» ≡ (w && b.«open»)
        → failure_of r ≡ Some failure.Read
    go true n g = let none : r.filled ≡ 0 = x.filled ∙ n in rw (e, none) refl
    go false n g = absurd (true≢false (sym o ∙ g))

pub failed-to-write : (b r : Buffers) (t : Flushed b r) → t.written ≡ false → 0 < b.filled
    → failure_of r ≡ Some failure.Write
failed-to-write b r t w h =
    let f : r.failed ≡ true = t.fails ∙ ap (λ (z : Bool). not z || b.failed) w in
    let n : r.filled ≡ b.filled = t.filled ∙ ap (λ (z : Bool). cond z 0 b.filled) w in
    let some : eqb r.filled 0 ≡ false = ne_eqb r.filled 0 (λ q. omega (arith, q, n, h)) in
    rw (f, some) refl

-- a run that is done
pub record Done (b : Buffers) : Type 0 where
  pub ended : b.«open» ≡ false
  pub sound : b.failed ≡ false
  pub empty : b.filled ≡ 0

pub done : (b : Buffers) → is_done b ≡ true → Done b
done b e = go b.«open» b.failed (eqb b.filled 0) refl refl refl e
  where
    go : (o f t : Bool) → b.«open» ≡ o → b.failed ≡ f → eqb b.filled 0 ≡ t → (not (o || f) && t) ≡ true → Done b
    go true f t x y z q = absurd (true≢false (sym q))
    go false true t x y z q = absurd (true≢false (sym q))
    go false false true x y z q = record { ended = x; sound = y; empty = eqb-true b.filled 0 z }
    go false false false x y z q = absurd (true≢false (sym q))

pub not_done : (b : Buffers) → b.«open» ≡ true → is_done b ≡ true → ⊥
not_done b h e = true≢false (sym h ∙ (done b e).ended)

-- a write that failed is never done
flushed-done : (b r : Buffers) → Flushed b r → is_done r ≡ true → r.«open» ≡ b.«open»
flushed-done b r t e = go t.written t.goes_on t.fails
  where
    go : (w : Bool) → r.«open» ≡ (w && b.«open») → r.failed ≡ (not w || b.failed) → r.«open» ≡ b.«open»
    go true g f = g
    go false g f = absurd (true≢false (sym f ∙ (done r e).sound))

or-false : (a b : Bool) → (a || b) ≡ false → (a ≡ false) × (b ≡ false)
or-false true b e = absurd (true≢false e)
or-false false b e = (refl, e)

-- A READ THAT ENDS A RUN ANSWERED 0: one that failed does not
pub read-ends : (m : Buffers) (input : List ℕ) (r : Buffers) (input' : List ℕ) → (x : ReadMore m input r input') → is_done r ≡ true → x.answer ≡ pos 0
read-ends m input r input' x e =
    let d = done r e in
    let n = or-false (ltb 0 x.count) x.interrupted (sym x.goes_on ∙ d.ended) in
    go x.answer x.counts (ltb-false 0 x.count n.0) (ap (λ (i : Bool). lt_z x.answer (pos 0) && not i) (sym n.1) ∙ sym x.fails ∙ d.sound)
  where
    go : (z : ℤ) → Count z x.count → x.count ≤ 0 → (lt_z z (pos 0) && true) ≡ false → z ≡ pos 0
    go (pos k) c l f = ap pos (omega (arith, c, l))
    go (negsuc k) c l f = absurd (true≢false f)

pub refilled-ends : (b : Buffers) (input : List ℕ) (r : Buffers) (input' : List ℕ) → b.«open» ≡ true → Refilled b input r input' → is_done r ≡ true
    → (m : Buffers) × Flushed b m × (x : ReadMore m input r input') × (x.answer ≡ pos 0)
refilled-ends b input r input' o t e = go t.flushed.«open» refl t.octets
  where
    go : (z : Bool) → t.flushed.«open» ≡ z → ReadOn z t.flushed input r input' → (m : Buffers) × Flushed b m × (x : ReadMore m input r input') × (x.answer ≡ pos 0)
    go true h x = (t.flushed, t.text, x, read-ends t.flushed input r input' x e)
    go false h (q, f) =
        let k = flushed-done b t.flushed t.text (subst (λ (y : Buffers). is_done y ≡ true) q e) in
        absurd (true≢false (sym (k ∙ o) ∙ h))

module _ (b : Buffers) (input out : List ℕ) (inside : InBounds b (length input) (length out)) where
  pub short : length (unused b input) ≡ b.end - b.at
  short = length-here input b.at b.end inside.0 inside.1

  -- the text that waited is the text written, and that which still waits
  text-parts : (r : Buffers) (out' : List ℕ) → Flushed b r → unwritten b out' ≡ unwritten b out → unwritten b out ≡ written_in b r out ++ unwritten r out'
  text-parts r out' t same = go t.written t.filled
    where
      go : (w : Bool) → r.filled ≡ cond w 0 b.filled → unwritten b out ≡ written_in b r out ++ unwritten r out'
      go true e =
          let n : b.filled - r.filled ≡ b.filled = omega (arith, e) in
          sym (append-nil (unwritten b out)) ∙ sym (λ i. take (n i) out ++ take (e i) out')
      go false e =
          let n : b.filled - r.filled ≡ 0 = omega (arith, e) in
          sym same ∙ sym (λ i. take (n i) out ++ take (e i) out')

  -- what was left is left still, with what was read behind it
  pub octets-parts : (r : Buffers) (input' : List ℕ) → Begins (unused r input') (unused b input) → unused r input' ≡ unused b input ++ read_in b r input'
  octets-parts r input' h =
      let l = unused r input' in
      sym (take-append-drop (b.end - b.at) l) ∙ ap (λ (z : List ℕ). z ++ drop (b.end - b.at) l) (ap (λ (n : ℕ). take n l) (sym short) ∙ h)

  flushed-begins : (r : Buffers) → Flushed b r → unused r input ≡ unused b input
  flushed-begins r t = λ i. take (t.end i - t.at i) (drop (t.at i) input)

  begins-same : (l : List ℕ) → l ≡ unused b input → Begins l (unused b input)
  begins-same l e = ap (λ (z : List ℕ). take (length (unused b input)) z) e ∙ take-length (unused b input)

  -- what a read leaves: the same, and the text as it is after the write
  pub record Kept (r : Buffers) (input' out' : List ℕ) : Type 0 where
    pub octets : Begins (unused r input') (unused b input)
    pub text : unwritten b out ≡ written_in b r out ++ unwritten r out'
    pub rest : is_done r ≡ true → unused r input' ≡ unused b input

  pub flushed-keeps : (r : Buffers) (out' : List ℕ) → Flushed b r → unwritten b out' ≡ unwritten b out → Kept r input out'
  flushed-keeps r out' t same =
      record {
        octets = begins-same (unused r input) (flushed-begins r t);
        text = text-parts r out' t same;
        rest = λ h. flushed-begins r t;
      }

  -- a read that ends the run gave nothing
  nothing_read : (i : Bool) (n : ℕ) → (ltb 0 n || i) ≡ false → n ≡ 0
  nothing_read i n e = go (ltb 0 n) refl e
    where
      go : (t : Bool) → ltb 0 n ≡ t → (t || i) ≡ false → n ≡ 0
      go true h q = let z : ◌≡◌ {A = ℕ} 0 1 = cc in absurd (omega arith)
      go false h q = omega (arith, ltb-false 0 n h)

  pub refilled-keeps : (r : Buffers) (input' out' : List ℕ) → Refilled b input r input' → unwritten b out' ≡ unwritten b out → Kept r input' out'
  refilled-keeps r input' out' t same = go t.flushed.«open» t.octets
    where
      m : Buffers
      m = t.flushed

      k : Kept m input out'
      k = flushed-keeps m out' t.text same

      go : (o : Bool) → ReadOn o m input r input' → Kept r input' out'
      go false (e, f) = subst (λ (z : List ℕ). Kept r z out') (sym f) (subst (λ (z : Buffers). Kept z input out') (sym e) k)
      go true x =
          let u = flushed-begins m t.text in
          let h : Begins (unused r input') (unused b input) = subst (λ (z : List ℕ). Begins (unused r input') z) u x.octets in
          record {
            octets = h;
            text = k.text ∙ sym (λ i. take (b.filled - x.filled i) out ++ take (x.filled i) out');
            rest =
                λ e. let d = done r e in
                let n = nothing_read x.interrupted x.count (sym x.goes_on ∙ d.ended) in
                let l = unused r input' in
                sym (take_all (length (unused b input)) l (omega (arith, length-take (r.end - r.at) (drop r.at input'), x.size, n, t.text.at, t.text.end, short))) ∙ h;
          }

  filled-less : (r : Buffers) → Flushed b r → r.filled ≤ b.filled
  filled-less r t = go t.written t.filled
    where
      go : (w : Bool) → r.filled ≡ cond w 0 b.filled → r.filled ≤ b.filled
      go true e = omega arith
      go false e = omega arith

  pub flushed-bounds : (r : Buffers) → Flushed b r → InBounds r (length input) (length out)
  flushed-bounds r t = (omega (arith, t.at, t.end, inside.0), omega (arith, t.end, inside.1), omega (arith, filled-less r t, inside.2))

  pub read-bounds : (r : Buffers) (input' : List ℕ) → Refilled b input r input' → InBounds r (length input') (length out)
  read-bounds r input' t = go t.flushed.«open» t.octets
    where
      m : Buffers
      m = t.flushed

      i : InBounds m (length input) (length out)
      i = flushed-bounds m t.text

      go : (o : Bool) → ReadOn o m input r input' → InBounds r (length input') (length out)
      go false (e, f) =
          let x = ap (λ (z : Buffers). z.at) e in
          let y = ap (λ (z : Buffers). z.end) e in
          let n = ap (λ (z : Buffers). z.filled) e in
          (omega (arith, x, y, i.0), omega (arith, y, i.1, ap length f), omega (arith, n, i.2))
      go true k = (k.bounds.0, k.bounds.1, omega (arith, k.filled, i.2))
