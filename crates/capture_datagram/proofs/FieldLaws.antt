-- Tests and numbers of a header at `at`, as the code has them.
-- By the laws of what stands behind a drop.
use mathlib.Core.Path.{◌≡◌, refl, ap, sym, ◌∙◌}
use mathlib.Core.Bool.{Bool, true, false, not}
use mathlib.Core.List.{List}
use Prim.Native.Nat.{ℕ, ◌+◌, ◌*◌, ◌≤◌}
use native.Mathlib.Omega.{arith}
use borrow.Author.Tests.{leb-true, not-true, not-false}
use lib.Dec.{leb}
use lib.ListN.{length, drop, get_or, length-drop}
use lib.Seq.{get_or-drop, drop-drop}
use Rattle.capture_datagram.specs.declared.answer.Found.{Found}
use Rattle.capture_datagram.specs.declared.answer.Found.TheVariants as found
use Rattle.capture_datagram.specs.Answer.{pair, beyond}

-- a test that the code made by `if !test(..)`: it passed, or failed
pub passed : {t r : Bool} → r ≡ t → not r ≡ false → t ≡ true
passed {t} {r} e h = sym e ∙ not-false r h

pub failed : {t r : Bool} → r ≡ t → not r ≡ true → t ≡ false
failed {t} {r} e h = sym e ∙ not-true r h

pub pair-drop : (s : List ℕ) (at k : ℕ) → pair (drop at s) k ≡ get_or s (at + k) 0 * 256 + get_or s (at + k + 1) 0
pair-drop s at k =
    let e : at + (k + 1) ≡ at + k + 1 = omega arith in
    rw (get_or-drop at s k 0, get_or-drop at s (k + 1) 0, e)

-- so many octets were captured
pub held : (s : List ℕ) (at n : ℕ) → at ≤ length s → leb n (length (drop at s)) ≡ true → at + n ≤ length s
held s at n h e = omega (arith, leb-true n (length (drop at s)) e, length-drop at s)

-- behind `m` octets, and those behind `n`
pub beyond-beyond : (n m : ℕ) (f : Found) → beyond n (beyond m f) ≡ beyond (n + m) f
beyond-beyond n m (found.Frame a b) =
    let e : (x : ℕ) → n + (m + x) ≡ n + m + x = λ x. omega arith in
    λ i. found.Frame (e a i) (e b i)
beyond-beyond n m found.Passed = refl
beyond-beyond n m found.Fragment = refl
beyond-beyond n m found.Cut = refl

-- what `f` says of the octets behind `m`, from the header at `at` on
pub beyond-at : (f : List ℕ → Found) (s : List ℕ) (at m : ℕ) → beyond (at + m) (f (drop (at + m) s)) ≡ beyond at (beyond m (f (drop m (drop at s))))
beyond-at f s at m = sym (beyond-beyond at m (f (drop m (drop at s))) ∙ ap (λ (l : List ℕ). beyond (at + m) (f l)) (drop-drop m at s))
