-- The frames of a stream, one after the other: what lies behind one is shorter, and octets behind it change nothing of it.
-- By the length that the first two octets give.
use mathlib.Core.Path.{◌≡◌, refl, ap, sym, ◌∙◌}
use mathlib.Core.Bool.{Bool, true, false, cond}
use mathlib.Core.List.{List, [], ◌∷◌, ◌++◌}
use Prim.Native.Nat.{ℕ, zero, suc, ◌+◌, ◌*◌, ◌<◌, ◌≤◌}
use native.Mathlib.Omega.{arith}
use borrow.Author.Tests.{le-leb, leb-true}
use lib.Dec.{leb}
use lib.ListN.{length, take, drop, length-drop, length-append}
use lib.Seq.{take-append-le, drop-append-le}
use Rattle.rtp_frames.specs.Frames.{Front, end, cut, frame, framed, front, more, onward, frames_in, frames}

-- a frame's packet and what is behind it
record Parts (n : ℕ) (s p rest : List ℕ) : Type 0 where
  pub inside : n ≤ length s
  pub packet : p ≡ take n s
  pub behind : rest ≡ drop n s

parts : (n : ℕ) (s p rest : List ℕ) → framed n s ≡ frame p rest → Parts n s p rest
parts n s p rest e = go (leb n (length s)) refl e
  where
    go : (b : Bool) → leb n (length s) ≡ b → cond b (frame (take n s) (drop n s)) cut ≡ frame p rest → Parts n s p rest
    go false h q = let o : ◌≡◌ {A = ℕ} 0 1 = cc in absurd (omega arith)
    go true h q = record { inside = leb-true n (length s) h; packet = cc; behind = cc }

-- what lies behind a frame is shorter
pub shorter : (s p rest : List ℕ) → front s ≡ frame p rest → length rest < length s
shorter [] p rest e = let o : ◌≡◌ {A = ℕ} 0 1 = cc in absurd (omega arith)
shorter (x ∷ []) p rest e = let o : ◌≡◌ {A = ℕ} 0 1 = cc in absurd (omega arith)
shorter (x ∷ y ∷ s) p rest e =
    let q = parts (256 * x + y) s p rest e in
    omega (arith, ap length q.behind, length-drop (256 * x + y) s)

-- more octets behind a frame change nothing of it
pub front-longer : (s t p rest : List ℕ) → front s ≡ frame p rest → front (s ++ t) ≡ frame p (rest ++ t)
front-longer [] t p rest e = let o : ◌≡◌ {A = ℕ} 0 1 = cc in absurd (omega arith)
front-longer (x ∷ []) t p rest e = let o : ◌≡◌ {A = ℕ} 0 1 = cc in absurd (omega arith)
front-longer (x ∷ y ∷ s) t p rest e =
    let n = 256 * x + y in
    let q = parts n s p rest e in
    rw (le-leb n (length (s ++ t)) (omega (arith, length-append s t, q.inside)))
    (λ i. frame ((take-append-le n s t q.inside ∙ sym q.packet) i) ((drop-append-le n s t q.inside ∙ ap (λ (l : List ℕ). l ++ t) (sym q.behind)) i))

-- the bound does not matter
bounds-agree : (m n : ℕ) (s : List ℕ) → length s < m → length s < n → frames_in m s ≡ frames_in n s
bounds-agree zero n s h k = absurd (omega arith)
bounds-agree (suc m) zero s h k = absurd (omega arith)
bounds-agree (suc m) (suc n) s h k = go (λ r. bounds-agree m n r) (front s) refl
  where
    go : ((r : List ℕ) → length r < m → length r < n → frames_in m r ≡ frames_in n r) → (f : Front) → front s ≡ f → onward (frames_in m) f ≡ onward (frames_in n) f
    go ih end e = refl
    go ih cut e = refl
    go ih (frame p rest) e =
        let l = shorter s p rest e in
        ap (more p) (ih rest (omega (arith, l)) (omega (arith, l)))

-- the packet at the front, and then those of the rest
pub frames-next : (s p rest : List ℕ) → front s ≡ frame p rest → frames s ≡ more p (frames rest)
frames-next s p rest e =
    let l = shorter s p rest e in
    ap (onward (frames_in (length s))) e ∙ ap (more p) (bounds-agree (length s) (suc (length rest)) rest l (omega arith))
