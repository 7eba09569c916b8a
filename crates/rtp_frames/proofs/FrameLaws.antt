-- What stands at the front, from how many octets there are and from the length that the first two give.
-- By the definition of the front, and of a number of whole octets.
use mathlib.Core.Path.{◌≡◌, refl, ap, sym, ◌∙◌}
use mathlib.Core.Bool.{Bool, true, false, cond}
use mathlib.Core.List.{List, [], ◌∷◌}
use Prim.Native.Nat.{ℕ, ◌+◌, ◌*◌, ◌<◌, ◌≤◌}
use native.Mathlib.Omega.{arith}
use borrow.Author.Tests.{le-leb, lt-leb, leb-true, leb-false}
use lib.Dec.{leb}
use lib.ListN.{length, take, drop, get_or}
use lib.Seq.{length-take-le}
use Rattle.wire_spec.specs.Bits.{bits_at}
use Rattle.wire_spec.proofs.FieldLaws.{two-octets-at}
use Rattle.rtp_frames.specs.Frames.{Front, end, cut, frame, front, is_broken, max_frame}
use Rattle.rtp_frames.specs.Answers.{front_of, is_cut}
use Rattle.rtp_frames.specs.declared.Front.TheVariants as found

-- a frame is broken exactly where the code says that it is cut
pub cut-is : (f : Front) → is_cut (front_of f) ≡ is_broken f
cut-is end = refl
cut-is cut = refl
cut-is (frame p rest) = refl

absurd-cut : {n : ℕ} → found.Cut ≡ found.Packet n → ◌≡◌ {A = ℕ} 0 1
absurd-cut e = cc

packet-is : {n m : ℕ} → found.Packet n ≡ found.Packet m → n ≡ m
packet-is e = cc

pub front-none : (s : List ℕ) → length s ≡ 0 → found.End ≡ front_of (front s)
front-none [] e = refl
front-none (x ∷ s) e = absurd (omega arith)

pub front-one : (s : List ℕ) → (length s ≡ 0 → ⊥) → length s < 2 → found.Cut ≡ front_of (front s)
front-one [] n h = absurd (n refl)
front-one (x ∷ []) n h = refl
front-one (x ∷ y ∷ s) n h = absurd (omega arith)

-- the length that the first two octets give
size_is : (s : List ℕ) → 2 ≤ length s → ((j : ℕ) → get_or s j 0 < 256) → bits_at s (8 * 0) 16 ≡ 256 * get_or s 0 0 + get_or s 1 0
size_is s h f = two-octets-at s f 0 (omega arith) ∙ omega arith

pub front-short : (s : List ℕ) → 2 ≤ length s → (n : ℕ) → n ≡ bits_at s (8 * 0) 16 → ((j : ℕ) → get_or s j 0 < 256) → length s < 2 + n → found.Cut ≡ front_of (front s)
front-short [] h n e f l = absurd (omega arith)
front-short (x ∷ []) h n e f l = absurd (omega arith)
front-short (x ∷ y ∷ s) h n e f l =
    let m = size_is (x ∷ y ∷ s) h f in
    rw (lt-leb (256 * x + y) (length s) (omega (arith, m, e)))

pub front-whole : (s : List ℕ) → 2 ≤ length s → (n : ℕ) → n ≡ bits_at s (8 * 0) 16 → ((j : ℕ) → get_or s j 0 < 256) → 2 + n ≤ length s → found.Packet n ≡ front_of (front s)
front-whole [] h n e f l = absurd (omega arith)
front-whole (x ∷ []) h n e f l = absurd (omega arith)
front-whole (x ∷ y ∷ s) h n e f l =
    let m = size_is (x ∷ y ∷ s) h f in
    rw (le-leb (256 * x + y) (length s) (omega (arith, m, e))) (ap found.Packet (e ∙ m ∙ sym (length-take-le (256 * x + y) s (omega (arith, m, e)))))

-- a packet that was found lies in the octets, behind its length
pub record FrameAt (s : List ℕ) (n : ℕ) : Type 0 where
  pub inside : 2 + n ≤ length s
  pub is : front s ≡ frame (take n (drop 2 s)) (drop n (drop 2 s))

pub frame_found : (s : List ℕ) (n : ℕ) → front_of (front s) ≡ found.Packet n → FrameAt s n
frame_found [] n e = let o : ◌≡◌ {A = ℕ} 0 1 = cc in absurd (omega arith)
frame_found (x ∷ []) n e = let o : ◌≡◌ {A = ℕ} 0 1 = cc in absurd (omega arith)
frame_found (x ∷ y ∷ s) n e = go (leb (256 * x + y) (length s)) refl
  where
    go : (b : Bool) → leb (256 * x + y) (length s) ≡ b → FrameAt (x ∷ y ∷ s) n
    go false h = let o : ◌≡◌ {A = ℕ} 0 1 = absurd-cut (ap (λ (b : Bool). front_of (cond b (frame (take (256 * x + y) s) (drop (256 * x + y) s)) cut)) (sym h) ∙ e) in absurd (omega arith)
    go true h =
        let l = leb-true (256 * x + y) (length s) h in
        let f : front (x ∷ y ∷ s) ≡ frame (take (256 * x + y) s) (drop (256 * x + y) s) = rw h in
        let k : 256 * x + y ≡ n = sym (length-take-le (256 * x + y) s l) ∙ packet-is (sym (ap front_of f) ∙ e) in
        record { inside = omega (arith, l, k); is = f ∙ ap (λ (j : ℕ). frame (take j s) (drop j s)) k }

-- no packet was found
pub end-found : (f : Front) → front_of f ≡ found.End → f ≡ end
end-found end e = refl
end-found cut e = let o : ◌≡◌ {A = ℕ} 0 1 = cc in absurd (omega arith)
end-found (frame p r) e = let o : ◌≡◌ {A = ℕ} 0 1 = cc in absurd (omega arith)

pub cut-found : (f : Front) → front_of f ≡ found.Cut → f ≡ cut
cut-found end e = let o : ◌≡◌ {A = ℕ} 0 1 = cc in absurd (omega arith)
cut-found cut e = refl
cut-found (frame p r) e = let o : ◌≡◌ {A = ℕ} 0 1 = cc in absurd (omega arith)

-- without a whole frame there are fewer octets than the longest has
short-of-frame : (s : List ℕ) → ((j : ℕ) → get_or s j 0 < 256) → ((p rest : List ℕ) → front s ≡ frame p rest → ⊥) → length s < max_frame
short-of-frame [] f n = omega arith
short-of-frame (x ∷ []) f n = omega arith
short-of-frame (x ∷ y ∷ s) f n = go (leb (256 * x + y) (length s)) refl
  where
    go : (b : Bool) → leb (256 * x + y) (length s) ≡ b → length (x ∷ y ∷ s) < max_frame
    go true h = absurd (n (take (256 * x + y) s) (drop (256 * x + y) s) (rw h))
    go false h = omega (arith, leb-false (256 * x + y) (length s) h, f 0, f 1)

-- where the code found none
pub end_short : (s : List ℕ) → ((j : ℕ) → get_or s j 0 < 256) → front s ≡ end → length s < max_frame
end_short s f e = short-of-frame s f (λ p rest g. let o : ◌≡◌ {A = ℕ} 0 1 = cc in absurd (omega arith))

pub cut_short : (s : List ℕ) → ((j : ℕ) → get_or s j 0 < 256) → front s ≡ cut → length s < max_frame
cut_short s f e = short-of-frame s f (λ p rest g. let o : ◌≡◌ {A = ℕ} 0 1 = cc in absurd (omega arith))
