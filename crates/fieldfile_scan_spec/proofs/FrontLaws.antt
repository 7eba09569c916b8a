-- The packet at the front of octets does not depend on what follows it, and a run can be read in parts.
-- By the bits: those of the first octets stay where they are.
use mathlib.Core.Path.{◌≡◌, refl, ap, ap₂, sym, ◌∙◌}
use mathlib.Core.Bool.{Bool, true, false}
use mathlib.Core.Logic.{◌⊎◌, inl, inr}
use mathlib.Core.List.{List, [], ◌∷◌, ◌++◌, append_assoc, append-nil}
use Prim.Native.Nat.{ℕ, zero, suc, ◌+◌, ◌*◌, ◌%◌, ◌<◌, ◌≤◌}
use native.Mathlib.Nat.{zero-add, suc-mul, mul-suc, mod-lt}
use native.Mathlib.Omega.{arith}
use lib.Dec.{eqb, leb, lit<}
use lib.ListN.{length, take, drop, length-append, length-drop}
use lib.Seq.{take-append-le, drop-append-le, drop-drop}
use borrow.Author.Tests.{le-leb}
use Rattle.wire_spec.specs.declared.layout.Layout.TheVariants as layout
use Rattle.wire_spec.specs.Bits.{to_bits, bits, num, bits_at, row_at}
use Rattle.wire_spec.specs.Words.{word_bits, header_numbers, all_clear, sum_low, checksum_word}
use Rattle.wire_spec.specs.Layout.{Layout, s_bits, stream_bits, r_bits, alignment, least_size}
use Rattle.wire_spec.specs.Result.{Result, Err, Ok, refuse, Checks, judge, ◌then◌}
use Rattle.wire_spec.specs.Anc.{Record, padding, body_bits, anc_size, did_at, words_at, data_count, anc_record, header_words, are_header_words, headers_ok, r_ok, words_ok, checksum_ok, alignment_ok, anc_checks, read_anc, behind, read_run, run_size}
use Rattle.wire_spec.proofs.BitLaws.{length-bits}
use Rattle.wire_spec.proofs.SizeLaws.{size-bits, size-rfc8331, size-draft2015, least_size_lem}
use Rattle.wire_spec.proofs.ResultLaws.{accepted-inj, then-accepts}
use Rattle.wire_spec.proofs.AncLaws.{count-read}
use Rattle.fieldfile_scan_spec.specs.Window.{most_size, AtHand}

bits-append : (w t : List ℕ) → bits (w ++ t) ≡ bits w ++ bits t
unfolding bits
bits-append [] t = refl
bits-append (o ∷ w) t = ap (λ (z : List Bool). to_bits 8 o ++ z) (bits-append w t) ∙ sym (append_assoc (to_bits 8 o) (bits w) (bits t))

-- bits that stand in the first octets
pub bits_at-front : (w t : List ℕ) (k n : ℕ) → k + n ≤ 8 * length w → bits_at (w ++ t) k n ≡ bits_at w k n
unfolding bits_at
bits_at-front w t k n h =
    let l = length-bits w in
    ap num
    (ap (λ (z : List Bool). take n (drop k z)) (bits-append w t)
    ∙ ap (take n) (drop-append-le k (bits w) (bits t) (omega arith))
    ∙ take-append-le n (drop k (bits w)) (bits t) (rw (length-drop k (bits w)) (omega arith)))

pub row_at-front : (m : ℕ) (w t : List ℕ) (k n : ℕ) → k + m * n ≤ 8 * length w → row_at m (w ++ t) k n ≡ row_at m w k n
unfolding row_at
row_at-front m w t k zero h = refl
row_at-front m w t k (suc n) h =
    let e = mul-suc m n in
    ap₂ ◌∷◌ (bits_at-front w t k m (omega arith)) (row_at-front m w t (k + m) n (omega arith))

-- no packet is larger than the one with 255 words
least-holds : (L : Layout) → body_bits L 0 ≤ 8 * least_size L
least-holds layout.Rfc8331 = omega arith
least-holds layout.Draft2015 = omega arith

pub size-most : (L : Layout) (n : ℕ) → n ≤ 255 → anc_size L n ≤ most_size L
size-most layout.Rfc8331 n h = rw (size-rfc8331 n, size-rfc8331 255) (omega arith)
size-most layout.Draft2015 n h = rw (size-draft2015 n, size-draft2015 255) (omega arith)

least-most : (L : Layout) → least_size L ≤ most_size L
least-most L = least_size_lem L 255

module _ (L : Layout) (w t : List ℕ) (least : least_size L ≤ length w) where
  pub count-front : data_count L (w ++ t) ≡ data_count L w
  count-front = ap (λ (x : ℕ). x % header_numbers) (bits_at-front w t (did_at L + word_bits + word_bits) word_bits (omega (arith, least-holds L)))

  module _ (whole : anc_size L (data_count L w) ≤ length w) where
    abbrev n : ℕ
    n = data_count L w

    fits : body_bits L (data_count L w) + padding (alignment L) (body_bits L (data_count L w)) ≤ 8 * length w
    fits = omega (arith, size-bits L (data_count L w), whole)

    words-front : row_at word_bits (w ++ t) (words_at L) (data_count L (w ++ t)) ≡ row_at word_bits w (words_at L) (data_count L w)
    words-front = ap (row_at word_bits (w ++ t) (words_at L)) count-front ∙ row_at-front word_bits w t (words_at L) (data_count L w) (omega (arith, fits))

    headers-front : header_words L (w ++ t) ≡ header_words L w
    headers-front = row_at-front word_bits w t (did_at L) 3 (omega (arith, least-holds L))

    record-front : anc_record L (w ++ t) ≡ anc_record L w
    unfolding anc_record
    record-front =
        let b = least-holds L in
        let c = bits_at-front w t 0 1 (omega arith) in
        let l = bits_at-front w t 1 11 (omega arith) in
        let o = bits_at-front w t 12 12 (omega arith) in
        let s = bits_at-front w t 24 (s_bits L) (omega arith) in
        let m = bits_at-front w t (24 + s_bits L) (stream_bits L) (omega arith) in
        let d = ap (λ (x : ℕ). x % header_numbers) (bits_at-front w t (did_at L) word_bits (omega arith)) in
        let e = ap (λ (x : ℕ). x % header_numbers) (bits_at-front w t (did_at L + word_bits) word_bits (omega arith)) in
        λ i. record { c = c i; line = l i; offset = o i; s = s i; stream = m i; did = d i; sdid = e i; words = words-front i }

    checks-front : anc_checks L (w ++ t) ≡ anc_checks L w
    unfolding anc_checks headers_ok r_ok words_ok checksum_ok alignment_ok
    checks-front =
        let b = least-holds L in
        let f = fits in
        let la = length-append w t in
        let l1 : leb (least_size L) (length (w ++ t)) ≡ leb (least_size L) (length w) =
        le-leb (least_size L) (length (w ++ t)) (omega arith) ∙ sym (le-leb (least_size L) (length w) least) in
        let l2 : leb (anc_size L (data_count L (w ++ t))) (length (w ++ t)) ≡ leb (anc_size L (data_count L w)) (length w) =
        ap (λ (x : ℕ). leb (anc_size L x) (length (w ++ t))) count-front
        ∙ le-leb (anc_size L (data_count L w)) (length (w ++ t)) (omega arith) ∙ sym (le-leb (anc_size L (data_count L w)) (length w) whole) in
        let r : r_ok L (w ++ t) ≡ r_ok L w =
        ap (λ (x : ℕ). eqb x 0) (bits_at-front w t (did_at L + word_bits + word_bits + word_bits) (r_bits L) (omega arith)) in
        let sum : checksum_ok L (w ++ t) ≡ checksum_ok L w =
        ap₂ eqb
        (ap (λ (x : ℕ). bits_at (w ++ t) (words_at L + word_bits * x) word_bits) count-front ∙ bits_at-front w t (words_at L + word_bits * data_count L w) word_bits (omega arith))
        (ap checksum_word (ap sum_low (ap₂ ◌++◌ headers-front words-front))) in
        let al : alignment_ok L (w ++ t) ≡ alignment_ok L w =
        ap (λ (x : ℕ). eqb x 0)
        (ap (λ (x : ℕ). bits_at (w ++ t) (body_bits L x) (padding (alignment L) (body_bits L x))) count-front
        ∙ bits_at-front w t (body_bits L (data_count L w)) (padding (alignment L) (body_bits L (data_count L w))) f) in
        λ i. (l1 i, 9) ∷ (are_header_words (headers-front i), 10) ∷ (l2 i, 9) ∷ (r i, 15) ∷ (all_clear (words-front i), 16) ∷ (sum i, 11) ∷ (al i, 12) ∷ []

    -- a packet that is whole is read the same, whatever follows it
    pub anc-front : (i : ℕ) → read_anc L i (w ++ t) ≡ read_anc L i w
    unfolding read_anc
    anc-front i = ap₂ (λ (cs : Checks) (r : Record). judge i cs (Ok r)) checks-front record-front

-- octets enough for the largest packet are enough
module _ (L : Layout) (w s : List ℕ) (h : AtHand (most_size L) w s) where
  pub anc-at-hand : (i : ℕ) → (read_anc L i s ≡ read_anc L i w) × (data_count L s ≡ data_count L w)
  anc-at-hand i = go h.enough
    where
      go : (most_size L ≤ length w) ⊎ (h.behind ≡ []) → (read_anc L i s ≡ read_anc L i w) × (data_count L s ≡ data_count L w)
      go (inl m) =
          let l : least_size L ≤ length w = omega (arith, least-most L) in
          let n : data_count L w < 256 = mod-lt _ (lit< tt) in
          let z : anc_size L (data_count L w) ≤ length w = omega (arith, size-most L (data_count L w) (omega arith)) in
          (ap (read_anc L i) h.starts ∙ anc-front L w h.behind l z i, ap (data_count L) h.starts ∙ count-front L w h.behind l)
      go (inr e) =
          let q : s ≡ w = h.starts ∙ ap (λ (z : List ℕ). w ++ z) e ∙ append-nil w in
          (ap (read_anc L i) q, ap (data_count L) q)

-- what follows a step that follows
pub then-then : {A B C : Type 0} (x : Result A) (f : A → Result B) (g : B → Result C) → ((x then f) then g) ≡ (x then λ a. f a then g)
then-then (Err x) f g = refl
then-then (Ok a) f g = refl

pub then_same : {A B : Type 0} (x : Result A) (f g : A → Result B) → ((a : A) → x ≡ Ok a → f a ≡ g a) → (x then f) ≡ (x then g)
then_same (Err x) f g h = refl
then_same (Ok a) f g h = h a refl

-- a run's answer with a record in front of it, and with octets behind it
abbrev headed : Record → List Record × List ℕ → Result (List Record × List ℕ)
headed r q = Ok (r ∷ q.0, q.1)

abbrev followed : List ℕ → List Record × List ℕ → Result (List Record × List ℕ)
followed t q = Ok (q.0, q.1 ++ t)

-- THE INDEX of a packet goes only into its refusal, so a packet may be read as the first of a run of one
abbrev pub reindex : {A : Type 0} → ℕ → Result A → Result A
reindex i (Err x) = refuse x.number i
reindex i (Ok a) = Ok a

pub anc-index : (L : Layout) (i j : ℕ) (s : List ℕ) → read_anc L i s ≡ reindex i (read_anc L j s)
unfolding read_anc
anc-index L i j s = go (anc_checks L s)
  where
    go : (ts : Checks) → judge i ts (Ok (anc_record L s)) ≡ reindex i (judge j ts (Ok (anc_record L s)))
    go [] = refl
    go ((true, n) ∷ ts) = go ts
    go ((false, n) ∷ ts) = refl

pub run-one : (L : Layout) (i : ℕ) (s : List ℕ) → read_run L i 1 s ≡ (read_anc L i s then λ r. Ok (r ∷ [], behind L s))
unfolding read_run
run-one L i s = refl

-- A RUN IN TWO PARTS
pub run-split : (L : Layout) (i m n : ℕ) (s : List ℕ)
    → read_run L i (m + n) s ≡ (read_run L i m s then λ p. read_run L (i + m) n p.1 then λ q. Ok (p.0 ++ q.0, q.1))
unfolding read_run
run-split L i zero n s = let e : i + 0 ≡ i = omega arith in rw (zero-add n, e) (sym (same (read_run L i n s)))
  where
    same : (r : Result (List Record × List ℕ)) → (r then λ q. Ok (q.0, q.1)) ≡ r
    same (Err x) = refl
    same (Ok q) = refl
run-split L i (suc m) n s =
    let e : suc m + n ≡ suc (m + n) = omega arith in
    let f : i + suc m ≡ i + 1 + m = omega arith in
    ap (λ (k : ℕ). read_run L i k s) e
    ∙ then_same (read_anc L i s) _ _
    (λ r h.
    ap (λ x. x then λ q. Ok (r ∷ q.0, q.1)) (run-split L (i + 1) m n (behind L s))
    ∙ then-then (read_run L (i + 1) m (behind L s)) _ _
    ∙ then_same (read_run L (i + 1) m (behind L s)) _ _
    (λ p k.
    then-then (read_run L (i + 1 + m) n p.1) _ _
    ∙ ap (λ (j : ℕ). read_run L j n p.1 then λ q. Ok (r ∷ p.0 ++ q.0, q.1)) (sym f))
    ∙ sym (then-then (read_run L (i + 1) m (behind L s)) _ _))
    ∙ sym (then-then (read_anc L i s) _ _)

-- a run leaves the octets behind its packets
pub run-rest : (L : Layout) (i n : ℕ) (s : List ℕ) (rs : List Record) (rest : List ℕ) → read_run L i n s ≡ Ok (rs, rest) → rest ≡ drop (run_size L rs) s
unfolding read_run
run-rest L i zero s rs rest e = let q : ◌≡◌ {A = List Record × List ℕ} ([], s) (rs, rest) = accepted-inj e in
    sym (ap (λ (z : List Record × List ℕ). z.1) q) ∙ ap (λ (z : List Record × List ℕ). drop (run_size L z.0) s) q
run-rest L i (suc n) s rs rest e =
    let a = then-accepts (read_anc L i s) _ _ e in
    let b = then-accepts (read_run L (i + 1) n (behind L s)) _ _ a.2 in
    let q = accepted-inj b.2 in
    let c = count-read L s i a.0 a.1 in
    sym (ap (λ (z : List Record × List ℕ). z.1) q)
    ∙ run-rest L (i + 1) n (behind L s) b.0.0 b.0.1 b.1
    ∙ ap (λ (z : ℕ). drop (run_size L b.0.0) (drop (anc_size L z) s)) c
    ∙ drop-drop (run_size L b.0.0) (anc_size L (length a.0.words)) s
    ∙ ap (λ (z : List Record × List ℕ). drop (run_size L z.0) s) q

-- SEVERAL PACKETS AT ONCE: `n` packets need no more octets than `n` of the largest
pub run-front : (L : Layout) (i n : ℕ) (w t : List ℕ) → n * most_size L ≤ length w
    → read_run L i n (w ++ t) ≡ (read_run L i n w then λ q. Ok (q.0, q.1 ++ t))
unfolding read_run
run-front L i zero w t h = refl
run-front L i (suc n) w t h =
    let m : suc n * most_size L ≡ most_size L + n * most_size L = omega (arith, suc-mul n (most_size L)) in
    let l : least_size L ≤ length w = omega (arith, least-most L) in
    let c : data_count L w < 256 = mod-lt _ (lit< tt) in
    let b = size-most L (data_count L w) (omega arith) in
    let z : anc_size L (data_count L w) ≤ length w = omega arith in
    let e : behind L (w ++ t) ≡ behind L w ++ t =
    ap (λ (x : ℕ). drop (anc_size L x) (w ++ t)) (count-front L w t l) ∙ drop-append-le (anc_size L (data_count L w)) w t z in
    ap (λ (r : Result Record). r then λ r. read_run L (i + 1) n (behind L (w ++ t)) then λ q. Ok (r ∷ q.0, q.1)) (anc-front L w t l z i)
    ∙ then_same (read_anc L i w) _ _
    (λ r k.
    ap (λ (x : List ℕ). read_run L (i + 1) n x then headed r) e
    ∙ ap (λ (x : Result (List Record × List ℕ)). x then headed r) (run-front L (i + 1) n (behind L w) t (omega (arith, length-drop (anc_size L (data_count L w)) w)))
    ∙ then-then (read_run L (i + 1) n (behind L w)) (followed t) (headed r)
    ∙ sym (then-then (read_run L (i + 1) n (behind L w)) (headed r) (followed t)))
    ∙ sym (then-then (read_anc L i w) (λ r. read_run L (i + 1) n (behind L w) then headed r) (followed t))
