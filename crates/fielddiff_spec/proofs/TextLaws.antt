-- Different lines have different texts: a text is taken apart at its spaces, since numbers are digits and digits are no spaces.
use mathlib.Core.Path.{◌≡◌, refl, ap, ap₂, sym, ◌∙◌}
use mathlib.Core.Bool.{cond}
use mathlib.Core.List.{List, [], ◌∷◌, ◌++◌, append_assoc, head-eq_of_cons-eq, tail-eq_of_cons-eq}
use Prim.Native.Nat.{ℕ, ◌+◌}
use native.Mathlib.Omega.{arith}
use lib.Dec.{eqb, ltb}
use lib.ListN.{get_or, drop}
use borrow.Author.Tests.{lt-ltb}
use Rattle.wire_spec.specs.Anc.{Each}
use Rattle.fielddiff_spec.specs.Diff.{left, right, Shown, dash, number, Line, ts_line, f_line, records_line, cell_line, only_line, refused_line}
use Rattle.fielddiff_spec.specs.Order.{position}
use Rattle.text.specs.Text.{ascii, decimal}
use Rattle.text_laws.specs.Lines.{Ended, Printable}
use Rattle.text_laws.proofs.DecimalLaws.{Digits, Fits, cut, decimal-inj, digits_of, leading}
use Rattle.text_laws.proofs.LineLaws.{digits-printable, ended-append, line-apart, number-printable, some-line}
use Rattle.fielddiff_spec.specs.Text.{shown_text, sides_text, rest_text, line_text, diff_text}

-- L and R
sides : (l l' r r' : List ℕ) → Digits l → Digits l' → Digits r → Digits r' → sides_text l r ≡ sides_text l' r' → (l ≡ l') × (r ≡ r')
unfolding ascii
sides l l' r r' a b c d e =
    let p = cut l l' 0x20 0x20 (r ++ (0x0A ∷ [])) (r' ++ (0x0A ∷ [])) a b (omega arith) (omega arith) e in
    (p.0, (cut r r' 0x0A 0x0A [] [] c d (omega arith) (omega arith) p.1).0)

numbers : (l l' r r' : ℕ) → Fits l → Fits l' → Fits r → Fits r' → sides_text (decimal l) (decimal r) ≡ sides_text (decimal l') (decimal r') → (l ≡ l') × (r ≡ r')
numbers l l' r r' a b c d e =
    let p = sides (decimal l) (decimal l') (decimal r) (decimal r') (digits_of l) (digits_of l') (digits_of r) (digits_of r') e in
    (decimal-inj l l' a b p.0, decimal-inj r r' c d p.1)

abbrev ShownFits : Shown → Type 0
ShownFits dash = Unit {0}
ShownFits (number n) = Fits n

-- every number of the line has at most 20 digits, as a 64-bit number has
abbrev pub LineFits : Line → Type 0
LineFits (ts_line i l r) = Fits i × Fits l × Fits r
LineFits (f_line i l r) = Fits i × Fits l × Fits r
LineFits (records_line i l r) = Fits i × Fits l × Fits r
LineFits (cell_line i j k l r) = Fits i × Fits j × Fits k × Fits l × Fits r
LineFits (only_line i s) = Fits i
LineFits (refused_line i l r) = Fits i × ShownFits l × ShownFits r

fits-position : (x : Line) → LineFits x → Fits (position x)
fits-position (ts_line i l r) h = h.0
fits-position (f_line i l r) h = h.0
fits-position (records_line i l r) h = h.0
fits-position (cell_line i j k l r) h = h.0
fits-position (only_line i s) h = h
fits-position (refused_line i l r) h = h.0

shown-digits : (s : Shown) → Digits (shown_text s)
unfolding ascii
shown-digits dash = (omega arith, omega arith, tt)
shown-digits (number n) = digits_of n

shown-inj : (s t : Shown) → ShownFits s → ShownFits t → shown_text s ≡ shown_text t → s ≡ t
unfolding ascii
shown-inj dash dash h k e = refl
shown-inj dash (number n) h k e = let q = leading n in absurd (omega (arith, head-eq_of_cons-eq (e ∙ q.2), q.3))
shown-inj (number n) dash h k e = let q = leading n in absurd (omega (arith, head-eq_of_cons-eq (sym e ∙ q.2), q.3))
shown-inj (number m) (number n) h k e = ap number (decimal-inj m n h k e)

-- THE KIND OF A LINE is told by the octets behind its position
abbrev mark : List ℕ → ℕ
mark s = cond (ltb (get_or s 1 0) 0x3A) 3 (cond (eqb (get_or s 1 0) 0x72) (100 + get_or s 3 0) (get_or s 1 0))

abbrev mark_of : Line → ℕ
mark_of (ts_line i l r) = 0x74
mark_of (f_line i l r) = 0x66
mark_of (records_line i l r) = 199
mark_of (cell_line i j k l r) = 3
mark_of (only_line i s) = 0x6F
mark_of (refused_line i l r) = 202

mark-is : (x : Line) → mark (rest_text x) ≡ mark_of x
unfolding ascii
mark-is (ts_line i l r) = refl
mark-is (f_line i l r) = refl
mark-is (records_line i l r) = refl
mark-is (cell_line i j k l r) = let q = leading j in rw (q.2, lt-ltb q.0 0x3A q.4)
mark-is (only_line i left) = refl
mark-is (only_line i right) = refl
mark-is (refused_line i l r) = refl

-- a space follows the position
spaced : (x : Line) → rest_text x ≡ 0x20 ∷ drop 1 (rest_text x)
unfolding ascii
spaced (ts_line i l r) = refl
spaced (f_line i l r) = refl
spaced (records_line i l r) = refl
spaced (cell_line i j k l r) = refl
spaced (only_line i left) = refl
spaced (only_line i right) = refl
spaced (refused_line i l r) = refl

-- lines of one position with one text behind it are one line
same_rest : (x y : Line) → LineFits x → LineFits y → position x ≡ position y → rest_text x ≡ rest_text y → mark_of x ≡ mark_of y → x ≡ y
unfolding ascii
same_rest (ts_line i l r) (ts_line i' l' r') a b p e m =
    let q = numbers l l' r r' a.1 b.1 a.2 b.2 (ap (drop 4) e) in
    λ z. ts_line (p z) (q.0 z) (q.1 z)
same_rest (ts_line i l r) (f_line i' l' r') a b p e m = absurd (omega arith)
same_rest (ts_line i l r) (records_line i' l' r') a b p e m = absurd (omega arith)
same_rest (ts_line i l r) (cell_line i' j' k' l' r') a b p e m = absurd (omega arith)
same_rest (ts_line i l r) (only_line i' left) a b p e m = absurd (omega arith)
same_rest (ts_line i l r) (only_line i' right) a b p e m = absurd (omega arith)
same_rest (ts_line i l r) (refused_line i' l' r') a b p e m = absurd (omega arith)
same_rest (f_line i l r) (ts_line i' l' r') a b p e m = absurd (omega arith)
same_rest (f_line i l r) (f_line i' l' r') a b p e m =
    let q = numbers l l' r r' a.1 b.1 a.2 b.2 (ap (drop 3) e) in
    λ z. f_line (p z) (q.0 z) (q.1 z)
same_rest (f_line i l r) (records_line i' l' r') a b p e m = absurd (omega arith)
same_rest (f_line i l r) (cell_line i' j' k' l' r') a b p e m = absurd (omega arith)
same_rest (f_line i l r) (only_line i' left) a b p e m = absurd (omega arith)
same_rest (f_line i l r) (only_line i' right) a b p e m = absurd (omega arith)
same_rest (f_line i l r) (refused_line i' l' r') a b p e m = absurd (omega arith)
same_rest (records_line i l r) (ts_line i' l' r') a b p e m = absurd (omega arith)
same_rest (records_line i l r) (f_line i' l' r') a b p e m = absurd (omega arith)
same_rest (records_line i l r) (records_line i' l' r') a b p e m =
    let q = numbers l l' r r' a.1 b.1 a.2 b.2 (ap (drop 9) e) in
    λ z. records_line (p z) (q.0 z) (q.1 z)
same_rest (records_line i l r) (cell_line i' j' k' l' r') a b p e m = absurd (omega arith)
same_rest (records_line i l r) (only_line i' left) a b p e m = absurd (omega arith)
same_rest (records_line i l r) (only_line i' right) a b p e m = absurd (omega arith)
same_rest (records_line i l r) (refused_line i' l' r') a b p e m = absurd (omega arith)
same_rest (cell_line i j k l r) (ts_line i' l' r') a b p e m = absurd (omega arith)
same_rest (cell_line i j k l r) (f_line i' l' r') a b p e m = absurd (omega arith)
same_rest (cell_line i j k l r) (records_line i' l' r') a b p e m = absurd (omega arith)
same_rest (cell_line i j k l r) (cell_line i' j' k' l' r') a b p e m =
    let u = cut (decimal j) (decimal j') 0x20 0x20 _ _ (digits_of j) (digits_of j') (omega arith) (omega arith) (tail-eq_of_cons-eq e) in
    let v = cut (decimal k) (decimal k') 0x20 0x20 _ _ (digits_of k) (digits_of k') (omega arith) (omega arith) u.1 in
    let q = numbers l l' r r' a.3 b.3 a.4 b.4 v.1 in
    let hj = decimal-inj j j' a.1 b.1 u.0 in
    let hk = decimal-inj k k' a.2 b.2 v.0 in
    λ z. cell_line (p z) (hj z) (hk z) (q.0 z) (q.1 z)
same_rest (cell_line i j k l r) (only_line i' left) a b p e m = absurd (omega arith)
same_rest (cell_line i j k l r) (only_line i' right) a b p e m = absurd (omega arith)
same_rest (cell_line i j k l r) (refused_line i' l' r') a b p e m = absurd (omega arith)
same_rest (only_line i left) (ts_line i' l' r') a b p e m = absurd (omega arith)
same_rest (only_line i right) (ts_line i' l' r') a b p e m = absurd (omega arith)
same_rest (only_line i left) (f_line i' l' r') a b p e m = absurd (omega arith)
same_rest (only_line i right) (f_line i' l' r') a b p e m = absurd (omega arith)
same_rest (only_line i left) (records_line i' l' r') a b p e m = absurd (omega arith)
same_rest (only_line i right) (records_line i' l' r') a b p e m = absurd (omega arith)
same_rest (only_line i left) (cell_line i' j' k' l' r') a b p e m = absurd (omega arith)
same_rest (only_line i right) (cell_line i' j' k' l' r') a b p e m = absurd (omega arith)
same_rest (only_line i left) (only_line i' left) a b p e m = ap (λ (z : ℕ). only_line z left) p
same_rest (only_line i left) (only_line i' right) a b p e m = absurd (omega (arith, ap (λ (z : List ℕ). get_or z 6 0) e))
same_rest (only_line i right) (only_line i' left) a b p e m = absurd (omega (arith, ap (λ (z : List ℕ). get_or z 6 0) e))
same_rest (only_line i right) (only_line i' right) a b p e m = ap (λ (z : ℕ). only_line z right) p
same_rest (only_line i left) (refused_line i' l' r') a b p e m = absurd (omega arith)
same_rest (only_line i right) (refused_line i' l' r') a b p e m = absurd (omega arith)
same_rest (refused_line i l r) (ts_line i' l' r') a b p e m = absurd (omega arith)
same_rest (refused_line i l r) (f_line i' l' r') a b p e m = absurd (omega arith)
same_rest (refused_line i l r) (records_line i' l' r') a b p e m = absurd (omega arith)
same_rest (refused_line i l r) (cell_line i' j' k' l' r') a b p e m = absurd (omega arith)
same_rest (refused_line i l r) (only_line i' left) a b p e m = absurd (omega arith)
same_rest (refused_line i l r) (only_line i' right) a b p e m = absurd (omega arith)
same_rest (refused_line i l r) (refused_line i' l' r') a b p e m =
    let q = sides (shown_text l) (shown_text l') (shown_text r) (shown_text r') (shown-digits l) (shown-digits l') (shown-digits r) (shown-digits r') (ap (drop 9) e) in
    let hl = shown-inj l l' a.1 b.1 q.0 in
    let hr = shown-inj r r' a.2 b.2 q.1 in
    λ z. refused_line (p z) (hl z) (hr z)

-- DIFFERENT LINES HAVE DIFFERENT TEXTS
pub text-inj : (x y : Line) → LineFits x → LineFits y → line_text x ≡ line_text y → x ≡ y
unfolding line_text
text-inj x y a b e =
    let s = ap (λ (z : List ℕ). decimal (position x) ++ z) (spaced x) in
    let t = ap (λ (z : List ℕ). decimal (position y) ++ z) (spaced y) in
    let q = cut (decimal (position x)) (decimal (position y)) 0x20 0x20 (drop 1 (rest_text x)) (drop 1 (rest_text y)) (digits_of (position x)) (digits_of (position y)) (omega arith) (omega arith) (sym s ∙ e ∙ t) in
    let r = spaced x ∙ ap (λ (z : List ℕ). 0x20 ∷ z) q.1 ∙ sym (spaced y) in
    same_rest x y a b (decimal-inj (position x) (position y) (fits-position x a) (fits-position y b) q.0) r (sym (mark-is x) ∙ ap mark r ∙ mark-is y)

-- A WHOLE TEXT: a line ends at its first octet 0x0A
sides-ended : (l r : List ℕ) → Printable l → Printable r → Ended (sides_text l r)
unfolding ascii
sides-ended l r h k = ended-append l (0x20 ∷ (r ++ (0x0A ∷ []))) h (ended-append (0x20 ∷ []) (r ++ (0x0A ∷ [])) (omega arith, tt) (record { body = r; is = refl; printable = k }))

numbers-ended : (l r : ℕ) → Ended (sides_text (decimal l) (decimal r))
numbers-ended l r = sides-ended (decimal l) (decimal r) (number-printable l) (number-printable r)

rest_ended : (x : Line) → Ended (rest_text x)
unfolding ascii
rest_ended (ts_line i l r) = ended-append (0x20 ∷ 0x74 ∷ 0x73 ∷ 0x20 ∷ []) _ (omega arith) (numbers-ended l r)
rest_ended (f_line i l r) = ended-append (0x20 ∷ 0x66 ∷ 0x20 ∷ []) _ (omega arith) (numbers-ended l r)
rest_ended (records_line i l r) = ended-append (0x20 ∷ 0x72 ∷ 0x65 ∷ 0x63 ∷ 0x6F ∷ 0x72 ∷ 0x64 ∷ 0x73 ∷ 0x20 ∷ []) _ (omega arith) (numbers-ended l r)
rest_ended (cell_line i j k l r) =
    ended-append (0x20 ∷ []) _ (omega arith)
    (ended-append (decimal j) _ (number-printable j)
    (ended-append (0x20 ∷ []) _ (omega arith)
    (ended-append (decimal k) _ (number-printable k)
    (ended-append (0x20 ∷ []) _ (omega arith) (numbers-ended l r)))))
rest_ended (only_line i left) = record { body = 0x20 ∷ 0x6F ∷ 0x6E ∷ 0x6C ∷ 0x79 ∷ 0x20 ∷ 0x6C ∷ 0x65 ∷ 0x66 ∷ 0x74 ∷ []; is = refl; printable = omega arith }
rest_ended (only_line i right) = record { body = 0x20 ∷ 0x6F ∷ 0x6E ∷ 0x6C ∷ 0x79 ∷ 0x20 ∷ 0x72 ∷ 0x69 ∷ 0x67 ∷ 0x68 ∷ 0x74 ∷ []; is = refl; printable = omega arith }
rest_ended (refused_line i l r) =
    ended-append (0x20 ∷ 0x72 ∷ 0x65 ∷ 0x66 ∷ 0x75 ∷ 0x73 ∷ 0x65 ∷ 0x64 ∷ 0x20 ∷ []) _ (omega arith)
    (sides-ended (shown_text l) (shown_text r) (digits-printable (shown_text l) (shown-digits l)) (digits-printable (shown_text r) (shown-digits r)))

line-ended : (x : Line) → Ended (line_text x)
unfolding line_text
line-ended x = ended-append (decimal (position x)) (rest_text x) (number-printable (position x)) (rest_ended x)

-- THE TEXT TELLS THE LIST
pub diff-text-inj : (xs ys : List Line) → Each LineFits xs → Each LineFits ys → diff_text xs ≡ diff_text ys → xs ≡ ys
diff-text-inj [] [] h k e = refl
diff-text-inj [] (y ∷ ys) h k e = absurd (some-line (line_text y) (diff_text ys) (line-ended y) (sym e))
diff-text-inj (x ∷ xs) [] h k e = absurd (some-line (line_text x) (diff_text xs) (line-ended x) e)
diff-text-inj (x ∷ xs) (y ∷ ys) h k e =
    let apart = line-apart (line_text x) (line_text y) (diff_text xs) (diff_text ys) in
    let q = apart (line-ended x) (line-ended y) e in
    ap₂ ◌∷◌ (text-inj x y h.0 k.0 q.0) (diff-text-inj xs ys h.1 k.1 q.1)

-- text printed in parts
pub text-append : (xs ys : List Line) → diff_text (xs ++ ys) ≡ diff_text xs ++ diff_text ys
text-append [] ys = refl
text-append (x ∷ xs) ys = ap (λ (z : List ℕ). line_text x ++ z) (text-append xs ys) ∙ sym (append_assoc (line_text x) (diff_text xs) (diff_text ys))
