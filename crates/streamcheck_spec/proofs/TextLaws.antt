-- The text tells the report: different lines have different texts (02, K12, "as lines: ..").
-- By the index, which ends at a space; the word after it, by two of its letters; CODE and INDEX, which end
-- alike.
use mathlib.Core.Path.{◌≡◌, refl, ap, ap₂, sym, ◌∙◌}
use mathlib.Core.Bool.{cond}
use mathlib.Core.List.{List, [], ◌∷◌, ◌++◌, append_assoc}
use Prim.Native.Nat.{ℕ, ◌+◌, ◌*◌, ◌^◌, ◌<◌}
use native.Mathlib.Omega.{arith}
use lib.Dec.{eqb}
use lib.ListN.{get_or, drop}
use Rattle.wire_spec.specs.declared.refusal.Refusal.{Refusal}
use Rattle.text.specs.Text.{ascii, decimal}
use Rattle.text_laws.specs.Lines.{Ended}
use Rattle.text_laws.proofs.DecimalLaws.{Fits, number-apart}
use Rattle.text_laws.proofs.LineLaws.{ended-append, line-apart, number-printable, some-line}
use Rattle.streamcheck_spec.specs.declared.finding.Finding.{Finding}
use Rattle.streamcheck_spec.specs.declared.finding.Finding.TheVariants as finding
use Rattle.streamcheck_spec.specs.Check.{Entry}
use Rattle.streamcheck_spec.specs.Text.{line_text, report_text}
use Rattle.streamcheck_spec.specs.Statements.{FindingFits, EntryFits, ReportTold}

-- CODE and INDEX, and the line's end
abbrev numbers : (code index : ℕ) → List ℕ
numbers code index = decimal code ++ (0x20 ∷ (decimal index ++ (0x0A ∷ [])))

-- what follows the index and a space
abbrev words : Finding → List ℕ
words (finding.Refused x) = ascii "refused " ++ numbers x.number x.index
words finding.Cut = ascii "cut\n"
words finding.Number = ascii "number\n"
words finding.Change = ascii "change\n"
words finding.Reserved = ascii "reserved\n"
words finding.Raster = ascii "raster\n"

line-is : (i : ℕ) (x : Finding) → line_text i x ≡ decimal i ++ (0x20 ∷ words x)
unfolding line_text ascii
line-is i (finding.Refused x) = simp append_assoc
line-is i finding.Cut = refl
line-is i finding.Number = refl
line-is i finding.Change = refl
line-is i finding.Reserved = refl
line-is i finding.Raster = refl

-- the second and the third letter; what they tell, but for `ef`, which is `refused`
abbrev letters : List ℕ → ℕ
letters s = get_or s 1 0 * 256 + get_or s 2 0

abbrev by_letters : ℕ → Finding
by_letters m =
    cond (eqb m 0x7574) finding.Cut
    (cond (eqb m 0x756D) finding.Number
    (cond (eqb m 0x6861) finding.Change
    (cond (eqb m 0x6573) finding.Reserved finding.Raster)))

-- another finding than a refusal, told by its word
by_word : (x y : Finding) → x ≡ by_letters (letters (words x)) → (letters (words x) ≡ 0x6566 → ⊥)
    → words x ≡ words y → x ≡ y
unfolding ascii
by_word x (finding.Refused r) is other e = absurd (other (ap letters e))
by_word x finding.Cut is other e = is ∙ ap (λ (s : List ℕ). by_letters (letters s)) e
by_word x finding.Number is other e = is ∙ ap (λ (s : List ℕ). by_letters (letters s)) e
by_word x finding.Change is other e = is ∙ ap (λ (s : List ℕ). by_letters (letters s)) e
by_word x finding.Reserved is other e = is ∙ ap (λ (s : List ℕ). by_letters (letters s)) e
by_word x finding.Raster is other e = is ∙ ap (λ (s : List ℕ). by_letters (letters s)) e

-- a number of 64 bits has at most 20 digits
fits : (n : ℕ) → n < 2 ^ 64 → Fits n
fits n h = omega (arith, h)

numbers_apart : (a b c d : ℕ) → Fits a → Fits b → Fits c → Fits d
    → numbers a b ≡ numbers c d → (a ≡ c) × (b ≡ d)
numbers_apart a b c d ha hb hc hd e =
    let code = number-apart a c 0x20 0x20 _ _ ha hc (omega arith) (omega arith) e in
    (code.0, (number-apart b d 0x0A 0x0A [] [] hb hd (omega arith) (omega arith) code.1).0)

refused-apart : (x y : Refusal) → FindingFits (finding.Refused x) → FindingFits (finding.Refused y)
    → words (finding.Refused x) ≡ words (finding.Refused y) → finding.Refused x ≡ finding.Refused y
unfolding ascii
refused-apart x y h k e =
    let apart = numbers_apart x.number x.index y.number y.index in
    let q = apart (fits _ h.0) (fits _ h.1) (fits _ k.0) (fits _ k.1) (ap (drop 8) e) in
    λ z. finding.Refused (record { number = q.0 z; index = q.1 z })

-- a refusal and another finding
by-refused : (x : Refusal) (y : Finding) → y ≡ by_letters (letters (words y))
    → (letters (words y) ≡ 0x6566 → ⊥) → words (finding.Refused x) ≡ words y → finding.Refused x ≡ y
by-refused x y is other e = sym (by_word y (finding.Refused x) is other (sym e))

-- findings of the same words
same-words : (x y : Finding) → FindingFits x → FindingFits y → words x ≡ words y → x ≡ y
unfolding ascii
same-words (finding.Refused x) (finding.Refused y) h k e = refused-apart x y h k e
same-words (finding.Refused x) finding.Cut h k e = by-refused x _ refl (λ q. omega arith) e
same-words (finding.Refused x) finding.Number h k e = by-refused x _ refl (λ q. omega arith) e
same-words (finding.Refused x) finding.Change h k e = by-refused x _ refl (λ q. omega arith) e
same-words (finding.Refused x) finding.Reserved h k e = by-refused x _ refl (λ q. omega arith) e
same-words (finding.Refused x) finding.Raster h k e = by-refused x _ refl (λ q. omega arith) e
same-words finding.Cut y h k e = by_word finding.Cut y refl (λ q. omega arith) e
same-words finding.Number y h k e = by_word finding.Number y refl (λ q. omega arith) e
same-words finding.Change y h k e = by_word finding.Change y refl (λ q. omega arith) e
same-words finding.Reserved y h k e = by_word finding.Reserved y refl (λ q. omega arith) e
same-words finding.Raster y h k e = by_word finding.Raster y refl (λ q. omega arith) e

-- a line of the report
abbrev text : Entry → List ℕ
text x = line_text x.0 x.1

-- DIFFERENT LINES HAVE DIFFERENT TEXTS
pub line-inj : (x y : Entry) → EntryFits x → EntryFits y → text x ≡ text y → x ≡ y
line-inj x y h k e =
    let parts = sym (line-is x.0 x.1) ∙ e ∙ line-is y.0 y.1 in
    let apart = number-apart x.0 y.0 0x20 0x20 (words x.1) (words y.1) in
    let index = apart (fits _ h.0) (fits _ k.0) (omega arith) (omega arith) parts in
    let rest = same-words x.1 y.1 h.1 k.1 index.1 in
    λ z. (index.0 z, rest z)

words-ended : (x : Finding) → Ended (0x20 ∷ words x)
unfolding ascii
words-ended (finding.Refused x) =
    let last = decimal x.index in
    let plain = number-printable x.index in
    let index : Ended (last ++ (0x0A ∷ [])) = record { body = last; is = refl; printable = plain } in
    let behind = ended-append (0x20 ∷ []) _ (omega arith, tt) index in
    let code = ended-append (decimal x.number) _ (number-printable x.number) behind in
    ended-append (ascii " refused ") _ (omega arith) code
words-ended finding.Cut = record { body = ascii " cut"; is = refl; printable = omega arith }
words-ended finding.Number = record { body = ascii " number"; is = refl; printable = omega arith }
words-ended finding.Change = record { body = ascii " change"; is = refl; printable = omega arith }
words-ended finding.Reserved = record { body = ascii " reserved"; is = refl; printable = omega arith }
words-ended finding.Raster = record { body = ascii " raster"; is = refl; printable = omega arith }

line-ended : (x : Entry) → Ended (text x)
line-ended x =
    let index = decimal x.0 in
    rw (line-is x.0 x.1) (ended-append index _ (number-printable x.0) (words-ended x.1))

-- THE TEXT TELLS THE REPORT
pub report-text-inj : ReportTold
unfolding report_text
report-text-inj [] [] h k e = refl
report-text-inj [] (y ∷ ys) h k e = absurd (some-line (text y) (report_text ys) (line-ended y) (sym e))
report-text-inj (x ∷ xs) [] h k e = absurd (some-line (text x) (report_text xs) (line-ended x) e)
report-text-inj (x ∷ xs) (y ∷ ys) h k e =
    let q = line-apart (text x) (text y) (report_text xs) (report_text ys) (line-ended x) (line-ended y) e in
    ap₂ ◌∷◌ (line-inj x y h.0 k.0 q.0) (report-text-inj xs ys h.1 k.1 q.1)
