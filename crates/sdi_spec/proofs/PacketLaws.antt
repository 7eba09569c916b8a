-- One packet of a line: its checks pass exactly where the words of a well-formed record stand behind the flag.
-- By the words in turn: three header words, the user data words, the checksum.
use mathlib.Core.Path.{◌≡◌, refl, ap, ap₂, sym, ◌∙◌, subst}
use mathlib.Core.Bool.{true}
use mathlib.Core.Logic.{◌↔◌}
use mathlib.Core.List.{List, [], ◌∷◌, ◌++◌}
use Prim.Native.Nat.{ℕ, suc, ◌+◌, ◌%◌, ◌^◌, ◌≤◌}
use native.Mathlib.Nat.{mod-lt}
use native.Mathlib.Omega.{arith}
use lib.Dec.{eqb, leb, lit<}
use lib.ListN.{length, take, drop, get_or, length-append, length-drop, take-append-drop}
use lib.Seq.{take-append_seam, length-take-le, drop-drop, drop-cons, get_or-drop, take-add, append_snoc, get_or-append_seam, drop-append-add}
use borrow.Author.Tests.{eq-eqb, eqb-true, leb-true, le-leb}
use Rattle.wire_spec.specs.Bits.{Below}
use Rattle.wire_spec.specs.Words.{word_bits, header_numbers, header_word, is_header_word, sum_low, checksum_word, least_clear, most_clear, is_clear, all_clear}
use Rattle.wire_spec.specs.Layout.{rfc8331}
use Rattle.wire_spec.specs.Anc.{Record, WellFormed, checksum, are_header_words}
use Rattle.wire_spec.proofs.ListLaws.{drop-run}
use Rattle.wire_spec.proofs.WordLaws.{header-mod, header-passes}
use Rattle.wire_spec.proofs.ResultLaws.{Passed, and-true, and_both}
use Rattle.sdi_spec.specs.declared.position.Position.{Position}
use Rattle.sdi_spec.specs.Packets.{flag, data_words, has_flag, line_count, user_words, line_record, sum_ok, packet_checks, placed}
use Rattle.sdi_spec.specs.Line.{PositionFits}

-- the test of a flag is the flag
pub flag-iff : (s : List ℕ) → (has_flag s ≡ true) ↔ (s ≡ flag ++ drop 3 s)
unfolding has_flag
flag-iff s = (
  λ e.
      let a = and-true (leb 3 (length s)) _ e in
      let b = and-true (eqb (get_or s 0 0) 0x000) _ a.1 in
      let c = and-true (eqb (get_or s 1 0) 0x3FF) (eqb (get_or s 2 0) 0x3FF) b.1 in
      let w0 = eqb-true (get_or s 0 0) 0x000 b.0 in
      let w1 = eqb-true (get_or s 1 0) 0x3FF c.0 in
      let w2 = eqb-true (get_or s 2 0) 0x3FF c.1 in
      drop-run 2 0 0 s (leb-true 3 (length s) a.0) ∙ (λ i. w0 i ∷ w1 i ∷ w2 i ∷ drop 3 s),
  λ e. subst (λ (x : List ℕ). has_flag x ≡ true) (sym e) (flag-tested (drop 3 s)),
)
  where
    flag-tested : (t : List ℕ) → has_flag (flag ++ t) ≡ true
    flag-tested t = and_both (le-leb 3 (length (flag ++ t)) (omega arith)) refl

-- a clear word fits ten bits
clear-below : (ws : List ℕ) → all_clear ws ≡ true → Below (2 ^ word_bits) ws
clear-below [] e = tt
clear-below (w ∷ ws) e =
    let a = and-true (is_clear w) (all_clear ws) e in
    let b = and-true (leb least_clear w) (leb w most_clear) a.0 in
    (omega (arith, leb-true w most_clear b.1), clear-below ws a.1)

-- words that pass are those of their record, which is well-formed, and what stands behind them
pub packet-passed : (P : Position) → PositionFits P → (t : List ℕ) → Passed (packet_checks t)
    → WellFormed rfc8331 (line_record P t) × (t ≡ data_words (line_record P t) ++ drop (4 + line_count t) t)
unfolding packet_checks sum_ok line_record
packet-passed P fits t p =
    let n = line_count t in
    let w = user_words t in
    let h4 : 4 ≤ length t = leb-true 4 (length t) search in
    let hn : 4 + n ≤ length t = leb-true (4 + n) (length t) search in
    let clear : all_clear w ≡ true = search in
    let sums : sum_ok t ≡ true = search in
    let front : t ≡ get_or t 0 0 ∷ get_or t 1 0 ∷ get_or t 2 0 ∷ drop 3 t = drop-run 2 0 0 t (omega arith) in
    let heads : are_header_words (get_or t 0 0 ∷ get_or t 1 0 ∷ get_or t 2 0 ∷ []) ≡ true = ap (λ (x : List ℕ). are_header_words (take 3 x)) (sym front) ∙ p.1.0 in
    let h1 = and-true (is_header_word (get_or t 0 0)) _ heads in
    let h2 = and-true (is_header_word (get_or t 1 0)) _ h1.1 in
    let h3 = and-true (is_header_word (get_or t 2 0)) _ h2.1 in
    let lw : length w ≡ n = length-take-le n (drop 3 t) (rw (length-drop 3 t) (omega arith)) in
    let e1 = eqb-true (get_or t 0 0) (header_word (get_or t 0 0 % header_numbers)) h1.0 in
    let e2 = eqb-true (get_or t 1 0) (header_word (get_or t 1 0 % header_numbers)) h2.0 in
    let e3 : get_or t 2 0 ≡ header_word (length w) = eqb-true (get_or t 2 0) (header_word n) h3.0 ∙ ap header_word (sym lw) in
    let tw : take (3 + n) t ≡ get_or t 0 0 ∷ get_or t 1 0 ∷ get_or t 2 0 ∷ w = take-add 3 n t ∙ ap (λ (x : List ℕ). take 3 x ++ w) front in
    let e4 : get_or t (3 + n) 0 ≡ checksum (line_record P t) =
    eqb-true (get_or t (3 + n) 0) _ sums ∙ ap (λ (x : List ℕ). checksum_word (sum_low x)) tw ∙ (λ i. checksum_word (sum_low (e1 i ∷ e2 i ∷ e3 i ∷ w))) in
    let four : suc (3 + n) ≡ 4 + n = omega arith in
    let back : drop 3 t ≡ (w ++ checksum (line_record P t) ∷ []) ++ drop (4 + n) t =
    sym (take-append-drop n (drop 3 t))
    ∙ ap (λ (x : List ℕ). w ++ x) (drop-drop n 3 t ∙ drop-cons t (3 + n) 0 (omega arith) ∙ ap₂ (λ (x : ℕ) (k : ℕ). x ∷ drop k t) e4 four)
    ∙ sym (append_snoc w (checksum (line_record P t)) (drop (4 + n) t)) in (
      record {
        fits = record {
          c = fits.c;
          line = fits.line;
          offset = fits.offset;
          s = fits.s;
          stream = fits.stream;
          did = mod-lt _ (lit< tt);
          sdid = mod-lt _ (lit< tt);
          count = rw lw (mod-lt _ (lit< tt));
          words = clear-below w clear;
        };
        clear = clear;
      },
      front ∙ (λ i. e1 i ∷ e2 i ∷ e3 i ∷ back i),
    )

-- the words of a well-formed record pass, with its data part read back and what follows left
pub packet-reads : (P : Position) (r : Record) (u : List ℕ) → WellFormed rfc8331 r
    → Passed (packet_checks (data_words r ++ u)) × (line_record P (data_words r ++ u) ≡ placed P r) × (drop (4 + line_count (data_words r ++ u)) (data_words r ++ u) ≡ u)
unfolding packet_checks sum_ok line_record
packet-reads P r u f =
    let t = data_words r ++ u in
    let w = r.words in
    let n : line_count t ≡ length w = header-mod (length w) f.fits.count in
    let tail : (w ++ checksum r ∷ []) ++ u ≡ w ++ checksum r ∷ u = append_snoc w (checksum r) u in
    let lt : length t ≡ 4 + length w + length u = omega (arith, ap length tail, length-append w (checksum r ∷ u)) in
    let hw : user_words t ≡ w = ap₂ take n tail ∙ take-append_seam w (checksum r ∷ u) in
    let sum : get_or t (3 + line_count t) 0 ≡ checksum r =
    sym (get_or-drop 3 t (line_count t) 0) ∙ ap₂ (λ (x : List ℕ) (k : ℕ). get_or x k 0) tail n ∙ get_or-append_seam w (checksum r) u 0 in
    let tw : take (3 + line_count t) t ≡ header_word r.did ∷ header_word r.sdid ∷ header_word (length w) ∷ w =
    take-add 3 (line_count t) t ∙ ap (λ (x : List ℕ). header_word r.did ∷ header_word r.sdid ∷ header_word (length w) ∷ x) hw in
    let hd = header-mod r.did f.fits.did in
    let hs = header-mod r.sdid f.fits.sdid in
    let four : 4 + line_count t ≡ 3 + (length w + 1) = omega arith in
    let behind : drop (4 + line_count t) t ≡ u =
    ap (λ (k : ℕ). drop k t) four ∙ sym (drop-drop (length w + 1) 3 t) ∙ ap (drop (length w + 1)) tail ∙ drop-append-add w (checksum r ∷ u) 1 in (
      (
        le-leb 4 (length t) (omega arith),
        (
          and_both (header-passes _ _ refl f.fits.did) (and_both (header-passes _ _ refl f.fits.sdid) (and_both (header-passes _ _ refl f.fits.count) refl)),
          (
            le-leb (4 + line_count t) (length t) (omega arith),
            (rw hw f.clear, (eq-eqb (get_or t (3 + line_count t) 0) _ (sum ∙ ap (λ (x : List ℕ). checksum_word (sum_low x)) (sym tw)), tt)),
          ),
        ),
      ),
      λ i. record { c = P.c; line = P.line; offset = P.offset; s = P.s; stream = P.stream; did = hd i; sdid = hs i; words = hw i },
      behind,
    )
