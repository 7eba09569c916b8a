-- An ANC data packet is accepted exactly where the octets of a well-formed record stand, and so is a run of them.
-- Octets that pass the checks, but for the checksum's, read as the fields of their record with some word in its place, and back; `packed` takes
-- fields read to octets.
use mathlib.Core.Path.{◌≡◌, refl, ap, ap₂, sym, ◌∙◌, subst}
use mathlib.Core.Bool.{Bool, true}
use mathlib.Core.Logic.{◌↔◌}
use mathlib.Core.List.{List, [], ◌∷◌, ◌++◌, nil≢cons, append_assoc, cons-eq-cons}
use Prim.Native.Nat.{ℕ, zero, suc, ◌+◌, ◌*◌, ◌%◌, ◌^◌, ◌<◌, ◌≤◌}
use native.Mathlib.Nat.{mod-lt, zero-add, suc_inj}
use native.Mathlib.Omega.{arith}
use lib.Dec.{eqb, leb, lit<}
use lib.ListN.{length, take, drop, length-append, length-take, take-append-drop}
use lib.Seq.{take_at, drop_at}
use lib.Pow.{pow_pos}
use borrow.Author.Tests.{eq-eqb, eqb-true, leb-true, le-leb}
use Rattle.wire_spec.specs.Bits.{bits_at, row_at, Fields, row, width, Fit, Below}
use Rattle.wire_spec.specs.Words.{word_bits, header_numbers, header_word, is_header_word, sum_low, checksum_word, all_clear}
use Rattle.wire_spec.specs.Layout.{Layout, s_bits, stream_bits, r_bits, alignment, least_size}
use Rattle.wire_spec.specs.Result.{Ok}
use Rattle.wire_spec.specs.Anc.{Each, Record, InRange, WellFormed, checksum, header_fields, body_fields_with, padding, anc_fields_with, anc_octets_with, anc_octets, run_octets, body_bits, anc_size, did_at, words_at, data_count, anc_record, headers_ok, r_ok, words_ok, sum_field, checksum_ok, alignment_ok, anc_checks, read_anc, behind, read_run, run_size}
use Rattle.wire_spec.proofs.BitLaws.{Reads, packed, unpacked, reads-append, width-row, length-row_at, reads-row_at, row_at-reads, below-drop, below-octets, below-append, fit_append}
use Rattle.wire_spec.proofs.SizeLaws.{width-body, width-with, length-with, length-anc, least_size_lem}
use Rattle.wire_spec.proofs.WordLaws.{header-mod, header-lt, header-passes, checksum-lt}
use Rattle.wire_spec.proofs.ResultLaws.{Numbered, numbers, judge-numbered, then-numbered, Passed, accepted-inj, judge-accepts, judge-passes, then-accepts, and-true, and_both}

-- numbers fit a row exactly where each is below its bound
fit_row : (w : ℕ) (vs : List ℕ) → Fit (row w vs) ↔ Below (2 ^ w) vs
fit_row w [] = (λ h. tt, λ h. tt)
fit_row w (v ∷ vs) = let ih = fit_row w vs in (λ h. (h.0, ih.0 h.1), λ h. (h.0, ih.1 h.1))

module _ (L : Layout) (r : Record) (word : ℕ) where
  abbrev sum_fields : Fields
  sum_fields = (word_bits, word) ∷ []

  abbrev word_fields : Fields
  word_fields = row word_bits r.words ++ sum_fields

  -- the fields of a record whose numbers are in range fit, with any ten-bit word in the checksum's place
  fit-with : InRange L r → word < 2 ^ word_bits → Fit (anc_fields_with L r word)
  fit-with h w =
      let head : Fit (header_fields L r) =
      omega (arith, header-lt _ h.did, header-lt _ h.sdid, header-lt _ h.count, pow_pos (r_bits L)) in
      let words : Fit word_fields = (fit_append (row word_bits r.words) sum_fields).1 ((fit_row word_bits r.words).1 h.words, (w, tt)) in
      (fit_append (body_fields_with L r word) _).1 ((fit_append (header_fields L r) word_fields).1 (head, words), (pow_pos _, tt))

  -- its numbers are in range if its fields fit and its header words carry eight-bit numbers
  formed-with : Fit (anc_fields_with L r word) → r.did < header_numbers → r.sdid < header_numbers → length r.words < header_numbers
      → InRange L r × (word < 2 ^ word_bits)
  formed-with h d sd n =
      let b = (fit_append (header_fields L r) word_fields).0 ((fit_append (body_fields_with L r word) _).0 h).0 in
      let g = b.0 in
      let w = (fit_append (row word_bits r.words) sum_fields).0 b.1 in (
        record {
          c = g.0;
          line = g.1.0;
          offset = g.1.1.0;
          s = g.1.1.1.0;
          stream = g.1.1.1.1.0;
          did = d;
          sdid = sd;
          count = n;
          words = (fit_row word_bits r.words).0 w.0;
        },
        w.1.0,
      )

module _ (L : Layout) (s : List ℕ) where
  -- every check of a packet passes but 11's, of which nothing is said
  pub record Sound : Type 0 where
    pub least : leb (least_size L) (length s) ≡ true
    pub headers : headers_ok L s ≡ true
    pub whole : leb (anc_size L (data_count L s)) (length s) ≡ true
    pub quiet : r_ok L s ≡ true
    pub clear : words_ok L s ≡ true
    pub zeros : alignment_ok L s ≡ true

  pub sound-passed : Passed (anc_checks L s) ↔ (Sound × (checksum_ok L s ≡ true))
  unfolding anc_checks
  sound-passed = (
    λ p. (record { least = search; headers = search; whole = search; quiet = search; clear = search; zeros = search }, search),
    λ p.
        let g = p.0 in
        (g.least, (g.headers, (g.whole, (g.quiet, (g.clear, (p.1, (g.zeros, tt))))))),
  )

  -- the header words of octets that pass 10 are those of their record
  header-reads : headers_ok L s ≡ true
      → (bits_at s (did_at L) word_bits ≡ header_word (anc_record L s).did)
      × (bits_at s (did_at L + word_bits) word_bits ≡ header_word (anc_record L s).sdid)
      × (bits_at s (did_at L + word_bits + word_bits) word_bits ≡ header_word (length (anc_record L s).words))
  unfolding anc_record headers_ok row_at
  header-reads headers =
      let n = data_count L s in
      let h1 = and-true (is_header_word (bits_at s (did_at L) word_bits)) _ headers in
      let h2 = and-true (is_header_word (bits_at s (did_at L + word_bits) word_bits)) _ h1.1 in
      let h3 = and-true (is_header_word (bits_at s (did_at L + word_bits + word_bits) word_bits)) _ h2.1 in (
        eqb-true (bits_at s (did_at L) word_bits) (header_word (anc_record L s).did) h1.0,
        eqb-true (bits_at s (did_at L + word_bits) word_bits) (header_word (anc_record L s).sdid) h2.0,
        eqb-true (bits_at s (did_at L + word_bits + word_bits) word_bits) (header_word n) h3.0 ∙ ap header_word (sym (length-row_at word_bits s (words_at L) n)),
      )

  -- 11 is given exactly where the word in the checksum's place is not the record's own
  pub own-word : headers_ok L s ≡ true → checksum_ok L s ≡ eqb (sum_field L s) (checksum (anc_record L s))
  unfolding anc_record checksum_ok row_at
  own-word headers =
      let e = header-reads headers in
      λ i. eqb (sum_field L s) (checksum_word (sum_low (e.0 i ∷ e.1 i ∷ e.2 i ∷ (anc_record L s).words)))

  -- octets that pass are long enough, and read as the fields of their record
  sound-reads : Sound
      → (anc_size L (data_count L s) ≤ length s) × (length (anc_record L s).words ≡ data_count L s) × Reads s 0 (anc_fields_with L (anc_record L s) (sum_field L s))
  unfolding anc_record r_ok alignment_ok row_at
  sound-reads g =
      let r = anc_record L s in
      let n = data_count L s in
      let w = r.words in
      let lw : length w ≡ n = length-row_at word_bits s (words_at L) n in
      let e = header-reads g.headers in
      let wb = width-body L r (sum_field L s) ∙ ap (body_bits L) lw in
      let sum : bits_at s (words_at L + width (row word_bits w)) word_bits ≡ sum_field L s =
      ap (λ (x : ℕ). bits_at s (words_at L + x) word_bits) (width-row word_bits w ∙ ap (λ (x : ℕ). word_bits * x) lw) in
      let tail = (reads-append s (words_at L) (row word_bits w) (sum_fields L r (sum_field L s))).1 (reads-row_at word_bits s (words_at L) n, (sum, tt)) in (
        leb-true (anc_size L n) (length s) g.whole,
        lw,
        (reads-append s 0 (body_fields_with L r (sum_field L s)) _).1 (
          (refl, (refl, (refl, (refl, (refl, (e.0, (e.1, (e.2, (eqb-true (bits_at s (did_at L + word_bits + word_bits + word_bits) (r_bits L)) 0 g.quiet, tail))))))))),
          (ap₂ (λ (x y : ℕ). bits_at s x (padding (alignment L) y)) (zero-add _ ∙ wb) wb ∙ eqb-true (bits_at s (body_bits L n) (padding (alignment L) (body_bits L n))) 0 g.zeros, tt),
        ),
      )

  -- octets that read as the fields of a well-formed record pass, and record and word are theirs
  reads-sound : (r : Record) (word : ℕ) → WellFormed L r → Reads s 0 (anc_fields_with L r word) → anc_size L (length r.words) ≤ length s
      → (anc_record L s ≡ r) × (sum_field L s ≡ word) × Sound
  unfolding anc_record headers_ok r_ok words_ok alignment_ok row_at
  reads-sound r word f rd l =
      let w = r.words in
      let b = (reads-append s 0 (body_fields_with L r word) _).0 rd in
      let h : Reads s (words_at L) (word_fields L r word) = search in
      let t = (reads-append s (words_at L) (row word_bits w) (sum_fields L r word)).0 h in
      let e1 : bits_at s (did_at L) word_bits ≡ header_word r.did = search in
      let e2 : bits_at s (did_at L + word_bits) word_bits ≡ header_word r.sdid = search in
      let e3 : bits_at s (did_at L + word_bits + word_bits) word_bits ≡ header_word (length w) = search in
      let er : bits_at s (did_at L + word_bits + word_bits + word_bits) (r_bits L) ≡ 0 = search in
      let hc : bits_at s 0 1 ≡ r.c = search in
      let hl : bits_at s 1 11 ≡ r.line = search in
      let ho : bits_at s 12 12 ≡ r.offset = search in
      let hs : bits_at s 24 (s_bits L) ≡ r.s = search in
      let ht : bits_at s (24 + s_bits L) (stream_bits L) ≡ r.stream = search in
      let hd = ap (λ (x : ℕ). x % header_numbers) e1 ∙ header-mod r.did f.fits.did in
      let hsd = ap (λ (x : ℕ). x % header_numbers) e2 ∙ header-mod r.sdid f.fits.sdid in
      let n : data_count L s ≡ length w = ap (λ (x : ℕ). x % header_numbers) e3 ∙ header-mod (length w) f.fits.count in
      let hw : row_at word_bits s (words_at L) (data_count L s) ≡ w = ap (row_at word_bits s (words_at L)) n ∙ row_at-reads word_bits s (words_at L) w t.0 in
      let wb = ap (body_bits L) n ∙ sym (width-body L r word) in (
        λ i. record { c = hc i; line = hl i; offset = ho i; s = hs i; stream = ht i; did = hd i; sdid = hsd i; words = hw i },
        ap (λ (x : ℕ). bits_at s (words_at L + x) word_bits) (ap (λ (x : ℕ). word_bits * x) n ∙ sym (width-row word_bits w)) ∙ t.1.0,
        record {
          least = le-leb (least_size L) (length s) (omega (arith, least_size_lem L (length w)));
          headers = and_both (header-passes _ _ e1 f.fits.did) (and_both (header-passes _ _ e2 f.fits.sdid) (and_both (header-passes _ _ e3 f.fits.count) refl));
          whole = le-leb (anc_size L (data_count L s)) (length s) (rw n l);
          quiet = eq-eqb _ 0 er;
          clear = ap all_clear hw ∙ f.clear;
          zeros = eq-eqb _ 0 (ap₂ (λ (x y : ℕ). bits_at s x (padding (alignment L) y)) (wb ∙ sym (zero-add _)) wb ∙ b.1.0);
        },
      )

  -- EVERY CHECK BUT 11 PASSES exactly where the octets of a well-formed record stand at the front, with some ten-bit word in the checksum's place
  pub sound-iff : Below 256 s → (r : Record) (word : ℕ)
      → (Sound × (anc_record L s ≡ r) × (sum_field L s ≡ word))
      ↔ (WellFormed L r × (word < 2 ^ word_bits) × (take (anc_size L (length r.words)) s ≡ anc_octets_with L r word))
  unfolding anc_record words_ok
  sound-iff b r word = (
    λ p.
        let x = anc_record L s in
        let f = sound-reads p.0 in
        let lw = f.1 in
        let k = packed s (anc_fields_with L x (sum_field L s)) (anc_size L (length x.words)) (width-with L x (sum_field L s)) b (rw lw f.0) f.2 in
        let g = formed-with L x (sum_field L s) k.0 (mod-lt _ (lit< tt)) (mod-lt _ (lit< tt)) (rw lw (mod-lt _ (lit< tt))) in
        let all : WellFormed L x × (sum_field L s < 2 ^ word_bits) × (take (anc_size L (length x.words)) s ≡ anc_octets_with L x (sum_field L s)) =
        (record { fits = g.0; clear = p.0.clear }, g.1, k.1) in
        subst (λ (y : ℕ). WellFormed L r × (y < 2 ^ word_bits) × (take (anc_size L (length r.words)) s ≡ anc_octets_with L r y)) p.2
        (subst (λ (y : Record). WellFormed L y × (sum_field L s < 2 ^ word_bits) × (take (anc_size L (length y.words)) s ≡ anc_octets_with L y (sum_field L s))) p.1 all),
    λ p.
        let n = anc_size L (length r.words) in
        let l : n ≤ length s = omega (arith, sym (length-take n s) ∙ ap length p.2 ∙ length-with L r word) in
        let q = reads-sound r word p.0 (unpacked s (anc_fields_with L r word) n (width-with L r word) (fit-with L r word p.0.fits p.1) p.2) l in
        (q.2, q.0, q.1),
  )

  -- octets that pass have as many words as their Data_Count says
  pub sound-count : Sound → data_count L s ≡ length (anc_record L s).words
  sound-count g = sym (sound-reads g).1

  module _ (i : ℕ) (r : Record) where
    answer-is : read_anc L i s ≡ Ok r → Sound × (checksum_ok L s ≡ true) × (anc_record L s ≡ r)
    unfolding read_anc
    answer-is e =
        let q = judge-accepts i (anc_checks L s) (Ok (anc_record L s)) r e in
        let g = sound-passed.0 q.0 in
        (g.0, g.1, accepted-inj q.1)

    -- an accepted packet's record is what its fields read as
    pub record-read : read_anc L i s ≡ Ok r → anc_record L s ≡ r
    record-read e = (answer-is e).2

    -- an accepted packet has as many words as its Data_Count says
    pub count-read : read_anc L i s ≡ Ok r → data_count L s ≡ length r.words
    count-read e = let q = answer-is e in sound-count q.0 ∙ ap (λ (x : Record). length x.words) q.2

  -- ONE ANC PACKET is accepted exactly when the octets of a well-formed record stand at the front
  pub accepts-iff : Below 256 s → (i : ℕ) (r : Record)
      → (read_anc L i s ≡ Ok r) ↔ (WellFormed L r × (take (anc_size L (length r.words)) s ≡ anc_octets L r))
  unfolding read_anc
  accepts-iff b i r = (
    λ e.
        let q = answer-is i r e in
        let own : sum_field L s ≡ checksum r = eqb-true _ _ (sym (own-word q.0.headers) ∙ q.1) ∙ ap checksum q.2 in
        let p = (sound-iff b r (checksum r)).0 (q.0, q.2, own) in
        (p.0, p.2),
    λ p.
        let q = (sound-iff b r (checksum r)).1 (p.0, checksum-lt _, p.1) in
        let own = own-word q.0.headers ∙ eq-eqb _ _ (q.2 ∙ ap checksum (sym q.1)) in
        judge-passes i (anc_checks L s) (Ok (anc_record L s)) (sound-passed.1 (q.0, own)) ∙ ap Ok q.1,
  )

-- A RUN of n ANC packets is accepted exactly when the octets of n well-formed records stand at the front
pub run-iff : (L : Layout) (i n : ℕ) (s : List ℕ) → Below 256 s → (rs : List Record) (rest : List ℕ)
    → (read_run L i n s ≡ Ok (rs, rest)) ↔ ((length rs ≡ n) × Each (WellFormed L) rs × (s ≡ run_octets L rs ++ rest))
unfolding read_run
run-iff L i zero s b [] rest = (λ e. (refl, tt, ap (λ q. q.1) (accepted-inj e)), λ p. rw p.2)
run-iff L i zero s b (r ∷ rs) rest =
    (λ e. absurd (nil≢cons (ap (λ q. q.0) (accepted-inj e))), λ p. let o : suc (length rs) ≡ 0 = p.0 in absurd (omega arith))
run-iff L i (suc n) s b [] rest = (
  λ e.
      let a = then-accepts (read_anc L i s) _ _ e in
      let c = then-accepts (read_run L (i + 1) n (behind L s)) _ _ a.2 in
      absurd (nil≢cons (sym (ap (λ q. q.0) (accepted-inj c.2)))),
  λ p. let o : 0 ≡ suc n = p.0 in absurd (omega arith),
)
run-iff L i (suc n) s b (r ∷ rs) rest =
    let size = anc_size L (length r.words) in
    let ih = run-iff L (i + 1) n (behind L s) (below-drop 256 (anc_size L (data_count L s)) s b) rs rest in (
      λ e.
          let a = then-accepts (read_anc L i s) _ _ e in
          let c = then-accepts (read_run L (i + 1) n (behind L s)) _ _ a.2 in
          let q = accepted-inj c.2 in
          let h = cons-eq-cons.0 (ap (λ q. q.0) q) in
          let front = a.1 ∙ ap Ok h.0 in
          let one = (accepts-iff L s b i r).0 front in
          let d : behind L s ≡ drop size s = ap (λ (x : ℕ). drop (anc_size L x) s) (count-read L s i r front) in
          let more = ih.0 (c.1 ∙ ap Ok (λ j. (h.1 j, (q j).1))) in (
            ap suc more.0,
            (one.0, more.1),
            sym (take-append-drop size s) ∙ ap₂ ◌++◌ one.1 (sym d ∙ more.2) ∙ sym (append_assoc (anc_octets L r) (run_octets L rs) rest),
          ),
      λ p.
          let e : s ≡ anc_octets L r ++ (run_octets L rs ++ rest) = p.2 ∙ append_assoc (anc_octets L r) (run_octets L rs) rest in
          let t : take size s ≡ anc_octets L r = rw e (take_at (anc_octets L r) _ size (length-anc L r)) in
          let one = (accepts-iff L s b i r).1 (p.1.0, t) in
          let d : behind L s ≡ run_octets L rs ++ rest =
          ap (λ (x : ℕ). drop (anc_size L x) s) (count-read L s i r one) ∙ rw e (drop_at (anc_octets L r) _ size (length-anc L r)) in
          let more = ih.1 (suc_inj p.0, p.1.1, d) in
          rw (one, more),
    )

-- a run takes the octets that its packets take
pub length_run : (L : Layout) (rs : List Record) → length (run_octets L rs) ≡ run_size L rs
length_run L [] = refl
length_run L (r ∷ rs) = length-append (anc_octets L r) (run_octets L rs) ∙ ap₂ ◌+◌ (length-anc L r) (length_run L rs)

-- a run is octets
pub below-run : (L : Layout) (rs : List Record) → Below 256 (run_octets L rs)
below-run L [] = tt
below-run L (r ∷ rs) = below-append 256 (anc_octets L r) (run_octets L rs) (below-octets _ _) (below-run L rs)

-- a run is refused by a number of its packets' checks
pub run-numbered : (P : ℕ → Bool) (L : Layout) → ((s : List ℕ) → numbers P (anc_checks L s) ≡ true) → (i n : ℕ) (s : List ℕ) → Numbered P (read_run L i n s)
unfolding read_run read_anc
run-numbered P L h i zero s = tt
run-numbered P L h i (suc n) s =
    then-numbered P (read_anc L i s) _ (judge-numbered P i (anc_checks L s) _ (h s) tt)
    (λ r. then-numbered P (read_run L (i + 1) n (behind L s)) _ (run-numbered P L h (i + 1) n (behind L s)) (λ q. tt))
