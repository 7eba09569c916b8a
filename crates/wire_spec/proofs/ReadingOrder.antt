-- The order of reading: octets are refused with a number and an index exactly where 01's table and its order say so.
-- Each check agrees with its row of the table; then stage by stage, and packet by packet.
use mathlib.Core.Path.{◌≡◌, refl, ap, ap₂, sym, ◌∙◌, subst}
use mathlib.Core.Bool.{Bool, true, false, not, ◌&&◌, ◌||◌, true≢false}
use mathlib.Core.Logic.{◌↔◌, ◌⊎◌, inl, inr}
use mathlib.Core.List.{List, [], ◌∷◌, ◌++◌}
use Prim.Native.Nat.{ℕ, zero, suc, ◌+◌, ◌-◌, ◌*◌, ◌%◌, ◌<◌, ◌≤◌, zero-le}
use native.Mathlib.Nat.{zero-mul, one-mul}
use native.Mathlib.Omega.{arith}
use lib.Dec.{eqb, leb}
use lib.ListN.{length}
use borrow.Author.Tests.{eqb-true, eqb-false, eq-eqb, ne_eqb, leb-true, leb-false, le-leb, lt-leb, not-false}
use Rattle.wire_spec.specs.declared.layout.Layout.TheVariants as layout
use Rattle.wire_spec.specs.Bits.{bits_at, row_at}
use Rattle.wire_spec.specs.Words.{header_numbers, header_word, is_header_word, least_clear, most_clear, is_clear, all_clear}
use Rattle.wire_spec.specs.Layout.{Layout, r_bits, alignment, least_size, payload_header_size}
use Rattle.wire_spec.specs.Result.{Result, Err, Ok, refuse, Checks, judge, ◌then◌}
use Rattle.wire_spec.specs.Anc.{checksum, padding, body_bits, anc_size, did_at, words_at, data_count, anc_record, headers_ok, r_ok, words_ok, sum_field, checksum_ok, alignment_ok, anc_checks, read_anc, behind, read_run}
use Rattle.wire_spec.specs.Cells.{list_of}
use Rattle.wire_spec.specs.Packet.{last_octet, header_size, padding_flag, padding_count, payload_size, length_field, anc_count, f_field, packet_read, header_checks, padding_checks, payload_checks, read_records, read_packet, content, read_content, read_into}
use Rattle.wire_spec.specs.Order.{Faults, None, First, Some, after, InTurn, payload_octets, front_faults, least_octets, bits_of, octets_of, Malformed, Protected, anc_faults, anc_region, ReadRefused, RefusedInto}
use Rattle.wire_spec.proofs.BitLaws.{bits_at-lt}
use Rattle.wire_spec.proofs.SizeLaws.{size-bits, size-rfc8331, size-draft2015}
use Rattle.wire_spec.proofs.LayoutLaws.{places}
use Rattle.wire_spec.proofs.ResultLaws.{accepted-inj, judge-accepts, judge-passes, then-accepts, not-refused}
use Rattle.wire_spec.proofs.AncLaws.{own-word}
use Rattle.wire_spec.proofs.OrderLaws.{Agree, refuse-inj, judge-behind, judge-append, passed_none, judge-first, then-first, and-false}

-- what a test that fails says
pub leb-fails : (a b : ℕ) → (leb a b ≡ false) ↔ (b < a)
leb-fails a b = (leb-false a b, lt-leb a b)

pub eqb-fails : (a b : ℕ) → (eqb a b ≡ false) ↔ (a ≡ b → ⊥)
eqb-fails a b = (eqb-false a b, ne_eqb a b)

one-fails : (a : ℕ) → (not (eqb a 1) ≡ false) ↔ (a ≡ 1)
one-fails a = (λ e. eqb-true a 1 (not-false _ e), λ e. rw (eq-eqb a 1 e))

none-fails : (c l : ℕ) → (not (eqb c 0) || eqb l 0 ≡ false) ↔ ((c ≡ 0) × (l ≡ 0 → ⊥))
none-fails c l = go (eqb c 0) refl
  where
    go : (t : Bool) → eqb c 0 ≡ t → (not t || eqb l 0 ≡ false) ↔ ((c ≡ 0) × (l ≡ 0 → ⊥))
    go true h = (λ e. (eqb-true c 0 h, eqb-false l 0 e), λ p. ne_eqb l 0 p.1)
    go false h = (λ e. absurd (true≢false e), λ p. absurd (eqb-false c 0 h p.0))

pad-fails : (p last n h : ℕ) → p < 2 → h ≤ n
    → (leb p (p * last) && leb (p * last) (n - h) ≡ false) ↔ ((p ≡ 1) × ((last ≡ 0) ⊎ (n < h + last)))
pad-fails zero last n h b l =
    rw (zero-mul last, le-leb 0 (n - h) zero-le) (λ e. absurd (true≢false e), λ q. absurd (omega (arith, q.0)))
pad-fails (suc zero) last n h b l = rw (one-mul last) (λ e. (refl, to ((and-false (leb 1 last) (leb last (n - h))).0 e)), λ q. (and-false (leb 1 last) (leb last (n - h))).1 (from q.1))
  where
    to : (leb 1 last ≡ false) ⊎ (leb last (n - h) ≡ false) → (last ≡ 0) ⊎ (n < h + last)
    to (inl e) = let q = leb-false 1 last e in inl (omega arith)
    to (inr e) = let q = leb-false last (n - h) e in inr (omega arith)

    from : (last ≡ 0) ⊎ (n < h + last) → (leb 1 last ≡ false) ⊎ (leb last (n - h) ≡ false)
    from (inl e) = inl (lt-leb 1 last (omega arith))
    from (inr e) = inr (lt-leb last (n - h) (omega arith))
pad-fails (suc (suc p)) last n h b l = absurd (omega arith)

-- the numbers of the layouts, as the papers have them
pub payload-octets : (L : Layout) → payload_header_size L ≡ payload_octets L
payload-octets layout.Rfc8331 = refl
payload-octets layout.Draft2015 = refl

pub least-octets : (L : Layout) → least_size L ≡ least_octets L
least-octets layout.Rfc8331 = refl
least-octets layout.Draft2015 = refl

pub octets-of : (L : Layout) (n : ℕ) → anc_size L n ≡ octets_of L n
octets-of layout.Rfc8331 n = size-rfc8331 n
octets-of layout.Draft2015 n = size-draft2015 n

pub bits-of : (L : Layout) (n : ℕ) → body_bits L n ≡ bits_of L n
bits-of layout.Rfc8331 n = refl
bits-of layout.Draft2015 n = refl

padding-of : (L : Layout) (n : ℕ) → padding (alignment L) (body_bits L n) ≡ 8 * octets_of L n - bits_of L n
padding-of L n = let e = octets-of L n in let b = bits-of L n in let s = size-bits L n in sum (body_bits L n) (padding (alignment L) (body_bits L n)) (anc_size L n) (octets_of L n) (bits_of L n) s e b
  where
    sum : (a p z o b : ℕ) → a + p ≡ 8 * z → z ≡ o → a ≡ b → p ≡ 8 * o - b
    sum a p z o b h e k = omega arith

module _ (L : Layout) (s : List ℕ) where
  abbrev pub front_checks : Checks
  front_checks = header_checks s ++ (padding_checks L s ++ payload_checks L s)

  short-iff : (leb (payload_header_size L) (payload_size s) ≡ false) ↔ (length s < header_size s + payload_octets L + padding_count s)
  short-iff =
      let f = leb-fails (payload_header_size L) (payload_size s) in
      let q = payload-octets L in
      let p = (places L).payload-least in
      (λ e. to (payload_header_size L) (payload_octets L) (header_size s) (padding_count s) (length s) q p (f.0 e), λ e. f.1 (from (payload_header_size L) (payload_octets L) (header_size s) (padding_count s) (length s) q p e))
    where
      to : (a q h c n : ℕ) → a ≡ q → 5 ≤ a → n - h - c < a → n < h + q + c
      to a q h c n e p l = omega arith

      from : (a q h c n : ℕ) → a ≡ q → 5 ≤ a → n < h + q + c → n - h - c < a
      from a q h c n e p l = omega arith

  length-iff : leb (payload_header_size L) (payload_size s) ≡ true
      → (eqb (length_field s) (payload_size s - payload_header_size L) ≡ false) ↔ (header_size s + payload_octets L + length_field s + padding_count s ≡ length s → ⊥)
  length-iff whole =
      let f = eqb-fails (length_field s) (payload_size s - payload_header_size L) in
      let q = payload-octets L in
      let p = (places L).payload-least in
      let w = leb-true (payload_header_size L) (payload_size s) whole in (
        λ e h. f.0 e (to (payload_header_size L) (payload_octets L) (header_size s) (padding_count s) (length_field s) (length s) q p w h),
        λ e. f.1 (λ h. e (from (payload_header_size L) (payload_octets L) (header_size s) (padding_count s) (length_field s) (length s) q p w h)),
      )
    where
      to : (a q h c l n : ℕ) → a ≡ q → 5 ≤ a → a ≤ n - h - c → h + q + l + c ≡ n → l ≡ n - h - c - a
      to a q h c l n e p w k = omega arith

      from : (a q h c l n : ℕ) → a ≡ q → 5 ≤ a → a ≤ n - h - c → l ≡ n - h - c - a → h + q + l + c ≡ n
      from a q h c l n e p w k = omega arith

  -- 1 TO 8 are the table's, in its order
  pub front-agree : Agree (front_faults L s) front_checks
  unfolding header_checks padding_checks payload_checks
  front-agree = (
    refl,
    leb-fails (length s) 65535,
    λ h1. (
      refl,
      leb-fails 12 (length s),
      λ h2. (
        refl,
        eqb-fails (bits_at s 0 2) 2,
        λ h3. (
          refl,
          leb-fails (header_size s) (length s),
          λ h4. (
            refl,
            pad-fails (padding_flag s) (last_octet s) (length s) (header_size s) (bits_at-lt s 2 1) (leb-true (header_size s) (length s) h4),
            λ h5. (refl, short-iff, λ h6. (refl, one-fails (f_field L s), λ h7. (refl, length-iff h6, λ h8. (refl, none-fails (anc_count s) (length_field s), λ h9. tt)))),
          ),
        ),
      ),
    ),
  )

-- user data words fail 16 exactly where one is protected
clear-one : (w : ℕ) → (is_clear w ≡ false) ↔ Protected w
clear-one w =
    let a = and-false (leb least_clear w) (leb w most_clear) in
    (λ e. to (a.0 e), λ x. a.1 (from x))
  where
    to : (leb least_clear w ≡ false) ⊎ (leb w most_clear ≡ false) → Protected w
    to (inl e) = let l = leb-false least_clear w e in inl (omega arith)
    to (inr e) = let l = leb-false w most_clear e in inr (omega arith)

    from : Protected w → (leb least_clear w ≡ false) ⊎ (leb w most_clear ≡ false)
    from (inl e) = inl (lt-leb least_clear w (omega arith))
    from (inr e) = inr (lt-leb w most_clear (omega arith))

pub clear-fails : (ws : List ℕ) → (all_clear ws ≡ false) ↔ Some Protected ws
clear-fails [] = (λ e. absurd (true≢false e), λ x. absurd x)
clear-fails (w ∷ ws) =
    let a = and-false (is_clear w) (all_clear ws) in
    let ih = clear-fails ws in
    (λ e. to ih (a.0 e), λ x. a.1 (from ih x))
  where
    to : ((all_clear ws ≡ false) ↔ Some Protected ws) → (is_clear w ≡ false) ⊎ (all_clear ws ≡ false) → Protected w ⊎ Some Protected ws
    to ih (inl e) = inl ((clear-one w).0 e)
    to ih (inr e) = inr (ih.0 e)

    from : ((all_clear ws ≡ false) ↔ Some Protected ws) → Protected w ⊎ Some Protected ws → (is_clear w ≡ false) ⊎ (all_clear ws ≡ false)
    from ih (inl x) = inl ((clear-one w).1 x)
    from ih (inr x) = inr (ih.1 x)

-- three words fail 10 exactly where one is malformed
header-fails : (w : ℕ) → (is_header_word w ≡ false) ↔ Malformed w
header-fails w = eqb-fails w (header_word (w % header_numbers))

three-fail : (a b c : ℕ) → (is_header_word a && (is_header_word b && (is_header_word c && true)) ≡ false) ↔ (Malformed a ⊎ (Malformed b ⊎ Malformed c))
three-fail a b c = (
  λ e. one ((and-false (is_header_word a) (is_header_word b && (is_header_word c && true))).0 e),
  λ x. (and-false (is_header_word a) (is_header_word b && (is_header_word c && true))).1 (back x),
)
  where
    last : (is_header_word c ≡ false) ⊎ (true ≡ false) → Malformed c
    last (inl e) = (header-fails c).0 e
    last (inr e) = absurd (true≢false e)

    two : (is_header_word b ≡ false) ⊎ (is_header_word c && true ≡ false) → Malformed b ⊎ Malformed c
    two (inl e) = inl ((header-fails b).0 e)
    two (inr e) = inr (last ((and-false (is_header_word c) true).0 e))

    one : (is_header_word a ≡ false) ⊎ (is_header_word b && (is_header_word c && true) ≡ false) → Malformed a ⊎ (Malformed b ⊎ Malformed c)
    one (inl e) = inl ((header-fails a).0 e)
    one (inr e) = inr (two ((and-false (is_header_word b) (is_header_word c && true)).0 e))

    back : Malformed a ⊎ (Malformed b ⊎ Malformed c) → (is_header_word a ≡ false) ⊎ (is_header_word b && (is_header_word c && true) ≡ false)
    back (inl x) = inl ((header-fails a).1 x)
    back (inr (inl x)) = inr ((and-false (is_header_word b) (is_header_word c && true)).1 (inl ((header-fails b).1 x)))
    back (inr (inr x)) = inr ((and-false (is_header_word b) (is_header_word c && true)).1 (inr ((and-false (is_header_word c) true).1 (inl ((header-fails c).1 x)))))

module _ (L : Layout) (s : List ℕ) where
  pub headers-iff : (headers_ok L s ≡ false) ↔ (Malformed (bits_at s (did_at L) 10) ⊎ (Malformed (bits_at s (did_at L + 10) 10) ⊎ Malformed (bits_at s (did_at L + 10 + 10) 10)))
  unfolding headers_ok row_at
  headers-iff = three-fail (bits_at s (did_at L) 10) (bits_at s (did_at L + 10) 10) (bits_at s (did_at L + 10 + 10) 10)

  pub least_iff : (leb (least_size L) (length s) ≡ false) ↔ (length s < least_octets L)
  least_iff = rw (least-octets L) (leb-fails (least_octets L) (length s))

  pub size-iff : (leb (anc_size L (data_count L s)) (length s) ≡ false) ↔ (length s < octets_of L (data_count L s))
  size-iff = rw (octets-of L (data_count L s)) (leb-fails (octets_of L (data_count L s)) (length s))

  pub r-iff : (r_ok L s ≡ false) ↔ (bits_at s (did_at L + 10 + 10 + 10) (r_bits L) ≡ 0 → ⊥)
  unfolding r_ok
  r-iff = eqb-fails (bits_at s (did_at L + 10 + 10 + 10) (r_bits L)) 0

  pub words-iff : (words_ok L s ≡ false) ↔ Some Protected (anc_record L s).words
  unfolding words_ok anc_record
  words-iff = clear-fails (row_at 10 s (words_at L) (data_count L s))

  pub sum-iff : headers_ok L s ≡ true → (checksum_ok L s ≡ false) ↔ (sum_field L s ≡ checksum (anc_record L s) → ⊥)
  sum-iff h = rw (own-word L s h) (eqb-fails (sum_field L s) (checksum (anc_record L s)))

  pub align-iff : (alignment_ok L s ≡ false) ↔ (bits_at s (bits_of L (data_count L s)) (8 * octets_of L (data_count L s) - bits_of L (data_count L s)) ≡ 0 → ⊥)
  unfolding alignment_ok
  align-iff =
      subst (λ (x : ℕ). (alignment_ok L s ≡ false) ↔ (bits_at s (bits_of L (data_count L s)) x ≡ 0 → ⊥)) (padding-of L (data_count L s))
      (subst (λ (x : ℕ). (alignment_ok L s ≡ false) ↔ (bits_at s x (padding (alignment L) (body_bits L (data_count L s))) ≡ 0 → ⊥)) (bits-of L (data_count L s))
      (eqb-fails (bits_at s (body_bits L (data_count L s)) (padding (alignment L) (body_bits L (data_count L s)))) 0))

  -- 9, 10, 9, 15, 16, 11, 12 are the table's, in its order
  pub anc-agree : Agree (anc_faults L s) (anc_checks L s)
  unfolding anc_checks
  anc-agree = (
    refl,
    least_iff,
    λ h1. (
      refl,
      headers-iff,
      λ h2. (refl, size-iff, λ h3. (refl, r-iff, λ h4. (refl, words-iff, λ h5. (refl, sum-iff h2, λ h6. (refl, align-iff, λ h7. tt))))),
    ),
  )

-- a later turn's fault comes behind a first turn without one
pub later-turn : {A : Type 0} (faults : A → Faults) (next : A → A) (s : A) (m j : ℕ)
    → InTurn faults next s m (suc j) ↔ (None (faults s) × InTurn faults next (next s) m j)
later-turn faults next s m j = (
  λ x. (x.before 0 (omega arith), record { before = λ q h. x.before (suc q) (omega (arith, h)); here = x.here }),
  λ x. record { before = earlier x.0 x.1.before; here = x.1.here },
)
  where
    earlier : None (faults s) → ((q : ℕ) → q < j → None (faults (after next q (next s)))) → (q : ℕ) → q < suc j → None (faults (after next q s))
    earlier h f zero l = h
    earlier h f (suc q) l = f q (omega (arith, l))

-- A run of packets, looked through for these faults by these checks, in whatever way its answer is put together.
module _ {A : Type 0} (faults : List ℕ → Faults) (checks : List ℕ → Checks) (agree : (s : List ℕ) → Agree (faults s) (checks s)) (next : List ℕ → List ℕ)
    (run : ℕ → ℕ → List ℕ → Result A) (none : List ℕ → A) (more : List ℕ → A → A) (left : A → List ℕ)
    (ends : (i : ℕ) (s : List ℕ) → run i zero s ≡ Ok (none s))
    (steps : (i n : ℕ) (s : List ℕ) → run i (suc n) s ≡ judge i (checks s) (run (i + 1) n (next s) then λ q. Ok (more s q)))
    (left-none : (s : List ℕ) → left (none s) ≡ s) (left-more : (s : List ℕ) (q : A) → left (more s q) ≡ left q) where
  -- the first packet with a fault, of those from index `i` on
  abbrev pub Turns : (i n : ℕ) (s : List ℕ) (m k : ℕ) → Type 0
  Turns i n s m k = (j : ℕ) × (k ≡ i + j) × (j < n) × InTurn faults next s m j

  -- a refusal is that packet's, with its index
  pub run-first : (i n : ℕ) (s : List ℕ) (m k : ℕ) → (run i n s ≡ refuse m k) ↔ Turns i n s m k
  run-first i zero s m k = (λ e. absurd (not-refused (sym (ends i s) ∙ e)), λ x. absurd (omega (arith, x.2)))
  run-first i (suc n) s m k =
      let f = judge-first i (faults s) (checks s) (agree s) (run (i + 1) n (next s) then λ q. Ok (more s q)) m k in
      let t = then-first (run (i + 1) n (next s)) (more s) m k in
      let ih = run-first (i + 1) n (next s) m k in
      (λ e. to (λ x. ih.0 (t.0 x)) (f.0 (sym (steps i n s) ∙ e)), λ x. steps i n s ∙ f.1 (from (λ y. t.1 (ih.1 y)) x.0 x.1 x.2 x.3))
    where
      to : {T : Type 0} → (T → Turns (i + 1) n (next s) m k) → (First m (faults s) × (k ≡ i)) ⊎ (None (faults s) × T) → Turns i (suc n) s m k
      to g (inl x) = (0, omega (arith, x.1), omega arith, record { before = λ j h. absurd (omega (arith, h)); here = x.0 })
      to g (inr x) =
          let l = g x.1 in
          (suc l.0, omega (arith, l.1), omega (arith, l.2), (later-turn faults next s m l.0).1 (x.0, l.3))

      from : {T : Type 0} → (Turns (i + 1) n (next s) m k → T) → (j : ℕ) → k ≡ i + j → j < suc n → InTurn faults next s m j
          → (First m (faults s) × (k ≡ i)) ⊎ (None (faults s) × T)
      from g zero e l x = inl (x.here, omega arith)
      from g (suc j) e l x = let y = (later-turn faults next s m j).0 x in inr (y.0, g (j, omega arith, omega (arith, l), y.1))

  -- without a fault it is taken, ..
  pub run_ends : (i n : ℕ) (s : List ℕ) → ((j : ℕ) → j < n → None (faults (after next j s))) → (q : A) × (run i n s ≡ Ok q)
  run_ends i zero s h = (none s, ends i s)
  run_ends i (suc n) s h =
      let q = run_ends (i + 1) n (next s) (λ j l. h (suc j) (omega (arith, l))) in
      let e = judge-passes i (checks s) (run (i + 1) n (next s) then λ q. Ok (more s q)) ((passed_none (faults s) (checks s) (agree s)).1 (h 0 (omega arith))) in
      (more s q.0, steps i n s ∙ e ∙ ap (λ r. r then λ q. Ok (more s q)) q.1)

  -- .. and what is taken has none, and leaves what is behind its packets
  pub run-taken : (i n : ℕ) (s : List ℕ) (q : A) → run i n s ≡ Ok q → ((j : ℕ) → j < n → None (faults (after next j s))) × (left q ≡ after next n s)
  run-taken i zero s q e = (λ j h. absurd (omega (arith, h)), ap left (accepted-inj (sym e ∙ ends i s)) ∙ left-none s)
  run-taken i (suc n) s q e =
      let a = judge-accepts i (checks s) (run (i + 1) n (next s) then λ q. Ok (more s q)) q (sym (steps i n s) ∙ e) in
      let b = then-accepts (run (i + 1) n (next s)) (λ q. Ok (more s q)) q a.1 in
      let ih = run-taken (i + 1) n (next s) b.0 b.1 in
      (earlier ((passed_none (faults s) (checks s) (agree s)).0 a.0) ih.0, ap left (sym (accepted-inj b.2)) ∙ left-more s b.0 ∙ ih.1)
    where
      earlier : None (faults s) → ((q : ℕ) → q < n → None (faults (after next q (next s)))) → (q : ℕ) → q < suc n → None (faults (after next q s))
      earlier h f zero l = h
      earlier h f (suc q) l = f q (omega (arith, l))

  -- 13 behind a run from index 0 on
  module _ {B : Type 0} (says : A → B) (n : ℕ) (s : List ℕ) (m k : ℕ) where
    abbrev pub Behind : Type 0
    Behind =
        ((k < n) × InTurn faults next s m k)
        ⊎ (((j : ℕ) → j < n → None (faults (after next j s))) × (0 < length (after next n s)) × (m ≡ 13) × (k ≡ 0))

    pub run-13 : ((run 0 n s then λ q. judge 0 ((eqb (length (left q)) 0, 13) ∷ []) (Ok (says q))) ≡ refuse m k) ↔ Behind
    run-13 = go (run 0 n s) refl
      where
        go : (r : Result A) → run 0 n s ≡ r → ((r then λ q. judge 0 ((eqb (length (left q)) 0, 13) ∷ []) (Ok (says q))) ≡ refuse m k) ↔ Behind
        go (Err y) e = (λ h. inl (first ((run-first 0 n s m k).0 (e ∙ same h))), back)
          where
            same : ◌≡◌ {A = Result B} (Err y) (refuse m k) → ◌≡◌ {A = Result A} (Err y) (refuse m k)
            same h = let q = refuse-inj {A = B} {n = y.number} {i = y.index} h in ap₂ (λ (u v : ℕ). refuse u v) q.0 q.1

            first : Turns 0 n s m k → (k < n) × InTurn faults next s m k
            first x = let z : x.0 ≡ k = omega (arith, x.1) in subst (λ (j : ℕ). (j < n) × InTurn faults next s m j) z (x.2, x.3)

            back : Behind → ◌≡◌ {A = Result B} (Err y) (refuse m k)
            back (inl x) =
                let q = refuse-inj {A = A} {n = y.number} {i = y.index} (sym e ∙ (run-first 0 n s m k).1 (k, omega arith, x.0, x.1)) in
                ap₂ (λ (u v : ℕ). refuse u v) q.0 q.1
            back (inr x) = absurd (not-refused (sym (run_ends 0 n s x.0).1 ∙ e))
        go (Ok q) e =
            let f = judge-first 0 ((13, 0 < length (left q)) ∷ []) ((eqb (length (left q)) 0, 13) ∷ []) (refl, some, λ h. tt) (Ok (says q)) m k in
            (λ h. inr (to (f.0 h)), λ x. f.1 (from x))
          where
            some : (eqb (length (left q)) 0 ≡ false) ↔ (0 < length (left q))
            some = (λ h. positive (length (left q)) (eqb-false (length (left q)) 0 h), λ l. ne_eqb (length (left q)) 0 (λ z. omega (arith, l)))
              where
                positive : (x : ℕ) → (x ≡ 0 → ⊥) → 0 < x
                positive zero h = absurd (h refl)
                positive (suc x) h = omega arith

            to : (First m ((13, 0 < length (left q)) ∷ []) × (k ≡ 0)) ⊎ (None ((13, 0 < length (left q)) ∷ []) × (Ok (says q) ≡ refuse m k))
                → ((j : ℕ) → j < n → None (faults (after next j s))) × (0 < length (after next n s)) × (m ≡ 13) × (k ≡ 0)
            to (inl (inl x, z)) =
                let w = run-taken 0 n s q e in
                (w.0, subst (λ (l : List ℕ). 0 < length l) w.1 x.0, sym x.1, z)
            to (inl (inr x, z)) = absurd x.1
            to (inr x) = absurd (not-refused x.1)

            from : Behind → (First m ((13, 0 < length (left q)) ∷ []) × (k ≡ 0)) ⊎ (None ((13, 0 < length (left q)) ∷ []) × (Ok (says q) ≡ refuse m k))
            from (inl x) = absurd (not-refused (sym e ∙ (run-first 0 n s m k).1 (k, omega arith, x.0, x.1)))
            from (inr x) = inl (inl (subst (λ (l : List ℕ). 0 < length l) (sym (run-taken 0 n s q e).1) x.1, sym x.2), x.3)

-- 14 behind an answer that needs so many cells
pub room-14 : {A T : Type 0} (x : Result A) (cells : A → ℕ) (room n i : ℕ) → (x ≡ refuse n i) ↔ T
    → ((x then λ k. judge 0 ((leb (cells k) room, 14) ∷ []) (Ok k)) ≡ refuse n i)
    ↔ (T ⊎ ((k : A) × (x ≡ Ok k) × (room < cells k) × (n ≡ 14) × (i ≡ 0)))
room-14 {A} {T} (Err y) cells room n i h = (λ e. inl (h.0 e), back)
  where
    back : T ⊎ ((k : A) × (Err y ≡ Ok k) × (room < cells k) × (n ≡ 14) × (i ≡ 0)) → ◌≡◌ {A = Result A} (Err y) (refuse n i)
    back (inl x) = h.1 x
    back (inr x) = absurd (not-refused (sym x.1))
room-14 {A} {T} (Ok a) cells room n i h =
    let f = judge-first 0 ((14, room < cells a) ∷ []) ((leb (cells a) room, 14) ∷ []) (refl, leb-fails (cells a) room, λ p. tt) (Ok a) n i in
    (λ e. inr (to (f.0 e)), λ x. f.1 (from x))
  where
    to : (First n ((14, room < cells a) ∷ []) × (i ≡ 0)) ⊎ (None ((14, room < cells a) ∷ []) × (Ok a ≡ refuse n i))
        → (k : A) × (◌≡◌ {A = Result A} (Ok a) (Ok k)) × (room < cells k) × (n ≡ 14) × (i ≡ 0)
    to (inl (inl x, e)) = (a, refl, x.0, sym x.1, e)
    to (inl (inr x, e)) = absurd x.1
    to (inr x) = absurd (not-refused x.1)

    from : T ⊎ ((k : A) × (◌≡◌ {A = Result A} (Ok a) (Ok k)) × (room < cells k) × (n ≡ 14) × (i ≡ 0))
        → (First n ((14, room < cells a) ∷ []) × (i ≡ 0)) ⊎ (None ((14, room < cells a) ∷ []) × (Ok a ≡ refuse n i))
    from (inl x) = absurd (not-refused (h.1 x))
    from (inr x) = inl (inl (subst (λ (k : A). room < cells k) (sym (accepted-inj x.1)) x.2, sym x.3), x.4)

-- the three stages, and what is refused behind them
pub staged-first : {A T : Type 0} (L : Layout) (s : List ℕ) (tail : Result A) (n i : ℕ) → (tail ≡ refuse n i) ↔ T
    → (judge 0 (header_checks s) (judge 0 (padding_checks L s) (judge 0 (payload_checks L s) tail)) ≡ refuse n i)
    ↔ ((First n (front_faults L s) × (i ≡ 0)) ⊎ (None (front_faults L s) × T))
staged-first {A} {T} L s tail n i behind =
    let f = judge-first 0 (front_faults L s) (front_checks L s) (front-agree L s) tail n i in
    let one : judge 0 (header_checks s) (judge 0 (padding_checks L s) (judge 0 (payload_checks L s) tail)) ≡ judge 0 (front_checks L s) tail =
    ap (judge 0 (header_checks s)) (judge-append 0 (padding_checks L s) (payload_checks L s) tail) ∙ judge-append 0 (header_checks s) (padding_checks L s ++ payload_checks L s) tail in
    (λ e. to (f.0 (sym one ∙ e)), λ x. one ∙ f.1 (from x))
  where
    to : (First n (front_faults L s) × (i ≡ 0)) ⊎ (None (front_faults L s) × (tail ≡ refuse n i)) → (First n (front_faults L s) × (i ≡ 0)) ⊎ (None (front_faults L s) × T)
    to (inl x) = inl x
    to (inr x) = inr (x.0, behind.0 x.1)

    from : (First n (front_faults L s) × (i ≡ 0)) ⊎ (None (front_faults L s) × T) → (First n (front_faults L s) × (i ≡ 0)) ⊎ (None (front_faults L s) × (tail ≡ refuse n i))
    from (inl x) = inl x
    from (inr x) = inr (x.0, behind.1 x.1)

-- THE ORDER OF READING: octets are refused with `n` and `i` exactly where 01's table, taken in its order, gives them
pub refused-iff : (L : Layout) (s : List ℕ) (n i : ℕ) → (read_content L s ≡ refuse n i) ↔ ReadRefused L s n i
unfolding read_content read_packet read_records read_run read_anc
refused-iff L s n i =
    let run =
    run-13 (anc_faults L) (anc_checks L) (anc-agree L) (behind L) (read_run L) (λ s. ([], s)) (λ s q. (anc_record L s ∷ q.0, q.1)) (λ q. q.1) (λ i s. refl)
    (λ i n s. judge-behind i (anc_checks L s) (Ok (anc_record L s)) _) (λ s. refl) (λ s q. refl) (λ q. q.0) (anc_count s) (anc_region L s) n i in
    let whole = then-first (read_packet L s) content n i in
    let records = then-first (read_records L s) (λ rs. packet_read L rs s) n i in
    let staged =
    staged-first L s (read_records L s then λ rs. Ok (packet_read L rs s)) n i (λ e. run.0 (records.0 e), λ x. records.1 (run.1 x)) in
    (λ e. staged.0 (whole.0 e), λ x. whole.1 (staged.1 x))

-- 14 comes last, with index 0: "lent list shorter than the records need"
pub into-iff : (L : Layout) (s : List ℕ) (room n i : ℕ)
    → (read_into L s room ≡ refuse n i) ↔ RefusedInto L s room n i
unfolding read_into
into-iff L s room n i = room-14 (read_content L s) (λ k. length (list_of k.records)) room n i (refused-iff L s n i)
