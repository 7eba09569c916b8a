-- `write` writes parameters as a text.
-- Each return knows the tests before it, in the order of the definition; the text is the pairs' items, and the code's behind them.
use Rattle.std.specs.Prelude.{Option}
use Rattle.wire_spec.specs.declared.count.OctetCount.{OctetCount}
use mathlib.Core.Path.{◌≡◌, ap, sym, subst, ◌∙◌}
use mathlib.Core.List.{List, ◌++◌}
use Prim.Native.Nat.{ℕ, ◌+◌, ◌*◌, ◌%◌, ◌<◌, ◌≤◌}
use native.Mathlib.Omega.{arith}
use lib.ListN.{length, length-append}
use borrow.Author.Tests.{le-leb, lt-leb, eq-eqb, ne_eqb}
use Rattle.wire_spec.specs.Result.{Result, Ok, refuse}
use Rattle.wire_spec.specs.Written.{written_of, octets_after}
use Rattle.text.specs.Put.{Put}
use Rattle.text.proofs.PutLaws.{both, same}
use Rattle.sdp_spec.specs.Text.{max_pairs}
use Rattle.sdp_spec.specs.Grammar.{Content}
use Rattle.sdp_spec.specs.Writing.{pair_texts, code_texts, joined, text_of, write_text}
use Rattle.sdp_writer.specs.Parts.{following}
use Rattle.sdp_writer.proofs.TextLaws.{room-behind, joined-append}
use Rattle.sdp_writer.proofs.write.Goals as goal

-- the answer, and the octets of the text
abbrev Answers : Result OctetCount → Content → List ℕ → List ℕ → Type 0
Answers w k new old = (w ≡ written_of (write_text k (length old))) × (new ≡ octets_after (write_text k (length old)) old)

answers : (k : Content) (old : List ℕ) (v : Result (List ℕ)) → write_text k (length old) ≡ v → Answers (written_of v) k (octets_after v old) old
answers k old v e = (ap written_of (sym e), ap (λ (w : Result (List ℕ)). octets_after w old) (sym e))

put-answers : (k : Content) (old new : List ℕ) (n : ℕ) → Put old 0 (text_of k) new n → write_text k (length old) ≡ Ok (text_of k)
    → Answers (Ok (record { 0 = n })) k new old
put-answers k old new n p e =
    let a = answers k old (Ok (text_of k)) e in
    let size : n ≡ length (text_of k) = omega (arith, p.behind) in
    (ap (λ (m : ℕ). Ok (record { 0 = m })) size ∙ a.0, p.octets ∙ a.1)

module _ (l : List ℕ) (v : Option ℕ) (old : List ℕ) where
  abbrev Text : Content
  Text = record { pairs = l; vpid = v }

  odd : (length l % 2 ≡ 0 → ⊥) → write_text Text (length old) ≡ refuse 41 0
  unfolding write_text
  odd h = rw (ne_eqb (length l % 2) 0 h)

  module _ (even : length l % 2 ≡ 0) where
    many : 2 * max_pairs < length l → write_text Text (length old) ≡ refuse 43 0
    unfolding write_text
    many h = rw (eq-eqb (length l % 2) 0 even, lt-leb (length l) (2 * max_pairs) h)

    module _ (few : length l ≤ 2 * max_pairs) where
      small : length old < length (text_of Text) → write_text Text (length old) ≡ refuse 44 0
      unfolding write_text
      small h = rw (eq-eqb (length l % 2) 0 even, le-leb (length l) (2 * max_pairs) few, lt-leb (length (text_of Text)) (length old) h)

      fits : length (text_of Text) ≤ length old → write_text Text (length old) ≡ Ok (text_of Text)
      unfolding write_text
      fits h = rw (eq-eqb (length l % 2) 0 even, le-leb (length l) (2 * max_pairs) few, le-leb (length (text_of Text)) (length old) h)

  -- the text is the pairs' items, and the VPID code's behind them
  abbrev Pairs : List ℕ
  Pairs = joined (pair_texts l)

  module _ (room : length (text_of Text) ≤ length old) where
    all_fit : length Pairs + length (following (length Pairs) (code_texts v)) ≤ length old
    all_fit = omega (arith, ap length (joined-append l (code_texts v)) ∙ length-append Pairs (following (length Pairs) (code_texts v)))

    pairs-fit : length Pairs ≤ length old
    pairs-fit = omega (arith, all_fit)

    module _ (to : ℕ) (now : List ℕ) (first : Put old 0 Pairs now to) where
      end : to ≡ length Pairs
      end = omega (arith, first.behind)

      vpid-fits : to + length (following to (code_texts v)) ≤ length now
      vpid-fits =
          room-behind (length (following to (code_texts v)))
          (omega (arith, all_fit, ap (λ (m : ℕ). length (following m (code_texts v))) end)) first

      all-put : (new : List ℕ) (n : ℕ) → Put now to (following to (code_texts v)) new n → Put old 0 (text_of Text) new n
      all-put new n second =
          same (ap (λ (m : ℕ). Pairs ++ following m (code_texts v)) end ∙ sym (joined-append l (code_texts v))) (both first second)

pub returns-then-pairs-ne0 : goal.returns-then-pairs-ne0
returns-then-pairs-ne0 c = let a = c.args in
    let e = odd a.pairs.now a.vpid a.out.now c.if-pairs-ne0.true in
    let both = answers _ a.out.now _ e in record { value = c.refuse.ensures ∙ both.0; out_after = both.1 }

pub returns-then-pairs-gt-MAX_PAIRS : goal.returns-then-pairs-gt-MAX_PAIRS
returns-then-pairs-gt-MAX_PAIRS c = let a = c.args in
    let e = many a.pairs.now a.vpid a.out.now c.if-pairs-ne0.false (omega (arith, c.if-pairs-gt-MAX_PAIRS.true)) in
    let both = answers _ a.out.now _ e in record { value = c.refuse-then-pairs-gt-MAX_PAIRS.ensures ∙ both.0; out_after = both.1 }

pub returns-then-out-size : goal.returns-then-out-size
returns-then-out-size c = let a = c.args in
    let few : length a.pairs.now ≤ 2 * max_pairs = omega (arith, c.if-pairs-gt-MAX_PAIRS.false, c.if-pairs-ne0.false) in
    let short = subst (λ (n : ℕ). length a.out.now < n) c.text_size-size.ensures c.if-out-size.true in
    let e = small a.pairs.now a.vpid a.out.now c.if-pairs-ne0.false few short in
    let both = answers _ a.out.now _ e in record { value = c.refuse-then-out-size.ensures ∙ both.0; out_after = both.1 }

pub put_pairs-to-requires : goal.put_pairs-to-requires
put_pairs-to-requires c = let a = c.args in
    let room = subst (λ (n : ℕ). n ≤ length a.out.now) c.text_size-size.ensures c.if-out-size.false in
    record { pairs_len = c.if-pairs-ne0.false; pairs_in_bounds = pairs-fit a.pairs.now a.vpid a.out.now room }

pub put_vpid-end-requires : goal.put_vpid-end-requires
put_vpid-end-requires c = let a = c.args in
    let room = subst (λ (n : ℕ). n ≤ length a.out.now) c.text_size-size.ensures c.if-out-size.false in
    vpid-fits a.pairs.now a.vpid a.out.now room _ _ c.put_pairs-to.ensures

pub returns : goal.returns
returns c = let a = c.args in
    let within : length a.pairs.now ≤ 2 * max_pairs = omega (arith, c.if-pairs-gt-MAX_PAIRS.false, c.if-pairs-ne0.false) in
    let room = subst (λ (n : ℕ). n ≤ length a.out.now) c.text_size-size.ensures c.if-out-size.false in
    let put = all-put a.pairs.now a.vpid a.out.now room _ _ c.put_pairs-to.ensures _ _ c.put_vpid-end.ensures in
    let even = c.if-pairs-ne0.false in let both = put-answers _ a.out.now _ _ put (fits a.pairs.now a.vpid a.out.now even within room) in record { value = both.0; out_after = both.1 }
