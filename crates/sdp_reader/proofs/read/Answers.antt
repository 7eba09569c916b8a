-- `read` reads the pairs of a text.
-- Each return knows the tests before it, in the order of the definition; the pairs counted are those written.
use mathlib.Core.Path.{◌≡◌, ap, sym, ◌∙◌}
use mathlib.Core.List.{List}
use Prim.Native.Nat.{ℕ, ◌*◌, ◌/◌, ◌<◌, ◌≤◌}
use native.Mathlib.Omega.{arith}
use lib.ListN.{length}
use borrow.Author.Tests.{le-leb, lt-leb}
use Rattle.wire_spec.specs.declared.refusal.Refusal.{Refusal}
use Rattle.wire_spec.specs.Bits.{overwrite}
use Rattle.wire_spec.specs.Result.{Result, Err, Ok, refuse}
use Rattle.sdp_spec.specs.declared.parameters.Parameters.{Parameters}
use Rattle.sdp_spec.specs.Text.{max_text}
use Rattle.sdp_spec.specs.Grammar.{Content, pairs_of}
use Rattle.sdp_spec.specs.Reading.{items, gather, none, read_text, read_into}
use Rattle.sdp_spec.proofs.GatherIff.{gather-adds}
use Rattle.sdp_reader.specs.Answers.{content_reading, content_pairs}
use Rattle.std.proofs.lemmas.Result.{err_from_is_err_and}
use Rattle.sdp_reader.proofs.read.Goals as goal

-- the answer, and the octets of the pairs
abbrev Answers : Result Parameters → List ℕ → List ℕ → List ℕ → Type 0
Answers r s new old = (r ≡ content_reading (read_into s (length old))) × (new ≡ overwrite (content_pairs (read_into s (length old))) old)

answers : (s old : List ℕ) (v : Result Content) → read_into s (length old) ≡ v → Answers (content_reading v) s (overwrite (content_pairs v) old) old
answers s old v e = (ap content_reading (sym e), ap (λ (w : Result Content). overwrite (content_pairs w) old) (sym e))

too_long : (s old : List ℕ) → max_text < length s → read_into s (length old) ≡ refuse 40 0
unfolding read_into read_text
too_long s old h = rw (lt-leb (length s) max_text h)

module _ (s old : List ℕ) (short : length s ≤ max_text) where
  offends : (x : Refusal) → gather 0 none (items s) ≡ Err x → read_into s (length old) ≡ Err x
  unfolding read_into read_text
  offends x e = rw (le-leb (length s) max_text short, e)

  module _ (p : Parameters) (accepts : gather 0 none (items s) ≡ Ok p) where
    count : 2 * p.pairs ≡ length (pairs_of (items s))
    count = let a = (gather-adds 0 none (items s) p (omega arith) accepts).pairs in omega arith

    no_room : length old / 2 < p.pairs → read_into s (length old) ≡ refuse 44 0
    unfolding read_into read_text
    no_room h = rw (le-leb (length s) max_text short, accepts, lt-leb (length (pairs_of (items s))) (length old) (omega (arith, count)))

    fits : p.pairs ≤ length old / 2 → length (pairs_of (items s)) ≤ length old
    fits h = omega (arith, count)

    content : p.pairs ≤ length old / 2 → read_into s (length old) ≡ Ok (record { pairs = pairs_of (items s); vpid = p.vpid })
    unfolding read_into read_text
    content h = rw (le-leb (length s) max_text short, accepts, le-leb (length (pairs_of (items s))) (length old) (fits h))

    counted : Ok p ≡ content_reading (Ok (record { pairs = pairs_of (items s); vpid = p.vpid }))
    counted = let n : p.pairs ≡ length (pairs_of (items s)) / 2 = omega (arith, count) in ap (λ (n : ℕ). Ok (record { pairs = n; vpid = p.vpid })) n

    all : p.pairs ≤ length old / 2 → (new : List ℕ) → new ≡ overwrite (pairs_of (items s)) old → Answers (Ok p) s new old
    all h new e = let a = answers s old _ (content h) in (counted ∙ a.0, e ∙ a.1)

pub returns-then-text-gt-MAX_TEXT : goal.returns-then-text-gt-MAX_TEXT
returns-then-text-gt-MAX_TEXT c = let both = answers c.args.text.now c.args.pairs.now _ (too_long c.args.text.now c.args.pairs.now c.if-text-gt-MAX_TEXT.true) in
    record { value = c.refuse.ensures ∙ both.0; pairs_after = both.1 }

pub returns-in_err-parameters : goal.returns-in_err-parameters
returns-in_err-parameters c =
    let p = err_from_is_err_and c.from_residual.result c.from_residual.ensures.1 in
    let refused = sym c.check_items.ensures ∙ c.in_err-parameters.was in
    let old = c.args.pairs.now in
    let both = answers c.args.text.now old _ (offends c.args.text.now old c.if-text-gt-MAX_TEXT.false _ refused) in
    record { value = rw (p.1, p.2) both.0; pairs_after = both.1 }

pub returns-then-pairs-parameters : goal.returns-then-pairs-parameters
returns-then-pairs-parameters c = let both = answers c.args.text.now c.args.pairs.now _ (no_room c.args.text.now c.args.pairs.now c.if-text-gt-MAX_TEXT.false _ (sym c.check_items.ensures ∙ c.in_ok-parameters.was) c.if-pairs-parameters.true) in
    record { value = c.refuse-then-pairs-parameters.ensures ∙ both.0; pairs_after = both.1 }

pub store_pairs-requires : goal.store_pairs-requires
store_pairs-requires c = fits c.args.text.now c.args.pairs.now c.if-text-gt-MAX_TEXT.false _ (sym c.check_items.ensures ∙ c.in_ok-parameters.was) c.if-pairs-parameters.false

pub returns : goal.returns
returns c = let both = all c.args.text.now c.args.pairs.now c.if-text-gt-MAX_TEXT.false _ (sym c.check_items.ensures ∙ c.in_ok-parameters.was) c.if-pairs-parameters.false _ c.store_pairs.ensures in record { value = both.0; pairs_after = both.1 }
