-- `check_packet` gives the verdict on one packet.
-- Each return knows the tests before it, in the order of the definition.
use Rattle.wire_spec.specs.Result.{Ok}
use mathlib.Core.Path.{◌≡◌, ap, sym, ◌∙◌}
use mathlib.Core.Bool.{Bool, true, false, not}
use mathlib.Core.List.{List}
use Prim.Native.Nat.{ℕ, ◌+◌, ◌-◌}
use native.Mathlib.Omega.{arith}
use borrow.Author.Tests.{le-leb, lt-leb}
use lib.Dec.{leb}
use lib.ListN.{length, take, drop}
use Rattle.wire_spec.specs.Anc.{are_header_words}
use Rattle.wire_spec.specs.Words.{all_clear}
use Rattle.sdi_spec.specs.Packets.{line_count, user_words, packet_checks}
use Rattle.sdi_spec.proofs.CodeLaws.{passed, failed}
use Rattle.sdi_check.proofs.check.check_packet.Goals as goal

pub returns-then-words-lt-FIXED_WORDS : goal.returns-then-words-lt-FIXED_WORDS
unfolding packet_checks
returns-then-words-lt-FIXED_WORDS c = rw (c.refuse_at.ensures, lt-leb _ _ c.if-words-lt-FIXED_WORDS.true)

pub returns-then-not-header_words_ok : goal.returns-then-not-header_words_ok
unfolding packet_checks
returns-then-not-header_words_ok c = let words : List ℕ = c.args.words.now in
    let long : leb 4 (length (words)) ≡ true = le-leb _ _ c.if-words-lt-FIXED_WORDS.false in
    rw (c.refuse_at-then-not-header_words_ok.ensures, long, failed _ _ c.header_words_ok.ensures (ap not c.if-not-header_words_ok.true))

pub returns-then-words-n : goal.returns-then-words-n
unfolding packet_checks
returns-then-words-n c = let words : List ℕ = c.args.words.now in
    let long : leb 4 (length (words)) ≡ true = le-leb _ _ c.if-words-lt-FIXED_WORDS.false in
    let headed : are_header_words (take 3 (words)) ≡ true = passed _ _ c.header_words_ok.ensures (ap not c.if-not-header_words_ok.false) in
    let sized : (b : Bool) → let t = words in leb (4 + c.data_count-n.result) (length t) ≡ b → leb (4 + line_count t) (length t) ≡ b = λ b h. ap (λ (n : ℕ). leb (4 + n) (length (words))) (sym c.data_count-n.ensures) ∙ h in
    rw (c.refuse_at-then-words-n.ensures, long, headed, sized false (lt-leb _ _ c.if-words-n.true))

pub returns-then-not-words_clear : goal.returns-then-not-words_clear
unfolding packet_checks
returns-then-not-words_clear c = let words : List ℕ = c.args.words.now in
    let long : leb 4 (length (words)) ≡ true = le-leb _ _ c.if-words-lt-FIXED_WORDS.false in
    let headed : are_header_words (take 3 (words)) ≡ true = passed _ _ c.header_words_ok.ensures (ap not c.if-not-header_words_ok.false) in
    let sized : (b : Bool) → let t = words in leb (4 + c.data_count-n.result) (length t) ≡ b → leb (4 + line_count t) (length t) ≡ b = λ b h. ap (λ (n : ℕ). leb (4 + n) (length (words))) (sym c.data_count-n.ensures) ∙ h in
    let inside : let t = words in leb (4 + line_count t) (length t) ≡ true = sized true (le-leb _ _ c.if-words-n.false) in
    let tested : c.words_clear.result ≡ all_clear (user_words (words)) = let t = words in
    let n = c.data_count-n.result in
    let k : 3 + n - 3 ≡ n = omega arith in
    c.words_clear.ensures ∙ ap (λ (m : ℕ). all_clear (take m (drop 3 t))) (k ∙ c.data_count-n.ensures) in
    rw (c.refuse_at-then-not-words_clear.ensures, long, headed, inside, failed _ _ (tested) (ap not c.if-not-words_clear.true))

pub returns-then-not-checksum_ok : goal.returns-then-not-checksum_ok
unfolding packet_checks
returns-then-not-checksum_ok c = let words : List ℕ = c.args.words.now in
    let long : leb 4 (length (words)) ≡ true = le-leb _ _ c.if-words-lt-FIXED_WORDS.false in
    let headed : are_header_words (take 3 (words)) ≡ true = passed _ _ c.header_words_ok.ensures (ap not c.if-not-header_words_ok.false) in
    let sized : (b : Bool) → let t = words in leb (4 + c.data_count-n.result) (length t) ≡ b → leb (4 + line_count t) (length t) ≡ b = λ b h. ap (λ (n : ℕ). leb (4 + n) (length (words))) (sym c.data_count-n.ensures) ∙ h in
    let inside : let t = words in leb (4 + line_count t) (length t) ≡ true = sized true (le-leb _ _ c.if-words-n.false) in
    let tested : c.words_clear.result ≡ all_clear (user_words (words)) = let t = words in
    let n = c.data_count-n.result in
    let k : 3 + n - 3 ≡ n = omega arith in
    c.words_clear.ensures ∙ ap (λ (m : ℕ). all_clear (take m (drop 3 t))) (k ∙ c.data_count-n.ensures) in
    rw (
      c.refuse_at-then-not-checksum_ok.ensures,
      long,
      headed,
      inside,
      passed _ _ (tested) (ap not c.if-not-words_clear.false),
      failed _ _ c.checksum_ok.ensures (ap not c.if-not-checksum_ok.true),
    )

pub returns : goal.returns
unfolding packet_checks
returns c = let words : List ℕ = c.args.words.now in
    let long : leb 4 (length (words)) ≡ true = le-leb _ _ c.if-words-lt-FIXED_WORDS.false in
    let headed : are_header_words (take 3 (words)) ≡ true = passed _ _ c.header_words_ok.ensures (ap not c.if-not-header_words_ok.false) in
    let sized : (b : Bool) → let t = words in leb (4 + c.data_count-n.result) (length t) ≡ b → leb (4 + line_count t) (length t) ≡ b = λ b h. ap (λ (n : ℕ). leb (4 + n) (length (words))) (sym c.data_count-n.ensures) ∙ h in
    let inside : let t = words in leb (4 + line_count t) (length t) ≡ true = sized true (le-leb _ _ c.if-words-n.false) in
    let tested : c.words_clear.result ≡ all_clear (user_words (words)) = let t = words in
    let n = c.data_count-n.result in
    let k : 3 + n - 3 ≡ n = omega arith in
    c.words_clear.ensures ∙ ap (λ (m : ℕ). all_clear (take m (drop 3 t))) (k ∙ c.data_count-n.ensures) in
    rw (long, headed, inside, passed _ _ (tested) (ap not c.if-not-words_clear.false), passed _ _ c.checksum_ok.ensures (ap not c.if-not-checksum_ok.false))
    (ap Ok c.data_count-n.ensures)
