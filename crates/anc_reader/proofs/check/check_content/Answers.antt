-- `check_content` gives the verdict on the content of a packet that is all there and passed 10.
-- Each return knows the tests before it, in the order of the definition.
use Rattle.wire_spec.specs.Result.{Ok}
use mathlib.Core.Path.{◌≡◌, ap, sym, ◌∙◌}
use mathlib.Core.Bool.{true, not}
use Prim.Native.Nat.{ℕ, ◌+◌, ◌*◌}
use native.Mathlib.Omega.{arith}
use Rattle.wire_spec.specs.Words.{word_bits}
use Rattle.wire_spec.specs.Anc.{r_ok, words_ok, checksum_ok, alignment_ok, anc_checks}
use Rattle.wire_spec.proofs.SizeLaws.{least_size_lem}
use Rattle.anc_reader.specs.Tests.{zero_bits}
use Rattle.anc_reader.proofs.PacketLaws.{passed, failed, length-words, There, there, clear-test, checksum-test, alignment-test}
use Rattle.anc_reader.proofs.check.check_content.Goals as goal

pub r_ok-requires : goal.r_ok-requires
r_ok-requires c = omega (arith, c.requires.octets_value_2, least_size_lem c.args.layout c.args.words.0)

pub returns-then-not-r_ok : goal.returns-then-not-r_ok
unfolding anc_checks
returns-then-not-r_ok c = rw (c.refuse_at.ensures, failed _ _ c.r_ok.ensures (ap not c.if-not-r_ok.true))

pub scan_packet-scan-requires : goal.scan_packet-scan-requires
scan_packet-scan-requires c = let all : let a = c.args in There a.layout a.octets.now a.words.0 a.size.0 = let a = c.args in there a.layout a.octets.now a.words.0 a.size.0 (omega arith) c.requires.octets_value_2.1 c.requires.octets_value_2.2 in
    let t = all in
    (t.header, record { even = t.words.even; inside = omega (arith, t.words.inside); near = omega (arith, t.words.near) })

pub returns-then-not-scan : goal.returns-then-not-scan
unfolding anc_checks
returns-then-not-scan c = let quiet : r_ok c.args.layout c.args.octets.now ≡ true = passed _ _ c.r_ok.ensures (ap not c.if-not-r_ok.false) in
    let clears : c.scan_packet-scan.result.clear ≡ words_ok c.args.layout c.args.octets.now = let a = c.args in
    c.scan_packet-scan.ensures.clear-is ∙ clear-test a.layout a.octets.now a.words.0 c.requires.octets_value_2.0 c.requires.octets_value in
    rw (c.refuse_at-then-not-scan.ensures, quiet, failed _ _ (clears) c.if-not-scan.true)

pub checksum_ok-requires : goal.checksum_ok-requires
checksum_ok-requires c = let all : let a = c.args in There a.layout a.octets.now a.words.0 a.size.0 = let a = c.args in there a.layout a.octets.now a.words.0 a.size.0 (omega arith) c.requires.octets_value_2.1 c.requires.octets_value_2.2 in
    (all).words

pub returns-then-not-checksum_ok : goal.returns-then-not-checksum_ok
unfolding anc_checks
returns-then-not-checksum_ok c = let quiet : r_ok c.args.layout c.args.octets.now ≡ true = passed _ _ c.r_ok.ensures (ap not c.if-not-r_ok.false) in
    let clears : c.scan_packet-scan.result.clear ≡ words_ok c.args.layout c.args.octets.now = let a = c.args in
    c.scan_packet-scan.ensures.clear-is ∙ clear-test a.layout a.octets.now a.words.0 c.requires.octets_value_2.0 c.requires.octets_value in
    let clear : words_ok c.args.layout c.args.octets.now ≡ true = passed _ _ (clears) c.if-not-scan.false in
    let sums : c.checksum_ok.result ≡ checksum_ok c.args.layout c.args.octets.now = let a = c.args in
    c.checksum_ok.ensures ∙ checksum-test a.layout a.octets.now a.words.0 c.requires.octets_value_2.0 _ c.scan_packet-scan.ensures.sum_is in
    rw (c.refuse_at-then-not-checksum_ok.ensures, quiet, clear, failed _ _ (sums) (ap not c.if-not-checksum_ok.true))

pub overflow_add-words_at : goal.overflow_add-words_at
overflow_add-words_at c = let all : let a = c.args in There a.layout a.octets.now a.words.0 a.size.0 = let a = c.args in there a.layout a.octets.now a.words.0 a.size.0 (omega arith) c.requires.octets_value_2.1 c.requires.octets_value_2.2 in
    omega (arith, (all).words.near, c.words_at.ensures)

pub zero_end-requires : goal.zero_end-requires
zero_end-requires c = let all : let a = c.args in There a.layout a.octets.now a.words.0 a.size.0 = let a = c.args in there a.layout a.octets.now a.words.0 a.size.0 (omega arith) c.requires.octets_value_2.1 c.requires.octets_value_2.2 in
    let t = all in
    let p = c.requires.octets_value_2 in
    omega (arith, t.end, t.words.near, c.words_at.ensures)

pub returns-then-not-zero_end : goal.returns-then-not-zero_end
unfolding anc_checks
returns-then-not-zero_end c = let quiet : r_ok c.args.layout c.args.octets.now ≡ true = passed _ _ c.r_ok.ensures (ap not c.if-not-r_ok.false) in
    let clears : c.scan_packet-scan.result.clear ≡ words_ok c.args.layout c.args.octets.now = let a = c.args in
    c.scan_packet-scan.ensures.clear-is ∙ clear-test a.layout a.octets.now a.words.0 c.requires.octets_value_2.0 c.requires.octets_value in
    let clear : words_ok c.args.layout c.args.octets.now ≡ true = passed _ _ (clears) c.if-not-scan.false in
    let sums : c.checksum_ok.result ≡ checksum_ok c.args.layout c.args.octets.now = let a = c.args in
    c.checksum_ok.ensures ∙ checksum-test a.layout a.octets.now a.words.0 c.requires.octets_value_2.0 _ c.scan_packet-scan.ensures.sum_is in
    let summed : checksum_ok c.args.layout c.args.octets.now ≡ true = passed _ _ (sums) (ap not c.if-not-checksum_ok.false) in
    let ends : c.zero_end.result ≡ alignment_ok c.args.layout c.args.octets.now = let a = c.args in
    c.zero_end.ensures
    ∙ ap (λ (at : ℕ). zero_bits a.octets.now (at + word_bits * (a.words.0 + 1)) (8 * a.size.0)) c.words_at.ensures
    ∙ alignment-test a.layout a.octets.now a.words.0 c.requires.octets_value_2.0 a.size.0 c.requires.octets_value_2.1 in
    rw (c.refuse_at-then-not-zero_end.ensures, quiet, clear, summed, failed _ _ (ends) (ap not c.if-not-zero_end.true))

pub returns : goal.returns
unfolding anc_checks
returns c = let quiet : r_ok c.args.layout c.args.octets.now ≡ true = passed _ _ c.r_ok.ensures (ap not c.if-not-r_ok.false) in
    let clears : c.scan_packet-scan.result.clear ≡ words_ok c.args.layout c.args.octets.now = let a = c.args in
    c.scan_packet-scan.ensures.clear-is ∙ clear-test a.layout a.octets.now a.words.0 c.requires.octets_value_2.0 c.requires.octets_value in
    let clear : words_ok c.args.layout c.args.octets.now ≡ true = passed _ _ (clears) c.if-not-scan.false in
    let sums : c.checksum_ok.result ≡ checksum_ok c.args.layout c.args.octets.now = let a = c.args in
    c.checksum_ok.ensures ∙ checksum-test a.layout a.octets.now a.words.0 c.requires.octets_value_2.0 _ c.scan_packet-scan.ensures.sum_is in
    let summed : checksum_ok c.args.layout c.args.octets.now ≡ true = passed _ _ (sums) (ap not c.if-not-checksum_ok.false) in
    let ends : c.zero_end.result ≡ alignment_ok c.args.layout c.args.octets.now = let a = c.args in
    c.zero_end.ensures
    ∙ ap (λ (at : ℕ). zero_bits a.octets.now (at + word_bits * (a.words.0 + 1)) (8 * a.size.0)) c.words_at.ensures
    ∙ alignment-test a.layout a.octets.now a.words.0 c.requires.octets_value_2.0 a.size.0 c.requires.octets_value_2.1 in
    rw (quiet, clear, summed, passed _ _ (ends) (ap not c.if-not-zero_end.false))
    (ap (λ (n : ℕ). Ok (record { 0 = n })) (sym (length-words c.args.layout c.args.octets.now ∙ c.requires.octets_value_2.0)))
