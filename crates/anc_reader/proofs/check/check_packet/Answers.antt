-- `check_packet` gives the verdict on one packet.
-- Each return knows the tests before it, in the order of the definition.
use native.Mathlib.Omega.{arith}
use mathlib.Core.Path.{◌≡◌, ap, sym, subst, ◌∙◌}
use mathlib.Core.Bool.{true, not}
use Prim.Native.Nat.{ℕ, ◌+◌, ◌*◌, ◌%◌, ◌<◌, ◌≤◌}
use borrow.Author.Tests.{le-leb, lt-leb}
use lib.Dec.{leb}
use lib.ListN.{length}
use Rattle.wire_spec.specs.Layout.{least_size}
use Rattle.wire_spec.specs.Bits.{bits_at, row_at}
use Rattle.wire_spec.specs.Words.{word_bits, header_numbers}
use Rattle.wire_spec.specs.Anc.{anc_size, are_header_words, data_count, did_at, headers_ok, anc_checks, read_anc}
use Rattle.wire_spec.proofs.LayoutLaws.{places}
use Rattle.wire_words.specs.Word.{WordsFit}
use Rattle.anc_reader.proofs.PacketLaws.{passed, failed, header-there}
use Rattle.anc_reader.proofs.check.check_packet.Goals as goal

pub returns-then-octets-least_size : goal.returns-then-octets-least_size
unfolding read_anc anc_checks
returns-then-octets-least_size c = let s = c.args.octets.now in
    let h = lt-leb (least_size c.args.layout) (length s) (subst (λ (k : ℕ). length s < k) c.least_size.ensures c.if-octets-least_size.true) in
    rw (c.refuse_at.ensures, h)

pub header_words_ok-requires : goal.header_words_ok-requires
header_words_ok-requires c = let least : least_size c.args.layout ≤ length c.args.octets.now = subst (λ (k : ℕ). k ≤ length c.args.octets.now) c.least_size.ensures c.if-octets-least_size.false in
    let fit : WordsFit c.args.octets.now c.did_at-did.result 3 = subst (λ (k : ℕ). WordsFit c.args.octets.now k 3) (sym c.did_at-did.ensures) (header-there c.args.layout c.args.octets.now (least)) in
    fit

pub returns-then-not-header_words_ok : goal.returns-then-not-header_words_ok
unfolding read_anc anc_checks headers_ok
returns-then-not-header_words_ok c = let least : least_size c.args.layout ≤ length c.args.octets.now = subst (λ (k : ℕ). k ≤ length c.args.octets.now) c.least_size.ensures c.if-octets-least_size.false in
    let long : leb (least_size c.args.layout) (length c.args.octets.now) ≡ true = le-leb _ _ (least) in
    let tested : c.header_words_ok.result ≡ headers_ok c.args.layout c.args.octets.now = c.header_words_ok.ensures ∙ ap (λ (k : ℕ). are_header_words (row_at word_bits c.args.octets.now k 3)) c.did_at-did.ensures in
    rw (c.refuse_at-then-not-header_words_ok.ensures, long, failed _ _ (tested) (ap not c.if-not-header_words_ok.true))

pub overflow_add-did : goal.overflow_add-did
overflow_add-did c = omega (arith, c.did_at-did.ensures, (places c.args.layout).did-near)

pub fetch-requires : goal.fetch-requires
fetch-requires c = let least : least_size c.args.layout ≤ length c.args.octets.now = subst (λ (k : ℕ). k ≤ length c.args.octets.now) c.least_size.ensures c.if-octets-least_size.false in
    let fit : WordsFit c.args.octets.now c.did_at-did.result 3 = subst (λ (k : ℕ). WordsFit c.args.octets.now k 3) (sym c.did_at-did.ensures) (header-there c.args.layout c.args.octets.now (least)) in
    let f = fit in record { even = omega (arith, f.even); inside = omega (arith, f.inside); near = omega (arith, f.near) }

pub returns-then-octets-size : goal.returns-then-octets-size
unfolding read_anc anc_checks headers_ok
returns-then-octets-size c = let least : least_size c.args.layout ≤ length c.args.octets.now = subst (λ (k : ℕ). k ≤ length c.args.octets.now) c.least_size.ensures c.if-octets-least_size.false in
    let long : leb (least_size c.args.layout) (length c.args.octets.now) ≡ true = le-leb _ _ (least) in
    let tested : c.header_words_ok.result ≡ headers_ok c.args.layout c.args.octets.now = c.header_words_ok.ensures ∙ ap (λ (k : ℕ). are_header_words (row_at word_bits c.args.octets.now k 3)) c.did_at-did.ensures in
    let headed : headers_ok c.args.layout c.args.octets.now ≡ true = passed _ _ (tested) (ap not c.if-not-header_words_ok.false) in
    let count-is : c.fetch.result % header_numbers ≡ data_count c.args.layout c.args.octets.now = let e : c.did_at-did.result + 2 * word_bits ≡ did_at c.args.layout + word_bits + word_bits = omega (arith, c.did_at-did.ensures) in
    ap (λ (x : ℕ). x % header_numbers) (c.fetch.ensures ∙ ap (λ (k : ℕ). bits_at c.args.octets.now k word_bits) e) in
    let size_is : anc_size c.args.layout (data_count c.args.layout c.args.octets.now) ≡ c.packet_size-size.result.0 = sym (c.packet_size-size.ensures ∙ ap (anc_size c.args.layout) (count-is)) in
    rw (c.refuse_at-then-octets-size.ensures, long, headed, size_is, lt-leb _ _ c.if-octets-size.true)

pub check_content-requires : goal.check_content-requires
unfolding headers_ok
check_content-requires c = let tested : c.header_words_ok.result ≡ headers_ok c.args.layout c.args.octets.now = c.header_words_ok.ensures ∙ ap (λ (k : ℕ). are_header_words (row_at word_bits c.args.octets.now k 3)) c.did_at-did.ensures in
    let headed : headers_ok c.args.layout c.args.octets.now ≡ true = passed _ _ (tested) (ap not c.if-not-header_words_ok.false) in
    let count-is : c.fetch.result % header_numbers ≡ data_count c.args.layout c.args.octets.now = let e : c.did_at-did.result + 2 * word_bits ≡ did_at c.args.layout + word_bits + word_bits = omega (arith, c.did_at-did.ensures) in
    ap (λ (x : ℕ). x % header_numbers) (c.fetch.ensures ∙ ap (λ (k : ℕ). bits_at c.args.octets.now k word_bits) e) in
    record { octets_value = headed; octets_value_2 = (sym (count-is), c.packet_size-size.ensures, c.if-octets-size.false) }

pub returns : goal.returns
unfolding read_anc anc_checks headers_ok
returns c = let least : least_size c.args.layout ≤ length c.args.octets.now = subst (λ (k : ℕ). k ≤ length c.args.octets.now) c.least_size.ensures c.if-octets-least_size.false in
    let long : leb (least_size c.args.layout) (length c.args.octets.now) ≡ true = le-leb _ _ (least) in
    let tested : c.header_words_ok.result ≡ headers_ok c.args.layout c.args.octets.now = c.header_words_ok.ensures ∙ ap (λ (k : ℕ). are_header_words (row_at word_bits c.args.octets.now k 3)) c.did_at-did.ensures in
    let headed : headers_ok c.args.layout c.args.octets.now ≡ true = passed _ _ (tested) (ap not c.if-not-header_words_ok.false) in
    let count-is : c.fetch.result % header_numbers ≡ data_count c.args.layout c.args.octets.now = let e : c.did_at-did.result + 2 * word_bits ≡ did_at c.args.layout + word_bits + word_bits = omega (arith, c.did_at-did.ensures) in
    ap (λ (x : ℕ). x % header_numbers) (c.fetch.ensures ∙ ap (λ (k : ℕ). bits_at c.args.octets.now k word_bits) e) in
    let size_is : anc_size c.args.layout (data_count c.args.layout c.args.octets.now) ≡ c.packet_size-size.result.0 = sym (c.packet_size-size.ensures ∙ ap (anc_size c.args.layout) (count-is)) in
    rw (c.check_content.ensures, long, headed, size_is, le-leb _ _ c.if-octets-size.false)
