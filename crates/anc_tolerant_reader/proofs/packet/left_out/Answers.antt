-- `left_out` tells of a packet that fails its checksum and nothing before.
-- The bits behind its words, as the strict check tests them.
use Rattle.wire_spec.specs.Result.{Ok}
use mathlib.Core.Path.{◌≡◌, ap, sym, subst, ◌∙◌}
use mathlib.Core.Bool.{false, not}
use Prim.Native.Nat.{ℕ, ◌+◌, ◌*◌, ◌<◌, ◌≤◌}
use native.Mathlib.Nat.{mod-lt}
use native.Mathlib.Omega.{arith}
use lib.Dec.{lit<}
use lib.ListN.{length}
use Rattle.wire_spec.specs.Words.{word_bits, header_numbers}
use Rattle.wire_spec.specs.Anc.{anc_size, data_count, alignment_ok}
use Rattle.anc_reader.specs.Tests.{zero_bits}
use Rattle.anc_reader.proofs.PacketLaws.{passed, failed, There, there, alignment-test}
use Rattle.anc_tolerant_reader.proofs.PacketLaws.{sized, left-12, left_out}
use Rattle.anc_tolerant_reader.proofs.packet.left_out.Goals as goal

pub data_count-words-requires : goal.data_count-words-requires
data_count-words-requires c = (sized _ _ c.requires.0).least

pub overflow_add-words_at : goal.overflow_add-words_at
overflow_add-words_at c = let all : There c.args.layout c.args.octets.now c.data_count-words.result.0 c.packet_size-size.result.0 = let L = c.args.layout in
    let s = c.args.octets.now in
    let n : c.data_count-words.result.0 ≡ data_count L s = c.data_count-words.ensures in
    let z : c.packet_size-size.result.0 ≡ anc_size L c.data_count-words.result.0 = c.packet_size-size.ensures in
    there L s _ _ (subst (λ (x : ℕ). x < header_numbers) (sym n) (mod-lt _ (lit< tt))) z
    (subst (λ (x : ℕ). x ≤ length s) (sym (z ∙ ap (anc_size L) n)) (sized L s c.requires.0).whole) in
    omega (arith, (all).words.near, c.words_at.ensures)

pub zero_end-requires : goal.zero_end-requires
zero_end-requires c = let all : There c.args.layout c.args.octets.now c.data_count-words.result.0 c.packet_size-size.result.0 = let L = c.args.layout in
    let s = c.args.octets.now in
    let n : c.data_count-words.result.0 ≡ data_count L s = c.data_count-words.ensures in
    let z : c.packet_size-size.result.0 ≡ anc_size L c.data_count-words.result.0 = c.packet_size-size.ensures in
    there L s _ _ (subst (λ (x : ℕ). x < header_numbers) (sym n) (mod-lt _ (lit< tt))) z
    (subst (λ (x : ℕ). x ≤ length s) (sym (z ∙ ap (anc_size L) n)) (sized L s c.requires.0).whole) in
    let t = all in
    omega (arith, t.end, t.words.near, c.words_at.ensures, c.packet_size-size.ensures, ap (anc_size c.args.layout) c.data_count-words.ensures, (sized c.args.layout c.args.octets.now c.requires.0).whole)

pub returns-then-not-zero_end : goal.returns-then-not-zero_end
returns-then-not-zero_end c = let ends : c.zero_end.result ≡ alignment_ok c.args.layout c.args.octets.now = let a = c.args in
    let n = c.data_count-words.result.0 in
    let z = c.packet_size-size.result.0 in
    c.zero_end.ensures
    ∙ ap (λ (at : ℕ). zero_bits a.octets.now (at + word_bits * (n + 1)) (8 * z)) c.words_at.ensures
    ∙ alignment-test a.layout a.octets.now n (sym c.data_count-words.ensures) z c.packet_size-size.ensures in
    let a = c.args in
    c.refuse_at.ensures ∙ rw (left-12 a.layout a.index a.octets.now c.requires.0 (failed _ _ (ends) (ap not c.if-not-zero_end.true)))

pub returns : goal.returns
returns c = let ends : c.zero_end.result ≡ alignment_ok c.args.layout c.args.octets.now = let a = c.args in
    let n = c.data_count-words.result.0 in
    let z = c.packet_size-size.result.0 in
    c.zero_end.ensures
    ∙ ap (λ (at : ℕ). zero_bits a.octets.now (at + word_bits * (n + 1)) (8 * z)) c.words_at.ensures
    ∙ alignment-test a.layout a.octets.now n (sym c.data_count-words.ensures) z c.packet_size-size.ensures in
    let a = c.args in
    rw (left_out a.layout a.index a.octets.now c.requires.0 (passed _ _ (ends) (ap not c.if-not-zero_end.false)) c.requires.1)
    (ap (λ (n : ℕ). Ok (record { words = record { 0 = n }; own = false })) c.data_count-words.ensures)
