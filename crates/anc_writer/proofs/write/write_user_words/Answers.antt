-- `write_user_words` stores the user data words, and the checksum word behind them.
-- One store after the other is one store of both, in the layout that each arm is told.
use mathlib.Core.Path.{◌≡◌, ap, sym, subst, ◌∙◌}
use mathlib.Core.Bool.{Bool}
use mathlib.Core.List.{List}
use Prim.Native.Nat.{◌+◌, ◌*◌}
use native.Mathlib.Omega.{arith}
use lib.ListN.{length}
use Rattle.wire_spec.specs.Anc.{words_at}
use Rattle.wire_spec.specs.Bits.{bits, to_bits, field_bits, splice}
use Rattle.wire_spec.specs.Layout.{Layout, rfc8331, draft2015}
use Rattle.wire_spec.specs.Words.{word_bits, sum_low, checksum_word}
use Rattle.wire_spec.proofs.BitLaws.{length-bits}
use Rattle.wire_words.specs.Word.{WordsFit}
use Rattle.anc_writer.specs.Packet.{summed}
use Rattle.anc_writer.proofs.PacketBits.{summed-stored}
use Rattle.anc_writer.proofs.write.write_user_words.Goals as goal

pub write_words-requires : goal.write_words-requires
write_words-requires c = let fits : (L : Layout) → c.args.layout ≡ L → WordsFit c.args.octets.now (words_at L) (length c.args.words.now + 1) = λ L e. subst (λ (N : Layout). WordsFit c.args.octets.now (words_at N) (length c.args.words.now + 1)) e c.requires.words_fit in
    let fit = fits rfc8331 c.in-Rfc8331.is in
    (record { even = fit.even; inside = omega (arith, fit.inside); near = omega (arith, fit.near) }, c.requires.words_len_bound.1)

pub write_checksum-requires : goal.write_checksum-requires
write_checksum-requires c = let fits : (L : Layout) → c.args.layout ≡ L → WordsFit c.args.octets.now (words_at L) (length c.args.words.now + 1) = λ L e. subst (λ (N : Layout). WordsFit c.args.octets.now (words_at N) (length c.args.words.now + 1)) e c.requires.words_fit in
    let fit = fits rfc8331 c.in-Rfc8331.is in
    let k = c.write_words.auto.octets in
    (c.requires.words_len_bound.0, c.requires.words_len_bound.2, record { even = fit.even; inside = omega (arith, fit.inside); near = fit.near })

pub returns-in-Rfc8331 : goal.returns-in-Rfc8331
returns-in-Rfc8331 c = let fits : (L : Layout) → c.args.layout ≡ L → WordsFit c.args.octets.now (words_at L) (length c.args.words.now + 1) = λ L e. subst (λ (N : Layout). WordsFit c.args.octets.now (words_at N) (length c.args.words.now + 1)) e c.requires.words_fit in
    let a = c.args in
    let e : a.layout ≡ rfc8331 = c.in-Rfc8331.is in
    c.write_checksum.ensures
    ∙ ap (λ (b : List Bool). splice b (words_at rfc8331 + word_bits * length a.words.now) (to_bits word_bits (checksum_word (a.sum + sum_low a.words.now)))) c.write_words.ensures
    ∙ summed-stored (bits a.octets.now) (words_at rfc8331) a.words.now a.sum (omega (arith, length-bits a.octets.now, (fits rfc8331 e).inside))
    ∙ ap (λ (L : Layout). splice (bits a.octets.now) (words_at L) (field_bits (summed a.words.now a.sum))) (sym e)

pub write_singly-requires : goal.write_singly-requires
write_singly-requires c = let fits : (L : Layout) → c.args.layout ≡ L → WordsFit c.args.octets.now (words_at L) (length c.args.words.now + 1) = λ L e. subst (λ (N : Layout). WordsFit c.args.octets.now (words_at N) (length c.args.words.now + 1)) e c.requires.words_fit in
    let fit = fits draft2015 c.in-Draft2015.is in
    (record { even = fit.even; inside = omega (arith, fit.inside); near = omega (arith, fit.near) }, c.requires.words_len_bound.1)

pub write_checksum-requires-in-Draft2015 : goal.write_checksum-requires-in-Draft2015
write_checksum-requires-in-Draft2015 c = let fits : (L : Layout) → c.args.layout ≡ L → WordsFit c.args.octets.now (words_at L) (length c.args.words.now + 1) = λ L e. subst (λ (N : Layout). WordsFit c.args.octets.now (words_at N) (length c.args.words.now + 1)) e c.requires.words_fit in
    let fit = fits draft2015 c.in-Draft2015.is in
    let k = c.write_singly.auto.octets in
    (c.requires.words_len_bound.0, c.requires.words_len_bound.2, record { even = fit.even; inside = omega (arith, fit.inside); near = fit.near })

pub returns-in-Draft2015 : goal.returns-in-Draft2015
returns-in-Draft2015 c = let fits : (L : Layout) → c.args.layout ≡ L → WordsFit c.args.octets.now (words_at L) (length c.args.words.now + 1) = λ L e. subst (λ (N : Layout). WordsFit c.args.octets.now (words_at N) (length c.args.words.now + 1)) e c.requires.words_fit in
    let a = c.args in
    let e : a.layout ≡ draft2015 = c.in-Draft2015.is in
    c.write_checksum-in-Draft2015.ensures
    ∙ ap (λ (b : List Bool). splice b (words_at draft2015 + word_bits * length a.words.now) (to_bits word_bits (checksum_word (a.sum + sum_low a.words.now)))) c.write_singly.ensures
    ∙ summed-stored (bits a.octets.now) (words_at draft2015) a.words.now a.sum (omega (arith, length-bits a.octets.now, (fits draft2015 e).inside))
    ∙ ap (λ (L : Layout). splice (bits a.octets.now) (words_at L) (field_bits (summed a.words.now a.sum))) (sym e)
