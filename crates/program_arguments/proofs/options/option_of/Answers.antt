-- By the tests that were passed.
use Rattle.std.proofs.Common.{◌≡◌, ◌∙◌, sym, true, false}
use Rattle.program_arguments.specs.Options.{is_text}
use Rattle.program_arguments.proofs.OptionLaws.{as-text, by-tests, dashed}
use Rattle.program_arguments.proofs.options.option_of.Goals as goal

pub returns-then-not-starts_with : goal.returns-then-not-starts_with
returns-then-not-starts_with c = let w = c.args.word.now in
    let d : dashed w ≡ false = sym c.starts_with.ensures.value ∙ c.if-not-starts_with.true in
    sym (by-tests w ∙ rw d)

pub returns-then-eq : goal.returns-then-eq
returns-then-eq c = let w = c.args.word.now in
    let d : dashed w ≡ true = sym c.starts_with.ensures.value ∙ c.if-not-starts_with.false in
    let h : is_text w "--help" ≡ true = sym (as-text w "--help") ∙ sym c.eq.ensures ∙ c.if-eq.true in
    sym (by-tests w ∙ rw (d, h))

pub returns-then-eq-2 : goal.returns-then-eq-2
returns-then-eq-2 c = let w = c.args.word.now in
    let d : dashed w ≡ true = sym c.starts_with.ensures.value ∙ c.if-not-starts_with.false in
    let h : is_text w "--help" ≡ false = sym (as-text w "--help") ∙ sym c.eq.ensures ∙ c.if-eq.false in
    let v : is_text w "--version" ≡ true = sym (as-text w "--version") ∙ sym c.eq-2.ensures ∙ c.if-eq-2.true in
    sym (by-tests w ∙ rw (d, h, v))

pub returns : goal.returns
returns c = let w = c.args.word.now in
    let d : dashed w ≡ true = sym c.starts_with.ensures.value ∙ c.if-not-starts_with.false in
    let h : is_text w "--help" ≡ false = sym (as-text w "--help") ∙ sym c.eq.ensures ∙ c.if-eq.false in
    let v : is_text w "--version" ≡ false = sym (as-text w "--version") ∙ sym c.eq-2.ensures ∙ c.if-eq-2.false in
    sym (by-tests w ∙ rw (d, h, v))
