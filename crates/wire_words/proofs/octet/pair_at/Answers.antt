-- `pair_at` is the sixteen bits at an octet.
-- By the number that two octets write.
use mathlib.Core.Path.{sym, ◌∙◌}
use native.Mathlib.Numerals.{add-one}
use native.Mathlib.Omega.{arith}
use Rattle.wire_spec.proofs.FieldLaws.{two-octets-at}
use Rattle.wire_words.proofs.octet.pair_at.Goals as goal

pub returns : goal.returns
returns c = let a = c.args in
    c.pair.ensures ∙ rw (add-one a.at) (sym (two-octets-at a.octets.now (λ j. (c.shared_slice_known-1.given j).fits) a.at (omega arith)))
