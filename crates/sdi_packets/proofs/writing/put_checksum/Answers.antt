-- `put_checksum` writes the checksum word behind the user data words.
-- One store is a splice of one word.
use mathlib.Core.Path.{◌≡◌, ap, ◌∙◌}
use mathlib.Core.List.{[], ◌∷◌}
use Prim.Native.Nat.{ℕ, ◌+◌, ◌-◌}
use native.Mathlib.Omega.{arith}
use lib.ListN.{take, drop}
use Rattle.wire_spec.specs.Bits.{splice}
use Rattle.wire_spec.specs.Words.{sum_low, checksum_word}
use Rattle.wire_spec.proofs.ListLaws.{set-splice}
use Rattle.sdi_spec.proofs.CodeLaws.{summed-word}
use Rattle.sdi_packets.proofs.writing.put_checksum.Goals as goal

pub returns : goal.returns
returns c = let w = c.args.words.now in
    let n = c.args.n in
    let k : 6 + n - 3 ≡ 3 + n = omega arith in
    set-splice w (6 + n) c.checksum_word.result (omega (arith, c.requires))
    ∙ ap (λ (x : ℕ). splice w (6 + n) (x ∷ [])) (c.checksum_word.ensures ∙ summed-word _ _ c.sum_cells-sum.ensures ∙ ap (λ (m : ℕ). checksum_word (sum_low (take m (drop 3 w)))) k)
