-- `enhanced_item` is a packet from an interface.
-- As it stands.
use mathlib.Core.Path.{ap, ◌∙◌}
use Prim.Native.Nat.{ℕ, ◌-◌}
use Rattle.capture_spec.specs.Step.{packet_from}
use Rattle.capture_block.proofs.block.enhanced_item.Goals as goal

pub returns : goal.returns
returns c = let a = c.args in
    c.packet_from.ensures ∙ ap (λ (k : ℕ). packet_from a.state a.id 28 k (a.n - 32) a.n) c.word_at-size.ensures.0
