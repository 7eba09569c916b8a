-- `simple_item` is a packet from the first interface.
-- As it stands.
use mathlib.Core.Path.{ap, ◌∙◌}
use Prim.Native.Nat.{ℕ, ◌-◌}
use Rattle.capture_spec.specs.Step.{packet_from, simple_size}
use Rattle.capture_block.proofs.block.simple_item.Goals as goal

pub returns : goal.returns
returns c = let a = c.args in
    c.packet_from.ensures ∙ ap (λ (k : ℕ). packet_from a.state 0 12 k (a.n - 16) a.n) (c.simple_size-size.ensures ∙ ap (simple_size a.state.snap) c.word_at.ensures.0)
