-- `write_header` writes the packed header to the first octets, and no other octet.
-- By what `header` and `copy` give.
use mathlib.Core.Path.{ap, ◌∙◌}
use mathlib.Core.List.{List}
use Prim.Native.Nat.{ℕ}
use Rattle.wire_spec.specs.Bits.{overwrite}
use Rattle.fieldfile_writer.proofs.writing.write_header.Goals as goal

pub returns : goal.returns
returns c = c.copy.ensures ∙ ap (λ (x : List ℕ). overwrite x c.args.octets.now) c.header-header.ensures
