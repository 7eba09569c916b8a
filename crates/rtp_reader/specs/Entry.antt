-- What the entry point `read` returns and leaves.
use Rattle.wire_spec.specs.Result.{Result}
use Rattle.std.specs.Prelude.{List, ℕ, length}
use Rattle.wire_spec.specs.Layout.{Layout}
use Rattle.anc_tolerant_spec.specs.Tolerant.{tolerate_into}
use Rattle.rtp_reader.specs.Answers.{tolerant_of, through_after}
use Rattle.rtp_reader.specs.declared.packet.TolerantRead.{TolerantRead}

-- what `read` returns for these octets, in the layout that it is told, and this lent list
abbrev pub tolerant_returns : Layout → (octets cells : List ℕ) → Result TolerantRead
tolerant_returns L s cells = tolerant_of (tolerate_into L s (length cells))

-- what the lent list then holds
abbrev pub tolerant_leaves : Layout → (octets cells : List ℕ) → List ℕ
tolerant_leaves L s cells = through_after (tolerate_into L s (length cells)) cells
