-- What the entry points `begin` and `write_field` return and leave.
use Rattle.wire_spec.specs.Result.{Result}
use Rattle.wire_spec.specs.declared.count.OctetCount.{OctetCount}
use Rattle.std.specs.Prelude.{List, ℕ, length}
use Rattle.wire_spec.specs.Written.{octets_after, written_of}
use Rattle.fieldfile_spec.specs.File.{write_field, write_head}

-- what `begin` returns for these lent octets, and what they then hold
abbrev pub begin_returns : (out : List ℕ) → Result OctetCount
begin_returns out = written_of (write_head (length out))

abbrev pub begin_leaves : (out : List ℕ) → List ℕ
begin_leaves out = octets_after (write_head (length out)) out

-- what `write_field` returns for this timestamp, F, list and these lent octets, and what they then hold
abbrev pub field_returns : (timestamp f : ℕ) (cells out : List ℕ) → Result OctetCount
field_returns timestamp f cells out = written_of (write_field timestamp f cells (length out))

abbrev pub field_leaves : (timestamp f : ℕ) (cells out : List ℕ) → List ℕ
field_leaves timestamp f cells out = octets_after (write_field timestamp f cells (length out)) out
