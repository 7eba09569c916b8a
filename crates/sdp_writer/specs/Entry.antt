-- What the entry point `write` returns and leaves.
use Rattle.wire_spec.specs.Result.{Result}
use Rattle.wire_spec.specs.declared.count.OctetCount.{OctetCount}
use Rattle.std.specs.Prelude.{List, ℕ, length, Option}
use Rattle.wire_spec.specs.Written.{octets_after, written_of}
use Rattle.sdp_spec.specs.Writing.{write_text}

-- what `write` returns for these pairs, this VPID code or none, and these lent octets
abbrev pub write_returns : (pairs : List ℕ) → Option ℕ → (out : List ℕ) → Result OctetCount
write_returns pairs vpid out = written_of (write_text (record { pairs = pairs; vpid = vpid }) (length out))

-- what the lent octets then hold
abbrev pub write_leaves : (pairs : List ℕ) → Option ℕ → (out : List ℕ) → List ℕ
write_leaves pairs vpid out = octets_after (write_text (record { pairs = pairs; vpid = vpid }) (length out)) out
