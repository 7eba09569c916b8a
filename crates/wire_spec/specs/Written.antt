-- What a writer answers, and what the lent octets then hold ("On success only the cells or octets of the answer are written").
use Rattle.wire_spec.specs.declared.count.OctetCount.{OctetCount}
use Rattle.std.specs.Prelude.{List, ℕ, length}
use Rattle.wire_spec.specs.Bits.{overwrite}
use Rattle.wire_spec.specs.Result.{Result, Err, Ok}

-- how many octets were written, or the refusal
abbrev pub written_of : Result (List ℕ) → Result OctetCount
written_of (Err x) = Err x
written_of (Ok o) = Ok (record { 0 = length o })

-- "Lent memory is unchanged" on a refusal
abbrev pub octets_after : Result (List ℕ) → List ℕ → List ℕ
octets_after (Err x) octets = octets
octets_after (Ok o) octets = overwrite o octets
