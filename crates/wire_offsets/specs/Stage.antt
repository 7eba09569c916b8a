-- What a stage answers in the papers' terms: the refusal, or the octets that it found.
use Rattle.wire_spec.specs.declared.count.OctetCount.{OctetCount}
use Rattle.std.specs.Prelude.{ℕ}
use Rattle.wire_spec.specs.Result.{Result, Err, Ok}

-- a stage's checks judged: its refusal, or the octets that it found
abbrev pub stage_of : Result ℕ → Result OctetCount
stage_of (Err x) = Err x
stage_of (Ok n) = Ok (record { 0 = n })
