-- What a call returns as numbers: its own, and those that it writes to the first numbers of the answer's row.
use Rattle.std.specs.Prelude.{List, [], ◌∷◌, ℕ}
use Rattle.depacketizer_spec.specs.declared.state.Answer.{Answer}
use Rattle.depacketizer_spec.specs.declared.state.Answer.TheVariants as answer
use Rattle.depacketizer_spec.specs.declared.state.Field.{Field}
use Rattle.capi_answer.specs.Rows.{Reply, accepted_reply, refused_reply}

-- an arrival that completes no field: its kind
abbrev pub kind_reply : ℕ → Reply
kind_reply kind = accepted_reply (kind ∷ 0 ∷ 0 ∷ 0 ∷ 0 ∷ 0 ∷ [])

-- a whole field: its kind, timestamp, F, records, cells, packets
abbrev pub whole_row : Field → List ℕ
whole_row x = 4 ∷ x.timestamp.0 ∷ x.f ∷ x.records ∷ x.cells ∷ x.packets ∷ []

-- an arrival: skipped 0, held 1, mixed 2, overfull 3, whole 4
abbrev pub arrival_reply : Answer → Reply
arrival_reply answer.Skipped = kind_reply 0
arrival_reply answer.Held = kind_reply 1
arrival_reply answer.Mixed = kind_reply 2
arrival_reply answer.Overfull = kind_reply 3
arrival_reply (answer.Whole x) = accepted_reply (whole_row x)
arrival_reply (answer.Refused x) = refused_reply x
