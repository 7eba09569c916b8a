-- What a call returns as numbers: its own, and those that it writes to the first numbers of the answer's row.
use Rattle.wire_spec.specs.Result.{Result, Ok, Err}
use Rattle.std.specs.Prelude.{List, [], ◌∷◌, ℕ, Option, Some, None}
use Rattle.sdp_spec.specs.declared.parameters.Parameters.{Parameters}
use Rattle.capi_answer.specs.Rows.{Reply, accepted_reply, refused_reply}

-- 1 where there is a VPID code
abbrev pub has_code : Option ℕ → ℕ
has_code (Some n) = 1
has_code None = 0

-- the VPID code, or 0
abbrev pub code_or0 : Option ℕ → ℕ
code_or0 (Some n) = n
code_or0 None = 0

-- what a text says: pairs, whether there is a VPID code, the code
abbrev pub parameters_row : Parameters → List ℕ
parameters_row p = p.pairs ∷ has_code p.vpid ∷ code_or0 p.vpid ∷ []

-- a text read
abbrev pub parameters_reply : Result Parameters → Reply
parameters_reply (Err x) = refused_reply x
parameters_reply (Ok p) = accepted_reply (parameters_row p)
