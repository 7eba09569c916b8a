-- What a call returns as numbers: its own, and those that it writes to the first numbers of the answer's row.
use Rattle.wire_spec.specs.Result.{Result, Ok, Err}
use Rattle.wire_spec.specs.declared.count.OctetCount.{OctetCount}
use Rattle.std.specs.Prelude.{cond, Bool, List, [], ◌∷◌, ℕ, leb, eqb, length}
use Rattle.wire_spec.specs.declared.refusal.Refusal.{Refusal}
use Rattle.wire_spec.specs.Layout.{Layout, rfc8331, draft2015}

-- numbers that an answer needs
abbrev pub answer_size : ℕ
answer_size = 9

-- the number that refuses a shorter row
abbrev pub row_too_short : ℕ
row_too_short = 255

-- the number of a call, and what it writes to the answer
pub record Reply : Type 0 where
  pub number : ℕ
  pub row : List ℕ

-- a refusal: its number, and its index in the row
abbrev pub refused_reply : Refusal → Reply
refused_reply x = record { number = x.number; row = x.index ∷ [] }

-- accepted, with the numbers that the call returns
abbrev pub accepted_reply : List ℕ → Reply
accepted_reply row = record { number = 0; row = row }

-- accepted, with one size
abbrev pub size_reply : ℕ → Reply
size_reply n = accepted_reply (n ∷ [])

-- a row is too short: nothing is written
abbrev pub row_reply : Reply
row_reply = record { number = row_too_short; row = [] }

-- octets written: how many
abbrev pub written_reply : Result OctetCount → Reply
written_reply (Err x) = refused_reply x
written_reply (Ok n) = size_reply n.0

-- what a call gives where the answer is long enough, and otherwise
abbrev pub given : {A : Type 0} → List ℕ → A → A → A
given answer x y = cond (leb answer_size (length answer)) x y

-- "Which layout applies is told by the caller" (02, K3): 0 is RFC 8331's, 1 the drafts'
abbrev pub last_layout : ℕ
last_layout = 1

abbrev pub is_layout : ℕ → Bool
is_layout n = leb n last_layout

abbrev pub layout_of : ℕ → Layout
layout_of n = cond (eqb n 0) rfc8331 draft2015

-- another number is refused by one of the boundary's own
abbrev pub layout_unknown : ℕ
layout_unknown = 254

abbrev pub layout_reply : Reply
layout_reply = record { number = layout_unknown; row = [] }
