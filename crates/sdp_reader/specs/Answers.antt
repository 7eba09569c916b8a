-- What the answers say in the definitions' terms: the refusal, or what was read.
use Rattle.std.specs.Prelude.{◌≡◌, List, [], ◌∷◌, ℕ, ◌/◌, ◌≤◌, ltb, length, drop}
use Rattle.wire_spec.specs.Bits.{overwrite}
use Rattle.wire_spec.specs.Result.{Result, Err, Ok}
use Rattle.sdp_spec.specs.declared.item.Item.{Item}
use Rattle.sdp_spec.specs.declared.parameters.Parameters.{Parameters}
use Rattle.sdp_spec.specs.Grammar.{Content, pairs_of}
use Rattle.sdp_spec.specs.Reading.{item_of, front, next, read_into}
use Rattle.sdp_reader.specs.declared.Step.{Step}

-- "the answer is their count and the VPID_Code or none", from what a text says
abbrev pub content_reading : Result Content → Result Parameters
content_reading (Err x) = Err x
content_reading (Ok k) = Ok (record { pairs = length k.pairs / 2; vpid = k.vpid })

-- "Read pairs go into lent octets, DID then SDID"
abbrev pub content_pairs : Result Content → List ℕ
content_pairs (Err x) = []
content_pairs (Ok k) = k.pairs

-- what `read` returns for this text and these lent octets, and what they then hold
abbrev pub read_returns : (text lent : List ℕ) → Result Parameters
read_returns text lent = content_reading (read_into text (length lent))

abbrev pub read_leaves : (text lent : List ℕ) → List ℕ
read_leaves text lent = overwrite (content_pairs (read_into text (length lent))) lent

-- those of one item
abbrev pub item_pairs : Item → List ℕ
item_pairs x = pairs_of (x ∷ [])

-- the first item, whether another follows, and the octets before it
pub record Stepped (s : List ℕ) (r : Step) : Type 0 where
  pub item : r.item ≡ item_of (front s)
  pub more : r.more ≡ ltb (length (front s)) (length s)
  pub inside : r.used ≤ length s
  pub rest : drop r.used s ≡ next s
