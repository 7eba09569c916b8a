-- What the answers say in the papers' terms: the refusal, or what was found.
use Rattle.std.specs.Prelude.{List, [], ℕ, length, Option, Some, None}
use Rattle.wire_spec.specs.Result.{Result, Err, Ok}
use Rattle.wire_spec.specs.Layout.{Layout}
use Rattle.wire_spec.specs.Anc.{Record, run_size, run_octets}
use Rattle.anc_writer.specs.declared.check.Listed.{Listed}

-- a list: how many records, for 21, and the octets of their packets, for 22 and 23
abbrev pub listed_of : Layout → Result (List Record) → Result Listed
listed_of L (Err x) = Err x
listed_of L (Ok rs) = Ok (record { count = length rs; octets = record { 0 = run_size L rs } })

-- the same, without saying why a list is refused
abbrev pub measured_of : Result Listed → Option Listed
measured_of (Err x) = None
measured_of (Ok p) = Some (record { count = p.count; octets = p.octets })

-- the records of a list
abbrev pub list_records : Result (List Record) → List Record
list_records (Err x) = []
list_records (Ok rs) = rs

-- their octets (01, "The packet": each ANC packet)
abbrev pub list_octets : Layout → Result (List Record) → List ℕ
list_octets L r = run_octets L (list_records r)
