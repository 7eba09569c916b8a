-- What is archived of five packets when some are lost, repeated or late; and which fresh packets are whole fields.
-- By computation.
use mathlib.Core.Path.{◌≡◌, refl}
use mathlib.Core.List.{List, [], ◌∷◌}
use Prim.Native.Nat.{ℕ, ◌-◌, ◌^◌}
use Rattle.wire_spec.specs.Layout.{rfc8331}
use Rattle.wire_spec.specs.Anc.{Record}
use Rattle.fieldfile_spec.specs.File.{FieldContent}
use Rattle.depacketizer_spec.specs.Stream.{Part, Field, Arriving, packet, fresh}
use Rattle.archive_laws.specs.Archive.{archived, calls_of}
use Rattle.archive_laws.specs.Any.{Heard}
use Rattle.archive_laws.specs.Exact.{whole_fields}

-- a record of a line, with no words
abbrev at : ℕ → Record
at line = record { c = 0; line = line; offset = 0; s = 0; stream = 0; did = 0x41; sdid = 0x05; words = [] }

abbrev carrying : ℕ → Part
carrying line = record { octets = []; records = at line ∷ [] }

-- four fields: one packet, two, one, one
abbrev fields : List Field
fields =
    record { timestamp = 1000; f = 2; first = carrying 9; rest = [] }
    ∷ record { timestamp = 2501; f = 3; first = carrying 10; rest = carrying 11 ∷ [] }
    ∷ record { timestamp = 4003; f = 2; first = carrying 12; rest = [] }
    ∷ record { timestamp = 5504; f = 3; first = carrying 13; rest = [] }
    ∷ []

abbrev second : FieldContent
second = record { timestamp = 2501; f = 3; records = at 10 ∷ at 11 ∷ [] }

abbrev third : FieldContent
third = record { timestamp = 4003; f = 2; records = at 12 ∷ [] }

abbrev fourth : FieldContent
fourth = record { timestamp = 5504; f = 3; records = at 13 ∷ [] }

abbrev of : List Arriving → List FieldContent
of tape = archived 0 fields (fresh (calls_of tape))

-- all of them: all but the first
pub all-five : of (packet 0 ∷ packet 1 ∷ packet 2 ∷ packet 3 ∷ packet 4 ∷ []) ≡ second ∷ third ∷ fourth ∷ []
all-five = refl

-- packet 3 is lost: its field, and the next one's start is not known
pub one-lost : of (packet 0 ∷ packet 1 ∷ packet 2 ∷ packet 4 ∷ []) ≡ second ∷ []
one-lost = refl

-- packet 1 is repeated: once
pub repeated : of (packet 0 ∷ packet 1 ∷ packet 1 ∷ packet 2 ∷ packet 3 ∷ []) ≡ second ∷ third ∷ []
repeated = refl

-- packets 1 and 2 exchanged: 1 is late, and half a field is not one
pub exchanged : of (packet 0 ∷ packet 2 ∷ packet 1 ∷ packet 3 ∷ packet 4 ∷ []) ≡ third ∷ fourth ∷ []
exchanged = refl

-- the first of two packets is lost: "the rest looks like a field" (00), and is not one
pub first-lost : of (packet 0 ∷ packet 2 ∷ packet 3 ∷ []) ≡ third ∷ []
first-lost = refl

-- A FRESH PACKET, by its number, mark, timestamp and F
abbrev heard : (number marker timestamp f : ℕ) → Heard
heard number marker timestamp f =
    record {
      layout = rfc8331;
      octets = [];
      says = record { source = 1; type = 100; marker = marker; number = number; timestamp = timestamp; f = f; records = at 9 ∷ [] };
    }

-- behind a marked packet, over the wrap of the numbers
abbrev last : ℕ
last = 2 ^ 32 - 1

pub over-the-wrap : whole_fields [] [] (heard last 1 5 2 ∷ heard 0 0 6 3 ∷ heard 1 1 6 3 ∷ []) ≡ (heard 0 0 6 3 ∷ heard 1 1 6 3 ∷ []) ∷ []
over-the-wrap = refl

-- "half of one field with half of the next" (00): with another timestamp, with another F, behind one that is missing, or with no marked packet before them
pub no-halves : whole_fields [] [] (heard 6 1 5 2 ∷ heard 7 0 6 3 ∷ heard 8 1 7 3 ∷ []) ≡ []
no-halves = refl

pub no-other-f : whole_fields [] [] (heard 6 1 5 2 ∷ heard 7 0 6 3 ∷ heard 8 1 6 2 ∷ []) ≡ []
no-other-f = refl

pub none-missing : whole_fields [] [] (heard 6 1 5 2 ∷ heard 7 0 6 3 ∷ heard 9 1 6 3 ∷ []) ≡ []
none-missing = refl

pub behind-a-marked : whole_fields [] [] (heard 6 0 6 3 ∷ heard 7 0 6 3 ∷ heard 8 1 6 3 ∷ heard 9 1 7 2 ∷ []) ≡ (heard 9 1 7 2 ∷ []) ∷ []
behind-a-marked = refl
