-- The lines of 01's records A and B, to the letter: "C gives `c`", "`s` is S and StreamNum", "did and sdid
-- two lower-case hex digits"; "Words follow the count, each a space and three lower-case hex digits". A
-- special line or offset is a decimal number too.
-- By computation.
use mathlib.Core.Path.{◌≡◌, refl}
use mathlib.Core.List.{[], ◌∷◌}
use Rattle.wire_spec.specs.Anc.{Record}
use Rattle.wire_spec.proofs.Examples.{a, b}
use Rattle.text.specs.Text.{ascii, decimal, decimal_in, digits, hex}
use Rattle.fieldlist_records.specs.Records.{line_text, location_text, data_text, record_text}

pub record-a : record_text a ≡ ascii " y line=9 off=0 s=0/0 did=41 sdid=05 words=0\n"
unfolding ascii decimal decimal_in hex digits line_text location_text data_text
record-a = refl

pub record-b : record_text b ≡ ascii " c line=2047 off=4095 s=1/3 did=61 sdid=02 words=2 2aa 155\n"
unfolding ascii decimal decimal_in hex digits line_text location_text data_text
record-b = refl

-- a record with another number in each place, and letters in all hex digits
abbrev other : Record
other =
    record {
      c = 0;
      line = 12;
      offset = 345;
      s = 1;
      stream = 67;
      did = 0xAB;
      sdid = 0xCD;
      words = 0x0EF ∷ 0x3BA ∷ 0x204 ∷ [];
    }

pub every-number : record_text other
    ≡ ascii " y line=12 off=345 s=1/67 did=ab sdid=cd words=3 0ef 3ba 204\n"
unfolding ascii decimal decimal_in hex digits line_text location_text data_text
every-number = refl
