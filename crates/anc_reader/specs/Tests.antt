-- The tests of a packet by the bits at which its parts start, whatever its layout.
use Rattle.std.specs.Prelude.{Bool, List, ◌++◌, ℕ, ◌-◌, eqb, drop}
use Rattle.wire_spec.specs.Result.{Result, Ok, judge}
use Rattle.wire_spec.specs.Bits.{bits_at, row_at}
use Rattle.wire_spec.specs.Words.{word_bits}
use Rattle.wire_spec.specs.Layout.{Layout}
use Rattle.wire_spec.specs.declared.layout.Layout.TheVariants as layout
use Rattle.wire_spec.specs.Anc.{Record, anc_record, anc_checks, header_words, words_at}

-- "DID, SDID, Data_Count and every user data word": the words that the checksum is over, `n` user data words among them, as they stand in the octets
abbrev pub packet_words : Layout → ℕ → List ℕ → List ℕ
packet_words L n s = header_words L s ++ row_at word_bits s (words_at L) n

-- ".. then zero bits up to a multiple of 32": the bits from one to another
abbrev pub zero_bits : List ℕ → ℕ → ℕ → Bool
zero_bits s from to = eqb (bits_at s from (to - from)) 0

-- "each ANC packet in turn: 9 (under 12 octets left), 10, 9 (its size), ..": what follows these three, 15, 16, 11, 12
abbrev pub read_anc_content : Layout → ℕ → List ℕ → Result Record
read_anc_content L i s = judge i (drop 3 (anc_checks L s)) (Ok (anc_record L s))

-- the octet of S and StreamNum, behind C, line and offset: "Records come out with F, S and StreamNum zero" in the drafts' layout
abbrev pub stream_octet : Layout → ℕ → ℕ
stream_octet layout.Rfc8331 x = x
stream_octet layout.Draft2015 x = 0
