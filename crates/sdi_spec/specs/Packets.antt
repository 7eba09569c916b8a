-- ANC data packets in a line of the serial interface (02, K6): their words, and how they are read.
use Rattle.std.specs.Prelude.{◌≡◌, Bool, ◌&&◌, cond, List, [], ◌∷◌, ◌++◌, ℕ, zero, suc, ◌+◌, ◌%◌, ◌<◌, eqb, leb, length, take, drop, get_or}
use Rattle.wire_spec.specs.Words.{header_numbers, header_word, sum_low, checksum_word, all_clear}
use Rattle.wire_spec.specs.Result.{Result, Ok, Checks, judge, ◌then◌}
use Rattle.wire_spec.specs.Anc.{Record, checksum, are_header_words}
use Rattle.sdi_spec.specs.declared.position.Position.{Position}

-- "the flag 0x000 0x3FF 0x3FF": ST 291-1's ancillary data flag
abbrev pub flag : List ℕ
flag = 0x000 ∷ 0x3FF ∷ 0x3FF ∷ []

-- its words, and those that a packet has behind it beside its user data words: "under four words after the flag"
abbrev pub flag_words : ℕ
flag_words = 3

abbrev pub least_words : ℕ
least_words = 4

-- ".. then DID to checksum"
abbrev pub data_words : Record → List ℕ
data_words r = header_word r.did ∷ header_word r.sdid ∷ header_word (length r.words) ∷ (r.words ++ checksum r ∷ [])

-- "Each packet is the flag .., then DID to checksum"
abbrev pub packet_words : Record → List ℕ
packet_words r = flag ++ data_words r

-- "packets touching": the stretch of the records' packets
abbrev pub stretch : List Record → List ℕ
stretch [] = []
stretch (r ∷ rs) = packet_words r ++ stretch rs

-- a whole flag stands at the front of the words `s`
abbrev pub Flagged : List ℕ → Type 0
Flagged s = (t : List ℕ) × (s ≡ flag ++ t)

-- the test of it; a flag cut by the line's end is none
unfoldable pub has_flag : List ℕ → Bool
has_flag s = leb flag_words (length s) && (eqb (get_or s 0 0) 0x000 && (eqb (get_or s 1 0) 0x3FF && eqb (get_or s 2 0) 0x3FF))

-- Reading the packet whose words behind the flag stand at the front of `t`: RFC 8331, "The lower 8 bits of Data_Count .. contain the actual count"
abbrev pub line_count : List ℕ → ℕ
line_count t = get_or t 2 0 % header_numbers

-- its user data words
abbrev pub user_words : List ℕ → List ℕ
user_words t = take (line_count t) (drop 3 t)

-- the record that stands there: "C, place, S and StreamNum come from the caller"
unfoldable pub line_record : Position → List ℕ → Record
line_record P t =
    record {
      c = P.c;
      line = P.line;
      offset = P.offset;
      s = P.s;
      stream = P.stream;
      did = get_or t 0 0 % header_numbers;
      sdid = get_or t 1 0 % header_numbers;
      words = user_words t;
    }

-- 11: "checksum word wrong"; the flag is not summed
unfoldable pub sum_ok : List ℕ → Bool
sum_ok t = eqb (get_or t (3 + line_count t) 0) (checksum_word (sum_low (take (3 + line_count t) t)))

-- "9 (under four words after the flag), 10, 9 (its words), 16, 11"
unfoldable pub packet_checks : List ℕ → Checks
packet_checks t =
    (leb least_words (length t), 9)
    ∷ (are_header_words (take 3 t), 10)
    ∷ (leb (least_words + line_count t) (length t), 9)
    ∷ (all_clear (user_words t), 16)
    ∷ (sum_ok t, 11)
    ∷ []

-- the words behind the packet at the front of `s`
abbrev pub behind : List ℕ → List ℕ
behind s = drop (least_words + line_count (drop flag_words s)) (drop flag_words s)

-- "takes packets as long as a flag follows directly": the records at the front of `s`, the first with index `i`; the first argument
-- bounds how many there can be
unfoldable pub packets_from : ℕ → Position → ℕ → List ℕ → Result (List Record)
packets_from zero P i s = Ok []
packets_from (suc bound) P i s =
    cond (has_flag s)
    (judge i (packet_checks (drop flag_words s)) (packets_from bound P (i + 1) (behind s) then λ rs. Ok (line_record P (drop flag_words s) ∷ rs)))
    (Ok [])

-- the words `s` have at most as many packets as words
abbrev pub packets_in : Position → List ℕ → Result (List Record)
packets_in P s = packets_from (length s) P 0 s

-- a record's data part (DID, SDID and user data words) at the caller's position
abbrev pub placed : Position → Record → Record
placed P r =
    record {
      c = P.c;
      line = P.line;
      offset = P.offset;
      s = P.s;
      stream = P.stream;
      did = r.did;
      sdid = r.sdid;
      words = r.words;
    }

-- the stretch of the records stands at the front of the words `s`, and no flag stands directly behind it
pub record Stands (rs : List Record) (s : List ℕ) : Type 0 where
  pub rest : List ℕ
  pub words : s ≡ stretch rs ++ rest
  pub ends : Flagged rest → ⊥

-- the records are at the caller's position
abbrev pub At : Position → Record → Type 0
At P r = placed P r ≡ r

-- "ST 291-1 keeps 0x000 to 0x003 and 0x3FC to 0x3FF for timing"
abbrev pub Unprotected : ℕ → Type 0
Unprotected w = (0x003 < w) × (w < 0x3FC)
