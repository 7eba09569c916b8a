-- Records in a lent list of sixteen-bit cells (01, "Records in a lent list").
use Rattle.std.specs.Prelude.{◌≡◌, Bool, true, ◌&&◌, List, [], ◌∷◌, ◌++◌, ℕ, zero, suc, ◌+◌, ◌^◌, ◌≤◌, leb, ltb, length, take, drop, get_or}
use Rattle.wire_spec.specs.Words.{word_bits, header_numbers, all_clear}
use Rattle.wire_spec.specs.Layout.{rfc8331, s_bits, stream_bits}
use Rattle.wire_spec.specs.Anc.{Record}
use Rattle.wire_spec.specs.Result.{Result, Ok, refuse, Checks, judge, ◌then◌}

-- "A record is 9 + n cells" (02, K13): those before its words
abbrev pub head_cells : ℕ
head_cells = 9

-- "A record is C, line, offset, S, StreamNum, DID, SDID, n, then n words"; "Each record gets a ninth cell after n: the index of its packet
-- within its field, from 0" (02, K13). The cells of a record that came in packet `p`.
abbrev pub cells_in : ℕ → Record → List ℕ
cells_in p r =
    r.c ∷ r.line ∷ r.offset ∷ r.s ∷ r.stream ∷ r.did ∷ r.sdid ∷ length r.words ∷ p ∷ r.words

-- records of packet `p`, one behind the other
abbrev pub list_in : ℕ → List Record → List ℕ
list_in p [] = []
list_in p (r ∷ rs) = cells_in p r ++ list_in p rs

-- "The packet and line readers give 0", and "Files .. read as 0" (02, K13)
abbrev pub cells_of : Record → List ℕ
cells_of r = cells_in 0 r

abbrev pub list_of : List Record → List ℕ
list_of rs = list_in 0 rs

-- "20 if the cell is over 4,095" (02, K13)
abbrev pub max_index : ℕ
max_index = 4095

-- The cells `l` are those of the records "apart from this cell" (02, K13): each record's ninth is any index that is taken.
abbrev pub Lists : List Record → List ℕ → Type 0
Lists [] l = l ≡ []
Lists (r ∷ rs) l = (p : ℕ) × (t : List ℕ) × (p ≤ max_index) × (l ≡ cells_in p r ++ t) × Lists rs t

-- Reading the record at the front of the cells `l`: n, and behind it the index, the last cell before its words.
abbrev pub cell_count : List ℕ → ℕ
cell_count l = get_or l 7 0

abbrev pub cell_index : List ℕ → ℕ
cell_index l = get_or l 8 0

-- the record that stands there
unfoldable pub cell_record : List ℕ → Record
cell_record l =
    record {
      c = get_or l 0 0;
      line = get_or l 1 0;
      offset = get_or l 2 0;
      s = get_or l 3 0;
      stream = get_or l 4 0;
      did = get_or l 5 0;
      sdid = get_or l 6 0;
      words = take (cell_count l) (drop head_cells l);
    }

-- each number of a list is below a bound
abbrev pub all_below : ℕ → List ℕ → Bool
all_below b [] = true
all_below b (x ∷ xs) = ltb x b && all_below b xs

-- "20: list malformed: a cell too large for its field, .."
unfoldable pub head_in_range : List ℕ → Bool
head_in_range l =
    ltb (get_or l 0 0) (2 ^ 1)
    && (ltb (get_or l 1 0) (2 ^ 11)
    && (ltb (get_or l 2 0) (2 ^ 12)
    && (ltb (get_or l 3 0) (2 ^ s_bits rfc8331)
    && (ltb (get_or l 4 0) (2 ^ stream_bits rfc8331)
    && (ltb (get_or l 5 0) header_numbers
    && (ltb (get_or l 6 0) header_numbers && (ltb (cell_count l) header_numbers && leb (cell_index l) max_index)))))))

-- ".. a record cut"
unfoldable pub cell_checks : List ℕ → Checks
cell_checks l =
    (leb head_cells (length l), 20)
    ∷ (head_in_range l, 20)
    ∷ (leb (head_cells + cell_count l) (length l), 20)
    ∷ (all_below (2 ^ word_bits) (take (cell_count l) (drop head_cells l)), 20)
    ∷ []

-- the cells behind the record at the front
abbrev pub rest : List ℕ → List ℕ
rest l = drop (head_cells + cell_count l) l

-- the records of the cells `l`, the first with index `i`; the first argument bounds how many there can be
unfoldable pub records_from : ℕ → ℕ → List ℕ → Result (List Record)
records_from zero i [] = Ok []
records_from zero i (x ∷ l) = refuse 20 i
records_from (suc bound) i [] = Ok []
records_from (suc bound) i (x ∷ l) =
    judge i (cell_checks (x ∷ l))
    (records_from bound (i + 1) (rest (x ∷ l)) then λ rs. Ok (cell_record (x ∷ l) ∷ rs))

-- a list has at most as many records as cells
abbrev pub records_in : List ℕ → Result (List Record)
records_in l = records_from (length l) 0 l

-- 16, of the records of a list, the first with index `i`
unfoldable pub clear_from : ℕ → List Record → Result (List Record)
clear_from i [] = Ok []
clear_from i (r ∷ rs) =
    judge i ((all_clear r.words, 16) ∷ []) (clear_from (i + 1) rs then λ qs. Ok (r ∷ qs))

-- "in writing 16 with the record's index, after 20" (02, K5)
abbrev pub read_list : List ℕ → Result (List Record)
read_list l = records_in l then λ rs. clear_from 0 rs
