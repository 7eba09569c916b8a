-- The lines of records (01, "`fieldlist`").
use Rattle.std.specs.Prelude.{cond, List, [], ◌∷◌, ◌++◌, ℕ, eqb, length}
use Prim.Native.String.{String}
use Rattle.wire_spec.specs.Result.{Result, Err, Ok}
use Rattle.wire_spec.specs.Anc.{Record}
use Rattle.text.specs.Text.{ascii, decimal, hex}

-- "Numbers are decimal, .."
abbrev pub labelled : String → ℕ → List ℕ
labelled label n = ascii label ++ decimal n

-- ".. but did and sdid two lower-case hex digits"
abbrev pub labelled_hex : String → ℕ → List ℕ
labelled_hex label n = ascii label ++ hex 2 n

-- "each a space and three lower-case hex digits"
abbrev pub word_text : ℕ → List ℕ
word_text w = ascii " " ++ hex 3 w

-- "Words follow the count"
abbrev pub words_text : List ℕ → List ℕ
words_text [] = []
words_text (w ∷ ws) = word_text w ++ words_text ws

-- " y line=9"; "C gives `c`"
unfoldable pub line_text : (c line : ℕ) → List ℕ
line_text c line = cond (eqb c 1) (labelled " c line=" line) (labelled " y line=" line)

-- " s=0/0": "`s` is S and StreamNum"
abbrev pub stream_text : (s stream : ℕ) → List ℕ
stream_text s stream = labelled " s=" s ++ labelled "/" stream

-- " y line=9 off=0 s=0/0"
unfoldable pub location_text : Record → List ℕ
location_text r = line_text r.c r.line ++ labelled " off=" r.offset ++ stream_text r.s r.stream

-- " did=41 sdid=05"
abbrev pub type_text : (did sdid : ℕ) → List ℕ
type_text did sdid = labelled_hex " did=" did ++ labelled_hex " sdid=" sdid

-- " did=41 sdid=05 words=0", and the words
unfoldable pub data_text : Record → List ℕ
data_text r = type_text r.did r.sdid ++ labelled " words=" (length r.words) ++ words_text r.words ++ ascii "\n"

-- the line of a record
abbrev pub record_text : Record → List ℕ
record_text r = location_text r ++ data_text r

-- the lines of records in order
abbrev pub record_texts : List Record → List ℕ
record_texts [] = []
record_texts (r ∷ rs) = record_text r ++ record_texts rs

-- the lines of the records that a list of cells has; none where it is refused
abbrev pub list_text : Result (List Record) → List ℕ
list_text (Err x) = []
list_text (Ok rs) = record_texts rs

-- octets that the lines of a field's records may take, for each of their cells: what the code asks of the octets that it is lent
abbrev pub cell_room : ℕ
cell_room = 20
