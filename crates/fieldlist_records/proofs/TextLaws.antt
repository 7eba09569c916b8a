-- ONE LINE A RECORD: the text of records is as many lines (01, "`fieldlist`").
-- By the pieces of a line, none of which ends it.
use mathlib.Core.Path.{refl}
use mathlib.Core.Bool.{Bool, true, false, cond}
use mathlib.Core.List.{List, [], ◌∷◌, ◌++◌}
use Prim.Native.Nat.{ℕ}
use Prim.Native.String.{String}
use native.Mathlib.Omega.{arith}
use lib.Dec.{eqb}
use lib.ListN.{length}
use Rattle.wire_spec.specs.Anc.{Record}
use Rattle.text.specs.Text.{ascii, decimal, hex}
use Rattle.text_laws.specs.Lines.{Printable, Ended, Lines}
use Rattle.text_laws.proofs.LineLaws.{
  ended-append,
  hex-printable,
  lines_more,
  number-printable,
  printable-append,
}
use Rattle.fieldlist_records.specs.Records.{
  labelled,
  labelled_hex,
  word_text,
  words_text,
  line_text,
  stream_text,
  location_text,
  type_text,
  data_text,
  record_text,
  record_texts,
}

-- a label and a number
pub labelled-printable : (label : String) (n : ℕ) → Printable (ascii label) → Printable (labelled label n)
labelled-printable label n h = printable-append (ascii label) (decimal n) h (number-printable n)

-- and what is printed before it
pub then-labelled : (s : List ℕ) (label : String) (n : ℕ) → Printable s → Printable (ascii label)
    → Printable (s ++ labelled label n)
then-labelled s label n h l = printable-append s (labelled label n) h (labelled-printable label n l)

hex-labelled : (label : String) (n : ℕ) → Printable (ascii label) → Printable (labelled_hex label n)
hex-labelled label n h = printable-append (ascii label) (hex 2 n) h (hex-printable 2 n)

line-printable : (c line : ℕ) → Printable (line_text c line)
unfolding line_text ascii
line-printable c line = go (eqb c 1)
  where
    go : (b : Bool) → Printable (cond b (labelled " c line=" line) (labelled " y line=" line))
    go true = labelled-printable " c line=" line (omega arith)
    go false = labelled-printable " y line=" line (omega arith)

stream-printable : (s stream : ℕ) → Printable (stream_text s stream)
unfolding ascii
stream-printable s stream =
    then-labelled (labelled " s=" s) "/" stream (labelled-printable " s=" s (omega arith)) (omega arith)

location-printable : (r : Record) → Printable (location_text r)
unfolding location_text ascii
location-printable r =
    let line = line_text r.c r.line in
    let front = then-labelled line " off=" r.offset (line-printable r.c r.line) (omega arith) in
    printable-append (line ++ labelled " off=" r.offset) _ front (stream-printable r.s r.stream)

type-printable : (did sdid : ℕ) → Printable (type_text did sdid)
unfolding ascii
type-printable did sdid =
    let first = hex-labelled " did=" did (omega arith) in
    printable-append (labelled_hex " did=" did) _ first (hex-labelled " sdid=" sdid (omega arith))

words-printable : (ws : List ℕ) → Printable (words_text ws)
unfolding ascii
words-printable [] = tt
words-printable (w ∷ ws) =
    printable-append (word_text w) (words_text ws) (omega arith, hex-printable 3 w) (words-printable ws)

data-ended : (r : Record) → Ended (data_text r)
unfolding data_text ascii
data-ended r =
    let type = type_text r.did r.sdid in
    let n = length r.words in
    let count = labelled " words=" n in
    let front = then-labelled type " words=" n (type-printable r.did r.sdid) (omega arith) in
    record {
      body = type ++ count ++ words_text r.words;
      is = refl;
      printable = printable-append (type ++ count) (words_text r.words) front (words-printable r.words);
    }

-- a record's text is one line
pub record-line : (r : Record) → Ended (record_text r)
record-line r = ended-append (location_text r) (data_text r) (location-printable r) (data-ended r)

-- records' text is a line for each
pub one-line-each : (rs : List Record) → Lines (length rs) (record_texts rs)
one-line-each [] = refl
one-line-each (r ∷ rs) =
    lines_more (record_text r) (record_texts rs) (length rs) (record-line r) (one-line-each rs)
