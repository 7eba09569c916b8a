-- The lines of `fieldlist` (01, "`fieldlist`"), but for those of records.
use Rattle.std.specs.Prelude.{cond, List, ◌++◌, ℕ, eqb, take}
use Prim.Native.String.{String}
use Rattle.wire_spec.specs.declared.refusal.Refusal.{Refusal}
use Rattle.wire_spec.specs.Cells.{read_list}
use Rattle.depacketizer_spec.specs.declared.state.Answer.{Answer}
use Rattle.depacketizer_spec.specs.declared.state.Answer.TheVariants as answer
use Rattle.depacketizer_spec.specs.declared.state.Field.{Field}
use Rattle.text.specs.Text.{ascii, decimal}
use Rattle.fieldlist_records.specs.Records.{labelled, list_text}

-- "8 whole ts=2501 f=3 records=1"
unfoldable pub whole_text : ℕ → Field → List ℕ
whole_text n x =
    decimal n ++ labelled " whole ts=" x.timestamp.0 ++ labelled " f=" x.f ++ labelled " records=" x.records ++ ascii "\n"

-- behind it the lines of the field's records
abbrev pub field_text : ℕ → Field → List ℕ → List ℕ
field_text n x store = whole_text n x ++ list_text (read_list (take x.cells store))

-- "refused CODE INDEX"
unfoldable pub refused_text : Refusal → List ℕ
refused_text x = labelled "refused " x.number ++ labelled " " x.index ++ ascii "\n"

-- "7 skipped": a packet's number, and what became of it
abbrev pub numbered : ℕ → String → List ℕ
numbered n text = decimal n ++ ascii text

-- "8 late" is refusal 32; for any other "refused CODE INDEX"
abbrev pub refusal_text : ℕ → Refusal → List ℕ
refusal_text n x = cond (eqb x.number 32) (numbered n " late\n") (refused_text x)

-- the answer to packet `n`, over the store as it then is: "Others: `N held`, `N mixed`, `N overfull`"
abbrev pub answer_text : ℕ → Answer → List ℕ → List ℕ
answer_text n answer.Skipped store = numbered n " skipped\n"
answer_text n answer.Held store = numbered n " held\n"
answer_text n answer.Mixed store = numbered n " mixed\n"
answer_text n answer.Overfull store = numbered n " overfull\n"
answer_text n (answer.Whole x) store = field_text n x store
answer_text n (answer.Refused x) store = refusal_text n x

-- "fresh=3 late=1 missing=1"
unfoldable pub counts_text : (fresh late missing : ℕ) → List ℕ
counts_text f l m = labelled "fresh=" f ++ labelled " late=" l ++ labelled " missing=" m ++ ascii "\n"
