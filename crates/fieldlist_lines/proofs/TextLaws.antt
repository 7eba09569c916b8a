-- What each answer is printed as (01, "`fieldlist`"), whatever its numbers: "Others: `N held`, `N mixed`,
-- `N overfull`, `refused CODE INDEX`"; only 32 is `late`; a whole field has its line and one for each of
-- its records.
use mathlib.Core.Path.{◌≡◌, refl}
use mathlib.Core.Bool.{Bool, true, false, cond}
use mathlib.Core.List.{List, ◌++◌, append_assoc}
use Prim.Native.Nat.{ℕ, suc}
use native.Mathlib.Omega.{arith}
use borrow.Author.Tests.{eq-eqb, ne_eqb}
use lib.Dec.{eqb}
use lib.ListN.{length, take}
use Rattle.wire_spec.specs.declared.refusal.Refusal.{Refusal}
use Rattle.wire_spec.specs.Anc.{Record}
use Rattle.wire_spec.specs.Cells.{read_list}
use Rattle.wire_spec.specs.Result.{Ok}
use Rattle.depacketizer_spec.specs.declared.state.Answer.TheVariants as answer
use Rattle.depacketizer_spec.specs.declared.state.Field.{Field}
use Rattle.text.specs.Text.{ascii, decimal}
use Rattle.text_laws.specs.Lines.{Ended, Lines}
use Rattle.text_laws.proofs.LineLaws.{ended-append, lines_more, number-printable}
use Rattle.fieldlist_records.specs.Records.{labelled}
use Rattle.fieldlist_records.proofs.TextLaws.{labelled-printable, one-line-each, then-labelled}
use Rattle.fieldlist_lines.specs.Lines.{answer_text, counts_text, refused_text, whole_text}

module _ (n : ℕ) (store : List ℕ) where
  pub skipped-said : answer_text n answer.Skipped store ≡ decimal n ++ ascii " skipped\n"
  skipped-said = refl

  pub held-said : answer_text n answer.Held store ≡ decimal n ++ ascii " held\n"
  held-said = refl

  pub mixed-said : answer_text n answer.Mixed store ≡ decimal n ++ ascii " mixed\n"
  mixed-said = refl

  pub overfull-said : answer_text n answer.Overfull store ≡ decimal n ++ ascii " overfull\n"
  overfull-said = refl

  -- "8 late"
  pub late-said : (x : Refusal) → x.number ≡ 32
      → answer_text n (answer.Refused x) store ≡ decimal n ++ ascii " late\n"
  late-said x e = rw (eq-eqb x.number 32 e)

  -- any other refusal, 36 among them
  pub refusal-said : (x : Refusal) → (x.number ≡ 32 → ⊥)
      → answer_text n (answer.Refused x) store
      ≡ ascii "refused " ++ (decimal x.number ++ (ascii " " ++ (decimal x.index ++ ascii "\n")))
  unfolding refused_text ascii
  refusal-said x other = rw (ne_eqb x.number 32 other) (simp append_assoc)

  -- each of these is one line
  numbered-line : (words : List ℕ) → Ended words → Ended (decimal n ++ words)
  numbered-line words h = ended-append (decimal n) words (number-printable n) h

  pub skipped-line : Ended (answer_text n answer.Skipped store)
  unfolding ascii
  skipped-line = numbered-line _ (record { body = ascii " skipped"; is = refl; printable = omega arith })

  pub held-line : Ended (answer_text n answer.Held store)
  unfolding ascii
  held-line = numbered-line _ (record { body = ascii " held"; is = refl; printable = omega arith })

  pub mixed-line : Ended (answer_text n answer.Mixed store)
  unfolding ascii
  mixed-line = numbered-line _ (record { body = ascii " mixed"; is = refl; printable = omega arith })

  pub overfull-line : Ended (answer_text n answer.Overfull store)
  unfolding ascii
  overfull-line = numbered-line _ (record { body = ascii " overfull"; is = refl; printable = omega arith })

  pub refused-line : (x : Refusal) → Ended (refused_text x)
  unfolding refused_text ascii
  refused-line x =
      let code = labelled "refused " x.number in
      let front = labelled-printable "refused " x.number (omega arith) in
      record {
        body = code ++ labelled " " x.index;
        is = refl;
        printable = then-labelled code " " x.index front (omega arith);
      }

  pub refusal-line : (x : Refusal) → Ended (answer_text n (answer.Refused x) store)
  unfolding ascii
  refusal-line x = go (eqb x.number 32)
    where
      late : Ended (decimal n ++ ascii " late\n")
      late = numbered-line _ (record { body = ascii " late"; is = refl; printable = omega arith })

      go : (b : Bool) → Ended (cond b (decimal n ++ ascii " late\n") (refused_text x))
      go true = late
      go false = refused-line x

  whole-line : (x : Field) → Ended (whole_text n x)
  unfolding whole_text ascii
  whole-line x =
      let time = labelled " whole ts=" x.timestamp.0 in
      let f = labelled " f=" x.f in
      let records = labelled " records=" x.records in
      let a = then-labelled (decimal n) " whole ts=" x.timestamp.0 (number-printable n) (omega arith) in
      let b = then-labelled (decimal n ++ time) " f=" x.f a (omega arith) in
      let all = then-labelled (decimal n ++ time ++ f) " records=" x.records b (omega arith) in
      record { body = decimal n ++ time ++ f ++ records; is = refl; printable = all }

  -- ONE LINE A RECORD, after the field's own
  pub field-lines : (x : Field) (rs : List Record) → read_list (take x.cells store) ≡ Ok rs
      → Lines (suc (length rs)) (answer_text n (answer.Whole x) store)
  field-lines x rs e = rw e (lines_more (whole_text n x) _ (length rs) (whole-line x) (one-line-each rs))

-- the line of the counts
pub counts-line : (fresh late missing : ℕ) → Ended (counts_text fresh late missing)
unfolding counts_text ascii
counts-line f l m =
    let fresh = labelled "fresh=" f in
    let late = labelled " late=" l in
    let a = labelled-printable "fresh=" f (omega arith) in
    let b = then-labelled fresh " late=" l a (omega arith) in
    record {
      body = fresh ++ late ++ labelled " missing=" m;
      is = refl;
      printable = then-labelled (fresh ++ late) " missing=" m b (omega arith);
    }
