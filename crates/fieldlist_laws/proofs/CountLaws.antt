-- The lines of a listing, counted.
-- Packet by packet: what is gathered stands in the store as records (`fieldsave_laws`), and each is a line.
use Rattle.depacketizer.specs.declared.state.Depacketizer.{Depacketizer}
use mathlib.Core.Path.{◌≡◌, refl, subst}
use mathlib.Core.Bool.{Bool, true, false}
use mathlib.Core.List.{List, [], ◌∷◌, ◌++◌}
use Prim.Native.Nat.{ℕ, suc, ◌+◌}
use native.Mathlib.Omega.{arith}
use lib.ListN.{length, take}
use Rattle.wire_spec.specs.Bits.{Below}
use Rattle.wire_spec.specs.Result.{Result, Err, Ok, Checks}
use Rattle.wire_spec.specs.Anc.{Each, Record}
use Rattle.wire_spec.specs.Packet.{read_content}
use Rattle.wire_spec.proofs.WritingLaws.{passes}
use Rattle.fieldfile_spec.specs.File.{file_f_ok, within_limits}
use Rattle.rtp_frames.specs.Frames.{frames}
use Rattle.depacketizer_spec.specs.declared.state.Answer.{Answer}
use Rattle.depacketizer_spec.specs.declared.state.Answer.TheVariants as answer
use Rattle.depacketizer_spec.specs.declared.state.Field.{Field}
use Rattle.depacketizer_spec.specs.Step.{Step, step}
use Rattle.depacketizer_spec.specs.Stream as stream
use Rattle.depacketizer_spec.specs.Stream.{Handed}
use Rattle.text.specs.Text.{ascii}
use Rattle.text_laws.specs.Lines.{Ended, Lines}
use Rattle.text_laws.proofs.LineLaws.{lines-append, one_line}
use Rattle.fieldlist_lines.specs.Lines.{answer_text}
use Rattle.fieldlist_lines.proofs.TextLaws.{
  counts-line,
  field-lines,
  held-line,
  mixed-line,
  overfull-line,
  refusal-line,
  refused-line,
  skipped-line,
}
use Rattle.fieldlist_session.specs.declared.session.Session.{Session}
use Rattle.fieldlist_session.specs.declared.session.Session.TheVariants as session
use Rattle.fieldlist_session.specs.Session.{
  counts_of,
  cut_text,
  end_text,
  entered,
  layout_in,
  listing,
  number_of,
  remaining,
  run,
  title,
  turn,
  turn_by,
}
use Rattle.fieldsave_session.specs.Filing.{filed_as, handed, handed_at, handed_by, records_to_file}
use Rattle.fieldsave_laws.specs.Filed.{EachFiled, whole_at, wholes_of}
use Rattle.fieldsave_laws.proofs.AllFiled.{SessionHolds, packet-filed}
use Rattle.fieldsave_laws.proofs.FormedLaws.{frames-below}
use Rattle.fieldlist_laws.specs.Listed.{records_in, cut_lines, ListedInLines}

records-append : (xs ys : List Handed) → records_in (xs ++ ys) ≡ records_in xs + records_in ys
records-append [] ys = omega arith
records-append (x ∷ xs) ys = omega (arith, records-append xs ys)

-- A WHOLE FIELD has as many lines after its own as the answer tells records
whole-lines : (n : ℕ) (x : Field) (store : List ℕ)
    → EachFiled (stream.handed_by (answer.Whole x) store) (handed_by (answer.Whole x) store)
    → Lines (1 + (x.records + 0)) (answer_text n (answer.Whole x) store)
whole-lines n x store = go (records_to_file x.f (take x.cells store)) refl
  where
    go : (r : Result (List Record)) → records_to_file x.f (take x.cells store) ≡ r
        → EachFiled (stream.handed_by (answer.Whole x) store) (filed_as x r)
        → Lines (1 + (x.records + 0)) (answer_text n (answer.Whole x) store)
    go (Err y) e h = absurd h
    go (Ok rs) e h =
        let c = take x.cells store in
        let limits : List Record → Checks = λ l. (within_limits (length l) (length c), 21) ∷ [] in
        let read = (passes ((file_f_ok x.f, 53) ∷ []) limits c rs e).reads in
        let count : suc (length rs) ≡ 1 + (x.records + 0) = omega (arith, h.0.2) in
        subst (λ (j : ℕ). Lines j (answer_text n (answer.Whole x) store)) count (field-lines n store x rs read)

-- every other answer is one line
answer-lines : (n : ℕ) (a : Answer) (store : List ℕ) → EachFiled (stream.handed_by a store) (handed_by a store)
    → Lines (1 + records_in (stream.handed_by a store)) (answer_text n a store)
answer-lines n answer.Skipped store h = one_line _ (skipped-line n store)
answer-lines n answer.Held store h = one_line _ (held-line n store)
answer-lines n answer.Mixed store h = one_line _ (mixed-line n store)
answer-lines n answer.Overfull store h = one_line _ (overfull-line n store)
answer-lines n (answer.Whole x) store h = whole-lines n x store h
answer-lines n (answer.Refused x) store h = one_line _ (refusal-line n store x)

-- ONE PACKET
turn_lines : (s : Session) (n : ℕ) (p store : List ℕ) (o : Result Depacketizer)
    → EachFiled (whole_at (layout_in s) p store o) (handed_at (layout_in s) p store o)
    → Lines (1 + records_in (whole_at (layout_in s) p store o)) (turn_by s n p store o).text
turn_lines s n p store (Err x) h = one_line _ (refused-line n store x)
turn_lines s n p store (Ok d) h =
    let x : Step = step d.state (layout_in s) p store in answer-lines n x.answer x.store h

-- what a packet completes
abbrev completed : Session → (p store : List ℕ) → List Handed
completed s p store = whole_at (layout_in s) p store (entered s (read_content (layout_in s) p))

packet-lines : (s : Session) (p store : List ℕ) → EachFiled (completed s p store) (handed s p store)
    → Lines (1 + records_in (completed s p store)) (turn s p store).text
unfolding turn handed
packet-lines s p store h =
    let k = read_content (layout_in s) p in turn_lines s (number_of k) p store (entered s k) h

-- ALL PACKETS
run-lines : (s : Session) (store : List ℕ) (ps : List (List ℕ)) → Each (Below 256) ps → SessionHolds s store
    → Lines (length ps + records_in (wholes_of s store ps)) (run s store ps).text
run-lines s store [] b h = refl
run-lines s store (p ∷ ps) b h =
    let q = packet-filed s p store b.0 h in
    let x = turn s p store in
    let here = completed s p store in
    let after = wholes_of x.session x.store ps in
    let rest = (run x.session x.store ps).text in
    let first = packet-lines s p store q.1 in
    let others = run-lines x.session x.store ps b.1 q.0 in
    let m = 1 + records_in here in
    let n = length ps + records_in after in
    let sum = records-append here after in
    let count : m + n ≡ length (p ∷ ps) + records_in (here ++ after) = omega (arith, sum) in
    subst (λ (j : ℕ). Lines j (x.text ++ rest)) count (lines-append m n x.text rest first others)

-- the last lines
counts_of_lem : (s : Session) → Ended (counts_of s)
counts_of_lem (session.Waiting L) = counts-line 0 0 0
counts_of_lem (session.Open L d) = counts-line d.state.fresh d.state.late d.state.missing

cut-lines : (broken : Bool) → Lines (cut_lines broken) (cut_text broken)
unfolding cut_text ascii
cut-lines true = one_line (ascii "cut\n") (record { body = ascii "cut"; is = refl; printable = omega arith })
cut-lines false = refl

end-lines : (broken : Bool) (s : Session) → Lines (cut_lines broken + 1) (end_text broken s)
end-lines broken s =
    let counts = one_line _ (counts_of_lem s) in
    lines-append (cut_lines broken) 1 (cut_text broken) (counts_of s) (cut-lines broken) counts

title-line : Ended title
unfolding ascii
title-line = record { body = ascii "fieldlist 1"; is = refl; printable = omega arith }

-- THE WHOLE OUTPUT
pub listed-in-lines : ListedInLines
unfolding listing remaining
listed-in-lines L store input below =
    let f = frames input in
    let s = session.Waiting L in
    let printed = run s store f.packets in
    let packets = run-lines s store f.packets (frames-below input below) tt in
    let last = end-lines f.broken printed.session in
    let m = length f.packets + records_in (wholes_of s store f.packets) in
    let n = cut_lines f.broken + 1 in
    let rest = printed.text ++ end_text f.broken printed.session in
    let all = lines-append m n printed.text (end_text f.broken printed.session) packets last in
    lines-append 1 (m + n) title rest (one_line title title-line) all
