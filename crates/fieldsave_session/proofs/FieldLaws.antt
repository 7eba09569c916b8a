-- What the writer answers for a field that is handed out: with room for any field, its octets or nothing.
-- By its checks: a field within its limits is small.
use mathlib.Core.Path.{◌≡◌, refl, ap, sym, ◌∙◌}
use mathlib.Core.Bool.{Bool, true, false}
use mathlib.Core.List.{List, [], ◌∷◌, append-nil}
use Prim.Native.Nat.{ℕ, ◌≤◌, min}
use native.Mathlib.Omega.{arith}
use borrow.Author.Tests.{le-leb, leb-true, leb-false}
use lib.Dec.{leb}
use lib.ListN.{length, take}
use lib.Seq.{take_all, take-length}
use Rattle.wire_spec.specs.declared.refusal.Refusal.{Refusal}
use Rattle.wire_spec.specs.declared.count.OctetCount.{OctetCount}
use Rattle.wire_spec.specs.Result.{Result, Err, Ok, judge, ◌then◌}
use Rattle.wire_spec.specs.Anc.{Record}
use Rattle.wire_spec.specs.Cells.{read_list}
use Rattle.wire_spec.specs.Writing.{max_field_records, max_field_cells}
use Rattle.wire_spec.specs.Written.{written_of, octets_after}
use Rattle.wire_spec.proofs.ResultLaws.{and-true}
use Rattle.fieldfile_spec.specs.File.{FieldContent, field_octets, fields_octets, field_records, field_size, file_f_ok, room_checks, within_limits, write_field, written_version}
use Rattle.fieldfile_spec.proofs.WritesLaws.{small, writes}
use Rattle.fieldfile_spec.proofs.FrontLaws.{length-field}
use Rattle.text.specs.Put.{Put}
use Rattle.text.proofs.PutLaws.{nothing, same}
use Rattle.wire_spec.specs.Packet.{read_content}
use Rattle.depacketizer.specs.declared.state.Depacketizer.{Depacketizer}
use Rattle.depacketizer_spec.specs.declared.state.Answer.{Answer}
use Rattle.depacketizer_spec.specs.declared.state.Field.{Field}
use Rattle.depacketizer_spec.specs.Step.{step}
use Rattle.fieldlist_session.specs.declared.session.Session.{Session}
use Rattle.fieldlist_session.specs.Session.{entered, layout_in}
use Rattle.fieldsave_session.specs.Answers.{octets_in}
use Rattle.fieldsave_session.specs.Filing.{field_in, field_room, filed_as, handed, handed_at, handed_by, records_to_file}

-- records within the limits fit
fits : (cells : List ℕ) (rs : List Record) → read_list cells ≡ Ok rs → within_limits (length rs) (length cells) ≡ true → field_size written_version rs ≤ field_room
fits cells rs e w =
    let l = leb-true (length cells) max_field_cells (and-true (leb (length rs) max_field_records) (leb (length cells) max_field_cells) w).1 in
    omega (arith, small cells rs e l)

-- WITH ROOM FOR ANY FIELD the writer takes what is to be filed: 23 is never given
pub enough : (f : ℕ) (cells : List ℕ) (room : ℕ) → field_room ≤ room → field_records f cells room ≡ records_to_file f cells
enough f cells room h = ap (judge 0 ((file_f_ok f, 53) ∷ [])) (go (read_list cells) refl)
  where
    limit : (rs : List Record) → read_list cells ≡ Ok rs → (b : Bool) → within_limits (length rs) (length cells) ≡ b
        → judge 0 ((b, 21) ∷ (leb (field_size written_version rs) room, 23) ∷ []) (Ok rs) ≡ judge 0 ((b, 21) ∷ []) (Ok rs)
    limit rs e false w = refl
    limit rs e true w = rw (le-leb (field_size written_version rs) room (omega (arith, fits cells rs e w, h))) refl

    go : (r : Result (List Record)) → read_list cells ≡ r
        → (r then λ rs. judge 0 (room_checks rs (length cells) room) (Ok rs)) ≡ (r then λ rs. judge 0 ((within_limits (length rs) (length cells), 21) ∷ []) (Ok rs))
    go (Err x) e = refl
    go (Ok rs) e = limit rs e (within_limits (length rs) (length cells)) refl

-- the field's cells, where the store has fewer
pub take-least : (n m : ℕ) (s : List ℕ) → m ≡ min n (length s) → take m s ≡ take n s
take-least n m s e = go (leb n (length s)) refl
  where
    go : (b : Bool) → leb n (length s) ≡ b → take m s ≡ take n s
    go true h =
        let l = leb-true n (length s) h in
        let k : m ≡ n = omega (arith, l) in
        ap (λ (j : ℕ). take j s) k
    go false h =
        let l = leb-false n (length s) h in
        let k : m ≡ length s = omega (arith, l) in
        ap (λ (j : ℕ). take j s) k ∙ take-length s ∙ sym (take_all n s (omega (arith, l)))

-- A FIELD IS PUT, or nothing is: as the writer answered
module _ (x : Field) (cells out : List ℕ) (room : field_room ≤ length out) where
  abbrev content : List Record → FieldContent
  content rs = record { timestamp = x.timestamp.0; f = x.f; records = rs }

  abbrev written_as : Result (List Record) → Result (List ℕ)
  written_as r = r then λ rs. Ok (field_octets written_version (content rs))

  put-by : (r : Result (List Record)) → field_records x.f cells (length out) ≡ r
      → Put out 0 (fields_octets written_version (filed_as x r)) (octets_after (written_as r) out) (octets_in (written_of (written_as r)))
  put-by (Err y) e = nothing out 0 (omega arith)
  put-by (Ok rs) e =
      let o = field_octets written_version (content rs) in
      let w = writes x.f cells (length out) rs e in
      let l = length-field written_version (content rs) in
      same (sym (append-nil o)) (record { room = omega (arith, l, w.enough); behind = omega arith; octets = refl })

  pub put_written : (store : List ℕ) → cells ≡ take x.cells store → (w : Result OctetCount) (out' : List ℕ) (n : ℕ)
      → w ≡ written_of (write_field x.timestamp.0 x.f cells (length out)) → out' ≡ octets_after (write_field x.timestamp.0 x.f cells (length out)) out → n ≡ octets_in w
      → Put out 0 (fields_octets written_version (field_in x store)) out' n
  put_written store c w out' n a o k =
      let p = put-by (field_records x.f cells (length out)) refl in
      let e : field_records x.f cells (length out) ≡ records_to_file x.f (take x.cells store) = enough x.f cells (length out) room ∙ ap (records_to_file x.f) c in
      let q = same (ap (λ (r : Result (List Record)). fields_octets written_version (filed_as x r)) e) p in
      record { room = q.room; behind = k ∙ ap octets_in a ∙ q.behind; octets = o ∙ q.octets }

-- an answer that hands out no field puts nothing
pub no_field : (y : Answer) (store out : List ℕ) → handed_by y store ≡ [] → Put out 0 (fields_octets written_version (handed_by y store)) out 0
no_field y store out e = same (sym (ap (fields_octets written_version) e)) (nothing out 0 (omega arith))

-- WHAT A PACKET COMPLETES, from what the code found
module _ (v : Session) (octets store : List ℕ) (o : Result Depacketizer) (entry : o ≡ entered v (read_content (layout_in v) octets)) where
  by : (p : Result Depacketizer) → o ≡ p → handed v octets store ≡ handed_at (layout_in v) octets store p
  unfolding handed
  by p e = ap (handed_at (layout_in v) octets store) (sym entry ∙ e)

  -- no depacketizer, and none opened
  pub handed-refused : (x : Refusal) → o ≡ Err x → handed v octets store ≡ []
  handed-refused x e = by (Err x) e

  -- one that is open
  pub handed-arrived : (d : Depacketizer) → o ≡ Ok d
      → handed v octets store ≡ handed_by (step d.state (layout_in v) octets store).answer (step d.state (layout_in v) octets store).store
  handed-arrived d e = by (Ok d) e
