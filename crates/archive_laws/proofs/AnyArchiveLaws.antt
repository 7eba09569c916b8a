-- Nothing in an archive is invented.
-- The session's packets keep what every step keeps (`AnyLaws`); all that is handed out is filed, and its cells tell its records.
use Rattle.depacketizer.specs.declared.state.Depacketizer.{Depacketizer}
use mathlib.Core.Path.{◌≡◌, refl, ap, sym, subst, ◌∙◌}
use mathlib.Core.Bool.{Bool, true, false}
use mathlib.Core.List.{List, [], ◌∷◌, ◌++◌, append_assoc}
use Prim.Native.Nat.{ℕ, ◌+◌}
use native.Mathlib.Omega.{arith}
use lib.Dec.{leb}
use Rattle.wire_spec.specs.Bits.{Below}
use Rattle.wire_spec.specs.Layout.{Layout}
use Rattle.wire_spec.specs.Result.{Result, Err, Ok, judge}
use Rattle.wire_spec.specs.Anc.{Each}
use Rattle.wire_spec.specs.Cells.{Lists}
use Rattle.wire_spec.specs.Packet.{Content, read_content}
use Rattle.wire_spec.specs.Writing.{max_type}
use Rattle.wire_spec.proofs.ListLaws.{each_append}
use Rattle.fieldfile_spec.specs.File.{FieldContent, FileRead}
use Rattle.rtp_frames.specs.Frames.{frames}
use Rattle.depacketizer.specs.Answers.{opened_of}
use Rattle.depacketizer_spec.specs.declared.state.State.{State}
use Rattle.depacketizer_spec.specs.Step.{Step, gathered, open_state, step}
use Rattle.depacketizer_spec.specs.Stream.{Handed, handed_by, joined_cells}
use Rattle.depacketizer_spec.specs.Delivery.{joined}
use Rattle.depacketizer_spec.proofs.DeliveryLaws.{cells-joined}
use Rattle.fieldlist_session.specs.declared.session.Session.{Session}
use Rattle.fieldlist_session.specs.declared.session.Session.TheVariants as session
use Rattle.fieldlist_session.specs.Session.{number_of, opening, turn, turn_by}
use Rattle.fieldsave_session.specs.Filing.{fields_in}
use Rattle.fieldsave_laws.specs.Filed.{EachFiled, Filed, whole_at, wholes_of}
use Rattle.fieldsave_laws.proofs.AllFiled.{none-left-out}
use Rattle.fieldsave_laws.proofs.FiledLaws.{one_list, reads-back}
use Rattle.fieldsave_laws.proofs.FormedLaws.{frames-below}
use Rattle.archive_laws.specs.Any.{Heard, OneField, VouchedIn, heard_by, parts_of}
use Rattle.archive_laws.specs.AnyArchive.{NothingInvented, WrittenBy, fresh_at, fresh_in}
use Rattle.archive_laws.proofs.GatherLaws.{Gathers, parts-length}
use Rattle.archive_laws.proofs.AnyLaws.{longer, step_keeps, up-to-here}

-- AN OPEN SESSION
open-vouches : (source type : ℕ) (L : Layout) (fresh : List Heard) (ps : List (List ℕ)) → Each (Below 256) ps → (st : State) (store : List ℕ) → st.source ≡ source → st.payload_type ≡ type
    → Gathers source type fresh store st.last.0 (gathered st)
    → let s : Session = session.Open L (record { state = st }) in
    Each (VouchedIn source type (fresh ++ fresh_in s store ps)) (wholes_of s store ps)
unfolding turn
open-vouches source type L fresh [] b st store s t g = tt
open-vouches source type L fresh (p ∷ ps) b st store s t g =
    let z : Step = step st L p store in
    let w = step_keeps source type fresh L p store b.0 st s t g in
    let here = fresh ++ heard_by L p z.answer in
    let rest = fresh_in (session.Open L (record { state = z.state })) z.store ps in
    let more = wholes_of (session.Open L (record { state = z.state })) z.store ps in
    subst (λ (l : List Heard). Each (VouchedIn source type l) (handed_by z.answer z.store ++ more)) (append_assoc fresh (heard_by L p z.answer) rest)
    (each_append (VouchedIn source type (here ++ rest)) (handed_by z.answer z.store) more
    (longer source type here rest (handed_by z.answer z.store) (up-to-here source type here (handed_by z.answer z.store) w.vouches))
    (open-vouches source type L here ps b.1 z.state z.store w.opened w.typed w.gathers))

-- A WAITING SESSION: no packet opens it, or one does
abbrev Vouches : Layout → List ℕ → List (List ℕ) → Type 0
Vouches L store ps = (source type : ℕ) × Each (VouchedIn source type (fresh_in (session.Waiting L) store ps)) (wholes_of (session.Waiting L) store ps)

module _ (L : Layout) (store p : List ℕ) (ps : List (List ℕ)) (b : Each (Below 256) (p ∷ ps)) (later : Vouches L store ps) where
  -- by what the packet opens
  abbrev ByOpened : Result Depacketizer → Type 0
  ByOpened o =
      (source type : ℕ)
      × Each (VouchedIn source type (fresh_at L p store o ++ fresh_in (turn_by (session.Waiting L) (number_of (read_content L p)) p store o).session (turn_by (session.Waiting L) (number_of (read_content L p)) p store o).store ps))
      (whole_at L p store o ++ wholes_of (turn_by (session.Waiting L) (number_of (read_content L p)) p store o).session (turn_by (session.Waiting L) (number_of (read_content L p)) p store o).store ps)

  judged : (x : Bool) (source type : ℕ) → ByOpened (opened_of (judge 0 ((x, 24) ∷ []) (Ok (open_state source type))))
  unfolding turn
  judged true source type = (source, type, open-vouches source type L [] (p ∷ ps) b (open_state source type) store refl refl tt)
  judged false source type = later

  read : (k : Result Content) → ByOpened (opening k)
  read (Err x) = later
  read (Ok k) = judged (leb k.type max_type) k.source k.type

  first-vouches : Vouches L store (p ∷ ps)
  unfolding turn
  first-vouches = read (read_content L p)

vouches : (L : Layout) (store : List ℕ) (ps : List (List ℕ)) → Each (Below 256) ps → Vouches L store ps
vouches L store [] b = (0, 0, tt)
vouches L store (p ∷ ps) b = first-vouches L store p ps b (vouches L store ps b.1)

-- WHAT IS FILED is what they say
filed-written : (source type : ℕ) (fresh : List Heard) (x : Handed) (k : FieldContent) → Filed x k → VouchedIn source type fresh x → WrittenBy source type fresh k
filed-written source type fresh x k h v =
    let t = v.3.0 in
    let f = v.3.1 in
    let ps = v.3.2 in
    let o = v.3.3 in
    let e = v.3.4 in
    let is-time : k.timestamp ≡ t = h.0 ∙ ap (λ (y : Handed). y.timestamp) e in
    let is_f : k.f ≡ f = h.1 ∙ ap (λ (y : Handed). y.f) e in
    let said = one_list k.records (joined (parts_of ps)) (joined_cells (parts_of ps)) (subst (λ (y : Handed). Lists k.records y.content) e h.3)
    (cells-joined 0 (parts_of ps) (omega (arith, parts-length ps, o.few_packets))) in
    (v.0, v.1, v.2, ps, subst (λ (y : ℕ). OneField source type v.0 y k.f ps) (sym is-time) (subst (λ (y : ℕ). OneField source type v.0 t y ps) (sym is_f) o), said)

all-written : (source type : ℕ) (fresh : List Heard) (xs : List Handed) (ks : List FieldContent) → EachFiled xs ks → Each (VouchedIn source type fresh) xs → Each (WrittenBy source type fresh) ks
all-written source type fresh [] [] h v = tt
all-written source type fresh [] (k ∷ ks) h v = absurd h
all-written source type fresh (x ∷ xs) [] h v = absurd h
all-written source type fresh (x ∷ xs) (k ∷ ks) h v = (filed-written source type fresh x k h.0 v.0, all-written source type fresh xs ks h.1 v.1)

-- NOTHING IS INVENTED
pub nothing-invented : NothingInvented
nothing-invented L store input below =
    let ps = (frames input).packets in
    let v = vouches L store ps (frames-below input below) in
    let source = v.0 in
    let type = v.1 in
    let fresh = fresh_in (session.Waiting L) store ps in
    let back = ap (λ (r : FileRead). r.fields) (reads-back L store input below) in (
      source,
      type,
      subst (Each (WrittenBy source type fresh)) (sym back)
          (all-written source type fresh (wholes_of (session.Waiting L) store ps) (fields_in L store input) (none-left-out L store input below) v.2),
    )
