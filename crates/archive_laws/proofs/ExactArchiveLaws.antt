-- The archive of any recording is exactly what its fresh packets tell.
-- Packet by packet: what each hands out is what it completes of them (`ExactLaws`); all of it is filed.
use Rattle.depacketizer.specs.declared.state.Depacketizer.{Depacketizer}
use mathlib.Core.Path.{◌≡◌, refl, ap, ap₂, sym, subst, ◌∙◌}
use mathlib.Core.Bool.{Bool, true, false, cond, ◌&&◌}
use mathlib.Core.List.{List, [], ◌∷◌, ◌++◌, append-nil, map, nil≢cons}
use mathlib.Core.Logic.{◌⊎◌, inl, inr}
use Prim.Native.Nat.{ℕ, ◌+◌, ◌≤◌}
use native.Mathlib.Omega.{arith}
use borrow.Author.Tests.{leb-true}
use lib.Dec.{leb}
use lib.ListN.{length}
use Rattle.wire_spec.specs.declared.refusal.Refusal.{Refusal}
use Rattle.wire_spec.specs.Bits.{Below}
use Rattle.wire_spec.specs.Layout.{Layout}
use Rattle.wire_spec.specs.Result.{Result, Err, Ok, judge}
use Rattle.wire_spec.specs.Anc.{Each}
use Rattle.wire_spec.specs.Packet.{Content, read_content}
use Rattle.wire_spec.specs.Writing.{max_field_cells, max_field_packets, max_field_records, max_type}
use Rattle.wire_spec.proofs.ResultLaws.{and-true, judge-accepts}
use Rattle.wire_spec.proofs.ListLaws.{each_append, map-append}
use Rattle.fieldfile_spec.specs.File.{FieldContent, end_of_file}
use Rattle.rtp_frames.specs.Frames.{frames}
use Rattle.depacketizer.specs.Answers.{opened_of}
use Rattle.depacketizer_spec.specs.declared.state.State.{State}
use Rattle.depacketizer_spec.specs.declared.state.Answer.{Answer}
use Rattle.depacketizer_spec.specs.declared.state.Answer.TheVariants as answer
use Rattle.depacketizer_spec.specs.Step.{Step, admission, admit, gathered, marked, open_state, sound, step}
use Rattle.depacketizer_spec.specs.Laws.{IsFresh}
use Rattle.depacketizer_spec.specs.Stream.{Handed, handed_by, joined_cells, record_count}
use Rattle.depacketizer_spec.specs.Delivery.{joined}
use Rattle.depacketizer_spec.proofs.CheckLaws.{length-after}
use Rattle.depacketizer_spec.proofs.DeliveryLaws.{cells-joined}
use Rattle.depacketizer_spec.proofs.StepLaws.{passed, step-refused}
use Rattle.fieldlist_session.specs.declared.session.Session.{Session}
use Rattle.fieldlist_session.specs.declared.session.Session.TheVariants as session
use Rattle.fieldlist_session.specs.Session.{number_of, opening, turn, turn_by}
use Rattle.fieldsave_session.specs.Filing.{fields_in}
use Rattle.fieldsave_laws.specs.Filed.{EachFiled, whole_at, wholes_of}
use Rattle.fieldsave_laws.proofs.AllFiled.{none-left-out}
use Rattle.fieldsave_laws.proofs.FiledLaws.{one_list, reads-back}
use Rattle.fieldsave_laws.proofs.FormedLaws.{frames-below}
use Rattle.archive_laws.specs.Any.{Accepted, Heard, Vouched, heard_by, parts_of, said_by}
use Rattle.archive_laws.specs.AnyArchive.{fresh_at, fresh_in}
use Rattle.archive_laws.specs.Exact.{ExactArchive, in_sequence, of_field, whole_fields, whole_of, within, written}
use Rattle.archive_laws.proofs.GatherLaws.{Gathers, parts-length, read-sized, takes-own}
use Rattle.archive_laws.proofs.AnyLaws.{Keeps, step_keeps}
use Rattle.archive_laws.proofs.NoneLostLaws.{Complete, Full, step-full}
use Rattle.archive_laws.proofs.ExactLaws.{Bit, after-append, handed_as, held_after, lead_after, packet-exact, whole_append}

-- WHAT A STEP ADDS: nothing, and nothing is handed out; or its packet, accepted
record Adds (source type : ℕ) (heard : List Heard) (z : Step) : Type 0 where
  pub packet : Heard
  pub is : heard ≡ packet ∷ []
  pub accepts : Accepted source type packet
  pub bit : Bit packet
  pub fresh : IsFresh z.answer

abbrev News : (source type : ℕ) → List Heard → Step → Type 0
News source type heard z = ((heard ≡ []) × (handed_by z.answer z.store ≡ [])) ⊎ Adds source type heard z

absurd-refused : {A : Type 0} (y : Answer) (x : Refusal) → (n : Answer → ℕ) → y ≡ answer.Refused x → (n y ≡ n (answer.Refused x) → ⊥) → A
absurd-refused y x n e h = absurd (h (ap n e))

abbrev is_refused : Answer → ℕ
is_refused answer.Skipped = 0
is_refused answer.Held = 0
is_refused answer.Mixed = 0
is_refused answer.Overfull = 0
is_refused (answer.Whole x) = 0
is_refused (answer.Refused x) = 1

module _ (source type : ℕ) (L : Layout) (octets store : List ℕ) (below : Below 256 octets) (st : State) (is-source : st.source ≡ source) (is-type : st.payload_type ≡ type) where
  answered : (z : Step) (k : Content) → admit L st.source st.payload_type octets ≡ Ok k → read_content L octets ≡ Ok k → (y : Answer) → z.answer ≡ y
      → News source type (heard_by L octets y) (record { answer = y; state = z.state; store = z.store })
  answered z k a r y e = go y
    where
      adds : (y : Answer) → heard_by L octets y ≡ said_by L octets (read_content L octets) → ((x : Refusal) → y ≡ answer.Refused x → ⊥) → Adds source type (heard_by L octets y) (record { answer = y; state = z.state; store = z.store })
      adds y e n =
          record {
            packet = record { layout = L; octets = octets; says = k };
            is = e ∙ ap (said_by L octets) r;
            accepts = takes-own L source type octets k (ap₂ (λ (x y : ℕ). admit L x y octets) (sym is-source) (sym is-type) ∙ a);
            bit = (read-sized L octets below k r).1;
            fresh = n;
          }

      go : (y : Answer) → News source type (heard_by L octets y) (record { answer = y; state = z.state; store = z.store })
      go answer.Skipped = inr (adds answer.Skipped refl (λ x q. absurd-refused _ x is_refused q (λ w. omega arith)))
      go answer.Held = inr (adds answer.Held refl (λ x q. absurd-refused _ x is_refused q (λ w. omega arith)))
      go answer.Mixed = inr (adds answer.Mixed refl (λ x q. absurd-refused _ x is_refused q (λ w. omega arith)))
      go answer.Overfull = inr (adds answer.Overfull refl (λ x q. absurd-refused _ x is_refused q (λ w. omega arith)))
      go (answer.Whole f) = inr (adds (answer.Whole f) refl (λ x q. absurd-refused _ x is_refused q (λ w. omega arith)))
      go (answer.Refused x) = inl (refl, refl)

  news : News source type (heard_by L octets (step st L octets store).answer) (step st L octets store)
  news = go (admission st L (length store) octets) refl
    where
      go : (r : Result Content) → admission st L (length store) octets ≡ r → News source type (heard_by L octets (step st L octets store).answer) (step st L octets store)
      go (Err x) e = subst (λ (z : Step). News source type (heard_by L octets z.answer) z) (sym (step-refused st L octets store x e)) (inl (refl, refl))
      go (Ok k) e =
          answered (step st L octets store) k (judge-accepts 0 ((sound st (length store), 35) ∷ []) (admit L st.source st.payload_type octets) k e).1 (passed st L (length store) octets k e).1 (step st L octets store).answer refl

-- AN OPEN SESSION
record Known (source type : ℕ) (fresh : List Heard) (st : State) (store : List ℕ) : Type 0 where
  pub opened : st.source ≡ source
  pub typed : st.payload_type ≡ type
  pub gathers : Gathers source type fresh store st.last.0 (gathered st)
  pub complete : Complete source type fresh st store
  pub bits : Each Bit fresh
  pub accepts : Each (Accepted source type) fresh
  pub room : max_field_cells ≤ length store

abbrev told : (fresh more : List Heard) → List Handed
told fresh more = map handed_as (whole_fields (lead_after [] fresh) (held_after [] fresh) more)

told-append : (fresh a b : List Heard) → told fresh (a ++ b) ≡ told fresh a ++ told (fresh ++ a) b
told-append fresh a b =
    let x = after-append [] [] fresh a in
    ap (map handed_as) (whole_append (lead_after [] fresh) (held_after [] fresh) a b)
    ∙ map-append handed_as (whole_fields (lead_after [] fresh) (held_after [] fresh) a) _
    ∙ ap₂ (λ (lead held : List Heard). told fresh a ++ map handed_as (whole_fields lead held b)) (sym x.0) (sym x.1)

step-known : (source type : ℕ) (L : Layout) (fresh : List Heard) (p store : List ℕ) (st : State) → Below 256 p → Known source type fresh st store
    → let z : Step = step st L p store in
    Known source type (fresh ++ heard_by L p z.answer) z.state z.store × (handed_by z.answer z.store ≡ told fresh (heard_by L p z.answer))
step-known source type L fresh p store st b v =
    let z : Step = step st L p store in
    let w = step_keeps source type fresh L p store b st v.opened v.typed v.gathers in
    let c = step-full source type fresh L p store v.room b st v.opened v.typed v.complete in
    let room : max_field_cells ≤ length z.store = omega (arith, length-after st L p store, v.room) in
    go z w c room (heard_by L p z.answer) refl (news source type L p store b st v.opened v.typed)
  where
    go : (z : Step) → Keeps source type (fresh ++ heard_by L p z.answer) z → Full source type (fresh ++ heard_by L p z.answer) z → max_field_cells ≤ length z.store → (l : List Heard) → heard_by L p z.answer ≡ l → News source type l z
        → Known source type (fresh ++ heard_by L p z.answer) z.state z.store × (handed_by z.answer z.store ≡ told fresh (heard_by L p z.answer))
    go z w c room l e (inl n) =
        let none : heard_by L p z.answer ≡ [] = e ∙ n.0 in
        let same : fresh ++ heard_by L p z.answer ≡ fresh = ap (λ (m : List Heard). fresh ++ m) none ∙ append-nil fresh in (
          record { opened = w.opened; typed = w.typed; gathers = w.gathers; complete = c.complete; bits = subst (Each Bit) (sym same) v.bits; accepts = subst (Each (Accepted source type)) (sym same) v.accepts; room = room },
          n.1 ∙ ap (told fresh) (sym none),
        )
    go z w c room l e (inr n) =
        let is : heard_by L p z.answer ≡ n.packet ∷ [] = e ∙ n.is in
        let grown = ap (λ (m : List Heard). fresh ++ m) is in (
          record {
            opened = w.opened;
            typed = w.typed;
            gathers = w.gathers;
            complete = c.complete;
            bits = subst (Each Bit) (sym grown) (each_append Bit fresh (n.packet ∷ []) v.bits (n.bit, tt));
            accepts = subst (Each (Accepted source type)) (sym grown) (each_append (Accepted source type) fresh (n.packet ∷ []) v.accepts (n.accepts, tt));
            room = room;
          },
          packet-exact source type fresh v.bits v.accepts n.packet n.accepts (handed_by z.answer z.store) (subst (λ (m : List Heard). Each (Vouched source type m) (handed_by z.answer z.store)) grown w.vouches)
              ((subst (λ (m : List Heard). Full source type m z) grown c).none-lost n.fresh)
              ∙ ap (told fresh) (sym is),
        )

open-exact : (source type : ℕ) (L : Layout) (fresh : List Heard) (ps : List (List ℕ)) → Each (Below 256) ps → (st : State) (store : List ℕ) → Known source type fresh st store
    → let s : Session = session.Open L (record { state = st }) in
    wholes_of s store ps ≡ told fresh (fresh_in s store ps)
unfolding turn
open-exact source type L fresh [] b st store v = refl
open-exact source type L fresh (p ∷ ps) b st store v =
    let z : Step = step st L p store in
    let n = step-known source type L fresh p store st b.0 v in
    let rest = fresh_in (session.Open L (record { state = z.state })) z.store ps in
    ap₂ ◌++◌ n.1 (open-exact source type L (fresh ++ heard_by L p z.answer) ps b.1 z.state z.store n.0) ∙ sym (told-append fresh (heard_by L p z.answer) rest)

opened-known : (source type : ℕ) (store : List ℕ) → max_field_cells ≤ length store → Known source type [] (open_state source type) store
opened-known source type store room =
    record {
      opened = refl;
      typed = refl;
      gathers = tt;
      complete = record { latest = λ before p e. absurd (empty before p [] e); gathers = λ before lead held t f e b. absurd (empty before lead held e) };
      bits = tt;
      accepts = tt;
      room = room;
    }
  where
    empty : (before : List Heard) (p : Heard) (held : List Heard) → [] ≡ before ++ (p ∷ held) → ⊥
    empty [] p held e = nil≢cons e
    empty (q ∷ before) p held e = nil≢cons e

-- A WAITING SESSION
abbrev Exactly : Layout → List ℕ → List (List ℕ) → Type 0
Exactly L store ps = wholes_of (session.Waiting L) store ps ≡ told [] (fresh_in (session.Waiting L) store ps)

module _ (L : Layout) (store p : List ℕ) (room : max_field_cells ≤ length store) (ps : List (List ℕ)) (b : Each (Below 256) (p ∷ ps)) (later : Exactly L store ps) where
  abbrev after : Result Depacketizer → Session × List ℕ
  after o = ((turn_by (session.Waiting L) (number_of (read_content L p)) p store o).session, (turn_by (session.Waiting L) (number_of (read_content L p)) p store o).store)

  abbrev ByOpened : Result Depacketizer → Type 0
  ByOpened o = whole_at L p store o ++ wholes_of (after o).0 (after o).1 ps ≡ told [] (fresh_at L p store o ++ fresh_in (after o).0 (after o).1 ps)

  judged : (x : Bool) (source type : ℕ) → ByOpened (opened_of (judge 0 ((x, 24) ∷ []) (Ok (open_state source type))))
  unfolding turn
  judged true source type = open-exact source type L [] (p ∷ ps) b (open_state source type) store (opened-known source type store room)
  judged false source type = later

  read : (k : Result Content) → ByOpened (opening k)
  read (Err x) = later
  read (Ok k) = judged (leb k.type max_type) k.source k.type

  first-exact : Exactly L store (p ∷ ps)
  unfolding turn
  first-exact = read (read_content L p)

exactly : (L : Layout) (store : List ℕ) → max_field_cells ≤ length store → (ps : List (List ℕ)) → Each (Below 256) ps → Exactly L store ps
exactly L store room [] b = refl
exactly L store room (p ∷ ps) b = first-exact L store p room ps b (exactly L store room ps b.1)

-- WHAT IS FILED
abbrev Short : List Heard → Type 0
Short ps = length ps ≤ max_field_packets

whole-short : (lead held : List Heard) (p : Heard) → Each Short (whole_of lead held p)
whole-short [] held p = tt
whole-short (q ∷ l) held p = go _ refl
  where
    go : (b : Bool) → in_sequence q (held ++ (p ∷ [])) && (of_field p.says.timestamp p.says.f (held ++ (p ∷ [])) && within (held ++ (p ∷ []))) ≡ b → Each Short (cond b ((held ++ (p ∷ [])) ∷ []) [])
    go true e =
        let ps = held ++ (p ∷ []) in
        let x = and-true (in_sequence q ps) (of_field p.says.timestamp p.says.f ps && within ps) e in
        let y = and-true (of_field p.says.timestamp p.says.f ps) (within ps) x.1 in
        let z = and-true (leb (record_count (parts_of ps)) max_field_records) _ y.1 in
        (leb-true (length ps) max_field_packets (and-true (leb (length (joined_cells (parts_of ps))) max_field_cells) (leb (length ps) max_field_packets) z.1).1, tt)
    go false e = tt

all_short : (lead held fresh : List Heard) → Each Short (whole_fields lead held fresh)
all_short lead held [] = tt
all_short lead held (p ∷ l) = go (all_short (p ∷ []) [] l) (all_short lead (held ++ (p ∷ [])) l) (marked p.says)
  where
    go : Each Short (whole_fields (p ∷ []) [] l) → Each Short (whole_fields lead (held ++ (p ∷ [])) l) → (m : Bool)
        → Each Short (cond m (whole_of lead held p ++ whole_fields (p ∷ []) [] l) (whole_fields lead (held ++ (p ∷ [])) l))
    go x y true = each_append Short (whole_of lead held p) (whole_fields (p ∷ []) [] l) (whole-short lead held p) x
    go x y false = y

filed-exact : (pss : List (List Heard)) (ks : List FieldContent) → Each Short pss → EachFiled (map handed_as pss) ks → ks ≡ map written pss
filed-exact [] [] s h = refl
filed-exact [] (k ∷ ks) s h = absurd h
filed-exact (ps ∷ pss) [] s h = absurd h
filed-exact (ps ∷ pss) (k ∷ ks) s h =
    let said = one_list k.records (joined (parts_of ps)) (joined_cells (parts_of ps)) h.0.3 (cells-joined 0 (parts_of ps) (omega (arith, parts-length ps, s.0))) in
    ap₂ ◌∷◌ (λ i. record { timestamp = h.0.0 i; f = h.0.1 i; records = said i }) (filed-exact pss ks s.1 h.1)

-- EXACTLY
pub exact-archive : ExactArchive
exact-archive L store input below room =
    let ps = (frames input).packets in
    let pss = whole_fields [] [] (fresh_in (session.Waiting L) store ps) in
    let filed = subst (λ (l : List Handed). EachFiled l (fields_in L store input)) (exactly L store room ps (frames-below input below)) (none-left-out L store input below) in
    reads-back L store input below ∙ ap (λ (ks : List FieldContent). record { fields = ks; end = end_of_file }) (filed-exact pss (fields_in L store input) (all_short [] [] (fresh_in (session.Waiting L) store ps)) filed)
