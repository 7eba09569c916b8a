-- Every field that is filed is well-formed.
-- By the writer's checks; its timestamp is a packet's.
use Rattle.depacketizer.specs.declared.state.Depacketizer.{Depacketizer}
use mathlib.Core.Path.{◌≡◌, refl, ap, sym, subst}
use mathlib.Core.Bool.{Bool, true, false, ◌&&◌}
use mathlib.Core.List.{List, [], ◌∷◌}
use Prim.Native.Nat.{ℕ, zero, suc, ◌+◌, ◌*◌, ◌^◌, ◌<◌}
use native.Mathlib.Omega.{arith}
use borrow.Author.Tests.{leb-true}
use lib.Dec.{eqb, leb}
use lib.ListN.{length, take}
use Rattle.wire_spec.specs.Bits.{Below}
use Rattle.wire_spec.specs.Layout.{Layout}
use Rattle.wire_spec.specs.Result.{Result, Err, Ok}
use Rattle.wire_spec.specs.Anc.{Each, Record}
use Rattle.wire_spec.specs.Packet.{Content, Packet, WellFormedPacket, read_content}
use Rattle.wire_spec.specs.Writing.{max_field_records, max_field_cells}
use Rattle.wire_spec.proofs.BitLaws.{below-take, below-drop}
use Rattle.wire_spec.proofs.ResultLaws.{and-true}
use Rattle.wire_spec.proofs.CellLaws.{list-iff, lists_length}
use Rattle.wire_spec.proofs.WritingLaws.{passes}
use Rattle.wire_spec.proofs.Demand2.{acceptance}
use Rattle.wire_spec.proofs.ListLaws.{each_append}
use Rattle.fieldfile_spec.specs.File.{WellFormedField, file_f_ok, timestamp_bits, within_limits, written_version}
use Rattle.rtp_frames.specs.Frames.{Front, end, cut, frame, framed, front, frames_in, frames, onward}
use Rattle.depacketizer_spec.specs.declared.state.State.{State}
use Rattle.depacketizer_spec.specs.declared.state.Answer.{Answer}
use Rattle.depacketizer_spec.specs.declared.state.Answer.TheVariants as answer
use Rattle.depacketizer_spec.specs.declared.state.Field.{Field}
use Rattle.depacketizer_spec.specs.Step.{Carried, Gathered, Step, carried, field_with, filling, follow, join, join_fits, join_if_fits, join_if_same, lost, ready, step, whole_if_marked}
use Rattle.depacketizer_spec.proofs.StepLaws.{step_is}
use Rattle.fieldlist_session.specs.declared.session.Session.{Session}
use Rattle.fieldlist_session.specs.Session.{entered, layout_in, turn}
use Rattle.fieldsave_session.specs.Filing.{fields_of, filed_as, handed, handed_at, handed_by, records_to_file}

-- an answer that is no field is not whole
not-whole : {x : Field} {A : Type 0} (n : Answer → ℕ) (y : Answer) → (y ≡ answer.Whole x) → (n y ≡ n (answer.Whole x) → ⊥) → A
not-whole n y e h = absurd (h (ap n e))

abbrev is_whole : Answer → ℕ
is_whole answer.Skipped = 0
is_whole answer.Held = 0
is_whole answer.Mixed = 0
is_whole answer.Overfull = 0
is_whole (answer.Whole x) = 1
is_whole (answer.Refused x) = 0

whole_is : {x y : Field} → answer.Whole x ≡ answer.Whole y → x ≡ y
whole_is e = cc

-- the field that a packet completes has the packet's timestamp
taken-time : (b : Bool) (p : Carried) (r c n : ℕ) (x : Field) → whole_if_marked b (field_with p r c n) ≡ answer.Whole x → x.timestamp.0 ≡ p.timestamp
taken-time true p r c n x e = sym (ap (λ (y : Field). y.timestamp.0) (whole_is e))
taken-time false p r c n x e = not-whole is_whole answer.Held e (λ z. omega arith)

join-time : (r c n : ℕ) (p : Carried) (room : ℕ) (x : Field) → (join r c n p room).answer ≡ answer.Whole x → x.timestamp.0 ≡ p.timestamp
join-time r c n p room x e = go (join_fits r c n p room) e
  where
    go : (b : Bool) → (join_if_fits b p (r + p.records) (c + p.cells) (n + 1)).answer ≡ answer.Whole x → x.timestamp.0 ≡ p.timestamp
    go true e = taken-time p.marked p (r + p.records) (c + p.cells) (n + 1) x e
    go false e = not-whole is_whole answer.Overfull e (λ z. omega arith)

follow-time : (g : Gathered) (p : Carried) (room : ℕ) (x : Field) → (follow g p room).answer ≡ answer.Whole x → x.timestamp.0 ≡ p.timestamp
follow-time lost p room x e = not-whole is_whole answer.Skipped e (λ z. omega arith)
follow-time ready p room x e = join-time 0 0 0 p room x e
follow-time (filling t f r c n) p room x e = go (eqb t p.timestamp && eqb f p.f) e
  where
    go : (b : Bool) → (join_if_same b r c n p room).answer ≡ answer.Whole x → x.timestamp.0 ≡ p.timestamp
    go true e = join-time r c n p room x e
    go false e = not-whole is_whole answer.Mixed e (λ z. omega arith)

-- and that has 32 bits
packet-time : (L : Layout) (k : Packet) → WellFormedPacket L k → k.timestamp < 2 ^ timestamp_bits
packet-time L k h = omega (arith, h.fit)

read-time : (L : Layout) (s : List ℕ) → Below 256 s → (k : Content) → read_content L s ≡ Ok k → k.timestamp < 2 ^ timestamp_bits
read-time L s below k e =
    let a = (acceptance L s below k).0 e in
    subst (λ (y : Content). y.timestamp < 2 ^ timestamp_bits) a.3 (packet-time L a.0 a.1)

-- an answer's field has such a timestamp
abbrev Timed : Step → Type 0
Timed z = (x : Field) → z.answer ≡ answer.Whole x → x.timestamp.0 < 2 ^ timestamp_bits

step-time : (st : State) (L : Layout) (octets store : List ℕ) → Below 256 octets → Timed (step st L octets store)
step-time st L octets store below =
    step_is st L octets store Timed (λ y x e. not-whole is_whole (answer.Refused y) e (λ z. omega arith)) (λ x e. not-whole is_whole _ e (λ z. omega arith))
    (λ n x e. not-whole is_whole _ e (λ z. omega arith))
    (λ from k q h g m x e. let t = follow-time g (carried k) (length store) x e in let b = read-time L octets below k q in omega (arith, t, b))

-- WHAT THE WRITER TAKES is well-formed
filed-formed : (x : Field) (cells : List ℕ) → x.timestamp.0 < 2 ^ timestamp_bits → Each (WellFormedField written_version) (filed_as x (records_to_file x.f cells))
filed-formed x cells t = go (records_to_file x.f cells) refl
  where
    go : (r : Result (List Record)) → records_to_file x.f cells ≡ r → Each (WellFormedField written_version) (filed_as x r)
    go (Err y) e = tt
    go (Ok rs) e =
        let p = passes ((file_f_ok x.f, 53) ∷ []) (λ (rs : List Record). (within_limits (length rs) (length cells), 21) ∷ []) cells rs e in
        let w = and-true (leb (length rs) max_field_records) (leb (length cells) max_field_cells) p.limits-passed.0 in
        let few = leb-true (length rs) max_field_records w.0 in
        let l = (list-iff cells rs).0 p.reads in (
          record {
            timestamp = t;
            f = p.head_passed.0;
            records = l.0;
            counted = omega (arith, few);
            few = few;
            short = omega (arith, leb-true (length cells) max_field_cells w.1, lists_length rs cells l.1);
          },
          tt,
        )

answer-formed : (y : Answer) (store : List ℕ) → ((x : Field) → y ≡ answer.Whole x → x.timestamp.0 < 2 ^ timestamp_bits)
    → Each (WellFormedField written_version) (handed_by y store)
answer-formed answer.Skipped store h = tt
answer-formed answer.Held store h = tt
answer-formed answer.Mixed store h = tt
answer-formed answer.Overfull store h = tt
answer-formed (answer.Whole x) store h = filed-formed x (take x.cells store) (h x refl)
answer-formed (answer.Refused x) store h = tt

handed-formed : (s : Session) (octets store : List ℕ) → Below 256 octets → Each (WellFormedField written_version) (handed s octets store)
unfolding handed
handed-formed s octets store below = go (entered s (read_content (layout_in s) octets))
  where
    go : (o : Result Depacketizer) → Each (WellFormedField written_version) (handed_at (layout_in s) octets store o)
    go (Err x) = tt
    go (Ok d) =
        answer-formed (step d.state (layout_in s) octets store).answer (step d.state (layout_in s) octets store).store (step-time d.state (layout_in s) octets store below)

pub fields-formed : (s : Session) (store : List ℕ) (ps : List (List ℕ)) → Each (Below 256) ps → Each (WellFormedField written_version) (fields_of s store ps)
fields-formed s store [] h = tt
fields-formed s store (p ∷ ps) h =
    each_append (WellFormedField written_version) (handed s p store) (fields_of (turn s p store).session (turn s p store).store ps)
    (handed-formed s p store h.0) (fields-formed (turn s p store).session (turn s p store).store ps h.1)

-- THE PACKETS of an input of octets are octets
abbrev FrontBelow : Front → Type 0
FrontBelow end = Unit {0}
FrontBelow cut = Unit {0}
FrontBelow (frame p rest) = Below 256 p × Below 256 rest

framed-below : (n : ℕ) (s : List ℕ) → Below 256 s → FrontBelow (framed n s)
framed-below n s h = go (leb n (length s)) refl
  where
    go : (b : Bool) → leb n (length s) ≡ b → FrontBelow (framed n s)
    go true e = rw e (below-take 256 n s h, below-drop 256 n s h)
    go false e = rw e tt

front_below : (s : List ℕ) → Below 256 s → FrontBelow (front s)
front_below [] h = tt
front_below (x ∷ []) h = tt
front_below (x ∷ y ∷ s) h = framed-below (256 * x + y) s h.1.1

packets-below : (m : ℕ) (s : List ℕ) → Below 256 s → Each (Below 256) (frames_in m s).packets
packets-below zero s h = tt
packets-below (suc m) s h = go (front s) (front_below s h) (packets-below m)
  where
    go : (f : Front) → FrontBelow f → ((t : List ℕ) → Below 256 t → Each (Below 256) (frames_in m t).packets) → Each (Below 256) (onward (frames_in m) f).packets
    go end b next = tt
    go cut b next = tt
    go (frame p rest) b next = (b.0, next rest b.1)

pub frames-below : (s : List ℕ) → Below 256 s → Each (Below 256) (frames s).packets
frames-below s h = packets-below (suc (length s)) s h
