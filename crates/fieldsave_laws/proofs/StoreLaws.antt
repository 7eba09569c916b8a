-- What a depacketizer has gathered stands in its store as a list of records, and so every field that it hands out can be filed.
-- By what a packet appends: the cells of its own records, which are well-formed in RFC 8331's layout too.
use mathlib.Core.Path.{◌≡◌, refl, ap, sym, subst, ◌∙◌}
use mathlib.Core.Bool.{Bool, true, false, cond, ◌&&◌}
use mathlib.Core.List.{List, [], ◌∷◌, ◌++◌}
use Prim.Native.Nat.{ℕ, zero, suc, ◌+◌, ◌≤◌}
use native.Mathlib.Omega.{arith}
use borrow.Author.Tests.{le-leb, leb-true}
use lib.Dec.{eqb, leb}
use lib.ListN.{length, take, length-append, length-take}
use Rattle.wire_spec.specs.Bits.{Below, Fit, row, splice}
use Rattle.wire_spec.specs.Layout.{Layout, rfc8331}
use Rattle.wire_spec.specs.Result.{Result, Err, Ok}
use Rattle.wire_spec.specs.Anc.{Each, Record, WellFormed}
use Rattle.wire_spec.specs.Cells.{Lists, list_in}
use Rattle.wire_spec.specs.Packet.{Content, Packet, WellFormedPacket, extension_fields, payload_fields, read_content, rtp_fields}
use Rattle.wire_spec.specs.Writing.{max_field_records, max_field_cells, max_field_packets}
use Rattle.wire_spec.proofs.BitLaws.{fit_append}
use Rattle.wire_spec.proofs.ListLaws.{each_append, length-splice, take-splice}
use Rattle.wire_spec.proofs.ResultLaws.{and_both, and-true}
use Rattle.wire_spec.proofs.CellLaws.{list-iff, lists-append, lists-in, length-in}
use Rattle.wire_spec.proofs.LayoutLaws.{layout-iff}
use Rattle.wire_spec.proofs.WritingLaws.{all_pass}
use Rattle.wire_spec.proofs.Demand2.{acceptance}
use Rattle.fieldfile_spec.specs.File.{file_f_ok, within_limits}
use Rattle.depacketizer_spec.specs.declared.state.State.{State}
use Rattle.depacketizer_spec.specs.declared.state.Answer.TheVariants as answer
use Rattle.depacketizer_spec.specs.Step.{Carried, Class, Gather, Gathered, Step, admission, admitted_step, ahead, appended, carried, class_step, classify, distance, far, far_or_restart, field_with, filling, follow, fresh_step, gathered, gathered_cells, gathered_packets, gathered_records, is_remembered, join, join_fits, join_if_fits, join_if_same, late, lost, next, open_state, packet_step, ready, step, taken}
use Rattle.depacketizer_spec.proofs.FreshLaws.{gathered-after}
use Rattle.depacketizer_spec.proofs.StepLaws.{passed}
use Rattle.fieldsave_session.specs.Filing.{records_to_file}
use Rattle.depacketizer_spec.specs.Stream as stream
use Rattle.fieldsave_laws.specs.Filed.{EachFiled}
use Rattle.fieldsave_session.specs.Filing.{handed_by}

-- so many records in so many cells stand at the front of a store
pub record Stands (store : List ℕ) (r c : ℕ) : Type 0 where
  pub records : List Record
  pub formed : Each (WellFormed rfc8331) records
  pub cells : Lists records (take c store)
  pub count : length records ≡ r
  pub inside : c ≤ length store

abbrev pub Holds : List ℕ → Gathered → Type 0
Holds store g = Stands store (gathered_records g) (gathered_cells g)

pub nothing-stands : (store : List ℕ) → Stands store 0 0
nothing-stands store = record { records = []; formed = tt; cells = refl; count = refl; inside = omega arith }

-- WHAT A PACKET SAYS can stand there, and be filed
pub payload-fit : (L : Layout) (k : Packet) → Fit (rtp_fields k ++ (row 32 k.sources ++ (extension_fields k ++ (row 32 k.extension ++ payload_fields L k)))) → Fit (payload_fields L k)
payload-fit L k h =
    let a = ((fit_append (rtp_fields k) (row 32 k.sources ++ (extension_fields k ++ (row 32 k.extension ++ payload_fields L k)))).0 h).1 in
    let b = ((fit_append (row 32 k.sources) (extension_fields k ++ (row 32 k.extension ++ payload_fields L k))).0 a).1 in
    let c = ((fit_append (extension_fields k) (row 32 k.extension ++ payload_fields L k)).0 b).1 in
    ((fit_append (row 32 k.extension) (payload_fields L k)).0 c).1

pub record Fileable (k : Content) : Type 0 where
  pub formed : Each (WellFormed rfc8331) k.records
  pub f : file_f_ok k.f ≡ true

f-ok : (f : ℕ) → f ≤ 3 → (f ≡ 1 → ⊥) → file_f_ok f ≡ true
f-ok zero h n = refl
f-ok (suc zero) h n = absurd (n refl)
f-ok (suc (suc zero)) h n = refl
f-ok (suc (suc (suc zero))) h n = refl
f-ok (suc (suc (suc (suc f)))) h n = absurd (omega arith)

packet-files : (L : Layout) (k : Packet) → WellFormedPacket L k → Each (WellFormed rfc8331) k.records × (file_f_ok k.f ≡ true)
packet-files L k h =
    let y = (layout-iff L k.f k.records).1 (h.records, (payload-fit L k h.fit).1.1.1.0) in
    (y.0, f-ok k.f y.1 h.f)

pub read-files : (L : Layout) (s : List ℕ) → Below 256 s → (k : Content) → read_content L s ≡ Ok k → Fileable k
read-files L s below k e =
    let a = (acceptance L s below k).0 e in
    let p = packet-files L a.0 a.1 in
    subst Fileable a.3 (record { formed = p.0; f = p.1 })

-- A PACKET JOINS what stands there
module _ (store : List ℕ) (r c n : ℕ) (h : Stands store r c) (k : Content) (w : Fileable k) where
  abbrev here : List ℕ
  here = splice store c (list_in n k.records)

  abbrev p : Carried
  p = carried k

  module _ (ok : join_fits r c n p (length store) ≡ true) where
    within : (r + p.records ≤ max_field_records) × (c + p.cells ≤ max_field_cells) × (c + p.cells ≤ length store) × (n + 1 ≤ max_field_packets)
    within =
        let a = and-true (leb (r + p.records) max_field_records) _ ok in
        let b = and-true (leb (c + p.cells) max_field_cells) _ a.1 in
        let d = and-true (leb (c + p.cells) (length store)) (leb (n + 1) max_field_packets) b.1 in
        (leb-true (r + p.records) max_field_records a.0, leb-true (c + p.cells) max_field_cells b.0, leb-true (c + p.cells) (length store) d.0, leb-true (n + 1) max_field_packets d.1)

    size : length (list_in n k.records) ≡ p.cells
    size = length-in n k.records

    cells-here : take (c + p.cells) here ≡ take c store ++ list_in n k.records
    cells-here = ap (λ (m : ℕ). take (c + m) here) (sym size) ∙ take-splice store c (list_in n k.records) h.inside

    pub joined : Stands here (r + p.records) (c + p.cells)
    joined =
        record {
          records = h.records ++ k.records;
          formed = each_append (WellFormed rfc8331) h.records k.records h.formed w.formed;
          cells =
              subst (Lists (h.records ++ k.records)) (sym cells-here)
              (lists-append h.records k.records (take c store) (list_in n k.records) h.cells (lists-in n (omega (arith, within.3)) k.records));
          count = omega (arith, length-append h.records k.records, h.count);
          inside = omega (arith, within.2, length-splice store c (list_in n k.records) (omega (arith, within.2, size)));
        }

    -- and all of it can be filed
    pub filed-whole : EachFiled (stream.handed_by (answer.Whole (field_with p (r + p.records) (c + p.cells) (n + 1))) here) (handed_by (answer.Whole (field_with p (r + p.records) (c + p.cells) (n + 1))) here)
    filed-whole =
        let j = joined in
        let cells = take (c + p.cells) here in
        let reads = (list-iff cells j.records).1 (j.formed, j.cells) in
        let long : length cells ≤ c + p.cells = omega (arith, length-take (c + p.cells) here) in
        let limits : within_limits (length j.records) (length cells) ≡ true =
        and_both (le-leb (length j.records) max_field_records (omega (arith, j.count, within.0))) (le-leb (length cells) max_field_cells (omega (arith, long, within.1))) in
        let e : records_to_file k.f cells ≡ Ok j.records =
        all_pass ((file_f_ok k.f, 53) ∷ []) (λ (rs : List Record). (within_limits (length rs) (length cells), 21) ∷ []) cells (w.f, tt) j.records reads (limits, tt) in
        rw e ((refl, refl, j.count, j.cells), tt)

-- WHAT A FRESH PACKET LEAVES, where `g` stands in the store: what is then gathered stands there, and what it completes is filed
record Leaves (z : Gather) (g : Gathered) (k : Content) (store : List ℕ) : Type 0 where
  pub holds : Holds (appended z.append g k store) z.gathered
  pub filed : EachFiled (stream.handed_by z.answer (appended z.append g k store)) (handed_by z.answer (appended z.append g k store))

dropped-holds : (marker : Bool) (store : List ℕ) → Holds store (cond marker ready lost)
dropped-holds true store = nothing-stands store
dropped-holds false store = nothing-stands store

taken-leaves : (g : Gathered) (k : Content) (store : List ℕ) (h : Holds store g) (w : Fileable k) (ok : join_fits (gathered_records g) (gathered_cells g) (gathered_packets g) (carried k) (length store) ≡ true)
    (m : Bool) → (carried k).marked ≡ m
    → Leaves (taken (carried k) (gathered_records g + (carried k).records) (gathered_cells g + (carried k).cells) (gathered_packets g + 1)) g k store
taken-leaves g k store h w ok true e =
    let r = gathered_records g in
    let c = gathered_cells g in
    let n = gathered_packets g in
    record { holds = rw e (nothing-stands (splice store c (list_in n k.records))); filed = rw e (filed-whole store r c n h k w ok) }
taken-leaves g k store h w ok false e =
    let r = gathered_records g in
    let c = gathered_cells g in
    let n = gathered_packets g in
    record { holds = rw e (joined store r c n h k w ok); filed = rw e tt }

join-leaves : (g : Gathered) (k : Content) (store : List ℕ) → Holds store g → Fileable k
    → Leaves (join (gathered_records g) (gathered_cells g) (gathered_packets g) (carried k) (length store)) g k store
join-leaves g k store h w = go (join_fits (gathered_records g) (gathered_cells g) (gathered_packets g) (carried k) (length store)) refl
  where
    go : (b : Bool) → join_fits (gathered_records g) (gathered_cells g) (gathered_packets g) (carried k) (length store) ≡ b
        → Leaves (join_if_fits b (carried k) (gathered_records g + (carried k).records) (gathered_cells g + (carried k).cells) (gathered_packets g + 1)) g k store
    go true e = taken-leaves g k store h w e (carried k).marked refl
    go false e = record { holds = dropped-holds (carried k).marked store; filed = tt }

follow-leaves : (g : Gathered) (k : Content) (store : List ℕ) → Holds store g → Fileable k → Leaves (follow g (carried k) (length store)) g k store
follow-leaves lost k store h w = record { holds = dropped-holds (carried k).marked store; filed = tt }
follow-leaves ready k store h w = join-leaves ready k store h w
follow-leaves (filling t f r c n) k store h w = go (eqb t k.timestamp && eqb f k.f)
  where
    go : (b : Bool) → Leaves (join_if_same b r c n (carried k) (length store)) (filling t f r c n) k store
    go true = join-leaves (filling t f r c n) k store h w
    go false = record { holds = dropped-holds (carried k).marked store; filed = tt }

-- EVERY STEP keeps it so
abbrev StepLeaves : Step → Type 0
StepLeaves z = Holds z.store (gathered z.state) × EachFiled (stream.handed_by z.answer z.store) (handed_by z.answer z.store)

fresh-leaves : (from : State) (g : Gathered) (missing : ℕ) (k : Content) (store : List ℕ) → Holds store g → Fileable k → StepLeaves (fresh_step from g missing k store)
fresh-leaves from g missing k store h w =
    let l = follow-leaves g k store h w in
    (subst (Holds (fresh_step from g missing k store).store) (sym (gathered-after (follow g (carried k) (length store)).gathered)) l.holds, l.filed)

module _ (st : State) (L : Layout) (octets store : List ℕ) (below : Below 256 octets) (h : Holds store (gathered st)) where
  fresh : (from : State) (k : Content) → read_content L octets ≡ Ok k → (g : Gathered) → Holds store g → (missing : ℕ) → StepLeaves (fresh_step from g missing k store)
  fresh from k e g held missing = fresh-leaves from g missing k store held (read-files L octets below k e)

  far-leaves : (b : Bool) (k : Content) → read_content L octets ≡ Ok k → StepLeaves (far_or_restart b st k store)
  far-leaves true k e = fresh (open_state st.source st.payload_type) k e lost (nothing-stands store) 0
  far-leaves false k e = (h, tt)

  class-leaves : (c : Class) (k : Content) → read_content L octets ≡ Ok k → StepLeaves (class_step c st k store)
  class-leaves late k e = (h, tt)
  class-leaves next k e = fresh st k e (gathered st) h 0
  class-leaves far k e = far-leaves (is_remembered st k.number) k e
  class-leaves (ahead n) k e = fresh st k e lost (nothing-stands store) n

  packet-leaves : (b : Bool) (k : Content) → read_content L octets ≡ Ok k → StepLeaves (packet_step b st k store)
  packet-leaves false k e = fresh st k e lost (nothing-stands store) 0
  packet-leaves true k e = class-leaves (classify (distance st.last.0 k.number)) k e

  admitted-leaves : (r : Result Content) → admission st L (length store) octets ≡ r → StepLeaves (admitted_step st r store)
  admitted-leaves (Err x) e = (h, tt)
  admitted-leaves (Ok k) e = packet-leaves st.heard k (passed st L (length store) octets k e).1

  pub step-leaves : StepLeaves (step st L octets store)
  unfolding step
  step-leaves = admitted-leaves (admission st L (length store) octets) refl
