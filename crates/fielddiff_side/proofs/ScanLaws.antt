-- A turn of the code is a turn of the definition: what is to come of the file does not change.
-- By the state; each stage of the code is the stage of `turn` over the same octets.
use mathlib.Core.Path.{◌≡◌, refl, ap, ap₂, sym, ◌∙◌, subst}
use mathlib.Core.Bool.{Bool, true, false, cond, ◌&&◌}
use mathlib.Core.List.{List, [], ◌∷◌, ◌++◌, append-nil}
use Prim.Native.Nat.{ℕ, zero, suc, ◌+◌, ◌-◌, ◌<◌, ◌≤◌}
use native.Mathlib.Nat.{mod-lt}
use native.Mathlib.Omega.{arith}
use borrow.Author.Tests.{eqb-true, eqb-false, le-leb, leb-true}
use lib.Dec.{eqb, leb, lit<}
use lib.ListN.{length, take, drop}
use Rattle.wire_spec.specs.declared.refusal.Refusal.{Refusal}
use Rattle.wire_spec.specs.Bits.{splice}
use Rattle.wire_spec.specs.Layout.{rfc8331}
use Rattle.wire_spec.specs.Result.{Result, Err, Ok, refuse, Checks, judge, ◌then◌}
use Rattle.wire_spec.specs.Anc.{Record, Each, anc_size, data_count, read_anc, behind, read_run, run_size}
use Rattle.wire_spec.specs.Cells.{cells_of, head_cells, list_of}
use Rattle.wire_spec.specs.Writing.{max_field_records, max_field_cells}
use Rattle.wire_spec.proofs.BitLaws.{bits_at-lt}
use Rattle.wire_spec.proofs.SizeLaws.{size-rfc8331}
use Rattle.wire_spec.proofs.AncLaws.{count-read}
use Rattle.wire_spec.proofs.ResultLaws.{Passed, accepted-inj, judge-accepts, and-true}
use Rattle.fieldfile_spec.specs.declared.format.Version.{Version}
use Rattle.fieldfile_spec.specs.declared.format.Version.TheVariants as version
use Rattle.fieldfile_spec.specs.File.{count_field, end_of_file, field_header_checks, field_header_size, file_checks, file_f_field, file_f_ok, file_head_size, is_version, timestamp_field, version_field, version_of, within_limits}
use Rattle.fielddiff_spec.specs.Diff.{end_number}
use Rattle.fieldfile_scan_spec.specs.Window.{AtHand, most_size, Turn, stops, goes, turn_of, between, within}
use Rattle.fieldfile_scan_spec.specs.Window as window
use Rattle.fieldfile_scan_spec.specs.Store.{Held, Holds}
use Rattle.fieldfile_scan_spec.proofs.FrontLaws.{anc-index, reindex, run-one}
use Rattle.fieldfile_scan_spec.proofs.StoreLaws.{holds-none, holds_more}
use Rattle.fieldfile_scan_spec.proofs.WindowLaws.{anc-fits, fewer, head-at-hand}
use Rattle.fielddiff_spec.specs.Rest.{Standing, starts, reading, over, rest_of, standing_after, left_after}
use Rattle.fielddiff_spec.proofs.RestLaws.{turn-rest, head-rest, head-refused}
use Rattle.fieldfile_scan.specs.declared.state.Part.{Part}
use Rattle.fieldfile_scan.specs.declared.state.State.{State}
use Rattle.fieldfile_scan.specs.declared.state.State.TheVariants as state
use Rattle.fieldfile_scan.specs.declared.state.Scanned.{Scanned}
use Rattle.fieldfile_scan.specs.Scan.{InReach, Reachable, field_begun, finished, header_scanned, kept_of, onward, packet_of, part_kept, part_scanned, scan, store_then}
use Rattle.fielddiff_side.specs.declared.Standing.TheVariants as held
use Rattle.fielddiff_side.specs.Side.{HeldReachable, Short, StandsAs, stood_as, used_of}

-- a refusal: 54 is only the end
stops-stand : (n : ℕ) (store : List ℕ) (x : Refusal) → x.number ≡ n → (i : ℕ) → StandsAs (stood_as (Err (record { number = n; index = i }))) store (over x)
stops-stand n store x e i = go (eqb n end_number) refl
  where
    go : (b : Bool) → eqb n end_number ≡ b → StandsAs (stood_as (Err (record { number = n; index = i }))) store (over x)
    go true h = rw h (x, refl, e ∙ eqb-true n end_number h)
    go false h = rw h (x, refl, e, eqb-false n end_number h)

stops-reach : (x : Refusal) → HeldReachable (stood_as (Err x))
stops-reach x = go (eqb x.number end_number) refl
  where
    go : (b : Bool) → eqb x.number end_number ≡ b → HeldReachable (stood_as (Err x))
    go true h = rw h tt
    go false h = rw h tt

-- a turn reaches a state that the next can start from, and uses no more octets than are at hand
pub record Steps (y : Result Scanned) (w : List ℕ) : Type 0 where
  pub reach : HeldReachable (stood_as y)
  pub fits : used_of y ≤ length w

steps-stops : (x : Refusal) (w : List ℕ) → Steps (Err x) w
steps-stops x w = record { reach = stops-reach x; fits = omega arith }

count-below : (v : Version) (w : List ℕ) → count_field v w < 65536
count-below version.One w = omega (arith, bits_at-lt w 40 8)
count-below version.Two w = omega (arith, bits_at-lt w 40 16)

head-there : (w : List ℕ) → Passed (file_checks w) → file_head_size ≤ length w
unfolding file_checks
head-there w p = leb-true file_head_size (length w) (and-true (leb file_head_size (length w)) (is_version (version_field w)) p.1.0).0

head-steps : (w : List ℕ) (r : Result ℕ) → judge 0 (file_checks w) (Ok file_head_size) ≡ r → Steps (onward (state.Between (version_of w)) r) w
head-steps w (Err x) e = steps-stops x w
head-steps w (Ok n) e =
    let p = judge-accepts 0 (file_checks w) (Ok file_head_size) n e in
    let k : file_head_size ≡ n = accepted-inj p.1 in
    record { reach = tt; fits = omega (arith, head-there w p.0, k) }

header-steps : (v : Version) (w : List ℕ) → Steps (header_scanned v w) w
unfolding field_header_checks
header-steps v [] = steps-stops end_of_file []
header-steps v (o ∷ w) = go (leb (field_header_size v) (length (o ∷ w))) refl (file_f_ok (file_f_field (o ∷ w)))
  where
    go : (a : Bool) → leb (field_header_size v) (length (o ∷ w)) ≡ a → (b : Bool)
        → Steps (onward (state.Within (field_begun v (o ∷ w))) (cond a (cond b (Ok (field_header_size v)) (refuse 53 0)) (refuse 52 0))) (o ∷ w)
    go false e b = steps-stops (record { number = 52; index = 0 }) (o ∷ w)
    go true e false = steps-stops (record { number = 53; index = 0 }) (o ∷ w)
    go true e true = record { reach = (omega (arith, count-below v (o ∷ w)), omega arith); fits = leb-true (field_header_size v) (length (o ∷ w)) e }

limit-steps : (p : Part) (w : List ℕ) (b : Bool) → within_limits p.records p.cells ≡ b → Steps (finished p) w
limit-steps p w false h = rw h (steps-stops (record { number = 21; index = 0 }) w)
limit-steps p w true h = rw h (record { reach = tt; fits = omega arith })

plus-0 : (k : ℕ) → k ≡ k + 0
plus-0 k = omega arith

record-size : (r : Record) → length (cells_of r) ≡ head_cells + length r.words
record-size r = omega arith

-- the octets and the words of a packet
one_size : (w : List ℕ) (r : Record) → read_anc rfc8331 0 w ≡ Ok r → (anc_size rfc8331 (data_count rfc8331 w) ≡ run_size rfc8331 (r ∷ [])) × Short r
one_size w r e =
    let c = count-read rfc8331 w 0 r e in
    let d : data_count rfc8331 w < 256 = mod-lt _ (lit< tt) in
    (ap (anc_size rfc8331) c ∙ plus-0 (anc_size rfc8331 (length r.words)), omega (arith, c, d))

packet-steps : (p : Part) (n : ℕ) (w : List ℕ) → p.left ≡ suc n → InReach p → Steps (packet_of p (read_run rfc8331 0 1 w)) w
packet-steps p n w eq reach = subst (λ (r : Result (List Record × List ℕ)). Steps (packet_of p r) w) (sym (run-one rfc8331 0 w)) (go (read_anc rfc8331 0 w) refl)
  where
    go : (r : Result Record) → read_anc rfc8331 0 w ≡ r → Steps (packet_of p (r then λ z. Ok (z ∷ [], behind rfc8331 w))) w
    go (Err x) e = steps-stops (record { number = x.number; index = p.records }) w
    go (Ok r) e =
        let o = one_size w r e in
        let l : length (list_of (r ∷ [])) ≡ head_cells + length r.words = ap length (append-nil (cells_of r)) ∙ record-size r in
        record { reach = (omega (arith, eq, reach.0), omega (arith, reach.1, l, o.1)); fits = omega (arith, anc-fits 0 w r e, o.0) }

part-steps : (p : Part) (left : ℕ) (w : List ℕ) → p.left ≡ left → InReach p → Steps (part_scanned left p w) w
part-steps p zero w eq reach = limit-steps p w (within_limits p.records p.cells) refl
part-steps p (suc n) w eq reach = packet-steps p n w eq reach

pub scan_steps : (st : State) (w : List ℕ) → Reachable st → Steps (scan st w) w
scan_steps state.Start w h = head-steps w (judge 0 (file_checks w) (Ok file_head_size)) refl
scan_steps (state.Between v) w h = header-steps v w
scan_steps (state.Within p) w h = part-steps p p.left w refl h

-- what a turn of the code says of the file
pub record Went (y : Result Scanned) (w store' : List ℕ) (x : Standing) : Type 0 where
  pub to : Standing
  pub stands : StandsAs (stood_as y) store' to
  pub same : (s : List ℕ) → AtHand (most_size rfc8331) w s → rest_of x s ≡ rest_of to (drop (used_of y) s)

-- a turn of the code beside one of the definition
record Tied (v : Version) (t : Turn) (y : Result Scanned) (store' : List ℕ) : Type 0 where
  pub stands : StandsAs (stood_as y) store' (standing_after v t)
  pub left : (s : List ℕ) → left_after t s ≡ drop (used_of y) s

tied-stops : (v : Version) (x : Refusal) (n i : ℕ) (store : List ℕ) → x.number ≡ n → Tied v (stops x) (Err (record { number = n; index = i })) store
tied-stops v x n i store e = record { stands = stops-stand n store x e i; left = λ s. refl }

-- A FIELD'S HEADER
header-tied : (v : Version) (w store : List ℕ) → max_field_cells ≤ length store → Tied v (window.turn (between v) w) (header_scanned v w) store
unfolding window.turn field_header_checks
header-tied v [] store room = tied-stops v end_of_file end_number 0 store refl
header-tied v (o ∷ w) store room = go (leb (field_header_size v) (length (o ∷ w))) refl (file_f_ok (file_f_field (o ∷ w)))
  where
    go : (a : Bool) → leb (field_header_size v) (length (o ∷ w)) ≡ a → (b : Bool)
        → Tied v
        (turn_of (cond a (cond b (Ok (goes (within (timestamp_field (o ∷ w)) (file_f_field (o ∷ w)) (count_field v (o ∷ w)) []) (field_header_size v))) (refuse 53 0)) (refuse 52 0)))
        (onward (state.Within (field_begun v (o ∷ w))) (cond a (cond b (Ok (field_header_size v)) (refuse 53 0)) (refuse 52 0))) store
    go false e b = tied-stops v (record { number = 52; index = 0 }) 52 0 store refl
    go true e false = tied-stops v (record { number = 53; index = 0 }) 53 0 store refl
    go true e true =
        record {
          stands = ([], refl, holds-none store room, tt);
          left = λ s. refl;
        }

-- BEHIND THE LAST PACKET
module _ (p : Part) (rs : List Record) (w store : List ℕ) (holds : Holds (record { records = p.records; cells = p.cells; store = store }) rs) (few : Each Short rs) where
  limits-tied : Tied p.version (window.turn (within p.timestamp.0 p.f 0 rs) w) (finished p) store
  unfolding window.turn
  limits-tied = go (within_limits p.records p.cells) refl
    where
      e : within_limits (length rs) (length (list_of rs)) ≡ within_limits p.records p.cells
      e = ap₂ within_limits (sym holds.records) (sym holds.cells)

      n : length (list_of rs) ≡ p.cells
      n = sym holds.cells

      go : (b : Bool) → within_limits p.records p.cells ≡ b → Tied p.version (window.turn (within p.timestamp.0 p.f 0 rs) w) (finished p) store
      go false h = let k = e ∙ h in rw (h, k) (tied-stops p.version (record { number = 21; index = 0 }) 21 0 store refl)
      go true h =
          let k = e ∙ h in
          let q = and-true (leb p.records max_field_records) (leb p.cells max_field_cells) h in
          let y = leb-true p.cells max_field_cells q.1 in
          rw (h, k)
          (record {
            stands = (rs, refl, holds.records, omega (arith, holds.room, n), ap (λ (m : ℕ). take m store) n ∙ holds.store h, few);
            left = λ s. refl;
          })

  -- A PACKET
  each_append : (xs : List Record) (r : Record) → Each Short xs → Short r → Each Short (xs ++ (r ∷ []))
  each_append [] r h k = (k, tt)
  each_append (x ∷ xs) r h k = (h.0, each_append xs r h.1 k)

  -- the store keeps what the definition holds
  kept-holds : (r : Record) → Holds (record { records = p.records + 1; cells = p.cells + length (list_of (r ∷ [])); store = kept_of p (Ok (r ∷ [], behind rfc8331 w)) store }) (rs ++ (r ∷ []))
  kept-holds r =
      let h : Held = record { records = p.records; cells = p.cells; store = store } in
      let one : cells_of r ≡ list_of (r ∷ []) = sym (append-nil (cells_of r)) in
      let n : head_cells + length r.words ≡ length (list_of (r ∷ [])) = sym (record-size r) ∙ ap length one in
      subst (λ (z : Held). Holds z (rs ++ (r ∷ []))) (λ i. record { records = p.records + 1; cells = p.cells + n i; store = (stored r one n i) }) (holds_more h rs r holds)
    where
      stored : (r : Record) → cells_of r ≡ list_of (r ∷ []) → (n : head_cells + length r.words ≡ length (list_of (r ∷ [])))
          → cond (within_limits (p.records + 1) (p.cells + (head_cells + length r.words))) (splice store p.cells (cells_of r)) store ≡ kept_of p (Ok (r ∷ [], behind rfc8331 w)) store
      stored r one n =
          (λ i. cond (within_limits (p.records + 1) (p.cells + n i)) (splice store p.cells (one i)) store)
          ∙ go (within_limits (p.records + 1) (p.cells + length (list_of (r ∷ [])))) refl
        where
          go : (b : Bool) → within_limits (p.records + 1) (p.cells + length (list_of (r ∷ []))) ≡ b
              → cond b (splice store p.cells (list_of (r ∷ []))) store ≡ cond (b && leb (p.cells + length (list_of (r ∷ []))) (length store)) (splice store p.cells (list_of (r ∷ []))) store
          go false h = refl
          go true h =
              let q = and-true (leb (p.records + 1) max_field_records) (leb (p.cells + length (list_of (r ∷ []))) max_field_cells) h in
              let y = leb-true (p.cells + length (list_of (r ∷ []))) max_field_cells q.1 in
              let l = le-leb (p.cells + length (list_of (r ∷ []))) (length store) (omega (arith, holds.room)) in
              rw l

  packet-tied : (n : ℕ) → p.left ≡ suc n → Tied p.version (window.turn (within p.timestamp.0 p.f (suc n) rs) w) (part_scanned (suc n) p w) (part_kept (suc n) p w store)
  unfolding window.turn
  packet-tied n eq =
      subst (λ (r : Result (List Record × List ℕ)). Tied p.version (turn_of (read_anc rfc8331 (length rs) w then on_record)) (packet_of p r) (kept_of p r store)) (sym (run-one rfc8331 0 w))
      (subst (λ (r : Result Record). Tied p.version (turn_of (r then on_record)) (packet_of p (read_anc rfc8331 0 w then λ z. Ok (z ∷ [], behind rfc8331 w))) (kept_of p (read_anc rfc8331 0 w then λ z. Ok (z ∷ [], behind rfc8331 w)) store)) (sym (anc-index rfc8331 (length rs) 0 w))
      (go (read_anc rfc8331 0 w) refl))
    where
      on_record : Record → Result Turn
      on_record r = Ok (goes (within p.timestamp.0 p.f n (rs ++ (r ∷ []))) (anc_size rfc8331 (data_count rfc8331 w)))

      go : (r : Result Record) → read_anc rfc8331 0 w ≡ r
          → Tied p.version (turn_of (reindex (length rs) r then on_record)) (packet_of p (r then λ z. Ok (z ∷ [], behind rfc8331 w))) (kept_of p (r then λ z. Ok (z ∷ [], behind rfc8331 w)) store)
      go (Err x) e = tied-stops p.version (record { number = x.number; index = length rs }) x.number p.records store refl
      go (Ok r) e =
          let o = one_size w r e in
          let m : n ≡ p.left - 1 = omega (arith, eq) in
          record {
            stands = (rs ++ (r ∷ []), ap (λ (k : ℕ). reading p.version (within p.timestamp.0 p.f k (rs ++ (r ∷ [])))) m, kept-holds r, each_append rs r few o.1);
            left = λ s. ap (λ (k : ℕ). drop k s) o.0;
          }

  part-tied : (left : ℕ) → p.left ≡ left → Tied p.version (window.turn (within p.timestamp.0 p.f left rs) w) (part_scanned left p w) (part_kept left p w store)
  part-tied zero eq = limits-tied
  part-tied (suc n) eq = packet-tied n eq

-- a turn in the fields
tied-went : (v : Version) (st : window.State) (y : Result Scanned) (w store' : List ℕ) → Tied v (window.turn st w) y store' → Went y w store' (reading v st)
tied-went v st y w store' t =
    record {
      to = standing_after v (window.turn st w);
      stands = t.stands;
      same = λ s h. turn-rest v st w s h ∙ ap (rest_of (standing_after v (window.turn st w))) (t.left s);
    }

-- THE HEAD
refused-any : {A B : Type 0} (ts : Checks) (a : A) (x : Refusal) (r : Result B) → judge 0 ts (Ok a) ≡ Err x → judge 0 ts r ≡ Err x
refused-any [] a x r e = let z : ◌≡◌ {A = ℕ} 0 1 = cc in absurd (omega arith)
refused-any ((true, n) ∷ ts) a x r e = refused-any ts a x r e
refused-any ((false, n) ∷ ts) a x r e = let q : record { number = n; index = 0 } ≡ x = cc in ap Err q

head_near : (w s : List ℕ) → AtHand (most_size rfc8331) w s → (file_checks s ≡ file_checks w) × (version_of s ≡ version_of w)
head_near w s h = head-at-hand w s (fewer file_head_size (most_size rfc8331) w s (rw (size-rfc8331 255) (omega arith)) h)

head-went : (store w : List ℕ) (r : Result ℕ) → judge 0 (file_checks w) (Ok file_head_size) ≡ r → Went (onward (state.Between (version_of w)) r) w store starts
head-went store w (Err x) e =
    record {
      to = over x;
      stands = stops-stand x.number store x refl x.index;
      same = λ s h. head-refused s x (ap (λ (ts : Checks). judge {A = Unit {0}} 0 ts (Ok tt)) (head_near w s h).0 ∙ refused-any (file_checks w) file_head_size x (Ok tt) e);
    }
head-went store w (Ok n) e =
    let p = judge-accepts 0 (file_checks w) (Ok file_head_size) n e in
    let k : file_head_size ≡ n = accepted-inj p.1 in
    record {
      to = reading (version_of w) (between (version_of w));
      stands = refl;
      same =
          λ s h. let q = head_near w s h in
          head-rest s (subst Passed (sym q.0) p.0) ∙ (λ i. rest_of (reading (q.1 i) (between (q.1 i))) (drop (k i) s));
    }

-- ONE TURN OF THE CODE
pub scan-went : (st : State) (store w : List ℕ) (x : Standing) → max_field_cells ≤ length store → StandsAs (held.Reading st) store x → Went (scan st w) w (store_then st w store) x
scan-went state.Start store w x room h =
    subst (Went (scan state.Start w) w store) (sym h) (head-went store w (judge 0 (file_checks w) (Ok file_head_size)) refl)
scan-went (state.Between v) store w x room h =
    subst (Went (header_scanned v w) w store) (sym h) (tied-went v (between v) (header_scanned v w) w store (header-tied v w store room))
scan-went (state.Within p) store w x room (rs, e, holds, few) =
    subst (Went (part_scanned p.left p w) w (part_kept p.left p w store)) (sym e)
    (tied-went p.version (within p.timestamp.0 p.f p.left rs) (part_scanned p.left p w) w (part_kept p.left p w store) (part-tied p rs w store holds few p.left refl))
