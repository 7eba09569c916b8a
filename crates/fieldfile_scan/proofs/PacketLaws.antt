-- One packet: one record, of no more cells than a packet can have; and what the store then holds.
-- By what the run of one packet is.
use Rattle.anc_reader.specs.declared.check.Run.{Run}
use mathlib.Core.Path.{◌≡◌, refl, ap, sym, ◌∙◌, subst}
use mathlib.Core.Bool.{true, false}
use mathlib.Core.List.{List, [], ◌∷◌}
use Prim.Native.Nat.{ℕ, zero, suc, ◌+◌, ◌<◌, ◌≤◌}
use native.Mathlib.Nat.{mod-lt}
use native.Mathlib.Omega.{arith}
use borrow.Author.Tests.{le-leb, lt-leb}
use lib.Dec.{lit<}
use lib.ListN.{length, length-append}
use Rattle.wire_spec.specs.declared.refusal.Refusal.{Refusal}
use Rattle.wire_spec.specs.declared.count.OctetCount.{OctetCount}
use Rattle.wire_spec.specs.Bits.{splice}
use Rattle.wire_spec.specs.Layout.{rfc8331}
use Rattle.wire_spec.specs.Words.{header_numbers}
use Rattle.wire_spec.specs.Result.{Result, Err, Ok, judge, Checks, IsAccepted}
use Rattle.wire_spec.specs.Anc.{Record, data_count, read_anc, read_run, run_size}
use Rattle.wire_spec.specs.Cells.{cells_of, head_cells, list_of}
use Rattle.wire_spec.proofs.ResultLaws.{accepted-inj, judge-passes, then-accepts}
use Rattle.wire_spec.proofs.AncLaws.{count-read}
use Rattle.anc_reader.specs.Answers.{run_of, run_cells}
use Rattle.fieldfile_spec.specs.declared.format.Version.{Version}
use Rattle.fieldfile_spec.specs.File.{end_of_file, field_header_checks, field_header_size, within_limits}
use Rattle.wire_offsets.specs.Stage.{stage_of}
use Rattle.wire_offsets.proofs.StageLaws.{stage-passed, stage-refused}
use Rattle.fieldfile_scan.specs.declared.state.Part.{Part}
use Rattle.fieldfile_scan.specs.declared.state.State.{State}
use Rattle.fieldfile_scan.specs.declared.state.State.TheVariants as state
use Rattle.fieldfile_scan.specs.declared.state.Scanned.TheVariants as scanned
use Rattle.fieldfile_scan.specs.Scan.{counted, field_begun, header_scanned, kept_of, onward, packet_of, part_kept, part_scanned}

-- a stage that refused, and one that passed
pub stage-stops : (st : State) (ts : Checks) (v : ℕ) (x : Refusal) → stage_of (judge 0 ts (Ok v)) ≡ Err x → Err x ≡ onward st (judge 0 ts (Ok v))
stage-stops st ts v x h = ap (onward st) (sym (stage-refused ts v x (Ok v) h))

pub stage-goes : (st : State) (ts : Checks) (v : ℕ) (n : OctetCount) → stage_of (judge 0 ts (Ok v)) ≡ Ok n → (Ok (scanned.On st n)) ≡ onward st (judge 0 ts (Ok v))
stage-goes st ts v n h =
    let p = stage-passed ts v n h in
    (λ i. (Ok (scanned.On st (record { 0 = sym p.1 i })))) ∙ ap (onward st) (sym (judge-passes 0 ts (Ok v) p.0))

-- the header of a field, where there are octets and where there are none
pub header-end : (v : Version) (w : List ℕ) → length w ≡ 0 → Err end_of_file ≡ header_scanned v w
header-end v [] h = refl
header-end v (o ∷ w) h = absurd (omega arith)

pub header-some : (v : Version) (w : List ℕ) → (length w ≡ 0 → ⊥)
    → header_scanned v w ≡ onward (state.Within (field_begun v w)) (judge 0 (field_header_checks v w) (Ok (field_header_size v)))
header-some v [] h = absurd (h refl)
header-some v (o ∷ w) h = refl

-- the most cells of a packet
pub one-record : (s : List ℕ) (q : List Record × List ℕ) → read_run rfc8331 0 1 s ≡ Ok q → length (list_of q.0) < head_cells + header_numbers
unfolding read_run
one-record s q e =
    let a = then-accepts (read_anc rfc8331 0 s) _ q e in
    let r : a.0 ∷ [] ≡ q.0 = ap (λ (z : List Record × List ℕ). z.0) (accepted-inj a.2) in
    let c = count-read rfc8331 s 0 a.0 a.1 in
    let l : data_count rfc8331 s < 256 = mod-lt _ (lit< tt) in
    subst (λ (z : List Record). length (list_of z) < head_cells + header_numbers) r (omega (arith, length-append (cells_of a.0) []))

-- what the check told of the run
module _ (s : List ℕ) where
  pub record Told (o : OctetCount) (c : ℕ) : Type 0 where
    pub found : List Record × List ℕ
    pub reads : read_run rfc8331 0 1 s ≡ Ok found
    pub octets : record { 0 = run_size rfc8331 found.0 } ≡ o
    pub cells : length (list_of found.0) ≡ c

  pub told : (o : OctetCount) (c : ℕ) → run_of rfc8331 (read_run rfc8331 0 1 s) ≡ Ok (record { octets = o; cells = c }) → Told o c
  told o c h = go (read_run rfc8331 0 1 s) refl h
    where
      go : (v : Result (List Record × List ℕ)) → read_run rfc8331 0 1 s ≡ v → run_of rfc8331 v ≡ Ok (record { octets = o; cells = c }) → Told o c
      go (Err x) e h = let z : ◌≡◌ {A = ℕ} 0 1 = cc in absurd (omega arith)
      go (Ok q) e h =
          let u : ◌≡◌ {A = Run} (record { octets = record { 0 = run_size rfc8331 q.0 }; cells = length (list_of q.0) }) (record { octets = o; cells = c }) = cc in
          record { found = q; reads = e; octets = ap (λ (y : Run). y.octets) u; cells = ap (λ (y : Run). y.cells) u }

  pub few-cells : (o : OctetCount) (c : ℕ) → Told o c → c < head_cells + header_numbers
  few-cells o c t = omega (arith, one-record s t.found t.reads, t.cells)

  pub told-accepted : (o : OctetCount) (c : ℕ) → Told o c → IsAccepted (read_run rfc8331 0 1 s) × (length (run_cells (read_run rfc8331 0 1 s)) ≡ c)
  told-accepted o c t =
      (subst IsAccepted (sym t.reads) tt, ap (λ (r : Result (List Record × List ℕ)). length (run_cells r)) t.reads ∙ t.cells)

  pub packet-on : (p : Part) (o : OctetCount) (c : ℕ) → Told o c → (Ok (scanned.On (state.Within (counted p c)) o)) ≡ packet_of p (read_run rfc8331 0 1 s)
  packet-on p o c t =
      sym ((λ i. packet_of p (t.reads i)) ∙ (λ i. (Ok (scanned.On (state.Within (counted p (t.cells i))) (t.octets i)))))

-- a packet that is refused: nothing is kept
pub packet-stops : (p : Part) (r : Result (List Record × List ℕ)) (x : Refusal) (store : List ℕ) → run_of rfc8331 r ≡ Err x
    → (Err (record { number = x.number; index = p.records }) ≡ packet_of p r) × (store ≡ kept_of p r store)
packet-stops p (Err y) x store h =
    let e : y ≡ x = cc in (ap (λ (z : Refusal). Err (record { number = z.number; index = p.records })) (sym e), refl)
packet-stops p (Ok q) x store h = let z : ◌≡◌ {A = ℕ} 0 1 = cc in absurd (omega arith)

-- what is kept of one that is accepted
module _ (p : Part) (store : List ℕ) (k : ℕ) where
  pub kept-over : (r : Result (List Record × List ℕ)) → IsAccepted r → length (run_cells r) ≡ k → within_limits (p.records + 1) (p.cells + k) ≡ false → store ≡ kept_of p r store
  kept-over (Err x) a n h = refl
  kept-over (Ok q) a n h =
      let e : within_limits (p.records + 1) (p.cells + length (list_of q.0)) ≡ false = ap (λ (m : ℕ). within_limits (p.records + 1) (p.cells + m)) n ∙ h in
      rw e

  pub kept-short : (r : Result (List Record × List ℕ)) → IsAccepted r → length (run_cells r) ≡ k → within_limits (p.records + 1) (p.cells + k) ≡ true
      → length store < p.cells + k → store ≡ kept_of p r store
  kept-short (Err x) a n h l = refl
  kept-short (Ok q) a n h l =
      let e : within_limits (p.records + 1) (p.cells + length (list_of q.0)) ≡ true = ap (λ (m : ℕ). within_limits (p.records + 1) (p.cells + m)) n ∙ h in
      let f = lt-leb (p.cells + length (list_of q.0)) (length store) (omega arith) in
      rw (e, f)

  pub kept_whole : (r : Result (List Record × List ℕ)) → IsAccepted r → length (run_cells r) ≡ k → within_limits (p.records + 1) (p.cells + k) ≡ true
      → p.cells + k ≤ length store → splice store p.cells (run_cells r) ≡ kept_of p r store
  kept_whole (Err x) a n h l = absurd a
  kept_whole (Ok q) a n h l =
      let e : within_limits (p.records + 1) (p.cells + length (list_of q.0)) ≡ true = ap (λ (m : ℕ). within_limits (p.records + 1) (p.cells + m)) n ∙ h in
      let f = le-leb (p.cells + length (list_of q.0)) (length store) (omega arith) in
      rw (e, f)

-- no packet is left, or one is
pub none_left : (left : ℕ) (p : Part) (w store : List ℕ) → left ≡ 0 → (part_scanned left p w ≡ part_scanned 0 p w) × (part_kept left p w store ≡ store)
none_left zero p w store h = (refl, refl)
none_left (suc n) p w store h = absurd (omega arith)

pub one_left : (left : ℕ) (p : Part) (w store : List ℕ) → (left ≡ 0 → ⊥) → (part_scanned left p w ≡ part_scanned 1 p w) × (part_kept left p w store ≡ part_kept 1 p w store)
one_left zero p w store h = absurd (h refl)
one_left (suc n) p w store h = (refl, refl)
