-- Field files, of what `begin`, `write_field` and `read_field` take and return: what is written reads back, and what is refused and why.
-- From the laws of the file.
use mathlib.Core.Path.{◌≡◌, refl, ap, ap₂, sym, ◌∙◌, subst}
use mathlib.Core.Logic.{◌↔◌}
use mathlib.Core.List.{List, [], ◌∷◌, ◌++◌, append_assoc, append-nil}
use Prim.Native.Nat.{ℕ, ◌+◌, ◌<◌, ◌≤◌}
use native.Mathlib.Omega.{arith}
use lib.Dec.{leb}
use lib.ListN.{length, take, drop, length-append}
use lib.Seq.{take_at, drop_at}
use Rattle.wire_spec.specs.declared.refusal.Refusal.{Refusal}
use Rattle.wire_spec.specs.declared.count.OctetCount.{OctetCount}
use Rattle.wire_spec.specs.Bits.{Below, overwrite}
use Rattle.wire_spec.specs.Result.{Result, Err, Ok, refuse}
use Rattle.wire_spec.specs.Written.{octets_after, written_of}
use Rattle.wire_spec.specs.Cells.{list_of}
use Rattle.wire_spec.proofs.BitLaws.{below-append}
use Rattle.wire_spec.proofs.ResultLaws.{accepted-inj, judge-accepts}
use Rattle.wire_spec.proofs.CellLaws.{lists_length}
use Rattle.fieldfile_spec.specs.declared.format.Version.TheVariants as version
use Rattle.fieldfile_spec.specs.File.{FieldContent, file_head, file_head_size, written_version, read_field, read_into, write_head, write_field}
use Rattle.fieldfile_spec.specs.Refuses.{head_of, only, Refuses, WriteRefuses}
use Rattle.fieldfile_spec.proofs.FileLaws.{IsFile, length-head, below_field, written_read, head-passes, at-end, appended-read}
use Rattle.fieldfile_spec.proofs.Refusals.{head-octets, read-refuses, write-refuses, begin-refuses, read_before, old-reader}
use Rattle.fieldfile_reader.specs.Answers.{read_of, cells_after, read_returns, read_leaves}
use Rattle.fieldfile_writer.specs.Entry.{begin_returns, begin_leaves, field_returns, field_leaves}
use Rattle.fieldfile_laws.specs.Again.{Wrote, octets_of, all_octets, ReadBack, ReadOn}

-- WRITTEN, THEN READ
-- octets that a writer returned stand first in what it left
record Left (r : Result (List ℕ)) (out : List ℕ) (n : OctetCount) : Type 0 where
  octets : List ℕ
  wrote : r ≡ Ok octets
  size : length octets ≡ n.0
  first : take n.0 (octets_after r out) ≡ octets

left : (r : Result (List ℕ)) (out : List ℕ) (n : OctetCount) → written_of r ≡ Ok n → Left r out n
left (Err x) out n e = let z : ◌≡◌ {A = ℕ} 0 1 = cc in absurd (omega arith)
left (Ok o) out n e =
    let u : record { 0 = length o } ≡ n = cc in
    let size : length o ≡ n.0 = ap (λ (y : OctetCount). y.0) u in
    record { octets = o; wrote = refl; size = size; first = ap (λ (k : ℕ). take k (overwrite o out)) (sym size) ∙ take_at o (drop (length o) out) (length o) refl }

module _ (w : Wrote) where
  abbrev one : Left (write_field w.timestamp w.f w.cells (length w.out)) w.out w.size
  one = left (write_field w.timestamp w.f w.cells (length w.out)) w.out w.size w.returned

  below_one : Below 256 (octets_of w)
  below_one =
      let d = written_read w.timestamp w.f w.cells (length w.out) one.octets w.typed one.wrote in
      subst (Below 256) (sym (one.first ∙ d.3)) (below_field written_version (record { timestamp = w.timestamp; f = w.f; records = d.0 }))

  size-one : length (octets_of w) ≡ w.size.0
  size-one = ap length one.first ∙ one.size

  -- one field, behind anything that the head starts, whatever follows it
  read_back : (pre t : List ℕ) → Below 256 pre → Below 256 t → (lent : List ℕ) → length w.cells ≤ length lent
      → ReadBack ((file_head written_version ++ pre) ++ (octets_of w ++ t)) (length (file_head written_version ++ pre)) w lent
  read_back pre t bp bt lent room =
      let at = length (file_head written_version ++ pre) in
      let file = (file_head written_version ++ pre) ++ (octets_of w ++ t) in
      let d = appended-read w.timestamp w.f w.cells (length w.out) one.octets w.typed one.wrote pre t bp bt (length lent) room in
      let rs = d.0 in
      let k : FieldContent = record { timestamp = w.timestamp; f = w.f; records = rs } in
      let long : length (list_of rs) ≡ length w.cells = sym (lists_length rs w.cells d.1) in
      let into : read_into file at (length lent) ≡ Ok (k, at + length one.octets) =
      ap (λ (o : List ℕ). read_into ((file_head written_version ++ pre) ++ (o ++ t)) at (length lent)) one.first ∙ d.2 in
      let after : read_leaves file at lent ≡ overwrite (list_of rs) lent = ap (λ (r : Result (FieldContent × ℕ)). cells_after r lent) into in
      record {
        records = rs;
        lists = d.1;
        returns =
            ap read_of into
            ∙ (λ i. Ok (record {
              timestamp = record { 0 = w.timestamp };
              f = w.f;
              records = length rs;
              cells = long i;
              next = record { 0 = at + one.size i };
            }));
        leaves = ap₂ (λ (n : ℕ) (l : List ℕ). take n l) (sym long) after ∙ take_at (list_of rs) (drop (length (list_of rs)) lent) (length (list_of rs)) refl;
        rest =
            ap₂ (λ (n : ℕ) (l : List ℕ). drop n l) (sym long) after
            ∙ drop_at (list_of rs) (drop (length (list_of rs)) lent) (length (list_of rs)) refl
            ∙ ap (λ (n : ℕ). drop n lent) long;
      }

below_all : (ws : List Wrote) → Below 256 (all_octets ws)
below_all [] = tt
below_all (w ∷ ws) = below-append 256 (octets_of w) (all_octets ws) (below_one w) (below_all ws)

-- fields behind anything that the head starts
read-on : (pre : List ℕ) → Below 256 pre → (ws : List Wrote) (file : List ℕ) (at : ℕ) → file ≡ (file_head written_version ++ pre) ++ all_octets ws
    → at ≡ length (file_head written_version ++ pre) → ReadOn file at ws
unfolding read_into
read-on pre b [] file at e h =
    λ lent.
    let same : file ≡ file_head written_version ++ pre = e ∙ append-nil (file_head written_version ++ pre) in
    let none : read_field file at ≡ refuse 54 0 =
    ap (read_field file) h
    ∙ at-end written_version file (file_head written_version ++ pre) [] e (subst (IsFile written_version) (sym same) (head-passes written_version pre b))
    (omega (arith, length-append (file_head written_version) pre, length-head written_version)) refl in
    let into : read_into file at (length lent) ≡ refuse 54 0 = rw none in
    ap read_of into
read-on pre b (w ∷ ws) file at e h =
    let on : (file_head written_version ++ pre) ++ (octets_of w ++ all_octets ws) ≡ (file_head written_version ++ (pre ++ octets_of w)) ++ all_octets ws =
    sym (append_assoc (file_head written_version ++ pre) (octets_of w) (all_octets ws)) ∙ ap (λ (s : List ℕ). s ++ all_octets ws) (append_assoc (file_head written_version) pre (octets_of w)) in
    let next : at + w.size.0 ≡ length (file_head written_version ++ (pre ++ octets_of w)) =
    omega (arith, h, size-one w, length-append (file_head written_version) pre, length-append (file_head written_version) (pre ++ octets_of w), length-append pre (octets_of w)) in (
      λ lent room. subst (λ (n : ℕ). ReadBack file n w lent) (sym h) (subst (λ (s : List ℕ). ReadBack s (length (file_head written_version ++ pre)) w lent) (sym e) (read_back w pre (all_octets ws) b (below_all ws) lent room)),
      read-on (pre ++ octets_of w) (below-append 256 pre (octets_of w) b (below_one w)) ws file (at + w.size.0) (e ∙ on) next,
    )

-- A FILE THAT WAS WRITTEN: what `begin` left, and behind it what calls of `write_field` left, is read field by field from the offset 5 on
pub files-read : (out : List ℕ) (n : OctetCount) → begin_returns out ≡ Ok n → (ws : List Wrote) → ReadOn (take n.0 (begin_leaves out) ++ all_octets ws) 5 ws
files-read out n e ws =
    let b = left (write_head (length out)) out n e in
    read-on [] tt ws (take n.0 (begin_leaves out) ++ all_octets ws) 5 (ap (λ (s : List ℕ). s ++ all_octets ws) (begun (length out) b ∙ sym (append-nil (file_head written_version)))) five
  where
    head-is : (room : ℕ) (o : List ℕ) → write_head room ≡ Ok o → o ≡ file_head written_version
    head-is room o q = sym (accepted-inj (judge-accepts 0 ((leb file_head_size room, 23) ∷ []) (Ok (file_head written_version)) o q).1)

    begun : (room : ℕ) → (l : Left (write_head room) out n) → take n.0 (octets_after (write_head room) out) ≡ file_head written_version
    begun room l = l.first ∙ head-is room l.octets l.wrote

    five : 5 ≡ length (file_head written_version ++ [])
    five = sym (ap length (append-nil (file_head written_version)) ∙ length-head written_version)

-- "an old reader refuses it with 51" (02, K2): all that `begin` began
pub old-refuses : (out : List ℕ) (n : OctetCount) → begin_returns out ≡ Ok n → (t : List ℕ) (at : ℕ)
    → read_before (take n.0 (begin_leaves out) ++ t) at ≡ refuse 51 0
old-refuses out n e t at =
    let b = left (write_head (length out)) out n e in
    let h : take n.0 (begin_leaves out) ≡ head_of version.Two =
    b.first ∙ sym (accepted-inj (judge-accepts 0 ((leb file_head_size (length out), 23) ∷ []) (Ok (file_head written_version)) b.octets b.wrote).1) ∙ head-octets version.Two in
    old-reader (take n.0 (begin_leaves out) ++ t) (ap (λ (s : List ℕ). take 5 (s ++ t)) h) at

-- REFUSED exactly where the papers say so, with their numbers and in their order; "Lent memory is unchanged"
module _ (file : List ℕ) (below : Below 256 file) (at : ℕ) (lent : List ℕ) (x : Refusal) where
  pub read-refused-iff : (read_returns file at lent ≡ Err x) ↔ Refuses file at (length lent) x
  read-refused-iff = (λ e. go (read_into file at (length lent)) refl e, λ r. ap read_of ((read-refuses file below at (length lent) x).1 r))
    where
      go : (r : Result (FieldContent × ℕ)) → read_into file at (length lent) ≡ r → read_of r ≡ Err x → Refuses file at (length lent) x
      go (Err y) q e = let s : y ≡ x = cc in (read-refuses file below at (length lent) x).0 (q ∙ ap Err s)
      go (Ok k) q e = let z : ◌≡◌ {A = ℕ} 0 1 = cc in absurd (omega arith)

  pub read-refused-stays : read_returns file at lent ≡ Err x → read_leaves file at lent ≡ lent
  read-refused-stays e = go (read_into file at (length lent)) e
    where
      go : (r : Result (FieldContent × ℕ)) → read_of r ≡ Err x → cells_after r lent ≡ lent
      go (Err y) e = refl
      go (Ok k) e = let z : ◌≡◌ {A = ℕ} 0 1 = cc in absurd (omega arith)

-- a writer that refused
writer-refused : (r : Result (List ℕ)) (out : List ℕ) (x : Refusal) → written_of r ≡ Err x → (r ≡ Err x) × (octets_after r out ≡ out)
writer-refused (Err y) out x e = let s : y ≡ x = cc in (ap Err s, refl)
writer-refused (Ok o) out x e = let z : ◌≡◌ {A = ℕ} 0 1 = cc in absurd (omega arith)

module _ (timestamp f : ℕ) (cells out : List ℕ) (x : Refusal) where
  pub write-refused-iff : (field_returns timestamp f cells out ≡ Err x) ↔ WriteRefuses f cells (length out) x
  write-refused-iff =
      (λ e. (write-refuses timestamp f cells (length out) x).0 (writer-refused (write_field timestamp f cells (length out)) out x e).0, λ r. ap written_of ((write-refuses timestamp f cells (length out) x).1 r))

  pub write-refused-stays : field_returns timestamp f cells out ≡ Err x → field_leaves timestamp f cells out ≡ out
  write-refused-stays e = (writer-refused (write_field timestamp f cells (length out)) out x e).1

pub begin-refused-iff : (out : List ℕ) (x : Refusal) → (begin_returns out ≡ Err x) ↔ ((length out < 5) × (x ≡ only 23))
begin-refused-iff out x =
    (λ e. (begin-refuses (length out) x).0 (writer-refused (write_head (length out)) out x e).0, λ r. ap written_of ((begin-refuses (length out) x).1 r))
