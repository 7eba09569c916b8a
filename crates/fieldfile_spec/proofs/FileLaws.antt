-- Files read field by field: a field written and read is the same field, and a file reads as its fields and then 54
-- exactly where it is the head and the octets of those fields. By the readings one after the other, each of which is
-- decided by the octets from its offset on.
use mathlib.Core.Path.{◌≡◌, refl, ap, sym, ◌∙◌, subst}
use mathlib.Core.Bool.{Bool, true, false, cond, ◌||◌, true≢false}
use mathlib.Core.Logic.{◌↔◌}
use mathlib.Core.List.{List, [], ◌∷◌, ◌++◌, append_assoc}
use Prim.Native.Nat.{ℕ, zero, suc, ◌+◌, ◌-◌, ◌^◌, ◌<◌, ◌≤◌}
use native.Mathlib.Omega.{arith}
use lib.Dec.{eqb, leb}
use lib.ListN.{length, take, drop, length-append}
use lib.Seq.{take_at, drop-append_seam}
use borrow.Author.Tests.{eq-eqb, ne_eqb, eqb-true, leb-true, le-leb}
use Rattle.wire_spec.specs.declared.refusal.Refusal.{Refusal}
use Rattle.wire_spec.specs.Bits.{bits_at, pack, Fit, Below}
use Rattle.wire_spec.specs.Layout.{rfc8331}
use Rattle.wire_spec.specs.Result.{Result, Err, Ok, refuse, ◌then◌}
use Rattle.wire_spec.specs.Anc.{Record, run_octets}
use Rattle.wire_spec.specs.Cells.{list_of, Lists}
use Rattle.wire_spec.specs.Writing.{max_field_records}
use Rattle.wire_spec.proofs.BitLaws.{Reads, packed, unpacked, length-pack, below-octets, below-append}
use Rattle.wire_spec.proofs.ResultLaws.{Passed, accepted-inj, judge-accepts, judge-passes, then-accepts, and-true, and_both}
use Rattle.wire_spec.proofs.AncLaws.{below-run}
use Rattle.wire_spec.proofs.CellLaws.{list-iff, lists_length}
use Rattle.wire_spec.proofs.PacketLaws.{not_eqb}
use Rattle.fieldfile_spec.specs.declared.format.Version.{Version}
use Rattle.fieldfile_spec.specs.declared.format.Version.TheVariants as version
use Rattle.fieldfile_spec.specs.File.{file_name, version_number, written_version, version_field, is_version, version_said, version_of, count_bits, name_bits, name_size, file_head_size, timestamp_bits, FieldContent, file_fields, file_head, field_header_fields, field_octets, field_size, fields_octets, file_octets, WellFormedField, read_front, file_checks, offset_checks, read_field, read_into, field_records, write_field, field_then, read_on, read_from}
use Rattle.fieldfile_spec.proofs.FrontLaws.{header-least, length-field, front-iff}
use Rattle.fieldfile_spec.proofs.WritesLaws.{Writes, writes}

-- octets of the head, and of a field
pub length-head : (v : Version) → length (file_head v) ≡ file_head_size
length-head v = length-pack [] (file_fields v) file_head_size refl

pub below_field : (v : Version) → (k : FieldContent) → Below 256 (field_octets v k)
below_field v k =
    below-append 256 (pack (field_header_fields v k.timestamp k.f (length k.records))) (run_octets rfc8331 k.records) (below-octets _ _) (below-run rfc8331 k.records)

pub below-fields : (v : Version) → (ks : List FieldContent) → Below 256 (fields_octets v ks)
below-fields v [] = tt
below-fields v (k ∷ ks) = below-append 256 (field_octets v k) (fields_octets v ks) (below_field v k) (below-fields v ks)

pub below-file : (v : Version) → (ks : List FieldContent) → Below 256 (file_octets v ks)
below-file v ks = below-append 256 (file_head v) (fields_octets v ks) (below-octets _ _) (below-fields v ks)

-- the octets of a well-formed field are read as that field, whatever follows them
pub field-read : (v : Version) → (k : FieldContent) → WellFormedField v k → (t : List ℕ) → Below 256 t → read_front v (field_octets v k ++ t) ≡ Ok k
field-read v k w t b =
    (front-iff v (field_octets v k ++ t) k (below-append 256 (field_octets v k) t (below_field v k) b)).1 (w, take_at (field_octets v k) t (field_size v k.records) (length-field v k))

-- what a field may hold can be counted in the version that is written
counts : (n : ℕ) → n ≤ max_field_records → n < 2 ^ count_bits written_version
counts n h = omega arith

-- A FIELD WRITTEN AND READ IS THE SAME FIELD, whatever follows it: its records are those of the list, "apart from this cell" (02, K13)
pub written_read : (ts f : ℕ) (cells : List ℕ) (room : ℕ) (o : List ℕ) → ts < 2 ^ timestamp_bits → write_field ts f cells room ≡ Ok o
    → (rs : List Record) × Lists rs cells × WellFormedField written_version (record { timestamp = ts; f = f; records = rs })
    × (o ≡ field_octets written_version (record { timestamp = ts; f = f; records = rs })) × (length o ≤ room)
    × ((t : List ℕ) → Below 256 t → read_front written_version (o ++ t) ≡ Ok (record { timestamp = ts; f = f; records = rs }))
written_read ts f cells room o h e =
    let a = then-accepts (field_records f cells room) _ o e in
    let rs = a.0 in
    let k : FieldContent = record { timestamp = ts; f = f; records = rs } in
    let w : Writes f cells room rs = writes f cells room rs a.1 in
    let r = (list-iff cells rs).0 w.reads in
    let same : field_octets written_version k ≡ o = accepted-inj a.2 in
    let formed : WellFormedField written_version k = record {
      timestamp = h;
      f = w.f-ok;
      records = r.0;
      counted = counts (length rs) w.few;
      few = w.few;
      short = omega (arith, lists_length rs cells r.1, w.short);
    } in
    (rs, r.1, formed, sym same, omega (arith, ap length (sym same) ∙ length-field written_version k, w.enough), λ t b. ap (λ (x : List ℕ). read_front written_version (x ++ t)) (sym same) ∙ field-read written_version k formed t b)

-- a version that is read is the one that the number says, and the other way round
version-read : (n : ℕ) → is_version n ≡ true → n ≡ version_number (version_said n)
version-read n h = go (eqb n 1) (eqb n 2) refl refl h
  where
    go : (a b : Bool) → eqb n 1 ≡ a → eqb n 2 ≡ b → a || b ≡ true → n ≡ version_number (cond a version.One version.Two)
    go true b p q h = eqb-true n 1 p
    go false true p q h = eqb-true n 2 q
    go false false p q h = absurd (true≢false (sym h))

version-said : (v : Version) (n : ℕ) → n ≡ version_number v → (is_version n ≡ true) × (version_said n ≡ v)
version-said version.One n e = subst (λ (m : ℕ). (is_version m ≡ true) × (version_said m ≡ version.One)) (sym e) (refl, refl)
version-said version.Two n e = subst (λ (m : ℕ). (is_version m ≡ true) × (version_said m ≡ version.Two)) (sym e) (refl, refl)

-- octets that pass as a file of a version
abbrev pub IsFile : Version → List ℕ → Type 0
IsFile v s = Passed (file_checks s) × (version_of s ≡ v)

-- they do exactly where its head stands first
pub head-iff : (v : Version) (s : List ℕ) → Below 256 s → IsFile v s ↔ (take file_head_size s ≡ file_head v)
unfolding file_checks version_of
head-iff v s b = (
  λ p.
      let n = and-true (leb name_size (length s)) (eqb (bits_at s 0 name_bits) file_name) p.0.0 in
      let m = and-true (leb file_head_size (length s)) (is_version (version_field s)) p.0.1.0 in
      let is : version_field s ≡ version_number v = version-read (version_field s) m.1 ∙ ap version_number p.1 in
      (packed s (file_fields v) file_head_size refl b (leb-true file_head_size (length s) m.0) (eqb-true (bits_at s 0 name_bits) file_name n.1, (is, tt))).1,
  λ e.
      let l : length (take file_head_size s) ≡ file_head_size = ap length e ∙ length-head v in
      let m : file_head_size ≤ length s = omega (arith, sym (lib.ListN.length-take file_head_size s) ∙ l) in
      let r : Reads s 0 (file_fields v) = unpacked s (file_fields v) file_head_size refl (head-fits v) e in
      let is = version-said v (version_field s) r.1.0 in (
        (
          and_both (le-leb name_size (length s) (omega arith)) (eq-eqb (bits_at s 0 name_bits) file_name r.0),
          (and_both (le-leb file_head_size (length s) m) is.0, tt),
        ),
        is.1,
      ),
)
  where
    head-fits : (v : Version) → Fit (file_fields v)
    head-fits version.One = omega arith
    head-fits version.Two = omega arith

pub head-passes : (v : Version) (t : List ℕ) → Below 256 t → IsFile v (file_head v ++ t)
head-passes v t b = (head-iff v (file_head v ++ t) (below-append 256 (file_head v) t (below-octets _ _) b)).1 (take_at (file_head v) t file_head_size (length-head v))

-- reading at an offset of a file: the octets from there on decide
module _ (v : Version) (s pre t : List ℕ) (parts : s ≡ pre ++ t) (head : IsFile v s) (long : file_head_size ≤ length pre) where
  left : length s ≡ length pre + length t
  left = ap length parts ∙ length-append pre t

  -- no octets: 54
  pub at-end : length t ≡ 0 → read_field s (length pre) ≡ refuse 54 0
  unfolding read_field offset_checks
  at-end e =
      let a : leb file_head_size (length pre) ≡ true = le-leb file_head_size (length pre) long in
      let b : leb (length pre) (length s) ≡ true = le-leb (length pre) (length s) (omega (arith, left)) in
      let c : eqb (length pre) (length s) ≡ true = eq-eqb (length pre) (length s) (omega (arith, left)) in
      judge-passes 0 (file_checks s) _ head.0 ∙ rw (a, b, c)

  -- some: the field at their front
  pub at_field : 0 < length t → read_field s (length pre) ≡ (read_front v t then λ k. Ok (k, length pre + field_size v k.records))
  unfolding read_field offset_checks
  at_field h =
      let a : leb file_head_size (length pre) ≡ true = le-leb file_head_size (length pre) long in
      let b : leb (length pre) (length s) ≡ true = le-leb (length pre) (length s) (omega (arith, left)) in
      let c : eqb (length pre) (length s) ≡ false = ne_eqb (length pre) (length s) (λ (z : length pre ≡ length s). omega (arith, left)) in
      let d : drop (length pre) s ≡ t = ap (drop (length pre)) parts ∙ drop-append_seam pre t in
      judge-passes 0 (file_checks s) _ head.0 ∙ rw (head.1, a, b, c, d)

-- THE SAME THROUGH A FILE: a field written behind anything that the head starts, whatever follows it, is read at its offset as the
-- same timestamp, F and records, "apart from this cell", and the offset after it is that of what follows
pub appended-read : (ts f : ℕ) (cells : List ℕ) (room : ℕ) (o : List ℕ) → ts < 2 ^ timestamp_bits → write_field ts f cells room ≡ Ok o
    → (pre t : List ℕ) → Below 256 pre → Below 256 t → (lent : ℕ) → length cells ≤ lent
    → let at = length (file_head written_version ++ pre) in
    (rs : List Record) × Lists rs cells
    × (read_into ((file_head written_version ++ pre) ++ (o ++ t)) at lent ≡ Ok (record { timestamp = ts; f = f; records = rs }, at + length o))
unfolding read_into
appended-read ts f cells room o h e pre t bp bt lent l =
    let w = written_read ts f cells room o h e in
    let rs = w.0 in
    let k : FieldContent = record { timestamp = ts; f = f; records = rs } in
    let at = length (file_head written_version ++ pre) in
    let s = (file_head written_version ++ pre) ++ (o ++ t) in
    let size : length o ≡ field_size written_version rs = ap length w.3 ∙ length-field written_version k in
    let bo : Below 256 o = subst (Below 256) (sym w.3) (below_field written_version k) in
    let p : IsFile written_version s =
    subst (IsFile written_version) (sym (append_assoc (file_head written_version) pre (o ++ t))) (head-passes written_version (pre ++ (o ++ t)) (below-append 256 pre (o ++ t) bp (below-append 256 o t bo bt))) in
    let one : read_field s at ≡ Ok (k, at + field_size written_version rs) =
    at_field written_version s (file_head written_version ++ pre) (o ++ t) refl p (omega (arith, length-append (file_head written_version) pre, length-head written_version)) (omega (arith, length-append o t, header-least written_version))
    ∙ ap (λ x. x then λ k. Ok (k, at + field_size written_version k.records)) (w.5 t bt) in
    let c : leb (length (list_of rs)) lent ≡ true = le-leb (length (list_of rs)) lent (omega (arith, lists_length rs cells w.1)) in
    (rs, w.1, rw (one, c) (ap (λ (n : ℕ). Ok (k, at + n)) (sym size)))

-- a reading from the offset `at` on: the fields one after the other, and the refusal that ends it
pub data Reading (s : List ℕ) : ℕ → List FieldContent → Refusal → Type 0 where
  ends : {at : ℕ} {x : Refusal} → read_field s at ≡ Err x → Reading s at [] x
  goes : {at next : ℕ} {k : FieldContent} {ks : List FieldContent} {x : Refusal} → read_field s at ≡ Ok (k, next) → Reading s next ks x → Reading s at (k ∷ ks) x

-- each field moves the offset on
moves : (s : List ℕ) (at : ℕ) (q : FieldContent × ℕ) → read_field s at ≡ Ok q → (at < length s) × (at < q.1)
unfolding read_field offset_checks
moves s at q e =
    let v = version_of s in
    let f = judge-accepts 0 (file_checks s) _ q e in
    let o = judge-accepts 0 (offset_checks s at) _ q f.1 in
    let k = then-accepts (read_front v (drop at s)) _ q o.1 in
    let n : at + field_size v k.0.records ≡ q.1 = ap (λ (z : FieldContent × ℕ). z.1) (accepted-inj k.2) in
    let l = leb-true at (length s) (and-true (leb file_head_size at) (leb at (length s)) o.0.0).1 in
    let d : at ≡ length s → ⊥ = not_eqb at (length s) o.0.1.0 in
    (less at (length s) l d, omega (arith, n, header-least v))
  where
    less : (a b : ℕ) → a ≤ b → (a ≡ b → ⊥) → a < b
    less a b l d = omega (arith, d)

-- `read_from` is the reading, so its bound is never met ..
pub reading : (s : List ℕ) (bound at : ℕ) → length s - at < bound → Reading s at (read_from bound s at).fields (read_from bound s at).end
unfolding read_from
reading s zero at h = absurd (omega arith)
reading s (suc bound) at h = go (read_field s at) refl (λ next l. reading s bound next l)
  where
    go : (r : Result (FieldContent × ℕ)) → read_field s at ≡ r
        → ((next : ℕ) → length s - next < bound → Reading s next (read_from bound s next).fields (read_from bound s next).end)
        → Reading s at (read_on r (λ next. read_from bound s next)).fields (read_on r (λ next. read_from bound s next)).end
    go (Err x) e more = ends e
    go (Ok q) e more = let m = moves s at q e in goes e (more q.1 (omega arith))

-- .. and there is no other
pub reading-is : {s : List ℕ} {at : ℕ} {ks : List FieldContent} {x : Refusal} → Reading s at ks x → (bound : ℕ) → length s - at < bound
    → read_from bound s at ≡ record { fields = ks; end = x }
unfolding read_from
reading-is r zero h = absurd (omega arith)
reading-is (ends e) (suc bound) h = rw e
reading-is {s} {at} (goes {next = next} {k = k} e r) (suc bound) h =
    let m = moves s at (k, next) e in
    rw e (ap (field_then k) (reading-is r bound (omega arith)))
