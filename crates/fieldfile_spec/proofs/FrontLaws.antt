-- The field at the front of octets is accepted exactly where the octets of a well-formed field stand.
-- Its header's fields are read exactly where they stand packed, and its run is accepted exactly where its records' octets stand.
use mathlib.Core.Path.{◌≡◌, refl, ap, ap₂, sym, ◌∙◌, subst}
use mathlib.Core.Bool.{Bool, true, false, ◌||◌, true≢false}
use mathlib.Core.Logic.{◌↔◌}
use mathlib.Core.List.{List, [], ◌++◌, append_assoc}
use Prim.Native.Nat.{ℕ, ◌+◌, ◌*◌, ◌^◌, ◌<◌, ◌≤◌}
use native.Mathlib.Omega.{arith}
use lib.Dec.{eqb, leb}
use lib.ListN.{length, take, drop, length-append, take-append-drop}
use lib.Seq.{take-add, take_at, drop_at}
use borrow.Author.Tests.{eqb-true, leb-true, le-leb}
use Rattle.wire_spec.specs.Bits.{width, pack, Below, Fit}
use Rattle.wire_spec.specs.Layout.{rfc8331}
use Rattle.wire_spec.specs.Result.{Result, Ok, judge, ◌then◌}
use Rattle.wire_spec.specs.Anc.{Record, run_octets, run_size, read_run}
use Rattle.wire_spec.specs.Cells.{list_of}
use Rattle.wire_spec.specs.Writing.{max_field_records, max_field_cells}
use Rattle.wire_spec.proofs.BitLaws.{Reads, packed, unpacked, length-pack, below-drop}
use Rattle.wire_spec.proofs.ResultLaws.{Passed, accepted-inj, judge-accepts, judge-passes, then-accepts, and-true, and_both}
use Rattle.wire_spec.proofs.AncLaws.{run-iff, length_run}
use Rattle.fieldfile_spec.specs.declared.format.Version.{Version}
use Rattle.fieldfile_spec.specs.declared.format.Version.TheVariants as version
use Rattle.fieldfile_spec.specs.File.{FieldContent, file_f_bits, timestamp_bits, field_header_size, field_header_fields, field_octets, field_size, file_f_ok, within_limits, WellFormedField, timestamp_field, file_f_field, count_field, field_read, field_header_checks, limit_checks, read_front}

-- F is a number of its octet
pub f-small : (f : ℕ) → file_f_ok f ≡ true → f < 2 ^ file_f_bits
f-small f h = go (eqb f 0) (eqb f 2) (eqb f 3) refl refl refl h
  where
    go : (a b c : Bool) → eqb f 0 ≡ a → eqb f 2 ≡ b → eqb f 3 ≡ c → a || (b || c) ≡ true → f < 2 ^ file_f_bits
    go true b c p q r h = omega (arith, eqb-true f 0 p)
    go false true c p q r h = omega (arith, eqb-true f 2 q)
    go false false true p q r h = omega (arith, eqb-true f 3 r)
    go false false false p q r h = absurd (true≢false (sym h))

-- octets of a field's header, which is longer than its timestamp and F
pub header-bits : (v : Version) → width (field_header_fields v 0 0 0) ≡ 8 * field_header_size v
header-bits version.One = refl
header-bits version.Two = refl

pub header-least : (v : Version) → timestamp_bits + file_f_bits < 8 * field_header_size v
header-least version.One = omega arith
header-least version.Two = omega arith

-- octets of a field
pub length-field : (v : Version) → (k : FieldContent) → length (field_octets v k) ≡ field_size v k.records
length-field v k =
    let fs = field_header_fields v k.timestamp k.f (length k.records) in
    length-append (pack fs) (run_octets rfc8331 k.records)
    ∙ ap₂ ◌+◌ (length-pack [] fs (field_header_size v) (header-bits v)) (length_run rfc8331 k.records)

-- a header that passes is there
pub header-there : (v : Version) → (s : List ℕ) → Passed (field_header_checks v s) → field_header_size v ≤ length s
unfolding field_header_checks
header-there v s p = leb-true (field_header_size v) (length s) p.0

-- a header that stands packed reads as its fields, and passes
pub record HeaderFound (v : Version) (s : List ℕ) (k : FieldContent) (t : List ℕ) : Type 0 where
  pub passed : Passed (field_header_checks v s)
  pub timestamp : timestamp_field s ≡ k.timestamp
  pub f : file_f_field s ≡ k.f
  pub count : count_field v s ≡ length k.records
  pub behind : drop (field_header_size v) s ≡ t

pub header-found : (v : Version) → (s : List ℕ) (k : FieldContent) (t : List ℕ) → WellFormedField v k
    → s ≡ pack (field_header_fields v k.timestamp k.f (length k.records)) ++ t → HeaderFound v s k t
unfolding field_header_checks
header-found v s k t w e =
    let fs = field_header_fields v k.timestamp k.f (length k.records) in
    let lp : length (pack fs) ≡ field_header_size v = length-pack [] fs (field_header_size v) (header-bits v) in
    let fit : Fit fs = (w.timestamp, (f-small k.f w.f, (w.counted, tt))) in
    let r : Reads s 0 fs = unpacked s fs (field_header_size v) (header-bits v) fit (ap (take (field_header_size v)) e ∙ take_at (pack fs) t (field_header_size v) lp) in
    let f : file_f_field s ≡ k.f = r.1.0 in
    record {
      passed = (le-leb (field_header_size v) (length s) (omega (arith, ap length e ∙ length-append (pack fs) t)), (ap file_f_ok f ∙ w.f, tt));
      timestamp = r.0;
      f = f;
      count = r.1.1.0;
      behind = ap (drop (field_header_size v)) e ∙ drop_at (pack fs) t (field_header_size v) lp;
    }

-- what an answer says: every check passed, and what was read
pub record Answer (v : Version) (s : List ℕ) (k : FieldContent) : Type 0 where
  pub header : Passed (field_header_checks v s)
  pub rest : List ℕ
  pub ran : read_run rfc8331 0 (count_field v s) (drop (field_header_size v) s) ≡ Ok (k.records, rest)
  pub limits : within_limits (length k.records) (length (list_of k.records)) ≡ true
  pub read : field_read s k.records ≡ k

module _ (v : Version) (s : List ℕ) (k : FieldContent) where
  abbrev run : Result (List Record × List ℕ)
  run = read_run rfc8331 0 (count_field v s) (drop (field_header_size v) s)

  pub answer-iff : (read_front v s ≡ Ok k) ↔ Answer v s k
  unfolding read_front
  answer-iff = (
    λ e.
        let h = judge-accepts 0 (field_header_checks v s) _ k e in
        let r = then-accepts run _ k h.1 in
        let l = judge-accepts 0 (limit_checks r.0.0) (Ok (field_read s r.0.0)) k r.2 in
        let same : field_read s r.0.0 ≡ k = accepted-inj l.1 in
        let rs : r.0.0 ≡ k.records = ap (λ (x : FieldContent). x.records) same in
        record {
          header = h.0;
          rest = r.0.1;
          ran = r.1 ∙ ap (λ (x : List Record). Ok (x, r.0.1)) rs;
          limits = subst (λ (x : List Record). within_limits (length x) (length (list_of x)) ≡ true) rs l.0.0;
          read = ap (field_read s) (sym rs) ∙ same;
        },
    λ a.
        judge-passes 0 (field_header_checks v s) _ a.header
        ∙ ap (λ x. x then λ q. judge 0 (limit_checks q.0) (Ok (field_read s q.0))) a.ran
        ∙ judge-passes 0 (limit_checks k.records) _ (a.limits, tt)
        ∙ ap Ok a.read,
  )

  -- what stands in the octets of a field that is accepted
  answer-stands : Below 256 s → Answer v s k → WellFormedField v k × (take (field_size v k.records) s ≡ field_octets v k)
  unfolding field_header_checks
  answer-stands b a =
      let rs = k.records in
      let r = (run-iff rfc8331 0 (count_field v s) (drop (field_header_size v) s) (below-drop 256 (field_header_size v) s b) rs a.rest).0 a.ran in
      let ts : timestamp_field s ≡ k.timestamp = ap (λ (x : FieldContent). x.timestamp) a.read in
      let f : file_f_field s ≡ k.f = ap (λ (x : FieldContent). x.f) a.read in
      let fs = field_header_fields v k.timestamp k.f (length rs) in
      let front = packed s fs (field_header_size v) (header-bits v) b (header-there v s a.header) (ts, (f, (sym r.0, tt))) in
      let l = and-true (leb (length rs) max_field_records) (leb (length (list_of rs)) max_field_cells) a.limits in (
        record {
          timestamp = front.0.0;
          f = subst (λ (x : ℕ). file_f_ok x ≡ true) f a.header.1.0;
          records = r.1;
          counted = front.0.1.1.0;
          few = leb-true (length rs) max_field_records l.0;
          short = leb-true (length (list_of rs)) max_field_cells l.1;
        },
        take-add (field_header_size v) (run_size rfc8331 rs) s
            ∙ ap₂ ◌++◌ front.1 (ap (take (run_size rfc8331 rs)) r.2 ∙ take_at (run_octets rfc8331 rs) a.rest (run_size rfc8331 rs) (length_run rfc8331 rs)),
      )

  -- and the octets of a well-formed field are accepted
  stands-answer : Below 256 s → WellFormedField v k → take (field_size v k.records) s ≡ field_octets v k → Answer v s k
  stands-answer b w e =
      let rs = k.records in
      let fs = field_header_fields v k.timestamp k.f (length rs) in
      let rest = drop (field_size v rs) s in
      let parts : s ≡ pack fs ++ (run_octets rfc8331 rs ++ rest) =
      sym (take-append-drop (field_size v rs) s) ∙ ap (λ (x : List ℕ). x ++ rest) e ∙ append_assoc (pack fs) (run_octets rfc8331 rs) rest in
      let h : HeaderFound v s k (run_octets rfc8331 rs ++ rest) = header-found v s k (run_octets rfc8331 rs ++ rest) w parts in
      record {
        header = h.passed;
        rest = rest;
        ran = (run-iff rfc8331 0 (count_field v s) (drop (field_header_size v) s) (below-drop 256 (field_header_size v) s b) rs rest).1 (sym h.count, w.records, h.behind);
        limits = and_both (le-leb (length rs) max_field_records w.few) (le-leb (length (list_of rs)) max_field_cells w.short);
        read = λ i. record { timestamp = h.timestamp i; f = h.f i; records = rs };
      }

  -- A FIELD is accepted exactly when the octets of a well-formed field stand at the front
  pub front-iff : Below 256 s → (read_front v s ≡ Ok k) ↔ (WellFormedField v k × (take (field_size v k.records) s ≡ field_octets v k))
  front-iff b = (λ e. answer-stands b (answer-iff.0 e), λ p. answer-iff.1 (stands-answer b p.0 p.1))
