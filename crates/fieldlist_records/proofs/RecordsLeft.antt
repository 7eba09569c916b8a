-- Records put line by line: the lines of the records that are left, behind those that are put, make the whole text.
-- By the record at the front of the cells.
use mathlib.Core.Path.{◌≡◌, ap, sym, ◌∙◌, subst}
use mathlib.Core.List.{List, [], ◌∷◌}
use Prim.Native.Nat.{ℕ, ◌+◌, ◌-◌, ◌^◌, ◌<◌, ◌≤◌}
use native.Mathlib.Omega.{arith}
use lib.ListN.{length, take, drop, length-drop}
use lib.Seq.{length-take-le}
use Rattle.wire_spec.specs.declared.refusal.Refusal.{Refusal}
use Rattle.wire_spec.specs.Layout.{rfc8331}
use Rattle.wire_spec.specs.Result.{IsAccepted, Ok, Err}
use Rattle.wire_spec.specs.Bits.{Below}
use Rattle.wire_spec.specs.Words.{word_bits}
use Rattle.wire_spec.specs.Anc.{Each, Record, WellFormed}
use Rattle.wire_spec.specs.Cells.{head_cells, Lists, cell_record, cell_checks, rest, read_list}
use Rattle.wire_spec.proofs.CellLaws.{front_reads, list-iff}
use Rattle.wire_spec.proofs.ResultLaws.{Passed, accepted-is}
use Rattle.anc_record.specs.declared.header.Header.{Header}
use Rattle.anc_record.specs.Answers.{found_of}
use Rattle.anc_record.specs.Header.{header_of, record_of, header_at}
use Rattle.anc_record.proofs.FoundLaws.{Starts, passed-found}
use Rattle.text.specs.Put.{Put}
use Rattle.text.proofs.PutLaws.{both, nothing, same}
use Rattle.fieldlist_records.specs.Records.{record_text, record_texts, list_text}

-- the cells `left` are those of records whose lines, put from `to` on, make `all` put from `at` on
pub record Left (before : List ℕ) (at : ℕ) (all out left : List ℕ) (to : ℕ) : Type 0 where
  pub records : List Record
  pub formed : Each (WellFormed rfc8331) records
  pub cells : Lists records left
  pub put : (o : List ℕ) (r : ℕ) → Put out to (record_texts records) o r → Put before at all o r

-- before the first record
pub all_left : (out : List ℕ) (at : ℕ) (cells : List ℕ) → IsAccepted (read_list cells) → Left out at (list_text (read_list cells)) out cells at
all_left out at cells h =
    let a = accepted-is (read_list cells) h in
    let p = (list-iff cells a.0).0 a.1 in
    record { records = a.0; formed = p.0; cells = p.1; put = λ o r q. same (sym (ap list_text a.1)) q }

-- after the last
pub none_left : (before : List ℕ) (at : ℕ) (all out left : List ℕ) (to : ℕ) → Left before at all out left to → to ≤ length out → length left ≤ 0
    → Put before at all out to
none_left before at all out left to w h l = go w.records w.cells w.put
  where
    go : (rs : List Record) → Lists rs left → ((o : List ℕ) (r : ℕ) → Put out to (record_texts rs) o r → Put before at all o r) → Put before at all out to
    go [] e f = f out to (nothing out to h)
    go (r ∷ rs) e f = absurd (omega (arith, ap length e.3))

-- a record that passes has a header
pub header-there : (l : List ℕ) (x : Refusal) → Passed (cell_checks l) → found_of (header_at l 0) ≡ Err x → ⊥
header-there l x p e =
    let q : Ok (header_of (cell_record l)) ≡ Err x = sym (passed-found l 0 p) ∙ e in
    let o : ◌≡◌ {A = ℕ} 0 1 = cc in
    omega arith

-- the words of the record at the front, as the code takes them by its header
pub record Words (l : List ℕ) (h : Header) (ws : List ℕ) : Type 0 where
  pub count : h.words.0 ≡ length ws
  pub below : Below (2 ^ word_bits) ws
  pub whole : record_of h ws ≡ cell_record l

pub words_of : (l : List ℕ) (h : Header) → Starts l h → Words l h (take (head_cells + h.words.0 - head_cells) (drop head_cells l))
unfolding cell_record
words_of l h s =
    let n = h.words.0 in
    let e : head_cells + n - head_cells ≡ n = omega arith in
    rw e (record {
      count = sym (length-take-le n (drop head_cells l) (rw (length-drop head_cells l) (omega (arith, s.inside))));
      below = rw s.count s.formed.words;
      whole = s.whole;
    })

-- the record at the front, and what is left when it is put
pub record Next (before : List ℕ) (at : ℕ) (all out left : List ℕ) (to : ℕ) : Type 0 where
  pub passed : Passed (cell_checks left)
  pub then : (o : List ℕ) (r : ℕ) → Put out to (record_text (cell_record left)) o r → Left before at all o (rest left) r

pub next : (before : List ℕ) (at : ℕ) (all out left : List ℕ) (to : ℕ) → Left before at all out left to → 0 < length left → Next before at all out left to
next before at all out left to w h = go w.records w.formed w.cells w.put
  where
    go : (rs : List Record) → Each (WellFormed rfc8331) rs → Lists rs left
        → ((o : List ℕ) (r : ℕ) → Put out to (record_texts rs) o r → Put before at all o r) → Next before at all out left to
    go [] f e g = absurd (omega (arith, ap length e))
    go (r ∷ rs) f e g =
        let t = e.1 in
        let p = subst (λ (y : List ℕ). Passed (cell_checks y) × (cell_record y ≡ r) × (rest y ≡ t)) (sym e.3) (front_reads e.0 r t f.0.fits e.2) in
        record {
          passed = p.0;
          then = λ o n t. record { records = rs; formed = f.1; cells = subst (Lists rs) (sym p.2) e.4; put = λ o₂ n₂ u. g o₂ n₂ (both (same (ap record_text p.1) t) u) };
        }

-- the same, where the code has the cells otherwise
pub left-same : (before : List ℕ) (at : ℕ) (all out left left' : List ℕ) (to : ℕ) → left' ≡ left → Left before at all out left to → Left before at all out left' to
left-same before at all out left left' to e w = record { records = w.records; formed = w.formed; cells = subst (Lists w.records) (sym e) w.cells; put = w.put }
