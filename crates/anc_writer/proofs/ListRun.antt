-- A list checked record by record: what was counted, and what the cells that are left will add; 16 once all of it passed 20.
-- By the record at the front of the cells: its checks decide, and its words give its cells and its size.
use Rattle.std.specs.Prelude.{Option, Some, None}
use mathlib.Core.Path.{◌≡◌, refl, ap, ap₂, sym, ◌∙◌}
use mathlib.Core.Bool.{Bool, true, false, cond}
use mathlib.Core.List.{List, [], ◌∷◌}
use Prim.Native.Nat.{ℕ, ◌+◌, ◌<◌, ◌≤◌}
use native.Mathlib.Nat.{zero-add, add-zero}
use native.Mathlib.Omega.{arith}
use lib.Dec.{eqb}
use lib.ListN.{length, length-drop}
use borrow.Author.Tests.{eqb-true, eq-eqb, ne_eqb}
use Rattle.wire_spec.specs.Result.{Result, Err, Ok, refuse, ◌then◌}
use Rattle.wire_spec.specs.Words.{all_clear}
use Rattle.wire_spec.specs.Layout.{Layout}
use Rattle.wire_spec.specs.Anc.{Record, anc_size, run_size}
use Rattle.wire_spec.specs.Cells.{head_cells, cell_count, cell_record, cell_checks, rest, records_from, clear_from}
use Rattle.wire_spec.proofs.ResultLaws.{Passed, judge-passes}
use Rattle.wire_spec.proofs.CellLaws.{records-bound}
use Rattle.anc_record.specs.declared.check.Front.{Front}
use Rattle.anc_record.specs.Answers.{front_of, is_clear_front}
use Rattle.anc_record.proofs.FrontLaws.{Taken, lies, malformed, taken, clear-taken}
use Rattle.anc_writer.specs.declared.check.Listed.{Listed}
use Rattle.anc_writer.specs.Answers.{listed_of, measured_of}
use Rattle.anc_writer.specs.Clear.{clear_before}

-- what 16 says of `count` records, the first `first` of them clear, and of those behind them
unfoldable pub verdict : (first count : ℕ) → List Record → Result (List Record)
verdict first count rs = cond (eqb first count) (clear_from count rs) (refuse 16 first)

-- the records before the first protected word are at most all
pub before-most : (first count : ℕ) (clear : Bool) → first ≤ count → clear_before first count clear ≤ count + 1
before-most first count false h = omega arith
before-most first count true h = go (eqb first count)
  where
    go : (t : Bool) → cond t (count + 1) first ≤ count + 1
    go true = omega arith
    go false = omega arith

module _ (L : Layout) where
  -- `count` records of `octets` octets before those that are read
  abbrev pub tally : ℕ → ℕ → Result (List Record) → Result Listed
  tally count octets (Err x) = Err x
  tally count octets (Ok rs) = Ok (record { count = count + length rs; octets = record { 0 = octets + run_size L rs } })

  tallied : (count count' octets octets' : ℕ) → count ≡ count' → octets ≡ octets'
      → ◌≡◌ {A = Result Listed} (Ok (record { count = count; octets = record { 0 = octets } })) (Ok (record { count = count'; octets = record { 0 = octets' } }))
  tallied count count' octets octets' p q = ap₂ (λ (a b : ℕ). Ok (record { count = a; octets = record { 0 = b } })) p q

  -- none before
  pub tally-none : (x : Result (List Record)) → tally 0 0 x ≡ listed_of L x
  tally-none (Err x) = refl
  tally-none (Ok rs) = tallied _ _ _ _ (zero-add (length rs)) (zero-add (run_size L rs))

  -- one more
  tally-one : (count octets : ℕ) (r : Record) (y : Result (List Record))
      → tally count octets (y then λ rs. Ok (r ∷ rs)) ≡ tally (count + 1) (octets + anc_size L (length r.words)) y
  tally-one count octets r (Err x) = refl
  tally-one count octets r (Ok rs) = tallied _ _ _ _ (omega arith) (omega arith)

  -- one more under 16: a protected word in it decides, where none came before
  verdict-one : (first count octets : ℕ) (r : Record) (rs : List Record) → first ≤ count
      → tally count octets (verdict first count (r ∷ rs))
      ≡ tally (count + 1) (octets + anc_size L (length r.words)) (verdict (clear_before first count (all_clear r.words)) (count + 1) rs)
  unfolding verdict clear_from
  verdict-one first count octets r rs h = go (all_clear r.words) (eqb first count) refl refl
    where
      go : (c e : Bool) → all_clear r.words ≡ c → eqb first count ≡ e
          → tally count octets (verdict first count (r ∷ rs))
          ≡ tally (count + 1) (octets + anc_size L (length r.words)) (verdict (clear_before first count (all_clear r.words)) (count + 1) rs)
      go true true p q = rw (p, q, eq-eqb (count + 1) (count + 1) refl) (tally-one count octets r (clear_from (count + 1) rs))
      go false true p q =
          let s = eqb-true first count q in
          rw (p, q, ne_eqb first (count + 1) (λ e. omega arith)) (ap (λ (k : ℕ). Err (record { number = 16; index = k })) (sym s))
      go true false p q = rw (p, q, ne_eqb first (count + 1) (λ e. omega arith)) refl
      go false false p q = rw (p, q, ne_eqb first (count + 1) (λ e. omega arith)) refl

  verdict-next : (first count octets : ℕ) (r : Record) (y : Result (List Record)) → first ≤ count
      → tally count octets ((y then λ rs. Ok (r ∷ rs)) then verdict first count)
      ≡ tally (count + 1) (octets + anc_size L (length r.words)) (y then verdict (clear_before first count (all_clear r.words)) (count + 1))
  verdict-next first count octets r (Err x) h = refl
  verdict-next first count octets r (Ok rs) h = verdict-one first count octets r rs h

  -- a record that passes is counted
  pub tally-next : (first count octets : ℕ) (l : List ℕ) → first ≤ count → 0 < length l → Passed (cell_checks l)
      → tally count octets (records_from (length l) count l then verdict first count)
      ≡ tally (count + 1) (octets + anc_size L (cell_count l))
      (records_from (length (rest l)) (count + 1) (rest l) then verdict (clear_before first count (all_clear (cell_record l).words)) (count + 1))
  unfolding records_from
  tally-next first count octets [] f h p = absurd (omega arith)
  tally-next first count octets (x ∷ l) f h p =
      let d : length (rest (x ∷ l)) ≤ length l = rw (length-drop (head_cells + cell_count (x ∷ l)) (x ∷ l)) (omega arith) in
      ap (λ (y : Result (List Record)). tally count octets (y then verdict first count))
      (judge-passes count (cell_checks (x ∷ l)) _ p
      ∙ ap (λ (y : Result (List Record)). y then λ rs. Ok (cell_record (x ∷ l) ∷ rs)) (records-bound (length l) (count + 1) (rest (x ∷ l)) d))
      ∙ verdict-next first count octets (cell_record (x ∷ l)) (records_from (length (rest (x ∷ l))) (count + 1) (rest (x ∷ l))) f
      ∙ rw (lies (x ∷ l) p).words

  -- one that does not pass is refused with its index
  pub tally-stops : (first count octets : ℕ) (l : List ℕ) → 0 < length l → front_of l ≡ None
      → tally count octets (records_from (length l) count l then verdict first count) ≡ Err (record { number = 20; index = count })
  unfolding records_from
  tally-stops first count octets [] h e = absurd (omega arith)
  tally-stops first count octets (x ∷ l) h e =
      ap (λ (y : Result (List Record)). tally count octets (y then verdict first count)) (malformed count (x ∷ l) _ e)

  -- no cells are no record: what is left is 16
  pub tally-ends : (first count octets : ℕ) (l : List ℕ) → length l ≤ 0
      → tally count octets (records_from (length l) count l then verdict first count) ≡ tally count octets (verdict first count [])
  unfolding records_from
  tally-ends first count octets [] h = refl
  tally-ends first count octets (x ∷ l) h = absurd (omega arith)

  pub ends-protected : (first count octets : ℕ) → first < count
      → Err (record { number = 16; index = first }) ≡ tally count octets (verdict first count [])
  unfolding verdict
  ends-protected first count octets h = rw (ne_eqb first count (λ e. omega arith)) refl

  pub ends-clear : (first count octets : ℕ) → first ≤ count → count ≤ first
      → Ok (record { count = count; octets = record { 0 = octets } }) ≡ tally count octets (verdict first count [])
  unfolding verdict clear_from
  ends-clear first count octets h k =
      rw (eq-eqb first count (omega arith)) (tallied _ _ _ _ (sym (add-zero count)) (sym (add-zero octets)))

  -- in a list that is measured every record so far is clear: one more that is
  pub tally-clear : (count octets : ℕ) (l : List ℕ) → 0 < length l → is_clear_front (front_of l) ≡ true
      → tally count octets (records_from (length l) count l then verdict count count)
      ≡ tally (count + 1) (octets + anc_size L (cell_count l)) (records_from (length (rest l)) (count + 1) (rest l) then verdict (count + 1) (count + 1))
  tally-clear count octets l h e =
      let t = clear-taken l e in
      let b : clear_before count count (all_clear (cell_record l).words) ≡ count + 1 = rw (t.1, eq-eqb count count refl) refl in
      tally-next count count octets l (omega arith) h t.0
      ∙ ap (λ (k : ℕ). tally (count + 1) (octets + anc_size L (cell_count l)) (records_from (length (rest l)) (count + 1) (rest l) then verdict k (count + 1))) b

  -- one protected word before them refuses all that follow
  refused-behind : (count octets : ℕ) (y : Result (List Record)) → measured_of (tally (count + 1) octets (y then verdict count (count + 1))) ≡ None
  unfolding verdict
  refused-behind count octets (Err x) = refl
  refused-behind count octets (Ok rs) = rw (ne_eqb count (count + 1) (λ e. omega arith)) refl

  -- and one that is not clear refuses the list
  pub tally-unclear : (count octets : ℕ) (l : List ℕ) → 0 < length l → is_clear_front (front_of l) ≡ false
      → measured_of (tally count octets (records_from (length l) count l then verdict count count)) ≡ None
  tally-unclear count octets l h e = go (front_of l) refl e
    where
      go : (f : Option Front) → front_of l ≡ f → is_clear_front f ≡ false
          → measured_of (tally count octets (records_from (length l) count l then verdict count count)) ≡ None
      go None m e = ap measured_of (tally-stops count count octets l h m)
      go (Some p) m e =
          let t : Taken l p.words p.clear = taken l p.words p.clear m in
          let b : clear_before count count (all_clear (cell_record l).words) ≡ count = rw (sym t.told ∙ e) refl in
          ap measured_of (tally-next count count octets l (omega arith) h t.passed
          ∙ ap (λ (k : ℕ). tally (count + 1) (octets + anc_size L (cell_count l)) (records_from (length (rest l)) (count + 1) (rest l) then verdict k (count + 1))) b)
          ∙ refused-behind count (octets + anc_size L (cell_count l)) (records_from (length (rest l)) (count + 1) (rest l))
