-- One packet in the tolerant way, from the strict verdict on it.
-- By cases on that verdict.
use mathlib.Core.Path.{◌≡◌, refl, ap, sym, ◌∙◌}
use mathlib.Core.Bool.{Bool, true, false}
use mathlib.Core.List.{List, [], ◌∷◌}
use Prim.Native.Nat.{ℕ, ◌≤◌}
use native.Mathlib.Omega.{arith}
use borrow.Author.Tests.{leb-true}
use lib.ListN.{length, take}
use Rattle.wire_spec.specs.declared.refusal.Refusal.{Refusal}
use Rattle.wire_spec.specs.declared.count.WordCount.{WordCount}
use Rattle.wire_spec.specs.declared.count.OctetCount.{OctetCount}
use Rattle.wire_spec.specs.Result.{Result, Err, Ok, refuse, Checks, judge, ◌then◌}
use Rattle.wire_spec.specs.Layout.{Layout, least_size}
use Rattle.wire_spec.specs.Anc.{Record, anc_record, anc_size, data_count, checksum_ok, alignment_ok, anc_checks, read_anc, read_run, behind}
use Rattle.wire_spec.proofs.ResultLaws.{Passed, judge-accepts, judge-passes, judge-fails}
use Rattle.wire_spec.proofs.AncLaws.{record-read, count-read}
use Rattle.anc_tolerant_spec.specs.Tolerant.{tolerant_checks}
use Rattle.anc_tolerant_spec.proofs.StrictLaws.{Ok≢Err, anc-agrees, anc-11, anc-passes, anc-accepts}
use Rattle.anc_reader.specs.Answers.{verdict_of, run_of}
use Rattle.anc_tolerant_reader.specs.Answers.{tolerate_anc, part_of}

module _ (L : Layout) (i : ℕ) (s : List ℕ) where
  -- what a verdict says of the packet
  pub verdict-refused : (x : Refusal) → verdict_of (read_anc L i s) ≡ Err x → read_anc L i s ≡ Err x
  verdict-refused x h = go (read_anc L i s) h
    where
      go : (v : Result Record) → verdict_of v ≡ Err x → v ≡ Err x
      go (Err y) h = let e : y ≡ x = cc in ap Err e
      go (Ok r) h = let z : ◌≡◌ {A = ℕ} 0 1 = cc in absurd (omega arith)

  pub record Own (w : WordCount) : Type 0 where
    pub count : data_count L s ≡ w.0
    pub passes : Passed (tolerant_checks L s)
    pub sums : checksum_ok L s ≡ true

  pub verdict-accepted : (w : WordCount) → verdict_of (read_anc L i s) ≡ Ok w → Own w
  verdict-accepted w h = go (read_anc L i s) refl h
    where
      go : (v : Result Record) → read_anc L i s ≡ v → verdict_of v ≡ Ok w → Own w
      go (Err y) e h = let z : ◌≡◌ {A = ℕ} 0 1 = cc in absurd (omega arith)
      go (Ok r) e h =
          let a : record { 0 = length r.words } ≡ w = cc in
          let p = anc-passes L i s r e in
          record { count = count-read L s i r e ∙ ap (λ (x : WordCount). x.0) a; passes = p.0; sums = p.1 }

  pub verdict-reads : (w : WordCount) → verdict_of (read_anc L i s) ≡ Ok w → read_anc L i s ≡ Ok (anc_record L s)
  verdict-reads w h = go (read_anc L i s) refl h
    where
      go : (v : Result Record) → read_anc L i s ≡ v → verdict_of v ≡ Ok w → read_anc L i s ≡ Ok (anc_record L s)
      go (Err y) e h = let z : ◌≡◌ {A = ℕ} 0 1 = cc in absurd (omega arith)
      go (Ok r) e h = e ∙ ap Ok (sym (record-read L s i r e))

  -- an accepted packet comes through
  pub part-own : (w : WordCount) → verdict_of (read_anc L i s) ≡ Ok w → Ok (record { words = w; own = true }) ≡ part_of (data_count L s) (tolerate_anc L i s)
  part-own w h =
      let o : Own w = verdict-accepted w h in
      rw (judge-passes i (tolerant_checks L s) (Ok (checksum_ok L s)) o.passes, o.sums) (ap (λ (n : ℕ). Ok (record { words = record { 0 = n }; own = true })) (sym o.count))

  -- a refusal by another number than 11 stays
  pub part-refused : (x : Refusal) → verdict_of (read_anc L i s) ≡ Err x → (x.number ≡ 11 → ⊥)
      → Err x ≡ part_of (data_count L s) (tolerate_anc L i s)
  part-refused x h n = rw (anc-agrees L i s (Ok (checksum_ok L s)) x (verdict-refused x h) n)

  -- 11: all before it passed
  pub part-11 : (x : Refusal) → verdict_of (read_anc L i s) ≡ Err x → x.number ≡ 11
      → Passed (take 5 (tolerant_checks L s)) × (checksum_ok L s ≡ false)
  part-11 x h n = anc-11 L i s x (verdict-refused x h) n

-- the sizes of a packet that passes 9
pub record Sized (L : Layout) (s : List ℕ) : Type 0 where
  pub least : least_size L ≤ length s
  pub whole : anc_size L (data_count L s) ≤ length s

pub sized : (L : Layout) (s : List ℕ) → Passed (take 5 (tolerant_checks L s)) → Sized L s
unfolding tolerant_checks
sized L s p =
    record {
      least = leb-true (least_size L) (length s) search;
      whole = leb-true (anc_size L (data_count L s)) (length s) search;
    }

pub front-passes : (L : Layout) (s : List ℕ) → Passed (tolerant_checks L s) → Passed (take 5 (tolerant_checks L s))
unfolding tolerant_checks
front-passes L s p = (search, (search, (search, (search, (search, tt)))))

module _ (L : Layout) (i : ℕ) (s : List ℕ) where
  -- of a packet that fails its checksum and nothing before: 12, or it is left out
  pub left-12 : Passed (take 5 (tolerant_checks L s)) → alignment_ok L s ≡ false → tolerate_anc L i s ≡ refuse 12 i
  unfolding tolerant_checks
  left-12 p a = judge-fails i 5 (tolerant_checks L s) (Ok (checksum_ok L s)) p a

  pub left_out : Passed (take 5 (tolerant_checks L s)) → alignment_ok L s ≡ true → checksum_ok L s ≡ false → tolerate_anc L i s ≡ Ok false
  unfolding tolerant_checks
  left_out p a c =
      judge-passes i (tolerant_checks L s) (Ok (checksum_ok L s)) (search, (search, (search, (search, (search, (a, tt))))))
      ∙ ap Ok c

  -- a packet that passes, and that the strict way refuses, fails its checksum
  pub not_own : Passed (tolerant_checks L s) → (x : Refusal) → verdict_of (read_anc L i s) ≡ Err x → checksum_ok L s ≡ false
  not_own p x h = go (checksum_ok L s) refl
    where
      go : (t : Bool) → checksum_ok L s ≡ t → checksum_ok L s ≡ false
      go false e = e
      go true e = absurd (Ok≢Err (sym (anc-accepts L i s p e) ∙ verdict-refused L i s x h))

-- checks answer alike whatever index goes with them
judge-index : {A : Type 0} (i : ℕ) (ts : Checks) (a : A) (x : Refusal) → judge 0 ts (Ok a) ≡ Err x → judge i ts (Ok a) ≡ refuse x.number i
judge-index i [] a x e = absurd (Ok≢Err e)
judge-index i ((true, n) ∷ ts) a x e = judge-index i ts a x e
judge-index i ((false, n) ∷ ts) a x e = let h : record { number = n; index = 0 } ≡ x = cc in ap (λ (y : Refusal). refuse y.number i) h

module _ (L : Layout) (i : ℕ) (s : List ℕ) where
  -- a run of one packet: its packet is refused, or read
  pub one-refused : (x : Refusal) → run_of L (read_run L 0 1 s) ≡ Err x → read_anc L i s ≡ refuse x.number i
  unfolding read_run read_anc
  one-refused x h = go (read_anc L 0 s) refl h
    where
      go : (v : Result Record) → read_anc L 0 s ≡ v
          → run_of L (v then λ r. (read_run L 1 0 (behind L s)) then λ q. Ok (r ∷ q.0, q.1)) ≡ Err x → read_anc L i s ≡ refuse x.number i
      go (Err y) e h = let k : y ≡ x = cc in judge-index i (anc_checks L s) (anc_record L s) x (e ∙ ap Err k)
      go (Ok r) e h = let z : ◌≡◌ {A = ℕ} 0 1 = cc in absurd (omega arith)

  pub one-accepted : (u : OctetCount) (c : ℕ) → run_of L (read_run L 0 1 s) ≡ Ok (record { octets = u; cells = c }) → read_anc L i s ≡ Ok (anc_record L s)
  unfolding read_run read_anc
  one-accepted u c h = go (read_anc L 0 s) refl h
    where
      go : (v : Result Record) → read_anc L 0 s ≡ v
          → run_of L (v then λ r. (read_run L 1 0 (behind L s)) then λ q. Ok (r ∷ q.0, q.1)) ≡ Ok (record { octets = u; cells = c }) → read_anc L i s ≡ Ok (anc_record L s)
      go (Err y) e h = let z : ◌≡◌ {A = ℕ} 0 1 = cc in absurd (omega arith)
      go (Ok r) e h = judge-passes i (anc_checks L s) (Ok (anc_record L s)) (judge-accepts 0 (anc_checks L s) (Ok (anc_record L s)) r e).0

-- a packet that is read is a run of one
pub one-run : (L : Layout) (s : List ℕ) (r : Record) → read_anc L 0 s ≡ Ok r → read_run L 0 1 s ≡ Ok (r ∷ [], behind L s)
unfolding read_run
one-run L s r e = rw e
