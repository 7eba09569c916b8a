-- A run checked or read packet by packet: the first packet, and the run behind it.
-- By cases on what the first packet is.
use mathlib.Core.Path.{◌≡◌, refl, ap, ap₂, sym, ◌∙◌, subst, subst₃}
use mathlib.Core.List.{List, ◌∷◌, ◌++◌}
use Prim.Native.Nat.{ℕ, suc, ◌+◌, ◌-◌, ◌≤◌}
use native.Mathlib.Nat.{zero-add}
use native.Mathlib.Omega.{arith}
use lib.ListN.{length, take, drop, length-append}
use borrow.Author.Tests.{leb-true}
use Rattle.wire_spec.specs.declared.refusal.Refusal.{Refusal}
use Rattle.wire_spec.specs.declared.count.WordCount.{WordCount}
use Rattle.wire_spec.specs.Bits.{overwrite, splice}
use Rattle.wire_spec.specs.Result.{Result, Err, Ok, ◌then◌, IsAccepted}
use Rattle.wire_spec.specs.Layout.{Layout}
use Rattle.wire_spec.specs.Anc.{Record, anc_record, anc_size, data_count, anc_checks, read_anc, read_run, behind, run_size}
use Rattle.wire_spec.specs.Cells.{head_cells, cells_in, list_of}
use Rattle.wire_spec.proofs.ListLaws.{length-splice, splice-append, part-all, part-written}
use Rattle.wire_spec.proofs.ResultLaws.{judge-accepts}
use Rattle.wire_spec.proofs.AncLaws.{count-read, record-read}
use Rattle.anc_reader.proofs.PacketLaws.{length-words}
use Rattle.anc_reader.specs.Answers.{verdict_of, run_of, run_cells_in}
use Rattle.anc_reader.specs.declared.check.Run.{Run}

module _ (L : Layout) where
  -- a run behind octets and cells that were counted
  abbrev pub tally : ℕ → ℕ → Result (List Record × List ℕ) → Result Run
  tally o c (Err x) = Err x
  tally o c (Ok q) = Ok (record { octets = record { 0 = o + run_size L q.0 }; cells = c + length (list_of q.0) })

  pub tally-none : (x : Result (List Record × List ℕ)) → tally 0 0 x ≡ run_of L x
  tally-none (Err x) = refl
  tally-none (Ok q) = rw (zero-add (run_size L q.0), zero-add (length (list_of q.0)))

  tally-cons : (o c : ℕ) (r : Record) (x : Result (List Record × List ℕ))
      → tally o c (x then λ q. Ok (r ∷ q.0, q.1)) ≡ tally (o + anc_size L (length r.words)) (c + (head_cells + length r.words)) x
  tally-cons o c r (Err x) = refl
  tally-cons o c r (Ok q) =
      ap₂ (λ (a b : ℕ). Ok (record { octets = record { 0 = a }; cells = b })) (omega arith) (omega (arith, length-append r.words (list_of q.0)))

  -- the size of an accepted packet is there
  pub size_fits : (s : List ℕ) (i : ℕ) (r : Record) → read_anc L i s ≡ Ok r → anc_size L (data_count L s) ≤ length s
  unfolding read_anc anc_checks
  size_fits s i r e =
      let p = (judge-accepts i (anc_checks L s) (Ok (anc_record L s)) r e).0 in
      leb-true (anc_size L (data_count L s)) (length s) search

  module _ (s : List ℕ) (i m o c : ℕ) where
    -- the first packet is refused: so is the run
    pub refused-next : (x : Refusal) → verdict_of (read_anc L i s) ≡ Err x → tally o c (read_run L i (suc m) s) ≡ Err x
    unfolding read_run
    refused-next x h = go (read_anc L i s) h
      where
        go : (v : Result Record) → verdict_of v ≡ Err x
            → tally o c (v then λ r. read_run L (i + 1) m (behind L s) then λ q. Ok (r ∷ q.0, q.1)) ≡ Err x
        go (Err y) h = let e : y ≡ x = cc in ap Err e
        go (Ok r) h = let z : ◌≡◌ {A = ℕ} 0 1 = cc in absurd (omega arith)

    -- the first packet is accepted: the run goes on behind it
    pub record Next (w : WordCount) : Type 0 where
      pub count : data_count L s ≡ w.0
      pub fits : anc_size L w.0 ≤ length s
      pub goes : tally o c (read_run L i (suc m) s)
          ≡ tally (o + anc_size L w.0) (c + (head_cells + w.0)) (read_run L (i + 1) m (drop (anc_size L w.0) s))

    pub accepted-next : (w : WordCount) → verdict_of (read_anc L i s) ≡ Ok w → Next w
    unfolding read_run
    accepted-next w h = go (read_anc L i s) refl h
      where
        go : (v : Result Record) → read_anc L i s ≡ v → verdict_of v ≡ Ok w → Next w
        go (Err y) e h = let z : ◌≡◌ {A = ℕ} 0 1 = cc in absurd (omega arith)
        go (Ok r) e h =
            let a : record { 0 = length r.words } ≡ w = cc in
            let k : length r.words ≡ w.0 = ap (λ (x : WordCount). x.0) a in
            let d : data_count L s ≡ w.0 = count-read L s i r e ∙ k in
            record {
              count = d;
              fits = subst (λ (n : ℕ). anc_size L n ≤ length s) d (size_fits s i r e);
              goes =
                  ap (λ v. tally o c (v then λ r. read_run L (i + 1) m (behind L s) then λ q. Ok (r ∷ q.0, q.1))) e
                  ∙ tally-cons o c r (read_run L (i + 1) m (behind L s))
                  ∙ rw (k, d);
            }

  -- an accepted run: its first packet, and the run behind it
  module _ (p : ℕ) (s : List ℕ) (i m : ℕ) where
    pub record Reads : Type 0 where
      pub fits : anc_size L (data_count L s) ≤ length s
      pub more : IsAccepted (read_run L (i + 1) m (behind L s))
      pub cells : run_cells_in p (read_run L i (suc m) s) ≡ cells_in p (anc_record L s) ++ run_cells_in p (read_run L (i + 1) m (behind L s))

    pub reads-next : IsAccepted (read_run L i (suc m) s) → Reads
    unfolding read_run
    reads-next h = go (read_anc L i s) refl (read_run L (i + 1) m (behind L s)) refl h
      where
        go : (v : Result Record) → read_anc L i s ≡ v → (y : Result (List Record × List ℕ)) → read_run L (i + 1) m (behind L s) ≡ y
            → IsAccepted {A = List Record × List ℕ} (v then λ r. y then λ q. Ok (r ∷ q.0, q.1)) → Reads
        go (Err x) e y f h = absurd h
        go (Ok r) e (Err x) f h = absurd h
        go (Ok r) e (Ok q) f h =
            record {
              fits = size_fits s i r e;
              more = subst IsAccepted (sym f) tt;
              cells =
                  ap₂ (λ v y. run_cells_in p (v then λ r. y then λ q. Ok (r ∷ q.0, q.1))) e f
                  ∙ ap₂ (λ (x : Record) (y : Result (List Record × List ℕ)). cells_in p x ++ run_cells_in p y) (sym (record-read L s i r e)) (sym f);
            }

  length-record : (p : ℕ) (s : List ℕ) → length (cells_in p (anc_record L s)) ≡ head_cells + data_count L s
  length-record p s = omega (arith, length-words L s)

  -- what is left of a run to be written: `m` packets with the octets `s`, from the cell `to` on, with the index `p`
  pub record Left (p : ℕ) (all : List ℕ) (cells₀ : List ℕ) (i m : ℕ) (s cells : List ℕ) (to : ℕ) : Type 0 where
    pub accepts : IsAccepted (read_run L i m s)
    pub long : length cells ≡ length cells₀
    pub room : to + length (run_cells_in p (read_run L i m s)) ≤ length cells
    pub stored : splice cells to (run_cells_in p (read_run L i m s)) ≡ overwrite all cells₀

  module _ (p : ℕ) (all cells₀ : List ℕ) (i m : ℕ) (s cells : List ℕ) (to : ℕ) (left : Left p all cells₀ i (suc m) s cells to) where
    -- the next packet is there, and so is the room for its record
    pub record First : Type 0 where
      pub fits : anc_size L (data_count L s) ≤ length s
      pub room : to + (head_cells + data_count L s) ≤ length cells

    pub first : First
    first =
        let r = reads-next p s i m left.accepts in
        let l : length (run_cells_in p (read_run L i (suc m) s)) ≡ head_cells + data_count L s + length (run_cells_in p (read_run L (i + 1) m (behind L s))) =
        ap length r.cells ∙ length-append (cells_in p (anc_record L s)) _ ∙ ap (λ (n : ℕ). n + length (run_cells_in p (read_run L (i + 1) m (behind L s)))) (length-record p s) in
        record { fits = r.fits; room = omega (arith, left.room) }

    -- its record written, the packets behind it are left
    pub left-next : (w z : ℕ) (part : List ℕ) → w ≡ data_count L s → z ≡ anc_size L w
        → part ≡ overwrite (cells_in p (anc_record L s)) (take (length cells - to) (drop to cells))
        → Left p all cells₀ (i + 1) m (take (length s - z) (drop z s)) (take to cells ++ (part ++ drop (length cells - to) (drop to cells))) (to + (head_cells + w))
    left-next w z part hw hz e =
        let X = cells_in p (anc_record L s) in
        let r = reads-next p s i m left.accepts in
        let more = run_cells_in p (read_run L (i + 1) m (behind L s)) in
        let lx : length X ≡ head_cells + w = length-record p s ∙ ap (λ (n : ℕ). head_cells + n) (sym hw) in
        let l : length (run_cells_in p (read_run L i (suc m) s)) ≡ length X + length more = ap length r.cells ∙ length-append X more in
        let e1 : behind L s ≡ take (length s - z) (drop z s) = ap (λ (n : ℕ). drop n s) (ap (anc_size L) (sym hw) ∙ sym hz) ∙ sym (part-all z s) in
        let e2 : splice cells to X ≡ take to cells ++ (part ++ drop (length cells - to) (drop to cells)) = sym (part-written to cells X part e) in
        let e3 : to + length X ≡ to + (head_cells + w) = ap (λ (n : ℕ). to + n) lx in
        let ls : length (splice cells to X) ≡ length cells = length-splice cells to X (omega (arith, left.room)) in
        let done : Left p all cells₀ (i + 1) m (behind L s) (splice cells to X) (to + length X) = record {
          accepts = r.more;
          long = ls ∙ left.long;
          room = omega (arith, left.room);
          stored = splice-append cells to X more (omega (arith, left.room)) ∙ ap (splice cells to) (sym r.cells) ∙ left.stored;
        } in
        subst₃ (Left p all cells₀ (i + 1) m) e1 e2 e3 done
