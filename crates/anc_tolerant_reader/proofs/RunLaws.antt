-- A run checked or read packet by packet: the first packet, and the run behind it.
-- By cases on what the first packet is.
use mathlib.Core.Path.{◌≡◌, refl, ap, sym, ◌∙◌, subst}
use mathlib.Core.Bool.{Bool, true, false, cond}
use mathlib.Core.List.{List, [], ◌++◌}
use Prim.Native.Nat.{ℕ, suc, ◌+◌, ◌-◌, ◌≤◌}
use native.Mathlib.Nat.{zero-add}
use native.Mathlib.Omega.{arith}
use lib.ListN.{length, take, drop, length-append}
use Rattle.wire_spec.specs.declared.refusal.Refusal.{Refusal}
use Rattle.wire_spec.specs.declared.count.WordCount.{WordCount}
use Rattle.wire_spec.specs.Bits.{overwrite, splice}
use Rattle.wire_spec.specs.Result.{Result, Err, Ok, judge, ◌then◌, IsAccepted}
use Rattle.wire_spec.specs.Layout.{Layout}
use Rattle.wire_spec.specs.Anc.{Record, anc_record, anc_size, data_count, checksum_ok, behind}
use Rattle.wire_spec.specs.Cells.{head_cells, cells_of, list_of}
use Rattle.wire_spec.proofs.ListLaws.{length-splice, splice-append, part-all, part-written}
use Rattle.anc_tolerant_reader.specs.declared.packet.Part.{Part}
use Rattle.wire_spec.proofs.ResultLaws.{Passed, judge-accepts, judge-passes, accepted-is, then-accepts}
use Rattle.wire_spec.proofs.AncLaws.{sound-count}
use Rattle.anc_tolerant_spec.specs.Tolerant.{tolerant_checks, Taken, through, tolerate_run}
use Rattle.anc_tolerant_spec.proofs.RunLaws.{passed-sound}
use Rattle.anc_tolerant_spec.proofs.StrictLaws.{refuses-any}
use Rattle.anc_tolerant_reader.specs.Answers.{tolerate_anc, part_of, tallied, tolerant_run_of, own_cells, taken_cells}
use Rattle.anc_tolerant_reader.specs.declared.check.Tally.{Tally}
use Rattle.anc_tolerant_reader.specs.declared.check.TolerantRun.{TolerantRun}
use Rattle.anc_tolerant_reader.proofs.PacketLaws.{sized, front-passes}

-- a run behind what was counted
abbrev pub joined : Tally → Result Taken → Result TolerantRun
joined t (Err x) = Err x
joined t (Ok q) =
    Ok (record { tally = record { omitted = t.omitted + q.left_out; cells = t.cells + length (list_of q.records) }; left = record { 0 = length q.rest } })

pub joined-none : (x : Result Taken) → joined (record { omitted = 0; cells = 0 }) x ≡ tolerant_run_of x
joined-none (Err x) = refl
joined-none (Ok q) = rw (zero-add q.left_out, zero-add (length (list_of q.records)))

joined-through : (t : Tally) (b : Bool) (r : Record) (x : Result Taken)
    → joined t (x then λ q. Ok (through b r q)) ≡ joined (tallied t (length r.words) b) x
joined-through t b r (Err x) = refl
joined-through t true r (Ok q) =
    ap (λ (n : ℕ). Ok (record { tally = record { omitted = t.omitted + q.left_out; cells = n }; left = record { 0 = length q.rest } }))
    (omega (arith, length-append r.words (list_of q.records)))
joined-through t false r (Ok q) =
    ap (λ (n : ℕ). Ok (record { tally = record { omitted = n; cells = t.cells + length (list_of q.records) }; left = record { 0 = length q.rest } })) (omega arith)

-- a packet more counts at most one left out, and at most its record's cells
pub tallied-most : (t : Tally) (n : ℕ) (b : Bool) → ((tallied t n b).omitted ≤ t.omitted + 1) × ((tallied t n b).cells ≤ t.cells + (head_cells + n))
tallied-most t n true = omega arith
tallied-most t n false = omega arith

module _ (L : Layout) where
  -- packets that pass have as many words as their Data_Count says
  pub words-passed : (s : List ℕ) → Passed (tolerant_checks L s) → data_count L s ≡ length (anc_record L s).words
  words-passed s p = sound-count L s ((passed-sound L s).0 p)

  module _ (s : List ℕ) (i m : ℕ) (t : Tally) where
    -- the first packet is refused: so is the run
    pub refused-next : (n : ℕ) (x : Refusal) → part_of n (tolerate_anc L i s) ≡ Err x → joined t (tolerate_run L i (suc m) s) ≡ Err x
    unfolding tolerate_run
    refused-next n x h = go (tolerate_anc L i s) refl h
      where
        go : (v : Result Bool) → tolerate_anc L i s ≡ v → part_of n v ≡ Err x
            → joined t (judge i (tolerant_checks L s) (tolerate_run L (i + 1) m (behind L s) then λ q. Ok (through (checksum_ok L s) (anc_record L s) q))) ≡ Err x
        go (Err y) e h =
            let k : y ≡ x = cc in
            ap (joined t) (refuses-any i (tolerant_checks L s) (checksum_ok L s) _ x (e ∙ ap Err k))
        go (Ok b) e h = let z : ◌≡◌ {A = ℕ} 0 1 = cc in absurd (omega arith)

    -- the first packet is taken: the run goes on behind it
    pub record Next (w : WordCount) (own : Bool) : Type 0 where
      pub count : data_count L s ≡ w.0
      pub fits : anc_size L w.0 ≤ length s
      pub goes : joined t (tolerate_run L i (suc m) s) ≡ joined (tallied t w.0 own) (tolerate_run L (i + 1) m (drop (anc_size L w.0) s))

    pub taken_next : (w : WordCount) (own : Bool) → part_of (data_count L s) (tolerate_anc L i s) ≡ Ok (record { words = w; own = own }) → Next w own
    unfolding tolerate_run
    taken_next w own h = go (tolerate_anc L i s) refl h
      where
        go : (v : Result Bool) → tolerate_anc L i s ≡ v → part_of (data_count L s) v ≡ Ok (record { words = w; own = own }) → Next w own
        go (Err y) e h = let z : ◌≡◌ {A = ℕ} 0 1 = cc in absurd (omega arith)
        go (Ok b) e h =
            let a = judge-accepts i (tolerant_checks L s) (Ok (checksum_ok L s)) b e in
            let k : ◌≡◌ {A = Part} (record { words = record { 0 = data_count L s }; own = b }) (record { words = w; own = own }) = cc in
            let d : data_count L s ≡ w.0 = ap (λ (x : Part). x.words.0) k in
            let o : b ≡ own = ap (λ (x : Part). x.own) k in
            let c : checksum_ok L s ≡ own = (let f : checksum_ok L s ≡ b = cc in f ∙ o) in
            let l = sized L s (front-passes L s a.0) in
            record {
              count = d;
              fits = subst (λ (n : ℕ). anc_size L n ≤ length s) d l.whole;
              goes =
                  ap (joined t) (judge-passes i (tolerant_checks L s) _ a.0)
                  ∙ joined-through t (checksum_ok L s) (anc_record L s) (tolerate_run L (i + 1) m (behind L s))
                  ∙ rw (sym (words-passed s a.0), c, d);
            }

  -- an accepted run: its first packet, and the run behind it
  module _ (s : List ℕ) (i m : ℕ) where
    pub record Reads : Type 0 where
      pub passes : Passed (tolerant_checks L s)
      pub more : IsAccepted (tolerate_run L (i + 1) m (behind L s))
      pub cells : taken_cells (tolerate_run L i (suc m) s) ≡ own_cells L s ++ taken_cells (tolerate_run L (i + 1) m (behind L s))

    pub reads-next : IsAccepted (tolerate_run L i (suc m) s) → Reads
    unfolding tolerate_run
    reads-next h =
        let a = accepted-is (tolerate_run L i (suc m) s) h in
        let p = judge-accepts i (tolerant_checks L s) _ a.0 a.1 in
        let b = then-accepts (tolerate_run L (i + 1) m (behind L s)) _ a.0 p.1 in
        record {
          passes = p.0;
          more = subst IsAccepted (sym b.1) tt;
          cells =
              ap taken_cells (judge-passes i (tolerant_checks L s) _ p.0 ∙ ap (λ x. x then λ q. Ok (through (checksum_ok L s) (anc_record L s) q)) b.1)
              ∙ own (checksum_ok L s) b.0
              ∙ ap (λ x. own_cells L s ++ taken_cells x) (sym b.1);
        }
      where
        own : (t : Bool) (q : Taken) → taken_cells (Ok (through t (anc_record L s) q)) ≡ cond t (cells_of (anc_record L s)) [] ++ list_of q.records
        own true q = refl
        own false q = refl

-- cells still to be written, from the cell `to` on, make all of them written
pub record Left (all cells₀ todo cells : List ℕ) (to : ℕ) : Type 0 where
  pub long : length cells ≡ length cells₀
  pub room : to + length todo ≤ length cells
  pub stored : splice cells to todo ≡ overwrite all cells₀

-- some of them written, the others are left
pub left-next : (all cells₀ X more cells : List ℕ) (to : ℕ) (part : List ℕ) → Left all cells₀ (X ++ more) cells to
    → part ≡ overwrite X (take (length cells - to) (drop to cells))
    → Left all cells₀ more (take to cells ++ (part ++ drop (length cells - to) (drop to cells))) (to + length X)
left-next all cells₀ X more cells to part l e =
    let n = length-append X more in
    let e2 : splice cells to X ≡ take to cells ++ (part ++ drop (length cells - to) (drop to cells)) = sym (part-written to cells X part e) in
    let ls : length (splice cells to X) ≡ length cells = length-splice cells to X (omega (arith, l.room)) in
    subst (λ (x : List ℕ). Left all cells₀ more x (to + length X)) e2
    record { long = ls ∙ l.long; room = omega (arith, l.room); stored = splice-append cells to X more (omega (arith, l.room)) ∙ l.stored }

-- a packet's octets cut off, as the code cuts them
pub behind-part : (L : Layout) (s : List ℕ) (z : ℕ) → z ≡ anc_size L (data_count L s) → behind L s ≡ take (length s - z) (drop z s)
behind-part L s z e = ap (λ (n : ℕ). drop n s) (sym e) ∙ sym (part-all z s)

-- the cells of a packet written, those of the packets behind it are left
pub left-goes : (L : Layout) (all cells₀ s : List ℕ) (i m : ℕ) (cells : List ℕ) (to z n : ℕ) (part : List ℕ)
    → Left all cells₀ (own_cells L s ++ taken_cells (tolerate_run L (i + 1) m (behind L s))) cells to
    → z ≡ anc_size L (data_count L s) → n ≡ length (own_cells L s)
    → part ≡ overwrite (own_cells L s) (take (length cells - to) (drop to cells))
    → Left all cells₀ (taken_cells (tolerate_run L (i + 1) m (take (length s - z) (drop z s)))) (take to cells ++ (part ++ drop (length cells - to) (drop to cells))) (to + n)
left-goes L all cells₀ s i m cells to z n part l hz hn e =
    let w = left-next all cells₀ (own_cells L s) (taken_cells (tolerate_run L (i + 1) m (behind L s))) cells to part l e in
    let v = take to cells ++ (part ++ drop (length cells - to) (drop to cells)) in
    subst (λ (k : ℕ). Left all cells₀ (taken_cells (tolerate_run L (i + 1) m (take (length s - z) (drop z s)))) v (to + k)) (sym hn)
    (subst (λ (x : List ℕ). Left all cells₀ (taken_cells (tolerate_run L (i + 1) m x)) v (to + length (own_cells L s))) (behind-part L s z hz) w)
