-- WHAT IS WRITTEN IS READ BACK, of what the entry points take and return.
-- By the law of the line.
use mathlib.Core.Path.{◌≡◌, refl, ap, sym, ◌∙◌, subst}
use mathlib.Core.Bool.{true}
use mathlib.Core.List.{List, [], ◌∷◌, map}
use Prim.Native.Nat.{ℕ, ◌+◌, ◌^◌, ◌≤◌}
use native.Mathlib.Omega.{arith}
use lib.ListN.{length, take, drop}
use Rattle.wire_spec.specs.Bits.{Below, splice}
use Rattle.wire_spec.specs.Layout.{rfc8331}
use Rattle.wire_spec.specs.Words.{word_bits}
use Rattle.wire_spec.specs.Result.{Result, Err, Ok}
use Rattle.wire_spec.specs.Anc.{Each, Record, WellFormed}
use Rattle.wire_spec.specs.Cells.{Lists}
use Rattle.wire_spec.proofs.CellLaws.{list-iff, lists_length}
use Rattle.wire_spec.proofs.ResultLaws.{accepted-inj}
use Rattle.sdi_spec.specs.declared.position.Position.{Position}
use Rattle.sdi_spec.specs.Packets.{Flagged, Unprotected, data_words, placed, stretch}
use Rattle.sdi_spec.specs.Line.{line_after, position_ok, read_line_into, write_line}
use Rattle.sdi_spec.specs.Answers.{ReadAgain, cells_after, read_of, write_leaves, write_returns, written_of}
use Rattle.sdi_spec.proofs.LineIff.{cells-placed, outside-stays, position-iff, stretch-placed, write-iff, written_read}
use Rattle.sdi_spec.proofs.ProtectedLaws.{never-protected}

length-map : (P : Position) (rs : List Record) → length (map (placed P) rs) ≡ length rs
length-map P [] = refl
length-map P (r ∷ rs) = omega (arith, length-map P rs)

-- where a stretch ends, it was written
ended : (start end : ℕ) (x : Result (List ℕ)) → written_of start x ≡ Ok end → (o : List ℕ) × (x ≡ Ok o) × (start + length o ≡ end)
ended start end (Err x) e = let z : ◌≡◌ {A = ℕ} 0 1 = cc in absurd (omega arith)
ended start end (Ok o) e = let q : start + length o ≡ end = cc in (o, refl, q)

-- WRITTEN, THEN READ: for a position that passes 20 and a lent list that passes 14, "where no flag stands directly after the written stretch and no word
-- outside it is over 1,023"
pub written-read-back : (line : List ℕ) (start : ℕ) (cells : List ℕ) (end : ℕ) (P : Position) (lent : List ℕ)
    → write_returns line start cells ≡ Ok end
    → (Flagged (drop end line) → ⊥)
    → Below (2 ^ word_bits) (take start line) → Below (2 ^ word_bits) (drop end line)
    → position_ok P ≡ true → length cells ≤ length lent
    → ReadAgain line start cells end P lent
written-read-back line start cells end P lent e ends before behind fits room =
    let w = ended start end (write_line line start cells) e in
    let o = w.0 in
    let b = written_read line start cells o P w.1
    (subst (λ (k : ℕ). Flagged (drop k line) → ⊥) (sym w.2) ends) before (subst (λ (k : ℕ). Below (2 ^ word_bits) (drop k line)) (sym w.2) behind)
    ((position-iff P).0 fits) in
    let rs = b.records in
    let same : Ok rs ≡ Ok ((write-iff line start cells o).0 w.1).2.0 = sym b.written ∙ (list-iff cells ((write-iff line start cells o).0 w.1).2.0).1 (((write-iff line start cells o).0 w.1).2.1, ((write-iff line start cells o).0 w.1).2.2) in
    let lists = ((list-iff cells rs).0 b.written).1 in
    let long : length (stretch rs) ≡ length o = ap (λ (qs : List Record). length (stretch qs)) (accepted-inj same) ∙ ap length ((write-iff line start cells o).0 w.1).2.3 in
    let after : read_line_into (write_leaves line start cells) start P (length lent) ≡ Ok (map (placed P) rs) =
    ap (λ (x : Result (List ℕ)). read_line_into (line_after x line start) start P (length lent)) w.1 ∙ b.room (length lent) room in
    record {
      records = rs;
      listed = b.written;
      returns =
          ap (read_of start) after
          ∙ (λ i. Ok (record { count = length-map P rs i; cells = (cells-placed P rs ∙ sym (lists_length rs cells lists)) i; end = (ap (λ (x : List ℕ). start + length x) (stretch-placed P rs) ∙ ap (λ (k : ℕ). start + k) long ∙ w.2) i }));
      leaves = ap (λ (x : Result (List Record)). cells_after x lent) after;
    }

-- "Prove that after K5 no word from DID to checksum is a protected one", of the line that `write` leaves: its stretch is the packets of the list's records, one touching
-- the other, and none of their words from DID to checksum is protected
pub record Clear (line : List ℕ) (start : ℕ) (cells : List ℕ) (end : ℕ) : Type 0 where
  pub records : List Record
  pub lists : Lists records cells
  pub words : take (length (stretch records)) (drop start (write_leaves line start cells)) ≡ stretch records
  pub ends : end ≡ start + length (stretch records)
  pub clear : Each (λ (r : Record). Each Unprotected (data_words r)) records

pub written-clear : (line : List ℕ) (start : ℕ) (cells : List ℕ) (end : ℕ) → write_returns line start cells ≡ Ok end → Clear line start cells end
written-clear line start cells end e =
    let w = ended start end (write_line line start cells) e in
    let o = w.0 in
    let p = (write-iff line start cells o).0 w.1 in
    let rs = p.2.0 in
    let same = p.2.3 in
    let out = outside-stays line start o p.1 in
    let after : write_leaves line start cells ≡ splice line start o = ap (λ (x : Result (List ℕ)). line_after x line start) w.1 in
    record {
      records = rs;
      lists = p.2.2;
      words = ap (λ (x : List ℕ). take (length (stretch rs)) (drop start x)) after ∙ ap (λ (x : List ℕ). take (length x) (drop start (splice line start o))) same ∙ out.stretch ∙ sym same;
      ends = sym w.2 ∙ ap (λ (x : List ℕ). start + length x) (sym same);
      clear = all rs p.2.1;
    }
  where
    all : (rs : List Record) → Each (WellFormed rfc8331) rs → Each (λ (r : Record). Each Unprotected (data_words r)) rs
    all [] f = tt
    all (r ∷ rs) f = (never-protected rfc8331 r f.0, all rs f.1)
