-- The packets of a line walked one by one: checked, listed as cells, and written.
-- By the packet or the record at the front.
use mathlib.Core.Path.{◌≡◌, refl, ap, ap₂, sym, ◌∙◌, subst}
use mathlib.Core.Bool.{Bool, true, false, cond, true≢false}
use mathlib.Core.List.{List, [], ◌∷◌, ◌++◌, append_assoc}
use Prim.Native.Nat.{ℕ, zero, suc, ◌+◌, ◌*◌, ◌<◌, ◌≤◌}
use native.Mathlib.Nat.{le_refl, zero-add, add-zero}
use native.Mathlib.Omega.{arith}
use lib.ListN.{length, drop, length-append, length-drop}
use lib.Seq.{drop-drop}
use borrow.Author.Tests.{leb-true}
use Rattle.wire_spec.specs.declared.refusal.Refusal.{Refusal}
use Rattle.wire_spec.specs.Bits.{overwrite, splice}
use Rattle.wire_spec.specs.Layout.{rfc8331}
use Rattle.wire_spec.specs.Words.{header_numbers}
use Rattle.wire_spec.specs.Result.{Result, Err, Ok, judge, ◌then◌, IsAccepted}
use Rattle.wire_spec.specs.Anc.{Each, Record, WellFormed, checksum}
use Rattle.wire_spec.specs.Cells.{head_cells, cells_of, list_of, Lists, cell_count, cell_record, cell_checks, rest, read_list}
use Rattle.wire_spec.proofs.CellLaws.{front_reads, list-iff}
use Rattle.wire_spec.proofs.ListLaws.{length-splice, splice-append, splice-none}
use Rattle.wire_spec.proofs.ResultLaws.{Passed, accepted-inj, accepted-is, judge-accepts, judge-passes}
use Rattle.sdi_spec.specs.declared.position.Position.{Position}
use Rattle.sdi_spec.specs.declared.answer.Found.{Found}
use Rattle.sdi_spec.specs.Packets.{Stands, At, data_words, packet_words, stretch, has_flag, line_count, line_record, packet_checks, behind, packets_from, packets_in, placed}
use Rattle.sdi_spec.specs.Line.{PositionFits}
use Rattle.sdi_spec.specs.Passes.{found_of, found_cells, list_stretch, verdict_of}
use Rattle.sdi_spec.proofs.PacketLaws.{flag-iff, packet-reads}
use Rattle.sdi_spec.proofs.PacketIff.{flagged, front-flagged, packets-iff}
use Rattle.sdi_spec.proofs.CodeLaws.{verdict-refused, length-user, named}

-- a packet takes 7 + n words, and its record 9 + n cells
pub length-packet : (r : Record) → length (packet_words r) ≡ 7 + length r.words
length-packet r = omega (arith, length-append r.words (checksum r ∷ []))

pub length-cells : (rs : List Record) → length (list_of rs) ≡ length (stretch rs) + 2 * length rs
length-cells [] = refl
length-cells (r ∷ rs) =
    omega (arith, length-packet r, length-append (packet_words r) (stretch rs), length-append r.words (list_of rs), length-cells rs)

-- a packet has seven words and more
pub stretch-long : (rs : List Record) → 7 * length rs ≤ length (stretch rs)
stretch-long [] = omega arith
stretch-long (r ∷ rs) = omega (arith, length-packet r, length-append (packet_words r) (stretch rs), stretch-long rs)

-- with a flag there are three words
pub flag-long : (s : List ℕ) → has_flag s ≡ true → 3 ≤ length s
flag-long s e = omega (arith, ap length ((flag-iff s).0 e))

-- the words behind a packet are fewer
behind-shorter : (s : List ℕ) → has_flag s ≡ true → length (behind s) < length s
behind-shorter s e = let t = drop 3 s in rw (length-drop (4 + line_count t) t, length-drop 3 s) (omega (arith, flag-long s e))

bounds-agree : (b c : ℕ) (P : Position) (i : ℕ) (s : List ℕ) → length s ≤ b → length s ≤ c → packets_from b P i s ≡ packets_from c P i s
unfolding packets_from has_flag
bounds-agree zero zero P i s h k = refl
bounds-agree zero (suc c) P i [] h k = refl
bounds-agree zero (suc c) P i (x ∷ s) h k = absurd (omega arith)
bounds-agree (suc b) zero P i [] h k = refl
bounds-agree (suc b) zero P i (x ∷ s) h k = absurd (omega arith)
bounds-agree (suc b) (suc c) P i s h k = go (has_flag s) refl (λ h k. bounds-agree b c P (i + 1) (behind s) h k)
  where
    go : (t : Bool) → has_flag s ≡ t → (length (behind s) ≤ b → length (behind s) ≤ c → packets_from b P (i + 1) (behind s) ≡ packets_from c P (i + 1) (behind s))
        → cond t (judge i (packet_checks (drop 3 s)) (packets_from b P (i + 1) (behind s) then λ rs. Ok (line_record P (drop 3 s) ∷ rs))) (Ok [])
        ≡ cond t (judge i (packet_checks (drop 3 s)) (packets_from c P (i + 1) (behind s) then λ rs. Ok (line_record P (drop 3 s) ∷ rs))) (Ok [])
    go false e ih = refl
    go true e ih =
        let l = behind-shorter s e in
        ap (λ (x : Result (List Record)). judge i (packet_checks (drop 3 s)) (x then λ rs. Ok (line_record P (drop 3 s) ∷ rs))) (ih (omega arith) (omega arith))

-- a walk's answer, by its two numbers
abbrev walked : ℕ → ℕ → Result Found
walked count used = Ok (record { count = count; words = used })

-- `count` packets of `used` words before those that are read
abbrev pub tally : ℕ → ℕ → Result (List Record) → Result Found
tally count used (Err x) = Err x
tally count used (Ok rs) = walked (count + length rs) (used + length (stretch rs))

pub tally-none : (x : Result (List Record)) → tally 0 0 x ≡ found_of x
tally-none (Err x) = refl
tally-none (Ok rs) = ap₂ walked (zero-add (length rs)) (zero-add (length (stretch rs)))

tally-one : (count used : ℕ) (r : Record) (y : Result (List Record))
    → tally count used (y then λ rs. Ok (r ∷ rs)) ≡ tally (count + 1) (used + (7 + length r.words)) y
tally-one count used r (Err x) = refl
tally-one count used r (Ok rs) = ap₂ walked (omega arith) (omega (arith, length-packet r, length-append (packet_words r) (stretch rs)))

module _ (P : Position) (count used : ℕ) (s : List ℕ) where
  -- without a flag the walk ends
  pub tally-ends : has_flag s ≡ false → tally count used (packets_from (length s) P count s) ≡ walked count used
  unfolding packets_from
  tally-ends e = go s e
    where
      none : walked (count + 0) (used + 0) ≡ walked count used
      none = ap₂ walked (add-zero count) (add-zero used)

      go : (s : List ℕ) → has_flag s ≡ false → tally count used (packets_from (length s) P count s) ≡ walked count used
      go [] e = none
      go (x ∷ s) e = rw e none

  -- one step of the walk
  step_is : has_flag s ≡ true → packets_from (length s) P count s
      ≡ judge count (packet_checks (drop 3 s)) (packets_from (length (behind s)) P (count + 1) (behind s) then λ rs. Ok (line_record P (drop 3 s) ∷ rs))
  unfolding packets_from
  step_is e = go s e
    where
      go : (s : List ℕ) → has_flag s ≡ true → packets_from (length s) P count s
          ≡ judge count (packet_checks (drop 3 s)) (packets_from (length (behind s)) P (count + 1) (behind s) then λ rs. Ok (line_record P (drop 3 s) ∷ rs))
      go [] e = absurd (omega (arith, flag-long [] e))
      go (x ∷ s) e =
          let l = behind-shorter (x ∷ s) e in
          rw e
          (ap (λ (y : Result (List Record)). judge count (packet_checks (drop 3 (x ∷ s))) (y then λ rs. Ok (line_record P (drop 3 (x ∷ s)) ∷ rs)))
          (bounds-agree (length s) (length (behind (x ∷ s))) P (count + 1) (behind (x ∷ s)) (omega arith) (le_refl _)))

  -- a packet that is refused ends it
  pub tally-refused : has_flag s ≡ true → (x : Refusal) → verdict_of count (drop 3 s) ≡ Err x → tally count used (packets_from (length s) P count s) ≡ Err x
  tally-refused e x v = ap (tally count used) (step_is e ∙ verdict-refused count (line_count (drop 3 s)) (packet_checks (drop 3 s)) x _ v)

-- the words behind a packet of n user data words
pub behind-is : (s : List ℕ) (n : ℕ) → n ≡ line_count (drop 3 s) → behind s ≡ drop (7 + n) s
behind-is s n e =
    let k : 3 + (4 + line_count (drop 3 s)) ≡ 7 + n = omega arith in
    drop-drop (4 + line_count (drop 3 s)) 3 s ∙ ap (λ (m : ℕ). drop m s) k

-- a packet that is accepted passes its checks, and its words are there
pub record Taken (s : List ℕ) (n : ℕ) : Type 0 where
  pub passes : Passed (packet_checks (drop 3 s))
  pub count : n ≡ line_count (drop 3 s)
  pub fits : 7 + n ≤ length s

pub taken : (i n : ℕ) (s : List ℕ) → has_flag s ≡ true → verdict_of i (drop 3 s) ≡ Ok n → Taken s n
unfolding packet_checks
taken i n s e v =
    let p = judge-accepts i (packet_checks (drop 3 s)) (Ok (line_count (drop 3 s))) n v in
    let ps = p.0 in
    let l : 4 + line_count (drop 3 s) ≤ length (drop 3 s) = leb-true (4 + line_count (drop 3 s)) (length (drop 3 s)) ps.1.1.0 in
    let count = sym (accepted-inj p.1) in
    record { passes = ps; count = count; fits = omega (arith, length-drop 3 s, flag-long s e, count) }

-- it is counted
pub tally-next : (P : Position) (count used n : ℕ) (s : List ℕ) → has_flag s ≡ true → Taken s n
    → tally count used (packets_from (length s) P count s) ≡ tally (count + 1) (used + (7 + n)) (packets_from (length (drop (7 + n) s)) P (count + 1) (drop (7 + n) s))
unfolding line_record
tally-next P count used n s e t =
    let b = behind-is s n t.count in
    let w : length (line_record P (drop 3 s)).words ≡ n = length-user (drop 3 s) (omega (arith, length-drop 3 s, t.fits, t.count)) ∙ sym t.count in
    ap (tally count used) (step_is P count used s e ∙ judge-passes count (packet_checks (drop 3 s)) _ t.passes)
    ∙ tally-one count used (line_record P (drop 3 s)) (packets_from (length (behind s)) P (count + 1) (behind s))
    ∙ ap₂ (λ (m : ℕ) (x : List ℕ). tally (count + 1) (used + (7 + m)) (packets_from (length x) P (count + 1) x)) w b

read_count : (P : Position) (t : List ℕ) → 4 + line_count t ≤ length t → length (line_record P t).words ≡ line_count t
unfolding line_record
read_count P t h = length-user t h

-- READING: the records `records` stand at the front of the words `left`, and their cells, from the cell `to` on, make the cells `all`
pub record ToRead (P : Position) (all cells left : List ℕ) (to : ℕ) : Type 0 where
  pub records : List Record
  pub formed : Each (WellFormed rfc8331) records
  pub at : Each (At P) records
  pub stands : Stands records left
  pub room : to + length (list_of records) ≤ length cells
  pub written : splice cells to (list_of records) ≡ all

-- before the first
pub to-read-all : (P : Position) → PositionFits P → (words cells : List ℕ) → IsAccepted (packets_in P words) → length (found_cells (packets_in P words)) ≤ length cells
    → ToRead P (overwrite (found_cells (packets_in P words)) cells) cells words 0
to-read-all P fits words cells h l =
    let a = accepted-is (packets_in P words) h in
    let p = (packets-iff (length words) P fits 0 words (le_refl (length words)) a.0).0 a.1 in
    let e : found_cells (packets_in P words) ≡ list_of a.0 = ap found_cells a.1 in
    record {
      records = a.0;
      formed = p.0;
      at = p.1;
      stands = p.2;
      room = rw (← e) (omega arith);
      written = ap (λ (x : List ℕ). overwrite x cells) (sym e);
    }

-- without a flag none is left
pub to-read-none : (P : Position) (all cells left : List ℕ) (to : ℕ) → ToRead P all cells left to → has_flag left ≡ false → cells ≡ all
to-read-none P all cells left to w h = go w.records w.stands w.written
  where
    go : (rs : List Record) → Stands rs left → splice cells to (list_of rs) ≡ all → cells ≡ all
    go [] st g = sym (splice-none cells to) ∙ g
    go (r ∷ rs) st g = absurd (true≢false (sym (flagged left (front-flagged r rs left st)) ∙ h))

-- with one, the packet is there, and what is left when its record is written
pub record ReadNext (P : Position) (all cells left : List ℕ) (to : ℕ) : Type 0 where
  pub fits : 4 + line_count (drop 3 left) ≤ length (drop 3 left)
  pub inside : 7 + line_count (drop 3 left) ≤ length left
  pub room : to + (head_cells + line_count (drop 3 left)) ≤ length cells
  pub goes : ToRead P all (splice cells to (cells_of (line_record P (drop 3 left)))) (drop (7 + line_count (drop 3 left)) left) (to + (head_cells + line_count (drop 3 left)))

pub read_next : (P : Position) (all cells left : List ℕ) (to : ℕ) → ToRead P all cells left to → has_flag left ≡ true → ReadNext P all cells left to
unfolding packet_checks
read_next P all cells left to w h = go w.records w.formed w.at w.stands w.room w.written
  where
    go : (rs : List Record) → Each (WellFormed rfc8331) rs → Each (At P) rs → Stands rs left → to + length (list_of rs) ≤ length cells
        → splice cells to (list_of rs) ≡ all → ReadNext P all cells left to
    go [] f a st l g = absurd (st.ends (drop 3 left, sym st.words ∙ (flag-iff left).0 h))
    go (r ∷ rs) f a st l g =
        let u = stretch rs ++ st.rest in
        let t = drop 3 left in
        let e : t ≡ data_words r ++ u = ap (drop 3) (st.words ∙ append_assoc (packet_words r) (stretch rs) st.rest) in
        let q = subst (λ (x : List ℕ). Passed (packet_checks x) × (line_record P x ≡ placed P r) × (drop (4 + line_count x) x ≡ u)) (sym e) (packet-reads P r u f.0) in
        let is : line_record P t ≡ r = q.1 ∙ a.0 in
        let fits : 4 + line_count t ≤ length t = leb-true (4 + line_count t) (length t) q.0.1.1.0 in
        let words : length r.words ≡ line_count t = ap (λ (x : Record). length x.words) (sym is) ∙ read_count P t fits in
        let same = ap cells_of is in
        let x = cells_of r in
        let size : to + (head_cells + line_count t) ≡ to + length x = omega arith in
        let lx = length-append x (list_of rs) in
        let ls : length (splice cells to (cells_of (line_record P t))) ≡ length cells =
        ap (λ (y : List ℕ). length (splice cells to y)) same ∙ length-splice cells to x (omega arith) in
        let long = flag-long left h in
        record {
          fits = fits;
          inside = omega (arith, length-drop 3 left);
          room = omega arith;
          goes = record {
            records = rs;
            formed = f.1;
            at = a.1;
            stands = record { rest = st.rest; words = sym (behind-is left (line_count t) refl) ∙ q.2; ends = st.ends };
            room = subst (λ (m : ℕ). to + (head_cells + line_count t) + length (list_of rs) ≤ m) (sym ls) (omega arith);
            written = (λ i. splice (splice cells to (same i)) (size i) (list_of rs)) ∙ splice-append cells to x (list_of rs) (omega arith) ∙ g;
          };
        }

-- WRITING: the cells `left` are those of records whose packets, from the word `to` on, make the words `all`
pub record ToWrite (all words left : List ℕ) (to : ℕ) : Type 0 where
  pub records : List Record
  pub formed : Each (WellFormed rfc8331) records
  pub cells : Lists records left
  pub room : to + length (stretch records) ≤ length words
  pub written : splice words to (stretch records) ≡ all

pub to-write-all : (cells words : List ℕ) → IsAccepted (read_list cells) → length (list_stretch (read_list cells)) ≤ length words
    → ToWrite (overwrite (list_stretch (read_list cells)) words) words cells 0
to-write-all cells words h l =
    let a = accepted-is (read_list cells) h in
    let p = (list-iff cells a.0).0 a.1 in
    let e : list_stretch (read_list cells) ≡ stretch a.0 = ap list_stretch a.1 in
    record { records = a.0; formed = p.0; cells = p.1; room = rw (← e) (omega arith); written = ap (λ (x : List ℕ). overwrite x words) (sym e) }

pub to-write-none : (all words left : List ℕ) (to : ℕ) → ToWrite all words left to → length left ≤ 0 → words ≡ all
to-write-none all words left to w h = go w.records w.cells w.written
  where
    go : (rs : List Record) → Lists rs left → splice words to (stretch rs) ≡ all → words ≡ all
    go [] e g = sym (splice-none words to) ∙ g
    go (r ∷ rs) e g = absurd (omega (arith, ap length e.3))

pub record WriteNext (all words left : List ℕ) (to : ℕ) : Type 0 where
  pub formed : WellFormed rfc8331 (cell_record left)
  pub inside : head_cells + cell_count left ≤ length left
  pub small : cell_count left < header_numbers
  pub room : to + (7 + cell_count left) ≤ length words
  pub goes : ToWrite all (splice words to (packet_words (cell_record left))) (rest left) (to + (7 + cell_count left))

pub write-next : (all words left : List ℕ) (to : ℕ) → ToWrite all words left to → 0 < length left → WriteNext all words left to
unfolding cell_checks
write-next all words left to w h = go w.records w.formed w.cells w.room w.written
  where
    go : (rs : List Record) → Each (WellFormed rfc8331) rs → Lists rs left → to + length (stretch rs) ≤ length words
        → splice words to (stretch rs) ≡ all → WriteNext all words left to
    go [] f e l g = absurd (omega (arith, ap length e))
    go (r ∷ rs) f e l g =
        let t = e.1 in
        let p = subst (λ (y : List ℕ). Passed (cell_checks y) × (cell_record y ≡ r) × (rest y ≡ t)) (sym e.3) (front_reads e.0 r t f.0.fits e.2) in
        let inside : head_cells + cell_count left ≤ length left = leb-true (head_cells + cell_count left) (length left) p.0.1.1.0 in
        let formed = subst (WellFormed rfc8331) (sym p.1) f.0 in
        let o = packet_words r in
        let count : length r.words ≡ cell_count left = ap (λ (x : Record). length x.words) (sym p.1) ∙ (named left formed inside).long in
        let size : to + (7 + cell_count left) ≡ to + length o = omega (arith, length-packet r) in
        let same = ap packet_words p.1 in
        let lo = length-append o (stretch rs) in
        let ls : length (splice words to (packet_words (cell_record left))) ≡ length words =
        ap (λ (y : List ℕ). length (splice words to y)) same ∙ length-splice words to o (omega (arith, length-packet r)) in
        record {
          formed = formed;
          inside = inside;
          small = (named left formed inside).count;
          room = omega (arith, length-packet r);
          goes = record {
            records = rs;
            formed = f.1;
            cells = subst (Lists rs) (sym p.2) e.4;
            room = subst (λ (m : ℕ). to + (7 + cell_count left) + length (stretch rs) ≤ m) (sym ls) (omega arith);
            written = (λ i. splice (splice words to (same i)) (size i) (stretch rs)) ∙ splice-append words to o (stretch rs) (omega arith) ∙ g;
          };
        }
