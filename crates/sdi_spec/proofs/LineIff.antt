-- WHAT IS READ is what stands there, what is written is read back, and the words outside the written stretch stay.
-- By the packets' law, at the seams of the written stretch.
use mathlib.Core.Path.{◌≡◌, refl, ap, sym, ◌∙◌, subst}
use mathlib.Core.Bool.{true}
use mathlib.Core.Logic.{◌↔◌}
use mathlib.Core.List.{List, [], ◌∷◌, ◌++◌, map}
use Prim.Native.Nat.{ℕ, ◌+◌, ◌^◌, ◌≤◌}
use native.Mathlib.Nat.{le_refl}
use native.Mathlib.Omega.{arith}
use lib.Dec.{leb, ltb}
use lib.ListN.{length, take, drop, length-append, length-drop, take-append-drop}
use lib.Seq.{length-take-le, take_at, drop_at, drop-drop, drop-append_seam}
use borrow.Author.Tests.{leb-true, le-leb, ltb-true, lt-ltb}
use Rattle.wire_spec.specs.Bits.{Below, splice}
use Rattle.wire_spec.specs.Words.{word_bits}
use Rattle.wire_spec.specs.Layout.{rfc8331, s_bits, stream_bits}
use Rattle.wire_spec.specs.Result.{Ok, judge, ◌then◌}
use Rattle.wire_spec.specs.Anc.{Each, Record, WellFormed}
use Rattle.wire_spec.specs.Cells.{list_of, Lists, read_list}
use Rattle.wire_spec.proofs.BitLaws.{below-append}
use Rattle.wire_spec.proofs.CellLaws.{below-iff, list-iff, lists-own, lists_length}
use Rattle.wire_spec.proofs.ListLaws.{length-splice, splice-is}
use Rattle.wire_spec.proofs.ResultLaws.{accepted-inj, judge-accepts, judge-passes, then-accepts, and-true, and_both}
use Rattle.sdi_spec.specs.declared.position.Position.{Position}
use Rattle.sdi_spec.specs.Packets.{Unprotected, Stands, At, data_words, packet_words, stretch, Flagged, packets_in, placed}
use Rattle.sdi_spec.specs.Line.{Readable, Outside, ReadBack, max_line, line_checks, write_line, PositionFits, position_ok, reading_checks, read_line, read_line_into}
use Rattle.sdi_spec.proofs.ProtectedLaws.{never-protected}
use Rattle.sdi_spec.proofs.PacketIff.{packets-iff}

-- the test of a position is that it fits
pub position-iff : (P : Position) → (position_ok P ≡ true) ↔ PositionFits P
unfolding position_ok
position-iff P = (
  λ e.
      let a = and-true (ltb P.c (2 ^ 1)) _ e in
      let b = and-true (ltb P.line (2 ^ 11)) _ a.1 in
      let c = and-true (ltb P.offset (2 ^ 12)) _ b.1 in
      let d = and-true (ltb P.s (2 ^ s_bits rfc8331)) (ltb P.stream (2 ^ stream_bits rfc8331)) c.1 in
      record { c = ltb-true _ _ a.0; line = ltb-true _ _ b.0; offset = ltb-true _ _ c.0; s = ltb-true _ _ d.0; stream = ltb-true _ _ d.1 },
  λ h. and_both (lt-ltb _ _ h.c) (and_both (lt-ltb _ _ h.line) (and_both (lt-ltb _ _ h.offset) (and_both (lt-ltb _ _ h.s) (lt-ltb _ _ h.stream)))),
)

-- A LINE is read exactly where the stretch of those records, well-formed and at the caller's position, stands at the start and no flag follows
pub line-iff : (line : List ℕ) (start : ℕ) (P : Position) (rs : List Record)
    → (read_line line start P ≡ Ok rs) ↔ (Readable line start P × Each (WellFormed rfc8331) rs × Each (At P) rs × Stands rs (drop start line))
unfolding read_line line_checks reading_checks
line-iff line start P rs =
    let s = drop start line in (
      λ e.
          let a = judge-accepts 0 (line_checks line start) _ rs e in
          let b = judge-accepts 0 (reading_checks line P) (packets_in P s) rs a.1 in
          let fits = (position-iff P).0 search in
          let q = (packets-iff (length s) P fits 0 s (le_refl (length s)) rs).0 b.1 in (
            record {
              long = leb-true (length line) max_line search;
              inside = leb-true start (length line) search;
              position = fits;
              words = (below-iff (2 ^ word_bits) line).0 search;
            },
            q.0,
            q.1,
            q.2,
          ),
      λ p.
          let h = p.0 in
          judge-passes 0 (line_checks line start) _ (le-leb _ _ h.long, (le-leb _ _ h.inside, tt))
          ∙ judge-passes 0 (reading_checks line P) (packets_in P s) ((position-iff P).1 h.position, ((below-iff (2 ^ word_bits) line).1 h.words, tt))
          ∙ (packets-iff (length s) P h.position 0 s (le_refl (length s)) rs).1 (p.1, p.2, p.3),
    )

-- A LIST is written exactly where it is the cells of well-formed records, whatever index each has that is taken (02, K13), and there is room before the end; then the stretch is theirs
pub write-iff : (line : List ℕ) (start : ℕ) (cells o : List ℕ) → (write_line line start cells ≡ Ok o)
    ↔ ((length line ≤ max_line) × (start + length o ≤ length line) × ((rs : List Record) × Each (WellFormed rfc8331) rs × Lists rs cells × (stretch rs ≡ o)))
unfolding write_line line_checks
write-iff line start cells o = (
  λ e.
      let a = judge-accepts 0 (line_checks line start) _ o e in
      let b = then-accepts (read_list cells) _ o a.1 in
      let rs = b.0 in
      let c = judge-accepts 0 ((leb (start + length (stretch rs)) (length line), 72) ∷ []) (Ok (stretch rs)) o b.2 in
      let q = accepted-inj c.1 in
      let l = (list-iff cells rs).0 b.1 in
      (leb-true (length line) max_line search, rw (← q) (leb-true (start + length (stretch rs)) (length line) c.0.0), (rs, l.0, l.1, q)),
  λ p.
      let rs = p.2.0 in
      let q = p.2.3 in
      let fits : start + length (stretch rs) ≤ length line = rw q p.1 in
      judge-passes 0 (line_checks line start) _ (le-leb _ _ p.0, (le-leb start (length line) (omega arith), tt))
      ∙ ap (λ x. x then λ rs. judge 0 ((leb (start + length (stretch rs)) (length line), 72) ∷ []) (Ok (stretch rs))) ((list-iff cells rs).1 (p.2.1, p.2.2))
      ∙ judge-passes 0 ((leb (start + length (stretch rs)) (length line), 72) ∷ []) (Ok (stretch rs)) (le-leb _ _ fits, tt)
      ∙ ap Ok q,
)

-- the records' stretch does not depend on their position
pub stretch-placed : (P : Position) (rs : List Record) → stretch (map (placed P) rs) ≡ stretch rs
stretch-placed P [] = refl
stretch-placed P (r ∷ rs) = ap (λ (x : List ℕ). packet_words r ++ x) (stretch-placed P rs)

pub cells-placed : (P : Position) (rs : List Record) → length (list_of (map (placed P) rs)) ≡ length (list_of rs)
cells-placed P [] = refl
cells-placed P (r ∷ rs) = omega (arith, length-append r.words (list_of (map (placed P) rs)), length-append r.words (list_of rs), cells-placed P rs)

-- well-formed records are well-formed at a position that fits, and are there
placed-formed : (P : Position) → PositionFits P → (rs : List Record) → Each (WellFormed rfc8331) rs → Each (WellFormed rfc8331) (map (placed P) rs) × Each (At P) (map (placed P) rs)
placed-formed P h [] f = (tt, tt)
placed-formed P h (r ∷ rs) f =
    let g = f.0 in
    let more = placed-formed P h rs f.1 in (
      (
        record {
          fits = record { c = h.c; line = h.line; offset = h.offset; s = h.s; stream = h.stream; did = g.fits.did; sdid = g.fits.sdid; count = g.fits.count; words = g.fits.words };
          clear = g.clear;
        },
        more.0,
      ),
      (refl, more.1),
    )

-- every word of a stretch fits ten bits
unprotected-below : (ws : List ℕ) → Each Unprotected ws → Below (2 ^ word_bits) ws
unprotected-below [] h = tt
unprotected-below (w ∷ ws) h = (omega (arith, h.0), unprotected-below ws h.1)

stretch-below : (rs : List Record) → Each (WellFormed rfc8331) rs → Below (2 ^ word_bits) (stretch rs)
stretch-below [] f = tt
stretch-below (r ∷ rs) f =
    below-append (2 ^ word_bits) (packet_words r) (stretch rs) (omega arith, (omega arith, (omega arith, unprotected-below (data_words r) (never-protected rfc8331 r f.0)))) (stretch-below rs f.1)

-- "words outside the written stretch stay"
pub outside-stays : (line : List ℕ) (start : ℕ) (o : List ℕ) → start + length o ≤ length line → Outside line (splice line start o) start o
outside-stays line start o h =
    let front : length (take start line) ≡ start = length-take-le start line (omega arith) in
    let s = splice-is line start o in
    let d : drop start (splice line start o) ≡ o ++ drop (start + length o) line = ap (drop start) s ∙ drop_at (take start line) _ start front in
    record {
      long = length-splice line start o h;
      before = take_at (take start line) _ start front;
      stretch = ap (take (length o)) d ∙ take_at o _ (length o) refl;
      behind = sym (drop-drop (length o) start (splice line start o)) ∙ ap (drop (length o)) d ∙ drop_at o _ (length o) refl;
    }

-- WRITE THEN READ "gives the data part of the records, where no flag stands directly after the written stretch and no word outside it is over 1,023;
-- C, place, S and StreamNum come from the caller"
pub written_read : (line : List ℕ) (start : ℕ) (cells o : List ℕ) (P : Position) → write_line line start cells ≡ Ok o
    → (Flagged (drop (start + length o) line) → ⊥)
    → Below (2 ^ word_bits) (take start line) → Below (2 ^ word_bits) (drop (start + length o) line)
    → PositionFits P
    → ReadBack line start cells o P
unfolding read_line_into
written_read line start cells o P e ends before behind fits =
    let w = (write-iff line start cells o).0 e in
    let rs = w.2.0 in
    let after = splice line start o in
    let out = outside-stays line start o w.1 in
    let s = splice-is line start o in
    let d : drop start after ≡ stretch (map (placed P) rs) ++ drop (start + length o) line =
    ap (drop start) s ∙ drop_at (take start line) _ start (length-take-le start line (omega (arith, w.1)))
    ∙ ap (λ (x : List ℕ). x ++ drop (start + length o) line) (sym w.2.3 ∙ sym (stretch-placed P rs)) in
    let placed_ok = placed-formed P fits rs w.2.1 in
    let words : Below (2 ^ word_bits) after =
    subst (Below (2 ^ word_bits)) (sym s)
    (below-append (2 ^ word_bits) (take start line) _ before
    (below-append (2 ^ word_bits) o _ (subst (Below (2 ^ word_bits)) w.2.3 (stretch-below rs w.2.1)) behind)) in
    let r : read_line after start P ≡ Ok (map (placed P) rs) =
    (line-iff after start P (map (placed P) rs)).1 (
      record { long = rw out.long w.0; inside = rw out.long (omega (arith, w.1)); position = fits; words = words },
      placed_ok.0,
      placed_ok.1,
      record { rest = drop (start + length o) line; words = d; ends = ends },
    ) in
    record {
      records = rs;
      written = (list-iff cells rs).1 (w.2.1, w.2.2);
      read = r;
      room = λ n h.
          ap (λ x. x then λ rs. judge 0 ((leb (length (list_of rs)) n, 14) ∷ []) (Ok rs)) r
          ∙ judge-passes 0 ((leb (length (list_of (map (placed P) rs))) n, 14) ∷ []) (Ok (map (placed P) rs))
          (le-leb (length (list_of (map (placed P) rs))) n (omega (arith, cells-placed P rs, lists_length rs cells w.2.2)), tt);
    }

-- READ THEN WRITE: the records that were read, written where they were read, give the line again
pub read-written : (line : List ℕ) (start : ℕ) (P : Position) (rs : List Record) → read_line line start P ≡ Ok rs
    → (write_line line start (list_of rs) ≡ Ok (stretch rs)) × (splice line start (stretch rs) ≡ line)
read-written line start P rs e =
    let p = (line-iff line start P rs).0 e in
    let st = p.3 in
    let h = p.0 in
    let fits : start + length (stretch rs) ≤ length line =
    omega (arith, ap length st.words, length-append (stretch rs) st.rest, length-drop start line, h.inside) in (
      (write-iff line start (list_of rs) (stretch rs)).1 (h.long, fits, (rs, p.1, lists-own rs, refl)),
      ap (λ (x : List ℕ). take start line ++ x) (ap (λ (x : List ℕ). stretch rs ++ drop (length (stretch rs)) x) st.words ∙ ap (λ (x : List ℕ). stretch rs ++ x) (drop-append_seam (stretch rs) st.rest) ∙ sym st.words)
          ∙ take-append-drop start line,
    )
