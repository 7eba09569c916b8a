-- A LINE IS REFUSED exactly where 02 says so, with its numbers, in its order, and with the packet's index.
-- By the checks in their order; the packets before one that offends stand in the line.
use mathlib.Core.Path.{◌≡◌, refl, ap, sym, ◌∙◌, subst}
use mathlib.Core.Bool.{Bool, true, false, cond, true≢false}
use mathlib.Core.Logic.{◌↔◌, ◌⊎◌, inl, inr}
use mathlib.Core.List.{List, [], ◌∷◌, ◌++◌, append_assoc}
use Prim.Native.Nat.{ℕ, zero, suc, ◌+◌, ◌^◌, ◌≤◌}
use native.Mathlib.Nat.{le_refl}
use native.Mathlib.Omega.{arith}
use lib.Dec.{leb}
use lib.ListN.{length, take, drop, get_or, length-drop}
use borrow.Author.Tests.{leb-true, leb-false, le-leb, lt-leb, eqb-false, ne_eqb}
use Rattle.wire_spec.specs.declared.refusal.Refusal.{Refusal}
use Rattle.wire_spec.specs.Layout.{rfc8331}
use Rattle.wire_spec.specs.Words.{word_bits, least_clear, most_clear, is_clear, all_clear, sum_low, checksum_word}
use Rattle.wire_spec.specs.Result.{Result, Err, Ok, judge, ◌then◌}
use Rattle.wire_spec.specs.Anc.{Each, Record, WellFormed}
use Rattle.wire_spec.specs.Cells.{list_of, all_below, read_list}
use Rattle.wire_spec.proofs.CellLaws.{below-iff}
use Rattle.wire_spec.proofs.ResultLaws.{Passed, and-true, and_both, judge-passes, not-refused, Fails, judge-refused, fails-judge, then-refused}
use Rattle.sdi_spec.specs.declared.position.Position.{Position}
use Rattle.sdi_spec.specs.Packets.{flag, data_words, packet_words, stretch, At, Unprotected, has_flag, line_count, user_words, line_record, sum_ok, packet_checks, behind, packets_from, packets_in, placed}
use Rattle.sdi_spec.specs.Line.{max_line, line_checks, line_after, write_line, PositionFits, position_ok, reading_checks, read_line, read_line_into}
use Rattle.sdi_spec.specs.Answers.{cells_after, read_of, read_leaves, read_returns, write_leaves, write_returns, written_of}
use Rattle.sdi_spec.specs.Refuses.{PacketFails, short, header, cut, protected, checksum}
use Rattle.sdi_spec.specs.Refuses as refuses
use Rattle.sdi_spec.proofs.PacketLaws.{flag-iff, packet-passed, packet-reads}
use Rattle.sdi_spec.proofs.PacketIff.{flagged}
use Rattle.sdi_spec.proofs.LineIff.{position-iff}

differ : true ≡ false → ⊥
differ e = true≢false e

-- "0x000 to 0x003 and 0x3FC to 0x3FF"
clear-iff : (ws : List ℕ) → (all_clear ws ≡ true) ↔ Each Unprotected ws
clear-iff [] = (λ e. tt, λ h. refl)
clear-iff (w ∷ ws) = (
  λ e.
      let a = and-true (is_clear w) (all_clear ws) e in
      let b = and-true (leb least_clear w) (leb w most_clear) a.0 in
      (omega (arith, leb-true least_clear w b.0, leb-true w most_clear b.1), (clear-iff ws).0 a.1),
  λ h. and_both (and_both (le-leb least_clear w (omega (arith, h.0))) (le-leb w most_clear (omega (arith, h.0)))) ((clear-iff ws).1 h.1),
)

false_of : (b : Bool) → (b ≡ true → ⊥) → b ≡ false
false_of true h = absurd (h refl)
false_of false h = refl

-- ONE PACKET
fails-packet : (i : ℕ) (t : List ℕ) (x : Refusal) → Fails i (packet_checks t) x → PacketFails t x.number × (x.index ≡ i)
unfolding packet_checks sum_ok
fails-packet i t x (inl f) = (short (leb-false 4 (length t) f.0) (ap (λ (y : Refusal). y.number) f.1), ap (λ (y : Refusal). y.index) f.1)
fails-packet i t x (inr (a, inl f)) = (header (leb-true 4 (length t) a) f.0 (ap (λ (y : Refusal). y.number) f.1), ap (λ (y : Refusal). y.index) f.1)
fails-packet i t x (inr (a, inr (b, inl f))) =
    (cut (leb-true 4 (length t) a) b (leb-false (4 + line_count t) (length t) f.0) (ap (λ (y : Refusal). y.number) f.1), ap (λ (y : Refusal). y.index) f.1)
fails-packet i t x (inr (a, inr (b, inr (c, inl f)))) =
    (protected b (leb-true (4 + line_count t) (length t) c) (λ h. differ (sym ((clear-iff (user_words t)).1 h) ∙ f.0)) (ap (λ (y : Refusal). y.number) f.1), ap (λ (y : Refusal). y.index) f.1)
fails-packet i t x (inr (a, inr (b, inr (c, inr (d, inl f))))) = (
  checksum b (leb-true (4 + line_count t) (length t) c) ((clear-iff (user_words t)).0 d) (eqb-false (get_or t (3 + line_count t) 0) (checksum_word (sum_low (take (3 + line_count t) t))) f.0)
      (ap (λ (y : Refusal). y.number) f.1),
  ap (λ (y : Refusal). y.index) f.1,
)
fails-packet i t x (inr (a, inr (b, inr (c, inr (d, inr f))))) = absurd f.1

refusal_is : (x : Refusal) (n i : ℕ) → x.number ≡ n → x.index ≡ i → x ≡ record { number = n; index = i }
refusal_is x n i h k = λ j. record { number = h j; index = k j }

packet-fails : (i : ℕ) (t : List ℕ) (x : Refusal) → PacketFails t x.number → x.index ≡ i → Fails i (packet_checks t) x
unfolding packet_checks sum_ok
packet-fails i t x (short l e) k = inl (lt-leb 4 (length t) l, refusal_is x 9 i e k)
packet-fails i t x (header l h e) k = inr (le-leb 4 (length t) l, inl (h, refusal_is x 10 i e k))
packet-fails i t x (cut l h m e) k = inr (le-leb 4 (length t) l, inr (h, inl (lt-leb (4 + line_count t) (length t) m, refusal_is x 9 i e k)))
packet-fails i t x (protected h m p e) k =
    inr (le-leb 4 (length t) (omega arith), inr (h, inr (le-leb (4 + line_count t) (length t) m, inl (false_of (all_clear (user_words t)) (λ q. p ((clear-iff (user_words t)).0 q)), refusal_is x 16 i e k))))
packet-fails i t x (checksum h m p s e) k =
    inr (
      le-leb 4 (length t) (omega arith),
      inr (
        h,
        inr (
          le-leb (4 + line_count t) (length t) m,
          inr (
            (clear-iff (user_words t)).1 p,
            inl (ne_eqb (get_or t (3 + line_count t) 0) (checksum_word (sum_low (take (3 + line_count t) t))) s, refusal_is x 11 i e k),
          ),
        ),
      ),
    )

-- PACKETS: the first that offends, behind `i` others
record From (i : ℕ) (P : Position) (s : List ℕ) (x : Refusal) : Type 0 where
  before : List Record
  formed : Each (WellFormed rfc8331) before
  at : Each (At P) before
  rest : List ℕ
  words : s ≡ stretch before ++ (flag ++ rest)
  by : PacketFails rest x.number
  index : x.index ≡ i + length before

placed-read : (P : Position) (t : List ℕ) → placed P (line_record P t) ≡ line_record P t
unfolding line_record
placed-read P t = refl

plus-zero : (i : ℕ) → i ≡ i + 0
plus-zero i = omega arith

refused-from : (bound : ℕ) (P : Position) → PositionFits P → (i : ℕ) (s : List ℕ) (x : Refusal) → packets_from bound P i s ≡ Err x → From i P s x
unfolding packets_from
refused-from zero P fits i s x e = absurd (not-refused e)
refused-from (suc bound) P fits i s x e = go (has_flag s) refl e (refused-from bound P fits (i + 1) (behind s) x)
  where
    more : has_flag s ≡ true → Passed (packet_checks (drop 3 s)) → From (i + 1) P (behind s) x → From i P s x
    more h p r =
        let k = packet-passed P fits (drop 3 s) p in
        let one = line_record P (drop 3 s) in
        let w : s ≡ packet_words one ++ behind s = (flag-iff s).0 h ∙ ap (λ (y : List ℕ). flag ++ y) k.1 in
        record {
          before = one ∷ r.before;
          formed = (k.0, r.formed);
          at = (placed-read P (drop 3 s), r.at);
          rest = r.rest;
          words = w ∙ ap (λ (y : List ℕ). packet_words one ++ y) r.words ∙ sym (append_assoc (packet_words one) (stretch r.before) (flag ++ r.rest));
          by = r.by;
          index = let k = r.index in omega arith;
        }

    checks : has_flag s ≡ true → (packets_from bound P (i + 1) (behind s) ≡ Err x → From (i + 1) P (behind s) x)
        → Fails i (packet_checks (drop 3 s)) x
        ⊎ (Passed (packet_checks (drop 3 s)) × ((packets_from bound P (i + 1) (behind s) then λ rs. Ok (line_record P (drop 3 s) ∷ rs)) ≡ Err x)) → From i P s x
    checks h ih (inl f) =
        let b = fails-packet i (drop 3 s) x f in
        record { before = []; formed = tt; at = tt; rest = drop 3 s; words = (flag-iff s).0 h; by = b.0; index = b.1 ∙ plus-zero i }
    checks h ih (inr p) = on (then-refused (packets_from bound P (i + 1) (behind s)) _ x p.1)
      where
        on : (packets_from bound P (i + 1) (behind s) ≡ Err x)
            ⊎ ((rs : List Record) × (packets_from bound P (i + 1) (behind s) ≡ Ok rs) × (◌≡◌ {A = Result (List Record)} (Ok (line_record P (drop 3 s) ∷ rs)) (Err x))) → From i P s x
        on (inl e) = more h p.0 (ih e)
        on (inr q) = absurd (not-refused q.2)

    go : (b : Bool) → has_flag s ≡ b
        → cond b (judge i (packet_checks (drop 3 s)) (packets_from bound P (i + 1) (behind s) then λ rs. Ok (line_record P (drop 3 s) ∷ rs))) (Ok []) ≡ Err x
        → (packets_from bound P (i + 1) (behind s) ≡ Err x → From (i + 1) P (behind s) x) → From i P s x
    go false h e ih = absurd (not-refused e)
    go true h e ih = checks h ih (judge-refused i (packet_checks (drop 3 s)) _ x e)

from-refused : (bound : ℕ) (P : Position) (i : ℕ) (s : List ℕ) (x : Refusal) → length s ≤ bound → (before : List Record) → Each (WellFormed rfc8331) before
    → (rest : List ℕ) → s ≡ stretch before ++ (flag ++ rest) → PacketFails rest x.number → x.index ≡ i + length before → packets_from bound P i s ≡ Err x
unfolding packets_from
from-refused zero P i s x l [] f rest w by k = absurd (omega (arith, ap length w))
from-refused zero P i s x l (r ∷ before) f rest w by k =
    absurd (omega (arith, ap length (w ∙ append_assoc (packet_words r) (stretch before) (flag ++ rest))))
from-refused (suc bound) P i s x l [] f rest w by k =
    let t : drop 3 s ≡ rest = ap (drop 3) w in
    rw (flagged s (rest, w))
    (fails-judge i (packet_checks (drop 3 s)) _ x (packet-fails i (drop 3 s) x (subst (λ (y : List ℕ). PacketFails y x.number) (sym t) by) (k ∙ sym (plus-zero i))))
from-refused (suc bound) P i s x l (r ∷ before) f rest w by k =
    let u = stretch before ++ (flag ++ rest) in
    let ws : s ≡ packet_words r ++ u = w ∙ append_assoc (packet_words r) (stretch before) (flag ++ rest) in
    let wt : drop 3 s ≡ data_words r ++ u = ap (drop 3) ws in
    let q = subst (λ (y : List ℕ). Passed (packet_checks y) × (line_record P y ≡ placed P r) × (drop (4 + line_count y) y ≡ u)) (sym wt) (packet-reads P r u f.0) in
    let shorter : length (behind s) ≤ bound = rw (length-drop (4 + line_count (drop 3 s)) (drop 3 s), length-drop 3 s) (omega (arith, ap length ws)) in
    let ih = from-refused bound P (i + 1) (behind s) x shorter before f.1 rest q.2 by (k ∙ omega arith) in
    rw (flagged s (data_words r ++ u, ws))
    (judge-passes i (packet_checks (drop 3 s)) _ q.0 ∙ ap (λ (y : Result (List Record)). y then λ rs. Ok (line_record P (drop 3 s) ∷ rs)) ih)

-- READING
module _ (line : List ℕ) (start : ℕ) (P : Position) (room : ℕ) (x : Refusal) where
  line_refused : read_line line start P ≡ Err x → refuses.ReadRefuses line start P room x
  unfolding read_line line_checks reading_checks
  line_refused e = first (judge-refused 0 (line_checks line start) _ x e)
    where
      second : length line ≤ 4096 → start ≤ length line
          → Fails 0 (reading_checks line P) x ⊎ (Passed (reading_checks line P) × (packets_in P (drop start line) ≡ Err x)) → refuses.ReadRefuses line start P room x
      second l h (inl (inl f)) = refuses.position l h (λ p. differ (sym ((position-iff P).1 p) ∙ f.0)) f.1
      second l h (inl (inr (p, inl f))) = refuses.too_large l h ((position-iff P).0 p) (λ b. differ (sym ((below-iff (2 ^ word_bits) line).1 b) ∙ f.0)) f.1
      second l h (inl (inr (p, inr f))) = absurd f.1
      second l h (inr p) =
          let fits = (position-iff P).0 p.0.0 in
          let r = refused-from (length (drop start line)) P fits 0 (drop start line) x p.1 in
          refuses.packet (record { long = l; inside = h; position = fits; words = (below-iff (2 ^ word_bits) line).0 p.0.1.0 })
          (record { before = r.before; formed = r.formed; placed = r.at; behind = r.rest; words = r.words; by = r.by; index = let k = r.index in omega arith })

      first : Fails 0 (line_checks line start) x ⊎ (Passed (line_checks line start) × (judge 0 (reading_checks line P) (packets_in P (drop start line)) ≡ Err x))
          → refuses.ReadRefuses line start P room x
      first (inl (inl f)) = refuses.too_long (leb-false (length line) max_line f.0) f.1
      first (inl (inr (l, inl f))) = refuses.past_end (leb-true (length line) max_line l) (leb-false start (length line) f.0) f.1
      first (inl (inr (l, inr f))) = absurd f.1
      first (inr p) = second (leb-true (length line) max_line p.0.0) (leb-true start (length line) p.0.1.0) (judge-refused 0 (reading_checks line P) _ x p.1)

  into-refused : read_line_into line start P room ≡ Err x → refuses.ReadRefuses line start P room x
  unfolding read_line_into
  into-refused e = go (then-refused (read_line line start P) _ x e)
    where
      last : (rs : List Record) → read_line line start P ≡ Ok rs
          → Fails 0 ((leb (length (list_of rs)) room, 14) ∷ []) x ⊎ (Passed ((leb (length (list_of rs)) room, 14) ∷ []) × (Ok rs ≡ Err x)) → refuses.ReadRefuses line start P room x
      last rs h (inl (inl f)) = refuses.list_short rs h (leb-false (length (list_of rs)) room f.0) f.1
      last rs h (inl (inr f)) = absurd f.1
      last rs h (inr f) = absurd (not-refused f.1)

      go : (read_line line start P ≡ Err x)
          ⊎ ((rs : List Record) × (read_line line start P ≡ Ok rs) × (judge 0 ((leb (length (list_of rs)) room, 14) ∷ []) (Ok rs) ≡ Err x)) → refuses.ReadRefuses line start P room x
      go (inl e) = line_refused e
      go (inr p) = last p.0 p.1 (judge-refused 0 ((leb (length (list_of p.0)) room, 14) ∷ []) (Ok p.0) x p.2)

  early : read_line line start P ≡ Err x → read_line_into line start P room ≡ Err x
  unfolding read_line_into
  early e = rw e

  back : refuses.ReadRefuses line start P room x → read_line_into line start P room ≡ Err x
  unfolding read_line line_checks reading_checks read_line_into
  back (refuses.too_long l e) = rw (lt-leb (length line) max_line l) (ap Err (sym e))
  back (refuses.past_end l h e) = rw (le-leb (length line) max_line l, lt-leb start (length line) h) (ap Err (sym e))
  back (refuses.position l h p e) = rw (le-leb (length line) max_line l, le-leb start (length line) h, false_of (position_ok P) (λ q. p ((position-iff P).0 q))) (ap Err (sym e))
  back (refuses.too_large l h p w e) =
      rw (le-leb (length line) max_line l, le-leb start (length line) h, (position-iff P).1 p, false_of (all_below (2 ^ word_bits) line) (λ q. w ((below-iff (2 ^ word_bits) line).0 q))) (ap Err (sym e))
  back (refuses.packet h r) =
      let q : packets_in P (drop start line) ≡ Err x =
      from-refused (length (drop start line)) P 0 (drop start line) x (le_refl (length (drop start line))) r.before r.formed r.behind r.words r.by (let k = r.index in omega arith) in
      rw (le-leb (length line) max_line h.long, le-leb start (length line) h.inside, (position-iff P).1 h.position, (below-iff (2 ^ word_bits) line).1 h.words, q)
  back (refuses.list_short rs h l e) = rw (h, lt-leb (length (list_of rs)) room l) (ap Err (sym e))

-- of what `read` takes and returns; "Lent memory is unchanged"
module _ (line : List ℕ) (start : ℕ) (P : Position) (lent : List ℕ) (x : Refusal) where
  pub read-refused-iff : (read_returns line start P lent ≡ Err x) ↔ refuses.ReadRefuses line start P (length lent) x
  read-refused-iff = (λ e. go (read_line_into line start P (length lent)) refl e, λ r. ap (read_of start) (back line start P (length lent) x r))
    where
      go : (r : Result (List Record)) → read_line_into line start P (length lent) ≡ r → read_of start r ≡ Err x → refuses.ReadRefuses line start P (length lent) x
      go (Err y) q e = let s : y ≡ x = cc in into-refused line start P (length lent) x (q ∙ ap Err s)
      go (Ok rs) q e = let z : ◌≡◌ {A = ℕ} 0 1 = cc in absurd (omega arith)

  pub read-refused-stays : read_returns line start P lent ≡ Err x → read_leaves line start P lent ≡ lent
  read-refused-stays e = go (read_line_into line start P (length lent)) e
    where
      go : (r : Result (List Record)) → read_of start r ≡ Err x → cells_after r lent ≡ lent
      go (Err y) e = refl
      go (Ok rs) e = let z : ◌≡◌ {A = ℕ} 0 1 = cc in absurd (omega arith)

-- WRITING, of what `write` takes and returns
module _ (line : List ℕ) (start : ℕ) (cells : List ℕ) (x : Refusal) where
  write-refused : write_line line start cells ≡ Err x → refuses.WriteRefuses line start cells x
  unfolding write_line line_checks
  write-refused e = first (judge-refused 0 (line_checks line start) _ x e)
    where
      third : length line ≤ 4096 → start ≤ length line → (rs : List Record) → read_list cells ≡ Ok rs
          → Fails 0 ((leb (start + length (stretch rs)) (length line), 72) ∷ []) x ⊎ (Passed ((leb (start + length (stretch rs)) (length line), 72) ∷ []) × (Ok (stretch rs) ≡ Err x))
          → refuses.WriteRefuses line start cells x
      third l h rs q (inl (inl f)) = refuses.no_room l h rs q (leb-false (start + length (stretch rs)) (length line) f.0) f.1
      third l h rs q (inl (inr f)) = absurd f.1
      third l h rs q (inr f) = absurd (not-refused f.1)

      second : length line ≤ 4096 → start ≤ length line
          → (read_list cells ≡ Err x)
          ⊎ ((rs : List Record) × (read_list cells ≡ Ok rs) × (judge 0 ((leb (start + length (stretch rs)) (length line), 72) ∷ []) (Ok (stretch rs)) ≡ Err x))
          → refuses.WriteRefuses line start cells x
      second l h (inl e) = refuses.list l h e
      second l h (inr p) = third l h p.0 p.1 (judge-refused 0 ((leb (start + length (stretch p.0)) (length line), 72) ∷ []) (Ok (stretch p.0)) x p.2)

      first : Fails 0 (line_checks line start) x
          ⊎ (Passed (line_checks line start)
          × ((read_list cells then λ rs. judge 0 ((leb (start + length (stretch rs)) (length line), 72) ∷ []) (Ok (stretch rs))) ≡ Err x)) → refuses.WriteRefuses line start cells x
      first (inl (inl f)) = refuses.too_long (leb-false (length line) max_line f.0) f.1
      first (inl (inr (l, inl f))) = refuses.past_end (leb-true (length line) max_line l) (leb-false start (length line) f.0) f.1
      first (inl (inr (l, inr f))) = absurd f.1
      first (inr p) = second (leb-true (length line) max_line p.0.0) (leb-true start (length line) p.0.1.0) (then-refused (read_list cells) _ x p.1)

  refuses-write : refuses.WriteRefuses line start cells x → write_line line start cells ≡ Err x
  unfolding write_line line_checks
  refuses-write (refuses.too_long l e) = rw (lt-leb (length line) max_line l) (ap Err (sym e))
  refuses-write (refuses.past_end l h e) = rw (le-leb (length line) max_line l, lt-leb start (length line) h) (ap Err (sym e))
  refuses-write (refuses.list l h e) = rw (le-leb (length line) max_line l, le-leb start (length line) h, e)
  refuses-write (refuses.no_room l h rs q m e) = rw (le-leb (length line) max_line l, le-leb start (length line) h, q, lt-leb (start + length (stretch rs)) (length line) m) (ap Err (sym e))

  wrote-refused : (r : Result (List ℕ)) → written_of start r ≡ Err x → (r ≡ Err x) × (line_after r line start ≡ line)
  wrote-refused (Err y) e = let s : y ≡ x = cc in (ap Err s, refl)
  wrote-refused (Ok o) e = let z : ◌≡◌ {A = ℕ} 0 1 = cc in absurd (omega arith)

  pub write-refused-iff : (write_returns line start cells ≡ Err x) ↔ refuses.WriteRefuses line start cells x
  write-refused-iff = (λ e. write-refused (wrote-refused (write_line line start cells) e).0, λ r. ap (written_of start) (refuses-write r))

  pub write-refused-stays : write_returns line start cells ≡ Err x → write_leaves line start cells ≡ line
  write-refused-stays e = (wrote-refused (write_line line start cells) e).1
