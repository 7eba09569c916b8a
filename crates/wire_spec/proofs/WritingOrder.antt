-- The order of writing: a list is refused with a number and an index exactly where 01's table and its order say so.
-- Each check agrees with its row of the table; then record by record, over the whole list for 20 and then for 16.
use mathlib.Core.Path.{◌≡◌, refl, ap, sym, ◌∙◌, subst}
use mathlib.Core.Bool.{Bool, true, false, not, ◌&&◌, true≢false}
use mathlib.Core.Logic.{◌↔◌, ◌⊎◌, inl, inr}
use mathlib.Core.List.{List, [], ◌∷◌}
use Prim.Native.Nat.{ℕ, zero, suc, ◌+◌, ◌^◌, ◌<◌, ◌≤◌}
use native.Mathlib.Nat.{le_refl}
use native.Mathlib.Omega.{arith}
use lib.Dec.{eqb, leb, ltb}
use lib.ListN.{length, take, drop, get_or, length-drop}
use borrow.Author.Tests.{eqb-true, eq-eqb, ltb-false, le-ltb, not-false}
use Rattle.wire_spec.specs.declared.layout.Layout.TheVariants as layout
use Rattle.wire_spec.specs.Words.{word_bits, all_clear}
use Rattle.wire_spec.specs.Layout.{Layout, rfc8331}
use Rattle.wire_spec.specs.Result.{Result, Err, Ok, refuse, judge, ◌then◌}
use Rattle.wire_spec.specs.Anc.{Record, InRange, Each}
use Rattle.wire_spec.specs.Cells.{head_cells, Lists, cell_count, cell_record, all_below, head_in_range, cell_checks, rest, records_from, records_in, clear_from, read_list}
use Rattle.wire_spec.specs.Packet.{Content}
use Rattle.wire_spec.specs.Writing.{content_octets, with_records, head_ok, head_checks, no_stream, layout_ok, limit_checks, packet_records, write_content}
use Rattle.wire_spec.specs.Order.{None, First, Some, after, InTurn, head_faults, cell_faults, clear_faults, Unprotected, NotHeld, limit_faults, WriteRefused}
use Rattle.wire_spec.proofs.ResultLaws.{accepted-inj, not-refused}
use Rattle.wire_spec.proofs.CellLaws.{records-iff, Clear, clear-iff}
use Rattle.wire_spec.proofs.OrderLaws.{Agree, judge-first, then-first, and-false}
use Rattle.wire_spec.proofs.ReadingOrder.{leb-fails, eqb-fails, clear-fails, later-turn}

-- two tests together fail where the one or the other does
both-fail : {P Q : Type 0} (a b : Bool) → (a ≡ false) ↔ P → (b ≡ false) ↔ Q → (a && b ≡ false) ↔ (P ⊎ Q)
both-fail {P} {Q} a b p q = (λ e. to ((and-false a b).0 e), λ x. (and-false a b).1 (from x))
  where
    to : (a ≡ false) ⊎ (b ≡ false) → P ⊎ Q
    to (inl e) = inl (p.0 e)
    to (inr e) = inr (q.0 e)

    from : P ⊎ Q → (a ≡ false) ⊎ (b ≡ false)
    from (inl x) = inl (p.1 x)
    from (inr x) = inr (q.1 x)

last-fails : {P : Type 0} (a : Bool) → (a ≡ false) ↔ P → (a ≡ false) ↔ (P ⊎ ⊥)
last-fails {P} a p = (λ e. inl (p.0 e), back)
  where
    back : P ⊎ ⊥ → a ≡ false
    back (inl x) = p.1 x
    back (inr x) = absurd x

over : (x b m : ℕ) → b ≡ suc m → (ltb x b ≡ false) ↔ (m < x)
over x b m e = (λ h. let l = ltb-false x b h in omega (arith, l, e), λ l. le-ltb x b (omega (arith, l, e)))

below_fails : (ws : List ℕ) → (all_below (2 ^ word_bits) ws ≡ false) ↔ Some (λ (w : ℕ). 1023 < w) ws
below_fails [] = (λ e. absurd (true≢false e), λ x. absurd x)
below_fails (w ∷ ws) = both-fail (ltb w (2 ^ word_bits)) (all_below (2 ^ word_bits) ws) (over w (2 ^ word_bits) 1023 refl) (below_fails ws)

-- 20, of the record at the front
pub cell_agree : (l : List ℕ) → Agree (cell_faults l) (cell_checks l)
unfolding cell_checks head_in_range
cell_agree l = (
  refl,
  leb-fails 9 (length l),
  λ h1. (
    refl,
    both-fail _ _ (over (get_or l 0 0) (2 ^ 1) 1 refl)
        (both-fail _ _ (over (get_or l 1 0) (2 ^ 11) 2047 refl)
        (both-fail _ _ (over (get_or l 2 0) (2 ^ 12) 4095 refl)
        (both-fail _ _ (over (get_or l 3 0) 2 1 refl)
        (both-fail _ _ (over (get_or l 4 0) 128 127 refl)
        (both-fail _ _ (over (get_or l 5 0) 256 255 refl)
        (both-fail _ _ (over (get_or l 6 0) 256 255 refl)
        (both-fail _ _ (over (get_or l 7 0) 256 255 refl) (last-fails _ (leb-fails (get_or l 8 0) 4095))))))))),
    λ h2. (refl, leb-fails (9 + cell_count l) (length l), λ h3. (refl, below_fails (take (cell_count l) (drop 9 l)), λ h4. tt)),
  ),
)

-- behind the last record nothing is left
no-rest : (j : ℕ) → after rest j [] ≡ []
no-rest zero = refl
no-rest (suc j) = no-rest j

abbrev Cut : (i : ℕ) (l : List ℕ) (n k : ℕ) → Type 0
Cut i l n k = (j : ℕ) × (k ≡ i + j) × (0 < length (after rest j l)) × InTurn cell_faults rest l n j

-- 20 is given for the first record that is malformed, with its index
pub records-first : (bound i : ℕ) (l : List ℕ) → length l ≤ bound → (n k : ℕ) → (records_from bound i l ≡ refuse n k) ↔ Cut i l n k
unfolding records_from
records-first zero i [] h n k = (λ e. absurd (not-refused e), λ x. absurd (omega (arith, x.2, ap length (no-rest x.0))))
records-first zero i (x ∷ l) h n k = absurd (omega arith)
records-first (suc bound) i [] h n k = (λ e. absurd (not-refused e), λ x. absurd (omega (arith, x.2, ap length (no-rest x.0))))
records-first (suc bound) i (x ∷ l) h n k =
    let d : length (rest (x ∷ l)) ≤ bound = rw (length-drop (head_cells + cell_count (x ∷ l)) (x ∷ l)) (omega arith) in
    let ih = records-first bound (i + 1) (rest (x ∷ l)) d n k in
    let f = judge-first i (cell_faults (x ∷ l)) (cell_checks (x ∷ l)) (cell_agree (x ∷ l)) (records_from bound (i + 1) (rest (x ∷ l)) then λ rs. Ok (cell_record (x ∷ l) ∷ rs)) n k in
    let t = then-first (records_from bound (i + 1) (rest (x ∷ l))) (λ rs. cell_record (x ∷ l) ∷ rs) n k in
    (λ e. to (λ y. ih.0 (t.0 y)) (f.0 e), λ y. f.1 (from (λ z. t.1 (ih.1 z)) y.0 y.1 y.2 y.3))
  where
    to : {T : Type 0} → (T → Cut (i + 1) (rest (x ∷ l)) n k) → (First n (cell_faults (x ∷ l)) × (k ≡ i)) ⊎ (None (cell_faults (x ∷ l)) × T) → Cut i (x ∷ l) n k
    to g (inl y) = (0, omega (arith, y.1), omega arith, record { before = λ j h. absurd (omega (arith, h)); here = y.0 })
    to g (inr y) = let c = g y.1 in (suc c.0, omega (arith, c.1), c.2, (later-turn cell_faults rest (x ∷ l) n c.0).1 (y.0, c.3))

    from : {T : Type 0} → (Cut (i + 1) (rest (x ∷ l)) n k → T) → (j : ℕ) → k ≡ i + j → 0 < length (after rest j (x ∷ l)) → InTurn cell_faults rest (x ∷ l) n j
        → (First n (cell_faults (x ∷ l)) × (k ≡ i)) ⊎ (None (cell_faults (x ∷ l)) × T)
    from g zero e p y = inl (y.here, omega arith)
    from g (suc j) e p y = let z = (later-turn cell_faults rest (x ∷ l) n j).0 y in inr (z.0, g (j, omega arith, p, z.1))

-- 16 is given for the first record with a protected word, with its index
no-clear : (n j : ℕ) → InTurn clear_faults (drop 1) [] n j → ⊥
no-clear n zero x = x.here
no-clear n (suc j) x = no-clear n j ((later-turn clear_faults (drop 1) [] n j).0 x).1

abbrev Bad : (i : ℕ) (rs : List Record) (n k : ℕ) → Type 0
Bad i rs n k = (j : ℕ) × (k ≡ i + j) × InTurn clear_faults (drop 1) rs n j

pub clear_first : (i : ℕ) (rs : List Record) (n k : ℕ) → (clear_from i rs ≡ refuse n k) ↔ Bad i rs n k
unfolding clear_from
clear_first i [] n k = (λ e. absurd (not-refused e), λ x. absurd (no-clear n x.0 x.2))
clear_first i (r ∷ rs) n k =
    let ih = clear_first (i + 1) rs n k in
    let f = judge-first i (clear_faults (r ∷ rs)) ((all_clear r.words, 16) ∷ []) (refl, clear-fails r.words, λ h. tt) (clear_from (i + 1) rs then λ qs. Ok (r ∷ qs)) n k in
    let t = then-first (clear_from (i + 1) rs) (λ qs. r ∷ qs) n k in
    (λ e. to (λ y. ih.0 (t.0 y)) (f.0 e), λ y. f.1 (from (λ z. t.1 (ih.1 z)) y.0 y.1 y.2))
  where
    to : {T : Type 0} → (T → Bad (i + 1) rs n k) → (First n (clear_faults (r ∷ rs)) × (k ≡ i)) ⊎ (None (clear_faults (r ∷ rs)) × T) → Bad i (r ∷ rs) n k
    to g (inl y) = (0, omega (arith, y.1), record { before = λ j h. absurd (omega (arith, h)); here = y.0 })
    to g (inr y) = let c = g y.1 in (suc c.0, omega (arith, c.1), (later-turn clear_faults (drop 1) (r ∷ rs) n c.0).1 (y.0, c.2))

    from : {T : Type 0} → (Bad (i + 1) rs n k → T) → (j : ℕ) → k ≡ i + j → InTurn clear_faults (drop 1) (r ∷ rs) n j
        → (First n (clear_faults (r ∷ rs)) × (k ≡ i)) ⊎ (None (clear_faults (r ∷ rs)) × T)
    from g zero e y = inl (y.here, omega arith)
    from g (suc j) e y = let z = (later-turn clear_faults (drop 1) (r ∷ rs) n j).0 y in inr (z.0, g (j, omega arith, z.1))

-- the test of protected words is that there are none
unprotected : (rs : List Record) → Each Clear rs ↔ Each Unprotected rs
unprotected [] = (λ h. tt, λ h. tt)
unprotected (r ∷ rs) =
    let ih = unprotected rs in (
      λ h. (λ x. true≢false (sym h.0 ∙ (clear-fails r.words).1 x), ih.0 h.1),
      λ h. (go (all_clear r.words) refl h.0, ih.1 h.1),
    )
  where
    go : (t : Bool) → all_clear r.words ≡ t → Unprotected r → t ≡ true
    go true e h = refl
    go false e h = absurd (h ((clear-fails r.words).0 e))

no-first : (n j : ℕ) (rs : List Record) → Each Unprotected rs → InTurn clear_faults (drop 1) rs n j → ⊥
no-first n j [] h x = no-clear n j x
no-first n zero (r ∷ rs) h x = one x.here
  where
    one : First n (clear_faults (r ∷ rs)) → ⊥
    one (inl y) = h.0 y.0
    one (inr y) = y.1
no-first n (suc j) (r ∷ rs) h x = no-first n j rs h.1 ((later-turn clear_faults (drop 1) (r ∷ rs) n j).0 x).1

-- 24
type-fails : (type f : ℕ) → (head_ok type f ≡ false) ↔ ((127 < type) ⊎ ((f ≡ 1) ⊎ (3 < f)))
type-fails type f =
    both-fail (leb type 127) (leb f 3 && not (eqb f 1)) (leb-fails type 127) (
      λ e. swap (b.0 e),
      λ x. b.1 (back x),
    )
  where
    one : (not (eqb f 1) ≡ false) ↔ (f ≡ 1)
    one = (λ e. eqb-true f 1 (not-false _ e), λ e. rw (eq-eqb f 1 e))

    b : (leb f 3 && not (eqb f 1) ≡ false) ↔ ((3 < f) ⊎ (f ≡ 1))
    b = both-fail (leb f 3) (not (eqb f 1)) (leb-fails f 3) one

    swap : (3 < f) ⊎ (f ≡ 1) → (f ≡ 1) ⊎ (3 < f)
    swap (inl x) = inr x
    swap (inr x) = inl x

    back : (f ≡ 1) ⊎ (3 < f) → (3 < f) ⊎ (f ≡ 1)
    back (inl x) = inr x
    back (inr x) = inl x

-- 25
stream-fails : (rs : List Record) → (no_stream rs ≡ false) ↔ Some (λ (r : Record). (r.s ≡ 0 → ⊥) ⊎ (r.stream ≡ 0 → ⊥)) rs
stream-fails [] = (λ e. absurd (true≢false e), λ x. absurd x)
stream-fails (r ∷ rs) =
    both-fail (eqb r.s 0 && eqb r.stream 0) (no_stream rs) (both-fail (eqb r.s 0) (eqb r.stream 0) (eqb-fails r.s 0) (eqb-fails r.stream 0)) (stream-fails rs)

layout-fails : (L : Layout) (k : Content) → (layout_ok L k.f k.records ≡ false) ↔ NotHeld L k
layout-fails layout.Rfc8331 k = (λ e. absurd (true≢false e), λ x. absurd x)
layout-fails layout.Draft2015 k = both-fail (eqb k.f 0) (no_stream k.records) (eqb-fails k.f 0) (stream-fails k.records)

-- 21, 25, 23
pub limit-agree : (L : Layout) (k : Content) (cells room : ℕ) → Agree (limit_faults L k cells room) (limit_checks L k cells room)
limit-agree L k cells room = (
  refl,
  both-fail (leb (length k.records) 255) (leb cells 36864) (leb-fails (length k.records) 255) (leb-fails cells 36864),
  λ h1. (refl, layout-fails L k, λ h2. (refl, leb-fails (length (content_octets L k)) room, λ h3. tt)),
)

-- THE ORDER OF WRITING: a list is refused with `n` and `i` exactly where 01's table, taken in its order, gives them
module _ (L : Layout) (k : Content) (cells : List ℕ) (room n i : ℕ) where
  abbrev Limit : List Record → Type 0
  Limit rs = Each Unprotected rs × First n (limit_faults L (with_records k rs) (length cells) room) × (i ≡ 0)

  abbrev Tail : Type 0
  Tail =
      ((0 < length (after rest i cells)) × InTurn cell_faults rest cells n i)
      ⊎ ((rs : List Record) × Each (InRange rfc8331) rs × Lists rs cells × (InTurn clear_faults (drop 1) rs n i ⊎ Limit rs))

  abbrev behind-list : Result (List Record) → Result (List Record)
  behind-list r = r then λ rs. judge 0 (limit_checks L (with_records k rs) (length cells) room) (Ok rs)

  limits : (rs : List Record) → (behind-list (clear_from 0 rs) ≡ refuse n i) ↔ (InTurn clear_faults (drop 1) rs n i ⊎ Limit rs)
  limits rs = go (clear_from 0 rs) refl
    where
      shift : Bad 0 rs n i → InTurn clear_faults (drop 1) rs n i
      shift x = let z : x.0 ≡ i = omega (arith, x.1) in subst (λ (j : ℕ). InTurn clear_faults (drop 1) rs n j) z x.2

      go : (r : Result (List Record)) → clear_from 0 rs ≡ r → (behind-list r ≡ refuse n i) ↔ (InTurn clear_faults (drop 1) rs n i ⊎ Limit rs)
      go (Err y) e = (λ h. inl (shift ((clear_first 0 rs n i).0 (e ∙ h))), back)
        where
          back : InTurn clear_faults (drop 1) rs n i ⊎ Limit rs → ◌≡◌ {A = Result (List Record)} (Err y) (refuse n i)
          back (inl x) = sym e ∙ (clear_first 0 rs n i).1 (i, omega arith, x)
          back (inr x) = absurd (not-refused (sym ((clear-iff 0 rs rs).1 (refl, (unprotected rs).1 x.0)) ∙ e))
      go (Ok qs) e =
          let c = (clear-iff 0 rs qs).0 e in
          let same : rs ≡ qs = c.0 in
          let clear : Each Unprotected rs = (unprotected rs).0 (subst (Each Clear) (sym same) c.1) in
          let f = judge-first 0 (limit_faults L (with_records k rs) (length cells) room) (limit_checks L (with_records k rs) (length cells) room) (limit-agree L (with_records k rs) (length cells) room) (Ok rs) n i in
          let one = ap (λ (x : List Record). judge 0 (limit_checks L (with_records k x) (length cells) room) (Ok x)) same in
          (λ h. inr (to clear (f.0 (one ∙ h))), λ x. sym one ∙ f.1 (from clear x))
        where
          to : Each Unprotected rs → (First n (limit_faults L (with_records k rs) (length cells) room) × (i ≡ 0)) ⊎ (None (limit_faults L (with_records k rs) (length cells) room) × (Ok rs ≡ refuse n i)) → Limit rs
          to clear (inl x) = (clear, x.0, x.1)
          to clear (inr x) = absurd (not-refused x.1)

          from : Each Unprotected rs → InTurn clear_faults (drop 1) rs n i ⊎ Limit rs
              → (First n (limit_faults L (with_records k rs) (length cells) room) × (i ≡ 0)) ⊎ (None (limit_faults L (with_records k rs) (length cells) room) × (Ok rs ≡ refuse n i))
          from clear (inl x) = absurd (no-first n i rs clear x)
          from clear (inr x) = inl (x.1, x.2)

  listed : (behind-list (read_list cells) ≡ refuse n i) ↔ Tail
  listed = go (records_in cells) refl
    where
      shift : Cut 0 cells n i → (0 < length (after rest i cells)) × InTurn cell_faults rest cells n i
      shift x = let z : x.0 ≡ i = omega (arith, x.1) in subst (λ (j : ℕ). (0 < length (after rest j cells)) × InTurn cell_faults rest cells n j) z (x.2, x.3)

      go : (r : Result (List Record)) → records_in cells ≡ r → (behind-list (r then λ rs. clear_from 0 rs) ≡ refuse n i) ↔ Tail
      go (Err y) e = (λ h. inl (shift ((records-first (length cells) 0 cells (le_refl (length cells)) n i).0 (e ∙ h))), back)
        where
          back : Tail → ◌≡◌ {A = Result (List Record)} (Err y) (refuse n i)
          back (inl x) = sym e ∙ (records-first (length cells) 0 cells (le_refl (length cells)) n i).1 (i, omega arith, x.0, x.1)
          back (inr x) = absurd (not-refused (sym ((records-iff (length cells) 0 cells (le_refl (length cells)) x.0).1 (x.1, x.2)) ∙ e))
      go (Ok rs) e =
          let l = limits rs in
          (λ h. let p = (records-iff (length cells) 0 cells (le_refl (length cells)) rs).0 e in inr (rs, p.0, p.1, l.0 h), λ x. l.1 (from x))
        where
          from : Tail → InTurn clear_faults (drop 1) rs n i ⊎ Limit rs
          from (inl x) = absurd (not-refused (sym e ∙ (records-first (length cells) 0 cells (le_refl (length cells)) n i).1 (i, omega arith, x.0, x.1)))
          from (inr x) =
              let same = accepted-inj (sym ((records-iff (length cells) 0 cells (le_refl (length cells)) x.0).1 (x.1, x.2)) ∙ e) in
              subst (λ (ys : List Record). InTurn clear_faults (drop 1) ys n i ⊎ Limit ys) same x.3

  pub write-refused-iff : (write_content L k cells room ≡ refuse n i) ↔ WriteRefused L k cells room n i
  unfolding write_content
  write-refused-iff =
      let w = then-first (packet_records L k cells room) (λ rs. content_octets L (with_records k rs)) n i in
      let f = judge-first 0 (head_faults k) (head_checks k) (refl, type-fails k.type k.f, λ h. tt) (behind-list (read_list cells)) n i in
      (λ e. to (f.0 (w.0 e)), λ x. w.1 (f.1 (from x)))
    where
      to : (First n (head_faults k) × (i ≡ 0)) ⊎ (None (head_faults k) × (behind-list (read_list cells) ≡ refuse n i)) → WriteRefused L k cells room n i
      to (inl x) = inl x
      to (inr x) = inr (x.0, listed.0 x.1)

      from : WriteRefused L k cells room n i → (First n (head_faults k) × (i ≡ 0)) ⊎ (None (head_faults k) × (behind-list (read_list cells) ≡ refuse n i))
      from (inl x) = inl x
      from (inr x) = inr (x.0, listed.1 x.1)
