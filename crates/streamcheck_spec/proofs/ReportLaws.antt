-- The report lists exactly the rules that are broken, in increasing order, and so it is the one list that does.
-- By induction over the packets that are left, with what the checker carries.
use mathlib.Core.Path.{◌≡◌, refl, sym, ◌∙◌, ap, ap₂, subst}
use mathlib.Core.Bool.{Bool, true, false, true≢false}
use mathlib.Core.List.Memᴰ
use mathlib.Core.List.{List, [], ◌∷◌, ◌++◌, Memᴰ}
use mathlib.Core.Logic.{◌⊎◌, inl, inr, ⊎_elim, ◌↔◌}
use Prim.Native.Nat.{ℕ, suc, ◌<◌, ◌≤◌}
use native.Mathlib.Omega.{arith}
use lib.ListN.{length, drop}
use Rattle.wire_spec.specs.declared.refusal.Refusal.{Refusal}
use Rattle.wire_spec.specs.Layout.{Layout}
use Rattle.wire_spec.specs.Result.{Result, Err, Ok}
use Rattle.wire_spec.specs.Anc.{Each}
use Rattle.wire_spec.specs.Packet.{Packet}
use Rattle.wire_spec.proofs.ListLaws.{each_append}
use Rattle.streamcheck_spec.specs.declared.checker.Checker.{Checker}
use Rattle.streamcheck_spec.specs.declared.finding.Finding.{Finding}
use Rattle.streamcheck_spec.specs.declared.finding.Finding.TheVariants as finding
use Rattle.streamcheck_spec.specs.Rules.{At, Sound, Refuses, Breaks}
use Rattle.streamcheck_spec.specs.Check.{opened, admitted, is_gap, is_change, is_reserved, descends, only_if, findings_of, carried, Entry, entries, at_end, report_from, report, Increasing}
use Rattle.streamcheck_spec.specs.Statements.{ReportLists, ReportIncreases, ReportFixed}
use Rattle.streamcheck_spec.proofs.RuleLaws.{less-or-equal-or-more, at-within, at_next, at_none, refused-one, refused-excludes}
use Rattle.streamcheck_spec.proofs.KnownLaws.{KnownBefore, Verdict, verdict, known-at-start, known-after}
use Rattle.streamcheck_spec.proofs.FindingLaws.{gap-iff, change-iff, reserved-iff}
use Rattle.streamcheck_spec.proofs.PlaceLaws.{PlaceBefore, place-at-start}
use Rattle.streamcheck_spec.proofs.RasterLaws.{raster-iff, place_after_lem}
use Rattle.streamcheck_spec.proofs.OrderLaws.{RanksFrom, each_map, increasing-append, ranks-only, entries-increase, entries-index, members-fix}

-- a finding that is given where a test holds, or another
only-in : (t : Bool) (x y : Finding) (l : List Finding) → Memᴰ y (only_if t x ++ l) → ((t ≡ true) × (y ≡ x)) ⊎ Memᴰ y l
only-in true x y l m = ⊎_elim (λ e. inl (refl, e)) (λ n. inr n) (Memᴰ.cases_cons m)
only-in false x y l m = inr m

only-alone : (t : Bool) (x y : Finding) → Memᴰ y (only_if t x) → (t ≡ true) × (y ≡ x)
only-alone true x y m = (refl, Memᴰ.eq_of_singleton m)
only-alone false x y m = absurd (Memᴰ.not-nil m)

in-only : (t : Bool) (x : Finding) → t ≡ true → Memᴰ x (only_if t x)
in-only true x e = Memᴰ.head refl
in-only false x e = absurd (true≢false (sym e))

-- the four findings of a packet that is not refused
abbrev Chosen : (a b c d : Bool) → Finding → Type 0
Chosen a b c d (finding.Refused x) = ⊥
Chosen a b c d finding.Cut = ⊥
Chosen a b c d finding.Number = a ≡ true
Chosen a b c d finding.Change = b ≡ true
Chosen a b c d finding.Reserved = c ≡ true
Chosen a b c d finding.Raster = d ≡ true

abbrev four : (a b c d : Bool) → List Finding
four a b c d = only_if a finding.Number ++ (only_if b finding.Change ++ (only_if c finding.Reserved ++ only_if d finding.Raster))

chosen_is : (a b c d : Bool) (x : Finding) → Memᴰ x (four a b c d) → Chosen a b c d x
chosen_is a b c d x m =
    ⊎_elim (λ e. subst (Chosen a b c d) (sym e.1) e.0)
    (λ n. ⊎_elim (λ e. subst (Chosen a b c d) (sym e.1) e.0)
    (λ o. ⊎_elim (λ e. subst (Chosen a b c d) (sym e.1) e.0)
    (λ p. let e = only-alone d finding.Raster x p in subst (Chosen a b c d) (sym e.1) e.0)
    (only-in c finding.Reserved x (only_if d finding.Raster) o))
    (only-in b finding.Change x (only_if c finding.Reserved ++ only_if d finding.Raster) n))
    (only-in a finding.Number x (only_if b finding.Change ++ (only_if c finding.Reserved ++ only_if d finding.Raster)) m)

is-chosen : (a b c d : Bool) (x : Finding) → Chosen a b c d x → Memᴰ x (four a b c d)
is-chosen a b c d (finding.Refused x) h = absurd h
is-chosen a b c d finding.Cut h = absurd h
is-chosen a b c d finding.Number h =
    Memᴰ.append_left (only_if b finding.Change ++ (only_if c finding.Reserved ++ only_if d finding.Raster)) (in-only a finding.Number h)
is-chosen a b c d finding.Change h =
    Memᴰ.append_right (only_if a finding.Number)
    (Memᴰ.append_left (only_if c finding.Reserved ++ only_if d finding.Raster) (in-only b finding.Change h))
is-chosen a b c d finding.Reserved h =
    Memᴰ.append_right (only_if a finding.Number)
    (Memᴰ.append_right (only_if b finding.Change) (Memᴰ.append_left (only_if d finding.Raster) (in-only c finding.Reserved h)))
is-chosen a b c d finding.Raster h =
    Memᴰ.append_right (only_if a finding.Number)
    (Memᴰ.append_right (only_if b finding.Change) (Memᴰ.append_right (only_if c finding.Reserved) (in-only d finding.Raster h)))

-- the lines of one packet
entry-is : (i j : ℕ) (x : Finding) (xs : List Finding) → Memᴰ (j, x) (entries i xs) → (j ≡ i) × Memᴰ x xs
unfolding entries
entry-is i j x [] m = absurd (Memᴰ.not-nil m)
entry-is i j x (y ∷ ys) m = go (Memᴰ.cases_cons m) (entry-is i j x ys)
  where
    go : (◌≡◌ {A = Entry} (j, x) (i, y)) ⊎ Memᴰ (j, x) (entries i ys) → (Memᴰ (j, x) (entries i ys) → (j ≡ i) × Memᴰ x ys)
        → (j ≡ i) × Memᴰ x (y ∷ ys)
    go (inl e) below = (ap (λ (z : Entry). z.0) e, Memᴰ.head (ap (λ (z : Entry). z.1) e))
    go (inr n) below = let p = below n in (p.0, Memᴰ.tail p.1)

is-entry : (i j : ℕ) (x : Finding) (xs : List Finding) → j ≡ i → Memᴰ x xs → Memᴰ (j, x) (entries i xs)
unfolding entries
is-entry i j x [] e m = absurd (Memᴰ.not-nil m)
is-entry i j x (y ∷ ys) e m = go (Memᴰ.cases_cons m) (is-entry i j x ys e)
  where
    go : (x ≡ y) ⊎ Memᴰ x ys → (Memᴰ x ys → Memᴰ (j, x) (entries i ys)) → Memᴰ (j, x) ((i, y) ∷ entries i ys)
    go (inl d) below = Memᴰ.head (ap₂ (λ (a : ℕ) (b : Finding). (a, b)) e d)
    go (inr n) below = Memᴰ.tail (below n)

module _ (L : Layout) (broken : Bool) (ps : List (List ℕ)) where
  sound-within : (i : ℕ) (k : Packet) → Sound L ps i k → i < length ps
  sound-within i k s = let a = s.compared.accepts in at-within ps i a.octets a.at

  refused-within : (i : ℕ) (x : Refusal) → Refuses L ps i x → i < length ps
  refused-within i x (inl a) = at-within ps i a.octets a.at
  refused-within i x (inr (inl a)) = let b = a.0.compared.accepts in at-within ps i b.octets b.at
  refused-within i x (inr (inr a)) = let b = a.0.compared.accepts in at-within ps i b.octets b.at

  -- a rule is broken by a packet, or by the frame that is cut
  within : (i : ℕ) (x : Finding) → Breaks L ps broken i x → (i < length ps) ⊎ ((broken ≡ true) × (i ≡ length ps) × (x ≡ finding.Cut))
  within i (finding.Refused x) h = inl (refused-within i x h)
  within i finding.Cut h = inr (h.0, h.1, refl)
  within i finding.Number h = inl (sound-within i h.here h.pair.sound)
  within i finding.Change h = inl (sound-within i h.here h.pair.sound)
  within i finding.Reserved h = inl (sound-within i h.here h.sound)
  within i finding.Raster h = inl (sound-within i h.1.here.packet h.1.here.sound)

  -- one packet: its findings are the rules that it breaks
  module _ (st : Checker) (i : ℕ) (b : i < length ps) (n : KnownBefore L ps st.last i)
      (v : PlaceBefore L ps st.place i 0) where
    found-broken : (answer : Result Packet) → Verdict L ps i answer → (x : Finding) → Memᴰ x (findings_of st answer) → Breaks L ps broken i x
    found-broken (Err y) t x m =
        subst (Breaks L ps broken i) (sym (Memᴰ.eq_of_singleton m)) t
    found-broken (Ok k) t x m = go x (chosen_is (is_gap st.last k) (is_change st.last k) (is_reserved k) (descends st.place k.records) x m)
      where
        go : (x : Finding) → Chosen (is_gap st.last k) (is_change st.last k) (is_reserved k) (descends st.place k.records) x → Breaks L ps broken i x
        go (finding.Refused y) h = absurd h
        go finding.Cut h = absurd h
        go finding.Number h = (gap-iff L ps i k t st.last n).0 h
        go finding.Change h = (change-iff L ps i k t st.last n).0 h
        go finding.Reserved h = (reserved-iff L ps i k t).0 h
        go finding.Raster h = (raster-iff L ps i k t st.place v).0 h

    broken-found : (answer : Result Packet) → Verdict L ps i answer → (x : Finding) → Breaks L ps broken i x → Memᴰ x (findings_of st answer)
    broken-found (Err y) t (finding.Refused x) h = Memᴰ.head (ap finding.Refused (refused-one L ps i x y h t))
    broken-found (Err y) t finding.Cut h = let e = h.1 in absurd (omega arith)
    broken-found (Err y) t finding.Number h = absurd (refused-excludes L ps i y h.here t h.pair.sound)
    broken-found (Err y) t finding.Change h = absurd (refused-excludes L ps i y h.here t h.pair.sound)
    broken-found (Err y) t finding.Reserved h = absurd (refused-excludes L ps i y h.here t h.sound)
    broken-found (Err y) t finding.Raster h = absurd (refused-excludes L ps i y h.1.here.packet t h.1.here.sound)
    broken-found (Ok k) t x h = is-chosen (is_gap st.last k) (is_change st.last k) (is_reserved k) (descends st.place k.records) x (go x h)
      where
        go : (x : Finding) → Breaks L ps broken i x → Chosen (is_gap st.last k) (is_change st.last k) (is_reserved k) (descends st.place k.records) x
        go (finding.Refused y) h = absurd (refused-excludes L ps i y k h t)
        go finding.Cut h = let e = h.1 in absurd (omega arith)
        go finding.Number h = (gap-iff L ps i k t st.last n).1 h
        go finding.Change h = (change-iff L ps i k t st.last n).1 h
        go finding.Reserved h = (reserved-iff L ps i k t).1 h
        go finding.Raster h = (raster-iff L ps i k t st.place v).1 h

  -- the end: a frame that is cut
  end-iff : (t : Bool) → broken ≡ t → (i : ℕ) → i ≡ length ps → (j : ℕ) (x : Finding)
      → Memᴰ (j, x) (at_end t i) ↔ ((i ≤ j) × Breaks L ps broken j x)
  end-iff true e i d j x = (
    λ m.
        let p = Memᴰ.eq_of_singleton m in
        let a : j ≡ i = ap (λ (z : Entry). z.0) p in
        (omega arith, subst (Breaks L ps broken j) (sym (ap (λ (z : Entry). z.1) p)) (e, a ∙ d)),
    λ h. ⊎_elim (λ a. let c = h.0 in absurd (omega arith))
        (λ a. Memᴰ.head (ap₂ (λ (u : ℕ) (w : Finding). (u, w)) (a.1 ∙ sym d) a.2)) (within j x h.1),
  )
  end-iff false e i d j x = (
    λ m. absurd (Memᴰ.not-nil m),
    λ h. ⊎_elim (λ a. let c = h.0 in absurd (omega arith)) (λ a. absurd (true≢false (sym a.0 ∙ e))) (within j x h.1),
  )

  -- the packets that are left
  from-iff : (rest : List (List ℕ)) (i : ℕ) (st : Checker) → i ≤ length ps → drop i ps ≡ rest → KnownBefore L ps st.last i
      → PlaceBefore L ps st.place i 0 → (j : ℕ) (x : Finding)
      → Memᴰ (j, x) (report_from L broken i st rest) ↔ ((i ≤ j) × Breaks L ps broken j x)
  unfolding report_from
  from-iff [] i st b e n v j x = let a = at_none ps i e in end-iff broken refl i (omega arith) j x
  from-iff (p ∷ rest) i st b e n v j x =
      let answer = admitted L st p in
      let a : At ps i p = (rest, e) in
      let w = at-within ps i p a in
      let t = verdict L ps st i p a n in
      let below =
      from-iff rest (suc i) (carried st answer) w (at_next ps i p rest e) (known-after L ps st i answer n t) (place_after_lem L ps st i answer v t) j x in (
        λ m. ⊎_elim
            (λ o.
            let c = entry-is i j x (findings_of st answer) o in
            let y = c.0 in
            (omega arith, subst (λ (z : ℕ). Breaks L ps broken z x) (sym c.0) (found-broken st i w n v answer t x c.1)))
            (λ o. let c = below.0 o in let y = c.0 in (omega arith, c.1))
            (Memᴰ.append_cases (entries i (findings_of st answer)) m),
        λ h. ⊎_elim
            (λ c. Memᴰ.append_right (entries i (findings_of st answer)) (below.1 (c, h.1)))
            (⊎_elim
            (λ c. Memᴰ.append_left (report_from L broken (suc i) (carried st answer) rest)
            (is-entry i j x (findings_of st answer) (sym c)
            (broken-found st i w n v answer t x (subst (λ (z : ℕ). Breaks L ps broken z x) (sym c) h.1))))
            (λ c. let y = h.0 in absurd (omega arith)))
            (less-or-equal-or-more i j),
      )

-- "A line stands there exactly when its packet breaks that rule, each of the five defined without the checker."
pub report-lists : ReportLists
unfolding report
report-lists L broken ps i x =
    let h = from-iff L broken ps ps 0 opened (omega arith) refl (known-at-start L ps) (place-at-start L ps) i x in
    (λ m. (h.0 m).1, λ b. h.1 (omega arith, b))

-- the lines of the packets from `i` on have an index from `i` on
from-index : (L : Layout) (broken : Bool) (rest : List (List ℕ)) (i : ℕ) (st : Checker) → Each (λ (x : Entry). i ≤ x.0) (report_from L broken i st rest)
unfolding report_from
from-index L true [] i st = (omega arith, tt)
from-index L false [] i st = tt
from-index L broken (p ∷ rest) i st =
    let answer = admitted L st p in
    each_append (λ (x : Entry). i ≤ x.0) (entries i (findings_of st answer)) (report_from L broken (suc i) (carried st answer) rest)
    (each_map (λ (x : Entry). x.0 ≡ i) (λ (x : Entry). i ≤ x.0) (entries i (findings_of st answer)) (λ x e. omega arith)
    (entries-index i (findings_of st answer)))
    (each_map (λ (x : Entry). suc i ≤ x.0) (λ (x : Entry). i ≤ x.0) (report_from L broken (suc i) (carried st answer) rest) (λ x e. omega arith)
    (from-index L broken rest (suc i) (carried st answer)))

packet-increases : (i : ℕ) (st : Checker) (answer : Result Packet) → Increasing (entries i (findings_of st answer))
packet-increases i st (Err x) = entries-increase i 0 (finding.Refused x ∷ []) (omega arith, tt)
packet-increases i st (Ok k) =
    entries-increase i 0 (findings_of st (Ok k))
    (ranks-only (is_gap st.last k) finding.Number _ 0 (omega arith)
    (ranks-only (is_change st.last k) finding.Change _ 2 (omega arith)
    (ranks-only (is_reserved k) finding.Reserved _ 3 (omega arith)
    (last (descends st.place k.records)))))
  where
    last : (t : Bool) → RanksFrom 4 (only_if t finding.Raster)
    last true = (omega arith, tt)
    last false = tt

from-increases : (L : Layout) (broken : Bool) (rest : List (List ℕ)) (i : ℕ) (st : Checker) → Increasing (report_from L broken i st rest)
unfolding report_from
from-increases L true [] i st = (tt, tt)
from-increases L false [] i st = tt
from-increases L broken (p ∷ rest) i st =
    let answer = admitted L st p in
    increasing-append (suc i) (entries i (findings_of st answer)) (report_from L broken (suc i) (carried st answer) rest)
    (packet-increases i st answer) (from-increases L broken rest (suc i) (carried st answer))
    (each_map (λ (x : Entry). x.0 ≡ i) (λ (x : Entry). x.0 < suc i) (entries i (findings_of st answer)) (λ x e. omega arith)
    (entries-index i (findings_of st answer)))
    (from-index L broken rest (suc i) (carried st answer))

-- "It lists by packet", "one of a kind", "in that order"
pub report-increases : ReportIncreases
unfolding report
report-increases L broken ps = from-increases L broken ps 0 opened

-- the two fix the report
pub report-fixed : ReportFixed
report-fixed L broken ps l a b =
    members-fix l (report L broken ps) b (report-increases L broken ps)
    (λ z m. (report-lists L broken ps z.0 z.1).1 ((a z.0 z.1).0 m))
    (λ z m. (a z.0 z.1).1 ((report-lists L broken ps z.0 z.1).0 m))
