-- A FILE IS REFUSED exactly where the papers say so, with their numbers and in their order, and so is a field that is written.
-- By the checks in their order: the first that fails.
use mathlib.Core.Path.{◌≡◌, refl, ap, sym, ◌∙◌, subst}
use mathlib.Core.Bool.{Bool, true, false, not, cond, ◌&&◌, ◌||◌, true≢false}
use mathlib.Core.Logic.{◌↔◌, ◌⊎◌, inl, inr}
use mathlib.Core.List.{List, [], ◌∷◌}
use Prim.Native.Nat.{ℕ, ◌+◌, ◌<◌, ◌≤◌}
use native.Mathlib.Omega.{arith}
use lib.Dec.{eqb, leb}
use lib.ListN.{length, take, drop, get_or, length-take}
use lib.Seq.{take-take}
use borrow.Author.Tests.{eq-eqb, ne_eqb, eqb-true, eqb-false, leb-true, leb-false, le-leb, lt-leb, not-true, not-false}
use Rattle.wire_spec.specs.declared.refusal.Refusal.{Refusal}
use Rattle.wire_spec.specs.Bits.{Fields, to_bits, num, octets, bits_at, field_bits, pack, Fit, Below}
use Rattle.wire_spec.specs.Layout.{rfc8331}
use Rattle.wire_spec.specs.Result.{Result, Err, Ok, refuse, Checks, judge, ◌then◌}
use Rattle.wire_spec.specs.Anc.{Record, run_size, read_run}
use Rattle.wire_spec.specs.Cells.{list_of, read_list}
use Rattle.wire_spec.specs.Writing.{max_field_records, max_field_cells}
use Rattle.wire_spec.proofs.BitLaws.{Reads, packed, unpacked, below-drop}
use Rattle.wire_spec.proofs.Window.{below_each}
use Rattle.wire_spec.proofs.FieldLaws.{within-octet}
use Rattle.wire_spec.proofs.ResultLaws.{Passed, and-true, and_both, judge-passes, refused-inj, not-refused, Fails, judge-refused, fails-judge, then-refused}
use Rattle.fieldfile_spec.specs.declared.format.Version.{Version}
use Rattle.fieldfile_spec.specs.declared.format.Version.TheVariants as version
use Rattle.fieldfile_spec.specs.File.{file_name, name_bits, name_size, file_head_size, file_f_bits, version_field, version_number, version_of, file_fields, field_header_size, FieldContent, file_head, field_size, file_f_ok, within_limits, file_f_field, count_field, field_read, field_header_checks, limit_checks, read_front, is_version, file_checks, offset_checks, field_at, read_field, read_into, write_head, room_checks, field_records, write_field, field_octets, written_version}
use Rattle.fieldfile_spec.specs.Refuses.{anf, head_of, header_octets, only, IsF, Over, There, Headed, Refuses, not_anf, wrong_version, wrong_offset, at_end, header_cut, wrong_f, packet, over_limit, list_short}
use Rattle.fieldfile_spec.specs.Refuses as refuses
use Rattle.fieldfile_spec.proofs.FrontLaws.{header-least}
use Rattle.fieldfile_spec.proofs.FileLaws.{head-iff}

differ : true ≡ false → ⊥
differ e = true≢false e

-- the head and the header's size are the papers'
pub head-octets : (v : Version) → file_head v ≡ head_of v
unfolding to_bits num octets field_bits
head-octets version.One = refl
head-octets version.Two = refl

header-octets : (v : Version) → field_header_size v ≡ header_octets v
header-octets version.One = refl
header-octets version.Two = refl

-- F
f-iff : (f : ℕ) → (file_f_ok f ≡ true) ↔ IsF f
f-iff f = (λ e. go (eqb f 0) (eqb f 2) (eqb f 3) refl refl refl e, back)
  where
    go : (a b c : Bool) → eqb f 0 ≡ a → eqb f 2 ≡ b → eqb f 3 ≡ c → a || (b || c) ≡ true → IsF f
    go true b c p q r e = inl (eqb-true f 0 p)
    go false true c p q r e = inr (inl (eqb-true f 2 q))
    go false false true p q r e = inr (inr (eqb-true f 3 r))
    go false false false p q r e = absurd (differ (sym e))

    back : IsF f → file_f_ok f ≡ true
    back (inl e) = subst (λ (y : ℕ). file_f_ok y ≡ true) (sym e) refl
    back (inr (inl e)) = subst (λ (y : ℕ). file_f_ok y ≡ true) (sym e) refl
    back (inr (inr e)) = subst (λ (y : ℕ). file_f_ok y ≡ true) (sym e) refl

f-false : (f : ℕ) → (IsF f → ⊥) → file_f_ok f ≡ false
f-false f h = go (file_f_ok f) refl
  where
    go : (b : Bool) → file_f_ok f ≡ b → b ≡ false
    go true e = absurd (h ((f-iff f).0 e))
    go false e = refl

f-not : (f : ℕ) → file_f_ok f ≡ false → IsF f → ⊥
f-not f e h = differ (sym ((f-iff f).1 h) ∙ e)

-- the limits
limits-false : (n m : ℕ) → within_limits n m ≡ false → Over n m
limits-false n m e = go (leb n max_field_records) (leb m max_field_cells) refl refl e
  where
    go : (a b : Bool) → leb n max_field_records ≡ a → leb m max_field_cells ≡ b → a && b ≡ false → Over n m
    go false b p q e = inl (leb-false n max_field_records p)
    go true false p q e = inr (leb-false m max_field_cells q)
    go true true p q e = absurd (differ e)

limits-true : (n m : ℕ) → within_limits n m ≡ true → Over n m → ⊥
limits-true n m e (inl h) = let a = leb-true n max_field_records (and-true (leb n max_field_records) (leb m max_field_cells) e).0 in omega arith
limits-true n m e (inr h) = let a = leb-true m max_field_cells (and-true (leb n max_field_records) (leb m max_field_cells) e).1 in omega arith

over-limits : (n m : ℕ) → Over n m → within_limits n m ≡ false
over-limits n m h = go (within_limits n m) refl
  where
    go : (b : Bool) → within_limits n m ≡ b → b ≡ false
    go true e = absurd (limits-true n m e h)
    go false e = refl

within-limits : (n m : ℕ) → (Over n m → ⊥) → within_limits n m ≡ true
within-limits n m h = go (within_limits n m) refl
  where
    go : (b : Bool) → within_limits n m ≡ b → b ≡ true
    go true e = refl
    go false e = absurd (h (limits-false n m e))

module _ (s : List ℕ) (b : Below 256 s) where
  -- 50: the name
  abbrev named : Fields
  named = (name_bits, file_name) ∷ []

  name-octets : pack named ≡ anf
  unfolding to_bits num octets field_bits
  name-octets = refl

  name-iff : (leb name_size (length s) && eqb (bits_at s 0 name_bits) file_name ≡ true) ↔ (take 3 s ≡ anf)
  name-iff = (
    λ e.
        let p = and-true (leb name_size (length s)) (eqb (bits_at s 0 name_bits) file_name) e in
        (packed s named 3 refl b (leb-true name_size (length s) p.0) (eqb-true (bits_at s 0 name_bits) file_name p.1, tt)).1 ∙ name-octets,
    λ e.
        let l : length (take 3 s) ≡ 3 = ap length e in
        let r : Reads s 0 named = unpacked s named 3 refl (omega arith, tt) (e ∙ sym name-octets) in
        and_both (le-leb name_size (length s) (omega (arith, length-take 3 s))) (eq-eqb (bits_at s 0 name_bits) file_name r.0),
  )

  -- the checks of the head pass exactly where one of the two heads stands first
  passed-head : Passed (file_checks s) → take 5 s ≡ head_of (version_of s)
  passed-head p = (head-iff (version_of s) s b).0 (p, refl) ∙ head-octets (version_of s)

  head_passed : (v : Version) → take 5 s ≡ head_of v → Passed (file_checks s) × (version_of s ≡ v)
  head_passed v e = (head-iff v s b).1 (e ∙ sym (head-octets v))

  head-named : (v : Version) → take 5 s ≡ head_of v → take 3 s ≡ anf
  head-named v e = sym (take-take 3 5 s (omega arith)) ∙ ap (take 3) e ∙ three v
    where
      three : (v : Version) → take 3 (head_of v) ≡ anf
      three version.One = refl
      three version.Two = refl

  module _ (at room : ℕ) (x : Refusal) where
    abbrev t : List ℕ
    t = drop at s

    f-octet : 5 ≤ length t → file_f_field t ≡ get_or t 4 0
    f-octet l =
        let octet = below_each t (below-drop 256 at s b) in
        within-octet t octet 4 (omega arith) 0 file_f_bits (omega arith) ∙ omega (arith, octet 4)

    -- FORWARD
    file-fails : Fails 0 (file_checks s) x → Refuses s at room x
    unfolding file_checks
    file-fails (inl f) = not_anf (λ e. differ (sym (name-iff.1 e) ∙ f.0)) f.1
    file-fails (inr (f, inl g)) =
        wrong_version (name-iff.0 f) (λ v e. differ (sym (head_passed v e).0.1.0 ∙ g.0)) g.1
    file-fails (inr (f, inr g)) = absurd g.1

    offset-fails : Passed (file_checks s) → Fails 0 (offset_checks s at) x → Refuses s at room x
    unfolding offset_checks
    offset-fails p (inl f) = wrong_offset (version_of s) (passed-head p) (go (leb file_head_size at) (leb at (length s)) refl refl f.0) f.1
      where
        go : (a b : Bool) → leb file_head_size at ≡ a → leb at (length s) ≡ b → a && b ≡ false → (at < 5) ⊎ (length s < at)
        go false b q r e = inl (leb-false file_head_size at q)
        go true false q r e = inr (leb-false at (length s) r)
        go true true q r e = absurd (differ e)
    offset-fails p (inr (f, inl g)) =
        let l = and-true (leb file_head_size at) (leb at (length s)) f in
        at_end (version_of s) (passed-head p) (leb-true file_head_size at l.0) (eqb-true at (length s) (not-false (eqb at (length s)) g.0)) g.1
    offset-fails p (inr (f, inr g)) = absurd g.1

    there : Passed (file_checks s) → Passed (offset_checks s at) → There s at (version_of s)
    unfolding offset_checks
    there p q =
        let l = and-true (leb file_head_size at) (leb at (length s)) q.0 in
        let n = eqb-false at (length s) (not-true (eqb at (length s)) q.1.0) in
        let m = leb-true at (length s) l.1 in
        record { head = passed-head p; from = leb-true file_head_size at l.0; inside = less at (length s) m n }
      where
        less : (a b : ℕ) → a ≤ b → (a ≡ b → ⊥) → a < b
        less a b l d = omega (arith, d)

    module _ (v : Version) where
      long : header_octets v ≤ length t → 5 ≤ length t
      long h = omega (arith, header-octets v, header-least v)

      header-fails : There s at v → Fails 0 (field_header_checks v t) x → Refuses s at room x
      unfolding field_header_checks
      header-fails h (inl f) = header_cut v h (subst (λ (n : ℕ). length t < n) (header-octets v) (leb-false (field_header_size v) (length t) f.0)) f.1
      header-fails h (inr (f, inl g)) =
          let l = subst (λ (n : ℕ). n ≤ length t) (header-octets v) (leb-true (field_header_size v) (length t) f) in
          wrong_f v h l (λ z. f-not (file_f_field t) g.0 (subst IsF (sym (f-octet (long l))) z)) g.1
      header-fails h (inr (f, inr g)) = absurd g.1

      headed : There s at v → Passed (field_header_checks v t) → Headed s at v
      unfolding field_header_checks
      headed h p =
          let l = subst (λ (n : ℕ). n ≤ length t) (header-octets v) (leb-true (field_header_size v) (length t) p.0) in
          record { there = h; header = l; f = subst IsF (f-octet (long l)) ((f-iff (file_f_field t)).0 p.1.0) }

      runs_same : {r : Result (List Record × List ℕ)} → read_run rfc8331 0 (count_field v t) (drop (field_header_size v) t) ≡ r
          → read_run rfc8331 0 (count_field v t) (drop (header_octets v) t) ≡ r
      runs_same e = ap (λ (n : ℕ). read_run rfc8331 0 (count_field v t) (drop n t)) (sym (header-octets v)) ∙ e

      front-refused : There s at v → read_front v t ≡ Err x → Refuses s at room x
      unfolding read_front
      front-refused h e = first (judge-refused 0 (field_header_checks v t) _ x e)
        where
          limits : Headed s at v → (q : List Record × List ℕ) → read_run rfc8331 0 (count_field v t) (drop (field_header_size v) t) ≡ Ok q
              → Fails 0 (limit_checks q.0) x ⊎ (Passed (limit_checks q.0) × (Ok (field_read t q.0) ≡ Err x)) → Refuses s at room x
          limits d q e (inl (inl f)) = over_limit v d q.0 q.1 (runs_same e) (limits-false (length q.0) (length (list_of q.0)) f.0) f.1
          limits d q e (inl (inr f)) = absurd f.1
          limits d q e (inr f) = absurd (not-refused f.1)

          run : Headed s at v → (read_run rfc8331 0 (count_field v t) (drop (field_header_size v) t) ≡ Err x)
              ⊎ ((q : List Record × List ℕ) × (read_run rfc8331 0 (count_field v t) (drop (field_header_size v) t) ≡ Ok q)
              × (judge 0 (limit_checks q.0) (Ok (field_read t q.0)) ≡ Err x))
              → Refuses s at room x
          run d (inl e) = packet v d (runs_same e)
          run d (inr p) = limits d p.0 p.1 (judge-refused 0 (limit_checks p.0.0) _ x p.2)

          first : Fails 0 (field_header_checks v t) x
              ⊎ (Passed (field_header_checks v t)
              × ((read_run rfc8331 0 (count_field v t) (drop (field_header_size v) t) then λ q. judge 0 (limit_checks q.0) (Ok (field_read t q.0))) ≡ Err x))
              → Refuses s at room x
          first (inl f) = header-fails h f
          first (inr p) = run (headed h p.0) (then-refused (read_run rfc8331 0 (count_field v t) (drop (field_header_size v) t)) _ x p.1)

    field-refused : read_field s at ≡ Err x → Refuses s at room x
    unfolding read_field
    field-refused e = file (judge-refused 0 (file_checks s) _ x e)
      where
        front : There s at (version_of s) → (read_front (version_of s) t ≡ Err x)
            ⊎ ((k : FieldContent) × (read_front (version_of s) t ≡ Ok k) × (◌≡◌ {A = Result (FieldContent × ℕ)} (Ok (k, at + field_size (version_of s) k.records)) (Err x))) → Refuses s at room x
        front h (inl e) = front-refused (version_of s) h e
        front h (inr p) = absurd (not-refused p.2)

        offset : Passed (file_checks s) → Fails 0 (offset_checks s at) x ⊎ (Passed (offset_checks s at) × (field_at (version_of s) s at ≡ Err x)) → Refuses s at room x
        offset p (inl f) = offset-fails p f
        offset p (inr q) = front (there p q.0) (then-refused (read_front (version_of s) t) _ x q.1)

        file : Fails 0 (file_checks s) x ⊎ (Passed (file_checks s) × (judge 0 (offset_checks s at) (field_at (version_of s) s at) ≡ Err x)) → Refuses s at room x
        file (inl f) = file-fails f
        file (inr p) = offset p.0 (judge-refused 0 (offset_checks s at) _ x p.1)

    into-refused : read_into s at room ≡ Err x → Refuses s at room x
    unfolding read_into
    into-refused e = go (then-refused (read_field s at) _ x e)
      where
        last : (q : FieldContent × ℕ) → read_field s at ≡ Ok q
            → Fails 0 ((leb (length (list_of q.0.records)) room, 14) ∷ []) x ⊎ (Passed ((leb (length (list_of q.0.records)) room, 14) ∷ []) × (Ok q ≡ Err x))
            → Refuses s at room x
        last q h (inl (inl f)) = list_short q.0 q.1 h (leb-false (length (list_of q.0.records)) room f.0) f.1
        last q h (inl (inr f)) = absurd f.1
        last q h (inr f) = absurd (not-refused f.1)

        go : (read_field s at ≡ Err x)
            ⊎ ((q : FieldContent × ℕ) × (read_field s at ≡ Ok q) × (judge 0 ((leb (length (list_of q.0.records)) room, 14) ∷ []) (Ok q) ≡ Err x)) → Refuses s at room x
        go (inl e) = field-refused e
        go (inr p) = last p.0 p.1 (judge-refused 0 ((leb (length (list_of p.0.0.records)) room, 14) ∷ []) (Ok p.0) x p.2)

    -- AND BACK
    early : read_field s at ≡ Err x → read_into s at room ≡ Err x
    unfolding read_into
    early e = rw e

    file-refuses : Fails 0 (file_checks s) x → read_into s at room ≡ Err x
    unfolding read_field
    file-refuses f = early (fails-judge 0 (file_checks s) _ x f)

    offset-refuses : Passed (file_checks s) → Fails 0 (offset_checks s at) x → read_into s at room ≡ Err x
    unfolding read_field
    offset-refuses p f = early (judge-passes 0 (file_checks s) _ p ∙ fails-judge 0 (offset_checks s at) _ x f)

    front-refuses : (v : Version) → There s at v → read_front v t ≡ Err x → read_into s at room ≡ Err x
    unfolding read_field offset_checks
    front-refuses v h e =
        let p = head_passed v h.head in
        let i = h.inside in
        early
        (judge-passes 0 (file_checks s) _ p.0
        ∙ rw (le-leb file_head_size at h.from, le-leb at (length s) (omega arith), ne_eqb at (length s) (λ z. omega arith), p.1, e))

    header-passed : (v : Version) → Headed s at v → Passed (field_header_checks v t)
    unfolding field_header_checks
    header-passed v h =
        let l = subst (λ (n : ℕ). n ≤ length t) (sym (header-octets v)) h.header in
        (le-leb (field_header_size v) (length t) l, ((f-iff (file_f_field t)).1 (subst IsF (sym (f-octet (long v h.header))) h.f), tt))

    run-same : (v : Version) {r : Result (List Record × List ℕ)} → read_run rfc8331 0 (count_field v t) (drop (header_octets v) t) ≡ r
        → read_run rfc8331 0 (count_field v t) (drop (field_header_size v) t) ≡ r
    run-same v e = ap (λ (n : ℕ). read_run rfc8331 0 (count_field v t) (drop n t)) (header-octets v) ∙ e

    back : Refuses s at room x → read_into s at room ≡ Err x
    unfolding file_checks offset_checks field_header_checks read_front read_into
    back (not_anf h e) = file-refuses (inl (name-false, e))
      where
        name-false : leb name_size (length s) && eqb (bits_at s 0 name_bits) file_name ≡ false
        name-false = go (leb name_size (length s) && eqb (bits_at s 0 name_bits) file_name) refl
          where
            go : (c : Bool) → leb name_size (length s) && eqb (bits_at s 0 name_bits) file_name ≡ c → c ≡ false
            go true q = absurd (h (name-iff.0 q))
            go false q = refl
    back (wrong_version h none_of e) = file-refuses (inr (name-iff.1 h, inl (version-false (leb file_head_size (length s) && is_version (version_field s)) refl, e)))
      where
        version-false : (c : Bool) → leb file_head_size (length s) && is_version (version_field s) ≡ c → c ≡ false
        version-false true q = absurd (none_of (version_of s) (passed-head (unfold file_checks in (name-iff.1 h, (q, tt)))))
        version-false false q = refl
    back (wrong_offset v h o e) = offset-refuses (head_passed v h).0 (inl (offset-false o, e))
      where
        offset-false : (at < 5) ⊎ (length s < at) → leb file_head_size at && leb at (length s) ≡ false
        offset-false (inl l) = rw (lt-leb file_head_size at l)
        offset-false (inr l) = go (leb file_head_size at)
          where
            go : (c : Bool) → c && leb at (length s) ≡ false
            go true = lt-leb at (length s) l
            go false = refl
    back (at_end v h from end e) =
        offset-refuses (head_passed v h).0 (inr (and_both (le-leb file_head_size at from) (le-leb at (length s) (omega arith)), inl (ap not (eq-eqb at (length s) end), e)))
    back (header_cut v h l e) =
        front-refuses v h (fails-judge 0 (field_header_checks v t) _ x (inl (lt-leb (field_header_size v) (length t) (subst (λ (n : ℕ). length t < n) (sym (header-octets v)) l), e)))
    back (wrong_f v h l f e) =
        front-refuses v h
        (fails-judge 0 (field_header_checks v t) _ x
        (inr (le-leb (field_header_size v) (length t) (subst (λ (n : ℕ). n ≤ length t) (sym (header-octets v)) l), inl (f-false (file_f_field t) (λ z. f (subst IsF (f-octet (long v l)) z)), e))))
    back (packet v h e) =
        front-refuses v h.there (judge-passes 0 (field_header_checks v t) _ (header-passed v h) ∙ rw (run-same v e))
    back (over_limit v h rs rest r o e) =
        front-refuses v h.there
        (judge-passes 0 (field_header_checks v t) _ (header-passed v h) ∙ rw (run-same v r, over-limits (length rs) (length (list_of rs)) o) (ap Err (sym e)))
    back (list_short k next h l e) = rw (h, lt-leb (length (list_of k.records)) room l) (ap Err (sym e))

    pub read-refuses : (read_into s at room ≡ Err x) ↔ Refuses s at room x
    read-refuses = (into-refused, back)

-- WRITING
module _ (timestamp f : ℕ) (cells : List ℕ) (room : ℕ) (x : Refusal) where
  records-refused : field_records f cells room ≡ Err x → refuses.WriteRefuses f cells room x
  records-refused e = head (judge-refused 0 ((file_f_ok f, 53) ∷ []) _ x e)
    where
      room-fails : IsF f → (rs : List Record) → read_list cells ≡ Ok rs
          → Fails 0 (room_checks rs (length cells) room) x ⊎ (Passed (room_checks rs (length cells) room) × (Ok rs ≡ Err x)) → refuses.WriteRefuses f cells room x
      room-fails h rs q (inl (inl g)) = refuses.over_limit h rs q (limits-false (length rs) (length cells) g.0) g.1
      room-fails h rs q (inl (inr (g, inl k))) = refuses.no_room h rs q (limits-true (length rs) (length cells) g) (leb-false (7 + run_size rfc8331 rs) room k.0) k.1
      room-fails h rs q (inl (inr (g, inr k))) = absurd k.1
      room-fails h rs q (inr g) = absurd (not-refused g.1)

      list : IsF f → (read_list cells ≡ Err x) ⊎ ((rs : List Record) × (read_list cells ≡ Ok rs) × (judge 0 (room_checks rs (length cells) room) (Ok rs) ≡ Err x))
          → refuses.WriteRefuses f cells room x
      list h (inl e) = refuses.list h e
      list h (inr p) = room-fails h p.0 p.1 (judge-refused 0 (room_checks p.0 (length cells) room) (Ok p.0) x p.2)

      head : Fails 0 ((file_f_ok f, 53) ∷ []) x
          ⊎ (Passed ((file_f_ok f, 53) ∷ []) × ((read_list cells then λ rs. judge 0 (room_checks rs (length cells) room) (Ok rs)) ≡ Err x)) → refuses.WriteRefuses f cells room x
      head (inl (inl g)) = refuses.wrong_f (f-not f g.0) g.1
      head (inl (inr g)) = absurd g.1
      head (inr p) = list ((f-iff f).0 p.0.0) (then-refused (read_list cells) _ x p.1)

  refuses-records : refuses.WriteRefuses f cells room x → field_records f cells room ≡ Err x
  refuses-records (refuses.wrong_f h e) = rw (f-false f h) (ap Err (sym e))
  refuses-records (refuses.list h e) = rw ((f-iff f).1 h, e)
  refuses-records (refuses.over_limit h rs q o e) = rw ((f-iff f).1 h, q, over-limits (length rs) (length cells) o) (ap Err (sym e))
  refuses-records (refuses.no_room h rs q o l e) = rw ((f-iff f).1 h, q, within-limits (length rs) (length cells) o, lt-leb (7 + run_size rfc8331 rs) room l) (ap Err (sym e))

  pub write-refuses : (write_field timestamp f cells room ≡ Err x) ↔ refuses.WriteRefuses f cells room x
  write-refuses = (
    λ e. go (then-refused (field_records f cells room) _ x e),
    λ r. rw (refuses-records r),
  )
    where
      go : (field_records f cells room ≡ Err x)
          ⊎ ((rs : List Record) × (field_records f cells room ≡ Ok rs)
          × (◌≡◌ {A = Result (List ℕ)} (Ok (field_octets written_version (record { timestamp = timestamp; f = f; records = rs }))) (Err x)))
          → refuses.WriteRefuses f cells room x
      go (inl e) = records-refused e
      go (inr p) = absurd (not-refused p.2)

-- "the first five octets are written by themselves (23)"
pub begin-refuses : (room : ℕ) (x : Refusal) → (write_head room ≡ Err x) ↔ ((room < 5) × (x ≡ only 23))
begin-refuses room x = (λ e. go (leb file_head_size room) refl e, λ p. rw (lt-leb file_head_size room p.0) (ap Err (sym p.1)))
  where
    go : (c : Bool) → leb file_head_size room ≡ c → cond c (Ok (file_head version.Two)) (refuse 23 0) ≡ Err x → (room < 5) × (x ≡ only 23)
    go true q e = absurd (not-refused e)
    go false q e = (leb-false file_head_size room q, sym (refused-inj e))

-- "an old reader refuses it with 51" (02, K2): reading as 01 has it, of every file with version 2 in its head
abbrev pub checks_before : List ℕ → Checks
checks_before s =
    (leb name_size (length s) && eqb (bits_at s 0 name_bits) file_name, 50)
    ∷ (leb file_head_size (length s) && eqb (version_field s) 1, 51)
    ∷ []

abbrev pub read_before : List ℕ → ℕ → Result (FieldContent × ℕ)
read_before s at = judge 0 (checks_before s) (judge 0 (offset_checks s at) (field_at version.One s at))

version-at : (v : Version) (s : List ℕ) → take 5 s ≡ head_of v → (bits_at s 0 name_bits ≡ file_name) × (version_field s ≡ version_number v) × (5 ≤ length s)
version-at v s e =
    let r : Reads s 0 (file_fields v) = unpacked s (file_fields v) file_head_size refl (fits v) (e ∙ sym (head-octets v)) in
    (r.0, r.1.0, omega (arith, length-take 5 s, ap length e ∙ size v))
  where
    fits : (v : Version) → Fit (file_fields v)
    fits version.One = omega arith
    fits version.Two = omega arith

    size : (v : Version) → length (head_of v) ≡ 5
    size version.One = refl
    size version.Two = refl

pub old-reader : (s : List ℕ) → take 5 s ≡ head_of version.Two → (at : ℕ) → read_before s at ≡ refuse 51 0
old-reader s e at =
    let h = version-at version.Two s e in
    let l = h.2 in
    rw (le-leb name_size (length s) (omega arith), eq-eqb (bits_at s 0 name_bits) file_name h.0, le-leb file_head_size (length s) l, h.1)

-- and it reads a file of version 1 as the reader does
pub old-reads : (s : List ℕ) → Below 256 s → take 5 s ≡ head_of version.One → (at : ℕ) → read_before s at ≡ read_field s at
unfolding read_field
old-reads s b e at =
    let h = version-at version.One s e in
    let l = h.2 in
    let p = head_passed s b version.One e in
    rw (le-leb name_size (length s) (omega arith), eq-eqb (bits_at s 0 name_bits) file_name h.0, le-leb file_head_size (length s) l, h.1)
    (sym (judge-passes 0 (file_checks s) _ p.0 ∙ rw p.1))
