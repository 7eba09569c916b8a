-- A text is refused exactly where 01 says so: 40; the first item that offends, by its number and index; 44.
-- The items before one that offends are gathered, and that one is not.
use Rattle.std.specs.Prelude.{Option, Some, None}
use mathlib.Core.Path.{◌≡◌, refl, ap, ap₂, sym, ◌∙◌, subst}
use mathlib.Core.Bool.{Bool, true, false, cond}
use mathlib.Core.Logic.{◌↔◌}
use mathlib.Core.List.{List, [], ◌∷◌, ◌++◌, map}
use Prim.Native.Nat.{ℕ, suc, ◌+◌, ◌*◌, ◌/◌, ◌%◌, ◌<◌, ◌≤◌}
use native.Mathlib.Omega.{arith}
use lib.Dec.{eqb, leb, ltb}
use lib.ListN.{length}
use borrow.Author.Tests.{leb-true, leb-false, le-leb, lt-leb, ltb-false, le-ltb, eqb-true, eqb-false, eq-eqb, ne_eqb}
use Rattle.wire_spec.specs.declared.refusal.Refusal.{Refusal}
use Rattle.wire_spec.specs.Anc.{Each}
use Rattle.wire_spec.specs.Result.{Result, Err, Ok, refuse, judge, ◌then◌}
use Rattle.wire_spec.proofs.ResultLaws.{refused-inj, not-refused}
use Rattle.sdp_spec.specs.declared.item.Item.{Item}
use Rattle.sdp_spec.specs.declared.item.Item.TheVariants.{DidSdid, VpidCode, Other, Malformed}
use Rattle.sdp_spec.specs.declared.parameters.Parameters.{Parameters}
use Rattle.sdp_spec.specs.Text.{max_text, max_pairs}
use Rattle.sdp_spec.specs.Grammar.{ItemText, pairs_of, codes_of, codes, Content}
use Rattle.sdp_spec.specs.Reading.{item_of, items, add_code, add, gather, none, read_text, read_into}
use Rattle.sdp_spec.specs.Writing.{text_of, write_text}
use Rattle.sdp_spec.proofs.GatherIff.{Formed, Adds, gather-adds, adds-gather}
use Rattle.sdp_spec.proofs.ItemIff.{item-text, text-item, text-formed}
use Rattle.sdp_spec.proofs.Acceptance.{pairs-even, accepts-iff}
use Rattle.sdp_spec.specs.Offence.{Cut, Texts, Sound, OffendsBy, malformed, second_code, pair_too_many, Offends, Refuses, too_long, offends, too_small, WriteRefuses, odd, too_many, no_room}
use Rattle.sdp_spec.proofs.CutTexts.{cut_of, cut-is, cut-of, items-are}

-- WHICH ITEM: the items before it are gathered, and it is refused
record At (i : ℕ) (p : Parameters) (ts : List (List ℕ)) (x : Refusal) : Type 0 where
  before : List (List ℕ)
  item : List ℕ
  after : List (List ℕ)
  parts : ts ≡ before ++ (item ∷ after)
  found : Parameters
  gathered : gather i p (map item_of before) ≡ Ok found
  adds : add (i + length before) found (item_of item) ≡ Err x

refused-at : (i : ℕ) (p : Parameters) (ts : List (List ℕ)) (x : Refusal) → gather i p (map item_of ts) ≡ Err x → At i p ts x
unfolding gather
refused-at i p [] x e = absurd (not-refused e)
refused-at i p (t ∷ ts) x e = go (add i p (item_of t)) refl e (λ q. refused-at (i + 1) q ts x)
  where
    go : (r : Result Parameters) → add i p (item_of t) ≡ r → (r then λ q. gather (i + 1) q (map item_of ts)) ≡ Err x
        → ((q : Parameters) → gather (i + 1) q (map item_of ts) ≡ Err x → At (i + 1) q ts x) → At i p (t ∷ ts) x
    go (Err y) h e ih = record { before = []; item = t; after = ts; parts = refl; found = p; gathered = refl; adds = ap (λ (n : ℕ). add n p (item_of t)) (plus i) ∙ h ∙ e }
      where
        plus : (n : ℕ) → n + 0 ≡ n
        plus n = omega arith
    go (Ok q) h e ih =
        let a = ih q e in
        let sum : i + suc (length a.before) ≡ i + 1 + length a.before = omega arith in
        record {
          before = t ∷ a.before;
          item = a.item;
          after = a.after;
          parts = ap (λ (x : List (List ℕ)). t ∷ x) a.parts;
          found = a.found;
          gathered = ap (λ (r : Result Parameters). r then λ q. gather (i + 1) q (map item_of a.before)) h ∙ a.gathered;
          adds = ap (λ (n : ℕ). add n a.found (item_of a.item)) sum ∙ a.adds;
        }

at-refused : (i : ℕ) (p q : Parameters) (before : List (List ℕ)) (item : List ℕ) (after : List (List ℕ)) (x : Refusal)
    → gather i p (map item_of before) ≡ Ok q → add (i + length before) q (item_of item) ≡ Err x → gather i p (map item_of (before ++ (item ∷ after))) ≡ Err x
unfolding gather
at-refused i p q [] item after x g e =
    let same : p ≡ q = cc in
    let sum : i + 0 ≡ i = omega arith in
    ap (λ (r : Result Parameters). r then λ q. gather (i + 1) q (map item_of after)) (ap₂ (λ (n : ℕ) (p : Parameters). add n p (item_of item)) (sym sum) same ∙ e)
at-refused i p q (t ∷ before) item after x g e = go (add i p (item_of t)) refl g (λ r. at-refused (i + 1) r q before item after x)
  where
    go : (r : Result Parameters) → add i p (item_of t) ≡ r → (r then λ q. gather (i + 1) q (map item_of before)) ≡ Ok q
        → ((r : Parameters) → gather (i + 1) r (map item_of before) ≡ Ok q → add (i + 1 + length before) q (item_of item) ≡ Err x
        → gather (i + 1) r (map item_of (before ++ (item ∷ after))) ≡ Err x)
        → (add i p (item_of t) then λ q. gather (i + 1) q (map item_of (before ++ (item ∷ after)))) ≡ Err x
    go (Err y) h g ih = absurd (not-refused (sym g))
    go (Ok r) h g ih =
        let sum : i + suc (length before) ≡ i + 1 + length before = omega arith in
        ap (λ (r : Result Parameters). r then λ q. gather (i + 1) q (map item_of (before ++ (item ∷ after)))) h
        ∙ ih r g (ap (λ (n : ℕ). add n q (item_of item)) (sym sum) ∙ e)

-- SOUND ITEMS are those that are gathered
texts-of : (ts : List (List ℕ)) → Each Formed (map item_of ts) → Texts (map item_of ts) ts
texts-of [] f = tt
texts-of (t ∷ ts) f = (item-text t (item_of t) refl f.0, texts-of ts f.1)

texts-are : (xs : List Item) (ts : List (List ℕ)) → Texts xs ts → (map item_of ts ≡ xs) × Each Formed xs
texts-are [] [] h = (refl, tt)
texts-are [] (t ∷ ts) h = absurd h
texts-are (x ∷ xs) [] h = absurd h
texts-are (x ∷ xs) (t ∷ ts) h = let r = texts-are xs ts h.1 in (ap₂ ◌∷◌ (text-item x t h.0) r.0, (text-formed x t h.0, r.1))

one_code : (v : Option ℕ) → length (codes v) ≤ 1
one_code (Some c) = omega arith
one_code None = omega arith

abbrev vpid_of : List ℕ → Option ℕ
vpid_of [] = None
vpid_of (c ∷ l) = Some c

codes-of : (l : List ℕ) → length l ≤ 1 → codes (vpid_of l) ≡ l
codes-of [] h = refl
codes-of (c ∷ []) h = refl
codes-of (c ∷ d ∷ l) h = absurd (omega arith)

gathered-sound : (ts : List (List ℕ)) (q : Parameters) → Adds none (map item_of ts) q → Sound ts (map item_of ts)
gathered-sound ts q a =
    record {
      texts = texts-of ts a.formed;
      codes = subst (λ (l : List ℕ). length l ≤ 1) a.vpid (one_code q.vpid);
      pairs = let m = a.pairs in let f = a.few in omega arith;
    }

-- what sound items have added up to
record Gathered (ts : List (List ℕ)) (xs : List Item) : Type 0 where
  found : Parameters
  gathered : gather 0 none (map item_of ts) ≡ Ok found
  pairs : 2 * found.pairs ≡ length (pairs_of xs)
  vpid : codes found.vpid ≡ codes_of xs

sound-gathered : (ts : List (List ℕ)) (xs : List Item) → Sound ts xs → Gathered ts xs
sound-gathered ts xs s =
    let t = texts-are xs ts s.texts in
    let even = pairs-even xs in
    let few = s.pairs in
    let q : Parameters = record { pairs = length (pairs_of xs) / 2; vpid = vpid_of (codes_of xs) } in
    let c = codes-of (codes_of xs) s.codes in
    let a : Adds none xs q = record { formed = t.1; pairs = omega arith; few = omega arith; vpid = c } in
    record { found = q; gathered = ap (gather 0 none) t.0 ∙ adds-gather 0 none xs q a; pairs = omega arith; vpid = c }

-- BY WHICH NUMBER
offends-by : (i : ℕ) (q : Parameters) (xs : List Item) (t : List ℕ) (x : Refusal) → 2 * q.pairs ≡ length (pairs_of xs) → q.pairs ≤ max_pairs → codes q.vpid ≡ codes_of xs
    → add i q (item_of t) ≡ Err x → OffendsBy xs t x.number × (x.index ≡ i)
offends-by i q xs t x n few c e = go (item_of t) refl e
  where
    code : (v : Option ℕ) → q.vpid ≡ v → (c : ℕ) → item_of t ≡ VpidCode c → add_code i q.pairs v c ≡ Err x → OffendsBy xs t x.number × (x.index ≡ i)
    code (Some d) k v h e =
        let r : record { number = 42; index = i } ≡ x = cc in
        let one : length (codes_of xs) ≡ 1 = ap length (sym c ∙ ap codes k) in
        (second_code (ap (λ (y : Refusal). y.number) (sym r)) v (item-text t (VpidCode v) h tt) one, ap (λ (y : Refusal). y.index) (sym r))
    code None k v h e = absurd (not-refused e)

    pair : (did sdid : ℕ) → item_of t ≡ DidSdid did sdid → (b : Bool) → ltb q.pairs max_pairs ≡ b
        → cond {A = Result Parameters} b (Ok (record { pairs = q.pairs + 1; vpid = q.vpid })) (refuse 43 i) ≡ Err x → OffendsBy xs t x.number × (x.index ≡ i)
    pair did sdid h true k e = absurd (not-refused e)
    pair did sdid h false k e =
        let r : record { number = 43; index = i } ≡ x = cc in
        let l = ltb-false q.pairs max_pairs k in
        (pair_too_many (ap (λ (y : Refusal). y.number) (sym r)) did sdid (item-text t (DidSdid did sdid) h tt) (omega arith), ap (λ (y : Refusal). y.index) (sym r))

    go : (y : Item) → item_of t ≡ y → add i q y ≡ Err x → OffendsBy xs t x.number × (x.index ≡ i)
    go (DidSdid did sdid) h e = pair did sdid h (ltb q.pairs max_pairs) refl e
    go (VpidCode v) h e = code q.vpid refl v h e
    go Other h e = absurd (not-refused e)
    go Malformed h e =
        let r : record { number = 41; index = i } ≡ x = cc in
        (malformed (ap (λ (y : Refusal). y.number) (sym r)) (λ y k. subst Formed (sym (text-item y t k) ∙ h) (text-formed y t k)), ap (λ (y : Refusal). y.index) (sym r))

-- the number and the index of a refusal are the refusal
refusal_is : (x : Refusal) (n i : ℕ) → x.number ≡ n → x.index ≡ i → record { number = n; index = i } ≡ x
refusal_is x n i h k = λ j. record { number = sym h j; index = sym k j }

malformed-is : (t : List ℕ) → ((x : Item) → ItemText x t → ⊥) → item_of t ≡ Malformed
malformed-is t none_of = go (item_of t) refl
  where
    go : (y : Item) → item_of t ≡ y → y ≡ Malformed
    go (DidSdid did sdid) h = absurd (none_of (DidSdid did sdid) (item-text t (DidSdid did sdid) h tt))
    go (VpidCode code) h = absurd (none_of (VpidCode code) (item-text t (VpidCode code) h tt))
    go Other h = absurd (none_of Other (item-text t Other h tt))
    go Malformed h = refl

by-refused : (i : ℕ) (q : Parameters) (xs : List Item) (t : List ℕ) (x : Refusal) → 2 * q.pairs ≡ length (pairs_of xs) → codes q.vpid ≡ codes_of xs
    → x.index ≡ i → OffendsBy xs t x.number → add i q (item_of t) ≡ Err x
by-refused i q xs t x n c at (malformed h none_of) = rw (malformed-is t none_of) (ap Err (refusal_is x 41 i h at))
by-refused i q xs t x n c at (second_code h code text one) = ap (add i q) (text-item (VpidCode code) t text) ∙ go q.vpid refl
  where
    go : (v : Option ℕ) → q.vpid ≡ v → add_code i q.pairs v code ≡ Err x
    go (Some d) k = ap Err (refusal_is x 42 i h at)
    go None k = let z : ◌≡◌ {A = ℕ} 0 1 = ap length (sym (ap codes k)) ∙ ap length c ∙ one in absurd (omega arith)
by-refused i q xs t x n c at (pair_too_many h did sdid text all) =
    ap (add i q) (text-item (DidSdid did sdid) t text) ∙ rw (le-ltb q.pairs max_pairs (omega arith)) (ap Err (refusal_is x 43 i h at))

zero-plus : (n : ℕ) → 0 + n ≡ n
zero-plus n = omega arith

-- THE ITEMS of a text
module _ (s : List ℕ) (x : Refusal) where
  pub gather-offends : gather 0 none (items s) ≡ Err x → Offends s x
  gather-offends e = go (ltb 0 (length s)) refl
    where
      empty : (s : List ℕ) → length s ≤ 0 → gather 0 none (items s) ≡ Err x → ⊥
      empty [] h e = unfold items in (unfold gather in (not-refused e))
      empty (a ∷ s) h e = omega arith

      go : (b : Bool) → ltb 0 (length s) ≡ b → Offends s x
      go false k = absurd (empty s (ltb-false 0 (length s) k) e)
      go true k =
          let some = ltb-some k in
          let a = refused-at 0 none (cut_of s) x (ap (gather 0 none) (sym (items-are s some)) ∙ e) in
          let d = gather-adds 0 none (map item_of a.before) a.found (omega arith) a.gathered in
          let n = d.pairs in
          let by = offends-by (length a.before) a.found (map item_of a.before) a.item x (omega arith) d.few d.vpid (ap (λ (n : ℕ). add n a.found (item_of a.item)) (sym (zero-plus (length a.before))) ∙ a.adds) in
          record {
            before = a.before;
            item = a.item;
            after = a.after;
            some = some;
            cut = subst (λ (ts : List (List ℕ)). Cut ts s) a.parts (cut-of s);
            items = map item_of a.before;
            sound = gathered-sound a.before a.found d;
            by = by.0;
            index = by.1;
          }
        where
          ltb-some : ltb 0 (length s) ≡ true → 0 < length s
          ltb-some k = leb-true 1 (length s) k

  pub offends-gather : Offends s x → gather 0 none (items s) ≡ Err x
  offends-gather o =
      let g = sound-gathered o.before o.items o.sound in
      let all : items s ≡ map item_of (o.before ++ (o.item ∷ o.after)) = items-are s o.some ∙ ap (map item_of) (cut-is (o.before ++ (o.item ∷ o.after)) s o.cut) in
      ap (gather 0 none) all
      ∙ at-refused 0 none g.found o.before o.item o.after x g.gathered
      (ap (λ (n : ℕ). add n g.found (item_of o.item)) (zero-plus (length o.before)) ∙ by-refused (length o.before) g.found o.items o.item x g.pairs g.vpid o.index o.by)

  abbrev said : Parameters → Result Content
  said p = Ok (record { pairs = pairs_of (items s); vpid = p.vpid })

  abbrev fitted : ℕ → Content → Result Content
  fitted room k = judge 0 ((leb (length k.pairs) room, 44) ∷ []) (Ok k)

  -- A TEXT IS REFUSED exactly so
  pub read-refuses : (room : ℕ) → (read_into s room ≡ Err x) ↔ Refuses s room x
  unfolding read_into read_text
  read-refuses room = (λ e. long (leb (length s) max_text) refl e, back)
    where
      full : (k : Content) → read_text s ≡ Ok k → (b : Bool) → leb (length k.pairs) room ≡ b → cond b (Ok k) (refuse 44 0) ≡ Err x → Refuses s room x
      full k h true c e = absurd (not-refused e)
      full k h false c e = too_small k ((accepts-iff s k).0 h) (leb-false (length k.pairs) room c) (sym (refused-inj e))

      parts : length s ≤ 4096 → (r : Result Parameters) → gather 0 none (items s) ≡ r
          → ((r then said) then fitted room) ≡ Err x
          → Refuses s room x
      parts l (Err y) g e = offends l (gather-offends (g ∙ ap Err (refused-inj e)))
      parts l (Ok p) g e =
          full (record { pairs = pairs_of (items s); vpid = p.vpid })
          (rw (le-leb (length s) max_text l, g)) (leb (length (pairs_of (items s))) room) refl e

      long : (b : Bool) → leb (length s) max_text ≡ b
          → (cond b (gather 0 none (items s) then said) (refuse 40 0) then fitted room) ≡ Err x
          → Refuses s room x
      long false h e = too_long (leb-false (length s) max_text h) (sym (refused-inj e))
      long true h e = parts (leb-true (length s) max_text h) (gather 0 none (items s)) refl e

      back : Refuses s room x → read_into s room ≡ Err x
      back (too_long h e) = unfold read_into in (unfold read_text in (rw (lt-leb (length s) max_text h) (ap Err (sym e))))
      back (offends h o) = unfold read_into in (unfold read_text in (rw (le-leb (length s) max_text h, offends-gather o)))
      back (too_small k t h e) = unfold read_into in (rw ((accepts-iff s k).1 t, lt-leb (length k.pairs) room h) (ap Err (sym e)))

-- AND PARAMETERS that are written: 41, 43, 44
module _ (pairs : List ℕ) (v : Option ℕ) (room : ℕ) where
  abbrev k : Content
  k = record { pairs = pairs; vpid = v }

  pub write-refuses : (x : Refusal) → (write_text k (room) ≡ Err x) ↔ WriteRefuses pairs v (room) x
  unfolding write_text
  write-refuses x = (λ e. whole (eqb (length pairs % 2) 0) refl e, back)
    where
      full : length pairs % 2 ≡ 0 → length pairs ≤ 2 * 64 → (b : Bool) → leb (length (text_of k)) (room) ≡ b
          → cond b (Ok (text_of k)) (refuse 44 0) ≡ Err x → WriteRefuses pairs v (room) x
      full h l true q e = absurd (not-refused e)
      full h l false q e = no_room h l (leb-false (length (text_of k)) (room) q) (sym (refused-inj e))

      many : length pairs % 2 ≡ 0 → (b : Bool) → leb (length pairs) (2 * 64) ≡ b
          → cond b (cond (leb (length (text_of k)) (room)) (Ok (text_of k)) (refuse 44 0)) (refuse 43 0) ≡ Err x → WriteRefuses pairs v (room) x
      many h true q e = full h (leb-true (length pairs) (2 * 64) q) (leb (length (text_of k)) (room)) refl e
      many h false q e = too_many h (leb-false (length pairs) (2 * 64) q) (sym (refused-inj e))

      is_odd : (eqb (length pairs % 2) 0 ≡ false) → length pairs % 2 ≡ 1
      is_odd q = let n = eqb-false (length pairs % 2) 0 q in omega arith

      whole : (b : Bool) → eqb (length pairs % 2) 0 ≡ b
          → cond b (cond (leb (length pairs) (2 * 64)) (cond (leb (length (text_of k)) (room)) (Ok (text_of k)) (refuse 44 0)) (refuse 43 0)) (refuse 41 0) ≡ Err x
          → WriteRefuses pairs v (room) x
      whole true q e = many (eqb-true (length pairs % 2) 0 q) (leb (length pairs) (2 * 64)) refl e
      whole false q e = odd (is_odd q) (sym (refused-inj e))

      back : WriteRefuses pairs v (room) x → write_text k (room) ≡ Err x
      back (odd h e) = unfold write_text in (rw (ne_eqb (length pairs % 2) 0 (λ q. omega arith)) (ap Err (sym e)))
      back (too_many h l e) = unfold write_text in (rw (eq-eqb (length pairs % 2) 0 h, lt-leb (length pairs) (2 * 64) l) (ap Err (sym e)))
      back (no_room h l s e) = unfold write_text in (rw (eq-eqb (length pairs % 2) 0 h, le-leb (length pairs) (2 * 64) l, lt-leb (length (text_of k)) (room) s) (ap Err (sym e)))
