-- A file ends in 54 exactly where it is the head and the octets of well-formed fields: there is no other file of those fields,
-- and a cut file that ends in 54 is the whole file of the fields that were read.
-- By the numbers: only the check at the end of the file gives 54, and each field before it stands where it was read.
use mathlib.Core.Path.{◌≡◌, refl, ap, ap₂, sym, ◌∙◌, subst}
use mathlib.Core.Bool.{Bool, true, false, not, ◌&&◌}
use mathlib.Core.Logic.{◌↔◌}
use mathlib.Core.List.{List, [], ◌∷◌, ◌++◌}
use Prim.Native.Nat.{ℕ, suc, ◌+◌, ◌≤◌}
use native.Mathlib.Omega.{arith}
use lib.Dec.{eqb, leb}
use lib.ListN.{length, take, drop, length-append, length-take, take-append-drop}
use lib.Seq.{drop-drop, drop-length, take_at, take-take}
use borrow.Author.Tests.{eqb-true, leb-true}
use Rattle.wire_spec.specs.declared.refusal.Refusal.{Refusal}
use Rattle.wire_spec.specs.Bits.{Below}
use Rattle.wire_spec.specs.Layout.{rfc8331}
use Rattle.wire_spec.specs.Result.{Result, Err, Ok, Checks, judge, ◌then◌}
use Rattle.wire_spec.specs.Anc.{Each, anc_checks, read_run}
use Rattle.wire_spec.proofs.BitLaws.{below-take, below-drop}
use Rattle.wire_spec.proofs.ResultLaws.{Numbered, judge-numbered, then-numbered, Passed, accepted-inj, judge-accepts, then-accepts}
use Rattle.wire_spec.proofs.AncLaws.{run-numbered}
use Rattle.fieldfile_spec.specs.declared.format.Version.{Version}
use Rattle.fieldfile_spec.specs.File.{file_head_size, FieldContent, field_size, file_head, fields_octets, file_octets, WellFormedField, count_field, field_read, field_header_checks, limit_checks, read_front, version_of, file_checks, offset_checks, field_at, read_field, FileRead, end_of_file, read_file}
use Rattle.fieldfile_spec.proofs.FrontLaws.{front-iff}
use Rattle.fieldfile_spec.proofs.FileLaws.{length-head, below-file, head-iff, Reading, ends, goes, reading}
use Rattle.fieldfile_spec.proofs.CutFile.{whole-file}

-- a refusal with another number comes from what follows
judge-other : {A : Type 0} (i : ℕ) (ts : Checks) (r : Result A) (x : Refusal) → Each (λ (t : Bool × ℕ). t.1 ≡ x.number → ⊥) ts
    → judge i ts r ≡ Err x → Passed ts × (r ≡ Err x)
judge-other i [] r x h e = (tt, e)
judge-other i ((true, n) ∷ ts) r x h e = let p = judge-other i ts r x h.1 e in ((refl, p.0), p.1)
judge-other i ((false, n) ∷ ts) r x h e = let z : record { number = n; index = i } ≡ x = cc in absurd (h.0 (ap (λ (y : Refusal). y.number) z))

-- a field gives no number over 53
abbrev not_over53 : ℕ → Bool
not_over53 n = leb n 53

front-numbered : (v : Version) → (s : List ℕ) → Numbered not_over53 (read_front v s)
unfolding read_front field_header_checks anc_checks
front-numbered v s =
    judge-numbered not_over53 0 (field_header_checks v s) _ refl
    (then-numbered not_over53 (read_run rfc8331 0 (count_field v s) _) _ (run-numbered not_over53 rfc8331 (λ s. refl) 0 (count_field v s) _)
    (λ q. judge-numbered not_over53 0 (limit_checks q.0) (Ok (field_read s q.0)) refl tt))

front-number : (v : Version) → (s : List ℕ) (x : Refusal) → read_front v s ≡ Err x → x.number ≤ 53
front-number v s x e = leb-true x.number 53 (subst (Numbered not_over53) e (front-numbered v s))

-- 54 is given at the end of a file, and nowhere else
end-only : (s : List ℕ) (at : ℕ) (x : Refusal) → x.number ≡ 54 → read_field s at ≡ Err x → Passed (file_checks s) × (at ≡ length s)
unfolding read_field file_checks offset_checks
end-only s at x n e =
    let f = judge-other 0 (file_checks s) _ x ((λ (z : 50 ≡ x.number). omega arith), ((λ (z : 51 ≡ x.number). omega arith), tt)) e in
    let o = judge-other 0 ((leb file_head_size at && leb at (length s), 55) ∷ []) _ x ((λ (z : 55 ≡ x.number). omega arith), tt) f.1 in
    (f.0, go (eqb at (length s)) refl o.1)
  where
    go : (t : Bool) → eqb at (length s) ≡ t
        → judge {A = FieldContent × ℕ} 0 ((not t, 54) ∷ []) (field_at (version_of s) s at) ≡ Err x → at ≡ length s
    go true p e = eqb-true at (length s) p
    go false p e = absurd (more (read_front (version_of s) (drop at s)) refl e)
      where
        more : (v : Result FieldContent) → read_front (version_of s) (drop at s) ≡ v → ◌then◌ {B = FieldContent × ℕ} v (λ k. Ok (k, at + field_size (version_of s) k.records)) ≡ Err x → ⊥
        more (Err z) q e = let i : z ≡ x = cc in omega (arith, front-number (version_of s) (drop at s) x (q ∙ ap Err i))
        more (Ok k) q e = let z : ◌≡◌ {A = ℕ} 0 1 = cc in omega arith

-- the octets from an offset on are those of the fields that are read there, up to 54
stands : {s : List ℕ} {at : ℕ} {ks : List FieldContent} {x : Refusal} → Below 256 s → x.number ≡ 54 → Reading s at ks x
    → Passed (file_checks s) × Each (WellFormedField (version_of s)) ks × (drop at s ≡ fields_octets (version_of s) ks)
unfolding read_field
stands {s} {at} {x = x} b n (ends e) = let p = end-only s at x n e in (p.0, tt, ap (λ (y : ℕ). drop y s) p.1 ∙ drop-length s)
stands {s} {at} b n (goes {next = next} {k = k} {ks = ks} e r) =
    let v = version_of s in
    let f = judge-accepts 0 (file_checks s) _ (k, next) e in
    let o = judge-accepts 0 (offset_checks s at) _ (k, next) f.1 in
    let q = then-accepts (read_front v (drop at s)) _ (k, next) o.1 in
    let same = accepted-inj q.2 in
    let front : read_front v (drop at s) ≡ Ok k = q.1 ∙ ap Ok (ap (λ (z : FieldContent × ℕ). z.0) same) in
    let w = (front-iff v (drop at s) k (below-drop 256 at s b)).0 front in
    let size = field_size v k.records in
    let on : at + size ≡ next = ap (λ (z : FieldContent). at + field_size v z.records) (sym (ap (λ (z : FieldContent × ℕ). z.0) same)) ∙ ap (λ (z : FieldContent × ℕ). z.1) same in
    let ih = stands b n r in (
      f.0,
      (w.0, ih.1),
      sym (take-append-drop size (drop at s)) ∙ ap₂ ◌++◌ w.1 (drop-drop size at s ∙ ap (λ (y : ℕ). drop y s) on ∙ ih.2),
    )

-- A FILE reads as fields and then 54 exactly when, for some version, it is its head and the octets of those fields, well-formed, one
-- after the other
pub file-iff : (s : List ℕ) → Below 256 s → (ks : List FieldContent)
    → (read_file s ≡ record { fields = ks; end = end_of_file }) ↔ ((v : Version) × Each (WellFormedField v) ks × (s ≡ file_octets v ks))
file-iff s b ks = (
  λ e.
      let v = version_of s in
      let r = subst (λ (y : FileRead). Reading s file_head_size y.fields y.end) e (reading s (suc (length s)) file_head_size (omega arith)) in
      let p = stands b refl r in
      (v, p.1, sym (take-append-drop file_head_size s) ∙ ap₂ ◌++◌ ((head-iff v s b).0 (p.0, refl)) p.2),
  λ p. ap read_file p.2 ∙ whole-file p.0 ks p.1,
)

-- so a cut file that ends in 54 is the whole file of the fields that were read
pub cut-whole : (v : Version) (ks : List FieldContent) (n : ℕ) → (read_file (take n (file_octets v ks))).end ≡ end_of_file
    → take n (file_octets v ks) ≡ file_octets v (read_file (take n (file_octets v ks))).fields
unfolding file-iff
cut-whole v ks n e =
    let all = file_octets v ks in
    let s = take n all in
    let b = below-take 256 n all (below-file v ks) in
    let p = (file-iff s b (read_file s).fields).0 (λ i. record { fields = (read_file s).fields; end = e i }) in
    let long : length s ≡ file_head_size + length (fields_octets p.0 (read_file s).fields) =
    ap length p.2 ∙ length-append (file_head p.0) _ ∙ ap (λ (x : ℕ). x + length (fields_octets p.0 (read_file s).fields)) (length-head p.0) in
    let front : take file_head_size s ≡ file_head v = take-take file_head_size n all (omega (arith, length-take n all)) ∙ take_at (file_head v) (fields_octets v ks) file_head_size (length-head v) in
    subst (λ (w : Version). s ≡ file_octets w (read_file s).fields) ((head-iff v s b).1 front).1 p.2
