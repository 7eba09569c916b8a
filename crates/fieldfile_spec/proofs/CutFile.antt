-- A file that is cut anywhere reads as the fields that stand whole in it, and then ends in a numbered refusal: 50 or 51 in
-- the head, 54 at a field's end, 52 in a field's header, 9 in an ANC data packet. Nothing is invented.
-- By the octets that are left from each field on; a packet that is cut is still read up to its Data_Count.
use mathlib.Core.Path.{◌≡◌, refl, ap, sym, ◌∙◌, subst}
use mathlib.Core.Bool.{Bool, true, false, cond}
use mathlib.Core.List.{List, [], ◌∷◌, ◌++◌, append_assoc}
use Prim.Native.Nat.{ℕ, zero, suc, ◌+◌, ◌-◌, ◌*◌, ◌%◌, ◌<◌, ◌≤◌}
use native.Mathlib.Nat.{zero-add, add-zero, le_refl}
use native.Mathlib.Omega.{arith}
use lib.Dec.{eqb, leb}
use lib.ListN.{length, take, drop, length-append}
use lib.Seq.{length-take-le, take_all, take_at, drop_at, take-append-le, take-append-add, take-nil}
use borrow.Author.Tests.{leb-true, leb-false, le-leb, lt-leb, ne_eqb}
use Rattle.wire_spec.specs.Bits.{to_bits, num, bits, octets, field_bits, bits_at, row_at, pack}
use Rattle.wire_spec.specs.Words.{word_bits, header_numbers}
use Rattle.wire_spec.specs.Layout.{rfc8331, least_size}
use Rattle.wire_spec.specs.Result.{Err, Ok, refuse, ◌then◌}
use Rattle.wire_spec.specs.Anc.{Record, WellFormed, Each, anc_octets, run_octets, anc_size, run_size, did_at, data_count, anc_record, headers_ok, are_header_words, anc_checks, read_anc, behind, read_run}
use Rattle.wire_spec.proofs.BitLaws.{length-pack, below-octets, below-take}
use Rattle.wire_spec.proofs.Window.{bits_at-slice}
use Rattle.wire_spec.proofs.ResultLaws.{judge-accepts, judge-passes}
use Rattle.wire_spec.proofs.SizeLaws.{length-anc}
use Rattle.wire_spec.proofs.AncLaws.{accepts-iff, count-read, below-run}
use Rattle.fieldfile_spec.specs.declared.format.Version.{Version}
use Rattle.fieldfile_spec.specs.declared.format.Version.TheVariants as version
use Rattle.fieldfile_spec.specs.File.{file_head_size, name_size, field_header_size, FieldContent, file_head, field_header_fields, field_octets, field_size, fields_octets, file_octets, WellFormedField, field_header_checks, read_front, file_checks, read_field, end_of_file, no_field, field_then, read_from, read_file}
use Rattle.fieldfile_spec.specs.Cut.{cut_packet, cut_end, cut_fields, cut_file}
use Rattle.fieldfile_spec.proofs.FrontLaws.{header-bits, header-least, length-field, HeaderFound, header-found}
use Rattle.fieldfile_spec.proofs.FileLaws.{length-head, IsFile, below-fields, field-read, head-passes, at-end, at_field, Reading, ends, goes, reading-is}

-- octets that are left read as before
cut-bits : (s : List ℕ) (m k n : ℕ) → k + n ≤ 8 * m → bits_at (take m s) k n ≡ bits_at s k n
cut-bits s m k n h = bits_at-slice s 0 m k n h ∙ ap (λ (x : ℕ). bits_at s x n) (zero-add k)

-- a packet that is cut
module _ (r : Record) (w : WellFormed rfc8331 r) (i m : ℕ) (cut : m < anc_size rfc8331 (length r.words)) where
  abbrev whole : List ℕ
  whole = anc_octets rfc8331 r

  length_cut : length (take m whole) ≡ m
  length_cut = length-take-le m whole (omega (arith, length-anc rfc8331 r))

  -- under the least size
  cut-least : m < least_size rfc8331 → read_anc rfc8331 i (take m whole) ≡ refuse 9 i
  unfolding read_anc anc_checks
  cut-least h =
      let a : leb (least_size rfc8331) (length (take m whole)) ≡ false = lt-leb (least_size rfc8331) (length (take m whole)) (omega (arith, length_cut)) in
      rw a

  -- under its own size, which its Data_Count tells
  cut-size : least_size rfc8331 ≤ m → read_anc rfc8331 i (take m whole) ≡ refuse 9 i
  unfolding read_anc anc_checks headers_ok row_at
  cut-size h =
      let s = take m whole in
      let all = (accepts-iff rfc8331 whole (below-octets _ _) i r).1 (w, take_all (anc_size rfc8331 (length r.words)) whole (omega (arith, length-anc rfc8331 r))) in
      let p = (judge-accepts i (anc_checks rfc8331 whole) (Ok (anc_record rfc8331 whole)) r all).0 in
      let e1 = cut-bits whole m (did_at rfc8331) word_bits (omega arith) in
      let e2 = cut-bits whole m (did_at rfc8331 + word_bits) word_bits (omega arith) in
      let e3 = cut-bits whole m (did_at rfc8331 + word_bits + word_bits) word_bits (omega arith) in
      let a : leb (least_size rfc8331) (length s) ≡ true = le-leb (least_size rfc8331) (length s) (omega (arith, length_cut)) in
      let b : headers_ok rfc8331 s ≡ true = (λ j. are_header_words (e1 j ∷ e2 j ∷ e3 j ∷ [])) ∙ p.1.0 in
      let n : data_count rfc8331 s ≡ length r.words = ap (λ (x : ℕ). x % header_numbers) e3 ∙ count-read rfc8331 whole i r all in
      let c : leb (anc_size rfc8331 (data_count rfc8331 s)) (length s) ≡ false = lt-leb (anc_size rfc8331 (data_count rfc8331 s)) (length s) (rw n (omega (arith, length_cut))) in
      rw (a, b, c)

  packet-cut : read_anc rfc8331 i (take m whole) ≡ refuse 9 i
  packet-cut = go (leb (least_size rfc8331) m) refl
    where
      go : (t : Bool) → leb (least_size rfc8331) m ≡ t → read_anc rfc8331 i (take m whole) ≡ refuse 9 i
      go true e = cut-size (leb-true (least_size rfc8331) m e)
      go false e = cut-least (leb-false (least_size rfc8331) m e)

-- what is left of two parts: all of the first and some of the second, or some of the first
beyond : {A : Type 0} (a b : List A) (m : ℕ) → length a ≤ m → take m (a ++ b) ≡ a ++ take (m - length a) b
beyond a b m h = let e : m ≡ length a + (m - length a) = omega arith in ap (λ (x : ℕ). take x (a ++ b)) e ∙ take-append-add a b (m - length a)

-- a run that is cut, from its first packet on
module _ (i : ℕ) (r : Record) (rs : List Record) (m : ℕ) (w : WellFormed rfc8331 r) (more : (j : ℕ) → j < run_size rfc8331 rs → read_run rfc8331 (i + 1) (length rs) (take j (run_octets rfc8331 rs)) ≡ refuse 9 (i + 1 + cut_packet j rs)) (cut : m < run_size rfc8331 (r ∷ rs)) where
  abbrev o : List ℕ
  o = anc_octets rfc8331 r

  abbrev size : ℕ
  size = anc_size rfc8331 (length r.words)

  abbrev s : List ℕ
  s = take m (o ++ run_octets rfc8331 rs)

  run-next : (t : Bool) → leb size m ≡ t
      → read_run rfc8331 i (suc (length rs)) s ≡ refuse 9 (i + cond t (suc (cut_packet (m - size) rs)) 0)
  unfolding read_run
  run-next true e =
      let l = leb-true size m e in
      let lo : length o ≡ size = length-anc rfc8331 r in
      let left = take (m - size) (run_octets rfc8331 rs) in
      let parts : s ≡ o ++ left = beyond o (run_octets rfc8331 rs) m (omega arith) ∙ ap (λ (x : ℕ). o ++ take (m - x) (run_octets rfc8331 rs)) lo in
      let one : read_anc rfc8331 i s ≡ Ok r = (accepts-iff rfc8331 s (below-take 256 m (o ++ run_octets rfc8331 rs) (below-run rfc8331 (r ∷ rs))) i r).1 (w, ap (take size) parts ∙ take_at o left size lo) in
      let rest : behind rfc8331 s ≡ left = ap (λ (x : ℕ). drop (anc_size rfc8331 x) s) (count-read rfc8331 s i r one) ∙ ap (drop size) parts ∙ drop_at o left size lo in
      let n : i + 1 + cut_packet (m - size) rs ≡ i + suc (cut_packet (m - size) rs) = omega arith in
      rw (one, rest, more (m - size) (omega arith), n)
  run-next false e =
      let l = leb-false size m e in
      let parts : s ≡ take m o = take-append-le m o (run_octets rfc8331 rs) (omega (arith, length-anc rfc8331 r)) in
      rw (parts, packet-cut r w i m l, add-zero i)

run-cut : (i : ℕ) (rs : List Record) → Each (WellFormed rfc8331) rs → (m : ℕ) → m < run_size rfc8331 rs
    → read_run rfc8331 i (length rs) (take m (run_octets rfc8331 rs)) ≡ refuse 9 (i + cut_packet m rs)
unfolding read_run
run-cut i [] w m h = absurd (omega arith)
run-cut i (r ∷ rs) w m h = run-next i r rs m w.0 (λ j l. run-cut (i + 1) rs w.1 j l) h (leb (anc_size rfc8331 (length r.words)) m) refl

-- a field that is cut
module _ (v : Version) (k : FieldContent) (w : WellFormedField v k) (m : ℕ) (some : 0 < m) (cut : m < field_size v k.records) where
  -- in its header
  cut-header : m < field_header_size v → read_front v (take m (field_octets v k)) ≡ refuse 52 0
  unfolding read_front field_header_checks
  cut-header h =
      let s = take m (field_octets v k) in
      let a : leb (field_header_size v) (length s) ≡ false = lt-leb (field_header_size v) (length s) (omega (arith, length-take-le m (field_octets v k) (omega (arith, length-field v k)))) in
      rw a

  -- behind it
  cut-run : field_header_size v ≤ m → read_front v (take m (field_octets v k)) ≡ refuse 9 (cut_packet (m - field_header_size v) k.records)
  unfolding read_front
  cut-run h =
      let rs = k.records in
      let fs = field_header_fields v k.timestamp k.f (length rs) in
      let s = take m (field_octets v k) in
      let t = take (m - field_header_size v) (run_octets rfc8331 rs) in
      let lp : length (pack fs) ≡ field_header_size v = length-pack [] fs (field_header_size v) (header-bits v) in
      let parts : s ≡ pack fs ++ t = beyond (pack fs) (run_octets rfc8331 rs) m (omega arith) ∙ ap (λ (x : ℕ). pack fs ++ take (m - x) (run_octets rfc8331 rs)) lp in
      let f : HeaderFound v s k t = header-found v s k t w parts in
      let r = run-cut 0 rs w.records (m - field_header_size v) (omega arith) in
      judge-passes 0 (field_header_checks v s) _ f.passed ∙ rw (f.count, f.behind, r, zero-add (cut_packet (m - field_header_size v) rs))

  field_cut : read_front v (take m (field_octets v k)) ≡ Err (cut_end v m k)
  field_cut = let z : eqb m 0 ≡ false = ne_eqb m 0 (λ (e : m ≡ 0). omega arith) in rw z (go (leb (field_header_size v) m) refl)
    where
      go : (t : Bool) → leb (field_header_size v) m ≡ t
          → read_front v (take m (field_octets v k)) ≡ Err (cond t (record { number = 9; index = cut_packet (m - field_header_size v) k.records }) (record { number = 52; index = 0 }))
      go true e = cut-run (leb-true (field_header_size v) m e)
      go false e = cut-header (leb-false (field_header_size v) m e)

-- fields that are cut, behind what stands before them
fields-cut : (v : Version) → (s pre : List ℕ) (ks : List FieldContent) (m : ℕ) → Each (WellFormedField v) ks → s ≡ pre ++ take m (fields_octets v ks) → IsFile v s → file_head_size ≤ length pre
    → Reading s (length pre) (cut_fields v m ks).fields (cut_fields v m ks).end
fields-cut v s pre [] m w e p l = ends (at-end v s pre (take m []) e p l (ap length (take-nil m)))
fields-cut v s pre (k ∷ ks) m w e p l = go (leb (field_size v k.records) m) refl (λ q j d g. fields-cut v s q ks j w.1 d p g)
  where
    go : (t : Bool) → leb (field_size v k.records) m ≡ t
        → ((q : List ℕ) (j : ℕ) → s ≡ q ++ take j (fields_octets v ks) → file_head_size ≤ length q → Reading s (length q) (cut_fields v j ks).fields (cut_fields v j ks).end)
        → let r = cond t (field_then k (cut_fields v (m - field_size v k.records) ks)) (no_field (cut_end v m k)) in Reading s (length pre) r.fields r.end
    go true h more =
        let o = field_octets v k in
        let size = field_size v k.records in
        let lo : length o ≡ size = length-field v k in
        let a = leb-true size m h in
        let t = take (m - size) (fields_octets v ks) in
        let left : take m (o ++ fields_octets v ks) ≡ o ++ t = beyond o (fields_octets v ks) m (omega arith) ∙ ap (λ (x : ℕ). o ++ take (m - x) (fields_octets v ks)) lo in
        let parts : s ≡ pre ++ (o ++ t) = e ∙ ap (λ (x : List ℕ). pre ++ x) left in
        let one : read_field s (length pre) ≡ Ok (k, length pre + size) =
        at_field v s pre (o ++ t) parts p l (omega (arith, length-append o t, header-least v))
        ∙ ap (λ x. x then λ k. Ok (k, length pre + field_size v k.records)) (field-read v k w.0 t (below-take 256 (m - size) (fields_octets v ks) (below-fields v ks))) in
        let next : length (pre ++ o) ≡ length pre + size = length-append pre o ∙ ap (λ (x : ℕ). length pre + x) lo in
        goes one (subst (λ (x : ℕ). Reading s x (cut_fields v (m - size) ks).fields (cut_fields v (m - size) ks).end) next (more (pre ++ o) (m - size) (parts ∙ sym (append_assoc pre o t)) (omega arith)))
    go false h more =
        let o = field_octets v k in
        let size = field_size v k.records in
        let a = leb-false size m h in
        let left : take m (o ++ fields_octets v ks) ≡ take m o = take-append-le m o (fields_octets v ks) (omega (arith, length-field v k)) in
        let parts : s ≡ pre ++ take m o = e ∙ ap (λ (x : List ℕ). pre ++ x) left in
        ends (stops m a parts)
      where
        stops : (m : ℕ) → m < field_size v k.records → s ≡ pre ++ take m (field_octets v k) → read_field s (length pre) ≡ Err (cut_end v m k)
        stops zero a parts = at-end v s pre [] parts p l refl
        stops (suc m) a parts =
            at_field v s pre (take (suc m) (field_octets v k)) parts p l (omega (arith, length-take-le (suc m) (field_octets v k) (omega (arith, length-field v k))))
            ∙ ap (λ x. x then λ k. Ok (k, length pre + field_size v k.records)) (field_cut v k w.0 (suc m) (omega arith) a)

-- a file that is cut behind its head
behind-head : (v : Version) → (ks : List FieldContent) → Each (WellFormedField v) ks → (m : ℕ) → read_file (file_head v ++ take m (fields_octets v ks)) ≡ cut_fields v m ks
behind-head v ks w m =
    let s = file_head v ++ take m (fields_octets v ks) in
    let p = head-passes v (take m (fields_octets v ks)) (below-take 256 m (fields_octets v ks) (below-fields v ks)) in
    let r = fields-cut v s (file_head v) ks m w refl p (omega (arith, length-head v)) in
    reading-is (subst (λ (x : ℕ). Reading s x (cut_fields v m ks).fields (cut_fields v m ks).end) (length-head v) r) (suc (length s)) (omega arith)

-- a file that is cut in its head
in_head : (v : Version) → (ks : List FieldContent) (n : ℕ) → n < file_head_size → read_file (take n (file_octets v ks)) ≡ cut_file v n ks
unfolding to_bits num bits octets field_bits bits_at file_checks read_field read_from
in_head version.One ks zero h = refl
in_head version.Two ks zero h = refl
in_head version.One ks (suc zero) h = refl
in_head version.Two ks (suc zero) h = refl
in_head version.One ks (suc (suc zero)) h = refl
in_head version.Two ks (suc (suc zero)) h = refl
in_head version.One ks (suc (suc (suc zero))) h = refl
in_head version.Two ks (suc (suc (suc zero))) h = refl
in_head version.One ks (suc (suc (suc (suc zero)))) h = refl
in_head version.Two ks (suc (suc (suc (suc zero)))) h = refl
in_head v ks (suc (suc (suc (suc (suc n))))) h = absurd (omega arith)

-- A CUT FILE reads as the fields that stand whole in it, and ends in the refusal of the place of the cut
pub cut-file : (v : Version) → (ks : List FieldContent) → Each (WellFormedField v) ks → (n : ℕ) → read_file (take n (file_octets v ks)) ≡ cut_file v n ks
cut-file v ks w n = go (leb file_head_size n) refl
  where
    go : (t : Bool) → leb file_head_size n ≡ t → read_file (take n (file_octets v ks)) ≡ cut_file v n ks
    go false e = in_head v ks n (leb-false file_head_size n e)
    go true e =
        let l = leb-true file_head_size n e in
        let b : leb name_size n ≡ true = le-leb name_size n (omega arith) in
        let parts = beyond (file_head v) (fields_octets v ks) n (omega (arith, length-head v)) ∙ ap (λ (x : ℕ). file_head v ++ take (n - x) (fields_octets v ks)) (length-head v) in
        ap read_file parts ∙ behind-head v ks w (n - file_head_size) ∙ rw (b, e)

-- fields that are not cut
uncut : (v : Version) → (ks : List FieldContent) → cut_fields v (length (fields_octets v ks)) ks ≡ record { fields = ks; end = end_of_file }
uncut v [] = refl
uncut v (k ∷ ks) =
    let size = field_size v k.records in
    let n = length (fields_octets v (k ∷ ks)) in
    let e : n ≡ size + length (fields_octets v ks) = length-append (field_octets v k) (fields_octets v ks) ∙ ap (λ (x : ℕ). x + length (fields_octets v ks)) (length-field v k) in
    let a : leb size n ≡ true = le-leb size n (omega arith) in
    let d : n - size ≡ length (fields_octets v ks) = omega arith in
    rw (a, d) (ap (field_then k) (uncut v ks))

-- A WHOLE FILE, the head and then any well-formed fields one after the other, reads as exactly those fields in order, and then 54
pub whole-file : (v : Version) → (ks : List FieldContent) → Each (WellFormedField v) ks → read_file (file_octets v ks) ≡ record { fields = ks; end = end_of_file }
whole-file v ks w =
    let all = take_all (length (fields_octets v ks)) (fields_octets v ks) (le_refl (length (fields_octets v ks))) in
    ap (λ (x : List ℕ). read_file (file_head v ++ x)) (sym all) ∙ behind-head v ks w (length (fields_octets v ks)) ∙ uncut v ks

-- NOTHING IS INVENTED: the fields of a cut file are the first of the file's fields
fields-prefix : (v : Version) → (m : ℕ) (ks : List FieldContent) → (cut_fields v m ks).fields ≡ take (length (cut_fields v m ks).fields) ks
fields-prefix v m [] = refl
fields-prefix v m (k ∷ ks) = go (leb (field_size v k.records) m) (fields-prefix v (m - field_size v k.records) ks)
  where
    go : (t : Bool) → let r = cut_fields v (m - field_size v k.records) ks in r.fields ≡ take (length r.fields) ks
        → let s = cond t (field_then k r) (no_field (cut_end v m k)) in s.fields ≡ take (length s.fields) (k ∷ ks)
    go true h = ap (λ (x : List FieldContent). k ∷ x) h
    go false h = refl

pub cut-prefix : (v : Version) → (ks : List FieldContent) → Each (WellFormedField v) ks → (n : ℕ)
    → (read_file (take n (file_octets v ks))).fields ≡ take (length (read_file (take n (file_octets v ks))).fields) ks
cut-prefix v ks w n = rw (cut-file v ks w n) (go (leb name_size n) (leb file_head_size n))
  where
    go : (a b : Bool)
        → let r = cond a (cond b (cut_fields v (n - file_head_size) ks) (no_field (record { number = 51; index = 0 }))) (no_field (record { number = 50; index = 0 })) in
        r.fields ≡ take (length r.fields) ks
    go true true = fields-prefix v (n - file_head_size) ks
    go true false = refl
    go false b = refl
