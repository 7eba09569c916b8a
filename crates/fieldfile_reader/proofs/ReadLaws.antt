-- A field read stage by stage: the first stage that refuses decides, and where all pass the records are read.
-- By the nesting of the stages' checks in the definition of the reader.
use Rattle.anc_reader.specs.declared.check.Run.{Run}
use mathlib.Core.Path.{◌≡◌, refl, ap, ap₂, sym, ◌∙◌, subst}
use mathlib.Core.Bool.{true, false}
use mathlib.Core.List.{List, [], ◌∷◌}
use Prim.Native.Nat.{ℕ, ◌+◌, ◌-◌, ◌<◌, ◌≤◌}
use native.Mathlib.Omega.{arith}
use borrow.Author.Tests.{le-leb, lt-leb, leb-true}
use lib.Dec.{leb}
use lib.ListN.{length, take, drop, length-append, length-drop}
use lib.Seq.{drop-drop}
use Rattle.wire_spec.specs.declared.refusal.Refusal.{Refusal}
use Rattle.wire_spec.specs.declared.count.OctetCount.{OctetCount}
use Rattle.wire_spec.specs.Bits.{Below, overwrite}
use Rattle.wire_spec.specs.Layout.{rfc8331}
use Rattle.wire_spec.specs.Result.{Result, Err, Ok, refuse, judge, ◌then◌, IsAccepted}
use Rattle.wire_spec.specs.Anc.{Record, read_run, run_octets, run_size}
use Rattle.wire_spec.specs.Cells.{list_of}
use Rattle.wire_spec.proofs.BitLaws.{below-drop}
use Rattle.wire_spec.proofs.ListLaws.{part-all}
use Rattle.wire_spec.proofs.ResultLaws.{Passed, judge-accepts, judge-passes, then-accepts, accepted-inj, and-true}
use Rattle.wire_spec.proofs.AncLaws.{run-iff, length_run}
use Rattle.anc_reader.specs.Answers.{run_of, run_cells}
use Rattle.wire_offsets.specs.Stage.{stage_of}
use Rattle.wire_offsets.proofs.StageLaws.{stage-refused}
use Rattle.fieldfile_spec.specs.declared.format.Version.{Version}
use Rattle.fieldfile_spec.specs.File.{FieldContent, file_head_size, field_header_size, field_size, timestamp_field, file_f_field, count_field, field_read, field_header_checks, within_limits, limit_checks, read_front, version_field, is_version, version_of, file_checks, offset_checks, field_at, read_field, read_into}
use Rattle.fieldfile_reader.specs.Answers.{summary_of, read_of, cells_after}
use Rattle.fieldfile_reader.specs.declared.field.Summary.{Summary}
use Rattle.fieldfile_spec.proofs.FrontLaws.{Answer, answer-iff, header-there}

-- the field at the front of octets
module _ (v : Version) (s : List ℕ) where
  pub refused-header : (x : Refusal) → stage_of (judge 0 (field_header_checks v s) (Ok (field_header_size v))) ≡ Err x → read_front v s ≡ Err x
  unfolding read_front
  refused-header x h = stage-refused (field_header_checks v s) (field_header_size v) x _ h

  module _ (ph : Passed (field_header_checks v s)) where
    abbrev ran : Result (List Record × List ℕ)
    ran = read_run rfc8331 0 (count_field v s) (drop (field_header_size v) s)

    past : read_front v s ≡ (read_run rfc8331 0 (count_field v s) (drop (field_header_size v) s) then λ q. judge 0 (limit_checks q.0) (Ok (field_read s q.0)))
    unfolding read_front
    past = judge-passes 0 (field_header_checks v s) _ ph

    pub refused-run : (x : Refusal) → run_of rfc8331 (read_run rfc8331 0 (count_field v s) (drop (field_header_size v) s)) ≡ Err x → read_front v s ≡ Err x
    refused-run x h = past ∙ go ran h
      where
        go : (v : Result (List Record × List ℕ)) → run_of rfc8331 v ≡ Err x
            → (v then λ q. judge 0 (limit_checks q.0) (Ok (field_read s q.0))) ≡ Err x
        go (Err y) h = let e : y ≡ x = cc in ap Err e
        go (Ok q) h = let z : ◌≡◌ {A = ℕ} 0 1 = cc in absurd (omega arith)

    module _ (below : Below 256 s) (used : OctetCount) (cells : ℕ) (h : run_of rfc8331 (read_run rfc8331 0 (count_field v s) (drop (field_header_size v) s)) ≡ Ok (record { octets = used; cells = cells })) where
      record Ran : Type 0 where
        rs : List Record
        rest : List ℕ
        reads : read_run rfc8331 0 (count_field v s) (drop (field_header_size v) s) ≡ Ok (rs, rest)
        count : length rs ≡ count_field v s
        octets : run_size rfc8331 rs ≡ used.0
        size : length (list_of rs) ≡ cells
        fits : field_header_size v + used.0 ≤ length s

      run-found : Ran
      run-found = go ran refl h
        where
          go : (v : Result (List Record × List ℕ)) → ran ≡ v → run_of rfc8331 v ≡ Ok (record { octets = used; cells = cells }) → Ran
          go (Err y) e h = let z : ◌≡◌ {A = ℕ} 0 1 = cc in absurd (omega arith)
          go (Ok q) e h =
              let u : ◌≡◌ {A = Run} (record { octets = record { 0 = run_size rfc8331 q.0 }; cells = length (list_of q.0) }) (record { octets = used; cells = cells }) = cc in
              let k : run_size rfc8331 q.0 ≡ used.0 = ap (λ (y : Run). y.octets.0) u in
              let i = (run-iff rfc8331 0 (count_field v s) (drop (field_header_size v) s) (below-drop 256 (field_header_size v) s below) q.0 q.1).0 e in
              let m : length (drop (field_header_size v) s) ≡ run_size rfc8331 q.0 + length q.1 = ap length i.2 ∙ length-append (run_octets rfc8331 q.0) q.1 ∙ ap (λ (n : ℕ). n + length q.1) (length_run rfc8331 q.0) in
              record {
                rs = q.0;
                rest = q.1;
                reads = e;
                count = i.0;
                octets = k;
                size = ap (λ (y : Run). y.cells) u;
                fits = omega (arith, length-drop (field_header_size v) s, header-there v s ph);
              }

      pub run_fits : field_header_size v + used.0 ≤ length s
      run_fits = run-found.fits

      within : (r : Ran) → within_limits (count_field v s) cells ≡ within_limits (length r.rs) (length (list_of r.rs))
      within r = ap₂ within_limits (sym r.count) (sym r.size)

      pub over-limits : within_limits (count_field v s) cells ≡ false → read_front v s ≡ refuse 21 0
      over-limits l = let r : Ran = run-found in let a = sym (within r) ∙ l in past ∙ rw (r.reads, a)

      -- the field is accepted: what it says, as the code finds it
      pub found-field : within_limits (count_field v s) cells ≡ true → (at : ℕ)
          → read_of (read_front v s then λ k. Ok (k, at + field_size v k.records))
          ≡ Ok (record { timestamp = record { 0 = timestamp_field s }; f = file_f_field s; records = count_field v s; cells = cells; next = record { 0 = at + (field_header_size v + used.0) } })
      found-field l at =
          let r : Ran = run-found in
          let a = sym (within r) ∙ l in
          let e : read_front v s ≡ Ok (field_read s r.rs) = past ∙ rw (r.reads, a) in
          ap (λ x. read_of (x then λ k. Ok (k, at + field_size v k.records))) e
          ∙ λ i. Ok (record { timestamp = record { 0 = timestamp_field s }; f = file_f_field s; records = r.count i; cells = r.size i; next = record { 0 = at + (field_header_size v + r.octets i) } })

-- the field at an offset
module _ (s : List ℕ) (at : ℕ) where
  abbrev v : Version
  v = version_of s

  pub refused-file : (x : Refusal) → stage_of (judge 0 (file_checks s) (Ok file_head_size)) ≡ Err x → read_field s at ≡ Err x
  unfolding read_field
  refused-file x h = stage-refused (file_checks s) file_head_size x _ h

  -- the head of a file that passes stands there
  pub file-there : Passed (file_checks s) → file_head_size ≤ length s
  unfolding file_checks
  file-there p = leb-true file_head_size (length s) (and-true (leb file_head_size (length s)) (is_version (version_field s)) p.1.0).0

  pub refused-offset : (x : Refusal) → Passed (file_checks s) → stage_of (judge 0 (offset_checks s at) (Ok at)) ≡ Err x → read_field s at ≡ Err x
  unfolding read_field
  refused-offset x p h = judge-passes 0 (file_checks s) _ p ∙ stage-refused (offset_checks s at) at x _ h

  -- an offset that passes is within the file
  pub offset-there : Passed (offset_checks s at) → at ≤ length s
  unfolding offset_checks
  offset-there p = leb-true at (length s) (and-true (leb file_head_size at) (leb at (length s)) p.0).1

  pub passed-both : Passed (file_checks s) → Passed (offset_checks s at) → read_field s at ≡ field_at (version_of s) s at
  unfolding read_field
  passed-both p q = judge-passes 0 (file_checks s) _ p ∙ judge-passes 0 (offset_checks s at) _ q

  -- a field whose check refused
  pub into-refused : (room : ℕ) (x : Refusal) → read_of (read_field s at) ≡ Err x → read_into s at room ≡ Err x
  unfolding read_into
  into-refused room x h = go (read_field s at) h
    where
      go : (r : Result (FieldContent × ℕ)) → read_of r ≡ Err x
          → (r then λ q. judge 0 ((leb (length (list_of q.0.records)) room, 14) ∷ []) (Ok q)) ≡ Err x
      go (Err y) h = let e : y ≡ x = cc in ap Err e
      go (Ok q) h = let z : ◌≡◌ {A = ℕ} 0 1 = cc in absurd (omega arith)

  -- a field whose check accepted, with what the check told
  module _ (y : Summary) (h : read_of (read_field s at) ≡ Ok y) where
    record Told : Type 0 where
      says : FieldContent × ℕ
      reads : read_field s at ≡ Ok says
      told : summary_of says ≡ y

    told : Told
    told = go (read_field s at) refl h
      where
        go : (r : Result (FieldContent × ℕ)) → read_field s at ≡ r → read_of r ≡ Ok y → Told
        go (Err x) e h = let z : ◌≡◌ {A = ℕ} 0 1 = cc in absurd (omega arith)
        go (Ok q) e h = record { says = q; reads = e; told = (cc) }

    -- 14, where the list is too short
    pub into-short : (room : ℕ) → room < y.cells → read_into s at room ≡ refuse 14 0
    unfolding read_into
    into-short room l =
        let t : Told = told in
        let n = length (list_of t.says.0.records) in
        let e : n ≡ y.cells = ap (λ (z : Summary). z.cells) t.told in
        let b : leb n room ≡ false = lt-leb n room (omega arith) in
        rw (t.reads, b)

    -- and nothing more to refuse where it is not
    pub into-fits : (room : ℕ) → y.cells ≤ room → read_into s at room ≡ read_field s at
    unfolding read_into
    into-fits room l =
        let t : Told = told in
        let n = length (list_of t.says.0.records) in
        let e : n ≡ y.cells = ap (λ (z : Summary). z.cells) t.told in
        let b : leb n room ≡ true = le-leb n room (omega arith) in
        rw (t.reads, b)

    -- the head stands there
    pub head-there : file_head_size ≤ length s
    unfolding read_field
    head-there = let t : Told = told in file-there (judge-accepts 0 (file_checks s) _ t.says t.reads).0

    -- the run, where the code reads it: behind a header of so many octets
    abbrev pub field_run : ℕ → Result (List Record × List ℕ)
    field_run header = read_run rfc8331 0 y.records (take (length s - (at + header)) (drop (at + header) s))

    pub record RunTold (header : ℕ) : Type 0 where
      pub inside : at + header ≤ length s
      pub accepts : IsAccepted (field_run header)
      pub size : length (run_cells (field_run header)) ≡ y.cells
      pub after : (l : List ℕ) → overwrite (run_cells (field_run header)) l ≡ cells_after (read_field s at) l

    told-behind : Below 256 s → RunTold (field_header_size v)
    unfolding read_field
    told-behind below =
        let t : Told = told in
        let f = judge-accepts 0 (file_checks s) _ t.says t.reads in
        let o = judge-accepts 0 (offset_checks s at) _ t.says f.1 in
        let k = then-accepts (read_front v (drop at s)) _ t.says o.1 in
        let a : Answer v (drop at s) k.0 = (answer-iff v (drop at s) k.0).0 k.1 in
        let rs : k.0.records ≡ t.says.0.records = ap (λ (z : FieldContent × ℕ). z.0.records) (accepted-inj k.2) in
        let i = (run-iff rfc8331 0 (count_field v (drop at s)) (drop (field_header_size v) (drop at s)) (below-drop 256 (field_header_size v) (drop at s) (below-drop 256 at s below)) k.0.records a.rest).0 a.ran in
        let count : y.records ≡ count_field v (drop at s) = ap (λ (z : Summary). z.records) (sym t.told) ∙ ap length (sym rs) ∙ i.0 in
        let here : take (length s - (at + field_header_size v)) (drop (at + field_header_size v) s) ≡ drop (field_header_size v) (drop at s) =
        part-all (at + field_header_size v) s ∙ sym (drop-drop (field_header_size v) at s) in
        let e : field_run (field_header_size v) ≡ Ok (t.says.0.records, a.rest) =
        ap₂ (read_run rfc8331 0) count here ∙ a.ran ∙ ap (λ (z : List Record). Ok (z, a.rest)) rs in
        let cs : run_cells (field_run (field_header_size v)) ≡ list_of t.says.0.records = ap run_cells e in
        record {
          inside = omega (arith, header-there v (drop at s) a.header, length-drop at s, offset-there o.0);
          accepts = subst IsAccepted (sym e) tt;
          size = ap length cs ∙ ap (λ (z : Summary). z.cells) t.told;
          after = λ l. ap (λ (z : List ℕ). overwrite z l) cs ∙ ap (λ (r : Result (FieldContent × ℕ)). cells_after r l) (sym t.reads);
        }

    pub run-told : Below 256 s → (header : ℕ) → header ≡ field_header_size (version_of s) → RunTold header
    run-told below header is = subst RunTold (sym is) (told-behind below)
