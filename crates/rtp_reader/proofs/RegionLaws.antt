-- The ANC data packets of a packet that passed 1 to 8, taken in the tolerant way.
-- By what their run is, and 13 behind it.
use Rattle.rtp_reader.specs.declared.packet.TolerantRead.{TolerantRead}
use Rattle.anc_tolerant_reader.specs.declared.check.TolerantRun.{TolerantRun}
use mathlib.Core.Path.{◌≡◌, refl, ap, ap₂, sym, ◌∙◌, subst}
use mathlib.Core.List.{List, [], ◌∷◌}
use Prim.Native.Nat.{ℕ, ◌+◌, ◌-◌, ◌≤◌}
use native.Mathlib.Omega.{arith}
use borrow.Author.Tests.{eq-eqb, ne_eqb}
use lib.Dec.{eqb}
use lib.ListN.{length, take, drop}
use Rattle.wire_spec.specs.declared.refusal.Refusal.{Refusal}
use Rattle.wire_spec.specs.declared.count.OctetCount.{OctetCount}
use Rattle.wire_spec.specs.Bits.{overwrite}
use Rattle.wire_spec.specs.Layout.{Layout, payload_header_size}
use Rattle.wire_spec.specs.Result.{Result, Err, Ok, refuse, ◌then◌, IsAccepted}
use Rattle.wire_spec.specs.Cells.{list_of}
use Rattle.wire_spec.specs.Packet.{content, packet_read, header_least, header_size, length_field, anc_count, run_at}
use Rattle.wire_spec.proofs.ResultLaws.{accepted-inj, judge-accepts, then-accepts}
use Rattle.wire_spec.proofs.PacketLaws.{sizes, header-sizes}
use Rattle.anc_tolerant_spec.specs.Tolerant.{Taken, tolerate_run, Tolerated, tolerated, tolerate_content}
use Rattle.anc_tolerant_spec.proofs.RunLaws.{run-counted}
use Rattle.anc_tolerant_spec.proofs.PacketLaws.{region, past}
use Rattle.anc_tolerant_reader.specs.Answers.{tolerant_run_of, taken_cells}
use Rattle.anc_tolerant_reader.specs.declared.check.Tally.{Tally}
use Rattle.rtp_strict_reader.specs.Answers.{head_at, summary_of}
use Rattle.rtp_strict_reader.specs.declared.packet.Summary.{Summary}
use Rattle.rtp_reader.specs.Answers.{Staged, tolerant_of, through_after}

module _ (L : Layout) (s : List ℕ) where
  -- the run
  abbrev pub run : Result Taken
  run = tolerate_run L 0 (anc_count s) (region L s)

  module _ (st : Staged L s) where
    -- header, payload header and run lie in the octets
    pub record Inside : Type 0 where
      pub least : header_least ≤ length s
      pub header : header_size s ≤ length s
      pub whole : header_size s + payload_header_size L + length_field s ≤ length s

    pub inside : Inside
    inside =
        let h = header-sizes s st.header in
        record { least = h.least; header = h.header; whole = omega (arith, (sizes L s st.header st.padding st.payload).whole) }

    content-is : tolerate_content L s ≡ (run then tolerated L s)
    content-is = past L s st.header st.padding st.payload

    pub refused-run : (x : Refusal) → tolerant_run_of run ≡ Err x → tolerate_content L s ≡ Err x
    refused-run x h = content-is ∙ go run h
      where
        go : (v : Result Taken) → tolerant_run_of v ≡ Err x → (v then tolerated L s) ≡ Err x
        go (Err y) h = let e : y ≡ x = cc in ap Err e
        go (Ok q) h = let z : ◌≡◌ {A = ℕ} 0 1 = cc in absurd (omega arith)

    module _ (t : Tally) (left : OctetCount) (h : tolerant_run_of run ≡ Ok (record { tally = t; left = left })) where
      record Ran : Type 0 where
        taken : Taken
        accepts : run ≡ Ok taken
        omitted : taken.left_out ≡ t.omitted
        cells : length (list_of taken.records) ≡ t.cells
        rest : length taken.rest ≡ left.0
        count : length taken.records + taken.left_out ≡ anc_count s

      run-found : Ran
      run-found = go run refl h
        where
          go : (v : Result Taken) → run ≡ v → tolerant_run_of v ≡ Ok (record { tally = t; left = left }) → Ran
          go (Err y) e h = let z : ◌≡◌ {A = ℕ} 0 1 = cc in absurd (omega arith)
          go (Ok q) e h =
              let u : ◌≡◌ {A = TolerantRun} (record { tally = record { omitted = q.left_out; cells = length (list_of q.records) }; left = record { 0 = length q.rest } }) (record { tally = t; left = left }) = cc in
              record {
                taken = q;
                accepts = e;
                omitted = ap (λ (x : TolerantRun). x.tally.omitted) u;
                cells = ap (λ (x : TolerantRun). x.tally.cells) u;
                rest = ap (λ (x : TolerantRun). x.left.0) u;
                count = run-counted L 0 (anc_count s) (region L s) q e;
              }

      pub omitted-few : t.omitted ≤ anc_count s
      omitted-few = let r : Ran = run-found in omega (arith, r.omitted, r.count)

      pub refused-left : (left.0 ≡ 0 → ⊥) → tolerate_content L s ≡ refuse 13 0
      unfolding tolerated
      refused-left n =
          let r : Ran = run-found in
          content-is ∙ rw (r.accepts, ne_eqb (length r.taken.rest) 0 (λ (z : length r.taken.rest ≡ 0). n (sym r.rest ∙ z)))

      -- the packet is accepted: what it says, as the code finds it
      pub accepted-run : left.0 ≡ 0
          → tolerant_of (tolerate_content L s) ≡ Ok (record { summary = record { head = head_at L s; records = anc_count s - t.omitted; cells = t.cells }; omitted = t.omitted })
      unfolding tolerated packet_read
      accepted-run z =
          let r : Ran = run-found in
          let n : length r.taken.records ≡ anc_count s - t.omitted = omega (arith, r.omitted, r.count) in
          let e : tolerate_content L s ≡ Ok (record { says = content (packet_read L r.taken.records s); left_out = r.taken.left_out }) =
          content-is ∙ rw (r.accepts, eq-eqb (length r.taken.rest) 0 (r.rest ∙ z)) in
          ap tolerant_of e ∙ λ i. Ok (record { summary = record { head = head_at L s; records = n i; cells = r.cells i }; omitted = r.omitted i })

    -- what a packet that is accepted holds
    module _ (m : Summary) (o : ℕ) (h : tolerant_of (tolerate_content L s) ≡ Ok (record { summary = m; omitted = o })) where
      pub record Outlined : Type 0 where
        pub accepts : IsAccepted run
        pub size : length (taken_cells run) ≡ m.cells
        pub after : (l : List ℕ) → overwrite (taken_cells run) l ≡ through_after (tolerate_content L s) l

      pub outlined : Outlined
      unfolding tolerated packet_read
      outlined = go (tolerate_content L s) refl h
        where
          go : (v : Result Tolerated) → tolerate_content L s ≡ v → tolerant_of v ≡ Ok (record { summary = m; omitted = o }) → Outlined
          go (Err y) e h = let z : ◌≡◌ {A = ℕ} 0 1 = cc in absurd (omega arith)
          go (Ok t) e h =
              let a = then-accepts run (tolerated L s) t (sym content-is ∙ e) in
              let q = a.0 in
              let b = judge-accepts 0 ((eqb (length q.rest) 0, 13) ∷ []) _ t a.2 in
              let same = accepted-inj b.1 in
              let cells : taken_cells run ≡ list_of t.says.records = ap taken_cells a.1 ∙ ap (λ (x : Tolerated). list_of x.says.records) same in
              let u : ◌≡◌ {A = TolerantRead} (record { summary = summary_of t.says; omitted = t.left_out }) (record { summary = m; omitted = o }) = cc in
              let k : summary_of t.says ≡ m = ap (λ (x : TolerantRead). x.summary) u in
              record {
                accepts = subst IsAccepted (sym a.1) tt;
                size = ap length cells ∙ ap (λ (x : Summary). x.cells) k;
                after = λ l. ap (λ (x : List ℕ). overwrite x l) cells ∙ ap (λ (r : Result Tolerated). through_after r l) (sym e);
              }

-- the region as the code cuts it
pub region-cut : (L : Layout) (s : List ℕ) (at end : ℕ) → at ≡ run_at L s → end ≡ run_at L s + length_field s → take (end - at) (drop at s) ≡ region L s
region-cut L s at end a e = let n : end - at ≡ length_field s = omega arith in ap₂ (λ (x y : ℕ). take x (drop y s)) n a
