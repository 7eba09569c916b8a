-- A packet read stage by stage: the first stage that refuses decides, and where all pass the records are read.
-- By the nesting of the stages' checks in the definition of the reader.
use Rattle.anc_reader.specs.declared.check.Run.{Run}
use mathlib.Core.Path.{◌≡◌, refl, ap, sym, ◌∙◌}
use mathlib.Core.Bool.{true, false}
use mathlib.Core.List.{List, [], ◌∷◌}
use Prim.Native.Nat.{ℕ, ◌+◌, ◌<◌, ◌≤◌}
use native.Mathlib.Omega.{arith}
use borrow.Author.Tests.{eq-eqb, ne_eqb}
use lib.Dec.{eqb}
use lib.ListN.{length, take, drop, length-append, length-drop}
use lib.Seq.{length-take-le}
use Rattle.wire_spec.specs.declared.refusal.Refusal.{Refusal}
use Rattle.wire_spec.specs.declared.count.OctetCount.{OctetCount}
use Rattle.wire_spec.specs.Bits.{Below}
use Rattle.wire_spec.specs.Layout.{Layout, payload_header_size}
use Rattle.wire_spec.specs.Result.{Result, Err, Ok, refuse, judge, ◌then◌}
use Rattle.wire_spec.specs.Anc.{Record, read_run, run_octets, run_size}
use Rattle.wire_spec.specs.Cells.{list_of}
use Rattle.wire_spec.specs.Packet.{content, packet_read, header_least, header_size, payload_size, length_field, anc_count, run_at, header_checks, padding_checks, payload_checks, read_records, read_packet, read_content}
use Rattle.wire_spec.proofs.BitLaws.{below-take, below-drop}
use Rattle.wire_spec.proofs.ResultLaws.{Passed, judge-accepts, judge-passes, accepted-inj}
use Rattle.wire_spec.proofs.AncLaws.{run-iff, length_run}
use Rattle.wire_spec.proofs.PacketLaws.{Sizes, sizes}
use Rattle.anc_reader.specs.Answers.{run_of}
use Rattle.wire_offsets.specs.Stage.{stage_of}
use Rattle.wire_offsets.proofs.StageLaws.{stage-refused}
use Rattle.rtp_strict_reader.specs.Answers.{front_checked, checked_of}

module _ (L : Layout) where
  module _ (s : List ℕ) where
    pub refused-header : (x : Refusal) → stage_of (judge 0 (header_checks s) (Ok (header_size s))) ≡ Err x → read_content L s ≡ Err x
    unfolding read_content read_packet
    refused-header x h =
        ap (λ k. k then λ k. Ok (content k)) (stage-refused (header_checks s) (header_size s) x _ h)

    module _ (ph : Passed (header_checks s)) where
      pub refused-padding : (x : Refusal) → stage_of (judge 0 (padding_checks L s) (Ok (payload_size s))) ≡ Err x → read_content L s ≡ Err x
      unfolding read_content read_packet
      refused-padding x h =
          ap (λ k. k then λ k. Ok (content k))
          (judge-passes 0 (header_checks s) _ ph ∙ stage-refused (padding_checks L s) (payload_size s) x _ h)

      module _ (pp : Passed (padding_checks L s)) where
        pub refused-payload : (x : Refusal) → stage_of (judge 0 (payload_checks L s) (Ok (length_field s))) ≡ Err x → read_content L s ≡ Err x
        unfolding read_content read_packet
        refused-payload x h =
            ap (λ k. k then λ k. Ok (content k))
            (judge-passes 0 (header_checks s) _ ph ∙ judge-passes 0 (padding_checks L s) _ pp ∙ stage-refused (payload_checks L s) (length_field s) x _ h)

        module _ (py : Passed (payload_checks L s)) where
          -- the records, and what the packet says with them
          past : read_content L s ≡ ((read_records L s then λ rs. Ok (packet_read L rs s)) then λ k. Ok (content k))
          unfolding read_content read_packet
          past =
              ap (λ k. k then λ k. Ok (content k))
              (judge-passes 0 (header_checks s) _ ph ∙ judge-passes 0 (padding_checks L s) _ pp ∙ judge-passes 0 (payload_checks L s) _ py)

          -- the octets of the ANC data packets
          abbrev pub region : List ℕ
          region = take (length_field s) (drop (run_at L s) s)

          pub refused-run : (x : Refusal) → run_of L (read_run L 0 (anc_count s) region) ≡ Err x → read_content L s ≡ Err x
          unfolding read_records
          refused-run x h = past ∙ go (read_run L 0 (anc_count s) region) h
            where
              go : (v : Result (List Record × List ℕ)) → run_of L v ≡ Err x
                  → (((v then λ q. judge 0 ((eqb (length q.1) 0, 13) ∷ []) (Ok q.0)) then λ rs. Ok (packet_read L rs s)) then λ k. Ok (content k)) ≡ Err x
              go (Err y) h = let e : y ≡ x = cc in ap Err e
              go (Ok q) h = let z : ◌≡◌ {A = ℕ} 0 1 = cc in absurd (omega arith)

          module _ (below : Below 256 s) (used : OctetCount) (cells : ℕ) (h : run_of L (read_run L 0 (anc_count s) region) ≡ Ok (record { octets = used; cells = cells })) where
            record Ran : Type 0 where
              rs : List Record
              rest : List ℕ
              ran : read_run L 0 (anc_count s) region ≡ Ok (rs, rest)
              count : length rs ≡ anc_count s
              size : cells ≡ length (list_of rs)
              left : used.0 + length rest ≡ length_field s

            run-found : Ran
            run-found = go (read_run L 0 (anc_count s) region) refl h
              where
                go : (v : Result (List Record × List ℕ)) → read_run L 0 (anc_count s) region ≡ v → run_of L v ≡ Ok (record { octets = used; cells = cells }) → Ran
                go (Err y) e h = let z : ◌≡◌ {A = ℕ} 0 1 = cc in absurd (omega arith)
                go (Ok q) e h =
                    let u : ◌≡◌ {A = Run} (record { octets = record { 0 = run_size L q.0 }; cells = length (list_of q.0) }) (record { octets = used; cells = cells }) = cc in
                    let k : run_size L q.0 ≡ used.0 = ap (λ (y : Run). y.octets.0) u in
                    let b : Below 256 region = below-take 256 (length_field s) (drop (run_at L s) s) (below-drop 256 (run_at L s) s below) in
                    let i = (run-iff L 0 (anc_count s) region b q.0 q.1).0 e in
                    let z : Sizes L s = sizes L s ph pp py in
                    let l : length region ≡ length_field s = length-take-le (length_field s) (drop (run_at L s) s) (rw (length-drop (run_at L s) s) (omega (arith, z.whole))) in
                    let m : length region ≡ run_size L q.0 + length q.1 = ap length i.2 ∙ length-append (run_octets L q.0) q.1 ∙ ap (λ (n : ℕ). n + length q.1) (length_run L q.0) in
                    record { rs = q.0; rest = q.1; ran = e; count = i.0; size = sym (ap (λ (y : Run). y.cells) u); left = omega arith }

            pub refused-left : used.0 < length_field s → read_content L s ≡ refuse 13 0
            unfolding read_records
            refused-left l =
                let r : Ran = run-found in
                let t : eqb (length r.rest) 0 ≡ false = ne_eqb (length r.rest) 0 (λ (z : length r.rest ≡ 0). omega (arith, r.left)) in
                past ∙ rw (r.ran, t)

            -- the packet is accepted: what it says, as the code finds it
            pub accepted-run : length_field s ≤ used.0
                → checked_of L s (read_content L s) ≡ Ok (record { header = record { 0 = header_size s }; length = record { 0 = length_field s }; records = anc_count s; cells = cells })
            unfolding read_records packet_read
            accepted-run l =
                let r : Ran = run-found in
                let t : eqb (length r.rest) 0 ≡ true = eq-eqb (length r.rest) 0 (omega (arith, r.left)) in
                let e : read_content L s ≡ Ok (content (packet_read L r.rs s)) = past ∙ rw (r.ran, t) in
                ap (checked_of L s) e
                ∙ λ i. Ok (record { header = record { 0 = header_size s }; length = record { 0 = length_field s }; records = r.count i; cells = sym r.size i })

  -- the stages that came before the ANC data packets, passed
  pub record Front (s : List ℕ) (n m : ℕ) : Type 0 where
    pub header-passed : Passed (header_checks s)
    pub padding-passed : Passed (padding_checks L s)
    pub payload-passed : Passed (payload_checks L s)
    pub header : header_size s ≡ n
    pub length : length_field s ≡ m
    pub least : header_least ≤ n
    pub whole : n + payload_header_size L + m ≤ lib.ListN.length s

  pub front : (s : List ℕ) (n m : ℕ) → front_checked L s ≡ Ok (n, m) → Front s n m
  front s n m e =
      let a = judge-accepts 0 (header_checks s) _ (n, m) e in
      let b = judge-accepts 0 (padding_checks L s) _ (n, m) a.1 in
      let c = judge-accepts 0 (payload_checks L s) (Ok (header_size s, length_field s)) (n, m) b.1 in
      let same : ◌≡◌ {A = ℕ × ℕ} (header_size s, length_field s) (n, m) = accepted-inj c.1 in
      let h : header_size s ≡ n = ap (λ (q : ℕ × ℕ). q.0) same in
      let l : length_field s ≡ m = ap (λ (q : ℕ × ℕ). q.1) same in
      let z = sizes L s a.0 b.0 c.0 in
      record {
        header-passed = a.0;
        padding-passed = b.0;
        payload-passed = c.0;
        header = h;
        length = l;
        least = omega arith;
        whole = omega (arith, z.whole);
      }

  pub front-passed : (s : List ℕ) → Passed (header_checks s) → Passed (padding_checks L s) → Passed (payload_checks L s)
      → (n m : ℕ) → header_size s ≡ n → length_field s ≡ m → front_checked L s ≡ Ok (n, m)
  front-passed s ph pp py n m h l =
      judge-passes 0 (header_checks s) _ ph
      ∙ judge-passes 0 (padding_checks L s) _ pp
      ∙ judge-passes 0 (payload_checks L s) _ py
      ∙ λ i. Ok (h i, l i)
