-- Which packets the tolerant way accepts, and what comes through, said of the octets.
-- From the run's law, and from the laws of a packet around its ANC packets' octets.
use mathlib.Core.Path.{◌≡◌, refl, ap, sym, ◌∙◌}
use mathlib.Core.Logic.{◌↔◌}
use mathlib.Core.List.{List, [], ◌∷◌, ◌++◌, append-nil}
use Prim.Native.Nat.{ℕ}
use lib.Dec.{eqb}
use lib.ListN.{length, drop}
use borrow.Author.Tests.{eqb-true}
use Rattle.wire_spec.specs.Bits.{Below}
use Rattle.wire_spec.specs.Layout.{Layout}
use Rattle.wire_spec.specs.Result.{Ok, ◌then◌}
use Rattle.wire_spec.specs.Anc.{Record, run_octets}
use Rattle.wire_spec.specs.Packet.{Packet, packet_read, length_field, anc_count, run_at, header_checks, padding_checks, payload_checks, content}
use Rattle.wire_spec.specs.Writing.{with_records}
use Rattle.wire_spec.proofs.BitLaws.{below-take, below-drop}
use Rattle.wire_spec.proofs.ResultLaws.{accepted-inj, judge-accepts, judge-passes, then-accepts}
use Rattle.wire_spec.proofs.PacketLaws.{no_length, around-stands}
use Rattle.wire_spec.proofs.PacketIff.{found, header-found, padding-found, payload-found, region-found, read_found}
use Rattle.anc_tolerant_spec.specs.Tolerant.{tolerate_run, Tolerated, tolerated, tolerate_content}
use Rattle.anc_tolerant_spec.specs.Received.{Received, received_octets, records_of, through_of, left_out_of, Comes}
use Rattle.anc_tolerant_spec.proofs.RunLaws.{run-through, taken_of, length-received, length-records, received-formed}
use Rattle.anc_tolerant_spec.proofs.PacketLaws.{region}

-- THE TOLERANT WAY ACCEPTS A PACKET exactly when it is the octets of a well-formed packet, but that each of its ANC packets may have any ten-bit
-- word in the place of its checksum; those whose word is the record's own come through, in order, and the others are counted
pub comes-through : (L : Layout) (s : List ℕ) → Below 256 s → (t : Tolerated)
    → (tolerate_content L s ≡ Ok t) ↔ ((p : Packet) × (ps : List Received) × Comes L s p ps t)
unfolding tolerate_content tolerated packet_read
comes-through L s below t =
    let reg = region L s in
    let run = tolerate_run L 0 (anc_count s) reg in
    let octets = below-take 256 (length_field s) (drop (run_at L s) s) (below-drop 256 (run_at L s) s below) in (
      λ e.
          let a = judge-accepts 0 (header_checks s) _ _ e in
          let b = judge-accepts 0 (padding_checks L s) _ _ a.1 in
          let c = judge-accepts 0 (payload_checks L s) _ _ b.1 in
          let d = then-accepts run (tolerated L s) _ c.1 in
          let q = d.0 in
          let f = judge-accepts 0 ((eqb (length q.rest) 0, 13) ∷ []) _ t d.2 in
          let g = (run-through L 0 (anc_count s) reg octets q).0 d.1 in
          let ps = g.0 in
          let none : q.rest ≡ [] = no_length q.rest (eqb-true _ _ f.0.0) in
          let stands : reg ≡ received_octets L ps = g.1.octets ∙ ap (λ (x : List ℕ). received_octets L ps ++ x) none ∙ append-nil (received_octets L ps) in
          let formed = received-formed L ps g.1.formed in
          let w = around-stands L s below a.0 b.0 c.0 (records_of ps) (received_octets L ps) (length-records ps ∙ g.1.count) formed (length-received L ps) stands in
          let says : record { says = with_records (content (packet_read L (records_of ps) s)) (through_of ps); left_out = left_out_of ps } ≡ t =
          (λ j. record { says = content (packet_read L (sym g.1.through j) s); left_out = sym g.1.left_out j }) ∙ accepted-inj f.1 in (
            packet_read L (records_of ps) s,
            ps,
            record {
              formed = w.0;
              received = g.1.formed;
              records = refl;
              octets = w.1;
              says = ap (λ (x : Tolerated). x.says) says;
              left_out = ap (λ (x : Tolerated). x.left_out) says;
            },
          ),
      λ x.
          let p = x.0 in
          let ps = x.1 in
          let c = x.2 in
          let o = received_octets L ps in
          let same : length o ≡ length (run_octets L p.records) = length-received L ps ∙ ap (λ (rs : List Record). length (run_octets L rs)) (sym c.records) in
          let g = found L s p o c.formed same c.octets in
          let n : length ps ≡ anc_count s = sym (length-records ps) ∙ ap length (sym c.records) ∙ sym g.count in
          let stands = region-found L s p o c.formed same c.octets g ∙ sym (append-nil o) in
          let ran = (run-through L 0 (anc_count s) reg octets (taken_of ps [])).1 (ps, record { count = n; formed = c.received; octets = stands; through = refl; left_out = refl }) in
          let says = ap (λ (y : Packet). with_records (content y) (through_of ps)) (read_found L s p o c.formed same c.octets g) ∙ c.says in
          judge-passes 0 (header_checks s) _ (header-found L s p o c.formed same c.octets g)
          ∙ judge-passes 0 (padding_checks L s) _ (padding-found L s p o c.formed same c.octets g)
          ∙ judge-passes 0 (payload_checks L s) _ (payload-found L s p o c.formed same c.octets g)
          ∙ ap (λ r. r then tolerated L s) ran
          ∙ ap Ok (λ j. record { says = says j; left_out = c.left_out j }),
    )
