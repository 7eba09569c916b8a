-- What a packet that was checked shows: its records as the list that they are read to, which is never too short, and what stands beside them.
-- A record needs no more cells than it has octets (`cells-octets`), so 14 cannot be given.
use Rattle.std.proofs.Common.{◌≡◌, ℕ, ◌^◌, ◌<◌, ◌≤◌, Bool, not, eqb, List, [], ◌∷◌, length, take, drop, sym, refl, ap, ◌∙◌, subst, arith, length-append, length-drop, length-take, take_at}
use Rattle.wire_spec.specs.declared.layout.Layout.TheVariants as layout
use Rattle.wire_spec.specs.declared.refusal.Refusal.{Refusal}
use Rattle.wire_spec.specs.Bits.{Below, overwrite}
use Rattle.wire_spec.specs.Layout.{Layout, rfc8331, f_bits}
use Rattle.wire_spec.specs.Result.{Result, Err, Ok, ◌then◌}
use Rattle.wire_spec.specs.Anc.{Record, Each, WellFormed, anc_octets, run_octets}
use Rattle.wire_spec.specs.Cells.{Lists, cells_of, list_of, read_list}
use Rattle.wire_spec.specs.Packet.{Packet, Content, content, max_packet, length_field, run_at, reserved_field, packet_read, read_packet, read_content}
use Rattle.wire_spec.proofs.ResultLaws.{then-accepts, accepted-inj}
use Rattle.wire_spec.proofs.SizeLaws.{cells-octets, length-anc}
use Rattle.wire_spec.proofs.LayoutLaws.{layout-iff}
use Rattle.wire_spec.proofs.CellLaws.{list-iff, lists-own}
use Rattle.wire_spec.proofs.PacketLaws.{Answer, answer-iff, header-sizes, region-iff}
use Rattle.rtp_strict_reader.specs.declared.packet.Head.{Head}
use Rattle.rtp_strict_reader.specs.declared.packet.Outline.{Outline}
use Rattle.rtp_strict_reader.specs.declared.packet.Summary.{Summary}
use Rattle.rtp_strict_reader.specs.Answers.{head_of, checked_of, cells_after, read_of}
use Rattle.rtp_strict_reader.proofs.ReadLaws.{found, refused-is, summary-is}
use Rattle.streamcheck_spec.specs.declared.checker.Checker.{Checker}
use Rattle.streamcheck_spec.specs.declared.place.Scan.{Scan}
use Rattle.streamcheck_spec.specs.Check.{is_reserved}
use Rattle.streamcheck_spec.specs.Code.{scan_of, past_all, step_of, turn_by, turn}

-- a run has an octet for each cell of its records
cells-run : (L : Layout) (rs : List Record) → length (list_of rs) ≤ length (run_octets L rs)
cells-run L [] = omega arith
cells-run L (r ∷ rs) =
    let a = length-append (cells_of r) (list_of rs) in
    let b = length-append (anc_octets L r) (run_octets L rs) in
    let c = length-anc L r in
    let d = cells-octets L (length r.words) in
    let e = cells-run L rs in
    omega arith

-- a record of either layout is one of a list
some-f : (L : Layout) → 0 < 2 ^ f_bits L
some-f layout.Rfc8331 = omega arith
some-f layout.Draft2015 = omega arith

listed-each : (L : Layout) (rs : List Record) → Each (WellFormed L) rs → Each (WellFormed rfc8331) rs
listed-each L rs h = ((layout-iff L 0 rs).1 (h, some-f L)).0

reserved-read : (L : Layout) (rs : List Record) (s : List ℕ) → (packet_read L rs s).reserved ≡ reserved_field L s
unfolding packet_read
reserved-read L rs s = refl

-- a packet that was refused
pub refused-packet : (L : Layout) (s : List ℕ) (st : Checker) (x : Refusal) → checked_of L s (read_content L s) ≡ Err x
    → record { checker = st; outcome = Err x } ≡ turn L st s
unfolding turn read_content
refused-packet L s st x h = go (read_packet L s) (refused-is L s (read_content L s) x h)
  where
    go : (q : Result Packet) → (q then λ k. Ok (content k)) ≡ Err x → record { checker = st; outcome = Err x } ≡ turn_by st q
    go (Err y) e = let d : y ≡ x = cc in ap (λ (z : Refusal). record { checker = st; outcome = Err z }) (sym d)
    go (Ok k) e = let z : ◌≡◌ {A = ℕ} 0 1 = cc in absurd (omega arith)

module _ (L : Layout) (s : List ℕ) (o : Outline) (h : checked_of L s (read_content L s) ≡ Ok o) where
  -- what the packet is, by what was found of it
  pub record Shows : Type 0 where
    pub packet : Packet
    pub reads : read_packet L s ≡ Ok packet
    pub fits : o.cells ≤ max_packet
    pub listed : (cells : List ℕ) → read_list (take o.cells (cells_after (read_content L s) cells)) ≡ Ok packet.records
    pub head : (m : Summary) → read_of (read_content L s) ≡ Ok m → m.head ≡ head_of (content packet)
    pub reserved : not (eqb (reserved_field L s) 0) ≡ is_reserved packet

  pub shows : Below 256 s → Shows
  unfolding read_content is_reserved
  shows below =
      let f = found L s (read_content L s) o h in
      let k = f.says in
      let a = then-accepts (read_packet L s) _ k f.reads in
      let p = a.0 in
      let says : content p ≡ k = accepted-inj a.2 in
      let n : Answer L s p = (answer-iff L s p).0 a.1 in
      let i = (region-iff L s below p.records).0 n.records in
      let rs : p.records ≡ k.records = ap (λ (y : Content). y.records) says in
      let size : length (list_of p.records) ≡ o.cells = ap (λ (y : List Record). length (list_of y)) rs ∙ ap (λ (y : Outline). y.cells) f.outline in
      let part = ap length i.2 in
      let len = length-take (length_field s) (drop (run_at L s) s) in
      let from = length-drop (run_at L s) s in
      let enough = cells-run L p.records in
      let most = (header-sizes s n.header).short in
      record {
        packet = p;
        reads = a.1;
        fits = omega arith;
        listed =
            λ cells.
            let e : take o.cells (cells_after (read_content L s) cells) ≡ list_of p.records =
            ap (λ (r : Result Content). take o.cells (cells_after r cells)) f.reads
            ∙ ap (λ (y : List Record). take o.cells (overwrite (list_of y) cells)) (sym rs)
            ∙ take_at (list_of p.records) _ o.cells size in
            (list-iff _ p.records).1 (listed-each L p.records i.1, subst (Lists p.records) (sym e) (lists-own p.records));
        head = λ m e. ap (λ (y : Summary). y.head) (sym (summary-is (read_content L s) k m f.reads e)) ∙ ap head_of (sym says);
        reserved = ap (λ (y : ℕ). not (eqb y 0)) (sym (reserved-read L p.records s) ∙ ap (λ (y : Packet). y.reserved) n.read);
      }

  -- and the step that it is
  pub shown-turn : (w : Shows) (st : Checker) (head : Head) (reserved : Bool) (scan : Scan) → head ≡ head_of (content w.packet) → reserved ≡ is_reserved w.packet
      → scan ≡ past_all (scan_of st.place) w.packet.records → step_of st head reserved scan ≡ turn L st s
  unfolding turn
  shown-turn w st head reserved scan a b c = (λ i. step_of st (a i) (b i) (c i)) ∙ sym (ap (turn_by st) w.reads)
