-- A packet is accepted exactly where the octets of a well-formed packet stand, and is read as what stands there.
-- Octets that pass the checks are those of what is read from them (PacketLaws); here what is found in the octets of a packet, and both ways.
use mathlib.Core.Path.{◌≡◌, refl, ap, ap₂, sym, ◌∙◌, subst}
use mathlib.Core.Bool.{true, not, ◌||◌}
use mathlib.Core.Logic.{◌↔◌}
use mathlib.Core.List.{List, [], ◌∷◌, ◌++◌, append_assoc}
use Prim.Native.Nat.{ℕ, ◌+◌, ◌-◌, ◌*◌}
use native.Mathlib.Omega.{arith}
use lib.Dec.{eqb}
use lib.ListN.{length, take, drop, length-append}
use lib.Seq.{take_at, drop_at, take-append_seam, drop-append_seam, drop-drop}
use borrow.Author.Tests.{eq-eqb, ne_eqb, le-leb}
use Rattle.wire_spec.specs.Bits.{bits_at, pack, Below, row_at}
use Rattle.wire_spec.specs.Layout.{Layout, f_bits, reserved_bits, payload_header_size}
use Rattle.wire_spec.specs.Result.{Ok}
use Rattle.wire_spec.specs.Anc.{Record, run_octets}
use Rattle.wire_spec.specs.Packet.{max_packet, Packet, packet_fields, packet_around, packet_octets, last_octet, WellFormedPacket, header_least, source_count, has_extension, extension_at, extension_words, header_size, padding_count, payload_size, payload_at, length_field, anc_count, f_field, run_at, packet_read, header_checks, padding_checks, payload_checks, read_packet}
use Rattle.wire_spec.proofs.BitLaws.{unpacked, length-pack, row_at-reads}
use Rattle.wire_spec.proofs.ResultLaws.{Passed, and_both}
use Rattle.wire_spec.proofs.PacketLaws.{rtp_size, front_size, Parts, parts-iff, length-packet, width-packet, answer-iff, region-iff, pad-written, around-stands}

-- without records there are no octets of them
none-ok : (L : Layout) (rs : List Record) (c l : ℕ) → c ≡ length rs → l ≡ length (run_octets L rs) → not (eqb c 0) || eqb l 0 ≡ true
none-ok L [] c l e h = rw (e, h)
none-ok L (r ∷ rs) c l e h = rw (ne_eqb c 0 (λ q. omega arith))

-- what the reader finds in the octets of a packet around those of its ANC data packets
pub record Found (L : Layout) (s : List ℕ) (k : Packet) (run : List ℕ) : Type 0 where
  pub parts : Parts L k s
  pub rest : drop (front_size L k) s ≡ run ++ k.padding
  pub size : length s ≡ front_size L k + (length (run_octets L k.records) + length k.padding)
  pub header : header_size s ≡ rtp_size k
  pub words : extension_words s ≡ length k.extension
  pub padding : padding_count s ≡ length k.padding
  pub length-is : length_field s ≡ length (run_octets L k.records)
  pub count : anc_count s ≡ length k.records
  pub f : f_field L s ≡ k.f

module _ (L : Layout) (s : List ℕ) (k : Packet) (run : List ℕ) (wf : WellFormedPacket L k) (same : length run ≡ length (run_octets L k.records))
    (e : s ≡ packet_around L k run) where
  -- the octets of a well-formed packet hold it
  pub found : Found L s k run
  found =
      let fs = packet_fields L k in
      let n = front_size L k in
      let lp : length (pack fs) ≡ n = length-pack [] fs n (width-packet L k) in
      let t : take n s ≡ pack fs = rw e (take_at (pack fs) (run ++ k.padding) n lp) in
      let q : Parts L k s = (parts-iff L k s).0 (unpacked s fs n (width-packet L k) wf.fit t) in
      let e2 : bits_at s 2 1 ≡ k.p = search in
      let e3 : has_extension s ≡ k.x = search in
      let e4 : source_count s ≡ length k.sources = search in
      let words : extension_words s ≡ length k.extension = rw (e4, e3) q.extension.1.0 in
      let header : header_size s ≡ rtp_size k = omega (arith, e3, e4, words) in
      record {
        parts = q;
        rest = rw e (drop_at (pack fs) (run ++ k.padding) n lp);
        size = ap length e ∙ length-append (pack fs) _ ∙ ap₂ ◌+◌ lp (length-append run k.padding ∙ ap (λ (x : ℕ). x + length k.padding) same);
        header = header;
        words = words;
        padding = ap₂ ◌*◌ e2 (ap last_octet (e ∙ sym (append_assoc (pack fs) run k.padding))) ∙ pad-written k.p (pack fs ++ run) k.padding wf.some wf.count;
        length-is = ap (λ (x : ℕ). bits_at s (8 * x + 16) 16) header ∙ q.payload.1.0;
        count = ap (λ (x : ℕ). bits_at s (8 * x + 16 + 16) 8) header ∙ q.payload.1.1.0;
        f = ap (λ (x : ℕ). bits_at s (8 * x + 16 + 16 + 8) (f_bits L)) header ∙ q.payload.1.1.1.0;
      }

  -- so every check passes
  pub header-found : Found L s k run → Passed (header_checks s)
  unfolding header_checks
  header-found g = (
    le-leb (length s) max_packet (omega (arith, g.size, length-packet L k, wf.short)),
    (
      le-leb header_least (length s) (omega (arith, g.size)),
      (eq-eqb _ 2 g.parts.rtp.0, (le-leb (header_size s) (length s) (omega (arith, g.header, g.size)), tt)),
    ),
  )

  pub padding-found : Found L s k run → Passed (padding_checks L s)
  unfolding padding_checks
  padding-found g =
      let e2 : bits_at s 2 1 ≡ k.p = g.parts.rtp.1.0 in (
        and_both (le-leb (bits_at s 2 1) (padding_count s) (omega (arith, e2, g.padding, wf.some)))
            (le-leb (padding_count s) (length s - header_size s) (omega (arith, g.header, g.size, g.padding))),
        (le-leb (payload_header_size L) (payload_size s) (omega (arith, g.header, g.size, g.padding)), tt),
      )

  pub payload-found : Found L s k run → Passed (payload_checks L s)
  unfolding payload_checks
  payload-found g = (
    rw (ne_eqb (f_field L s) 1 (λ q. wf.f (sym g.f ∙ q))),
    (
      eq-eqb (length_field s) (payload_size s - payload_header_size L) (omega (arith, g.header, g.size, g.padding, g.length-is)),
      (none-ok L k.records (anc_count s) (length_field s) g.count g.length-is, tt),
    ),
  )

  -- and what is read is what was written
  pub region-found : Found L s k run → take (length_field s) (drop (run_at L s) s) ≡ run
  region-found g =
      ap₂ (λ (x y : ℕ). take x (drop (y + payload_header_size L) s)) (g.length-is ∙ sym same) g.header
      ∙ ap (take (length run)) g.rest ∙ take-append_seam run k.padding

  pub read_found : Found L s k run → packet_read L k.records s ≡ k
  unfolding packet_read
  read_found g =
      let q : Parts L k s = g.parts in
      let r = q.rtp in
      let e3 : has_extension s ≡ k.x = r.1.1.0 in
      let e4 : source_count s ≡ length k.sources = r.1.1.1.0 in
      let at : extension_at s + 16 * has_extension s + 16 * has_extension s ≡ 96 + 32 * length k.sources + 16 * k.x + 16 * k.x = omega arith in
      let end : length s - padding_count s ≡ front_size L k + length run = omega (arith, g.size, g.padding, same) in
      let sources : row_at 32 s 96 (source_count s) ≡ k.sources = ap (row_at 32 s 96) e4 ∙ row_at-reads 32 s 96 k.sources q.sources in
      let profile : bits_at s (extension_at s) (16 * has_extension s) ≡ k.profile = rw (e4, e3) q.extension.0 in
      let extension = ap₂ (row_at 32 s) at g.words ∙ row_at-reads 32 s _ k.extension q.words in
      let extended : bits_at s (payload_at s) 16 ≡ k.extended = ap (λ (x : ℕ). bits_at s (8 * x) 16) g.header ∙ q.payload.0 in
      let reserved : bits_at s (payload_at s + 16 + 16 + 8 + f_bits L) (reserved_bits L) ≡ k.reserved =
      ap (λ (x : ℕ). bits_at s (8 * x + 16 + 16 + 8 + f_bits L) (reserved_bits L)) g.header ∙ q.payload.1.1.1.1.0 in
      let padding : drop (length s - padding_count s) s ≡ k.padding =
      ap (λ (x : ℕ). drop x s) end ∙ sym (drop-drop (length run) (front_size L k) s) ∙ ap (drop (length run)) g.rest ∙ drop-append_seam run k.padding in
      let f = g.f in
      λ i.
      record {
        p = r.1.0 i;
        x = e3 i;
        marker = r.1.1.1.1.0 i;
        type = r.1.1.1.1.1.0 i;
        sequence = r.1.1.1.1.1.1.0 i;
        timestamp = r.1.1.1.1.1.1.1.0 i;
        source = r.1.1.1.1.1.1.1.1.0 i;
        sources = sources i;
        profile = profile i;
        extension = extension i;
        extended = extended i;
        f = f i;
        reserved = reserved i;
        records = k.records;
        padding = padding i;
      }

-- A PACKET is accepted exactly where the octets of a well-formed packet stand
pub packet-iff : (L : Layout) (s : List ℕ) → Below 256 s → (k : Packet)
    → (read_packet L s ≡ Ok k) ↔ (WellFormedPacket L k × (s ≡ packet_octets L k))
unfolding packet_octets
packet-iff L s below k =
    let run = run_octets L k.records in (
      λ e.
          let a = (answer-iff L s k).0 e in
          let r = (region-iff L s below k.records).0 a.records in
          subst (λ (x : Packet). WellFormedPacket L x × (s ≡ packet_around L x run)) a.read
          (around-stands L s below a.header a.padding a.payload k.records run r.0 r.1 refl r.2),
      λ p.
          let g = found L s k run p.0 refl p.1 in
          (answer-iff L s k).1 record {
            header = header-found L s k run p.0 refl p.1 g;
            padding = padding-found L s k run p.0 refl p.1 g;
            payload = payload-found L s k run p.0 refl p.1 g;
            records = (region-iff L s below k.records).1 (sym g.count, p.0.records, region-found L s k run p.0 refl p.1 g);
            read = read_found L s k run p.0 refl p.1 g;
          },
    )

-- an accepted packet is what stands at its places
pub read_is : (L : Layout) (s : List ℕ) (k : Packet) → read_packet L s ≡ Ok k → packet_read L k.records s ≡ k
read_is L s k e = ((answer-iff L s k).0 e).read
