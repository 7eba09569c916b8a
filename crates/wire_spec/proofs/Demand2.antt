-- Demand 2: which packets are accepted, that what is written reads back, and when rewriting gives the same octets; also that no packet within the limits is too long.
-- From `packet-iff` and `list-iff`: a packet that is accepted, and a list that is taken, are what they are written as.
use mathlib.Core.Path.{◌≡◌, refl, ap, ap₂, sym, ◌∙◌, subst}
use mathlib.Core.Bool.{true, not, ◌&&◌}
use mathlib.Core.Logic.{◌↔◌}
use mathlib.Core.List.{List, [], ◌∷◌, ◌++◌}
use Prim.Native.Nat.{ℕ, ◌+◌, ◌*◌, ◌/◌, ◌%◌, ◌^◌, ◌<◌, ◌≤◌, zero-le}
use native.Mathlib.Nat.{zero-mul, le_refl}
use native.Mathlib.Omega.{arith}
use lib.Dec.{eqb, leb}
use lib.ListN.{length, length-append}
use lib.Pow.{pow_pos}
use borrow.Author.Tests.{ne_eqb, leb-true, le-leb}
use Rattle.wire_spec.specs.Bits.{pack, Fit, Below, row}
use Rattle.wire_spec.specs.Layout.{Layout, rfc8331, draft2015, reserved_bits}
use Rattle.wire_spec.specs.Result.{Result, Ok, judge, ◌then◌}
use Rattle.wire_spec.specs.Anc.{Record, WellFormed, Each, anc_octets, run_octets}
use Rattle.wire_spec.specs.Cells.{list_of, Lists}
use Rattle.wire_spec.specs.Packet.{max_packet, Packet, rtp_fields, extension_fields, payload_fields, packet_fields, packet_octets, last_octet, WellFormedPacket, source_count, has_extension, padding_flag, packet_read, read_packet, BareOctets, Content, content, read_content}
use Rattle.wire_spec.specs.Writing.{layout_ok, max_records, max_cells, max_type, plain, content_octets, HeadFits, with_records, head_checks, limit_checks, packet_records, write_content}
use Rattle.wire_spec.proofs.BitLaws.{no_bits, length-row_at, below-octets, below-append, fit_append}
use Rattle.wire_spec.proofs.ResultLaws.{Passed, accepted-inj, then-accepts, and-true, and_both}
use Rattle.wire_spec.proofs.LayoutLaws.{places, layout-iff}
use Rattle.wire_spec.proofs.SizeLaws.{length-anc, size-cells}
use Rattle.wire_spec.proofs.AncLaws.{below-run}
use Rattle.wire_spec.proofs.CellLaws.{list-iff, lists-own, lists_length}
use Rattle.wire_spec.proofs.PacketLaws.{no_length, not_eqb, length-packet}
use Rattle.wire_spec.proofs.PacketIff.{packet-iff, read_is}
use Rattle.wire_spec.proofs.WritingLaws.{passes, all_pass}

-- "A packet is accepted exactly when the rules of RFC 8331 and ST 291-1, as document 01 fixes them, hold, and the
-- records are the ones they define."
pub acceptance : (L : Layout) (s : List ℕ) → Below 256 s → (k : Content)
    → (read_content L s ≡ Ok k) ↔ ((p : Packet) × WellFormedPacket L p × (s ≡ packet_octets L p) × (content p ≡ k))
unfolding read_content
acceptance L s b k = (
  λ e.
      let a = then-accepts (read_packet L s) _ k e in
      let f = (packet-iff L s b a.0).0 a.1 in
      (a.0, f.0, f.1, accepted-inj a.2),
  λ p. ap (λ x. x then λ q. Ok (content q)) ((packet-iff L s b p.0).1 (p.1, p.2)) ∙ ap Ok p.3,
)

-- the octets of a packet are octets
pub below-packet : (L : Layout) (k : Packet) → Below 256 k.padding → Below 256 (packet_octets L k)
unfolding packet_octets
below-packet L k h =
    below-append 256 (pack (packet_fields L k)) _ (below-octets _ _)
    (below-append 256 (run_octets L k.records) k.padding (below-run L k.records) h)

-- a content's plain packet says that content
pub content-plain : (k : Content) → content (plain k) ≡ k
content-plain k =
    let n : k.number / 65536 * 65536 + k.number % 65536 ≡ k.number = omega arith in
    λ i. record { source = k.source; type = k.type; marker = k.marker; number = n i; timestamp = k.timestamp; f = k.f; records = k.records }

-- the octets of a content whose plain packet is well-formed read as that content
pub plain-read : (L : Layout) (k : Content) → WellFormedPacket L (plain k) → read_content L (content_octets L k) ≡ Ok k
plain-read L k h = (acceptance L (content_octets L k) (below-packet L (plain k) tt) k).1 (plain k, h, refl, content-plain k)

-- what passes the writer's checks is a well-formed packet
plain-formed : (L : Layout) (k : Content) → HeadFits k → k.type ≤ max_type → k.f ≤ 3 → (k.f ≡ 1 → ⊥) → Each (WellFormed rfc8331) k.records
    → layout_ok L k.f k.records ≡ true → length k.records ≤ max_records → length (content_octets L k) ≤ max_packet → WellFormedPacket L (plain k)
plain-formed L k h t f nf r ok n l =
    let z = pow_pos (reserved_bits L) in
    let y = (layout-iff L k.f k.records).0 (r, f, ok) in
    let fl = y.1 in
    let run : length (run_octets L k.records) < 65536 = omega (arith, length-packet L (plain k)) in
    record {
      fit = omega (arith, h.marker, h.number, h.timestamp, h.source);
      f = nf;
      records = y.0;
      some = zero-le;
      count = sym (zero-mul 0);
      short = l;
    }

-- a run takes at most one and a half octets for each cell of its list
pub run-cells : (L : Layout) (rs : List Record) → 2 * length (run_octets L rs) ≤ 3 * length (list_of rs)
run-cells L [] = le_refl 0
run-cells L (r ∷ rs) =
    omega (arith, run-cells L rs, length-append (anc_octets L r) (run_octets L rs), length-anc L r, size-cells L (length r.words), length-append r.words (list_of rs))

-- WHAT FITS A PACKET'S CELLS FITS A PACKET (02, K7)
pub fits-packet : (L : Layout) (k : Content) → length (list_of k.records) ≤ max_cells → length (content_octets L k) ≤ max_packet
fits-packet L k l = omega (arith, run-cells L k.records, (places L).payload-near, length-packet L (plain k))

-- "the writers only check the cell" (02, K13): lists of the same records are written alike
pub only-checked : (L : Layout) (k : Content) (rs : List Record) (l m : List ℕ) (room : ℕ) → Each (WellFormed rfc8331) rs → Lists rs l → Lists rs m
    → write_content L k l room ≡ write_content L k m room
unfolding write_content
only-checked L k rs l m room h a b =
    ap₂
    (λ (q : Result (List Record)) (n : ℕ).
    judge 0 (head_checks k) (q then λ rs. judge 0 (limit_checks L (with_records k rs) n room) (Ok rs)) then
    λ rs. Ok (content_octets L (with_records k rs)))
    ((list-iff l rs).1 (h, a) ∙ sym ((list-iff m rs).1 (h, b)))
    (lists_length rs l a ∙ sym (lists_length rs m b))

-- "Writing records and reading them gives the same records.", "apart from this cell" (02, K13)
pub written_read : (L : Layout) (k : Content) (cells : List ℕ) (room : ℕ) (o : List ℕ) → HeadFits k → write_content L k cells room ≡ Ok o
    → (rs : List Record) × Lists rs cells × Each (WellFormed rfc8331) rs × (o ≡ content_octets L (with_records k rs)) × (length o ≤ room)
    × (read_content L o ≡ Ok (with_records k rs))
unfolding write_content
written_read L k cells room o h e =
    let b = then-accepts (packet_records L k cells room) _ o e in
    let rs = b.0 in
    let q = with_records k rs in
    let p = passes (head_checks k) (λ rs. limit_checks L (with_records k rs) (length cells) room) cells rs b.1 in
    let a1 = and-true (leb k.type max_type) (leb k.f 3 && not (eqb k.f 1)) p.head_passed.0 in
    let a2 = and-true (leb k.f 3) (not (eqb k.f 1)) a1.1 in
    let c : Passed (limit_checks L q (length cells) room) = p.limits-passed in
    let within : leb (length rs) max_records && leb (length cells) max_cells ≡ true = search in
    let held : layout_ok L k.f rs ≡ true = search in
    let n = leb-true (length rs) max_records (and-true _ _ within).0 in
    let m = leb-true (length (content_octets L q)) room search in
    let r = (list-iff cells rs).0 p.reads in
    let short = leb-true (length cells) max_cells (and-true (leb (length rs) max_records) (leb (length cells) max_cells) within).1 in
    let l = fits-packet L q (omega (arith, lists_length rs cells r.1, short)) in
    let hq : HeadFits q = record { marker = h.marker; number = h.number; timestamp = h.timestamp; source = h.source } in
    let g = plain-formed L q hq (leb-true k.type max_type a1.0) (leb-true k.f 3 a2.0) (not_eqb k.f 1 a2.1) r.0 held n l in
    let same : content_octets L q ≡ o = accepted-inj b.2 in
    (rs, r.1, r.0, sym same, subst (λ (x : List ℕ). length x ≤ room) same m, ap (read_content L) (sym same) ∙ plain-read L q g)

-- the writer takes every list within its limits whose packet is well-formed
pub writes : (L : Layout) (k : Content) (rs : List Record) (room : ℕ) → WellFormedPacket L (plain (with_records k rs)) → length (list_of rs) ≤ max_cells
    → length (content_octets L (with_records k rs)) ≤ room → write_content L k (list_of rs) room ≡ Ok (content_octets L (with_records k rs))
unfolding write_content
writes L k rs room h l m =
    let q = with_records k rs in
    let n = length (list_of rs) in
    let y = (layout-iff L k.f rs).1 (h.records, omega (arith, h.fit)) in
    let r = (list-iff (list_of rs) rs).1 (y.0, lists-own rs) in
    let head : Passed (head_checks k) = (
      and_both (le-leb k.type max_type (omega (arith, h.fit))) (and_both (le-leb k.f 3 y.1) (rw (ne_eqb k.f 1 h.f))),
      tt,
    ) in
    let within : leb (length rs) max_records && leb n max_cells ≡ true = and_both (le-leb (length rs) max_records (omega (arith, h.fit))) (le-leb n max_cells l) in
    let held : layout_ok L k.f rs ≡ true = y.2 in
    let enough : leb (length (content_octets L q)) room ≡ true = le-leb (length (content_octets L q)) room m in
    let limits : Passed (limit_checks L q n room) = search in
    ap (λ x. x then λ rs. Ok (content_octets L (with_records k rs)))
    (all_pass (head_checks k) (λ rs. limit_checks L (with_records k rs) n room) (list_of rs) head rs r limits)

-- what is written of a list's records is their packet
pub written-octets : (L : Layout) (k : Content) (rs : List Record) (room : ℕ) (o : List ℕ) → Each (WellFormed rfc8331) rs
    → write_content L k (list_of rs) room ≡ Ok o → content_octets L (with_records k rs) ≡ o
unfolding write_content
written-octets L k rs room o h e =
    let b = then-accepts (packet_records L k (list_of rs) room) _ o e in
    let p = passes (head_checks k) (λ ks. limit_checks L (with_records k ks) (length (list_of rs)) room) (list_of rs) b.0 b.1 in
    let same : rs ≡ b.0 = accepted-inj (sym ((list-iff (list_of rs) rs).1 (h, lists-own rs)) ∙ p.reads) in
    ap (λ (x : List Record). content_octets L (with_records k x)) same ∙ accepted-inj b.2

-- nothing stands in a packet that writing leaves out
pub record Bare (k : Packet) : Type 0 where
  pub p : k.p ≡ 0
  pub x : k.x ≡ 0
  pub sources : k.sources ≡ []
  pub reserved : k.reserved ≡ 0

module _ (L : Layout) (k : Packet) (h : WellFormedPacket L k) where
  rtp-fit : Fit (rtp_fields k) × Fit (row 32 k.sources ++ (extension_fields k ++ (row 32 k.extension ++ payload_fields L k)))
  rtp-fit = (fit_append (rtp_fields k) (row 32 k.sources ++ (extension_fields k ++ (row 32 k.extension ++ payload_fields L k)))).0 h.fit

  extension-fit : Fit (extension_fields k ++ (row 32 k.extension ++ payload_fields L k))
  extension-fit = ((fit_append (row 32 k.sources) (extension_fields k ++ (row 32 k.extension ++ payload_fields L k))).0 rtp-fit.1).1

  payload-fit : Fit (payload_fields L k)
  payload-fit = ((fit_append (row 32 k.extension) (payload_fields L k)).0 extension-fit.1.1).1

  -- rewriting never makes a packet longer
  pub plain-shorter : length (content_octets L (content k)) ≤ length (packet_octets L k)
  plain-shorter = omega (arith, length-packet L k, length-packet L (plain (content k)))

  -- what a well-formed packet says has a well-formed plain packet
  pub plain-again : WellFormedPacket L (plain (content k))
  plain-again =
      let a : Fit (rtp_fields k) = rtp-fit.0 in
      let c = payload-fit in
      let z = pow_pos (reserved_bits L) in
      record { fit = omega arith; f = h.f; records = h.records; some = zero-le; count = sym (zero-mul 0); short = omega (arith, plain-shorter, h.short) }

  -- a packet with nothing that writing leaves out is the plain packet of what it says
  pub bare-plain : Bare k → plain (content k) ≡ k
  bare-plain b =
      let a : Fit (rtp_fields k) = rtp-fit.0 in
      let c = payload-fit in
      let e = extension-fit in
      let sequence : (k.extended * 65536 + k.sequence) % 65536 ≡ k.sequence = omega arith in
      let extended : (k.extended * 65536 + k.sequence) / 65536 ≡ k.extended = omega arith in
      let one : 2 ^ (16 * k.x) ≡ 1 = rw b.x in
      let profile : 0 ≡ k.profile = omega (arith, e.0) in
      let extension : k.extension ≡ [] = no_length k.extension (omega (arith, e.1.0)) in
      let padding : k.padding ≡ [] = no_length k.padding (h.count ∙ ap (λ (y : ℕ). y * last_octet k.padding) b.p ∙ zero-mul (last_octet k.padding)) in
      λ i.
      record {
        p = sym b.p i;
        x = sym b.x i;
        marker = k.marker;
        type = k.type;
        sequence = sequence i;
        timestamp = k.timestamp;
        source = k.source;
        sources = sym b.sources i;
        profile = profile i;
        extension = sym extension i;
        extended = extended i;
        f = k.f;
        reserved = sym b.reserved i;
        records = k.records;
        padding = sym padding i;
      }

-- an accepted packet is bare exactly where its octets are
pub bare-iff : (L : Layout) (s : List ℕ) (k : Packet) → read_packet L s ≡ Ok k → Bare k ↔ BareOctets L s
unfolding packet_read
bare-iff L s k e =
    let r : packet_read L k.records s ≡ k = read_is L s k e in
    let p = ap (λ (y : Packet). y.p) r in
    let x = ap (λ (y : Packet). y.x) r in
    let v = ap (λ (y : Packet). y.reserved) r in
    let n : source_count s ≡ length k.sources = sym (length-row_at 32 s 96 (source_count s)) ∙ ap (λ (y : Packet). length y.sources) r in (
      λ h. record { padding = p ∙ h.p; extension = x ∙ h.x; sources = n ∙ ap length h.sources; reserved = v ∙ h.reserved },
      λ h. record { p = sym p ∙ h.padding; x = sym x ∙ h.extension; sources = no_length k.sources (sym n ∙ h.sources); reserved = sym v ∙ h.reserved },
    )

module _ (L : Layout) (s : List ℕ) (below : Below 256 s) (k : Content) (e : read_content L s ≡ Ok k) where
  -- the octets of an accepted packet's content are the packet exactly where it is bare
  pub rewritten-octets-iff : (content_octets L k ≡ s) ↔ BareOctets L s
  unfolding read_content
  rewritten-octets-iff =
      let a = then-accepts (read_packet L s) _ k e in
      let p = a.0 in
      let says : content p ≡ k = accepted-inj a.2 in
      let f = (packet-iff L s below p).0 a.1 in
      let bare = bare-iff L s p a.1 in (
        λ t.
            let same : p ≡ plain (content p) =
            accepted-inj (sym a.1 ∙ (packet-iff L s below (plain (content p))).1 (plain-again L p f.0, sym (ap (content_octets L) says ∙ t))) in
            bare.0 record { p = ap (λ y. y.p) same; x = ap (λ y. y.x) same; sources = ap (λ y. y.sources) same; reserved = ap (λ y. y.reserved) same },
        λ o. ap (content_octets L) (sym says) ∙ ap (packet_octets L) (bare-plain L p f.0 (bare.1 o)) ∙ sym f.1,
      )

  -- what an accepted packet says has a well-formed plain packet
  pub rewritten-formed : WellFormedPacket L (plain k)
  rewritten-formed =
      let a = (acceptance L s below k).0 e in
      subst (λ (y : Content). WellFormedPacket L (plain y)) a.3 (plain-again L a.0 a.1)

  -- and is written in no more octets
  pub rewritten-shorter : length (content_octets L k) ≤ length s
  rewritten-shorter =
      let a = (acceptance L s below k).0 e in
      let l = plain-shorter L a.0 a.1 in
      rw a.2 (subst (λ (y : Content). length (content_octets L y) ≤ length (packet_octets L a.0)) a.3 l)

  -- "Rewriting an accepted packet whose list fits the writer gives the same octets exactly when it had no padding,
  -- extension or contributing sources, and zero reserved bits." The list has at most 255 records, for ANC_Count has
  -- eight bits; the lent room holds what is written.
  pub rewritten-iff : length (list_of k.records) ≤ max_cells → (room : ℕ) → length (content_octets L k) ≤ room
      → (write_content L k (list_of k.records) room ≡ Ok s) ↔ BareOctets L s
  rewritten-iff l room m =
      let w : write_content L k (list_of k.records) room ≡ Ok (content_octets L k) = writes L k k.records room rewritten-formed l m in
      (λ t. rewritten-octets-iff.0 (accepted-inj (sym w ∙ t)), λ o. w ∙ ap Ok (rewritten-octets-iff.1 o))

-- "Demand 2 holds for each by itself, without reserved bits in the old one": there the fourth condition always holds
pub bare-draft : (s : List ℕ) → BareOctets draft2015 s ↔ ((padding_flag s ≡ 0) × (has_extension s ≡ 0) × (source_count s ≡ 0))
bare-draft s = (λ b. (b.padding, b.extension, b.sources), λ p. record { padding = p.0; extension = p.1; sources = p.2; reserved = no_bits s _ })
