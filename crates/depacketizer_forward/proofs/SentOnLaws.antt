-- A field handed out is sent on in the packets that it arrived in.
-- Of its cells, those with a packet's index are the packet's records, and the writer only checks the index.
use mathlib.Core.Path.{◌≡◌, refl, ap, ap₂, sym, ◌∙◌}
use mathlib.Core.List.{List, [], ◌∷◌}
use Prim.Native.Nat.{ℕ, suc, ◌+◌, ◌<◌, ◌≤◌}
use native.Mathlib.Nat.{zero-add}
use native.Mathlib.Omega.{arith}
use lib.ListN.{length, take, drop, length-append}
use lib.Seq.{take-append_seam, drop-append_seam, take_at}
use Rattle.wire_spec.specs.Layout.{rfc8331}
use Rattle.wire_spec.specs.Bits.{Below}
use Rattle.wire_spec.specs.Result.{Result, Ok}
use Rattle.wire_spec.specs.Anc.{Each, Record, InRange, WellFormed}
use Rattle.wire_spec.specs.Cells.{list_in, list_of, max_index}
use Rattle.wire_spec.specs.Packet.{Content}
use Rattle.wire_spec.specs.Writing.{max_cells, content_octets, with_records, write_content}
use Rattle.wire_spec.specs.Written.{octets_after, written_of}
use Rattle.wire_spec.proofs.LayoutLaws.{layout-iff}
use Rattle.wire_spec.proofs.CellLaws.{lists-in, lists-own, length-in}
use Rattle.wire_spec.proofs.Demand2.{only-checked, plain-read, writes, rewritten-octets-iff, rewritten-formed, rewritten-shorter}
use Rattle.rtp_strict_reader.specs.declared.packet.Head.{Head}
use Rattle.rtp_writer.specs.Answers.{content_of}
use Rattle.depacketizer_spec.specs.Stream.{Part, cells_from, joined_cells, Sent, sent, Stream, content_at, nth, Within, WellFormedStream}
use Rattle.depacketizer_spec.proofs.PlaceLaws.{PartOf, part_at, field_at, cells-append}
use Rattle.depacketizer_forward.specs.Forward.{packet_cells}
use Rattle.depacketizer_forward.specs.SentOn.{index_of, cells_onward, its_cells, SentOn}
use Rattle.depacketizer_forward.proofs.PacketLaws.{packet-of}

in-range : (rs : List Record) → Each (WellFormed rfc8331) rs → Each (InRange rfc8331) rs
in-range [] h = tt
in-range (r ∷ rs) h = (h.0.fits, in-range rs h.1)

module _ (x : Sent) (of : PartOf x) (within : Within x.field) where
  -- the cells from the packet on
  onward : cells_onward x ≡ cells_from (index_of x) (x.part ∷ x.behind)
  onward =
      let a = joined_cells x.before in
      ap (λ (ps : List Part). drop (length a) (joined_cells ps)) (sym of)
      ∙ ap (drop (length a)) (cells-append 0 x.before (x.part ∷ x.behind))
      ∙ drop-append_seam a (cells_from (0 + index_of x) (x.part ∷ x.behind))
      ∙ ap (λ (n : ℕ). cells_from n (x.part ∷ x.behind)) (zero-add (index_of x))

  small : index_of x ≤ max_index
  small = omega (arith, ap length of, length-append x.before (x.part ∷ x.behind), within.2)

  -- those with the packet's index are its records'
  pub its-cells : Each (InRange rfc8331) x.part.records → its_cells x ≡ list_in (index_of x) x.part.records
  its-cells h =
      let y = list_in (index_of x) x.part.records in
      let n : packet_cells (index_of x) (cells_onward x) ≡ length y = ap (packet_cells (index_of x)) onward ∙ packet-of (index_of x) small x.part h x.behind in
      ap₂ (λ (c : ℕ) (l : List ℕ). take c l) n onward ∙ take-append_seam y (cells_from (suc (index_of x)) x.behind)

  -- and no more than a packet may have
  few : length (list_of x.part.records) ≤ max_cells
  few =
      let k = 0 + index_of x in
      let d = ap length (cells-append 0 x.before (x.part ∷ x.behind)) ∙ length-append (joined_cells x.before) (cells_from k (x.part ∷ x.behind)) in
      let e = ap (λ (ps : List Part). length (joined_cells ps)) of in
      let h = length-append (list_in k x.part.records) (cells_from (suc k) x.behind) in
      omega (arith, d, e, h, length-in k x.part.records, within.1)

-- A PACKET SENT ON, of a well-formed stream: its number and mark, its field's timestamp and F, and of the field's cells those with its index
pub sent-on : (s : Stream) → WellFormedStream s → (i : ℕ) → i < length (sent s.fields) → Below 256 (nth s i).part.octets → (h : Head)
    → content_of h ≡ with_records (content_at s i (nth s i)) [] → (out : List ℕ) → length (nth s i).part.octets ≤ length out
    → SentOn s.layout h (its_cells (nth s i)) out (nth s i).part.octets (content_at s i (nth s i))
unfolding write_content
sent-on s w i b below h same out room =
    let L = s.layout in
    let x = nth s i in
    let k = content_at s i x in
    let o = x.part.octets in
    let rs = x.part.records in
    let of : PartOf x = part_at s.fields i b in
    let within : Within x.field = field_at Within s.fields i w.within b in
    let reads = w.accepts i b in
    let formed = rewritten-formed L o below k reads in
    let records = ((layout-iff L k.f rs).1 (formed.records, omega (arith, formed.fit))).0 in
    let shorter = rewritten-shorter L o below k reads in
    let whole : write_content L k (list_of rs) (length out) ≡ Ok (content_octets L k) = writes L k rs (length out) formed (few x of within) (omega (arith, shorter, room)) in
    let its = its-cells x of within (in-range rs records) in
    let written : write_content L (content_of h) (its_cells x) (length out) ≡ Ok (content_octets L k) =
    ap₂ (λ (q : Content) (l : List ℕ). write_content L q l (length out)) same its
    ∙ only-checked L k rs (list_in (index_of x) rs) (list_of rs) (length out) records (lists-in (index_of x) (small x of within) rs) (lists-own rs)
    ∙ whole in
    record {
      returns = ap written_of written;
      leaves = ap (λ (r : Result (List ℕ)). take (length (content_octets L k)) (octets_after r out)) written ∙ take_at (content_octets L k) _ (length (content_octets L k)) refl;
      says = plain-read L k formed;
      again = rewritten-octets-iff L o below k reads;
    }
