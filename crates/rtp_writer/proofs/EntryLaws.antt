-- Demand 2, of what `write` and `read_strict` take and return: what is written reads back, and when rewriting gives the same octets.
-- From the same of what a packet says, and that the six values go there and back.
use mathlib.Core.Path.{◌≡◌, refl, ap, ap₂, sym, ◌∙◌}
use mathlib.Core.Bool.{true}
use mathlib.Core.Logic.{◌↔◌}
use mathlib.Core.List.{List, []}
use Prim.Native.Nat.{ℕ, ◌≤◌, ◌<◌}
use native.Mathlib.Nat.{add-zero}
use native.Mathlib.Omega.{arith}
use borrow.Author.Tests.{le-leb}
use lib.Dec.{leb}
use lib.ListN.{length, take, drop}
use lib.Seq.{take_at}
use Rattle.wire_spec.specs.declared.count.OctetCount.{OctetCount}
use Rattle.wire_spec.specs.Bits.{Below, overwrite}
use Rattle.wire_spec.specs.Layout.{Layout, rfc8331, draft2015}
use Rattle.wire_spec.specs.Result.{Result, Err, Ok, ◌then◌}
use Rattle.wire_spec.specs.Anc.{Record}
use Rattle.wire_spec.specs.Cells.{list_of, Lists}
use Rattle.wire_spec.specs.Packet.{padding_flag, has_extension, source_count, Content, BareOctets, read_content}
use Rattle.wire_spec.specs.Writing.{max_cells, content_octets, HeadFits, with_records, head_ok, head_checks, layout_ok, limit_checks, packet_records, write_content}
use Rattle.wire_spec.specs.Written.{octets_after, written_of}
use Rattle.wire_spec.proofs.BitLaws.{flag}
use Rattle.wire_spec.proofs.CellLaws.{list-iff, lists-own, lists_length}
use Rattle.wire_spec.proofs.LayoutLaws.{layout-iff}
use Rattle.wire_spec.proofs.WritingLaws.{all_pass}
use Rattle.wire_spec.proofs.Demand2 as demand2
use Rattle.rtp_strict_reader.specs.declared.packet.Head.{Head}
use Rattle.rtp_strict_reader.specs.declared.packet.Summary.{Summary}
use Rattle.rtp_strict_reader.specs.Answers.{head_of, summary_of, read_of, cells_after}
use Rattle.rtp_strict_reader.specs.Entry.{read_returns, read_leaves}
use Rattle.rtp_strict_reader.proofs.EntryLaws.{bit-again, into-list, Taken, taken, read-marked}
use Rattle.rtp_writer.specs.Answers.{content_of}
use Rattle.rtp_writer.specs.Entry.{write_returns, write_leaves, OfTypes}
use Rattle.rtp_writer.specs.Front.{front_size}
use Rattle.rtp_writer.proofs.FrontLaws.{bit-lt}
use Rattle.rtp_writer.proofs.WriteLaws.{length_whole}

-- the six values that are written are those that are read
pub taken-then-read : (h : Head) (rs : List Record) → head_of (with_records (content_of h) rs) ≡ h
taken-then-read h rs =
    λ i.
    record {
      source = h.source;
      payload_type = h.payload_type;
      marker = bit-again h.marker i;
      number = h.number;
      timestamp = h.timestamp;
      f = h.f;
    }

-- and those that were read are those that are written
pub read-then-taken : (k : Content) → k.marker < 2 → content_of (head_of k) ≡ with_records k []
read-then-taken k h =
    λ i.
    record {
      source = k.source;
      type = k.type;
      marker = flag k.marker h i;
      number = k.number;
      timestamp = k.timestamp;
      f = k.f;
      records = [];
    }

-- what is written over the first octets stands there
over_first : (o out : List ℕ) → take (length o) (overwrite o out) ≡ o
over_first o out = take_at o (drop (length o) out) (length o) refl

module _ (L : Layout) where
  -- a packet that was written: its octets
  record Wrote (h : Head) (cells out : List ℕ) (n : OctetCount) : Type 0 where
    octets : List ℕ
    writes : write_content L (content_of h) cells (length out) ≡ Ok octets
    first : take n.0 (write_leaves L h cells out) ≡ octets
    size : length octets ≡ n.0

  wrote : (h : Head) (cells out : List ℕ) (n : OctetCount) → write_returns L h cells out ≡ Ok n → Wrote h cells out n
  wrote h cells out n e = go (write_content L (content_of h) cells (length out)) refl e
    where
      go : (r : Result (List ℕ)) → write_content L (content_of h) cells (length out) ≡ r → written_of r ≡ Ok n → Wrote h cells out n
      go (Err x) q e = let z : ◌≡◌ {A = ℕ} 0 1 = cc in absurd (omega arith)
      go (Ok o) q e =
          let u : record { 0 = length o } ≡ n = cc in
          let s : length o ≡ n.0 = ap (λ (y : OctetCount). y.0) u in
          let f : take n.0 (write_leaves L h cells out) ≡ o =
          ap₂ (λ (x : ℕ) r. take x (octets_after r out)) (sym s) q ∙ over_first o out in
          record { octets = o; writes = q; first = f; size = s }

  module _ (h : Head) (typed : OfTypes h) (cells out : List ℕ) (n : OctetCount) (e : write_returns L h cells out ≡ Ok n) where
    fits-types : HeadFits (content_of h)
    fits-types = record { marker = bit-lt h.marker; number = typed.number; timestamp = typed.timestamp; source = typed.source }

    -- "Writing records and reading them gives the same records.": the octets that `write` left, given to `read_strict` with a list that is long
    -- enough, return the six values that `write` was given, and leave its cells, "apart from this cell" (02, K13): both are cells of the same
    -- records.
    pub written_read : (lent : List ℕ) → length cells ≤ length lent
        → (rs : List Record) × Lists rs cells
        × (read_returns L (take n.0 (write_leaves L h cells out)) lent ≡ Ok (record { head = h; records = length rs; cells = length cells }))
        × (read_leaves L (take n.0 (write_leaves L h cells out)) lent ≡ overwrite (list_of rs) lent)
    written_read lent l =
        let w = wrote h cells out n e in
        let d = demand2.written_read L (content_of h) cells (length out) w.octets fits-types w.writes in
        let rs = d.0 in
        let same : length cells ≡ length (list_of rs) = lists_length rs cells d.1 in
        let q = with_records (content_of h) rs in
        let reads : read_content L (take n.0 (write_leaves L h cells out)) ≡ Ok q = ap (read_content L) w.first ∙ d.5 in
        let into = into-list L (take n.0 (write_leaves L h cells out)) lent q reads (omega (arith, same, l)) in
        let says : summary_of q ≡ record { head = h; records = length rs; cells = length cells } =
        λ i. record { head = taken-then-read h rs i; records = length rs; cells = sym same i } in
        (rs, d.1, ap read_of into ∙ ap Ok says, ap (λ r. cells_after r lent) into)

  -- 01, "An empty list gives a 20-octet packet.", and in the drafts' layout, where F is 0, one of 17 octets (`empty-sizes`)
  pub empty-list : (h : Head) (out : List ℕ) → head_ok h.payload_type h.f ≡ true → layout_ok L h.f [] ≡ true → front_size L ≤ length out
      → write_returns L h [] out ≡ Ok (record { 0 = front_size L })
  unfolding write_content
  empty-list h out ok held l =
      let k = with_records (content_of h) [] in
      let size : length (content_octets L k) ≡ front_size L = length_whole L h [] ∙ add-zero (front_size L) in
      let room : leb (length (content_octets L k)) (length out) ≡ true = ap (λ (x : ℕ). leb x (length out)) size ∙ le-leb (front_size L) (length out) l in
      let records : packet_records L (content_of h) [] (length out) ≡ Ok [] =
      all_pass (head_checks (content_of h)) (λ rs. limit_checks L (with_records (content_of h) rs) 0 (length out)) [] (ok, tt) [] ((list-iff [] []).1 (tt, lists-own []))
      (refl, (held, (room, tt))) in
      ap (λ r. written_of (r then λ rs. Ok (content_octets L (with_records (content_of h) rs)))) records
      ∙ ap (λ (x : ℕ). Ok (record { 0 = x })) size

  -- a packet that `read_strict` returned, and the cells that it left
  module _ (s : List ℕ) (below : Below 256 s) (lent : List ℕ) (m : Summary) (e : read_returns L s lent ≡ Ok m) where
    abbrev pub cells_read : List ℕ
    cells_read = take m.cells (read_leaves L s lent)

    abbrev t : Taken L s lent m
    t = taken L s lent m e

    abbrev k : Content
    k = t.says

    cells_are : cells_read ≡ list_of k.records
    cells_are =
        ap₂ (λ (x : ℕ) r. take x (cells_after r lent)) (ap (λ (y : Summary). y.cells) (sym t.summary)) t.into
        ∙ over_first (list_of k.records) lent

    -- what it says is what `write` is given
    given : (room : ℕ) → write_content L (content_of m.head) cells_read room ≡ write_content L k (list_of k.records) room
    unfolding write_content
    given room =
        let marked : k.marker < 2 = read-marked L s below k t.reads in
        let head : content_of m.head ≡ with_records k [] = ap (λ (y : Summary). content_of y.head) (sym t.summary) ∙ read-then-taken k marked in
        ap₂ (λ (x : Content) (y : List ℕ). write_content L x y room) head cells_are

    -- "Rewriting an accepted packet whose list fits the writer gives the same octets exactly when it had no padding, extension or
    -- contributing sources, and zero reserved bits.": what `read_strict` returned and left, given to `write`.
    pub rewritten-iff : (out : List ℕ) (n : OctetCount) → write_returns L m.head cells_read out ≡ Ok n
        → (take n.0 (write_leaves L m.head cells_read out) ≡ s) ↔ BareOctets L s
    unfolding write_content
    rewritten-iff out n w =
        let q = wrote m.head cells_read out n w in
        let written : write_content L k (list_of k.records) (length out) ≡ Ok q.octets = sym (given (length out)) ∙ q.writes in
        let formed = demand2.rewritten-formed L s below k t.reads in
        let records = ((layout-iff L k.f k.records).1 (formed.records, omega (arith, formed.fit))).0 in
        let same : content_octets L k ≡ q.octets = demand2.written-octets L k k.records (length out) q.octets records written in
        let i = demand2.rewritten-octets-iff L s below k t.reads in
        (λ b. i.0 (same ∙ sym q.first ∙ b), λ b. q.first ∙ sym same ∙ i.1 b)

    -- the list fits the writer where it is within 21's limit of cells, and the octets where as many are lent as were read
    pub rewrites : m.cells ≤ max_cells → (out : List ℕ) → length s ≤ length out
        → (n : OctetCount) × (write_returns L m.head cells_read out ≡ Ok n) × (n.0 ≤ length s)
    rewrites l out room =
        let c : length (list_of k.records) ≡ m.cells = ap (λ (y : Summary). y.cells) t.summary in
        let shorter = demand2.rewritten-shorter L s below k t.reads in
        let w = demand2.writes L k k.records (length out) (demand2.rewritten-formed L s below k t.reads) (omega arith) (omega arith) in
        (record { 0 = length (content_octets L k) }, ap written_of (given (length out) ∙ w), shorter)

-- the two sizes
pub empty-sizes : (front_size rfc8331 ≡ 20) × (front_size draft2015 ≡ 17)
empty-sizes = (refl, refl)

-- "Demand 2 holds for each by itself, without reserved bits in the old one": `rewritten-iff` in the drafts' layout
pub rewritten-draft-iff : (s : List ℕ) (below : Below 256 s) (lent : List ℕ) (m : Summary) (e : read_returns draft2015 s lent ≡ Ok m)
    → (out : List ℕ) (n : OctetCount) → write_returns draft2015 m.head (cells_read draft2015 s below lent m e) out ≡ Ok n
    → (take n.0 (write_leaves draft2015 m.head (cells_read draft2015 s below lent m e) out) ≡ s)
    ↔ ((padding_flag s ≡ 0) × (has_extension s ≡ 0) × (source_count s ≡ 0))
rewritten-draft-iff s below lent m e out n w =
    let i = rewritten-iff draft2015 s below lent m e out n w in
    let b = demand2.bare-draft s in
    (λ x. b.0 (i.0 x), λ x. i.1 (b.1 x))
