-- What a packet that was checked holds: its run is accepted, and its cells are those of its records.
-- By the stages of the reader, each of which an accepted packet has passed.
use mathlib.Core.Path.{◌≡◌, refl, ap, ap₂, sym, ◌∙◌, subst}
use mathlib.Core.Bool.{true, false}
use mathlib.Core.List.{List, [], ◌∷◌}
use Prim.Native.Nat.{ℕ, ◌+◌, ◌-◌, ◌<◌, ◌≤◌}
use native.Mathlib.Omega.{arith}
use borrow.Author.Tests.{le-leb, lt-leb}
use lib.Dec.{eqb, leb}
use lib.ListN.{length, take, drop}
use Rattle.wire_spec.specs.declared.refusal.Refusal.{Refusal}
use Rattle.wire_spec.specs.Bits.{Below, overwrite}
use Rattle.wire_spec.specs.Layout.{Layout, payload_header_size}
use Rattle.wire_spec.specs.Result.{Result, Err, Ok, refuse, IsAccepted}
use Rattle.wire_spec.specs.Anc.{Record, read_run}
use Rattle.wire_spec.specs.Cells.{list_in, list_of}
use Rattle.wire_spec.specs.Packet.{Packet, Content, content, header_least, header_size, length_field, payload_at, anc_count, run_at, packet_read, read_records, read_packet, read_content, read_into}
use Rattle.wire_spec.proofs.BitLaws.{bits_at-lt}
use Rattle.wire_spec.proofs.CellLaws.{length-in}
use Rattle.wire_spec.proofs.ResultLaws.{then-accepts, judge-accepts, accepted-inj}
use Rattle.wire_spec.proofs.PacketLaws.{Answer, answer-iff, region-iff, sizes}
use Rattle.anc_reader.specs.Answers.{run_cells_in}
use Rattle.rtp_strict_reader.specs.Answers.{head_of, head_at, summary_of, checked_of, cells_after_in, read_of}
use Rattle.rtp_strict_reader.specs.declared.packet.Outline.{Outline}
use Rattle.rtp_strict_reader.specs.declared.packet.Summary.{Summary}

-- what is returned of an accepted packet is the summary of what it says
pub summary-is : (r : Result Content) (k : Content) (m : Summary) → r ≡ Ok k → read_of r ≡ Ok m → summary_of k ≡ m
summary-is r k m e h = let p : Ok (summary_of k) ≡ Ok m = ap read_of (sym e) ∙ h in cc

module _ (L : Layout) where
  -- a packet whose check refused is refused
  pub refused-is : (s : List ℕ) (r : Result Content) (x : Refusal) → checked_of L s r ≡ Err x → r ≡ Err x
  refused-is s (Err y) x h = let e : y ≡ x = cc in ap Err e
  refused-is s (Ok k) x h = let z : ◌≡◌ {A = ℕ} 0 1 = cc in absurd (omega arith)

  pub into-refused : (s : List ℕ) (room : ℕ) (x : Refusal) → checked_of L s (read_content L s) ≡ Err x → read_into L s room ≡ Err x
  unfolding read_into
  into-refused s room x h = rw (refused-is s (read_content L s) x h)

  -- what a check accepted, with the outline that the check gave
  pub record Found (s : List ℕ) (r : Result Content) (o : Outline) : Type 0 where
    pub says : Content
    pub reads : r ≡ Ok says
    pub outline : record { header = record { 0 = header_size s }; length = record { 0 = length_field s }; records = length says.records; cells = length (list_of says.records) } ≡ o

  pub found : (s : List ℕ) (r : Result Content) (o : Outline) → checked_of L s r ≡ Ok o → Found s r o
  found s (Err y) o h = let z : ◌≡◌ {A = ℕ} 0 1 = cc in absurd (omega arith)
  found s (Ok k) o h = record { says = k; reads = refl; outline = (cc) }

  module _ (s : List ℕ) (o : Outline) (h : checked_of L s (read_content L s) ≡ Ok o) where
    -- the run, where the outline says that it stands
    abbrev pub outline_run : Result (List Record × List ℕ)
    outline_run = read_run L 0 o.records (take (o.header.0 + payload_header_size L + o.length.0 - (o.header.0 + payload_header_size L)) (drop (o.header.0 + payload_header_size L) s))

    pub record Outlined : Type 0 where
      pub accepts : IsAccepted outline_run
      pub size : (p : ℕ) → length (run_cells_in p outline_run) ≡ o.cells
      pub after : (p : ℕ) (l : List ℕ) → overwrite (run_cells_in p outline_run) l ≡ cells_after_in p (read_content L s) l
      pub whole : o.header.0 + payload_header_size L + o.length.0 ≤ length s
      pub header_is : o.header.0 ≡ header_size s
      pub header-least : header_least ≤ o.header.0
      pub few : o.records < 256

    pub outlined : Below 256 s → Outlined
    unfolding read_content read_records
    outlined below =
        let f = found s (read_content L s) o h in
        let k = f.says in
        let a = then-accepts (read_packet L s) _ k f.reads in
        let p = a.0 in
        let says : content p ≡ k = accepted-inj a.2 in
        let n : Answer L s p = (answer-iff L s p).0 a.1 in
        let z = sizes L s n.header n.padding n.payload in
        let i = (region-iff L s below p.records).0 n.records in
        let b = then-accepts (read_run L 0 (anc_count s) (take (length_field s) (drop (run_at L s) s))) _ p.records n.records in
        let c = judge-accepts 0 ((eqb (length b.0.1) 0, 13) ∷ []) (Ok b.0.0) p.records b.2 in
        let rs : b.0.0 ≡ k.records = accepted-inj c.1 ∙ ap (λ (y : Content). y.records) says in
        let count : o.records ≡ anc_count s = ap (λ (y : Outline). y.records) (sym f.outline) ∙ ap (λ (y : Content). length y.records) (sym says) ∙ i.0 in
        let head : o.header.0 ≡ header_size s = ap (λ (y : Outline). y.header.0) (sym f.outline) in
        let at : o.header.0 + payload_header_size L ≡ run_at L s = omega arith in
        let long : o.length.0 ≡ length_field s = ap (λ (y : Outline). y.length.0) (sym f.outline) in
        let len : o.header.0 + payload_header_size L + o.length.0 - (o.header.0 + payload_header_size L) ≡ length_field s = omega arith in
        let ran : outline_run ≡ Ok (k.records, b.0.1) =
        ap₂ (λ (x : ℕ) (y : List ℕ). read_run L 0 x y) count (ap₂ (λ (x y : ℕ). take x (drop y s)) len at)
        ∙ b.1 ∙ ap (λ (y : List Record). Ok (y, b.0.1)) rs in
        let cs : (q : ℕ) → run_cells_in q outline_run ≡ list_in q k.records = λ q. ap (run_cells_in q) ran in
        record {
          accepts = subst IsAccepted (sym ran) tt;
          size = λ q. ap length (cs q) ∙ length-in q k.records ∙ ap (λ (y : Outline). y.cells) f.outline;
          after = λ q l. ap (λ (y : List ℕ). overwrite y l) (cs q) ∙ ap (λ (r : Result Content). cells_after_in q r l) (sym f.reads);
          whole = omega (arith, z.whole);
          header_is = head;
          header-least = omega arith;
          few = omega (arith, bits_at-lt s (payload_at s + 16 + 16) 8);
        }

    -- 14, where the list is too short
    pub into-short : (room : ℕ) → room < o.cells → read_into L s room ≡ refuse 14 0
    unfolding read_into
    into-short room l =
        let f = found s (read_content L s) o h in
        let e : length (list_of f.says.records) ≡ o.cells = ap (λ (y : Outline). y.cells) f.outline in
        let t : leb (length (list_of f.says.records)) room ≡ false = lt-leb (length (list_of f.says.records)) room (omega arith) in
        rw (f.reads, t)

    -- and nothing more to refuse where it is not
    pub into-fits : (room : ℕ) → o.cells ≤ room → read_into L s room ≡ read_content L s
    unfolding read_into
    into-fits room l =
        let f = found s (read_content L s) o h in
        let e : length (list_of f.says.records) ≡ o.cells = ap (λ (y : Outline). y.cells) f.outline in
        let t : leb (length (list_of f.says.records)) room ≡ true = le-leb (length (list_of f.says.records)) room (omega arith) in
        rw (f.reads, t)

    -- what the packet says, its six values as they stand in the octets
    pub says_there : read_of (read_content L s) ≡ Ok (record { head = head_at L s; records = o.records; cells = o.cells })
    unfolding read_content packet_read
    says_there =
        let f = found s (read_content L s) o h in
        let a = then-accepts (read_packet L s) _ f.says f.reads in
        let n : Answer L s a.0 = (answer-iff L s a.0).0 a.1 in
        let same : head_at L s ≡ head_of f.says = (ap (λ (y : Packet). head_of (content y)) n.read) ∙ ap head_of (accepted-inj a.2) in
        ap read_of f.reads
        ∙ λ i. Ok (record { head = sym same i; records = (f.outline i).records; cells = (f.outline i).cells })
