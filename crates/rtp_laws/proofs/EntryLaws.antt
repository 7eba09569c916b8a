-- Demand 2 of what `rtp_reader::read` takes and returns: which octets are accepted, what comes through, and that with none left out it is the strict way.
-- From the tolerant way's laws over octets, with 14 last.
use Rattle.rtp_reader.specs.declared.packet.TolerantRead.{TolerantRead}
use mathlib.Core.Path.{◌≡◌, refl, ap, sym, ◌∙◌, subst}
use mathlib.Core.Logic.{◌↔◌}
use mathlib.Core.List.{List, [], ◌∷◌}
use Prim.Native.Nat.{ℕ, ◌≤◌}
use native.Mathlib.Omega.{arith}
use borrow.Author.Tests.{leb-true, le-leb}
use lib.Dec.{leb}
use lib.ListN.{length, take}
use Rattle.wire_spec.specs.declared.refusal.Refusal.{Refusal}
use Rattle.wire_spec.specs.declared.count.OctetCount.{OctetCount}
use Rattle.wire_spec.specs.Bits.{Below, overwrite}
use Rattle.wire_spec.specs.Layout.{Layout, draft2015}
use Rattle.wire_spec.specs.Result.{Result, Err, Ok, Numbered}
use Rattle.wire_spec.specs.Anc.{Record}
use Rattle.wire_spec.specs.Cells.{list_of, Lists}
use Rattle.wire_spec.specs.Packet.{Packet, BareOctets, padding_flag, has_extension, source_count, Content, content}
use Rattle.wire_spec.specs.Writing.{with_records}
use Rattle.wire_spec.proofs.ResultLaws.{accepted-inj, judge-accepts, then-accepts}
use Rattle.wire_spec.proofs.PacketLaws.{not_eqb}
use Rattle.wire_spec.proofs.Demand2.{bare-draft}
use Rattle.anc_tolerant_spec.specs.Tolerant.{is_not11, Tolerated, tolerate_content, tolerate_into}
use Rattle.anc_tolerant_spec.specs.Received.{Received, through_of, left_out_of}
use Rattle.anc_tolerant_spec.proofs.PacketLaws as laws
use Rattle.anc_tolerant_spec.proofs.ThroughLaws.{comes-through}
use Rattle.rtp_strict_reader.specs.Answers.{summary_of, read_of}
use Rattle.rtp_strict_reader.specs.Entry.{read_returns, read_leaves}
use Rattle.rtp_strict_reader.specs.declared.packet.Head.{Head}
use Rattle.rtp_strict_reader.specs.declared.packet.Summary.{Summary}
use Rattle.rtp_strict_reader.proofs.EntryLaws.{into-list}
use Rattle.rtp_reader.specs.Answers.{tolerant_of, through_after}
use Rattle.rtp_reader.specs.Entry.{tolerant_returns, tolerant_leaves}
use Rattle.rtp_reader.proofs.ReadLaws.{strict-packet, refused-leaves, refused-other}
use Rattle.rtp_writer.specs.Entry.{write_returns, write_leaves, OfTypes}
use Rattle.rtp_writer.proofs.EntryLaws as packetizer
use Rattle.rtp_laws.specs.Through.{Through}

module _ (L : Layout) (s lent : List ℕ) where
  -- a packet that was returned was read: what it says, how many were left out, and that its records fit
  pub record Taken (m : Summary) (n : ℕ) : Type 0 where
    pub all : Tolerated
    pub into : tolerate_into L s (length lent) ≡ Ok all
    pub reads : tolerate_content L s ≡ Ok all
    pub summary : summary_of all.says ≡ m
    pub left_out : all.left_out ≡ n
    pub fits : length (list_of all.says.records) ≤ length lent

  pub taken : (m : Summary) (n : ℕ) → tolerant_returns L s lent ≡ Ok (record { summary = m; omitted = n }) → Taken m n
  unfolding tolerate_into
  taken m n e = go (tolerate_into L s (length lent)) refl e
    where
      go : (r : Result Tolerated) → tolerate_into L s (length lent) ≡ r → tolerant_of r ≡ Ok (record { summary = m; omitted = n }) → Taken m n
      go (Err x) q e = let z : ◌≡◌ {A = ℕ} 0 1 = cc in absurd (omega arith)
      go (Ok t) q e =
          let a = then-accepts (tolerate_content L s) _ t q in
          let j = judge-accepts 0 ((leb (length (list_of a.0.says.records)) (length lent), 14) ∷ []) (Ok a.0) t a.2 in
          let same : a.0 ≡ t = accepted-inj j.1 in
          let fits : length (list_of a.0.says.records) ≤ length lent = leb-true _ _ j.0.0 in
          let u : ◌≡◌ {A = TolerantRead} (record { summary = summary_of t.says; omitted = t.left_out }) (record { summary = m; omitted = n }) = cc in
          let k : summary_of t.says ≡ m = ap (λ (x : TolerantRead). x.summary) u in
          let o : t.left_out ≡ n = ap (λ (x : TolerantRead). x.omitted) u in
          record { all = t; into = q; reads = a.1 ∙ ap Ok same; summary = k; left_out = o; fits = rw same at fits }

  -- what fits is read into the list
  into-fits : (t : Tolerated) → tolerate_content L s ≡ Ok t → length (list_of t.says.records) ≤ length lent → tolerate_into L s (length lent) ≡ Ok t
  unfolding tolerate_into
  into-fits t e l = rw (e, le-leb (length (list_of t.says.records)) (length lent) l)

  -- A PACKET IS RETURNED exactly when it is the octets of a well-formed packet, but that each ANC packet may have any ten-bit word in the place of its
  -- checksum; what comes through, in order, are the records whose word is their own, and the others are counted
  pub through-iff : Below 256 s → (m : Summary) (n : ℕ)
      → (tolerant_returns L s lent ≡ Ok (record { summary = m; omitted = n })) ↔ ((p : Packet) × (ps : List Received) × Through L s lent p ps m n)
  through-iff below m n = (
    λ e.
        let t : Taken m n = taken m n e in
        let c = (comes-through L s below t.all).0 t.reads in
        let h = c.2 in (
          c.0,
          c.1,
          record {
            formed = h.formed;
            received = h.received;
            records = h.records;
            octets-are = h.octets;
            says = ap summary_of h.says ∙ t.summary;
            left_out = h.left_out ∙ t.left_out;
            fits = subst (λ (k : Content). length (list_of k.records) ≤ length lent) (sym h.says) t.fits;
          },
        ),
    λ x.
        let p = x.0 in
        let ps = x.1 in
        let h = x.2 in
        let t : Tolerated = record { says = with_records (content p) (through_of ps); left_out = left_out_of ps } in
        let c = (comes-through L s below t).1 (p, ps, record { formed = h.formed; received = h.received; records = h.records; octets = h.octets-are; says = refl; left_out = refl }) in
        ap tolerant_of (into-fits t c h.fits) ∙ (λ i. Ok (record { summary = h.says i; omitted = h.left_out i })),
  )

  -- and the list then has their cells
  pub through-leaves : Below 256 s → (p : Packet) (ps : List Received) (m : Summary) (n : ℕ) → Through L s lent p ps m n
      → tolerant_leaves L s lent ≡ overwrite (list_of (through_of ps)) lent
  through-leaves below p ps m n h =
      let t : Tolerated = record { says = with_records (content p) (through_of ps); left_out = left_out_of ps } in
      let c = (comes-through L s below t).1 (p, ps, record { formed = h.formed; received = h.received; records = h.records; octets = h.octets-are; says = refl; left_out = refl }) in
      ap (λ (r : Result Tolerated). through_after r lent) (into-fits t c h.fits)

  -- WITH NONE LEFT OUT what is returned is what the strict way returns, and so is what is left
  pub none-left-out : (m : Summary) → (tolerant_returns L s lent ≡ Ok (record { summary = m; omitted = 0 })) ↔ (read_returns L s lent ≡ Ok m)
  none-left-out m = (
    λ e.
        let t : Taken m 0 = taken m 0 e in
        let k = t.all.says in
        let reads = (laws.none-left-out L s k).0 (t.reads ∙ ap Ok (λ i. record { says = k; left_out = t.left_out i })) in
        ap read_of (into-list L s lent k reads t.fits) ∙ ap Ok t.summary,
    λ e. sym (strict-packet L s lent m e).0,
  )

  pub none-leaves : (m : Summary) → read_returns L s lent ≡ Ok m → tolerant_leaves L s lent ≡ read_leaves L s lent
  none-leaves m e = sym (strict-packet L s lent m e).1

  -- "11 isn't given in the tolerant way"
  pub never-11 : (x : Refusal) → tolerant_returns L s lent ≡ Err x → x.number ≡ 11 → ⊥
  never-11 x e = go (tolerate_into L s (length lent)) (laws.never-11 L s (length lent)) e
    where
      go : (r : Result Tolerated) → Numbered is_not11 r → tolerant_of r ≡ Err x → x.number ≡ 11 → ⊥
      go (Err y) h e z = let k : y ≡ x = cc in not_eqb y.number 11 h (ap (λ (w : Refusal). w.number) k ∙ z)
      go (Ok t) h e z = let o : ◌≡◌ {A = ℕ} 0 1 = cc in absurd (omega arith)

  -- another refusal of the strict way is the tolerant way's, with the same index, and the list stays
  pub other-refusals : (x : Refusal) → read_returns L s lent ≡ Err x → (x.number ≡ 11 → ⊥)
      → (tolerant_returns L s lent ≡ Err x) × (tolerant_leaves L s lent ≡ lent)
  other-refusals x e h =
      let p = refused-other L s lent x e h in
      (sym p.0, sym p.1 ∙ refused-leaves L s lent x e)

-- "Writing records and reading them gives the same records.", "apart from this cell" (02, K13): with none left out
pub written_read : (L : Layout) (h : Head) → OfTypes h → (cells out : List ℕ) (n : OctetCount) → write_returns L h cells out ≡ Ok n
    → (lent : List ℕ) → length cells ≤ length lent
    → (rs : List Record) × Lists rs cells
    × (tolerant_returns L (take n.0 (write_leaves L h cells out)) lent ≡ Ok (record { summary = record { head = h; records = length rs; cells = length cells }; omitted = 0 }))
    × (tolerant_leaves L (take n.0 (write_leaves L h cells out)) lent ≡ overwrite (list_of rs) lent)
written_read L h typed cells out n e lent l =
    let d = packetizer.written_read L h typed cells out n e lent l in
    let s = take n.0 (write_leaves L h cells out) in
    (d.0, d.1, (none-left-out L s lent _).1 d.2, none-leaves L s lent _ d.2 ∙ d.3)

-- "Demand 2's rewriting holds for the tolerant way where none were left out."
pub rewritten-iff : (L : Layout) (s : List ℕ) → Below 256 s → (lent : List ℕ) (m : Summary) → tolerant_returns L s lent ≡ Ok (record { summary = m; omitted = 0 })
    → (out : List ℕ) (n : OctetCount) → write_returns L m.head (take m.cells (tolerant_leaves L s lent)) out ≡ Ok n
    → (take n.0 (write_leaves L m.head (take m.cells (tolerant_leaves L s lent)) out) ≡ s) ↔ BareOctets L s
rewritten-iff L s below lent m e out n w =
    let r = (none-left-out L s lent m).0 e in
    let same : tolerant_leaves L s lent ≡ read_leaves L s lent = none-leaves L s lent m r in
    let i = packetizer.rewritten-iff L s below lent m r out n (subst (λ (x : List ℕ). write_returns L m.head (take m.cells x) out ≡ Ok n) same w) in
    subst (λ (x : List ℕ). (take n.0 (write_leaves L m.head (take m.cells x) out) ≡ s) ↔ BareOctets L s) (sym same) i

-- "Demand 2 holds for each by itself, without reserved bits in the old one" (02, K3): the same in the drafts' layout
pub rewritten-draft-iff : (s : List ℕ) → Below 256 s → (lent : List ℕ) (m : Summary) → tolerant_returns draft2015 s lent ≡ Ok (record { summary = m; omitted = 0 })
    → (out : List ℕ) (n : OctetCount) → write_returns draft2015 m.head (take m.cells (tolerant_leaves draft2015 s lent)) out ≡ Ok n
    → (take n.0 (write_leaves draft2015 m.head (take m.cells (tolerant_leaves draft2015 s lent)) out) ≡ s)
    ↔ ((padding_flag s ≡ 0) × (has_extension s ≡ 0) × (source_count s ≡ 0))
rewritten-draft-iff s below lent m e out n w =
    let i = rewritten-iff draft2015 s below lent m e out n w in
    let b = bare-draft s in
    (λ x. b.0 (i.0 x), λ x. i.1 (b.1 x))
