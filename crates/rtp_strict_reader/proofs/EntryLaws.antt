-- Demand 2, of what `read_strict` takes and returns: which octets are accepted, and what is then returned and left.
-- From `acceptance`, with the six values taken one by one and 14 last.
use mathlib.Core.Path.{◌≡◌, refl, ap, sym, ◌∙◌, subst}
use mathlib.Core.Bool.{Bool, true, false}
use mathlib.Core.Logic.{◌↔◌}
use mathlib.Core.List.{List, [], ◌∷◌}
use Prim.Native.Nat.{ℕ, ◌≤◌, ◌<◌}
use native.Mathlib.Omega.{arith}
use borrow.Author.Tests.{leb-true, le-leb}
use lib.Dec.{eqb, leb}
use lib.ListN.{length}
use Rattle.wire_spec.specs.Bits.{bit, Below, overwrite}
use Rattle.wire_spec.specs.Layout.{Layout}
use Rattle.wire_spec.specs.Result.{Result, Err, Ok, ◌then◌}
use Rattle.wire_spec.specs.Cells.{list_of}
use Rattle.wire_spec.specs.Packet.{Packet, WellFormedPacket, Content, content, read_content, read_into}
use Rattle.wire_spec.proofs.BitLaws.{flag}
use Rattle.wire_spec.proofs.ResultLaws.{accepted-inj, judge-accepts, then-accepts}
use Rattle.wire_spec.proofs.Demand2.{acceptance}
use Rattle.rtp_strict_reader.specs.Answers.{summary_of, read_of, cells_after}
use Rattle.rtp_strict_reader.specs.Entry.{read_returns, read_leaves, Says, Holds}
use Rattle.rtp_strict_reader.specs.declared.packet.Summary.{Summary}

-- a flag that went to a number is that flag again
pub bit-again : (b : Bool) → eqb (bit b) 1 ≡ b
bit-again true = refl
bit-again false = refl

module _ (L : Layout) where
  -- a packet that was returned was read: what it says, and that its records fit
  pub record Taken (s lent : List ℕ) (m : Summary) : Type 0 where
    pub says : Content
    pub into : read_into L s (length lent) ≡ Ok says
    pub reads : read_content L s ≡ Ok says
    pub summary : summary_of says ≡ m
    pub fits : length (list_of says.records) ≤ length lent

  pub taken : (s lent : List ℕ) (m : Summary) → read_returns L s lent ≡ Ok m → Taken s lent m
  unfolding read_into
  taken s lent m e = go (read_into L s (length lent)) refl e
    where
      go : (r : Result Content) → read_into L s (length lent) ≡ r → read_of r ≡ Ok m → Taken s lent m
      go (Err x) q e = let z : ◌≡◌ {A = ℕ} 0 1 = cc in absurd (omega arith)
      go (Ok k) q e =
          let a = then-accepts (read_content L s) _ k q in
          let j = judge-accepts 0 ((leb (length (list_of a.0.records)) (length lent), 14) ∷ []) (Ok a.0) k a.2 in
          let same : a.0 ≡ k = accepted-inj j.1 in
          let fits : length (list_of a.0.records) ≤ length lent = leb-true _ _ j.0.0 in
          record { says = k; into = q; reads = a.1 ∙ ap Ok same; summary = (cc); fits = rw same at fits }

  -- a content whose records fit is read into the list
  pub into-list : (s lent : List ℕ) (k : Content) → read_content L s ≡ Ok k → length (list_of k.records) ≤ length lent
      → read_into L s (length lent) ≡ Ok k
  unfolding read_into
  into-list s lent k e l = rw (e, le-leb (length (list_of k.records)) (length lent) l)

  marked : (k : Packet) → WellFormedPacket L k → k.marker < 2
  marked k h = omega (arith, h.fit)

  -- M is one bit
  pub read-marked : (s : List ℕ) → Below 256 s → (k : Content) → read_content L s ≡ Ok k → k.marker < 2
  read-marked s below k e =
      let a = (acceptance L s below k).0 e in
      subst (λ (y : Content). y.marker < 2) a.3 (marked a.0 a.1)

  module _ (s : List ℕ) (below : Below 256 s) (lent : List ℕ) (m : Summary) where
    -- "A packet is accepted exactly when the rules .. hold, and the records are the ones they define."
    pub read-iff : (read_returns L s lent ≡ Ok m) ↔ ((k : Packet) × Holds L s lent k m)
    read-iff = (
      λ e.
          let t = taken s lent m e in
          let a = (acceptance L s below t.says).0 t.reads in
          let k = a.0 in
          let same : summary_of (content k) ≡ m = ap summary_of a.3 ∙ t.summary in
          let says : Says k m =
          record {
            source = ap (λ (y : Summary). y.head.source) (sym same);
            type = ap (λ (y : Summary). y.head.payload_type) (sym same);
            marker = ap (λ (y : Summary). bit y.head.marker) (sym same) ∙ flag k.marker (marked k a.1);
            number = ap (λ (y : Summary). y.head.number.0) (sym same);
            timestamp = ap (λ (y : Summary). y.head.timestamp.0) (sym same);
            f = ap (λ (y : Summary). y.head.f) (sym same);
            records = ap (λ (y : Summary). y.records) (sym same);
            cells = ap (λ (y : Summary). y.cells) (sym same);
          } in
          let fits : length (list_of k.records) ≤ length lent = rw (ap (λ (y : Content). y.records) a.3) t.fits in
          (k, record { formed = a.1; octets-are = a.2; says = says; fits = fits }),
      λ p.
          let k = p.0 in
          let h = p.1 in
          let v = h.says in
          let e = into-list s lent (content k) ((acceptance L s below (content k)).1 (k, h.formed, h.octets-are, refl)) h.fits in
          let mark : eqb k.marker 1 ≡ m.head.marker = ap (λ (x : ℕ). eqb x 1) (sym v.marker) ∙ bit-again m.head.marker in
          let same : summary_of (content k) ≡ m =
          λ i.
          record {
            head =
                record {
                  source = sym v.source i;
                  payload_type = sym v.type i;
                  marker = mark i;
                  number = record { 0 = sym v.number i };
                  timestamp = record { 0 = sym v.timestamp i };
                  f = sym v.f i;
                };
            records = sym v.records i;
            cells = sym v.cells i;
          } in
          ap read_of e ∙ ap Ok same,
    )

    -- ".. and the records are the ones they define": what the lent list then holds
    pub read-leaves : (k : Packet) → Holds L s lent k m → read_leaves L s lent ≡ overwrite (list_of k.records) lent
    read-leaves k h =
        ap (λ (r : Result Content). cells_after r lent)
        (into-list s lent (content k) ((acceptance L s below (content k)).1 (k, h.formed, h.octets-are, refl)) h.fits)
