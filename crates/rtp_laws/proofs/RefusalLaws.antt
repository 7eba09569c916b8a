-- Refusals, of what `read_strict`, `read` and `write` take and return: exactly when each is given, with which number and which index.
-- From the order of reading and writing over octets and cells.
use mathlib.Core.Path.{◌≡◌, ap}
use mathlib.Core.Logic.{◌↔◌, inl, inr}
use mathlib.Core.List.{List}
use Prim.Native.Nat.{ℕ}
use native.Mathlib.Omega.{arith}
use lib.ListN.{length}
use Rattle.wire_spec.specs.declared.refusal.Refusal.{Refusal}
use Rattle.wire_spec.specs.Layout.{Layout, rfc8331}
use Rattle.wire_spec.specs.Result.{Result, Err, Ok}
use Rattle.wire_spec.specs.Anc.{Record, WellFormed, Each}
use Rattle.wire_spec.specs.Cells.{Lists}
use Rattle.wire_spec.specs.Packet.{anc_count, Content, read_into}
use Rattle.wire_spec.specs.Writing.{write_content, write_content22}
use Rattle.wire_spec.specs.Written.{written_of, octets_after}
use Rattle.wire_spec.specs.Order.{RefusedInto, WriteRefused, ReadIndex, WriteIndex}
use Rattle.wire_spec.proofs.Demand2 as demand2
use Rattle.wire_spec.proofs.ReadingOrder.{into-iff}
use Rattle.wire_spec.proofs.WritingOrder.{write-refused-iff as over-cells}
use Rattle.wire_spec.proofs.IndexLaws.{into-index, write-index}
use Rattle.wire_spec.proofs.Never22 as never22
use Rattle.anc_tolerant_spec.specs.Tolerant.{Tolerated, tolerate_into, ToleratedNot, TolerantIndex}
use Rattle.anc_tolerant_spec.proofs.OrderLaws as tolerant
use Rattle.rtp_strict_reader.specs.Answers.{read_of}
use Rattle.rtp_strict_reader.specs.Entry.{read_returns}
use Rattle.rtp_strict_reader.specs.declared.packet.Head.{Head}
use Rattle.rtp_reader.specs.Answers.{tolerant_of}
use Rattle.rtp_reader.specs.Entry.{tolerant_returns}
use Rattle.rtp_writer.specs.Answers.{content_of}
use Rattle.rtp_writer.specs.Entry.{write_returns, write_leaves}

-- an answer that is told as a refusal is one
pub strict-refused : (r : Result Content) (x : Refusal) → read_of r ≡ Err x → r ≡ Err x
strict-refused (Err y) x e = let q : y ≡ x = cc in ap Err q
strict-refused (Ok k) x e = let z : ◌≡◌ {A = ℕ} 0 1 = cc in absurd (omega arith)

pub tolerant-refused : (r : Result Tolerated) (x : Refusal) → tolerant_of r ≡ Err x → r ≡ Err x
tolerant-refused (Err y) x e = let q : y ≡ x = cc in ap Err q
tolerant-refused (Ok t) x e = let z : ◌≡◌ {A = ℕ} 0 1 = cc in absurd (omega arith)

pub written-refused : (r : Result (List ℕ)) (x : Refusal) → written_of r ≡ Err x → r ≡ Err x
written-refused (Err y) x e = let q : y ≡ x = cc in ap Err q
written-refused (Ok o) x e = let z : ◌≡◌ {A = ℕ} 0 1 = cc in absurd (omega arith)

-- WHAT `read_strict` REFUSES
module _ (L : Layout) (s lent : List ℕ) (x : Refusal) where
  -- the number and the index are those of 01's table, taken in its order; 14 last
  pub read-refused-iff : (read_returns L s lent ≡ Err x) ↔ RefusedInto L s (length lent) x.number x.index
  read-refused-iff =
      let i = into-iff L s (length lent) x.number x.index in
      (λ e. i.0 (strict-refused (read_into L s (length lent)) x e), λ h. ap read_of (i.1 h))

  -- "an index from 0: the ANC packet for 9 to 12, .. otherwise 0", and no other number
  pub read-index : read_returns L s lent ≡ Err x → ReadIndex (anc_count s) x.number x.index
  read-index e = into-index L s (length lent) x.number x.index (read-refused-iff.0 e)

  -- WHAT `read` REFUSES: 11 is not looked for, and 14 goes by the records that come through
  pub tolerant-refused-iff : (tolerant_returns L s lent ≡ Err x) ↔ ToleratedNot L s (length lent) x.number x.index
  tolerant-refused-iff =
      let i = tolerant.into-iff L s (length lent) x.number x.index in
      (λ e. i.0 (tolerant-refused (tolerate_into L s (length lent)) x e), λ h. ap tolerant_of (i.1 h))

  pub tolerant-index : tolerant_returns L s lent ≡ Err x → TolerantIndex (anc_count s) x.number x.index
  tolerant-index e = tolerant.tolerant-index L s (length lent) x.number x.index (tolerant-refused-iff.0 e)

-- WHAT `write` REFUSES
module _ (L : Layout) (h : Head) (cells out : List ℕ) where
  module _ (x : Refusal) where
    -- 24, 20, 16, 21, 25, 23, with the number and the index of 01's table, taken in its order
    pub write-refused-iff : (write_returns L h cells out ≡ Err x) ↔ WriteRefused L (content_of h) cells (length out) x.number x.index
    write-refused-iff =
        let i = over-cells L (content_of h) cells (length out) x.number x.index in
        (λ e. i.0 (written-refused (write_content L (content_of h) cells (length out)) x e), λ w. ap written_of (i.1 w))

    -- ".. the record for 20, .. otherwise 0", 16 with the record's index, and no other number
    pub write-index-is : write_returns L h cells out ≡ Err x → WriteIndex (length cells) x.number x.index
    write-index-is e = write-index L (content_of h) cells (length out) x.number x.index (write-refused-iff.0 e)

    -- "22 cannot be given in either layout" (02, K7)
    pub never-22 : write_returns L h cells out ≡ Err x → x.number ≡ 22 → ⊥
    never-22 e z = go (write-index-is e)
      where
        go : WriteIndex (length cells) x.number x.index → ⊥
        go (inl (inl e, _)) = omega arith
        go (inl (inr (inl e), _)) = omega arith
        go (inl (inr (inr x8), _)) = elim x8 [ ]
        go (inr (inl e, _)) = omega arith
        go (inr (inr (inl e), _)) = omega arith
        go (inr (inr (inr (inl e)), _)) = omega arith
        go (inr (inr (inr (inr (inl e))), _)) = omega arith
        go (inr (inr (inr (inr (inr x13))), _)) = elim x13 [ ]

  -- and a writer that looked for 22 in its place, between 25 and 23, would return the same
  pub with-22-alike : written_of (write_content22 L (content_of h) cells (length out)) ≡ write_returns L h cells out
  with-22-alike = ap written_of (never22.never-22 L (content_of h) cells (length out))

  -- "the writers only check the cell" (02, K13): lists of the same records are written alike, answer and octets
  pub only-checked : (others : List ℕ) (rs : List Record) → Each (WellFormed rfc8331) rs → Lists rs cells → Lists rs others
      → (write_returns L h cells out ≡ write_returns L h others out) × (write_leaves L h cells out ≡ write_leaves L h others out)
  only-checked others rs formed a b =
      let e = demand2.only-checked L (content_of h) rs cells others (length out) formed a b in
      (ap written_of e, ap (λ (r : Result (List ℕ)). octets_after r out) e)
