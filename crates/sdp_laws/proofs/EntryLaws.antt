-- SDP parameters, of what `write` and `read` take and return: what is written reads back, what is accepted, what is refused and why.
-- From the grammar's laws.
use Rattle.std.specs.Prelude.{Option}
use mathlib.Core.Path.{◌≡◌, refl, ap, ap₂, sym, ◌∙◌, subst}
use mathlib.Core.Logic.{◌↔◌}
use mathlib.Core.List.{List}
use Prim.Native.Nat.{ℕ, ◌/◌, ◌≤◌}
use native.Mathlib.Omega.{arith}
use lib.ListN.{length, take, drop}
use lib.Seq.{take_at, drop_at}
use Rattle.wire_spec.specs.declared.refusal.Refusal.{Refusal}
use Rattle.wire_spec.specs.declared.count.OctetCount.{OctetCount}
use Rattle.wire_spec.specs.Bits.{Below, overwrite}
use Rattle.wire_spec.specs.Result.{Result, Err, Ok}
use Rattle.wire_spec.specs.Written.{octets_after, written_of}
use Rattle.sdp_spec.specs.declared.parameters.Parameters.{Parameters}
use Rattle.sdp_spec.specs.Grammar.{codes, Content, Says}
use Rattle.sdp_spec.specs.Reading.{read_into}
use Rattle.sdp_spec.specs.Writing.{write_text}
use Rattle.sdp_spec.specs.Offence.{Refuses, WriteRefuses}
use Rattle.sdp_spec.proofs.Acceptance.{room-iff}
use Rattle.sdp_spec.proofs.RoundTrip.{written-reads}
use Rattle.sdp_spec.proofs.Refusals.{read-refuses, write-refuses}
use Rattle.sdp_reader.specs.Answers.{content_reading, content_pairs, read_returns, read_leaves}
use Rattle.sdp_writer.specs.Entry.{write_returns, write_leaves}

-- "Read pairs go into lent octets, DID then SDID": the lent octets begin with the pairs, and the rest is as it was
pub record Holds (pairs lent after : List ℕ) : Type 0 where
  pub first : take (length pairs) after ≡ pairs
  pub rest : drop (length pairs) after ≡ drop (length pairs) lent

holds : (pairs lent : List ℕ) → Holds pairs lent (overwrite pairs lent)
holds pairs lent = record { first = take_at pairs (drop (length pairs) lent) (length pairs) refl; rest = drop_at pairs (drop (length pairs) lent) (length pairs) refl }

-- A TEXT IS ACCEPTED exactly when the grammar says something of it that fits: "the answer is their count and the VPID_Code or none"
pub record Answers (text lent : List ℕ) (p : Parameters) : Type 0 where
  pub pairs : List ℕ
  pub says : Says text (record { pairs = pairs; vpid = p.vpid })
  pub count : p.pairs ≡ length pairs / 2
  pub fits : length pairs ≤ length lent
  pub leaves : Holds pairs lent (read_leaves text lent)

module _ (text lent : List ℕ) where
  into : (k : Content) → read_into text (length lent) ≡ Ok k → read_leaves text lent ≡ overwrite k.pairs lent
  into k e = ap (λ (r : Result Content). overwrite (content_pairs r) lent) e

  pub accepted-iff : (p : Parameters) → (read_returns text lent ≡ Ok p) ↔ Answers text lent p
  accepted-iff p = (
    λ e. go (read_into text (length lent)) refl e,
    λ a.
        ap content_reading ((room-iff text (length lent) (record { pairs = a.pairs; vpid = p.vpid })).1 (a.says, a.fits))
        ∙ (λ i. Ok (record { pairs = sym a.count i; vpid = p.vpid })),
  )
    where
      go : (r : Result Content) → read_into text (length lent) ≡ r → content_reading r ≡ Ok p → Answers text lent p
      go (Err x) q e = let z : ◌≡◌ {A = ℕ} 0 1 = cc in absurd (omega arith)
      go (Ok k) q e =
          let s : record { pairs = length k.pairs / 2; vpid = k.vpid } ≡ p = cc in
          let v : k.vpid ≡ p.vpid = ap (λ (y : Parameters). y.vpid) s in
          let t = (room-iff text (length lent) k).0 q in
          record {
            pairs = k.pairs;
            says = subst (Says text) (λ i. record { pairs = k.pairs; vpid = v i }) t.0;
            count = sym (ap (λ (y : Parameters). y.pairs) s);
            fits = t.1;
            leaves = subst (Holds k.pairs lent) (sym (into k q)) (holds k.pairs lent);
          }

  -- AND REFUSED exactly so: 40; the first item that offends; 44
  pub refused-iff : (x : Refusal) → (read_returns text lent ≡ Err x) ↔ Refuses text (length lent) x
  refused-iff x = (λ e. go (read_into text (length lent)) refl e, λ r. ap content_reading ((read-refuses text x (length lent)).1 r))
    where
      go : (r : Result Content) → read_into text (length lent) ≡ r → content_reading r ≡ Err x → Refuses text (length lent) x
      go (Err y) q e = let s : y ≡ x = cc in (read-refuses text x (length lent)).0 (q ∙ ap Err s)
      go (Ok k) q e = let z : ◌≡◌ {A = ℕ} 0 1 = cc in absurd (omega arith)

  -- "Lent memory is unchanged" on a refusal
  pub refused-stays : (x : Refusal) → read_returns text lent ≡ Err x → read_leaves text lent ≡ lent
  refused-stays x e = go (read_into text (length lent)) e
    where
      go : (r : Result Content) → content_reading r ≡ Err x → overwrite (content_pairs r) lent ≡ lent
      go (Err y) e = refl
      go (Ok k) e = let z : ◌≡◌ {A = ℕ} 0 1 = cc in absurd (omega arith)

-- WRITTEN: the text, in the first octets that were lent
module _ (pairs : List ℕ) (v : Option ℕ) (out : List ℕ) where
  abbrev k : Content
  k = record { pairs = pairs; vpid = v }

  -- "What is written reads back the same": what `write` left, given to `read` with room for the pairs, answers their count and the VPID code or
  -- none, and leaves the pairs
  pub written_read : (n : OctetCount) → Below 256 pairs → Below 256 (codes v) → write_returns pairs v out ≡ Ok n
      → (lent : List ℕ) → length pairs ≤ length lent
      → (read_returns (take n.0 (write_leaves pairs v out)) lent ≡ Ok (record { pairs = length pairs / 2; vpid = v }))
      × Holds pairs lent (read_leaves (take n.0 (write_leaves pairs v out)) lent)
  written_read n below code e lent room = go (write_text k (length out)) refl e
    where
      go : (r : Result (List ℕ)) → write_text k (length out) ≡ r → written_of r ≡ Ok n
          → (read_returns (take n.0 (write_leaves pairs v out)) lent ≡ Ok (record { pairs = length pairs / 2; vpid = v }))
          × Holds pairs lent (read_leaves (take n.0 (write_leaves pairs v out)) lent)
      go (Err x) q e = let z : ◌≡◌ {A = ℕ} 0 1 = cc in absurd (omega arith)
      go (Ok o) q e =
          let u : record { 0 = length o } ≡ n = cc in
          let size : length o ≡ n.0 = ap (λ (y : OctetCount). y.0) u in
          let text : take n.0 (write_leaves pairs v out) ≡ o =
          ap₂ (λ (x : ℕ) (r : Result (List ℕ)). take x (octets_after r out)) (sym size) q ∙ take_at o (drop (length o) out) (length o) refl in
          let reads : read_into (take n.0 (write_leaves pairs v out)) (length lent) ≡ Ok k =
          ap (λ (s : List ℕ). read_into s (length lent)) text ∙ written-reads k below code (length out) (length lent) o q room in
          (ap content_reading reads, subst (Holds pairs lent) (sym (into (take n.0 (write_leaves pairs v out)) lent k reads)) (holds pairs lent))

  -- PARAMETERS ARE REFUSED exactly so: "an odd octet being 41, index 0, before 43"; "43, 44 apply, index 0"
  pub write-refused-iff : (x : Refusal) → (write_returns pairs v out ≡ Err x) ↔ WriteRefuses pairs v (length out) x
  write-refused-iff x = (λ e. go (write_text k (length out)) refl e, λ r. ap written_of ((write-refuses pairs v (length out) x).1 r))
    where
      go : (r : Result (List ℕ)) → write_text k (length out) ≡ r → written_of r ≡ Err x → WriteRefuses pairs v (length out) x
      go (Err y) q e = let s : y ≡ x = cc in (write-refuses pairs v (length out) x).0 (q ∙ ap Err s)
      go (Ok o) q e = let z : ◌≡◌ {A = ℕ} 0 1 = cc in absurd (omega arith)

  pub write-refused-stays : (x : Refusal) → write_returns pairs v out ≡ Err x → write_leaves pairs v out ≡ out
  write-refused-stays x e = go (write_text k (length out)) e
    where
      go : (r : Result (List ℕ)) → written_of r ≡ Err x → octets_after r out ≡ out
      go (Err y) e = refl
      go (Ok o) e = let z : ◌≡◌ {A = ℕ} 0 1 = cc in absurd (omega arith)
