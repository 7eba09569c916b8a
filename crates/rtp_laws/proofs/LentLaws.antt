-- What `read_strict`, `read` and `write` leave in lent memory: on a refusal all of it as it was, on success nothing but the answer written.
use mathlib.Core.Path.{◌≡◌, refl, ap, sym, subst}
use mathlib.Core.List.{List}
use Prim.Native.Nat.{ℕ, ◌≤◌}
use native.Mathlib.Omega.{arith}
use lib.ListN.{length, drop}
use borrow.Author.Tests.{leb-true}
use Rattle.wire_spec.specs.declared.refusal.Refusal.{Refusal}
use Rattle.wire_spec.specs.declared.count.OctetCount.{OctetCount}
use Rattle.wire_spec.specs.Layout.{Layout}
use Rattle.wire_spec.specs.Result.{Result, Err, Ok}
use Rattle.wire_spec.specs.Cells.{list_of}
use Rattle.wire_spec.specs.Packet.{Content, read_into}
use Rattle.wire_spec.specs.Writing.{content_octets, with_records, head_checks, limit_checks, packet_records, write_content}
use Rattle.wire_spec.specs.Written.{written_of, octets_after}
use Rattle.wire_spec.proofs.ResultLaws.{accepted-inj, then-accepts}
use Rattle.wire_spec.proofs.WritingLaws.{passes}
use Rattle.wire_spec.proofs.WrittenLaws.{written-only}
use Rattle.anc_tolerant_spec.specs.Tolerant.{Tolerated, tolerate_into}
use Rattle.rtp_strict_reader.specs.Answers.{cells_after}
use Rattle.rtp_strict_reader.specs.Entry.{read_returns, read_leaves}
use Rattle.rtp_strict_reader.specs.declared.packet.Head.{Head}
use Rattle.rtp_strict_reader.specs.declared.packet.Summary.{Summary}
use Rattle.rtp_strict_reader.proofs.EntryLaws as rtp
use Rattle.rtp_reader.specs.Answers.{through_after}
use Rattle.rtp_reader.specs.Entry.{tolerant_returns, tolerant_leaves}
use Rattle.rtp_writer.specs.Answers.{content_of}
use Rattle.rtp_writer.specs.Entry.{write_returns, write_leaves}
use Rattle.rtp_laws.proofs.EntryLaws.{Taken, taken}
use Rattle.rtp_laws.proofs.RefusalLaws.{strict-refused, tolerant-refused, written-refused}

-- "only the cells or octets of the answer are written": those behind the first `n`, and how many there are, stay
abbrev pub Behind : (n : ℕ) (before after : List ℕ) → Type 0
Behind n before after = (drop n after ≡ drop n before) × (length after ≡ length before)

module _ (L : Layout) (s lent : List ℕ) where
  -- "Lent memory is unchanged", of `read_strict`, ..
  pub read_keeps : (x : Refusal) → read_returns L s lent ≡ Err x → read_leaves L s lent ≡ lent
  read_keeps x e = ap (λ (r : Result Content). cells_after r lent) (strict-refused (read_into L s (length lent)) x e)

  -- .. and "On success only the cells .. of the answer are written"
  pub read_only : (m : Summary) → read_returns L s lent ≡ Ok m → Behind m.cells lent (read_leaves L s lent)
  read_only m e =
      let t : rtp.Taken L s lent m = rtp.taken L s lent m e in
      let w = written-only (list_of t.says.records) lent t.fits in
      let n : length (list_of t.says.records) ≡ m.cells = ap (λ (y : Summary). y.cells) t.summary in
      subst (λ (r : Result Content). Behind m.cells lent (cells_after r lent)) (sym t.into)
      (subst (λ (k : ℕ). Behind k lent (cells_after (Ok t.says) lent)) n (w.1, w.2))

  -- of `read`
  pub tolerant-keeps : (x : Refusal) → tolerant_returns L s lent ≡ Err x → tolerant_leaves L s lent ≡ lent
  tolerant-keeps x e = ap (λ (r : Result Tolerated). through_after r lent) (tolerant-refused (tolerate_into L s (length lent)) x e)

  pub tolerant-only : (m : Summary) (n : ℕ) → tolerant_returns L s lent ≡ Ok (record { summary = m; omitted = n }) → Behind m.cells lent (tolerant_leaves L s lent)
  tolerant-only m n e =
      let t : Taken L s lent m n = taken L s lent m n e in
      let w = written-only (list_of t.all.says.records) lent t.fits in
      let c : length (list_of t.all.says.records) ≡ m.cells = ap (λ (y : Summary). y.cells) t.summary in
      subst (λ (r : Result Tolerated). Behind m.cells lent (through_after r lent)) (sym t.into)
      (subst (λ (k : ℕ). Behind k lent (through_after (Ok t.all) lent)) c (w.1, w.2))

-- of `write`
module _ (L : Layout) (h : Head) (cells out : List ℕ) where
  pub write_keeps : (x : Refusal) → write_returns L h cells out ≡ Err x → write_leaves L h cells out ≡ out
  write_keeps x e = ap (λ (r : Result (List ℕ)). octets_after r out) (written-refused (write_content L (content_of h) cells (length out)) x e)

  -- what is written has room
  fits : (o : List ℕ) → write_content L (content_of h) cells (length out) ≡ Ok o → length o ≤ length out
  unfolding write_content
  fits o e =
      let a = then-accepts (packet_records L (content_of h) cells (length out)) _ o e in
      let p = passes (head_checks (content_of h)) (λ rs. limit_checks L (with_records (content_of h) rs) (length cells) (length out)) cells a.0 a.1 in
      let l = leb-true (length (content_octets L (with_records (content_of h) a.0))) (length out) p.limits-passed.1.1.0 in
      subst (λ (x : List ℕ). length x ≤ length out) (accepted-inj a.2) l

  pub write-only : (n : OctetCount) → write_returns L h cells out ≡ Ok n → Behind n.0 out (write_leaves L h cells out)
  write-only n e = go (write_content L (content_of h) cells (length out)) refl e
    where
      go : (r : Result (List ℕ)) → write_content L (content_of h) cells (length out) ≡ r → written_of r ≡ Ok n → Behind n.0 out (octets_after r out)
      go (Err x) q e = let z : ◌≡◌ {A = ℕ} 0 1 = cc in absurd (omega arith)
      go (Ok o) q e =
          let u : record { 0 = length o } ≡ n = cc in
          let w = written-only o out (fits o q) in
          subst (λ (k : ℕ). Behind k out (octets_after (Ok o) out)) (ap (λ (y : OctetCount). y.0) u) (w.1, w.2)
