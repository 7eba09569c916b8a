-- What the strict reader's answer says of the tolerant way; and 14, last.
use Rattle.rtp_reader.specs.declared.packet.TolerantRead.{TolerantRead}
use mathlib.Core.Path.{◌≡◌, refl, ap, sym, ◌∙◌}
use mathlib.Core.List.{List}
use Prim.Native.Nat.{ℕ, ◌<◌, ◌≤◌}
use native.Mathlib.Omega.{arith}
use borrow.Author.Tests.{le-leb, lt-leb}
use lib.ListN.{length}
use Rattle.wire_spec.specs.declared.refusal.Refusal.{Refusal}
use Rattle.wire_spec.specs.Layout.{Layout}
use Rattle.wire_spec.specs.Result.{Result, Err, Ok, refuse}
use Rattle.wire_spec.specs.Cells.{list_of}
use Rattle.wire_spec.specs.Packet.{Content, read_into}
use Rattle.anc_tolerant_spec.specs.Tolerant.{Tolerated, tolerate_content, tolerate_into}
use Rattle.anc_tolerant_spec.proofs.PacketLaws.{into-none, into-agrees, into-11}
use Rattle.rtp_strict_reader.specs.Answers.{summary_of, read_of, cells_after}
use Rattle.rtp_strict_reader.specs.Entry.{read_returns, read_leaves}
use Rattle.rtp_strict_reader.specs.declared.packet.Summary.{Summary}
use Rattle.rtp_strict_reader.proofs.EntryLaws.{Taken, taken}
use Rattle.rtp_reader.specs.Answers.{Staged, tolerant_of, through_after}
use Rattle.rtp_reader.specs.Entry.{tolerant_returns, tolerant_leaves}

module _ (L : Layout) (s lent : List ℕ) where
  -- a packet that the strict way reads has none left out
  pub strict-packet : (m : Summary) → read_returns L s lent ≡ Ok m
      → (Ok (record { summary = m; omitted = 0 }) ≡ tolerant_returns L s lent) × (read_leaves L s lent ≡ tolerant_leaves L s lent)
  strict-packet m e =
      let t : Taken L s lent m = taken L s lent m e in
      let n = into-none L s (length lent) t.says t.into in (
        ap (λ (x : Summary). Ok (record { summary = x; omitted = 0 })) (sym t.summary) ∙ ap tolerant_of (sym n),
        ap (λ (r : Result Content). cells_after r lent) t.into ∙ ap (λ (r : Result Tolerated). through_after r lent) (sym n),
      )

  strict-refused : (x : Refusal) → read_returns L s lent ≡ Err x → read_into L s (length lent) ≡ Err x
  strict-refused x e = go (read_into L s (length lent)) e
    where
      go : (r : Result Content) → read_of r ≡ Err x → r ≡ Err x
      go (Err y) e = let k : y ≡ x = cc in ap Err k
      go (Ok k) e = let z : ◌≡◌ {A = ℕ} 0 1 = cc in absurd (omega arith)

  -- what it refuses it leaves
  pub refused-leaves : (x : Refusal) → read_returns L s lent ≡ Err x → read_leaves L s lent ≡ lent
  refused-leaves x e = ap (λ (r : Result Content). cells_after r lent) (strict-refused x e)

  -- a refusal by another number than 11 stays
  pub refused-other : (x : Refusal) → read_returns L s lent ≡ Err x → (x.number ≡ 11 → ⊥)
      → (Err x ≡ tolerant_returns L s lent) × (read_leaves L s lent ≡ tolerant_leaves L s lent)
  refused-other x e h =
      let n = into-agrees L s (length lent) x (strict-refused x e) h in
      (ap tolerant_of (sym n), refused-leaves x e ∙ ap (λ (r : Result Tolerated). through_after r lent) (sym n))

  -- and by 11 the packet passed 1 to 8
  pub refused-11 : (x : Refusal) → read_returns L s lent ≡ Err x → x.number ≡ 11 → Staged L s
  refused-11 x e h = let p = into-11 L s (length lent) x (strict-refused x e) h in record { header = p.0; padding = p.1; payload = p.2 }

module _ (L : Layout) (s : List ℕ) (room : ℕ) where
  pub into-refused : (x : Refusal) → tolerant_of (tolerate_content L s) ≡ Err x → tolerate_into L s room ≡ Err x
  unfolding tolerate_into
  into-refused x h = rw (go (tolerate_content L s) h)
    where
      go : (v : Result Tolerated) → tolerant_of v ≡ Err x → v ≡ Err x
      go (Err y) h = let e : y ≡ x = cc in ap Err e
      go (Ok t) h = let z : ◌≡◌ {A = ℕ} 0 1 = cc in absurd (omega arith)

  module _ (m : Summary) (o : ℕ) (h : tolerant_of (tolerate_content L s) ≡ Ok (record { summary = m; omitted = o })) where
    record Came : Type 0 where
      all : Tolerated
      content : tolerate_content L s ≡ Ok all
      cells : length (list_of all.says.records) ≡ m.cells

    came : Came
    came = go (tolerate_content L s) refl h
      where
        go : (v : Result Tolerated) → tolerate_content L s ≡ v → tolerant_of v ≡ Ok (record { summary = m; omitted = o }) → Came
        go (Err y) e h = let z : ◌≡◌ {A = ℕ} 0 1 = cc in absurd (omega arith)
        go (Ok t) e h =
            let u : ◌≡◌ {A = TolerantRead} (record { summary = summary_of t.says; omitted = t.left_out }) (record { summary = m; omitted = o }) = cc in
            let k : summary_of t.says ≡ m = ap (λ (x : TolerantRead). x.summary) u in
            record { all = t; content = e; cells = ap (λ (x : Summary). x.cells) k }

    -- 14, where the list is too short
    pub into-short : room < m.cells → tolerate_into L s room ≡ refuse 14 0
    unfolding tolerate_into
    into-short l =
        let c : Came = came in
        rw (c.content, lt-leb (length (list_of c.all.says.records)) room (omega (arith, c.cells)))

    -- and nothing more to refuse where it is not
    pub into-fits : m.cells ≤ room → tolerate_into L s room ≡ tolerate_content L s
    unfolding tolerate_into
    into-fits l =
        let c : Came = came in
        rw (c.content, le-leb (length (list_of c.all.says.records)) room (omega (arith, c.cells)))
