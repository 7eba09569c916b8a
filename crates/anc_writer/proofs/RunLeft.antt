-- A list written record by record: the records that are left, behind those that are written, make the whole run.
-- By the record at the front of the cells, and by the law of one store after the other.
use mathlib.Core.Path.{◌≡◌, refl, ap, sym, ◌∙◌}
use mathlib.Core.List.{List, [], ◌∷◌, ◌++◌}
use Prim.Native.Nat.{ℕ, ◌+◌, ◌<◌, ◌≤◌}
use native.Mathlib.Omega.{arith}
use lib.ListN.{length, length-append}
use Rattle.wire_spec.specs.Bits.{overwrite, splice}
use Rattle.wire_spec.specs.Layout.{Layout}
use Rattle.wire_spec.specs.Result.{IsAccepted}
use Rattle.wire_spec.specs.Anc.{anc_octets, run_octets, anc_size}
use Rattle.wire_spec.specs.Cells.{cell_count, cell_record, records_from, clear_from, rest, read_list}
use Rattle.wire_spec.proofs.ListLaws.{length-splice, splice-append, splice-none}
use Rattle.wire_spec.proofs.SizeLaws.{length-anc}
use Rattle.anc_writer.specs.Answers.{list_octets}
use Rattle.anc_writer.proofs.ListFront.{Front, front}

module _ (L : Layout) where
  -- the run of the cells `left`, from octet `to` on, makes the octets `all`
  pub record ToWrite (all octets left : List ℕ) (to : ℕ) : Type 0 where
    pub accepts : IsAccepted (read_list left)
    pub room : to + length (list_octets L (read_list left)) ≤ length octets
    pub written : splice octets to (list_octets L (read_list left)) ≡ all

  -- before the first record
  pub to-write-all : (cells octets : List ℕ) → IsAccepted (read_list cells) → length (list_octets L (read_list cells)) ≤ length octets
      → ToWrite (overwrite (list_octets L (read_list cells)) octets) octets cells 0
  to-write-all cells octets h l = record { accepts = h; room = omega arith; written = refl }

  -- after the last
  pub to-write-none : (all octets left : List ℕ) (to : ℕ) → ToWrite all octets left to → length left ≤ 0 → octets ≡ all
  unfolding records_from clear_from
  to-write-none all octets [] to w h = sym (splice-none octets to) ∙ w.written
  to-write-none all octets (x ∷ left) to w h = absurd (omega arith)

  -- the record at the front, and what is left when it is written
  pub record Next (all octets left : List ℕ) (to : ℕ) : Type 0 where
    pub front : Front left
    pub room : to + anc_size L (cell_count left) ≤ length octets
    pub then : ToWrite all (splice octets to (anc_octets L (cell_record left))) (rest left) (to + anc_size L (cell_count left))

  pub next : (all octets left : List ℕ) (to : ℕ) → ToWrite all octets left to → 0 < length left → Next all octets left to
  next all octets left to w h =
      let q = front left w.accepts h in
      let o = anc_octets L (cell_record left) in
      let os = list_octets L (read_list (rest left)) in
      let size : anc_size L (cell_count left) ≡ length o = ap (anc_size L) (sym q.lies.words) ∙ sym (length-anc L (cell_record left)) in
      let all_of : list_octets L (read_list left) ≡ _ = ap (run_octets L) q.records in
      let l : to + length (o ++ os) ≤ length octets = rw all_of at w.room in
      let l' = length-append o os in
      let fits : to + length o ≤ length octets = omega arith in
      record {
        front = q;
        room = rw size fits;
        then = record {
          accepts = q.behind;
          room = rw (size, length-splice octets to o fits) (omega arith);
          written =
              ap (λ (k : ℕ). splice (splice octets to o) (to + k) os) size
              ∙ splice-append octets to o os (omega arith)
              ∙ ap (splice octets to) (sym all_of)
              ∙ w.written;
        };
      }

  -- the same, where the code has it
  pub to-write-same : (all octets octets' left left' : List ℕ) (to to' : ℕ) → octets' ≡ octets → left' ≡ left → to' ≡ to
      → ToWrite all octets left to → ToWrite all octets' left' to'
  to-write-same all octets octets' left left' to to' eo el et w =
      record {
        accepts = rw el w.accepts;
        room = rw (eo, el, et) w.room;
        written = (λ i. splice (eo i) (et i) (list_octets L (read_list (el i)))) ∙ w.written;
      }
