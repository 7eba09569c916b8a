-- A record written as its header and then its words is its cells.
-- One store after the other is one store of both.
use mathlib.Core.Path.{◌≡◌, ap, sym, ◌∙◌}
use mathlib.Core.List.{List, ◌++◌}
use Prim.Native.Nat.{ℕ, ◌-◌, ◌<◌, zero-le}
use lib.ListN.{length, take, drop}
use Rattle.wire_spec.specs.Bits.{row_at, overwrite, splice}
use Rattle.wire_spec.specs.Layout.{Layout}
use Rattle.wire_spec.specs.Words.{word_bits}
use Rattle.wire_spec.specs.Anc.{Record, anc_record, data_count, words_at}
use Rattle.wire_spec.specs.Cells.{head_cells, cells_in}
use Rattle.anc_record.specs.Header.{header_of, header_cells}
use Rattle.wire_spec.proofs.BitLaws.{bits_at-lt}
use Rattle.wire_spec.proofs.ListLaws.{splice-append, part-written}
use Rattle.anc_record.proofs.HeaderLaws.{header-cells}
use Rattle.anc_reader.proofs.PacketLaws.{s-small}

record-written : (p : ℕ) (r : Record) (cells head part : List ℕ) → r.c < 2 → r.s < 2
    → head ≡ overwrite (header_cells p (header_of r)) cells
    → part ≡ overwrite r.words (take (length head - head_cells) (drop head_cells head))
    → take head_cells head ++ (part ++ drop (length head - head_cells) (drop head_cells head)) ≡ overwrite (cells_in p r) cells
record-written p r cells head part c s h e =
    part-written head_cells head r.words part e
    ∙ ap (λ (l : List ℕ). splice l head_cells r.words) h
    ∙ splice-append cells 0 (header_cells p (header_of r)) r.words zero-le
    ∙ ap (λ (l : List ℕ). overwrite (l ++ r.words) cells) (header-cells r c s p)

-- a packet's record, as the code writes it in the layout that an arm is told
pub packet-written : (M L : Layout) (s : List ℕ) (index : ℕ) (cells head part : List ℕ) (n : ℕ) → M ≡ L → n ≡ data_count L s
    → head ≡ overwrite (header_cells index (header_of (anc_record L s))) cells
    → part ≡ overwrite (row_at word_bits s (words_at L) n) (take (length head - head_cells) (drop head_cells head))
    → (n ≡ data_count M s)
    × (take head_cells head ++ (part ++ drop (length head - head_cells) (drop head_cells head)) ≡ overwrite (cells_in index (anc_record M s)) cells)
unfolding anc_record
packet-written M L s index cells head part n e d h p = (
  d ∙ ap (λ (N : Layout). data_count N s) (sym e),
  record-written index (anc_record L s) cells head part (bits_at-lt s 0 1) (s-small L s) h
      (p ∙ ap (λ (k : ℕ). overwrite (row_at word_bits s (words_at L) k) (take (length head - head_cells) (drop head_cells head))) d)
      ∙ ap (λ (N : Layout). overwrite (cells_in index (anc_record N s)) cells) (sym e),
)
