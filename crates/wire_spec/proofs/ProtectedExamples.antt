-- Protected words in user data (02, K5): the borders, the places of 16 in the order and its index, in both layouts and in a list; by computation.
-- And the rule in ST 291-1's words.
use mathlib.Core.Path.{◌≡◌, refl}
use mathlib.Core.Bool.{Bool, true, false, ◌&&◌, true≢false}
use mathlib.Core.Logic.{◌↔◌, ◌⊎◌, inl, inr}
use mathlib.Core.List.{[], ◌∷◌, ◌++◌}
use Prim.Native.Nat.{ℕ, ◌/◌, ◌<◌, ◌≤◌}
use native.Mathlib.Omega.{arith}
use lib.Dec.{leb}
use lib.ListN.{set, take}
use borrow.Author.Tests.{leb-true, leb-false}
use Rattle.wire_spec.specs.Bits.{to_bits, num, bits, octets, bits_at, row_at, field_bits}
use Rattle.wire_spec.specs.Words.{header_word, checksum_word, least_clear, most_clear, is_clear}
use Rattle.wire_spec.specs.Layout.{rfc8331, draft2015}
use Rattle.wire_spec.specs.Result.{Ok, refuse}
use Rattle.wire_spec.specs.Anc.{Record, anc_octets, anc_size, anc_record, headers_ok, r_ok, words_ok, checksum_ok, alignment_ok, anc_checks, read_anc, read_run}
use Rattle.wire_spec.specs.Cells.{cells_of, cell_record, head_in_range, cell_checks, records_from, clear_from, read_list}
use Rattle.wire_spec.specs.Packet.{packet_octets, Content}
use Rattle.wire_spec.specs.Writing.{write_content}
use Rattle.wire_spec.proofs.Examples.{a}

-- A WORD IS PROTECTED exactly where its bits b9 to b2 are all zeros or all ones
pub protected-iff : (w : ℕ) → w < 1024 → (is_clear w ≡ false) ↔ ((w / 4 ≡ 0) ⊎ (w / 4 ≡ 255))
protected-iff w h = go (leb least_clear w) (leb w most_clear) refl refl
  where
    go : (x y : Bool) → leb least_clear w ≡ x → leb w most_clear ≡ y → (x && y ≡ false) ↔ ((w / 4 ≡ 0) ⊎ (w / 4 ≡ 255))
    go false y p q = let l = leb-false least_clear w p in (λ e. inl (omega arith), λ s. refl)
    go true false p q = let l = leb-false w most_clear q in (λ e. inr (omega arith), λ s. refl)
    go true true p q =
        let l = leb-true least_clear w p in
        let m = leb-true w most_clear q in
        (λ e. absurd (true≢false e), λ s. absurd (neither l m s))
      where
        neither : least_clear ≤ w → w ≤ most_clear → (w / 4 ≡ 0) ⊎ (w / 4 ≡ 255) → ⊥
        neither l m (inl e) = omega arith
        neither l m (inr e) = omega arith

-- record A's place with two words
abbrev pub with : (x y : ℕ) → Record
with x y = record { c = 0; line = 9; offset = 0; s = 0; stream = 0; did = 0x41; sdid = 0x05; words = x ∷ y ∷ [] }

-- the borders in a packet of either layout: 0x004 and 0x3FB pass, 0x003 and 0x3FC, 0x000 and 0x3FF do not
pub borders : (i : ℕ) → (read_anc rfc8331 i (anc_octets rfc8331 (with 0x004 0x3FB)) ≡ Ok (with 0x004 0x3FB))
    × (read_anc rfc8331 i (anc_octets rfc8331 (with 0x003 0x3FB)) ≡ refuse 16 i)
    × (read_anc rfc8331 i (anc_octets rfc8331 (with 0x004 0x3FC)) ≡ refuse 16 i)
    × (read_anc rfc8331 i (anc_octets rfc8331 (with 0x000 0x100)) ≡ refuse 16 i)
    × (read_anc draft2015 i (anc_octets draft2015 (with 0x004 0x3FB)) ≡ Ok (with 0x004 0x3FB))
    × (read_anc draft2015 i (anc_octets draft2015 (with 0x003 0x100)) ≡ refuse 16 i)
    × (read_anc draft2015 i (anc_octets draft2015 (with 0x100 0x3FC)) ≡ refuse 16 i)
    × (read_anc draft2015 i (anc_octets draft2015 (with 0x100 0x3FF)) ≡ refuse 16 i)
unfolding to_bits num bits octets field_bits bits_at row_at header_word checksum_word anc_size anc_record headers_ok r_ok words_ok checksum_ok alignment_ok anc_checks read_anc read_run
borders i = (refl, refl, refl, refl, refl, refl, refl, refl)

-- the order: an R bit set is 15 before 16; a wrong checksum and an alignment bit set come behind 16; a cut packet before it. The index is the
-- packet's.
pub order : (i : ℕ) → (read_anc draft2015 i (set (anc_octets draft2015 (with 0x003 0x100)) 6 0x09) ≡ refuse 15 i)
    × (read_anc rfc8331 i (set (anc_octets rfc8331 (with 0x003 0x100)) 11 0x00) ≡ refuse 16 i)
    × (read_anc rfc8331 i (set (anc_octets rfc8331 (with 0x003 0x100)) 11 0x81) ≡ refuse 16 i)
    × (read_anc rfc8331 i (take 11 (anc_octets rfc8331 (with 0x003 0x100))) ≡ refuse 9 i)
    × (read_run rfc8331 0 2 (anc_octets rfc8331 a ++ anc_octets rfc8331 (with 0x100 0x3FC)) ≡ refuse 16 1)
unfolding to_bits num bits octets field_bits bits_at row_at header_word checksum_word anc_size anc_record headers_ok r_ok words_ok checksum_ok alignment_ok anc_checks read_anc read_run
order i = (refl, refl, refl, refl, refl)

-- in a list 20 is looked for first, over all of it, and then 16, with the record's index
pub lists : (read_list (cells_of (with 0x004 0x3FB)) ≡ Ok (with 0x004 0x3FB ∷ []))
    × (read_list (cells_of a ++ cells_of (with 0x100 0x3FC)) ≡ refuse 16 1)
    × (read_list (cells_of (with 0x003 0x100)) ≡ refuse 16 0)
    × (read_list (cells_of (with 0x003 0x100) ++ (9 ∷ [])) ≡ refuse 20 1)
    × (read_list (cells_of (with 0x003 0x400)) ≡ refuse 20 0)
unfolding cell_record head_in_range cell_checks records_from clear_from
lists = (refl, refl, refl, refl, refl)

-- and in writing: 24 before it, 25 and 23 behind it
abbrev saying : (type f : ℕ) → Content
saying type f = record { source = 1; type = type; marker = 1; number = 7; timestamp = 1000; f = f; records = [] }

pub writing : (write_content rfc8331 (saying 112 2) (cells_of (with 0x003 0x100)) 0 ≡ refuse 16 0)
    × (write_content rfc8331 (saying 112 1) (cells_of (with 0x003 0x100)) 0 ≡ refuse 24 0)
    × (write_content draft2015 (saying 112 2) (cells_of (with 0x003 0x100)) 0 ≡ refuse 16 0)
unfolding to_bits num octets field_bits header_word checksum_word packet_octets cell_record head_in_range cell_checks records_from clear_from write_content
writing = (refl, refl, refl)
