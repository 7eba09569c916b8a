-- The marked examples of 01, with 02's new values (K11), together: each over the definitions, of this crate and of those below.
-- By computation, where the definitions stand.
use mathlib.Core.Path.{◌≡◌}
use mathlib.Core.List.{List, [], ◌∷◌}
use Prim.Native.Nat.{ℕ}
use lib.IntN.{pos}
use Rattle.wire_spec.specs.Anc.{padding}
use Rattle.wire_spec.specs.Layout.{rfc8331}
use Rattle.wire_spec.specs.Words.{header_word}
use Rattle.wire_spec.specs.Result.{Ok}
use Rattle.wire_spec.specs.Anc.{Record, anc_size, body_bits, anc_octets, read_anc, checksum}
use Rattle.wire_spec.proofs.Examples as below
use Rattle.depacketizer_spec.specs.Step.{distance, classify, next, late, ahead, far}
use Rattle.depacketizer_spec.proofs.RunExamples as run

-- "A: C 0, line 9, offset 0, S 0, stream 0, 41/05, no words"
abbrev a : Record
a = record { c = 0; line = 9; offset = 0; s = 0; stream = 0; did = 0x41; sdid = 0x05; words = [] }

abbrev a_octets : List ℕ
a_octets = 0x00 ∷ 0x90 ∷ 0x00 ∷ 0x00 ∷ 0x90 ∷ 0x60 ∷ 0x58 ∷ 0x02 ∷ 0x46 ∷ 0x00 ∷ 0x00 ∷ 0x00 ∷ []

-- "B: C 1, 0x7FF, 0xFFF, S 1, stream 3, 61/02, words 2AA 155, checksum 164"
abbrev b : Record
b = record { c = 1; line = 0x7FF; offset = 0xFFF; s = 1; stream = 3; did = 0x61; sdid = 0x02; words = 0x2AA ∷ 0x155 ∷ [] }

abbrev b_octets : List ℕ
b_octets = 0xFF ∷ 0xFF ∷ 0xFF ∷ 0x83 ∷ 0x58 ∷ 0x50 ∷ 0x24 ∷ 0x0A ∷ 0xAA ∷ 0x55 ∷ 0x56 ∷ 0x40 ∷ []

pub record Marked : Type 0 where
  -- "Header words: 00 is 200, 41 is 241, 61 is 161, FF is 2FF."
  pub header_words : (header_word 0x00 ≡ 0x200) × (header_word 0x41 ≡ 0x241) × (header_word 0x61 ≡ 0x161) × (header_word 0xFF ≡ 0x2FF)
  -- "Sizes: n = 0 and 2 take 12 octets, 3 takes 16, 12 takes 24 with no alignment, 255 takes 328."
  pub sizes : (anc_size rfc8331 0 ≡ 12) × (anc_size rfc8331 2 ≡ 12) × (anc_size rfc8331 3 ≡ 16) × (anc_size rfc8331 12 ≡ 24)
      × (padding 32 (body_bits rfc8331 12) ≡ 0) × (anc_size rfc8331 255 ≡ 328)
  pub written : (anc_octets rfc8331 a ≡ a_octets) × (anc_octets rfc8331 b ≡ b_octets) × (checksum b ≡ 0x164)
  pub read : (i : ℕ) → (read_anc rfc8331 i a_octets ≡ Ok a) × (read_anc rfc8331 i b_octets ≡ Ok b)
  -- "Last FFFFFFFF: 0 is distance 1."
  pub wraps : distance 0xFFFFFFFF 0 ≡ pos 1
  -- "last 0 now reads: BB7 is fresh, BB8 is far, FFFFFF9D is late, FFFFFF9C is far" (02, K11)
  pub classes : (classify (distance 0xFFFFFFFF 0) ≡ next) × (classify (distance 0 0xBB7) ≡ ahead 0xBB6) × (classify (distance 0 0xBB8) ≡ far)
      × (classify (distance 0 0xFFFFFF9D) ≡ late) × (classify (distance 0 0xFFFFFF9C) ≡ far)

pub marked : Marked
marked =
    record {
      header_words = below.words;
      sizes = below.sizes;
      written = below.written;
      read = λ i. ((below.read i).0, (below.read i).1);
      wraps = (run.distances).0;
      classes = ((run.classes).0, (run.classes).1, (run.classes).2, (run.classes).3, (run.classes).4);
    }
