-- Where each field is read, by the numbers of 01's "The packet", of any octets, refused ones too.
-- By cases on X and P, which are one bit each; the rest by computation.
use mathlib.Core.Path.{◌≡◌, refl, ap, ◌∙◌}
use mathlib.Core.List.{List}
use Prim.Native.Nat.{ℕ, zero, suc, ◌+◌, ◌-◌, ◌*◌, ◌%◌, ◌<◌}
use native.Mathlib.Nat.{zero-mul, one-mul}
use native.Mathlib.Omega.{arith}
use lib.ListN.{length, get_or}
use Rattle.wire_spec.specs.Bits.{bits_at, row_at}
use Rattle.wire_spec.specs.Layout.{rfc8331, draft2015}
use Rattle.wire_spec.specs.Anc.{anc_record, sum_field}
use Rattle.wire_spec.specs.Packet.{header_size, padding_count, length_field, anc_count, f_field, reserved_field}
use Rattle.wire_spec.specs.Order.{extension_octets, header_octets, padding_octets}
use Rattle.wire_spec.proofs.BitLaws.{bits_at-lt}

-- no bits are the number 0
no_bits : (s : List ℕ) (k : ℕ) → bits_at s k 0 ≡ 0
no_bits s k = let l = bits_at-lt s k 0 in omega (arith, l)

-- the RTP header
pub header_is : (s : List ℕ) → header_size s ≡ header_octets s
header_is s = go (bits_at s 3 1) (bits_at-lt s 3 1)
  where
    go : (x : ℕ) → x < 2 → 12 + 4 * bits_at s 4 4 + 4 * x + 4 * bits_at s (96 + 32 * bits_at s 4 4 + 16 * x) (16 * x)
        ≡ 12 + 4 * bits_at s 4 4 + extension_octets x s (12 + 4 * bits_at s 4 4)
    go zero h = let z = no_bits s (96 + 32 * bits_at s 4 4 + 16 * 0) in omega (arith, z)
    go (suc zero) h =
        let e : 96 + 32 * bits_at s 4 4 + 16 ≡ 8 * (12 + 4 * bits_at s 4 4) + 16 = omega arith in
        let b : bits_at s (96 + 32 * bits_at s 4 4 + 16) 16 ≡ bits_at s (8 * (12 + 4 * bits_at s 4 4) + 16) 16 = ap (λ (k : ℕ). bits_at s k 16) e in
        omega (arith, b)
    go (suc (suc x)) h = absurd (omega arith)

-- padding
pub padding-is : (s : List ℕ) → padding_count s ≡ padding_octets (bits_at s 2 1) s
padding-is s = go (bits_at s 2 1) (bits_at-lt s 2 1)
  where
    go : (p : ℕ) → p < 2 → p * get_or s (length s - 1) 0 ≡ padding_octets p s
    go zero h = zero-mul (get_or s (length s - 1) 0)
    go (suc zero) h = one-mul (get_or s (length s - 1) 0)
    go (suc (suc p)) h = absurd (omega arith)

-- "Extended Sequence Number 16, Length 16, ANC_Count 8, F 2, reserved 22"; in the old layout "without F or reserved bits" (02, K3)
pub payload-is : (s : List ℕ)
    → (length_field s ≡ bits_at s (8 * header_size s + 16) 16) × (anc_count s ≡ bits_at s (8 * header_size s + 32) 8)
    × (f_field rfc8331 s ≡ bits_at s (8 * header_size s + 40) 2) × (reserved_field rfc8331 s ≡ bits_at s (8 * header_size s + 42) 22)
    × (f_field draft2015 s ≡ 0) × (reserved_field draft2015 s ≡ 0)
payload-is s =
    let h = 8 * header_size s in (
      refl,
      ap (λ (k : ℕ). bits_at s k 8) (more h 16 16),
      ap (λ (k : ℕ). bits_at s k 2) (ap (λ (k : ℕ). k + 8) (more h 16 16) ∙ more h 32 8),
      ap (λ (k : ℕ). bits_at s k 22) (ap (λ (k : ℕ). k + 8 + 2) (more h 16 16) ∙ ap (λ (k : ℕ). k + 2) (more h 32 8) ∙ more h 40 2),
      no_bits s _,
      no_bits s _,
    )
  where
    more : (h a b : ℕ) → h + a + b ≡ h + (a + b)
    more h a b = omega arith

-- "C 1, Line_Number 11, Horizontal_Offset 12, S 1, StreamNum 7, then ten-bit words DID, SDID, Data_Count, n user data words, checksum"
pub anc-is : (s : List ℕ)
    → (anc_record rfc8331 s
    ≡ record {
      c = bits_at s 0 1;
      line = bits_at s 1 11;
      offset = bits_at s 12 12;
      s = bits_at s 24 1;
      stream = bits_at s 25 7;
      did = bits_at s 32 10 % 256;
      sdid = bits_at s 42 10 % 256;
      words = row_at 10 s 62 (bits_at s 52 10 % 256);
    })
    × (sum_field rfc8331 s ≡ bits_at s (62 + 10 * (bits_at s 52 10 % 256)) 10)
unfolding anc_record
anc-is s = (refl, refl)

-- "C, line, offset, DID, SDID, Data_Count, two R bits, words, checksum", "Records come out with .. S and StreamNum zero" (02, K3)
pub draft-anc-is : (s : List ℕ)
    → (anc_record draft2015 s
    ≡ record {
      c = bits_at s 0 1;
      line = bits_at s 1 11;
      offset = bits_at s 12 12;
      s = 0;
      stream = 0;
      did = bits_at s 24 10 % 256;
      sdid = bits_at s 34 10 % 256;
      words = row_at 10 s 56 (bits_at s 44 10 % 256);
    })
    × (sum_field draft2015 s ≡ bits_at s (56 + 10 * (bits_at s 44 10 % 256)) 10)
unfolding anc_record
draft-anc-is s = (
  λ i.
      record {
        c = bits_at s 0 1;
        line = bits_at s 1 11;
        offset = bits_at s 12 12;
        s = no_bits s 24 i;
        stream = no_bits s 24 i;
        did = bits_at s 24 10 % 256;
        sdid = bits_at s 34 10 % 256;
        words = row_at 10 s 56 (bits_at s 44 10 % 256);
      },
  refl,
)
