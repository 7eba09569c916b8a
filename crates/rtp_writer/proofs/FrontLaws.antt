-- The octets before the ANC data packets of a written packet are its packed fields: seventeen in both layouts, and three more in RFC 8331's.
-- Each field reads back from those octets, so they are the packed fields.
use mathlib.Core.Path.{◌≡◌, refl, ◌∙◌}
use mathlib.Core.Bool.{Bool, true, false}
use mathlib.Core.List.{List, [], ◌∷◌, ◌++◌}
use Prim.Native.Nat.{ℕ, ◌+◌, ◌*◌, ◌/◌, ◌%◌, ◌^◌, ◌<◌, ◌≤◌}
use native.Mathlib.Omega.{arith}
use lib.Dec.{lit<}
use lib.ListN.{get_or, length}
use Rattle.wire_spec.specs.Bits.{bit, to_bits, octets, Fields, width, field_bits, Below, pack}
use Rattle.wire_spec.specs.declared.layout.Layout.TheVariants as layout
use Rattle.wire_spec.specs.Layout.{Layout, rfc8331, draft2015}
use Rattle.wire_spec.specs.Anc.{Record, run_octets}
use Rattle.wire_spec.specs.Packet.{rtp_fields, packet_fields, Content}
use Rattle.wire_spec.specs.Writing.{max_type, plain, HeadFits, with_records}
use Rattle.wire_spec.proofs.BitLaws.{Reads, length-pack, packed}
use Rattle.wire_spec.proofs.Window.{window, below_each}
use Rattle.wire_spec.proofs.FieldLaws.{within-octet, two-octets-at, four-octets-at}
use Rattle.rtp_strict_reader.specs.declared.packet.Head.{Head}
use Rattle.rtp_writer.specs.Answers.{content_of}
use Rattle.rtp_writer.specs.Front.{front_size, front_fields, f_fields}

pub bit-lt : (b : Bool) → bit b < 2
bit-lt true = lit< tt
bit-lt false = lit< tt

-- they fill whole octets, ..
front-width : (L : Layout) (h : Head) (count size : ℕ) → width (front_fields L h count size) ≡ 8 * front_size L
front-width layout.Rfc8331 h count size = refl
front-width layout.Draft2015 h count size = refl

pub front_length : (L : Layout) (h : Head) (count size : ℕ) → length (pack (front_fields L h count size)) ≡ front_size L
front_length L h count size = length-pack [] (front_fields L h count size) (front_size L) (front-width L h count size)

-- .. and are all that stands before the run in a packet without sources and extension
pub headers-are : (L : Layout) (h : Head) (rs : List Record)
    → pack (packet_fields L (plain (with_records (content_of h) rs))) ≡ pack (front_fields L h (length rs) (length (run_octets L rs)))
unfolding to_bits field_bits
headers-are layout.Rfc8331 h rs = refl
headers-are layout.Draft2015 h rs = refl

-- the drafts' end with ANC_Count, and F and the reserved bits stand behind
pub front-then : (L : Layout) (h : Head) (count size : ℕ)
    → pack (front_fields L h count size) ≡ pack (front_fields draft2015 h count size) ++ pack (f_fields L h.f)
unfolding to_bits field_bits octets
front-then layout.Rfc8331 h count size = refl
front-then layout.Draft2015 h count size = refl

-- F and the reserved bits
pub f-packed : (f : ℕ) → f ≤ 3 → f * 64 ∷ 0 ∷ 0 ∷ [] ≡ pack (f_fields rfc8331 f)
f-packed f h =
    let o : List ℕ = f * 64 ∷ 0 ∷ 0 ∷ [] in
    let below : Below 256 o = omega arith in
    (packed o (f_fields rfc8331 f) 3 refl below (omega arith) (
      within-octet o (below_each o below) 0 (omega arith) 0 2 (omega arith) ∙ omega arith,
      (window o below 0 3 2 22 0 (omega arith) (omega arith) ∙ omega arith, tt),
    )
    ).1

-- what a packet to be written says, its records, and the octets of their ANC data packets
module _ (h : Head) (count size : ℕ) (fits : HeadFits (content_of h)) (type : (content_of h).type ≤ max_type) (hc : count < 256) (hl : size < 2 ^ 16) where
  abbrev k : Content
  k = content_of h

  abbrev pub octets_of : List ℕ
  octets_of =
      128 ∷ (k.marker * 128 + k.type) ∷ (k.number / 256 % 256) ∷ (k.number % 256)
      ∷ (k.timestamp / 16777216) ∷ (k.timestamp / 65536 % 256) ∷ (k.timestamp / 256 % 256) ∷ (k.timestamp % 256)
      ∷ (k.source / 16777216) ∷ (k.source / 65536 % 256) ∷ (k.source / 256 % 256) ∷ (k.source % 256)
      ∷ (k.number / 16777216) ∷ (k.number / 65536 % 256) ∷ (size / 256) ∷ (size % 256) ∷ count ∷ []

  below : Below 256 octets_of
  below = omega arith

  octet : (j : ℕ) → get_or octets_of j 0 < 256
  octet = below_each octets_of below

  abbrev fields : Fields
  fields = rtp_fields (plain k) ++ (16, (plain k).extended) ∷ (16, size) ∷ (8, count) ∷ []

  reads : Reads octets_of 0 fields
  reads = (
    within-octet octets_of octet 0 (omega arith) 0 2 (omega arith),
    (
      within-octet octets_of octet 0 (omega arith) 2 1 (omega arith),
      (
        within-octet octets_of octet 0 (omega arith) 3 1 (omega arith),
        (
          within-octet octets_of octet 0 (omega arith) 4 4 (omega arith),
          (
            within-octet octets_of octet 1 (omega arith) 0 1 (omega arith) ∙ omega arith,
            (
              within-octet octets_of octet 1 (omega arith) 1 7 (omega arith) ∙ omega arith,
              (
                two-octets-at octets_of octet 2 (omega arith) ∙ omega arith,
                (
                  four-octets-at octets_of octet 4 (omega arith) ∙ omega arith,
                  (
                    four-octets-at octets_of octet 8 (omega arith) ∙ omega arith,
                    (
                      two-octets-at octets_of octet 12 (omega arith) ∙ omega arith,
                      (
                        two-octets-at octets_of octet 14 (omega arith) ∙ omega arith,
                        (
                          within-octet octets_of octet 16 (omega arith) 0 8 (omega arith) ∙ omega arith,
                          tt,
                        ),
                      ),
                    ),
                  ),
                ),
              ),
            ),
          ),
        ),
      ),
    ),
  )

  pub front-packed : octets_of ≡ pack (front_fields draft2015 h count size)
  unfolding to_bits field_bits
  front-packed = (packed octets_of fields (front_size draft2015) refl below (omega arith) reads).1
