-- The four octets before DID as the fields that they hold.
-- By each field as a quotient of the octets' number.
use mathlib.Core.Path.{◌≡◌, refl, ◌∙◌}
use mathlib.Core.List.{List, [], ◌∷◌}
use Prim.Native.Nat.{ℕ, ◌+◌, ◌*◌, ◌/◌, ◌%◌}
use native.Mathlib.Omega.{arith}
use Rattle.wire_spec.specs.Anc.{Record, WellFormed, location_fields}
use Rattle.wire_spec.specs.Bits.{Below, pack}
use Rattle.wire_spec.specs.Layout.{rfc8331}
use Rattle.wire_spec.proofs.BitLaws.{packed}
use Rattle.wire_spec.proofs.Window.{below_each}
use Rattle.wire_spec.proofs.HeadLaws.{c-at, line_at, offset_at, s-at, stream_at}

abbrev pub location_octets : Record → List ℕ
location_octets r =
    (r.c * 128 + r.line / 16) ∷ (r.line % 16 * 16 + r.offset / 256) ∷ (r.offset % 256) ∷ (r.s * 128 + r.stream) ∷ []

pub location-packed : (r : Record) → WellFormed rfc8331 r → location_octets r ≡ pack (location_fields rfc8331 r)
location-packed r f =
    let o = location_octets r in
    let b : Below 256 o = omega arith in
    (packed o (location_fields rfc8331 r) 4 refl b (omega arith) (
      c-at o (below_each o b) (omega arith) ∙ omega arith,
      (
        line_at o (below_each o b) (omega arith) ∙ omega arith,
        (offset_at o (below_each o b) (omega arith) ∙ omega arith, (s-at o (below_each o b) (omega arith) ∙ omega arith, (stream_at o (below_each o b) (omega arith) ∙ omega arith, tt))),
      ),
    )
    ).1
