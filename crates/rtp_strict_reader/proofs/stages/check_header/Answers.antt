-- `check_header` gives 1, 2, 3 or 2, or the header's octets.
-- Each return knows the tests before it, in the order of the definition.
use Rattle.wire_spec.specs.Result.{Ok}
use mathlib.Core.Path.{◌≡◌, ap, sym, subst, ◌∙◌}
use Prim.Native.Nat.{ℕ, ◌/◌, ◌≤◌}
use borrow.Author.Tests.{le-leb, lt-leb, eq-eqb, ne_eqb}
use lib.Dec.{eqb}
use lib.ListN.{length}
use Rattle.wire_spec.specs.Bits.{bits_at}
use Rattle.wire_spec.specs.Packet.{max_packet, header_least, header_size, header_checks}
use Rattle.rtp_strict_reader.proofs.HeaderFields.{version-at, size-over, size-within}
use Rattle.rtp_strict_reader.proofs.stages.check_header.Goals as goal

pub returns-then-octets-gt-MAX_PACKET : goal.returns-then-octets-gt-MAX_PACKET
unfolding header_checks
returns-then-octets-gt-MAX_PACKET c = let s = c.args.octets.now in
    let h1 = lt-leb (length s) max_packet c.if-octets-gt-MAX_PACKET.true in
    rw (c.refuse.ensures, h1)

pub returns-then-octets-lt-RTP_HEADER_SIZE : goal.returns-then-octets-lt-RTP_HEADER_SIZE
unfolding header_checks
returns-then-octets-lt-RTP_HEADER_SIZE c = let s = c.args.octets.now in
    let h1 = le-leb (length s) max_packet c.if-octets-gt-MAX_PACKET.false in
    let h2 = lt-leb header_least (length s) c.if-octets-lt-RTP_HEADER_SIZE.true in
    rw (c.refuse-then-octets-lt-RTP_HEADER_SIZE.ensures, h1, h2)

pub returns-then-wide-ne2 : goal.returns-then-wide-ne2
unfolding header_checks
returns-then-wide-ne2 c = let s = c.args.octets.now in
    let h1 = le-leb (length s) max_packet c.if-octets-gt-MAX_PACKET.false in
    let h2 = le-leb header_least (length s) c.if-octets-lt-RTP_HEADER_SIZE.false in
    let v : bits_at s 0 2 ≡ c.wide.result / 64 = version-at s (λ j. (c.shared_slice_known-1.given j).fits) c.if-octets-lt-RTP_HEADER_SIZE.false ∙ ap (λ (x : ℕ). x / 64) (sym c.wide.ensures) in
    let h3 = ap (λ (x : ℕ). eqb x 2) v ∙ ne_eqb _ 2 c.if-wide-ne2.true in
    rw (c.refuse-then-wide-ne2.ensures, h1, h2, h3)

pub returns-then-octets-size : goal.returns-then-octets-size
unfolding header_checks
returns-then-octets-size c = let s = c.args.octets.now in
    let h1 = le-leb (length s) max_packet c.if-octets-gt-MAX_PACKET.false in
    let h2 = le-leb header_least (length s) c.if-octets-lt-RTP_HEADER_SIZE.false in
    let v : bits_at s 0 2 ≡ c.wide.result / 64 = version-at s (λ j. (c.shared_slice_known-1.given j).fits) c.if-octets-lt-RTP_HEADER_SIZE.false ∙ ap (λ (x : ℕ). x / 64) (sym c.wide.ensures) in
    let h3 = ap (λ (x : ℕ). eqb x 2) v ∙ eq-eqb _ 2 c.if-wide-ne2.false in
    let h4 = size-over s c.header_size-size.result.0 c.header_size-size.ensures c.if-octets-size.true in
    rw (c.refuse-then-octets-size.ensures, h1, h2, h3, h4)

pub returns : goal.returns
unfolding header_checks
returns c = let s = c.args.octets.now in
    let h1 = le-leb (length s) max_packet c.if-octets-gt-MAX_PACKET.false in
    let h2 = le-leb header_least (length s) c.if-octets-lt-RTP_HEADER_SIZE.false in
    let v : bits_at s 0 2 ≡ c.wide.result / 64 = version-at s (λ j. (c.shared_slice_known-1.given j).fits) c.if-octets-lt-RTP_HEADER_SIZE.false ∙ ap (λ (x : ℕ). x / 64) (sym c.wide.ensures) in
    let h3 = ap (λ (x : ℕ). eqb x 2) v ∙ eq-eqb _ 2 c.if-wide-ne2.false in
    let z = size-within s c.header_size-size.result.0 c.header_size-size.ensures c.if-octets-size.false in
    let h4 = le-leb (header_size s) (length s) (subst (λ (x : ℕ). x ≤ length s) z c.if-octets-size.false) in
    rw (h1, h2, h3, h4) (ap (λ (x : ℕ). Ok (record { 0 = x })) z)
