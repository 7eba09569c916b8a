-- The reserved bits are the last 22 of the payload header's last four octets.
-- Both are what the number of these octets leaves by a power of two.
use Rattle.std.proofs.Common.{◌≡◌, ℕ, ◌+◌, ◌*◌, ◌/◌, ◌%◌, ◌^◌, ◌<◌, ◌≤◌, List, length, get_or, sym, ap, ◌∙◌, add-zero, arith}
use Rattle.wire_spec.specs.Bits.{bits_at}
use Rattle.wire_spec.specs.Layout.{rfc8331, payload_header_size}
use Rattle.wire_spec.specs.Packet.{header_size, f_at, reserved_field}
use Rattle.wire_spec.proofs.Window.{window, below_all}

pub reserved-at : (s : List ℕ) → ((j : ℕ) → get_or s j 0 < 256) → (header : ℕ) → header ≡ header_size s → header + payload_header_size rfc8331 ≤ length s
    → reserved_field rfc8331 s ≡ bits_at s (8 * (header + 4)) 32 % 0x400000
reserved-at s octet header here long =
    let k : f_at s + 2 ≡ 8 * (header + 4) + 10 = omega arith in
    let e : 8 * (header + 4) + 0 ≡ 8 * (header + 4) = add-zero (8 * (header + 4)) in
    let a = window s (below_all s octet) (header + 4) 4 10 22 0 (omega arith) (omega arith) in
    let b = window s (below_all s octet) (header + 4) 4 0 32 0 (omega arith) (omega arith) in
    ap (λ (n : ℕ). bits_at s n 22) k ∙ a ∙ sym (ap (λ (n : ℕ). n % 0x400000) ((rw e at b)) ∙ twice _)
  where
    twice : (x : ℕ) → x % 2 ^ 32 % 0x400000 ≡ x % 2 ^ 22
    twice x = omega arith
