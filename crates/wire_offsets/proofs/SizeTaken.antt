-- A packet's size as the code takes it: the octets of its bits rounded up, less what is over a whole unit.
-- By the laws that give each layout's size as a quotient.
use mathlib.Core.Path.{◌≡◌}
use Prim.Native.Nat.{ℕ, ◌+◌, ◌-◌, ◌*◌, ◌/◌, ◌%◌, ◌<◌, ◌≤◌}
use native.Mathlib.Omega.{arith}
use Rattle.wire_spec.specs.declared.layout.Layout.TheVariants as layout
use Rattle.wire_spec.specs.Layout.{Layout, alignment}
use Rattle.wire_spec.specs.Words.{word_bits}
use Rattle.wire_spec.specs.Anc.{anc_size, body_bits}
use Rattle.wire_spec.proofs.SizeLaws.{size-rfc8331, size-draft2015}

-- a packet's bits beside its words, with what rounds them up
abbrev pub rounded_bits : Layout → ℕ
rounded_bits L = body_bits L 0 + (alignment L - 1)

pub rounded-near : (L : Layout) → rounded_bits L ≤ 103
rounded-near layout.Rfc8331 = omega arith
rounded-near layout.Draft2015 = omega arith

pub unit-some : (L : Layout) → 0 < alignment L / 8
unit-some layout.Rfc8331 = omega arith
unit-some layout.Draft2015 = omega arith

pub size-taken : (L : Layout) (n : ℕ)
    → (rounded_bits L + word_bits * n) / 8 - (rounded_bits L + word_bits * n) / 8 % (alignment L / 8) ≡ anc_size L n
size-taken layout.Rfc8331 n = omega (arith, size-rfc8331 n)
size-taken layout.Draft2015 n = omega (arith, size-draft2015 n)
