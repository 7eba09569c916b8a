-- Four octets in reverse order.
use Rattle.std.specs.Prelude.{ℕ, ◌/◌, ◌%◌}
use Rattle.wire_spec.specs.Bits.{quad_of}

-- the number of its four octets in reverse order
abbrev pub reversed_of : ℕ → ℕ
reversed_of x = quad_of (x % 256) (x / 256 % 256) (x / 65536 % 256) (x / 16777216)
