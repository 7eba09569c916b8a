-- A UDP port in decimal digits.
use Rattle.std.specs.Prelude.{cond, List, [], ◌∷◌, ℕ, ◌+◌, ◌-◌, ◌*◌, eqb, ltb, Option, Some, None}

-- RFC 768: a port has 16 bits
abbrev pub max_port : ℕ
max_port = 65535

-- a value that is none
abbrev pub no_port : ℕ
no_port = max_port + 1

-- the value with one digit more; what is no digit gives none
abbrev pub next_value : (value digit : ℕ) → ℕ
next_value v d = cond (ltb d 0x30) no_port (cond (ltb 0x39 d) no_port (v * 10 + (d - 0x30)))

-- the value of the digits behind those that gave `v`
unfoldable pub port_in : ℕ → List ℕ → Option ℕ
port_in v [] = cond (eqb v 0) None (Some v)
port_in v (d ∷ ds) = cond (ltb max_port (next_value v d)) None (port_in (next_value v d) ds)

-- from 1 to 65,535
abbrev pub port_of : List ℕ → Option ℕ
port_of word = port_in 0 word
