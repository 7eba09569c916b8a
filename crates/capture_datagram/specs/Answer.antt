-- What the octets of a captured packet answer, and the numbers that they write.
use Rattle.std.specs.Prelude.{Bool, cond, List, [], ◌∷◌, ℕ, ◌+◌, ◌-◌, ◌*◌, take, drop, get_or}
use Rattle.capture_datagram.specs.declared.answer.Found.{Found}
use Rattle.capture_datagram.specs.declared.answer.Found.TheVariants as found

-- two octets at `k`, the most significant first
abbrev pub pair : List ℕ → ℕ → ℕ
pair s k = get_or s k 0 * 256 + get_or s (k + 1) 0

-- checks in order: each a test that has to hold, and the answer where it does not
abbrev pub Checks : Type 0 → Type 0
Checks A = List (Bool × A)

-- the first check that fails decides; `a` is the answer where all hold
abbrev pub judge : {A : Type 0} → Checks A → A → A
judge [] a = a
judge (t ∷ ts) a = cond t.0 (judge ts a) t.1

-- an answer about what stands behind `n` octets
abbrev pub beyond : ℕ → Found → Found
beyond n (found.Frame start end) = found.Frame (n + start) (n + end)
beyond n found.Passed = found.Passed
beyond n found.Fragment = found.Fragment
beyond n found.Cut = found.Cut

-- the octets from `start` to `end`
abbrev pub payload_of : List ℕ → ℕ → ℕ → List ℕ
payload_of packet start end = take (end - start) (drop start packet)
