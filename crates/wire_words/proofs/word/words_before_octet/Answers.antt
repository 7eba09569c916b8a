-- `words_before_octet` counts the words to the next one that starts an octet.
-- By cases on the bit's place in its octet.
use mathlib.Core.Path.{◌≡◌}
use Prim.Native.Nat.{ℕ, zero, suc, ◌+◌, ◌-◌, ◌*◌, ◌/◌, ◌%◌, ◌<◌, ◌≤◌}
use native.Mathlib.Omega.{arith}
use Rattle.wire_words.proofs.word.words_before_octet.Goals as goal

before-cases : (bit e : ℕ) → e < 4 → bit % 8 ≡ 2 * e → ((8 - bit % 8) / 2 % 4 ≤ 3) × ((bit + 10 * ((8 - bit % 8) / 2 % 4)) % 8 ≡ 0)
before-cases bit zero l h = rw h (omega arith)
before-cases bit (suc zero) l h = rw h (omega arith)
before-cases bit (suc (suc zero)) l h = rw h (omega arith)
before-cases bit (suc (suc (suc zero))) l h = rw h (omega arith)
before-cases bit (suc (suc (suc (suc e)))) l h = absurd (omega arith)

before-octet : (bit : ℕ) → bit % 2 ≡ 0 → ((8 - bit % 8) / 2 % 4 ≤ 3) × ((bit + 10 * ((8 - bit % 8) / 2 % 4)) % 8 ≡ 0)
before-octet bit h = before-cases bit (bit % 8 / 2) (omega arith) (omega arith)

pub returns : goal.returns
returns c = before-octet c.args.bit c.requires
