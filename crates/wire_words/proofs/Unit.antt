-- The arithmetic of a word put into two octets: each of them, and that no step passes its type.
-- By cases on the seven places, where the unit is a numeral.
use mathlib.Core.Path.{◌≡◌, sym}
use Prim.Native.Nat.{ℕ, zero, suc, ◌+◌, ◌*◌, ◌/◌, ◌%◌, ◌^◌, ◌<◌, ◌≤◌}
use native.Mathlib.Omega.{arith}
use Rattle.wire_words.specs.Word.{replaced}

-- the first octet
pub record First (a w u x : ℕ) : Type 0 where
  pub pos : 0 < u
  pub cut : a / u * u < 256
  pub whole : a / u * u + x / 256 < 256

pub record Second (b w u x : ℕ) : Type 0 where
  pub pos : 0 < u
  pub whole : x % 256 + b % u < 256

pub first_fits : (m a w : ℕ) → m ≤ 6 → a < 256 → w < 1024 → First a w ((4 * 2 ^ m) % 65536) ((w * 2 ^ m) % 65536)
first_fits zero a w hm ha hw =
    let e : (w * 1) % 65536 / 256 ≡ w / 256 = omega arith in
    record { pos = omega arith; cut = omega arith; whole = omega arith }
first_fits (suc zero) a w hm ha hw =
    let e : (w * 2) % 65536 / 256 ≡ w / 128 = omega arith in
    record { pos = omega arith; cut = omega arith; whole = omega arith }
first_fits (suc (suc zero)) a w hm ha hw =
    let e : (w * 4) % 65536 / 256 ≡ w / 64 = omega arith in
    record { pos = omega arith; cut = omega arith; whole = omega arith }
first_fits (suc (suc (suc zero))) a w hm ha hw =
    let e : (w * 8) % 65536 / 256 ≡ w / 32 = omega arith in
    record { pos = omega arith; cut = omega arith; whole = omega arith }
first_fits (suc (suc (suc (suc zero)))) a w hm ha hw =
    let e : (w * 16) % 65536 / 256 ≡ w / 16 = omega arith in
    record { pos = omega arith; cut = omega arith; whole = omega arith }
first_fits (suc (suc (suc (suc (suc zero))))) a w hm ha hw =
    let e : (w * 32) % 65536 / 256 ≡ w / 8 = omega arith in
    record { pos = omega arith; cut = omega arith; whole = omega arith }
first_fits (suc (suc (suc (suc (suc (suc zero)))))) a w hm ha hw =
    let e : (w * 64) % 65536 / 256 ≡ w / 4 = omega arith in
    record { pos = omega arith; cut = omega arith; whole = omega arith }
first_fits (suc (suc (suc (suc (suc (suc (suc m))))))) a w hm ha hw = absurd (omega arith)

pub second_fits : (m b w : ℕ) → m ≤ 6 → b < 256 → w < 1024 → Second b w ((1 * 2 ^ m) % 65536) ((w * 2 ^ m) % 65536)
second_fits zero b w hm hb hw =
    let e : (w * 1) % 65536 % 256 ≡ w % 256 * 1 = omega arith in
    record { pos = omega arith; whole = omega arith }
second_fits (suc zero) b w hm hb hw =
    let e : (w * 2) % 65536 % 256 ≡ w % 128 * 2 = omega arith in
    record { pos = omega arith; whole = omega arith }
second_fits (suc (suc zero)) b w hm hb hw =
    let e : (w * 4) % 65536 % 256 ≡ w % 64 * 4 = omega arith in
    record { pos = omega arith; whole = omega arith }
second_fits (suc (suc (suc zero))) b w hm hb hw =
    let e : (w * 8) % 65536 % 256 ≡ w % 32 * 8 = omega arith in
    record { pos = omega arith; whole = omega arith }
second_fits (suc (suc (suc (suc zero)))) b w hm hb hw =
    let e : (w * 16) % 65536 % 256 ≡ w % 16 * 16 = omega arith in
    record { pos = omega arith; whole = omega arith }
second_fits (suc (suc (suc (suc (suc zero))))) b w hm hb hw =
    let e : (w * 32) % 65536 % 256 ≡ w % 8 * 32 = omega arith in
    record { pos = omega arith; whole = omega arith }
second_fits (suc (suc (suc (suc (suc (suc zero)))))) b w hm hb hw =
    let e : (w * 64) % 65536 % 256 ≡ w % 4 * 64 = omega arith in
    record { pos = omega arith; whole = omega arith }
second_fits (suc (suc (suc (suc (suc (suc (suc m))))))) b w hm hb hw = absurd (omega arith)

pub first-is : (m a b w : ℕ) → m ≤ 6 → a < 256 → b < 256 → w < 1024
    → a / ((4 * 2 ^ m) % 65536) * ((4 * 2 ^ m) % 65536) + (w * 2 ^ m) % 65536 / 256 ≡ replaced (a * 256 + b) m w / 256
first-is zero a b w hm ha hb hw =
    let e : (w * 1) % 65536 / 256 ≡ w / 256 = omega arith in
    let f : (a * 256 + b) / 1024 ≡ a / 4 = omega arith in
    let g : (a * 256 + b) % 1 ≡ b % 1 = omega arith in
    rw (e, f, g) (omega arith)
first-is (suc zero) a b w hm ha hb hw =
    let e : (w * 2) % 65536 / 256 ≡ w / 128 = omega arith in
    let f : (a * 256 + b) / 2048 ≡ a / 8 = omega arith in
    let g : (a * 256 + b) % 2 ≡ b % 2 = omega arith in
    rw (e, f, g) (omega arith)
first-is (suc (suc zero)) a b w hm ha hb hw =
    let e : (w * 4) % 65536 / 256 ≡ w / 64 = omega arith in
    let f : (a * 256 + b) / 4096 ≡ a / 16 = omega arith in
    let g : (a * 256 + b) % 4 ≡ b % 4 = omega arith in
    rw (e, f, g) (omega arith)
first-is (suc (suc (suc zero))) a b w hm ha hb hw =
    let e : (w * 8) % 65536 / 256 ≡ w / 32 = omega arith in
    let f : (a * 256 + b) / 8192 ≡ a / 32 = omega arith in
    let g : (a * 256 + b) % 8 ≡ b % 8 = omega arith in
    rw (e, f, g) (omega arith)
first-is (suc (suc (suc (suc zero)))) a b w hm ha hb hw =
    let e : (w * 16) % 65536 / 256 ≡ w / 16 = omega arith in
    let f : (a * 256 + b) / 16384 ≡ a / 64 = omega arith in
    let g : (a * 256 + b) % 16 ≡ b % 16 = omega arith in
    rw (e, f, g) (omega arith)
first-is (suc (suc (suc (suc (suc zero))))) a b w hm ha hb hw =
    let e : (w * 32) % 65536 / 256 ≡ w / 8 = omega arith in
    let f : (a * 256 + b) / 32768 ≡ a / 128 = omega arith in
    let g : (a * 256 + b) % 32 ≡ b % 32 = omega arith in
    rw (e, f, g) (omega arith)
first-is (suc (suc (suc (suc (suc (suc zero)))))) a b w hm ha hb hw =
    let e : (w * 64) % 65536 / 256 ≡ w / 4 = omega arith in
    let f : (a * 256 + b) / 65536 ≡ a / 256 = omega arith in
    let g : (a * 256 + b) % 64 ≡ b % 64 = omega arith in
    rw (e, f, g) (omega arith)
first-is (suc (suc (suc (suc (suc (suc (suc m))))))) a b w hm ha hb hw = absurd (omega arith)

mod-of : (n r : ℕ) → r < 256 → (256 * n + r) % 256 ≡ r
mod-of n r h = omega arith

pub second_is : (m a b w : ℕ) → m ≤ 6 → b < 256 → w < 1024
    → (w * 2 ^ m) % 65536 % 256 + b % ((1 * 2 ^ m) % 65536) ≡ replaced (a * 256 + b) m w % 256
second_is zero a b w hm hb hw =
    let q = (a * 256 + b) / 1024 in
    let e : (w * 1) % 65536 % 256 ≡ w % 256 * 1 = omega arith in
    let g : (a * 256 + b) % 1 ≡ b % 1 = omega arith in
    let s : (q * 1024 + w) * 1 + b % 1 ≡ 256 * (4 * q + w / 256) + (w % 256 * 1 + b % 1) = omega arith in
    rw (e, g, s) (sym (mod-of (4 * q + w / 256) (w % 256 * 1 + b % 1) (omega arith)))
second_is (suc zero) a b w hm hb hw =
    let q = (a * 256 + b) / 2048 in
    let e : (w * 2) % 65536 % 256 ≡ w % 128 * 2 = omega arith in
    let g : (a * 256 + b) % 2 ≡ b % 2 = omega arith in
    let s : (q * 1024 + w) * 2 + b % 2 ≡ 256 * (8 * q + w / 128) + (w % 128 * 2 + b % 2) = omega arith in
    rw (e, g, s) (sym (mod-of (8 * q + w / 128) (w % 128 * 2 + b % 2) (omega arith)))
second_is (suc (suc zero)) a b w hm hb hw =
    let q = (a * 256 + b) / 4096 in
    let e : (w * 4) % 65536 % 256 ≡ w % 64 * 4 = omega arith in
    let g : (a * 256 + b) % 4 ≡ b % 4 = omega arith in
    let s : (q * 1024 + w) * 4 + b % 4 ≡ 256 * (16 * q + w / 64) + (w % 64 * 4 + b % 4) = omega arith in
    rw (e, g, s) (sym (mod-of (16 * q + w / 64) (w % 64 * 4 + b % 4) (omega arith)))
second_is (suc (suc (suc zero))) a b w hm hb hw =
    let q = (a * 256 + b) / 8192 in
    let e : (w * 8) % 65536 % 256 ≡ w % 32 * 8 = omega arith in
    let g : (a * 256 + b) % 8 ≡ b % 8 = omega arith in
    let s : (q * 1024 + w) * 8 + b % 8 ≡ 256 * (32 * q + w / 32) + (w % 32 * 8 + b % 8) = omega arith in
    rw (e, g, s) (sym (mod-of (32 * q + w / 32) (w % 32 * 8 + b % 8) (omega arith)))
second_is (suc (suc (suc (suc zero)))) a b w hm hb hw =
    let q = (a * 256 + b) / 16384 in
    let e : (w * 16) % 65536 % 256 ≡ w % 16 * 16 = omega arith in
    let g : (a * 256 + b) % 16 ≡ b % 16 = omega arith in
    let s : (q * 1024 + w) * 16 + b % 16 ≡ 256 * (64 * q + w / 16) + (w % 16 * 16 + b % 16) = omega arith in
    rw (e, g, s) (sym (mod-of (64 * q + w / 16) (w % 16 * 16 + b % 16) (omega arith)))
second_is (suc (suc (suc (suc (suc zero))))) a b w hm hb hw =
    let q = (a * 256 + b) / 32768 in
    let e : (w * 32) % 65536 % 256 ≡ w % 8 * 32 = omega arith in
    let g : (a * 256 + b) % 32 ≡ b % 32 = omega arith in
    let s : (q * 1024 + w) * 32 + b % 32 ≡ 256 * (128 * q + w / 8) + (w % 8 * 32 + b % 32) = omega arith in
    rw (e, g, s) (sym (mod-of (128 * q + w / 8) (w % 8 * 32 + b % 32) (omega arith)))
second_is (suc (suc (suc (suc (suc (suc zero)))))) a b w hm hb hw =
    let q = (a * 256 + b) / 65536 in
    let e : (w * 64) % 65536 % 256 ≡ w % 4 * 64 = omega arith in
    let g : (a * 256 + b) % 64 ≡ b % 64 = omega arith in
    let s : (q * 1024 + w) * 64 + b % 64 ≡ 256 * (256 * q + w / 4) + (w % 4 * 64 + b % 64) = omega arith in
    rw (e, g, s) (sym (mod-of (256 * q + w / 4) (w % 4 * 64 + b % 64) (omega arith)))
second_is (suc (suc (suc (suc (suc (suc (suc m))))))) a b w hm hb hw = absurd (omega arith)
