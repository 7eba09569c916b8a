-- The tests of one packet as the code computes them.
-- The words from DID on are one row; the alignment bits are a remainder of the last four octets.
use mathlib.Core.Path.{◌≡◌, refl, ap, sym, ◌∙◌}
use mathlib.Core.Bool.{Bool, true, false, not, ◌&&◌}
use mathlib.Core.List.{List, [], ◌∷◌, ◌++◌}
use Prim.Native.Nat.{ℕ, suc, ◌+◌, ◌-◌, ◌*◌, ◌/◌, ◌%◌, ◌^◌, ◌<◌, ◌≤◌}
use native.Mathlib.Nat.{one-mul, mod-eq_of_lt, mod-mod, div-one}
use native.Mathlib.Omega.{arith}
use borrow.Author.Tests.{not-true, not-false, eq-eqb}
use lib.Dec.{eqb}
use lib.ListN.{length, get_or}
use lib.Pow.{pow-lt}
use Rattle.wire_spec.specs.Bits.{bits_at, row_at}
use Rattle.wire_spec.specs.Words.{word_bits, header_numbers, is_header_word, sum_low, checksum_word, all_clear}
use Rattle.wire_spec.specs.Layout.{Layout, rfc8331, s_at, s_bits, stream_bits, alignment, least_size}
use Rattle.wire_spec.specs.Anc.{anc_record, data_count, anc_size, body_bits, did_at, words_at, padding, header_words, are_header_words, headers_ok, r_ok, words_ok, checksum_ok, alignment_ok}
use Rattle.wire_spec.specs.declared.layout.Layout.TheVariants as layout
use Rattle.anc_reader.specs.Tests.{packet_words, zero_bits, stream_octet}
use Rattle.wire_spec.proofs.HeadLaws.{s-at, stream_at}
use Rattle.wire_spec.proofs.BitLaws.{length-row_at, bits_at-lt, no_bits}
use Rattle.wire_spec.proofs.Window.{bits_at-part}
use Rattle.wire_spec.proofs.SizeLaws.{size-bits, pad-few, least_size_lem}
use Rattle.wire_spec.proofs.LayoutLaws.{places}
use Rattle.wire_spec.proofs.ResultLaws.{and-true}
use Rattle.wire_spec.proofs.WordLaws.{header-clear}
use Rattle.wire_words.proofs.SumLaws.{checksum-agree}
use Rattle.wire_words.specs.Word.{WordsFit}

-- what a branch on a test says of what the test computes
pub passed : (t r : Bool) → r ≡ t → not r ≡ false → t ≡ true
passed t r e h = sym e ∙ not-false r h

pub failed : (t r : Bool) → r ≡ t → not r ≡ true → t ≡ false
failed t r e h = sym e ∙ not-true r h

-- as many words are read as Data_Count says
pub length-words : (L : Layout) (s : List ℕ) → length (anc_record L s).words ≡ data_count L s
unfolding anc_record
length-words L s = length-row_at word_bits s (words_at L) (data_count L s)

-- three words, one after the other
pub headers-test : (s : List ℕ) (k : ℕ)
    → are_header_words (row_at word_bits s k 3)
    ≡ is_header_word (bits_at s k word_bits) && (is_header_word (bits_at s (k + word_bits) word_bits) && (is_header_word (bits_at s (k + 2 * word_bits) word_bits) && true))
unfolding row_at
headers-test s k =
    let e : k + word_bits + word_bits ≡ k + 2 * word_bits = omega arith in
    rw e

-- what a test of a fetched word says of the octets
pub fetched : (w x : ℕ) (r : Bool) → w ≡ x → r ≡ is_header_word w → is_header_word x ≡ r
fetched w x r e h = sym (h ∙ ap is_header_word e)

-- three words without others
pub no_words : (s : List ℕ) (did words n : ℕ) → n ≡ 0 → row_at word_bits s did 3 ≡ row_at word_bits s did 3 ++ row_at word_bits s words n
unfolding row_at
no_words s did words n e = rw e

-- three words, and those behind them, are one row
pub one-row : (s : List ℕ) (did words n : ℕ) → words ≡ did + 3 * word_bits
    → row_at word_bits s did (3 + n) ≡ row_at word_bits s did 3 ++ row_at word_bits s words n
unfolding row_at
one-row s did words n e =
    let k : 3 + n ≡ suc (suc (suc n)) = omega arith in
    let p : words ≡ did + word_bits + word_bits + word_bits = omega arith in
    rw (k, p)

-- header words that pass 10 are no protected words, so the words behind them decide
clear_behind : (hs ws : List ℕ) → are_header_words hs ≡ true → all_clear (hs ++ ws) ≡ all_clear ws
clear_behind [] ws e = refl
clear_behind (h ∷ hs) ws e =
    let a = and-true (is_header_word h) (are_header_words hs) e in
    rw (header-clear h a.0) (clear_behind hs ws a.1)

-- the header words of the smallest packet lie in the octets
pub header-there : (L : Layout) (s : List ℕ) → least_size L ≤ length s → WordsFit s (did_at L) 3
header-there L s l =
    let p = places L in
    record { even = p.did-even; inside = omega (arith, p.least); near = omega (arith, p.did-near) }

-- the words of a packet that is all there, with its checksum word, lie in the octets, and so do the bits behind them
pub record There (L : Layout) (s : List ℕ) (n z : ℕ) : Type 0 where
  pub header : WordsFit s (did_at L) 3
  pub words : WordsFit s (words_at L) (n + 1)
  pub end : (4 ≤ z) × (words_at L + word_bits * (n + 1) ≤ 8 * z) × (8 * z < words_at L + word_bits * (n + 1) + 32)

pub there : (L : Layout) (s : List ℕ) (n z : ℕ) → n < header_numbers → z ≡ anc_size L n → z ≤ length s → There L s n z
there L s n z h e l =
    let p = places L in
    let b = size-bits L n in
    let f = pad-few L (body_bits L n) in
    let m = least_size_lem L n in
    record {
      header = header-there L s (omega arith);
      words = record { even = p.words-even; inside = omega arith; near = omega (arith, p.did-near, p.r-few) };
      end = (omega (arith, p.least), omega arith, omega arith);
    }

-- the tests by bits are the definition's
module _ (L : Layout) (s : List ℕ) (n : ℕ) (e : data_count L s ≡ n) where
  pub clear-test : headers_ok L s ≡ true → all_clear (packet_words L n s) ≡ words_ok L s
  unfolding headers_ok words_ok
  clear-test h = clear_behind (header_words L s) (row_at word_bits s (words_at L) n) h ∙ rw e

  pub checksum-test : (sum : ℕ) → sum ≡ sum_low (packet_words L n s) % 512
      → eqb (bits_at s (words_at L + word_bits * n) word_bits) (checksum_word sum) ≡ checksum_ok L s
  unfolding checksum_ok
  checksum-test sum h = rw (checksum-agree sum (sum_low (packet_words L n s)) (ap (λ (x : ℕ). x % 512) h ∙ mod-mod (sum_low (packet_words L n s)) 512), e)

  pub alignment-test : (z : ℕ) → z ≡ anc_size L n → zero_bits s (words_at L + word_bits * (n + 1)) (8 * z) ≡ alignment_ok L s
  unfolding alignment_ok
  alignment-test z h =
      let b : words_at L + word_bits * (n + 1) ≡ body_bits L n = omega arith in
      let q : padding (alignment L) (body_bits L n) ≡ 8 * anc_size L n - body_bits L n = omega (arith, size-bits L n) in
      rw (e, h, b, q)

-- a bit shifted by less than 32 places
pub unit : (m : ℕ) → m < 32 → (1 * 2 ^ m) % 2 ^ 32 ≡ 2 ^ m
unit m h = rw (one-mul (2 ^ m), mod-eq_of_lt (pow-lt h))

-- the last bits of the last four octets
pub last-bits : (s : List ℕ) (body z : ℕ) → 4 ≤ z → z ≤ length s → body ≤ 8 * z → 8 * z < body + 32
    → eqb (bits_at s (8 * (z - 4)) 32 % 2 ^ (8 * z - body)) 0 ≡ zero_bits s body (8 * z)
last-bits s body z four fits h l =
    let at = 8 * (z - 4) in
    let left = 8 * z - body in
    let b : at + (32 - left) ≡ body = omega arith in
    let w = bits_at-part s at 32 (32 - left) left 0 (omega arith) (omega arith) in
    rw (← (rw (b, div-one) at w))

-- S and StreamNum, in a layout that has them and in one that has not
module _ (L : Layout) (s : List ℕ) (octet : (j : ℕ) → get_or s j 0 < 256) (long : 4 ≤ length s) where
  pub s_read : bits_at s s_at (s_bits L) ≡ stream_octet L (get_or s 3 0) / 128
  s_read = go L
    where
      go : (L : Layout) → bits_at s s_at (s_bits L) ≡ stream_octet L (get_or s 3 0) / 128
      go layout.Rfc8331 = s-at s octet long
      go layout.Draft2015 = no_bits s s_at

  pub stream-read : bits_at s (s_at + s_bits L) (stream_bits L) ≡ stream_octet L (get_or s 3 0) % 128
  stream-read = go L
    where
      go : (L : Layout) → bits_at s (s_at + s_bits L) (stream_bits L) ≡ stream_octet L (get_or s 3 0) % 128
      go layout.Rfc8331 = stream_at s octet long
      go layout.Draft2015 = no_bits s s_at

pub s-small : (L : Layout) (s : List ℕ) → bits_at s s_at (s_bits L) < 2
s-small layout.Rfc8331 s = bits_at-lt s s_at 1
s-small layout.Draft2015 s = omega (arith, no_bits s s_at)

-- RFC 8331's layout has no R bits
pub no-r : (s : List ℕ) → r_ok rfc8331 s ≡ true
unfolding r_ok
no-r s = eq-eqb _ 0 (no_bits s _)
