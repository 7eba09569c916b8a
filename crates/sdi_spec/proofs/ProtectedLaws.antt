-- No word of a packet from DID to checksum is a protected one.
-- b9 of a header word and of a checksum is the opposite of b8, so they lie from 0x100 to 0x2FF; user data words are tested.
use mathlib.Core.Path.{◌≡◌}
use mathlib.Core.Bool.{true}
use mathlib.Core.List.{List, [], ◌∷◌, ◌++◌}
use Prim.Native.Nat.{ℕ, ◌<◌, ◌≤◌}
use native.Mathlib.Omega.{arith}
use lib.Dec.{leb}
use lib.ListN.{length}
use borrow.Author.Tests.{leb-true}
use Rattle.wire_spec.specs.Words.{header_word, sum_low, checksum_word, least_clear, most_clear, is_clear, all_clear}
use Rattle.wire_spec.specs.Layout.{Layout}
use Rattle.wire_spec.specs.Anc.{Each, Record, WellFormed, checksum}
use Rattle.wire_spec.proofs.ResultLaws.{and-true}
use Rattle.wire_spec.proofs.WordLaws.{header-between}
use Rattle.sdi_spec.specs.Packets.{data_words, Unprotected}

pub checksum-between : (sum : ℕ) → (0x100 ≤ checksum_word sum) × (checksum_word sum < 0x300)
unfolding checksum_word
checksum-between sum = omega arith

clear-unprotected : (w : ℕ) → is_clear w ≡ true → Unprotected w
clear-unprotected w e =
    let a = and-true (leb least_clear w) (leb w most_clear) e in
    omega (arith, leb-true least_clear w a.0, leb-true w most_clear a.1)

behind-words : (ws : List ℕ) (w : ℕ) → all_clear ws ≡ true → Unprotected w → Each Unprotected (ws ++ w ∷ [])
behind-words [] w e h = (h, tt)
behind-words (v ∷ ws) w e h = let a = and-true (is_clear v) (all_clear ws) e in (clear-unprotected v a.0, behind-words ws w a.1 h)

-- "Prove that after K5 no word from DID to checksum is a protected one", of a record that is well-formed in either layout
pub never-protected : (L : Layout) (r : Record) → WellFormed L r → Each Unprotected (data_words r)
never-protected L r h =
    let a = header-between r.did h.fits.did in
    let b = header-between r.sdid h.fits.sdid in
    let c = header-between (length r.words) h.fits.count in
    let s = checksum-between (sum_low (header_word r.did ∷ header_word r.sdid ∷ header_word (length r.words) ∷ r.words)) in
    let d : Unprotected (checksum r) = omega arith in
    ((omega arith, omega arith), ((omega arith, omega arith), ((omega arith, omega arith), behind-words r.words (checksum r) h.clear d)))
