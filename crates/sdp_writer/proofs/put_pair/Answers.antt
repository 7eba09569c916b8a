-- `put_pair` puts the item of a pair.
-- By its three pieces: the name and the DID, the SDID, the brace.
use mathlib.Core.Path.{◌≡◌, refl}
use mathlib.Core.List.{List, ◌++◌}
use Prim.Native.Nat.{ℕ, ◌+◌, ◌≤◌}
use native.Mathlib.Omega.{arith}
use lib.ListN.{length}
use Rattle.text.specs.Put.{Put}
use Rattle.text.specs.Text.{digits, hex}
use Rattle.text.proofs.PutLaws.{both, same}
use Rattle.sdp_spec.specs.Text.{did_sdid_word, open_word, comma_word, close_word}
use Rattle.sdp_spec.specs.Writing.{pair_text}
use Rattle.sdp_spec.proofs.WritingLaws.{pair_size}
use Rattle.sdp_writer.proofs.TextLaws.{room-behind}
use Rattle.sdp_writer.proofs.put_pair.Goals as goal

abbrev did_piece : ℕ → List ℕ
did_piece did = (did_sdid_word ++ open_word) ++ hex 2 did

abbrev sdid_piece : ℕ → List ℕ
sdid_piece sdid = comma_word ++ hex 2 sdid

pieces : (did sdid : ℕ) → (did_piece did ++ sdid_piece sdid) ++ close_word ≡ pair_text did sdid
unfolding pair_text hex digits
pieces did sdid = refl

sizes : (did sdid : ℕ) → (length (did_piece did) ≡ 14) × (length (sdid_piece sdid) ≡ 5)
unfolding hex digits
sizes did sdid = (refl, refl)

module _ (did sdid at : ℕ) (o : List ℕ) (room : at + length (pair_text did sdid) ≤ length o) where
  did-room : at + 12 + 2 ≤ length o
  did-room = omega (arith, pair_size did sdid)

  module _ (o₁ : List ℕ) (at₁ : ℕ) (first : Put o at (did_piece did) o₁ at₁) where
    left : at₁ + 6 ≤ length o₁
    left = room-behind 6 (omega (arith, pair_size did sdid, sizes did sdid)) first

    sdid-room : at₁ + 3 + 2 ≤ length o₁
    sdid-room = omega (arith, left)

    brace-room : (o₂ : List ℕ) (at₂ : ℕ) → Put o₁ at₁ (sdid_piece sdid) o₂ at₂ → at₂ + 1 ≤ length o₂
    brace-room o₂ at₂ second = room-behind 1 (omega (arith, left, sizes did sdid)) second

pub put_octet-behind_did-requires : goal.put_octet-behind_did-requires
put_octet-behind_did-requires c = did-room _ _ _ c.args.out.now c.requires

pub put_octet-behind_sdid-requires : goal.put_octet-behind_sdid-requires
put_octet-behind_sdid-requires c = let p = c.put_octet-behind_did.ensures.put in
    sdid-room _ _ _ _ c.requires _ _ p

pub put-requires : goal.put-requires
put-requires c = let p = c.put_octet-behind_did.ensures.put in
    let q = c.put_octet-behind_sdid.ensures.put in
    brace-room _ _ _ _ c.requires _ _ p _ _ q

pub returns : goal.returns
returns c = let p = c.put_octet-behind_did.ensures.put in
    let q = c.put_octet-behind_sdid.ensures.put in
    same (pieces _ _) (both (both p q) c.put.ensures.put)
