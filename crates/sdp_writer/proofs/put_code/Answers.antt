-- `put_code` puts the item of a VPID code.
-- By its two pieces: the name, and the digits that were put by themselves first.
use mathlib.Core.Path.{◌≡◌, refl, ap}
use mathlib.Core.List.{◌++◌}
use Prim.Native.Nat.{ℕ}
use native.Mathlib.Omega.{arith}
use lib.ListN.{length}
use Rattle.text.specs.Text.{decimal}
use Rattle.text.proofs.PutLaws.{both, same}
use Rattle.sdp_spec.specs.Text.{vpid_code_word}
use Rattle.sdp_spec.specs.Writing.{code_text}
use Rattle.sdp_spec.proofs.WritingLaws.{code-size}
use Rattle.sdp_writer.proofs.TextLaws.{room-behind, put_front}
use Rattle.sdp_writer.proofs.put_code.Goals as goal

pieces : (code : ℕ) → vpid_code_word ++ decimal code ≡ code_text code
unfolding code_text
pieces code = refl

pub put-behind_name-requires : goal.put-behind_name-requires
put-behind_name-requires c = let code = c.args.code in
    omega (arith, c.requires, code-size code)

pub slice_bounds-put-end-2 : goal.slice_bounds-put-end-2
slice_bounds-put-end-2 c = let d = c.put_decimal-count.ensures.put in
    omega (arith, ap length (put_front d), d.behind)

pub put-requires : goal.put-requires
put-requires c = let code = c.args.code in
    let e = ap length (put_front c.put_decimal-count.ensures.put) in
    let p = c.put-behind_name.ensures.put in
    omega (arith, e, room-behind (length (decimal code)) (omega (arith, c.requires, code-size code)) p)

pub returns : goal.returns
returns c = let d = c.put_decimal-count.ensures.put in
    let p = c.put-behind_name.ensures.put in
    same (pieces _) (both p (same (put_front d) c.put.ensures.put))
