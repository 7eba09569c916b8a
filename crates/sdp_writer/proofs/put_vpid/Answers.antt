-- `put_vpid` puts the item of a VPID code behind what stands.
-- By whether there is one.
use Rattle.std.specs.Prelude.{Option, Some, None}
use mathlib.Core.Path.{◌≡◌, ap, sym, ◌∙◌}
use mathlib.Core.List.{List, ◌++◌}
use Prim.Native.Nat.{ℕ, ◌+◌, ◌≤◌}
use native.Mathlib.Omega.{arith}
use lib.ListN.{length, length-append}
use Rattle.text.specs.Put.{Put}
use Rattle.text.proofs.PutLaws.{nothing, both, same}
use Rattle.sdp_spec.specs.Writing.{code_text, code_texts}
use Rattle.sdp_writer.specs.Parts.{separator, following}
use Rattle.sdp_writer.proofs.TextLaws.{room-behind, following-none, following-one}
use Rattle.sdp_writer.proofs.put_vpid.Goals as goal

item : (v : Option ℕ) (code at : ℕ) → v ≡ Some code → separator at ++ code_text code ≡ following at (code_texts v)
item v code at e = sym (ap (λ (w : Option ℕ). following at (code_texts w)) e ∙ following-one at (code_text code))

room : (v : Option ℕ) (code at n : ℕ) → v ≡ Some code → at + length (following at (code_texts v)) ≤ n
    → at + (length (separator at) + length (code_text code)) ≤ n
room v code at n e h = omega (arith, ap length (item v code at e), length-append (separator at) (code_text code))

no_item : (v : Option ℕ) (at : ℕ) (out : List ℕ) → v ≡ None → at + length (following at (code_texts v)) ≤ length out
    → Put out at (following at (code_texts v)) out at
no_item v at out e h =
    same (sym (ap (λ (w : Option ℕ). following at (code_texts w)) e ∙ following-none at)) (nothing out at (omega arith))

pub put_separator-start-requires : goal.put_separator-start-requires
put_separator-start-requires c = omega (arith, room _ _ _ _ c.in-Some.is c.requires)

pub put_code-requires : goal.put_code-requires
put_code-requires c = room-behind _ (room _ _ _ _ c.in-Some.is c.requires) c.put_separator-start.ensures

pub returns-in-None : goal.returns-in-None
returns-in-None c = no_item _ _ _ c.in-None.is c.requires

pub returns-in-Some : goal.returns-in-Some
returns-in-Some c = let at = c.args.at in
    same (item _ _ at c.in-Some.is) (both c.put_separator-start.ensures c.put_code.ensures)
