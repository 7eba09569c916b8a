-- `put_separator` puts `;` behind what stands.
-- By whether anything stands.
use mathlib.Core.Path.{◌≡◌, sym}
use mathlib.Core.List.{List, [], ◌∷◌}
use Prim.Native.Nat.{ℕ, ◌+◌, ◌≤◌, zero-le}
use lib.ListN.{length}
use borrow.Author.Tests.{ne_eqb}
use Rattle.text.specs.Put.{Put}
use Rattle.text.proofs.PutLaws.{nothing, same}
use Rattle.sdp_spec.specs.Text.{semicolon}
use Rattle.sdp_writer.specs.Parts.{separator}
use Rattle.sdp_writer.proofs.put_separator.Goals as goal

-- what is put behind no octets, and behind some
at-start : (at : ℕ) (out : List ℕ) → at ≡ 0 → Put out at (separator at) out 0
at-start at out e = rw e (nothing out 0 zero-le)

behind : (at : ℕ) → (at ≡ 0 → ⊥) → separator at ≡ semicolon ∷ []
behind at h = rw (ne_eqb at 0 h)

room : (at n : ℕ) → (at ≡ 0 → ⊥) → at + length (separator at) ≤ n → at + 1 ≤ n
room at n h k = rw (behind at h) at k

pub returns-then-at-eq0 : goal.returns-then-at-eq0
returns-then-at-eq0 c = at-start _ _ c.if-at-eq0.true

pub put-requires : goal.put-requires
put-requires c = room _ _ c.if-at-eq0.false c.requires

pub returns : goal.returns
returns c = same (sym (behind _ c.if-at-eq0.false)) c.put.ensures.put
