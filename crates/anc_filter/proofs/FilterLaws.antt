-- THE TWO FORMS AGREE: over a list of pairs, and over its octets.
-- By the entries from left to right.
use mathlib.Core.Path.{◌≡◌, refl, sym, ◌∙◌, ap}
use mathlib.Core.Bool.{Bool, ◌||◌}
use mathlib.Core.List.{List, [], ◌∷◌}
use Prim.Native.Nat.{ℕ}
use native.Mathlib.Omega.{arith}
use lib.ListN.{length}
use lib.Dec.{eqb, ltb, eqb-suc-zero}
use borrow.Author.Tests.{le-ltb}
use Rattle.anc_filter.specs.declared.DidSdid.{DidSdid}
use Rattle.anc_filter.specs.Wanted.{matching_pair, any_in, wanted_in, any_of, wanted_of, octets_of}

any-agree : (d s : ℕ) (ps : List DidSdid) → any_in d s (octets_of ps) ≡ any_of d s ps
unfolding any_in any_of
any-agree d s [] = refl
any-agree d s (p ∷ ps) = ap (λ (t : Bool). matching_pair d s p || t) (any-agree d s ps)

none-agree : (ps : List DidSdid) → ltb (length (octets_of ps)) 2 ≡ eqb (length ps) 0
none-agree [] = refl
none-agree (p ∷ ps) = le-ltb (length (octets_of (p ∷ ps))) 2 (omega arith) ∙ sym (eqb-suc-zero (length ps))

pub wanted-agree : (d s : ℕ) (ps : List DidSdid) → wanted_in d s (octets_of ps) ≡ wanted_of d s ps
wanted-agree d s ps =
    ap (λ (t : Bool). t || any_in d s (octets_of ps)) (none-agree ps) ∙ ap (λ (t : Bool). eqb (length ps) 0 || t) (any-agree d s ps)
