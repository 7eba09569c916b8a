-- `r_ok` tests the R bits of a layout that has them.
-- By the layout: none, or the last two bits before the words.
use mathlib.Core.Path.{sym, subst}
use Prim.Native.Nat.{◌≤◌}
use native.Mathlib.Omega.{arith}
use lib.ListN.{length}
use Rattle.wire_spec.specs.Layout.{Layout, least_size}
use Rattle.wire_spec.specs.declared.layout.Layout.TheVariants as layout
use Rattle.wire_spec.specs.Anc.{r_ok}
use Rattle.anc_reader.proofs.PacketLaws.{no-r}
use Rattle.anc_reader.proofs.check.r_ok.Goals as goal

pub zero_end-requires : goal.zero_end-requires
zero_end-requires c = let s = c.args.octets.now in
    let l : least_size layout.Draft2015 ≤ length s = subst (λ (L : Layout). least_size L ≤ length s) c.in-Draft2015.is c.requires in
    omega arith

pub returns-in-Rfc8331 : goal.returns-in-Rfc8331
returns-in-Rfc8331 c = rw c.in-Rfc8331.is (sym (no-r c.args.octets.now))

pub returns-in-Draft2015 : goal.returns-in-Draft2015
unfolding r_ok
returns-in-Draft2015 c = rw c.in-Draft2015.is c.zero_end.ensures
