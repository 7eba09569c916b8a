-- `write_f` writes F and the reserved bits, where the layout has them.
-- By the variant that each arm is told: the law of those three octets, or none.
use mathlib.Core.Path.{ap, sym, ◌∙◌, subst}
use mathlib.Core.List.{[], ◌∷◌}
use Prim.Native.Nat.{◌*◌, ◌≤◌}
use native.Mathlib.Omega.{arith}
use lib.ListN.{length, length-set}
use Rattle.wire_spec.specs.Bits.{octets, splice}
use Rattle.wire_spec.specs.Layout.{Layout}
use Rattle.wire_spec.proofs.ListLaws.{set-run, splice-none}
use Rattle.rtp_writer.specs.Front.{front_size}
use Rattle.rtp_writer.proofs.FrontLaws.{f-packed}
use Rattle.rtp_writer.proofs.writing.write_f.Goals as goal

pub bounds-octets-at : goal.bounds-octets-at
bounds-octets-at c = let room : 20 ≤ length c.args.octets.now = subst (λ (L : Layout). front_size L ≤ length c.args.octets.now) c.in-Rfc8331.is c.requires.1 in
    omega (arith, room)

pub bounds-octets-at-in-Rfc8331 : goal.bounds-octets-at-in-Rfc8331
bounds-octets-at-in-Rfc8331 c = let room : 20 ≤ length c.args.octets.now = subst (λ (L : Layout). front_size L ≤ length c.args.octets.now) c.in-Rfc8331.is c.requires.1 in
    simp length-set (omega (arith, room))

pub bounds-octets-at-in-Rfc8331-2 : goal.bounds-octets-at-in-Rfc8331-2
bounds-octets-at-in-Rfc8331-2 c = let room : 20 ≤ length c.args.octets.now = subst (λ (L : Layout). front_size L ≤ length c.args.octets.now) c.in-Rfc8331.is c.requires.1 in
    simp length-set (omega (arith, room))

pub returns-in-Rfc8331 : goal.returns-in-Rfc8331
returns-in-Rfc8331 c = let room : 20 ≤ length c.args.octets.now = subst (λ (L : Layout). front_size L ≤ length c.args.octets.now) c.in-Rfc8331.is c.requires.1 in
    let o = c.args.octets.now in
    let f = c.args.f in
    rw c.in-Rfc8331.is (set-run o 17 (f * 64) (0 ∷ 0 ∷ []) (omega (arith, room)) ∙ ap (splice o 17) (f-packed f c.requires.0))

pub returns-in-Draft2015 : goal.returns-in-Draft2015
unfolding octets
returns-in-Draft2015 c = rw c.in-Draft2015.is (sym (splice-none c.args.octets.now 17))
