-- `link_of` tells a link type.
-- By the definition, whose tests the arms make one after the other.
use mathlib.Core.Path.{ap, sym}
use mathlib.Core.Logic.{⊎_elim}
use borrow.Author.Tests.{ne_eqb}
use native.Mathlib.Omega.{arith}
use Rattle.capture_datagram.specs.Link.{link_of}
use Rattle.capture_datagram.proofs.link.link_of.Goals as goal

pub returns-in-1 : goal.returns-in-1
unfolding link_of
returns-in-1 c = sym (ap link_of c.in-1.is)

pub returns-in-113 : goal.returns-in-113
unfolding link_of
returns-in-113 c = sym (ap link_of c.in-113.is)

pub returns-in-276 : goal.returns-in-276
unfolding link_of
returns-in-276 c = sym (ap link_of c.in-276.is)

pub returns-in-12 : goal.returns-in-12
unfolding link_of
returns-in-12 c = ⊎_elim (λ e. sym (ap link_of e)) (λ e. sym (ap link_of e)) c.in-12.is

pub returns-in-228 : goal.returns-in-228
unfolding link_of
returns-in-228 c = sym (ap link_of c.in-228.is)

pub returns-in-229 : goal.returns-in-229
unfolding link_of
returns-in-229 c = sym (ap link_of c.in-229.is)

pub returns-in_default : goal.returns-in_default
unfolding link_of
returns-in_default c = rw (
  ne_eqb c.args.number 1 (omega arith),
  ne_eqb c.args.number 113 (omega arith),
  ne_eqb c.args.number 276 (omega arith),
  ne_eqb c.args.number 12 (grind arith),
  ne_eqb c.args.number 101 (grind arith),
  ne_eqb c.args.number 228 (omega arith),
  ne_eqb c.args.number 229 (omega arith),
)
