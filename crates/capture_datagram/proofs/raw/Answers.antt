-- `raw` tells what an IP packet of either version is.
-- By the definition.
use mathlib.Core.Path.{◌∙◌}
use borrow.Author.Tests.{le-leb, lt-leb, eq-eqb, ne_eqb}
use Rattle.capture_datagram.specs.Link.{raw_in}
use Rattle.capture_datagram.proofs.LinkLaws.{beyond-none}
use Rattle.capture_datagram.proofs.raw.Goals as goal

pub returns-then-packet-lt1 : goal.returns-then-packet-lt1
unfolding raw_in
returns-then-packet-lt1 c = rw (lt-leb _ _ c.if-packet-lt1.true)

pub returns-then-version-eq4 : goal.returns-then-version-eq4
unfolding raw_in
returns-then-version-eq4 c = rw (le-leb _ _ c.if-packet-lt1.false, ← c.version_at-version.ensures, eq-eqb _ _ c.if-version-eq4.true) (c.ipv4_at.ensures ∙ beyond-none _)

pub returns-then-version-eq6 : goal.returns-then-version-eq6
unfolding raw_in
returns-then-version-eq6 c = rw (le-leb _ _ c.if-packet-lt1.false, ← c.version_at-version.ensures, ne_eqb _ _ c.if-version-eq4.false, eq-eqb _ _ c.if-version-eq6.true)
    (c.ipv6_at.ensures ∙ beyond-none _)

pub returns : goal.returns
unfolding raw_in
returns c = rw (le-leb _ _ c.if-packet-lt1.false, ← c.version_at-version.ensures, ne_eqb _ _ c.if-version-eq4.false, ne_eqb _ _ c.if-version-eq6.false)
