-- `is_lower` tells a line and an offset that belong before a known place.
-- By whether one is known.
use Rattle.std.proofs.Common.{◌≡◌, rules}
use Rattle.std.specs.Prelude.{Option}
use Rattle.streamcheck_spec.specs.declared.place.Place.{Place}
use Rattle.streamcheck_spec.specs.Check.{is_lower}
use Rattle.streamcheck_spec.proofs.OptionLaws.{by-value}
use Rattle.streamcheck_raster.proofs.is_lower.Goals as goal

pub returns : goal.returns
unfolding is_lower
returns c =
    let a = c.args in
    by-value (λ (q : Option Place). c.is_some_and.result ≡ is_lower a.line a.offset q) a.place c.is_some_and.ensures (λ h. h) (λ q h. search rules)
