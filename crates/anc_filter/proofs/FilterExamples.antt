-- What is wanted by no pairs, by one, by two, and by a last octet without an SDID.
-- By computation.
use mathlib.Core.Path.{◌≡◌, refl}
use mathlib.Core.Bool.{true, false}
use mathlib.Core.List.{[], ◌∷◌}
use Rattle.anc_filter.specs.declared.DidSdid.{DidSdid}
use Rattle.anc_filter.specs.Wanted.{matching, any_in, wanted_in, any_of, wanted_of}

-- no pairs: every record is wanted
pub none-given : (wanted_in 0x61 0x02 [] ≡ true) × (wanted_of 0x61 0x02 [] ≡ true) × (wanted_in 0x61 0x02 (0x61 ∷ []) ≡ true)
unfolding any_in any_of
none-given = (refl, refl, refl)

-- both numbers have to match, and of one entry
abbrev captions : DidSdid
captions = record { did = 0x61; sdid = 0x02 }

abbrev afd : DidSdid
afd = record { did = 0x41; sdid = 0x05 }

pub given : (wanted_of 0x61 0x02 (captions ∷ afd ∷ []) ≡ true) × (wanted_of 0x41 0x05 (captions ∷ afd ∷ []) ≡ true)
    × (wanted_of 0x61 0x05 (captions ∷ afd ∷ []) ≡ false) × (wanted_of 0x61 0x01 (captions ∷ []) ≡ false)
    × (wanted_in 0x41 0x05 (0x61 ∷ 0x02 ∷ 0x41 ∷ 0x05 ∷ []) ≡ true) × (wanted_in 0x02 0x41 (0x61 ∷ 0x02 ∷ 0x41 ∷ 0x05 ∷ []) ≡ false)
    × (wanted_in 0x41 0x00 (0x61 ∷ 0x02 ∷ 0x41 ∷ []) ≡ false)
unfolding matching any_in any_of
given = (refl, refl, refl, refl, refl, refl, refl)

-- Type 1 goes by the DID, whichever second number either side has; the border lies at 0x80
abbrev block : DidSdid
block = record { did = 0x80; sdid = 0x07 }

abbrev below : DidSdid
below = record { did = 0x7F; sdid = 0x07 }

pub data-blocks : (wanted_of 0x80 0x00 (block ∷ []) ≡ true) × (wanted_of 0x80 0xFF (captions ∷ block ∷ []) ≡ true) × (wanted_of 0x81 0x07 (block ∷ []) ≡ false)
    × (wanted_of 0x7F 0x00 (below ∷ []) ≡ false) × (wanted_of 0x7F 0x07 (below ∷ []) ≡ true)
    × (wanted_in 0xFF 0x01 (0x61 ∷ 0x02 ∷ 0xFF ∷ 0x09 ∷ []) ≡ true)
unfolding matching any_in any_of
data-blocks = (refl, refl, refl, refl, refl, refl)
