-- What the code returns: a class of distance; late, far or fresh, from a class.
use Rattle.std.specs.Prelude.{ℕ, Bool, true, false, Result, Ok, Err}
use Rattle.depacketizer_spec.specs.declared.state.State.{State}
use Rattle.depacketizer_spec.specs.Step.{Class, late, next, far, ahead, classify, distance, is_remembered, open_state}
use Rattle.depacketizer_sequence.specs.declared.distance.Class.{Class as Told}
use Rattle.depacketizer_sequence.specs.declared.distance.Class.TheVariants as class
use Rattle.depacketizer_sequence.specs.declared.place.Fresh.{Fresh}
use Rattle.depacketizer_sequence.specs.declared.place.NotFresh.{NotFresh}
use Rattle.depacketizer_sequence.specs.declared.place.NotFresh.TheVariants as not_fresh

-- what a distance says
abbrev pub class_of : Class → Told
class_of late = class.Late
class_of next = class.Next
class_of far = class.Far
class_of (ahead n) = class.Ahead n

-- where a packet stands: fresh, or why it is not
abbrev pub Placed : Type 0
Placed = Result Fresh NotFresh

-- "If a far arrival has the remembered number, the keeper restarts": fresh to a state just opened
abbrev pub far_of : Bool → State → Placed
far_of true st = Ok (record { missing = 0; next = false; from = open_state st.source st.payload_type })
far_of false st = Err not_fresh.Far

-- late, far or fresh, from the class of the distance
abbrev pub place_of : Class → State → (number : ℕ) → Placed
place_of late st n = Err not_fresh.Late
place_of next st n = Ok (record { missing = 0; next = true; from = st })
place_of far st n = far_of (is_remembered st n) st
place_of (ahead m) st n = Ok (record { missing = m; next = false; from = st })

-- the first packet has no distance, and is fresh
abbrev pub freshness_of : (heard : Bool) → State → (number : ℕ) → Placed
freshness_of false st n = Ok (record { missing = 0; next = false; from = st })
freshness_of true st n = place_of (classify (distance st.last.0 n)) st n
