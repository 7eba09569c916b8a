-- 02, K10 computed: calls from an outlet just opened, states that 64 refuses, and the theorems' premises met.
use mathlib.Core.Path.{◌≡◌, refl, sym, ◌∙◌, ap, subst}
use mathlib.Core.Bool.{true, false}
use mathlib.Core.List.{List, [], ◌∷◌}
use Prim.Native.Nat.{ℕ, ◌≤◌}
use native.Mathlib.Omega.{arith}
use lib.ListN.{length, replicate, set}
use Rattle.wire_spec.specs.Result.{Ok, refuse}
use Rattle.egress_spec.specs.declared.state.State.{State}
use Rattle.egress_spec.specs.Queues.{Call, offering, taking, Answer, copied, handed, no, memory_size, opened, answers, after}
use Rattle.egress_spec.specs.Places.{open_state, used_below, all_upto, sound}
use Rattle.egress_spec.specs.Step.{seek, free_slot, turn_of, offer_of, take_of}
use Rattle.egress_spec.specs.Calls.{answers_of, answers_behind}
use Rattle.egress_spec.specs.Laws.{handed_out, Within, waiting, own, offered}
use Rattle.egress_spec.proofs.Simulation.{answers-as-queues}
use Rattle.egress_spec.proofs.RunLaws.{waits, behind-is}
use Rattle.egress_spec.proofs.OutletLaws.{fair, taken-while-waiting, in-time, alike}

abbrev refused_by : ℕ → Answer
refused_by x = no (record { number = x; index = 0 })

-- a take with two octets lent
abbrev next : Call
next = taking (0 ∷ 0 ∷ [])

-- One channel's reload (00, version one): channel 3 offers nine packets, of which eight are copied in; channel 5 offers one.
abbrev pub reload : List Call
reload =
    offering 3 (30 ∷ []) ∷ offering 3 (31 ∷ []) ∷ offering 3 (32 ∷ []) ∷ offering 3 (33 ∷ []) ∷ offering 3 (34 ∷ []) ∷ offering 3 (35 ∷ [])
    ∷ offering 3 (36 ∷ []) ∷ offering 3 (37 ∷ []) ∷ offering 3 (38 ∷ []) ∷ offering 5 (50 ∷ 51 ∷ []) ∷ []

-- then takes, with the reload going on between them
abbrev pub served : List Call
served = next ∷ offering 3 (38 ∷ []) ∷ next ∷ offering 3 (39 ∷ []) ∷ next ∷ next ∷ next ∷ next ∷ next ∷ next ∷ []

-- channels 3 and 5 with a packet each; eight takes of a slot's octets, with an offer between them
abbrev few : List Call
few = offering 3 (30 ∷ []) ∷ offering 5 (50 ∷ 51 ∷ []) ∷ []

abbrev roomy : Call
roomy = taking (replicate 1024 0)

abbrev eight : List Call
eight = roomy ∷ offering 3 (31 ∷ []) ∷ roomy ∷ roomy ∷ roomy ∷ roomy ∷ roomy ∷ roomy ∷ roomy ∷ []

module _ (m : List ℕ) (size : length m ≡ memory_size) where
  pub reload-answers : answers_of m reload
      ≡ copied ∷ copied ∷ copied ∷ copied ∷ copied ∷ copied ∷ copied ∷ copied ∷ refused_by 62 ∷ copied ∷ []
  reload-answers = answers-as-queues m size reload

  -- channel 5's packet is the second to leave
  pub served-answers : answers_behind m reload served
      ≡ handed 3 (30 ∷ []) ∷ copied ∷ handed 5 (50 ∷ 51 ∷ []) ∷ refused_by 62 ∷ handed 3 (31 ∷ []) ∷ handed 3 (32 ∷ []) ∷ handed 3 (33 ∷ []) ∷ handed 3 (34 ∷ [])
      ∷ handed 3 (35 ∷ []) ∷ handed 3 (36 ∷ []) ∷ []
  served-answers = behind-is m size reload served

  -- fairness: its premises are met, and so is what it says
  pub heads-5 : waiting 5 reload (answers_of m reload) ≡ (50 ∷ 51 ∷ []) ∷ []
  heads-5 = waits m size 5 reload

  pub fair-5 : Within 8 (record { channel = 5; packet = 50 ∷ 51 ∷ [] }) (handed_out (answers_behind m reload served))
  fair-5 = fair m size reload served 5 (50 ∷ 51 ∷ []) [] (omega arith) heads-5
      (subst (λ (l : List Answer). 8 ≤ length (handed_out l)) (sym served-answers) (omega arith))

  pub taken-5 : (d : ℕ) × (y : List ℕ) × (answers_behind m reload (taking (replicate 1024 0) ∷ []) ≡ handed d y ∷ [])
  taken-5 = taken-while-waiting m size reload (replicate 1024 0) 5 (50 ∷ 51 ∷ []) [] (omega arith) heads-5 (omega arith)

  -- eight takes of 1,024 octets, of which the last finds nothing: the packet is among those handed out
  pub in-time-5 : Within 8 (record { channel = 5; packet = 50 ∷ 51 ∷ [] }) (handed_out (answers_behind m few eight))
  in-time-5 = in-time m size few eight 5 (50 ∷ 51 ∷ []) [] (omega arith) (waits m size 5 few) (omega arith)

  -- channel 5 saw one offer of two octets: it is answered as where nobody else offered anything
  pub own-5 : own 5 reload (answers_of m reload) ≡ offered 2 ∷ []
  own-5 = ap (own 5 reload) reload-answers

  pub alone-5 : own 5 (offering 5 (7 ∷ 8 ∷ []) ∷ []) (answers_of m (offering 5 (7 ∷ 8 ∷ []) ∷ [])) ≡ offered 2 ∷ []
  alone-5 = ap (own 5 (offering 5 (7 ∷ 8 ∷ []) ∷ [])) (answers-as-queues m size (offering 5 (7 ∷ 8 ∷ []) ∷ []))

  pub alike-5 : answers_behind m reload (offering 5 (1 ∷ []) ∷ []) ≡ answers_behind m (offering 5 (7 ∷ 8 ∷ []) ∷ []) (offering 5 (2 ∷ []) ∷ [])
  alike-5 = alike m m size size reload (offering 5 (7 ∷ 8 ∷ []) ∷ []) 5 (1 ∷ []) (2 ∷ []) (own-5 ∙ sym alone-5) refl

-- "at first with 0", and in a circle: 7 and then 0; 63 when nothing waits; 23 leaves the turn where it was
pub circle : answers opened
    (next ∷ offering 0 (9 ∷ []) ∷ offering 7 (70 ∷ 71 ∷ []) ∷ offering 0 (8 ∷ []) ∷ next ∷ taking (0 ∷ []) ∷ next ∷ next ∷ next ∷ [])
    ≡ refused_by 63 ∷ copied ∷ copied ∷ copied ∷ handed 0 (9 ∷ []) ∷ refused_by 23 ∷ handed 7 (70 ∷ 71 ∷ []) ∷ handed 0 (8 ∷ []) ∷ refused_by 63 ∷ []
circle = refl

-- the order 60, 61, 62: an empty packet for channel 8 is 60, one for a full channel 61; 1,024 octets pass, 1,025 do not
pub offer-order : answers opened (offering 8 [] ∷ offering 7 [] ∷ offering 7 (replicate 1024 0) ∷ offering 7 (replicate 1025 0) ∷ [])
    ≡ refused_by 60 ∷ refused_by 61 ∷ copied ∷ refused_by 61 ∷ []
offer-order = refl

pub full-order : answers (after opened reload) (offering 3 [] ∷ offering 3 (1 ∷ []) ∷ offering 2 (1 ∷ []) ∷ []) ≡ refused_by 61 ∷ refused_by 62 ∷ copied ∷ []
full-order = refl

-- A state that holds two packets: channel 0 one of five octets in slot 9, at the last place of its ring, channel 1 one of 1,024 in slot 63.
abbrev state : (head count slot length next : ℕ) → State
state h n s l next =
    record {
      heads = set (replicate 8 0) 0 h;
      counts = set (set (replicate 8 0) 0 n) 1 1;
      slots = set (set (set (replicate 64 0) 0 9) 7 s) 8 63;
      lengths = set (set (set (replicate 64 2000) 0 5) 7 l) 8 1024;
      next = next;
    }

-- only held lengths are looked at: places that hold none have 2,000 octets here, and two of them slot 0
pub sound-state : sound (state 7 1 9 5 0) ≡ true
unfolding all_upto used_below
sound-state = refl

-- 64: each of 02's cases. The start of a ring, over eight held, a slot out of range, its length 0 and 1,025, the next channel, a slot held twice; a slot out of range that is not held
pub unsound-states : (sound (state 8 1 9 5 0) ≡ false) × (sound (state 7 9 9 5 0) ≡ false) × (sound (state 7 1 64 5 0) ≡ false)
    × (sound (state 7 1 9 0 0) ≡ false) × (sound (state 7 1 9 1025 0) ≡ false) × (sound (state 7 1 9 5 8) ≡ false) × (sound (state 7 1 63 5 0) ≡ false)
    × (sound (state 7 2 9 5 0) ≡ false) × (sound (state 0 0 64 5 0) ≡ false) × (sound (state 0 0 63 5 0) ≡ true)
unfolding all_upto used_below
unsound-states = (refl, refl, refl, refl, refl, refl, refl, refl, refl, refl)

-- 64 comes first, and before it nothing; the memory's size is 65,536 exactly
pub order-64 : (offer_of (state 7 1 63 5 0) 8 0 65536 ≡ refuse 64 0) × (offer_of (state 7 1 9 5 0) 8 0 65535 ≡ refuse 64 0)
    × (offer_of (state 7 1 9 5 0) 8 0 65536 ≡ refuse 60 0) × (take_of open_state 65537 0 ≡ refuse 64 0) × (take_of open_state 65536 0 ≡ refuse 63 0)
    × (take_of (state 7 1 9 5 0) 65536 4 ≡ refuse 23 0) × (take_of (state 7 1 9 5 0) 65536 5 ≡ Ok 0)
unfolding all_upto used_below turn_of
order-64 = (refl, refl, refl, refl, refl, refl, refl)

-- slots that are held are given to no offer
pub first-free : (free_slot open_state ≡ 0) × (free_slot (state 7 1 0 5 0) ≡ 1) × (free_slot (state 7 1 9 5 0) ≡ 0)
unfolding seek used_below
first-free = (refl, refl, refl)
