-- The packets of a field at their limit (02, K13): the last that joins has the largest index, and one more makes the field overfull, with records
-- or without; 35's three cases of the packets. By computation.
use mathlib.Core.Path.{◌≡◌, refl}
use mathlib.Core.Bool.{Bool, true, false}
use mathlib.Core.List.{List, [], ◌∷◌}
use Prim.Native.Nat.{ℕ, ◌+◌}
use lib.ListN.{replicate}
use Rattle.wire_spec.specs.Cells.{cells_in, max_index}
use Rattle.wire_spec.specs.Anc.{Record}
use Rattle.wire_spec.specs.Packet.{Content}
use Rattle.wire_spec.specs.Writing.{max_field_packets}
use Rattle.wire_spec.proofs.Examples.{a}
use Rattle.depacketizer_spec.specs.declared.state.State.{State}
use Rattle.depacketizer_spec.specs.declared.state.Phase.{Phase}
use Rattle.depacketizer_spec.specs.declared.state.Phase.TheVariants as phase
use Rattle.depacketizer_spec.specs.declared.state.Answer.TheVariants as answer
use Rattle.depacketizer_spec.specs.Step.{Gathered, lost, ready, filling, carried, follow, appended, sound}

-- a packet of timestamp 1 and F 2
abbrev saying : (marker timestamp : ℕ) → List Record → Content
saying marker timestamp rs = record { source = 1; type = 112; marker = marker; number = 0; timestamp = timestamp; f = 2; records = rs }

-- so many packets gathered, none with a record
abbrev empty : ℕ → Gathered
empty n = filling 1 2 0 0 n

-- The 4,096th joins: unmarked, marked, and its record with the largest index. The 4,097th is overfull, with records or without; a field that
-- is ready has packet 0 next; another timestamp is mixed, also there.
pub limit : ((follow (empty max_index) (carried (saying 0 1 [])) 9).gathered ≡ empty max_field_packets)
    × ((follow (empty max_index) (carried (saying 1 1 [])) 9).answer
    ≡ answer.Whole (record { timestamp = record { 0 = 1 }; f = 2; records = 0; cells = 0; packets = max_field_packets }))
    × (appended true (empty max_index) (saying 1 1 (a ∷ [])) (replicate 9 7) ≡ cells_in max_index a)
    × ((follow (empty max_field_packets) (carried (saying 0 1 [])) 9).answer ≡ answer.Overfull)
    × ((follow (empty max_field_packets) (carried (saying 1 1 [])) 9).answer ≡ answer.Overfull)
    × ((follow (empty max_field_packets) (carried (saying 1 1 (a ∷ []))) 9).answer ≡ answer.Overfull)
    × ((follow (empty max_field_packets) (carried (saying 1 1 [])) 9).gathered ≡ ready)
    × ((follow (empty max_field_packets) (carried (saying 0 1 [])) 9).gathered ≡ lost)
    × ((follow (empty max_field_packets) (carried (saying 1 3 [])) 9).answer ≡ answer.Mixed)
    × (appended true ready (saying 1 1 (a ∷ [])) (replicate 9 7) ≡ cells_in 0 a)
limit = (refl, refl, refl, refl, refl, refl, refl, refl, refl, refl)

-- a state that heard a packet, with so many packets and nothing else gathered
abbrev with : Phase → (packets : ℕ) → State
with p n =
    record {
      source = 1;
      payload_type = 112;
      phase = p;
      heard = true;
      last = record { 0 = 0 };
      timestamp = record { 0 = 0 };
      f = 0;
      records = 0;
      cells = 0;
      packets = n;
      fresh = 0;
      late = 0;
      missing = 0;
      remembers = false;
      remembered = record { 0 = 0 };
    }

-- "35 also if the state says over 4,096 packets, none when filling or any when not"
pub unsound : (sound (with phase.Filling max_field_packets) 0 ≡ true)
    × (sound (with phase.Filling (max_field_packets + 1)) 0 ≡ false)
    × (sound (with phase.Filling 1) 0 ≡ true)
    × (sound (with phase.Filling 0) 0 ≡ false)
    × (sound (with phase.Ready 0) 0 ≡ true)
    × (sound (with phase.Ready 1) 0 ≡ false)
    × (sound (with phase.Lost 0) 0 ≡ true)
    × (sound (with phase.Lost 1) 0 ≡ false)
unsound = (refl, refl, refl, refl, refl, refl, refl, refl)
