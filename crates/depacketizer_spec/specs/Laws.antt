-- What 01 and 02 say of every arrival, over what `arrive` returns, in other words than the definition of a step.
use Rattle.std.specs.Prelude.{◌≡◌, Bool, true, false, List, ℕ, ◌+◌, ◌^◌, ◌%◌}
use Rattle.wire_spec.specs.declared.refusal.Refusal.{Refusal}
use Rattle.wire_spec.specs.Layout.{Layout}
use Rattle.wire_spec.specs.Cells.{all_below}
use Rattle.wire_spec.specs.Result.{Ok}
use Rattle.wire_spec.specs.Packet.{Content, read_content}
use Rattle.wire_spec.specs.Writing.{max_field_packets}
use Rattle.depacketizer_spec.specs.declared.state.State.{State}
use Rattle.depacketizer_spec.specs.declared.state.Phase.TheVariants as phase
use Rattle.depacketizer_spec.specs.declared.state.Answer.{Answer}
use Rattle.depacketizer_spec.specs.declared.state.Answer.TheVariants as answer
use Rattle.depacketizer_spec.specs.Step.{filling, Carried, follow, Step, step}
use Rattle.depacketizer_spec.specs.Stream.{is_last, Stream, nth, Arriving, packet, Calls, Handed, arrived, as_sent}

-- the answer to a fresh arrival is not a refusal
abbrev pub IsFresh : Answer → Type 0
IsFresh a = (x : Refusal) → a ≡ answer.Refused x → ⊥

-- "After any marked fresh arrival the keeper is ready; after an unmarked one that isn't held it is lost." The packet says `k`.
pub record PhaseAfter (k : Content) (x : Step) : Type 0 where
  pub marked : IsFresh x.answer → k.marker ≡ 1 → x.state.phase ≡ phase.Ready
  pub unmarked : IsFresh x.answer → k.marker ≡ 0 → (x.answer ≡ answer.Held → ⊥) → x.state.phase ≡ phase.Lost

-- "Any fresh arrival clears the memory" (02, K11); a far one is refused by 36, "and the number after it is remembered"; no other arrival changes it.
pub record MemoryAfter (st : State) (L : Layout) (octets : List ℕ) (x : Step) : Type 0 where
  pub fresh : IsFresh x.answer → x.state.remembers ≡ false
  pub far : (r : Refusal) → x.answer ≡ answer.Refused r → r.number ≡ 36 → (k : Content) → read_content L octets ≡ Ok k
      → (x.state.remembers ≡ true) × (x.state.remembered.0 ≡ (k.number + 1) % 2 ^ 32)
  pub other : (r : Refusal) → x.answer ≡ answer.Refused r → (r.number ≡ 36 → ⊥)
      → (x.state.remembers ≡ st.remembers) × (x.state.remembered ≡ st.remembered)

-- "Held and whole append their cells ..
abbrev pub appends : Answer → Bool
appends answer.Skipped = false
appends answer.Held = true
appends answer.Mixed = false
appends answer.Overfull = false
appends (answer.Whole x) = true
appends (answer.Refused x) = false

-- .. other answers write nothing.": the store as it was lent
abbrev pub StoreAfter : List ℕ → Step → Type 0
StoreAfter store x = appends x.answer ≡ false → x.store ≡ store

-- "a packet whose index would be larger, with records or without, makes the field overfull" (02, K13): whatever the packet carries, and whatever else is
-- gathered, where its timestamp and F are the field's
abbrev pub FullOfPackets : Type 0
FullOfPackets = (t f r c room : ℕ) (p : Carried) → t ≡ p.timestamp → f ≡ p.f → (follow (filling t f r c max_field_packets) p room).answer ≡ answer.Overfull

-- 35 lets a state pass with a store: no arrival is refused by it
abbrev pub Passes35 : State → List ℕ → Type 0
Passes35 st store = (L : Layout) (octets : List ℕ) (x : Refusal) → (step st L octets store).answer ≡ answer.Refused x → x.number ≡ 35 → ⊥

-- "A field is handed out by the answer whole to the fresh arrival of its last packet", "as sent": what arrives where `h` is handed out
pub record HandedAt (s : Stream) (cs : Calls) (a : Arriving) (h : Handed) : Type 0 where
  pub index : ℕ
  pub arrives : a ≡ packet index
  pub fresh : all_below index (arrived cs) ≡ true
  pub last : is_last (nth s index) ≡ true
  pub field : h ≡ as_sent (nth s index).field
