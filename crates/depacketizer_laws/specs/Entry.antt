-- DEMAND 3 OF THE ENTRY POINTS: what `Depacketizer::open` and `Depacketizer::arrive` return, by their contracts, call after call.
use Rattle.wire_spec.specs.Result.{Result, Ok, Err}
use Rattle.std.specs.Prelude.{◌≡◌, List, [], ◌++◌, ◌↔◌, ℕ, ◌+◌, ◌-◌, ◌^◌, ◌≤◌, ◌<◌, min, length}
use Rattle.wire_spec.specs.Layout.{Layout}
use Rattle.depacketizer_spec.specs.declared.state.Phase.{Phase}
use Rattle.depacketizer_spec.specs.declared.state.Phase.TheVariants as phase
use Rattle.depacketizer_spec.specs.Step.{open_of, step}
use Rattle.depacketizer_spec.specs.Table.{no, Told}
use Rattle.depacketizer_spec.specs.Stream.{Stream, WellFormedStream, Call, Calls, none, ◌before◌, Proper, Near, Handed, handed_by, octets_of, layout_of, arrived, fresh, expected, span}
use Rattle.depacketizer.specs.declared.state.Depacketizer.{Depacketizer}
use Rattle.depacketizer.specs.declared.state.Arrival.{Arrival}
use Rattle.depacketizer.specs.Answers.{arrival_of, opened_of}

-- what `open` returns
abbrev pub opens : (source type : ℕ) → Result Depacketizer
opens source type = opened_of (open_of source type)

-- what `arrive` returns
abbrev pub arrives : Depacketizer → Layout → (octets store : List ℕ) → Arrival
arrives d L octets store = arrival_of (step d.state L octets store)

-- and what it leaves in the store
abbrev pub leaves : Depacketizer → Layout → (octets store : List ℕ) → List ℕ
leaves d L octets store = (step d.state L octets store).store

-- "Opened with source and payload type (24 if over 127)."
abbrev pub OpensExactly : Type 0
OpensExactly = (source type : ℕ) → (opens source type ≡ Err (no 24)) ↔ (127 < type)

-- THE TABLE OF AN ARRIVAL, of what `arrive` returns and leaves
abbrev pub ArrivesAsTold : Type 0
ArrivesAsTold = (d : Depacketizer) (L : Layout) (octets store : List ℕ) → d.state.last.0 < 2 ^ 32
    → Told d.state L octets store (record { answer = (arrives d L octets store).answer; state = (arrives d L octets store).state.state; store = leaves d L octets store })

-- "While the keeper is filling, a call is lent the store as the call before left it, ..; otherwise any store"
abbrev pub lent : Phase → (left offered : List ℕ) → List ℕ
lent phase.Lost left offered = offered
lent phase.Ready left offered = offered
lent phase.Filling left offered = left

-- What a caller has after some calls: the depacketizer that the last one returned, its store, and what was handed out.
pub record Kept : Type 0 where
  pub depacketizer : Depacketizer
  pub store : List ℕ
  pub handed : List Handed

-- "Each call gets the state that the call before returned": one call more
abbrev pub called : Stream → Kept → Call → Kept
called s r c =
    let L : Layout = layout_of s c.arriving in
    let o : List ℕ = octets_of s c.arriving in
    let t : List ℕ = lent r.depacketizer.state.phase r.store c.store in
    record {
      depacketizer = (arrives r.depacketizer L o t).state;
      store = leaves r.depacketizer L o t;
      handed = r.handed ++ handed_by (arrives r.depacketizer L o t).answer (leaves r.depacketizer L o t);
    }

abbrev pub calls : Stream → Depacketizer → Calls → Kept
calls s d none = record { depacketizer = d; store = []; handed = [] }
calls s d (cs before c) = called s (calls s d cs) c

-- Demand 3, of these
pub record Delivers (s : Stream) (cs : Calls) (r : Kept) : Type 0 where
  -- "A field is handed out exactly when all its packets, and the one sent just before them, are among the fresh arrivals: once, in sending order, as
  -- sent. Nothing else is handed out."
  pub handed : r.handed ≡ expected 0 s.fields (fresh cs)
  -- "The fresh count is the number of fresh arrivals."
  pub fresh_count : r.depacketizer.state.fresh ≡ length (fresh cs)
  -- "Fresh + missing = the sent packets from the first fresh arrival to the last, .."
  pub missing : r.depacketizer.state.fresh + r.depacketizer.state.missing ≡ span (fresh cs)
  -- "Late equals the arrivals of sent packets that aren't fresh, or 2^64 - 1 if they are more."
  pub late : r.depacketizer.state.late ≡ min (length (arrived cs) - length (fresh cs)) (2 ^ 64 - 1)

-- `open` of a stream's source and type returns a depacketizer, and `arrive`, called for each arrival, delivers
abbrev pub EntryDemand3 : Type 0
EntryDemand3 = (s : Stream) → WellFormedStream s → s.type ≤ 127
    → (d : Depacketizer) × (opens s.source s.type ≡ Ok d) × ((cs : Calls) → Proper s cs → Near cs → Delivers s cs (calls s d cs))
