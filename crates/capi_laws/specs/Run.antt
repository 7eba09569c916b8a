-- DEMAND 3 OF THE C CALLS: `jibhotran_open`, and then `jibhotran_arrive` for each arrival, by their contracts.
use Rattle.std.specs.Prelude.{◌≡◌, cond, ◌&&◌, List, [], ◌∷◌, ◌++◌, ℕ, ◌+◌, ◌-◌, ◌^◌, ◌≤◌, min, eqb, length, take, get_or}
use Rattle.wire_spec.specs.Bits.{overwrite}
use Rattle.depacketizer_spec.specs.Stream.{Stream, WellFormedStream, Call, Calls, none, ◌before◌, Proper, Near, Handed, octets_of, layout_of, arrived, fresh, expected, span}
use Rattle.capi_state.specs.State.{state_in}
use Rattle.capi_answer.specs.Rows as rows
use Rattle.capi_answer.specs.Rows.{Reply}
use Rattle.capi_depacketizer.specs.Calls.{arrive, open_numbers, state_arrived, state_opened}

-- "While the keeper is filling, a call is lent the store as the call before left it, ..; otherwise any store": number 2 of a state's row is 2 when filling
abbrev pub lent : (row left offered : List ℕ) → List ℕ
lent row left offered = cond (eqb (get_or row 2 0) 2) left offered

-- "A field is handed out by the answer whole": the call returns 0 and the answer's row begins with 4, then timestamp, F, records, cells and packets
abbrev pub handed_out : Reply → List ℕ → List Handed
handed_out r store =
    cond (eqb r.number 0 && eqb (get_or r.row 0 0) 4)
    (record {
      timestamp = get_or r.row 1 0;
      f = get_or r.row 2 0;
      records = get_or r.row 3 0;
      cells = get_or r.row 4 0;
      packets = get_or r.row 5 0;
      content = take (get_or r.row 4 0) store;
    } ∷ [])
    []

-- A RUN OF CALLS, which leaves this row, this store, and has handed these fields out. Each call is lent a row of 15 numbers or more for the state, as the call
-- before left it, and one of 9 or more for the answer; layout 0 is RFC 8331's, 1 the drafts'.
pub data Ran (s : Stream) : Calls → (row store : List ℕ) → List Handed → Type 0 where
  opens : (row given : List ℕ) {row' : List ℕ} → 15 ≤ length row → 9 ≤ length given → row' ≡ overwrite (open_numbers s.source s.type row given) row
      → state_in row' ≡ state_opened s.source s.type row given → Ran s none row' [] []
  arrives : {cs : Calls} {row store : List ℕ} {handed : List Handed} {row' : List ℕ} → Ran s cs row store handed → (c : Call) (layout : ℕ) (given : List ℕ) → layout ≤ 1
      → rows.layout_of layout ≡ layout_of s c.arriving → 15 ≤ length row → 9 ≤ length given
      → row' ≡ overwrite (arrive layout row (octets_of s c.arriving) (lent row store c.store) given).numbers row
      → state_in row' ≡ state_arrived layout row (octets_of s c.arriving) (lent row store c.store) given
      → Ran s (cs before c) row' (arrive layout row (octets_of s c.arriving) (lent row store c.store) given).store
      (handed ++ handed_out (arrive layout row (octets_of s c.arriving) (lent row store c.store) given).reply (arrive layout row (octets_of s c.arriving) (lent row store c.store) given).store)

-- Demand 3 of it: the counts are numbers 9, 10 and 11 of the row
pub record Delivers (s : Stream) (cs : Calls) (row : List ℕ) (out : List Handed) : Type 0 where
  pub handed : out ≡ expected 0 s.fields (fresh cs)
  pub fresh_count : get_or row 9 0 ≡ length (fresh cs)
  pub missing : get_or row 9 0 + get_or row 11 0 ≡ span (fresh cs)
  pub late : get_or row 10 0 ≡ min (length (arrived cs) - length (fresh cs)) (2 ^ 64 - 1)

abbrev pub CallsDemand3 : Type 0
CallsDemand3 = (s : Stream) → WellFormedStream s → s.type ≤ 127 → (cs : Calls) → Proper s cs → Near cs → (row store : List ℕ) (handed : List Handed)
    → Ran s cs row store handed → Delivers s cs row handed
