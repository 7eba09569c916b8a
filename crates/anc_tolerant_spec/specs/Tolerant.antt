-- The tolerant way of reading (02, K9): "a record that fails only its checksum is left out and counted, the rest come through in order".
use Rattle.std.specs.Prelude.{◌≡◌, Bool, true, false, not, cond, ◌⊎◌, List, [], ◌∷◌, ℕ, zero, suc, ◌+◌, ◌<◌, eqb, leb, length, take, drop}
use Rattle.wire_spec.specs.Layout.{Layout, least_size}
use Rattle.wire_spec.specs.Result.{Result, Ok, Checks, judge, ◌then◌}
use Rattle.wire_spec.specs.Anc.{Record, data_count, anc_size, anc_record, headers_ok, r_ok, words_ok, checksum_ok, alignment_ok, behind}
use Rattle.wire_spec.specs.Cells.{list_of}
use Rattle.wire_spec.specs.Packet.{length_field, anc_count, run_at, packet_read, header_checks, padding_checks, payload_checks, Content, content}
use Rattle.wire_spec.specs.Order.{Faults, Among, anc_faults, RefusedBy}

-- another number than 11
abbrev pub is_not11 : ℕ → Bool
is_not11 n = not (eqb n 11)

-- the checks of a packet but 11: "11 isn't given in the tolerant way, and 12 still is for every record"
unfoldable pub tolerant_checks : Layout → List ℕ → Checks
tolerant_checks L s =
    (leb (least_size L) (length s), 9)
    ∷ (headers_ok L s, 10)
    ∷ (leb (anc_size L (data_count L s)) (length s), 9)
    ∷ (r_ok L s, 15)
    ∷ (words_ok L s, 16)
    ∷ (alignment_ok L s, 12)
    ∷ []

-- What a run gives: the records that come through, how many were left out, and the octets behind the run.
pub record Taken : Type 0 where
  pub records : List Record
  pub left_out : ℕ
  pub rest : List ℕ

-- a packet whose checksum holds comes through, and another is left out and counted
abbrev pub through : Bool → Record → Taken → Taken
through true r q = record { records = r ∷ q.records; left_out = q.left_out; rest = q.rest }
through false r q = record { records = q.records; left_out = suc q.left_out; rest = q.rest }

-- `n` packets at the front of the octets `s`, the first with index `i`
unfoldable pub tolerate_run : Layout → ℕ → ℕ → List ℕ → Result Taken
tolerate_run L i zero s = Ok (record { records = []; left_out = 0; rest = s })
tolerate_run L i (suc n) s =
    judge i (tolerant_checks L s)
    (tolerate_run L (i + 1) n (behind L s) then λ q. Ok (through (checksum_ok L s) (anc_record L s) q))

-- What a packet gives: what it says, with the records that came through, and how many were left out.
pub record Tolerated : Type 0 where
  pub says : Content
  pub left_out : ℕ

-- 13 as in the strict way, of what a run gave
unfoldable pub tolerated : Layout → List ℕ → Taken → Result Tolerated
tolerated L s q =
    judge 0 ((eqb (length q.rest) 0, 13) ∷ [])
    (Ok (record { says = content (packet_read L q.records s); left_out = q.left_out }))

-- a packet, in 01's "Order of reading"
unfoldable pub tolerate_content : Layout → List ℕ → Result Tolerated
tolerate_content L s =
    judge 0 (header_checks s)
    (judge 0 (padding_checks L s)
    (judge 0 (payload_checks L s)
    (tolerate_run L 0 (anc_count s) (take (length_field s) (drop (run_at L s) s)) then tolerated L s)))

-- "14 goes by the records that come through"
unfoldable pub tolerate_into : Layout → List ℕ → ℕ → Result Tolerated
tolerate_into L s room =
    tolerate_content L s then λ t. judge 0 ((leb (length (list_of t.says.records)) room, 14) ∷ []) (Ok t)

-- 01's table and order without 11: "11 isn't given in the tolerant way, and 12 still is for every record"
abbrev pub without : ℕ → Faults → Faults
without n [] = []
without n (f ∷ fs) = cond (eqb f.0 n) (without n fs) (f ∷ without n fs)

abbrev pub tolerant_faults : Layout → List ℕ → Faults
tolerant_faults L s = without 11 (anc_faults L s)

-- The octets `s` are refused in the tolerant way with the number `n` and the index `i`; 14 last, "by the records that come through".
abbrev pub ToleratedNot : Layout → List ℕ → (room n i : ℕ) → Type 0
ToleratedNot L s room n i =
    RefusedBy tolerant_faults L s n i
    ⊎ ((t : Tolerated) × (tolerate_content L s ≡ Ok t) × (room < length (list_of t.says.records)) × (n ≡ 14) × (i ≡ 0))

-- the index of a refusal: the ANC packet's for 9, 10, 12, 15 and 16, otherwise 0
abbrev pub TolerantIndex : (count n i : ℕ) → Type 0
TolerantIndex count n i =
    (Among (9 ∷ 10 ∷ 12 ∷ 15 ∷ 16 ∷ []) n × (i < count)) ⊎ (Among (1 ∷ 2 ∷ 3 ∷ 4 ∷ 5 ∷ 6 ∷ 7 ∷ 8 ∷ 13 ∷ 14 ∷ []) n × (i ≡ 0))
