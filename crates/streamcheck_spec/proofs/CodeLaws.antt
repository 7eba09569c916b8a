-- The code's step is the checker's: the same findings, and the same state.
-- By the records one by one, and then by 30 and 31.
use mathlib.Core.Path.{◌≡◌, refl, sym, subst, ◌∙◌}
use mathlib.Core.Bool.{Bool, true, false, cond, ◌&&◌, ◌||◌, or_assoc, or-false}
use mathlib.Core.List.{List, [], ◌∷◌, ◌++◌}
use Prim.Native.Nat.{ℕ, suc}
use lib.Dec.{eqb}
use Rattle.std.specs.Prelude.{Option, Some, None}
use Rattle.wire_spec.specs.Layout.{Layout}
use Rattle.wire_spec.specs.Result.{Result, Err, Ok, judge, ◌then◌}
use Rattle.wire_spec.specs.Anc.{Record}
use Rattle.wire_spec.specs.Packet.{Packet, content, read_packet}
use Rattle.anc_record.specs.declared.location.Line.{Line}
use Rattle.anc_record.specs.declared.location.Line.TheVariants as line
use Rattle.anc_record.specs.declared.location.Offset.{Offset}
use Rattle.anc_record.specs.declared.location.Offset.TheVariants as offset
use Rattle.anc_record.specs.Location.{line_of, line_number, offset_of, offset_number}
use Rattle.anc_record.specs.Header.{header_of}
use Rattle.anc_record.proofs.LocationLaws.{line-of-number, offset-of-number}
use Rattle.rtp_strict_reader.specs.declared.packet.Head.{Head}
use Rattle.rtp_strict_reader.specs.Answers.{head_of}
use Rattle.streamcheck_spec.specs.declared.checker.Checker.{Checker}
use Rattle.streamcheck_spec.specs.declared.checker.Step.{Step}
use Rattle.streamcheck_spec.specs.declared.place.Scan.{Scan}
use Rattle.streamcheck_spec.specs.Rules.{number_of}
use Rattle.streamcheck_spec.specs.Check.{origin_checks, admitted, is_line, is_offset, is_plain, is_lower, is_reserved, place_of, descends, place_after, is_gap, is_change, findings_of, carried, entries, report_from}
use Rattle.streamcheck_spec.specs.Code.{scan_of, past, past_place, past_plain, past_all, gap_in, change_in, source_in, type_in, sound_step, step_of, refused_step, findings_in, turn_by, turn}

-- past a record: by its numbers as by its place
past_by : (s : Scan) (a b : ℕ) (l : Line) (o : Offset) → line_number l ≡ a → offset_number o ≡ b
    → past_place s l o ≡ cond (is_line l && is_offset o) (past_plain s a b) s
past_by s a b (line.Number x) (offset.Number y) e d = rw (e, d)
past_by s a b (line.Number x) offset.Unspecified e d = refl
past_by s a b (line.Number x) offset.Horizontal e d = refl
past_by s a b (line.Number x) offset.SavToEav e d = refl
past_by s a b (line.Number x) offset.TooLarge e d = refl
past_by s a b line.Unspecified o e d = refl
past_by s a b line.Vertical o e d = refl
past_by s a b line.TooLarge o e d = refl

past-record : (s : Scan) (r : Record)
    → past s (header_of r).location ≡ cond (is_plain r.line r.offset) (past_plain s r.line r.offset) s
unfolding past is_plain
past-record s r = past_by s r.line r.offset (line_of r.line) (offset_of r.offset) (line-of-number r.line) (offset-of-number r.offset)

-- past a packet's records: whether one is out of order, and the last plain place
pub past_all_lem : (rs : List Record) (s : Scan)
    → ((past_all s rs).descends ≡ s.descends || descends s.place rs) × ((past_all s rs).place ≡ place_after s.place rs)
unfolding past_all descends place_after
past_all_lem [] s = (sym (or-false s.descends), refl)
past_all_lem (r ∷ rs) s =
    subst
    (λ (z : Scan).
    ((past_all z rs).descends
    ≡ s.descends || cond (is_plain r.line r.offset) (is_lower r.line r.offset s.place || descends (place_of r) rs) (descends s.place rs))
    × ((past_all z rs).place ≡ cond (is_plain r.line r.offset) (place_after (place_of r) rs) (place_after s.place rs)))
    (sym (past-record s r)) (go (λ (z : Scan). past_all_lem rs z) (is_plain r.line r.offset))
  where
    go : ((z : Scan) → ((past_all z rs).descends ≡ z.descends || descends z.place rs) × ((past_all z rs).place ≡ place_after z.place rs))
        → (t : Bool)
        → ((past_all (cond t (past_plain s r.line r.offset) s) rs).descends
        ≡ s.descends || cond t (is_lower r.line r.offset s.place || descends (place_of r) rs) (descends s.place rs))
        × ((past_all (cond t (past_plain s r.line r.offset) s) rs).place
        ≡ cond t (place_after (place_of r) rs) (place_after s.place rs))
    go below true =
        let z : Scan = past_plain s r.line r.offset in
        ((below z).0 ∙ or_assoc s.descends (is_lower r.line r.offset s.place) (descends (place_of r) rs), (below z).1)
    go below false = below s

-- the tests by a packet's numbers are those by the packet
gap-same : (last : Option Head) (k : Packet) → gap_in last (number_of k) ≡ is_gap last k
unfolding is_gap
gap-same None k = refl
gap-same (Some h) k = refl

change-same : (last : Option Head) (k : Packet) → change_in last k.timestamp k.f ≡ is_change last k
unfolding is_change
change-same None k = refl
change-same (Some h) k = refl

-- the same findings, and the same state
pub record Agrees (st : Checker) (answer : Result Packet) (t : Step) : Type 0 where
  pub findings : findings_in t.outcome ≡ findings_of st answer
  pub state : t.checker ≡ carried st answer

sound-agrees : (st : Checker) (k : Packet) → Agrees st (Ok k) (sound_step st (head_of (content k)) (is_reserved k) (past_all (scan_of st.place) k.records))
unfolding sound_step
sound-agrees st k =
    let e = past_all_lem k.records (scan_of st.place) in
    record { findings = rw (gap-same st.last k, change-same st.last k, e.0); state = rw e.1 }

step-agrees : (st : Checker) (k : Packet) (a b : Bool)
    → Agrees st (judge 0 ((a, 30) ∷ (b, 31) ∷ []) (Ok k))
    (cond a (cond b (sound_step st (head_of (content k)) (is_reserved k) (past_all (scan_of st.place) k.records)) (refused_step st 31)) (refused_step st 30))
step-agrees st k true true = sound-agrees st k
step-agrees st k true false = record { findings = refl; state = refl }
step-agrees st k false b = record { findings = refl; state = refl }

origin-agrees : (st : Checker) (last : Option Head) (k : Packet)
    → Agrees st (judge 0 (origin_checks last k) (Ok k))
    (cond (source_in last k.source) (cond (type_in last k.type) (sound_step st (head_of (content k)) (is_reserved k) (past_all (scan_of st.place) k.records)) (refused_step st 31)) (refused_step st 30))
origin-agrees st None k = sound-agrees st k
origin-agrees st (Some h) k = step-agrees st k (eqb k.source h.source) (eqb k.type h.payload_type)

pub turn-agrees : (L : Layout) (st : Checker) (octets : List ℕ) → Agrees st (admitted L st octets) (turn L st octets)
unfolding admitted turn step_of
turn-agrees L st octets = go (read_packet L octets)
  where
    go : (q : Result Packet) → Agrees st (q then λ k. judge 0 (origin_checks st.last k) (Ok k)) (turn_by st q)
    go (Err x) = record { findings = refl; state = refl }
    go (Ok k) = origin-agrees st st.last k

-- the report, turn by turn
pub report-turn : (L : Layout) (broken : Bool) (i : ℕ) (st : Checker) (p : List ℕ) (ps : List (List ℕ))
    → report_from L broken i st (p ∷ ps) ≡ entries i (findings_in (turn L st p).outcome) ++ report_from L broken (suc i) (turn L st p).checker ps
unfolding report_from
report-turn L broken i st p ps =
    let e = turn-agrees L st p in
    rw (e.findings, e.state)
