-- A file read in turns, each over the octets that are at hand: "files of any length" in constant memory.
use Rattle.std.specs.Prelude.{◌≡◌, ◌⊎◌, List, [], ◌∷◌, ◌++◌, ℕ, zero, suc, ◌-◌, ◌≤◌, length, drop}
use Rattle.wire_spec.specs.declared.refusal.Refusal.{Refusal}
use Rattle.wire_spec.specs.Layout.{Layout, rfc8331}
use Rattle.wire_spec.specs.Words.{header_numbers}
use Rattle.wire_spec.specs.Result.{Result, Err, Ok, no_refusal, judge, ◌then◌}
use Rattle.wire_spec.specs.Anc.{Record, anc_size, data_count, read_anc, read_run}
use Rattle.fieldfile_spec.specs.declared.format.Version.{Version}
use Rattle.fieldfile_spec.specs.File.{FieldContent, field_header_size, field_size, timestamp_field, file_f_field, count_field, field_header_checks, limit_checks, end_of_file, read_front, FileRead, no_field, field_then}

-- "Data_Count" carries an eight-bit number: the most user data words
abbrev pub most_words : ℕ
most_words = header_numbers - 1

-- octets of the largest ANC data packet
abbrev pub most_size : Layout → ℕ
most_size L = anc_size L most_words

-- the octets `w` are at hand of the octets `s` that are still to be read: at least `n`, or all that there are
pub record AtHand (n : ℕ) (w s : List ℕ) : Type 0 where
  pub behind : List ℕ
  pub starts : s ≡ w ++ behind
  pub enough : (n ≤ length w) ⊎ (behind ≡ [])

-- Where the reading of a file stands: before a field, or in its ANC data packets, with so many still to be read, behind the
-- records `before`
pub data State : Type 0 where
  between : Version → State
  within : (timestamp f left : ℕ) (before : List Record) → State

-- the field with such records
abbrev pub content : (timestamp f : ℕ) → List Record → FieldContent
content t f rs = record { timestamp = t; f = f; records = rs }

-- what is to come, over all the octets that are left: the next field and the octets behind it, or the refusal (54: "end of file")
unfoldable pub next : State → List ℕ → Result (FieldContent × List ℕ)
next (between v) [] = Err end_of_file
next (between v) (o ∷ s) =
    read_front v (o ∷ s) then λ k. Ok (k, drop (field_size v k.records) (o ∷ s))
next (within t f left before) s =
    read_run rfc8331 (length before) left s then
    λ q. judge 0 (limit_checks (before ++ q.0)) (Ok (content t f (before ++ q.0), q.1))

-- What one turn gives: the refusal, the field, or where the reading then stands, so many octets on.
pub data Turn : Type 0 where
  stops : Refusal → Turn
  gives : FieldContent → Turn
  goes : State → ℕ → Turn

-- a refusal stops
abbrev pub turn_of : Result Turn → Turn
turn_of (Err x) = stops x
turn_of (Ok t) = t

-- one turn over the octets at hand: a field's header, one ANC data packet, or the limits behind the last packet
unfoldable pub turn : State → List ℕ → Turn
turn (between v) [] = stops end_of_file
turn (between v) (o ∷ w) =
    turn_of
    (judge 0 (field_header_checks v (o ∷ w))
    (Ok (goes (within (timestamp_field (o ∷ w)) (file_f_field (o ∷ w)) (count_field v (o ∷ w)) []) (field_header_size v))))
turn (within t f zero before) w = turn_of (judge 0 (limit_checks before) (Ok (gives (content t f before))))
turn (within t f (suc n) before) w =
    turn_of
    (read_anc rfc8331 (length before) w then
    λ r. Ok (goes (within t f n (before ++ (r ∷ []))) (anc_size rfc8331 (data_count rfc8331 w))))

-- what a turn says of what is to come
abbrev pub after : Turn → List ℕ → Result (FieldContent × List ℕ)
after (stops x) s = Err x
after (gives k) s = Ok (k, s)
after (goes st used) s = next st (drop used s)

-- turns one after the other, each over any octets that are enough
pub data Turns : State → List ℕ → Result (FieldContent × List ℕ) → Type 0 where
  stopped : {st : State} {s w : List ℕ} {x : Refusal} → AtHand (most_size rfc8331) w s → turn st w ≡ stops x → Turns st s (Err x)
  given : {st : State} {s w : List ℕ} {k : FieldContent} → AtHand (most_size rfc8331) w s → turn st w ≡ gives k → Turns st s (Ok (k, s))
  went : {st to : State} {s w : List ℕ} {used : ℕ} {r : Result (FieldContent × List ℕ)} → AtHand (most_size rfc8331) w s → turn st w ≡ goes to used → Turns to (drop used s) r → Turns st s r

-- A whole file: its fields one after the other from the octets behind its head on; the first argument bounds how many there can be
abbrev pub onward : Result (FieldContent × List ℕ) → (List ℕ → FileRead) → FileRead
onward (Err x) more = no_field x
onward (Ok q) more = field_then q.0 (more q.1)

unfoldable pub fields_from : ℕ → Version → List ℕ → FileRead
fields_from zero v s = no_field no_refusal
fields_from (suc bound) v s = onward (next (between v) s) (λ rest. fields_from bound v rest)

-- what a program finds field by field, without a bound
pub data Reads (v : Version) : List ℕ → FileRead → Type 0 where
  ends : {s : List ℕ} {x : Refusal} → next (between v) s ≡ Err x → Reads v s (no_field x)
  follows : {s rest : List ℕ} {k : FieldContent} {r : FileRead} → next (between v) s ≡ Ok (k, rest) → Reads v rest r → Reads v s (field_then k r)

-- how many turns there can be before the next field or the refusal
abbrev pub turns_left : State → ℕ
turns_left (between v) = 65537
turns_left (within t f left before) = suc left
