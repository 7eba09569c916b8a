-- The outlet as 02, K10 says it: eight queues of packets, and the channel at which the next take starts.
use Rattle.std.specs.Prelude.{cond, ◌&&◌, List, [], ◌∷◌, ◌++◌, ℕ, zero, suc, ◌*◌, eqb, leb, ltb, length}
use Rattle.wire_spec.specs.declared.refusal.Refusal.{Refusal}
use Rattle.wire_spec.specs.Result.{Result, Err, Ok, refuse, Checks, judge, ◌then◌}

-- "Eight channels share an outlet of 64 slots of 1,024 octets in lent memory, at most eight held by each channel."
abbrev pub channels : ℕ
channels = 8

abbrev pub max_held : ℕ
max_held = 8

abbrev pub slot_count : ℕ
slot_count = 64

abbrev pub slot_size : ℕ
slot_size = 1024

-- "64 lent memory not 65,536 octets"
abbrev pub memory_size : ℕ
memory_size = slot_count * slot_size

-- "60 channel over 7"
abbrev pub last_channel : ℕ
last_channel = 7

-- the packets of each channel, its head first
abbrev pub Queues : Type 0
Queues = ℕ → List (List ℕ)

-- and the channel that a take looks at first
pub record Model : Type 0 where
  pub queue : Queues
  pub next : ℕ

-- "an outlet just opened, empty"; "at first with 0"
abbrev pub opened : Model
opened = record { queue = λ c. []; next = 0 }

-- one queue changed
abbrev pub replaced : Queues → ℕ → List (List ℕ) → Queues
replaced q c l = λ d. cond (eqb d c) l (q d)

-- the one behind `c` in a circle of eight: of the channels, and of a channel's places
abbrev pub behind : ℕ → ℕ
behind c = cond (ltb c last_channel) (suc c) 0

-- "60 channel over 7; 61 empty or over 1,024 octets; 62 that channel holds eight"
abbrev pub offer_checks : (channel size held : ℕ) → Checks
offer_checks c n h = (leb c last_channel, 60) ∷ (leb 1 n && leb n slot_size, 61) ∷ (ltb h max_held, 62) ∷ []

-- "first in first out within a channel": a packet comes behind its channel's last
abbrev pub joined : Model → ℕ → List ℕ → Model
joined m c p = record { queue = replaced m.queue c (m.queue c ++ (p ∷ [])); next = m.next }

-- "An offer is copied in or refused"
abbrev pub offer : Model → ℕ → List ℕ → Result Model
offer m c p = judge 0 (offer_checks c (length p) (length (m.queue c))) (Ok (joined m c p))

-- a channel's turn: its head, and what is behind it
pub record Turn : Type 0 where
  pub channel : ℕ
  pub packet : List ℕ
  pub rest : List (List ℕ)

-- "passing over empty ones"
abbrev pub turn_at : ℕ → List (List ℕ) → Result Turn → Result Turn
turn_at c [] r = r
turn_at c (p ∷ ps) r = Ok (record { channel = c; packet = p; rest = ps })

-- "the channels in a circle": the first of `n` channels from `c` on that holds a packet; "63 nothing waits"
abbrev pub turn : ℕ → Queues → ℕ → Result Turn
turn zero q c = refuse 63 0
turn (suc n) q c = turn_at c (q c) (turn n q (behind c))

-- 23 where the `room` octets lent are too few
abbrev pub hand_out : ℕ → Turn → Result Turn
hand_out room t = judge 0 ((leb (length t.packet) room, 23) ∷ []) (Ok t)

-- "a take hands out one packet"
abbrev pub take : Model → ℕ → Result Turn
take m room = turn channels m.queue m.next then hand_out room

-- the head has left, and the next take starts "after the one served last"
abbrev pub without : Model → Turn → Model
without m t = record { queue = replaced m.queue t.channel t.rest; next = behind t.channel }

-- A call: a packet offered to a channel, or a take with these octets lent.
pub data Call : Type 0 where
  offering : ℕ → List ℕ → Call
  taking : List ℕ → Call

-- What a caller is answered: a packet is handed out with its channel.
pub data Answer : Type 0 where
  copied : Answer
  handed : ℕ → List ℕ → Answer
  no : Refusal → Answer

pub record Step : Type 0 where
  pub model : Model
  pub answer : Answer

-- "A refusal changes nothing."
abbrev pub after_offer : Model → Result Model → Step
after_offer m (Err x) = record { model = m; answer = no x }
after_offer m (Ok n) = record { model = n; answer = copied }

abbrev pub after_take : Model → Result Turn → Step
after_take m (Err x) = record { model = m; answer = no x }
after_take m (Ok t) = record { model = without m t; answer = handed t.channel t.packet }

abbrev pub step : Model → Call → Step
step m (offering c p) = after_offer m (offer m c p)
step m (taking out) = after_take m (take m (length out))

-- what is left after the calls, in order
abbrev pub after : Model → List Call → Model
after m [] = m
after m (x ∷ xs) = after (step m x).model xs

-- what they are answered
abbrev pub answers : Model → List Call → List Answer
answers m [] = []
answers m (x ∷ xs) = (step m x).answer ∷ answers (step m x).model xs
