-- A RUN of a program over items: it takes item after item, writes the text that waits, and reads more, until the input ends or nothing more is taken.
-- Said once for any such program (`Program`), whatever it prints.
use Rattle.std.specs.Prelude.{◌≡◌, Bool, true, false, List, [], ◌++◌, ℕ, ◌+◌, ◌-◌, ◌<◌, ◌≤◌, pos, length, drop}
use Rattle.wire_spec.specs.declared.refusal.Refusal.{Refusal}
use Rattle.wire_spec.specs.Bits.{overwrite}
use Rattle.program_spec.specs.declared.buffers.Buffers.{Buffers}
use Rattle.program_spec.specs.declared.buffers.Step.{Step as Answer}
use Rattle.program_spec.specs.declared.buffers.Step.TheVariants as answer
use Rattle.program_spec.specs.Buffers as buffers
use Rattle.program_spec.specs.Buffers.{Begins, Flushed, ReadMore, Refilled, advanced, ended, is_done}
use Rattle.program_spec.specs.Turns.{Turning, Passed, LastTurn, max_turns, turns_of}
use Rattle.program_spec.specs.Walk.{Front, short, taken, over, Program, walk}

-- WHERE A PROGRAM STANDS between two turns: what it carries, its places, and what its buffers hold
pub record At (S : Type 0) : Type 0 where
  pub state : S
  pub buffers : Buffers
  pub input : List ℕ
  pub out : List ℕ

abbrev pub at : {S : Type 0} → S → Buffers → (input out : List ℕ) → At S
at s b input out = record { state = s; buffers = b; input = input; out = out }

module _ {S : Type 0} where
  -- the octets that were read and are not used yet, the text that is still to be written, and the octets that are free for more
  abbrev pub unused : At S → List ℕ
  unused a = buffers.unused a.buffers a.input

  abbrev pub unwritten : At S → List ℕ
  unwritten a = buffers.unwritten a.buffers a.out

  abbrev pub free : At S → ℕ
  free a = length a.out - a.buffers.filled

  abbrev pub InBounds : At S → Type 0
  InBounds a = buffers.InBounds a.buffers (length a.input) (length a.out)

  -- what is read and written from one of these to the next
  abbrev pub read_in : (before after : At S) → List ℕ
  read_in a b = buffers.read_in a.buffers b.buffers b.input

  abbrev pub written_in : (before after : At S) → List ℕ
  written_in a b = buffers.written_in a.buffers b.buffers a.out

  -- the text `t` of an item of `n` octets is put, and the item used
  pub record ItemTaken (a : At S) (n : ℕ) (t : List ℕ) (b : At S) : Type 0 where
    pub filled : b.buffers.filled ≡ a.buffers.filled + length t
    pub text : unwritten b ≡ unwritten a ++ t
    pub octets : unused b ≡ drop n (unused a)
    pub goes_on : b.buffers.«open» ≡ true

  -- none is put: the text that waits is as it was
  abbrev pub NoneTaken : (a b : At S) → Type 0
  NoneTaken a b = buffers.unwritten a.buffers b.out ≡ unwritten a

-- one turn, by whether there is room and by what stands at the front. Without room text waits, and is written; where nothing more is taken the text is
-- written, and the run ends
abbrev pub Step : {S : Type 0} → Bool → Front S → (before after : At S) → Type 0
Step false f a b = (b.state ≡ a.state) × NoneTaken a b × Flushed a.buffers b.buffers × (b.input ≡ a.input) × (0 < a.buffers.filled)
Step true short a b = (b.state ≡ a.state) × NoneTaken a b × Refilled a.buffers a.input b.buffers b.input
Step true (over z) a b = (b.state ≡ z) × NoneTaken a b × Flushed (ended a.buffers a.buffers.filled) b.buffers × (b.input ≡ a.input)
Step true (taken n t z) a b = (b.state ≡ z) × ItemTaken a n t b

module _ (P : Program) where
  pub record Turned (a b : At P.State) : Type 0 where
    pub bounds : InBounds b
    pub step : Step (P.room a.state (free a)) (P.front a.state (unused a)) a b

  abbrev pub turning : Turning
  turning =
      record {
        Read = List ℕ;
        none = [];
        join = λ (r g : List ℕ). r ++ g;
        At = At P.State;
        is_open = λ (a : At P.State). a.buffers.«open»;
        Turn = Turned;
        read_in = λ (a b : At P.State). read_in a b;
        written_in = λ (a b : At P.State). written_in a b;
      }

  -- at the start nothing is read, and the first text is to be written
  pub record Started (s₀ : P.State) (a : At P.State) : Type 0 where
    pub state : a.state ≡ s₀
    pub bounds : buffers.InBounds a.buffers 0 (length a.out)
    pub text : unwritten a ≡ P.first
    pub goes_on : a.buffers.«open» ≡ true

  -- the last text is put and written, where the input has ended and all else is written
  pub record LastText (a : At P.State) (ready r : Buffers) (out' : List ℕ) : Type 0 where
    pub octets : out' ≡ overwrite (P.closing a.state (unused a)) a.out
    pub text : buffers.unwritten ready out' ≡ P.closing a.state (unused a)
    pub flushed : Flushed ready r

  abbrev pub Closing : Bool → (a : At P.State) (ready r : Buffers) (out' : List ℕ) → Type 0
  Closing false a ready r out' = (ready ≡ a.buffers) × (r ≡ a.buffers) × (out' ≡ a.out)
  Closing true a ready r out' = LastText a ready r out'

  pub record Closed (a : At P.State) (r : Buffers) (out' : List ℕ) : Type 0 where
    pub ready : Buffers
    pub step : Closing (is_done a.buffers) a ready r out'

  -- WHY A RUN IS DONE: a read answered 0, as it does at the end of the input, or nothing more is taken
  pub data Stops (a b : At P.State) : Type 0 where
    at-end : (m : Buffers) → Flushed a.buffers m → (x : ReadMore m a.input b.buffers b.input) → x.answer ≡ pos 0 → Stops a b
    is-over : (z : P.State) → P.front a.state (unused a) ≡ over z → Stops a b

-- THE WHOLE RUN of a program whose output is `whole`, which leaves the buffers `after`. It goes on until the
-- input ends, nothing more is taken, a read or a write fails, or no turn is left. What was written is what
-- the output begins with, whatever is still to be read; and if the run is done, all was written, with the
-- last text, and it is the output for what was read, which was all. The text that waits comes next, and at
-- the end of the input the last text: a write that fails part-way has written a beginning of them, so that a
-- file on a full disk is a beginning of the file
pub record Ended (P : Program) (whole : List ℕ → List ℕ) (s₀ : P.State) (before : At P.State)
    (out' : List ℕ) (after : Buffers) : Type 0 where
  pub from : At P.State
  pub starts : Started P s₀ from
  pub read : List ℕ
  pub written : List ℕ
  pub passed : Passed (turning P) from read written before
  pub closed : Closed P before after out'
  pub ends : before.buffers.«open» ≡ true → turns_of (turning P) passed ≡ max_turns
  pub begins : (unread : List ℕ) → Begins (whole (read ++ unread)) written
  pub waits : (unread : List ℕ) → Begins (whole (read ++ unread)) (written ++ unwritten before)
  pub but_last : is_done before.buffers ≡ true → written ++ P.closing before.state (unused before) ≡ whole read
  pub last-waits : is_done before.buffers ≡ true → written ++ buffers.unwritten closed.ready out' ≡ whole read
  pub complete : is_done after ≡ true → written ++ buffers.written_in closed.ready after out' ≡ whole read
  pub carries : is_done after ≡ true → P.last before.state (unused before) ≡ (walk P s₀ read).state
  pub stops : is_done after ≡ true → LastTurn (turning P) (Stops P) passed

-- 23: "lent octets too few"
abbrev pub room_too_small : Refusal
room_too_small = record { number = 23; index = 0 }

-- the answer for the item at the front, by the room; what is then carried; and what the octets that were lent hold
abbrev pub answer_of : {S : Type 0} → Bool → Front S → Answer
answer_of false f = answer.Refused room_too_small
answer_of true short = answer.Short
answer_of true (over z) = answer.Over
answer_of true (taken n t z) = answer.Taken n (length t)

abbrev pub state_after : {S : Type 0} → Bool → S → Front S → S
state_after false s f = s
state_after true s short = s
state_after true s (over z) = z
state_after true s (taken n t z) = z

abbrev pub octets_after : {S : Type 0} → Bool → Front S → List ℕ → List ℕ
octets_after false f out = out
octets_after true short out = out
octets_after true (over z) out = out
octets_after true (taken n t z) out = overwrite t out

-- what is counted lies in the octets and in the room that were lent; without a whole item there are fewer octets than the longest has
abbrev pub Fits : Answer → (most octets out : ℕ) → Type 0
Fits (answer.Taken used size) most octets out = (used ≤ octets) × (size ≤ out)
Fits answer.Short most octets out = octets < most
Fits answer.Over most octets out = Unit {0}
Fits (answer.Refused x) most octets out = Unit {0}

-- WHAT AN ENTRY POINT ANSWERS for the item at the front of these octets, where so many are lent for its text; the longest item has `most`
pub record Answers (P : Program) (most : ℕ) (s : P.State) (octets out : List ℕ) (y : Answer) (s' : P.State) (out' : List ℕ) : Type 0 where
  pub answer : y ≡ answer_of (P.room s (length out)) (P.front s octets)
  pub state : s' ≡ state_after (P.room s (length out)) s (P.front s octets)
  pub text : out' ≡ octets_after (P.room s (length out)) (P.front s octets) out
  pub fits : Fits y most (length octets) (length out)

-- WHAT A TURN NEEDS of its buffers: the input holds the longest item, and all of the text's octets are room for what the next item can give
pub record Holds (P : Program) (most : ℕ) (s : P.State) (input out : ℕ) : Type 0 where
  pub item : most ≤ input
  pub text : P.room s out ≡ true

-- so it is of a place, by the session and the cells that are carried there, and the program can take an item with them
abbrev pub Ready : (P : Program) (most : ℕ) {S : Type 0} (carried : S → List ℕ → P.State) (can_take : S → List ℕ → Type 0)
    (input store out : ℕ) → At P.State → Type 0
Ready P most {S} carried can_take input store out here =
    (session : S) (cells : List ℕ) → length cells ≡ store → here.state ≡ carried session cells
    → Holds P most here.state input out × can_take session cells

-- what `after_step` asks of the places, and what it then does with an answer
abbrev pub CanStep : Answer → Buffers → (input out : ℕ) → Type 0
CanStep (answer.Taken used size) b input out = (b.at + used ≤ b.end) × (b.filled + size ≤ out)
CanStep answer.Short b input out = b.end - b.at < input
CanStep answer.Over b input out = Unit {0}
CanStep (answer.Refused x) b input out = Unit {0}

abbrev pub Stepped : Answer → Buffers → List ℕ → Buffers → List ℕ → Type 0
Stepped (answer.Taken used size) b input r input' = (r ≡ advanced b used size) × (input' ≡ input)
Stepped answer.Short b input r input' = Refilled b input r input'
Stepped answer.Over b input r input' = Flushed (ended b b.filled) r × (input' ≡ input)
Stepped (answer.Refused x) b input r input' = Flushed b r × (input' ≡ input)
