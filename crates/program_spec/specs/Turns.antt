-- A RUN IN TURNS, of any program: the pieces that it read and the texts that it wrote, each joined.
use Rattle.std.specs.Prelude.{◌≡◌, Bool, true, List, [], ◌++◌, ℕ, ◌+◌, ◌-◌, ◌^◌, ◌<◌}

-- A PROGRAM IN TURNS: what it reads, the octets of a file or of each of two; where it stands between two turns; whether it goes on; what a turn does, and
-- what is read and written in it
pub record Turning : Type 1 where
  pub Read : Type 0
  pub none : Read
  pub join : Read → Read → Read
  pub At : Type 0
  pub is_open : At → Bool
  pub Turn : (before after : At) → Type 0
  pub read_in : (before after : At) → Read
  pub written_in : (before after : At) → List ℕ

module _ (T : Turning) where
  pub data Passed (from : T.At) : (read : T.Read) (written : List ℕ) (here : T.At) → Type 0 where
    started : Passed from T.none [] from
    turned : {read : T.Read} {written : List ℕ} {a b : T.At} → Passed from read written a → T.is_open a ≡ true → T.Turn a b
        → Passed from (T.join read (T.read_in a b)) (written ++ T.written_in a b) b

  -- the turns that were made
  abbrev pub turns_of : {from : T.At} {read : T.Read} {written : List ℕ} {here : T.At} → Passed from read written here → ℕ
  turns_of started = 0
  turns_of (turned p o t) = turns_of p + 1

  -- the last of them was such a turn
  abbrev pub LastTurn : ((before after : T.At) → Type 0) → {from : T.At} {read : T.Read} {written : List ℕ} {here : T.At} → Passed from read written here → Type 0
  LastTurn Q started = ⊥
  LastTurn Q (turned {a = a} {b = b} p o t) = Q a b

-- and the most that are: a proved loop ends, and nothing says that a stream does
abbrev pub max_turns : ℕ
max_turns = 2 ^ 64 - 1

-- a run of so many turns at the most
module _ (T : Turning) (most : ℕ) (from : T.At) where
  -- wherever it is while a turn is left, this holds
  abbrev pub Lasts : (T.At → Type 0) → Type 0
  Lasts Q = (read : T.Read) (written : List ℕ) (here : T.At) (p : Passed T from read written here) → turns_of T p < most → Q here

  -- IT HAS STOPPED: it does not go on, or no turn is left
  pub record Stopped (here : T.At) : Type 0 where
    pub read : T.Read
    pub written : List ℕ
    pub passed : Passed T from read written here
    pub ends : T.is_open here ≡ true → turns_of T passed ≡ most
