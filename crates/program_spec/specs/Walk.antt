-- A program that takes items from the front of its input: each gives a text, and what is carried on. Its output, as a definition over all of the input.
use Rattle.std.specs.Prelude.{◌≡◌, Bool, List, [], ◌++◌, ℕ, zero, suc, ◌≤◌, ◌<◌, length, drop}

-- What stands at the front: no whole item; one of so many octets, with the text that it gives and what is carried on; or nothing more is taken.
pub data Front (S : Type 0) : Type 0 where
  short : Front S
  taken : (used : ℕ) (text : List ℕ) (next : S) → Front S
  over : (next : S) → Front S

-- what is carried; whether so many octets are room for what the next item can give; what stands at the front; the first text; and, where the octets end with
-- these left, the last text and what is carried at last
pub record Program : Type 1 where
  pub State : Type 0
  pub room : State → ℕ → Bool
  pub front : State → List ℕ → Front State
  pub first : List ℕ
  pub closing : State → List ℕ → List ℕ
  pub last : State → List ℕ → State

-- the texts joined, and what is carried at last
pub record Walked (S : Type 0) : Type 0 where
  pub text : List ℕ
  pub state : S

module _ (P : Program) where
  -- the item at the front, and then those of the rest
  abbrev pub onward : (P.State → List ℕ → Walked P.State) → P.State → List ℕ → Front P.State → Walked P.State
  onward next s o short = record { text = P.closing s o; state = P.last s o }
  onward next s o (over z) = record { text = P.closing z []; state = z }
  onward next s o (taken n t z) = record { text = t ++ (next z (drop n o)).text; state = (next z (drop n o)).state }

  -- the first `most` items
  unfoldable pub walk_in : (most : ℕ) → P.State → List ℕ → Walked P.State
  walk_in zero s o = record { text = []; state = s }
  walk_in (suc m) s o = onward (walk_in m) s o (P.front s o)

  -- ALL ITEMS: each has an octet at the least
  abbrev pub walk : P.State → List ℕ → Walked P.State
  walk s o = walk_in (suc (length o)) s o

  -- THE OUTPUT
  abbrev pub output : P.State → List ℕ → List ℕ
  output s o = P.first ++ (walk s o).text

  -- nothing more is ever taken
  pub record Stays (z : P.State) : Type 0 where
    pub front : (o : List ℕ) → P.front z o ≡ over z
    pub closing : (o : List ℕ) → P.closing z o ≡ P.closing z []
    pub last : (o : List ℕ) → P.last z o ≡ z

  -- an item lies in the octets; octets behind it change nothing of it; and what is over stays over
  pub record Lawful : Type 0 where
    pub some : (s : P.State) (o : List ℕ) (n : ℕ) (t : List ℕ) (z : P.State) → P.front s o ≡ taken n t z → 0 < n
    pub inside : (s : P.State) (o : List ℕ) (n : ℕ) (t : List ℕ) (z : P.State) → P.front s o ≡ taken n t z → n ≤ length o
    pub taken-longer : (s : P.State) (o more : List ℕ) (n : ℕ) (t : List ℕ) (z : P.State) → P.front s o ≡ taken n t z → P.front s (o ++ more) ≡ taken n t z
    pub stays : (s : P.State) (o : List ℕ) (z : P.State) → P.front s o ≡ over z → Stays z
    pub over-longer : (s : P.State) (o more : List ℕ) (z : P.State) → P.front s o ≡ over z → P.front s (o ++ more) ≡ over z
