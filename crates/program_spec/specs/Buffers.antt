-- What a program holds of its input and of its text between its calls, and what each of them makes of it.
-- No contract of the libraries says what the operating system's calls do, so two things are assumed here: that a write which does not
-- fail writes what it is passed, and that a read puts the next octets of the input, as many as it answers, where it is told to.
use Rattle.std.specs.Prelude.{◌≡◌, Bool, true, false, cond, not, ◌&&◌, ◌||◌, List, Option, Some, None, ℕ, ◌+◌, ◌-◌, ◌≤◌, eqb, ltb, ℤ, pos, negsuc, length, take, drop}
use Rattle.std.specs.Int.Signed.{lt_z}
use Rattle.program_spec.specs.declared.buffers.Buffers.{Buffers}
use Rattle.program_spec.specs.declared.buffers.Failure.{Failure}
use Rattle.program_spec.specs.declared.buffers.Failure.TheVariants as failure

-- the places lie in buffers of so many octets
abbrev pub InBounds : Buffers → (input out : ℕ) → Type 0
InBounds b input out = (b.at ≤ b.end) × (b.end ≤ input) × (b.filled ≤ out)

-- the octets that were read and are not used yet
abbrev pub unused : Buffers → List ℕ → List ℕ
unused b input = take (b.end - b.at) (drop b.at input)

-- the text that is still to be written
abbrev pub unwritten : Buffers → List ℕ → List ℕ
unwritten b out = take b.filled out

-- WHAT IS READ from one of these to the next: it stands behind what was left
abbrev pub read_in : (before after : Buffers) → List ℕ → List ℕ
read_in b r input = drop (b.end - b.at) (unused r input)

-- WHAT IS WRITTEN: it waited, and no longer does
abbrev pub written_in : (before after : Buffers) → List ℕ → List ℕ
written_in b r out = take (b.filled - r.filled) out

-- the input has ended, no read and no write failed, and no text waits
abbrev pub is_done : Buffers → Bool
is_done b = not (b.«open» || b.failed) && eqb b.filled 0

-- WHICH CALL FAILED, by the text that waits: a write that fails leaves its text waiting, and nothing is read
-- while any waits
abbrev pub failure_of : Buffers → Option Failure
failure_of b = cond b.failed (Some (cond (eqb b.filled 0) failure.Read failure.Write)) None

-- a list begins with another
abbrev pub Begins : List ℕ → List ℕ → Type 0
Begins l first = take (length first) l ≡ first

-- before anything is read, with so much text to be written
abbrev pub begun : (filled : ℕ) → Buffers
begun n = record { at = 0; end = 0; filled = n; «open» = true; failed = false }

-- behind an item of `used` octets, with `size` octets of text
abbrev pub advanced : Buffers → (used size : ℕ) → Buffers
advanced b used size = record { at = b.at + used; end = b.end; filled = b.filled + size; «open» = true; failed = false }

-- nothing more is to come, with so much text to be written
abbrev pub ended : Buffers → (filled : ℕ) → Buffers
ended b n = record { at = b.at; end = b.end; filled = n; «open» = false; failed = b.failed }

-- the text is written: none waits any more; where the write failed all of it still does, and the run ends
pub record Flushed (b r : Buffers) : Type 0 where
  pub written : Bool
  pub at : r.at ≡ b.at
  pub end : r.end ≡ b.end
  pub filled : r.filled ≡ cond written 0 b.filled
  pub goes_on : r.«open» ≡ (written && b.«open»)
  pub fails : r.failed ≡ (not written || b.failed)

-- the octets that a read says it put: none where it failed
abbrev pub Count : ℤ → ℕ → Type 0
Count (pos k) n = n ≡ k
Count (negsuc k) n = n ≡ 0

-- a signal interrupted it: the error tells, of a read that failed
abbrev pub Interrupted : ℤ → Bool → Type 0
Interrupted (pos k) b = b ≡ false
Interrupted (negsuc k) b = Unit {0}

-- more is read behind what was left; the run goes on where something was, or where a signal interrupted the read, which is then tried again; any other read
-- that failed is no end of the input
pub record ReadMore (b : Buffers) (input : List ℕ) (r : Buffers) (input' : List ℕ) : Type 0 where
  pub answer : ℤ
  pub count : ℕ
  pub interrupted : Bool
  pub filled : r.filled ≡ b.filled
  pub bounds : (r.at ≤ r.end) × (r.end ≤ length input')
  pub octets : Begins (unused r input') (unused b input)
  pub size : r.end - r.at ≡ b.end - b.at + count
  pub counts : Count answer count
  pub signal : Interrupted answer interrupted
  pub goes_on : r.«open» ≡ (ltb 0 count || interrupted)
  pub fails : r.failed ≡ (lt_z answer (pos 0) && not interrupted)

-- where the text was written, more is read
abbrev pub ReadOn : Bool → Buffers → List ℕ → Buffers → List ℕ → Type 0
ReadOn false b input r input' = (r ≡ b) × (input' ≡ input)
ReadOn true b input r input' = ReadMore b input r input'

pub record Refilled (b : Buffers) (input : List ℕ) (r : Buffers) (input' : List ℕ) : Type 0 where
  pub flushed : Buffers
  pub text : Flushed b flushed
  pub octets : ReadOn flushed.«open» flushed input r input'
