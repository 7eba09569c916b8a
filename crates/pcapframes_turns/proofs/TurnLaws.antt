-- What the loop is given is what each turn is given, and there is room for any frame.
-- By the sizes.
use mathlib.Core.Path.{◌≡◌}
use mathlib.Core.Bool.{true}
use Prim.Native.Nat.{ℕ}
use borrow.Author.Tests.{le-leb}
use lib.Dec.{leb}
use Rattle.rtp_frames.specs.Frames.{max_frame}
use Rattle.pcapframes_turns.specs.Turns.{Enough}

pub still-enough : {i o : ℕ} (i' o' : ℕ) → i' ≡ i → o' ≡ o → Enough i o → Enough i' o'
still-enough i' o' a b e = record { item = rw a e.item; frame = rw b e.frame }

pub room-for-frame : {i o : ℕ} → Enough i o → leb max_frame o ≡ true
room-for-frame {i} {o} e = le-leb max_frame o e.frame
