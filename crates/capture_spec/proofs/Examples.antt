-- Items of both formats, in both orders, and each refusal.
-- By computing.
use Rattle.std.specs.Prelude.{Ok, Err}
use mathlib.Core.Path.{◌≡◌, refl}
use mathlib.Core.List.{List, [], ◌∷◌, ◌++◌}
use Prim.Native.Nat.{ℕ}
use lib.ListN.{replicate}
use Rattle.capture_spec.specs.declared.state.Order.{Order}
use Rattle.capture_spec.specs.declared.state.Order.TheVariants as order
use Rattle.capture_spec.specs.declared.state.Container.TheVariants as container
use Rattle.capture_spec.specs.declared.state.State.{State}
use Rattle.capture_spec.specs.declared.state.Item.TheVariants as item
use Rattle.capture_spec.specs.Numbers.{word_at, half_at}
use Rattle.capture_spec.specs.Step.{behind, opened, step_of}
use Rattle.capture_spec.specs.declared.state.Unread.TheVariants as unread
use Rattle.capture_spec.specs.Written.{
  block_of,
  enhanced_of,
  half_of,
  head_of,
  interface_of,
  obsolete_of,
  record_of,
  section_of,
  simple_of,
  word_of,
}

-- pcap's head, octet by octet: Ethernet (1), timestamps in microseconds, least significant octet first
little_head : List ℕ
little_head = 0xD4 ∷ 0xC3 ∷ 0xB2 ∷ 0xA1 ∷ 2 ∷ 0 ∷ 4 ∷ 0 ∷ 0 ∷ 0 ∷ 0 ∷ 0 ∷ 0 ∷ 0 ∷ 0 ∷ 0 ∷ 0 ∷ 0 ∷ 4 ∷ 0 ∷ 1 ∷ 0 ∷ 0 ∷ 0 ∷ []

little-head : step_of opened little_head ≡ Ok (item.Head (container.Classic order.Little 1) 24)
unfolding step_of word_at little_head
little-head = refl

-- it is the one that is written
little-written : little_head ≡ head_of order.Little 0xA1B2C3D4 262144 1
unfolding little_head
little-written = refl

-- nanoseconds, most significant octet first; bits above the link type tell of a frame check sequence
big-nano : step_of opened (head_of order.Big 0xA1B23C4D 65535 0x54000071) ≡ Ok (item.Head (container.Classic order.Big 113) 24)
unfolding step_of word_at
big-nano = refl

-- one octet short; another magic number
head-short : step_of opened (0xA1 ∷ 0xB2 ∷ 0xC3 ∷ []) ≡ Err unread.Short
unfolding step_of word_at
head-short = refl

not-capture : step_of opened (0xA1 ∷ 0xB2 ∷ 0xC3 ∷ 0xD5 ∷ []) ≡ Err (unread.Refused 80)
unfolding step_of word_at
not-capture = refl

-- a record, of which two octets were captured; with one octet less
classic : State
classic = behind opened (Ok (item.Head (container.Classic order.Little 1) 24))

a-record : step_of classic (record_of order.Little 5 6 60 (7 ∷ 8 ∷ [])) ≡ Ok (item.Packet (record { at = 16; size = 2; link = 1 }) 18)
unfolding step_of word_at classic
a-record = refl

record-cut : step_of classic (word_of order.Little 5 ++ (word_of order.Little 6 ++ (word_of order.Little 2 ++ (word_of order.Little 60 ++ (7 ∷ []))))) ≡ Err unread.Short
unfolding step_of word_at classic
record-cut = refl

-- the longest record is not there yet; one that is longer is refused
longest : step_of classic (word_of order.Little 5 ++ (word_of order.Little 6 ++ (word_of order.Little 266224 ++ word_of order.Little 266224))) ≡ Err unread.Short
unfolding step_of word_at classic
longest = refl

too_long : step_of classic (word_of order.Little 5 ++ (word_of order.Little 6 ++ (word_of order.Little 266225 ++ word_of order.Little 0))) ≡ Err (unread.Refused 84)
unfolding step_of word_at classic
too_long = refl

-- a section in either order, octet by octet
big_section : List ℕ
big_section =
    10 ∷ 13 ∷ 13 ∷ 10 ∷ 0 ∷ 0 ∷ 0 ∷ 28 ∷ 0x1A ∷ 0x2B ∷ 0x3C ∷ 0x4D ∷ 0 ∷ 1 ∷ 0 ∷ 0 ∷ 255 ∷ 255 ∷ 255 ∷ 255 ∷ 255 ∷ 255 ∷ 255 ∷ 255 ∷ 0 ∷ 0 ∷ 0 ∷ 28 ∷ []

big-section : step_of opened big_section ≡ Ok (item.Head (container.Section order.Big) 28)
unfolding step_of word_at big_section
big-section = refl

big-written : big_section ≡ section_of order.Big
unfolding big_section
big-written = refl

little-section : step_of opened (section_of order.Little) ≡ Ok (item.Head (container.Section order.Little) 28)
unfolding step_of word_at
little-section = refl

-- no Byte-Order Magic; a length that is no multiple of four; another behind; less than a section's head has
no-order : step_of opened (block_of order.Big 0x0A0D0D0A (word_of order.Big 0x1A2B3C4E ++ replicate 12 0)) ≡ Err (unread.Refused 82)
unfolding step_of word_at
no-order = refl

not-four : step_of opened (word_of order.Big 0x0A0D0D0A ++ (word_of order.Big 30 ++ (word_of order.Big 0x1A2B3C4D ++ []))) ≡ Err (unread.Refused 82)
unfolding step_of word_at
not-four = refl

other-behind : step_of opened (word_of order.Big 0x0A0D0D0A ++ (word_of order.Big 28 ++ (word_of order.Big 0x1A2B3C4D ++ (replicate 12 0 ++ word_of order.Big 32)))) ≡ Err (unread.Refused 82)
unfolding step_of word_at
other-behind = refl

too_small : step_of opened (block_of order.Big 0x0A0D0D0A (word_of order.Big 0x1A2B3C4D ++ replicate 8 0)) ≡ Err (unread.Refused 82)
unfolding step_of word_at
too_small = refl

-- a section with two interfaces, the first with a SnapLen of 4
section : Order → State
section o = behind opened (Ok (item.Head (container.Section o) 28))

two : Order → State
two o = behind (behind (section o) (Ok (item.Interface 1 4 20))) (Ok (item.Interface 113 0 20))

an-interface : step_of (section order.Little) (interface_of order.Little 276 65535) ≡ Ok (item.Interface 276 65535 20)
unfolding step_of word_at half_at section
an-interface = refl

-- one of 16 octets, whose fields end before SnapLen, is refused; 20 are the fewest
interface-16 : let fields = half_of order.Little 276 ++ half_of order.Little 0 in
    step_of (section order.Little) (block_of order.Little 1 fields) ≡ Err (unread.Refused 82)
unfolding step_of word_at half_at section
interface-16 = refl

-- a packet of the second, padded; from an interface that was not described; and longer than its block
enhanced : step_of (two order.Big) (enhanced_of order.Big 1 0 0 60 (7 ∷ 8 ∷ 9 ∷ []) (0 ∷ [])) ≡ Ok (item.Packet (record { at = 28; size = 3; link = 113 }) 36)
unfolding step_of word_at two section
enhanced = refl

undescribed : step_of (two order.Big) (enhanced_of order.Big 2 0 0 60 (7 ∷ 8 ∷ 9 ∷ []) (0 ∷ [])) ≡ Err (unread.Refused 83)
unfolding step_of word_at two section
undescribed = refl

over-block : step_of (two order.Big) (block_of order.Big 6 (replicate 12 0 ++ (word_of order.Big 5 ++ (word_of order.Big 5 ++ (7 ∷ 8 ∷ 9 ∷ 0 ∷ []))))) ≡ Err (unread.Refused 82)
unfolding step_of word_at two section
over-block = refl

-- the obsolete block has an Interface ID of 16 bits
obsolete : step_of (two order.Little) (obsolete_of order.Little 1 3 0 0 60 (7 ∷ 8 ∷ 9 ∷ []) (0 ∷ [])) ≡ Ok (item.Packet (record { at = 28; size = 3; link = 113 }) 36)
unfolding step_of word_at half_at two section
obsolete = refl

-- of a packet of 60 octets the first interface's SnapLen is there; of one of three all; without an interface it is refused
simple-snap : step_of (two order.Little) (simple_of order.Little 60 (7 ∷ 8 ∷ 9 ∷ 10 ∷ []) []) ≡ Ok (item.Packet (record { at = 12; size = 4; link = 1 }) 20)
unfolding step_of word_at two section
simple-snap = refl

simple-whole : step_of (two order.Little) (simple_of order.Little 3 (7 ∷ 8 ∷ 9 ∷ []) (0 ∷ [])) ≡ Ok (item.Packet (record { at = 12; size = 3; link = 1 }) 20)
unfolding step_of word_at two section
simple-whole = refl

simple-none : step_of (section order.Little) (simple_of order.Little 3 (7 ∷ 8 ∷ 9 ∷ []) (0 ∷ [])) ≡ Err (unread.Refused 83)
unfolding step_of word_at section
simple-none = refl

-- another block is passed over; a new section has no interfaces, and its own order
another : step_of (two order.Big) (block_of order.Big 5 (1 ∷ 2 ∷ 3 ∷ 4 ∷ [])) ≡ Ok (item.Other 16)
unfolding step_of word_at two section
another = refl

forgotten : step_of (behind (two order.Big) (Ok (item.Head (container.Section order.Little) 28))) (simple_of order.Little 3 (7 ∷ 8 ∷ 9 ∷ []) (0 ∷ [])) ≡ Err (unread.Refused 83)
unfolding step_of word_at two section
forgotten = refl

new-order : step_of (two order.Big) (section_of order.Little) ≡ Ok (item.Head (container.Section order.Little) 28)
unfolding step_of word_at two section
new-order = refl

-- 64 interfaces, and one more
full : State
full = record { container = container.Section order.Little; links = replicate 64 1; described = 64; snap = 0 }

one_more : step_of full (interface_of order.Little 1 0) ≡ Err (unread.Refused 85)
unfolding step_of word_at half_at full
one_more = refl
