-- What is carried from item to item, what an item gives, and what the code answers.
use Rattle.std.specs.Prelude.{Bool, false, cond, List, [], ℕ, ◌+◌, ◌^◌, ◌<◌, ◌≤◌, eqb, leb, length, Option, Some, None, Ok, Err}
use Rattle.wire_spec.specs.Bits.{overwrite}
use Rattle.wire_spec.specs.Packet.{max_packet}
use Rattle.rtp_frames.specs.Frames.{length_size, max_frame}
use Rattle.capture_spec.specs.declared.state.Container.{Container}
use Rattle.capture_spec.specs.declared.state.Container.TheVariants as container
use Rattle.capture_spec.specs.Items.{Read}
use Rattle.capture_spec.specs.declared.state.Item.TheVariants as item
use Rattle.capture_spec.specs.declared.state.State.{State}
use Rattle.capture_spec.specs.Numbers.{capture_cut, link_not_taken}
use Rattle.capture_spec.specs.Step.{behind, opened, step_of}
use Rattle.capture_datagram.specs.declared.answer.Found.{Found}
use Rattle.capture_datagram.specs.declared.answer.Found.TheVariants as found
use Rattle.capture_datagram.specs.Answer.{payload_of}
use Rattle.capture_datagram.specs.Link.{datagram_in, is_link_taken}
use Rattle.program_spec.specs.Walk.{Front, short, taken, over, Program}
use Rattle.pcapframes_spec.specs.declared.session.Reply.{Reply}
use Rattle.pcapframes_spec.specs.declared.session.Session.{Session}
use Rattle.program_spec.specs.declared.buffers.Step.TheVariants as step
use Rattle.pcapframes_spec.specs.Frames.{frame_of, packet_in}
use Rattle.capture_spec.specs.declared.state.Unread.TheVariants as unread

-- before the first octet
abbrev pub begun : Session
begun = record { state = opened; refusal = None; packets = 0; fragments = 0; cut = 0 }

-- behind a packet
abbrev pub counted : Session → (fragments cut : ℕ) → Session
counted s f k = record { state = s.state; refusal = None; packets = s.packets + 1; fragments = s.fragments + f; cut = s.cut + k }

-- behind another item
abbrev pub moved : Session → State → Session
moved s st = record { state = st; refusal = None; packets = s.packets; fragments = s.fragments; cut = s.cut }

-- the walk is over: a refusal, and the index of the packet that it stands at
abbrev pub refused_by : Session → ℕ → Session
refused_by s x = record { state = s.state; refusal = Some x; packets = s.packets; fragments = s.fragments; cut = s.cut }

-- what a packet holds for the port
abbrev pub found_front : Session → ℕ → List ℕ → Found → Front Session
found_front s n packet (found.Frame a b) = taken n (frame_of (payload_of packet a b)) (counted s 0 0)
found_front s n packet found.Passed = taken n [] (counted s 0 0)
found_front s n packet found.Fragment = taken n [] (counted s 1 0)
found_front s n packet found.Cut = taken n [] (counted s 0 1)

abbrev pub packet_front : (port : ℕ) → Session → ℕ → (link : ℕ) → List ℕ → Front Session
packet_front port s n link packet = cond (is_link_taken link) (found_front s n packet (datagram_in packet link port)) (over (refused_by s link_not_taken))

-- what the item at the front gives
abbrev pub item_front : (port : ℕ) → Session → List ℕ → Read → Front Session
item_front port s o (Err unread.Short) = short
item_front port s o (Err (unread.Refused x)) = over (refused_by s x)
item_front port s o (Ok (item.Head c n)) = taken n [] (moved s (behind s.state (Ok (item.Head c n))))
item_front port s o (Ok (item.Interface link snap n)) = taken n [] (moved s (behind s.state (Ok (item.Interface link snap n))))
item_front port s o (Ok (item.Packet p n)) = packet_front port s n p.link (packet_in p o)
item_front port s o (Ok (item.Other n)) = taken n [] (moved s (behind s.state (Ok (item.Other n))))

abbrev pub standing_front : Option ℕ → (port : ℕ) → Session → List ℕ → Front Session
standing_front None port s o = item_front port s o (step_of s.state o)
standing_front (Some x) port s o = over s

abbrev pub session_front : (port : ℕ) → Session → List ℕ → Front Session
session_front port s o = standing_front s.refusal port s o

-- a capture may end behind an item, and not before its head
abbrev pub is_whole : Container → (left : ℕ) → Bool
is_whole container.Unknown left = false
is_whole (container.Classic o link) left = eqb left 0
is_whole (container.Section o) left = eqb left 0

abbrev pub standing_last : Option ℕ → Session → (left : ℕ) → Session
standing_last None s left = cond (is_whole s.state.container left) s (refused_by s capture_cut)
standing_last (Some x) s left = s

abbrev pub last_of : Session → (left : ℕ) → Session
last_of s left = standing_last s.refusal s left

-- A CAPTURE WALKED, item by item, for the datagrams to a port
abbrev pub frame_walk : (port : ℕ) → Program
frame_walk port =
    record {
      State = Session;
      room = λ (s : Session) (n : ℕ). leb max_frame n;
      front = session_front port;
      first = [];
      closing = λ (s : Session) (o : List ℕ). [];
      last = λ (s : Session) (o : List ℕ). last_of s (length o);
    }

-- what the code answers of it
abbrev pub reply_of : Session → Front Session → Reply
reply_of s short = record { session = s; step = step.Short }
reply_of s (over z) = record { session = z; step = step.Over }
reply_of s (taken n t z) = record { session = z; step = step.Taken n (length t) }

-- and what it leaves in the octets that it is lent
abbrev pub out_after : Front Session → List ℕ → List ℕ
out_after short out = out
out_after (over z) out = out
out_after (taken n t z) out = overwrite t out

-- one packet more can be counted
pub record Countable (s : Session) : Type 0 where
  pub packets : s.packets + 1 < 2 ^ 64
  pub fragments : s.fragments + 1 < 2 ^ 64
  pub cut : s.cut + 1 < 2 ^ 64

abbrev pub CanCount : Session → (fragments cut : ℕ) → Type 0
CanCount s f k = (s.packets + 1 < 2 ^ 64) × (s.fragments + f < 2 ^ 64) × (s.cut + k < 2 ^ 64)

-- a payload lies in the packet, and there is room for its frame
abbrev pub FoundFits : Found → (packet out : ℕ) → Type 0
FoundFits (found.Frame a b) packet out = (a ≤ b) × (b ≤ packet) × (b ≤ a + max_packet) × (length_size + b ≤ a + out)
FoundFits found.Passed packet out = Unit {0}
FoundFits found.Fragment packet out = Unit {0}
FoundFits found.Cut packet out = Unit {0}
