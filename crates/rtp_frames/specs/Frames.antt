-- Frames on a stream of octets (RFC 4571, section 2): a 16-bit length, and so many octets of a packet.
use Rattle.std.specs.Prelude.{Bool, true, false, cond, List, [], ◌∷◌, ℕ, zero, suc, ◌+◌, ◌*◌, leb, length, take, drop}
use Rattle.wire_spec.specs.Packet.{max_packet}

-- the octets of a length
abbrev pub length_size : ℕ
length_size = 2

-- the octets of the longest frame: a length of 16 bits counts up to 65,535
abbrev pub max_frame : ℕ
max_frame = length_size + max_packet

-- What stands at the front: nothing, a frame's packet with what is behind it, or a frame that is broken off.
-- A length of 0 (RFC 4571's null packet) is a frame with an empty packet, which is refused by 2.
pub data Front : Type 0 where
  end cut : Front
  frame : (packet rest : List ℕ) → Front

-- a frame whose length is `n`, before the octets `s`
abbrev pub framed : ℕ → List ℕ → Front
framed n s = cond (leb n (length s)) (frame (take n s) (drop n s)) cut

-- RFC 4571, section 2: LENGTH, most significant octet first, then the packet
abbrev pub front : List ℕ → Front
front [] = end
front (h ∷ []) = cut
front (h ∷ l ∷ s) = framed (256 * h + l) s

-- whether a frame is broken off there
abbrev pub is_broken : Front → Bool
is_broken end = false
is_broken cut = true
is_broken (frame p rest) = false

-- all packets in order, and whether the last frame is broken off
pub record Frames : Type 0 where
  pub packets : List (List ℕ)
  pub broken : Bool

-- a packet before others
abbrev pub more : List ℕ → Frames → Frames
more p f = record { packets = p ∷ f.packets; broken = f.broken }

-- the packet at the front, and then those of the rest
abbrev pub onward : (List ℕ → Frames) → Front → Frames
onward next end = record { packets = []; broken = false }
onward next cut = record { packets = []; broken = true }
onward next (frame p rest) = more p (next rest)

-- those of the first `most` frames
abbrev pub frames_in : (most : ℕ) → List ℕ → Frames
frames_in zero s = record { packets = []; broken = false }
frames_in (suc m) s = onward (frames_in m) (front s)

-- those of all frames: each has two octets at the least
abbrev pub frames : List ℕ → Frames
frames s = frames_in (suc (length s)) s
