-- What the code answers of the front of a stream.
use Rattle.std.specs.Prelude.{Bool, true, false, length}
use Rattle.rtp_frames.specs.declared.Front.{Front as FrontFound}
use Rattle.rtp_frames.specs.declared.Front.TheVariants as found
use Rattle.rtp_frames.specs.Frames.{Front, end, cut, frame}

-- what stands at the front
abbrev pub front_of : Front → FrontFound
front_of end = found.End
front_of cut = found.Cut
front_of (frame p rest) = found.Packet (length p)

-- whether the code found a frame that is broken off
abbrev pub is_cut : FrontFound → Bool
is_cut found.End = false
is_cut found.Cut = true
is_cut (found.Packet n) = false
