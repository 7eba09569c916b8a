-- From a capture to the archive.
-- The frames that are written read back as the payloads, and the archive of these is as sent.
use mathlib.Core.Path.{◌≡◌, ap, ◌∙◌}
use mathlib.Core.List.{List, map}
use Prim.Native.Nat.{ℕ}
use Rattle.wire_spec.specs.Anc.{Each}
use Rattle.rtp_frames.specs.Frames.{Frames}
use Rattle.depacketizer_spec.specs.Stream.{Stream, WellFormedStream, Arriving, octets_of, Near}
use Rattle.pcapframes_spec.specs.Frames.{frames_of, payloads_of}
use Rattle.pcapframes_spec.specs.Written.{pcap_of, pcapng_of}
use Rattle.pcapframes_spec.proofs.FrameLaws.{reads-back}
use Rattle.pcapframes_spec.proofs.WrittenLaws.{pcap-holds, pcapng-holds}
use Rattle.archive_laws.specs.Archive.{OpenedByStream, Recorded, calls_of}
use Rattle.archive_laws.specs.Capture.{CaptureAsSent, CapturedAsSent}
use Rattle.archive_laws.proofs.SentLaws.{archive-as-sent}

module _ (s : Stream) (w : WellFormedStream s) (tape : List Arriving) (h : Each (Recorded s) tape) (o : OpenedByStream s tape) (near : Near (calls_of tape)) where
  from-any : (port : ℕ) (capture : List ℕ) → payloads_of port capture ≡ map (octets_of s) tape → CapturedAsSent s tape port capture
  from-any port capture e below store room =
      archive-as-sent s w tape h o near (frames_of port capture) below (ap (λ (f : Frames). f.packets) (reads-back port capture) ∙ e) store room

-- FROM A CAPTURE
pub capture-as-sent : CaptureAsSent
capture-as-sent s w tape h o near =
    record {
      any = from-any s w tape h o near;
      pcap = λ port order nano snap link cs t f e. from-any s w tape h o near port (pcap_of order nano snap link cs) (pcap-holds port order nano snap link cs t f ∙ e);
      pcapng = λ port order link snap cs t f e. from-any s w tape h o near port (pcapng_of order link snap cs) (pcapng-holds port order link snap cs t f ∙ e);
    }
