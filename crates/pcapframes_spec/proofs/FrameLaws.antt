-- THE OUTPUT: the text of the walk is the frames of the payloads, in the order of the capture; and these read back as the payloads.
-- Item by item.
use Rattle.std.specs.Prelude.{None, Ok, Err}
use mathlib.Core.Path.{◌≡◌, refl, ap, ◌∙◌}
use mathlib.Core.Bool.{Bool, true, false, cond}
use mathlib.Core.List.{List, [], ◌∷◌, ◌++◌}
use Prim.Native.Nat.{ℕ, zero, suc, ◌+◌, ◌*◌, ◌/◌, ◌%◌}
use native.Mathlib.Nat.{div-add-mod'}
use native.Mathlib.Omega.{arith}
use borrow.Author.Tests.{le-leb}
use lib.ListN.{length, drop, length-append}
use lib.Seq.{take-append_seam, drop-append_seam}
use Rattle.rtp_frames.specs.Frames as rfc
use Rattle.rtp_frames.specs.Frames.{frame, frames, front, more}
use Rattle.rtp_frames.proofs.NextLaws.{frames-next}
use Rattle.capture_spec.specs.Items.{Read}
use Rattle.capture_spec.specs.declared.state.Item.TheVariants as item
use Rattle.capture_spec.specs.Step.{behind, step_of}
use Rattle.capture_datagram.specs.declared.answer.Found.{Found}
use Rattle.capture_datagram.specs.declared.answer.Found.TheVariants as found
use Rattle.capture_datagram.specs.Answer.{payload_of}
use Rattle.capture_datagram.specs.Link.{datagram_in, is_link_taken}
use Rattle.program_spec.specs.Walk.{Front, over, onward, walk_in, walk}
use Rattle.pcapframes_spec.specs.declared.session.Session.{Session}
use Rattle.pcapframes_spec.specs.Frames.{frame_of, framed, frames_of, found_then, packet_in, payloads_in, payloads_of, payloads_on}
use Rattle.pcapframes_spec.specs.Session.{begun, found_front, frame_walk, item_front, moved, refused_by}
use Rattle.pcapframes_spec.proofs.SessionLaws.{front-open}
use Rattle.capture_spec.specs.declared.state.Unread.TheVariants as unread

module _ (port : ℕ) where
  -- what the first `m` items behind this one give
  abbrev Rest : ℕ → Type 0
  Rest m = (z : Session) (o : List ℕ) → z.refusal ≡ None → (walk_in (frame_walk port) m z o).text ≡ framed (payloads_in port m z.state o)

  abbrev text_of : ℕ → Session → List ℕ → Front Session → List ℕ
  text_of m s o f = (onward (frame_walk port) (walk_in (frame_walk port) m) s o f).text

  found-text : (m : ℕ) → Rest m → (s : Session) (o : List ℕ) (n : ℕ) (packet : List ℕ) (f : Found)
      → text_of m s o (found_front s n packet f) ≡ framed (found_then packet f (payloads_in port m s.state (drop n o)))
  found-text m ih s o n packet (found.Frame a b) = ap (λ (r : List ℕ). frame_of (payload_of packet a b) ++ r) (ih _ (drop n o) refl)
  found-text m ih s o n packet found.Passed = ih _ (drop n o) refl
  found-text m ih s o n packet found.Fragment = ih _ (drop n o) refl
  found-text m ih s o n packet found.Cut = ih _ (drop n o) refl

  item-text : (m : ℕ) → Rest m → (s : Session) (o : List ℕ) (i : Read) → text_of m s o (item_front port s o i) ≡ framed (payloads_on port (payloads_in port m) s.state o i)
  item-text m ih s o (Err unread.Short) = refl
  item-text m ih s o (Err (unread.Refused x)) = refl
  item-text m ih s o (Ok (item.Head c n)) = ih (moved s (behind s.state (Ok (item.Head c n)))) (drop n o) refl
  item-text m ih s o (Ok (item.Interface l k n)) = ih (moved s (behind s.state (Ok (item.Interface l k n)))) (drop n o) refl
  item-text m ih s o (Ok (item.Other n)) = ih (moved s s.state) (drop n o) refl
  item-text m ih s o (Ok (item.Packet p n)) = go (is_link_taken p.link)
    where
      packet : List ℕ
      packet = packet_in p o

      go : (b : Bool) → text_of m s o (cond b (found_front s n (packet_in p o) (datagram_in (packet_in p o) p.link port)) (over (refused_by s 83)))
          ≡ framed (cond b (found_then (packet_in p o) (datagram_in (packet_in p o) p.link port) (payloads_in port m s.state (drop n o))) [])
      go true = found-text m ih s o n (packet_in p o) (datagram_in (packet_in p o) p.link port)
      go false = refl

  texts : (m : ℕ) → Rest m
  unfolding walk_in payloads_in
  texts zero z o e = refl
  texts (suc m) z o e = ap (text_of m z o) (front-open port z o e) ∙ item-text m (texts m) z o (step_of z.state o)

  -- THE TEXT OF THE WALK is the output
  pub walk-text : (o : List ℕ) → (walk (frame_walk port) begun o).text ≡ frames_of port o
  walk-text o = texts (suc (length o)) begun o refl

front-frame : (p rest : List ℕ) → front (frame_of p ++ rest) ≡ frame p rest
front-frame p rest =
    let e : 256 * (length p / 256) + length p % 256 ≡ length p = omega (arith, div-add-mod' (length p) 256) in
    ap (λ (n : ℕ). rfc.framed n (p ++ rest)) e
    ∙ rw (le-leb (length p) (length (p ++ rest)) (omega (arith, length-append p rest)))
    (λ i. frame (take-append_seam p rest i) (drop-append_seam p rest i))

-- frames one behind the other read back as what they hold
pub frames-back : (ps : List (List ℕ)) → frames (framed ps) ≡ record { packets = ps; broken = false }
frames-back [] = refl
frames-back (p ∷ ps) = frames-next (frame_of p ++ framed ps) p (framed ps) (front-frame p (framed ps)) ∙ ap (more p) (frames-back ps)

-- THE OUTPUT READS BACK, frame by frame, as the payloads of the datagrams to the port
pub reads-back : (port : ℕ) (o : List ℕ) → frames (frames_of port o) ≡ record { packets = payloads_of port o; broken = false }
reads-back port o = frames-back (payloads_of port o)
