-- What `fieldlist` prints (01, "`fieldlist`"): from packet to packet, and for a whole input.
use Rattle.depacketizer.specs.declared.state.Depacketizer.{Depacketizer}
use Rattle.std.specs.Prelude.{Bool, cond, List, [], ◌∷◌, ◌++◌, ℕ}
use Rattle.wire_spec.specs.Layout.{Layout}
use Rattle.wire_spec.specs.Result.{Result, Err, Ok}
use Rattle.wire_spec.specs.Packet.{Content, read_content}
use Rattle.depacketizer.specs.Answers.{opened_of}
use Rattle.depacketizer_spec.specs.Step.{Step, step, open_of}
use Rattle.text.specs.Text.{ascii}
use Rattle.fieldlist_session.specs.declared.session.Session.{Session}
use Rattle.fieldlist_session.specs.declared.session.Session.TheVariants as session
use Rattle.rtp_frames.specs.Frames.{Frames, frames}
use Rattle.fieldlist_lines.specs.Lines.{answer_text, refused_text, counts_text}

-- the number of a packet, for its line
abbrev pub number_of : Result Content → ℕ
number_of (Err x) = 0
number_of (Ok k) = k.number

-- "The first packet that passes 1 to 13 opens the keeper." (A payload type has seven bits, so opening is not refused.)
abbrev pub opening : Result Content → Result Depacketizer
opening (Err x) = Err x
opening (Ok k) = opened_of (open_of k.source k.type)

-- the depacketizer that a packet arrives at: the one that is open, or else the one that it opens
abbrev pub entered : Session → Result Content → Result Depacketizer
entered (session.Waiting L) k = opening k
entered (session.Open L d) k = Ok d

-- the layout of a session's packets: told by the caller (02, K3)
abbrev pub layout_in : Session → Layout
layout_in (session.Waiting L) = L
layout_in (session.Open L d) = L

-- What one packet does: the session then, the store, and the text that is printed.
pub record Turn : Type 0 where
  pub session : Session
  pub store : List ℕ
  pub text : List ℕ

-- a packet of number `n` arrived: the depacketizer's next state, the store, and the text of its answer
abbrev pub arrived : Layout → ℕ → Step → Turn
arrived L n x = record { session = session.Open L (record { state = x.state }); store = x.store; text = answer_text n x.answer x.store }

-- by the depacketizer: a packet that opens none is refused, and changes nothing
abbrev pub turn_by : Session → ℕ → List ℕ → List ℕ → Result Depacketizer → Turn
turn_by s n octets store (Err x) = record { session = s; store = store; text = refused_text x }
turn_by s n octets store (Ok d) = arrived (layout_in s) n (step d.state (layout_in s) octets store)

-- one packet: the first that passes 1 to 13 opens; every later one arrives
unfoldable pub turn : Session → List ℕ → List ℕ → Turn
turn s octets store =
    let k = read_content (layout_in s) octets in turn_by s (number_of k) octets store (entered s k)

-- All packets in order; then the session and the text.
pub record Printed : Type 0 where
  pub session : Session
  pub text : List ℕ

-- a text, and then what is printed after it
abbrev pub printed_then : List ℕ → Printed → Printed
printed_then x p = record { session = p.session; text = x ++ p.text }

-- the packets that are left, one after the other
abbrev pub run : Session → List ℕ → List (List ℕ) → Printed
run s store [] = record { session = s; text = [] }
run s store (p ∷ ps) = printed_then (turn s p store).text (run (turn s p store).session (turn s p store).store ps)

-- "Without a keeper the counts are 0."
abbrev pub counts_of : Session → List ℕ
counts_of (session.Waiting L) = counts_text 0 0 0
counts_of (session.Open L d) = counts_text d.state.fresh d.state.late d.state.missing

-- "`cut` for a broken last frame, before the counts"
unfoldable pub cut_text : Bool → List ℕ
cut_text broken = cond broken (ascii "cut\n") []

-- the last lines
abbrev pub end_text : Bool → Session → List ℕ
end_text broken s = cut_text broken ++ counts_of s

-- the first line
abbrev pub title : List ℕ
title = ascii "fieldlist 1\n"

-- what is printed for the rest of an input
unfoldable pub remaining : Session → List ℕ → List ℕ → List ℕ
remaining s store input =
    let f : Frames = frames input in
    let p : Printed = run s store f.packets in
    p.text ++ end_text f.broken p.session

-- THE WHOLE OUTPUT, for packets of a layout and a store lent at the start
unfoldable pub listing : Layout → List ℕ → List ℕ → List ℕ
listing L store input = title ++ remaining (session.Waiting L) store input
