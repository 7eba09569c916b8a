-- Every field that is handed out is filed.
-- What is gathered stands in the store from packet to packet (`StoreLaws`).
use Rattle.depacketizer.specs.declared.state.Depacketizer.{Depacketizer}
use mathlib.Core.Bool.{Bool, true, false}
use mathlib.Core.List.{List, [], ◌∷◌, ◌++◌}
use Prim.Native.Nat.{ℕ}
use lib.Dec.{leb}
use Rattle.wire_spec.specs.Bits.{Below}
use Rattle.wire_spec.specs.Result.{Result, Err, Ok, judge}
use Rattle.wire_spec.specs.Anc.{Each}
use Rattle.wire_spec.specs.Packet.{Content, read_content}
use Rattle.wire_spec.specs.Writing.{max_type}
use Rattle.fieldfile_spec.specs.File.{FieldContent}
use Rattle.rtp_frames.specs.Frames.{frames}
use Rattle.depacketizer.specs.Answers.{opened_of}
use Rattle.depacketizer_spec.specs.Step.{gathered, open_state}
use Rattle.depacketizer_spec.specs.Stream.{Handed}
use Rattle.fieldlist_session.specs.declared.session.Session.{Session}
use Rattle.fieldlist_session.specs.declared.session.Session.TheVariants as session
use Rattle.fieldlist_session.specs.Session.{entered, layout_in, number_of, turn, turn_by}
use Rattle.fieldsave_session.specs.Filing.{fields_of, handed, handed_at}
use Rattle.fieldsave_laws.specs.Filed.{EachFiled, NoneLeftOut, whole_at, wholes_of}
use Rattle.fieldsave_laws.proofs.FormedLaws.{frames-below}
use Rattle.fieldsave_laws.proofs.StoreLaws.{Holds, nothing-stands, step-leaves}

-- what a session has gathered stands in the store
abbrev pub SessionHolds : Session → List ℕ → Type 0
SessionHolds (session.Waiting L) store = Unit {0}
SessionHolds (session.Open L d) store = Holds store (gathered d.state)

abbrev OpenedHolds : Result Depacketizer → List ℕ → Type 0
OpenedHolds (Err x) store = Unit {0}
OpenedHolds (Ok d) store = Holds store (gathered d.state)

opening-holds : (b : Bool) (source type : ℕ) (store : List ℕ) → OpenedHolds (opened_of (judge 0 ((b, 24) ∷ []) (Ok (open_state source type)))) store
opening-holds true source type store = nothing-stands store
opening-holds false source type store = tt

entered-holds : (s : Session) (store : List ℕ) (k : Result Content) → SessionHolds s store → OpenedHolds (entered s k) store
entered-holds (session.Waiting L) store (Err x) h = tt
entered-holds (session.Waiting L) store (Ok k) h = opening-holds (leb k.type max_type) k.source k.type store
entered-holds (session.Open L d) store k h = h

-- ONE PACKET
turn_holds : (s : Session) (n : ℕ) (octets store : List ℕ) → Below 256 octets → SessionHolds s store → (o : Result Depacketizer) → OpenedHolds o store
    → SessionHolds (turn_by s n octets store o).session (turn_by s n octets store o).store × EachFiled (whole_at (layout_in s) octets store o) (handed_at (layout_in s) octets store o)
turn_holds s n octets store below h (Err x) g = (h, tt)
turn_holds s n octets store below h (Ok d) g = step-leaves d.state (layout_in s) octets store below g

pub packet-filed : (s : Session) (octets store : List ℕ) → Below 256 octets → SessionHolds s store
    → SessionHolds (turn s octets store).session (turn s octets store).store × EachFiled (whole_at (layout_in s) octets store (entered s (read_content (layout_in s) octets))) (handed s octets store)
unfolding turn handed
packet-filed s octets store below h =
    let k = read_content (layout_in s) octets in turn_holds s (number_of k) octets store below h (entered s k) (entered-holds s store k h)

both-filed : (xs ys : List Handed) (ks ls : List FieldContent) → EachFiled xs ks → EachFiled ys ls → EachFiled (xs ++ ys) (ks ++ ls)
both-filed [] ys [] ls a b = b
both-filed [] ys (k ∷ ks) ls a b = absurd a
both-filed (x ∷ xs) ys [] ls a b = absurd a
both-filed (x ∷ xs) ys (k ∷ ks) ls a b = (a.0, both-filed xs ys ks ls a.1 b)

-- ALL PACKETS
all-filed : (s : Session) (store : List ℕ) (ps : List (List ℕ)) → Each (Below 256) ps → SessionHolds s store → EachFiled (wholes_of s store ps) (fields_of s store ps)
all-filed s store [] b h = tt
all-filed s store (p ∷ ps) b h =
    let q = packet-filed s p store b.0 h in
    both-filed (whole_at (layout_in s) p store (entered s (read_content (layout_in s) p))) (wholes_of (turn s p store).session (turn s p store).store ps)
    (handed s p store) (fields_of (turn s p store).session (turn s p store).store ps) q.1
    (all-filed (turn s p store).session (turn s p store).store ps b.1 q.0)

pub none-left-out : NoneLeftOut
none-left-out L store input below = all-filed (session.Waiting L) store (frames input).packets (frames-below input below) tt
