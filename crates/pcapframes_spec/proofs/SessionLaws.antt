-- What an item gives, by where the walk stands; and that a capture is walked lawfully: an item lies in the octets, octets behind it change nothing of it, and
-- behind a refusal nothing is taken.
-- By the item at the front.
use Rattle.std.specs.Prelude.{Option, Some, None, Ok, Err}
use mathlib.Core.Path.{◌≡◌, refl, ap, sym, subst, ◌∙◌}
use mathlib.Core.Bool.{Bool, true, false, cond}
use mathlib.Core.List.{List, ◌++◌}
use Prim.Native.Nat.{ℕ, ◌+◌, ◌<◌, ◌≤◌}
use native.Mathlib.Omega.{arith}
use borrow.Author.Tests.{le-leb}
use lib.ListN.{length, take, drop, get_or, length-append, length-drop}
use lib.Seq.{drop-append-le, take-append-le}
use Rattle.rtp_frames.specs.Frames.{max_frame}
use Rattle.capture_spec.specs.Items.{Read}
use Rattle.capture_spec.specs.declared.state.Item.TheVariants as item
use Rattle.capture_spec.specs.declared.state.Place.{Place}
use Rattle.capture_spec.specs.declared.state.State.{State}
use Rattle.capture_spec.specs.Numbers.{capture_cut, link_not_taken, max_item}
use Rattle.capture_spec.specs.Step.{Fits, IsTold, step_of}
use Rattle.capture_spec.proofs.LongerLaws.{step-longer}
use Rattle.capture_spec.proofs.StepLaws.{step_fits}
use Rattle.capture_datagram.specs.declared.answer.Found.{Found}
use Rattle.capture_datagram.specs.declared.answer.Found.TheVariants as found
use Rattle.capture_datagram.specs.Link.{datagram_in, is_link_taken}
use Rattle.capture_datagram.proofs.PlaceLaws.{frame-inside}
use Rattle.program_spec.specs.declared.buffers.Step.TheVariants as step
use Rattle.program_spec.specs.Walk.{Front, short, taken, over, Lawful, Stays}
use Rattle.program_spec.specs.Run.{Answers}
use Rattle.program_spec.proofs.StepLaws.{is-over, is-short, is-taken}
use Rattle.pcapframes_spec.specs.declared.session.Reply.{Reply}
use Rattle.pcapframes_spec.specs.declared.session.Session.{Session}
use Rattle.pcapframes_spec.specs.Frames.{packet_in}
use Rattle.pcapframes_spec.specs.Session.{FoundFits, found_front, frame_walk, is_whole, item_front, last_of, moved, out_after, packet_front, refused_by, reply_of, session_front, standing_front, standing_last}
use Rattle.capture_spec.specs.declared.state.Unread.TheVariants as unread

-- by where the walk stands
pub front-open : (port : ℕ) (s : Session) (o : List ℕ) → s.refusal ≡ None → session_front port s o ≡ item_front port s o (step_of s.state o)
front-open port s o e = ap (λ (k : Option ℕ). standing_front k port s o) e

pub front-refused : (port : ℕ) (s : Session) (o : List ℕ) (x : ℕ) → s.refusal ≡ Some x → session_front port s o ≡ over s
front-refused port s o x e = ap (λ (k : Option ℕ). standing_front k port s o) e

pub last-refused : (s : Session) (n x : ℕ) → s.refusal ≡ Some x → last_of s n ≡ s
last-refused s n x e = ap (λ (k : Option ℕ). standing_last k s n) e

pub last-open : (s : Session) (n : ℕ) (b : Bool) → s.refusal ≡ None → is_whole s.state.container n ≡ b → last_of s n ≡ cond b s (refused_by s capture_cut)
last-open s n b e h = ap (λ (k : Option ℕ). standing_last k s n) e ∙ ap (λ (z : Bool). cond z s (refused_by s capture_cut)) h

-- a payload that was found lies in the packet, and there is room for its frame
pub found-fits : (packet : List ℕ) (link port out : ℕ) → ((j : ℕ) → get_or packet j 0 < 256) → max_frame ≤ out → (f : Found) → f ≡ datagram_in packet link port → FoundFits f (length packet) out
found-fits packet link port out h r (found.Frame a b) e =
    let i = frame-inside packet link port a b h (sym e) in
    (i.ordered, i.inside, omega (arith, i.size), omega (arith, i.size, r))
found-fits packet link port out h r found.Passed e = tt
found-fits packet link port out h r found.Fragment e = tt
found-fits packet link port out h r found.Cut e = tt

-- an item that is taken
pub record TakenSeen (s : Session) (o : List ℕ) (n : ℕ) (z : Session) : Type 0 where
  pub some : 0 < n
  pub inside : n ≤ length o
  pub refusal : z.refusal ≡ None
  pub packets : z.packets ≤ s.packets + 1
  pub fragments : z.fragments ≤ s.fragments + 1
  pub cut : z.cut ≤ s.cut + 1

-- what stands at the front of an open walk
abbrev pub Seen : Session → List ℕ → Front Session → Type 0
Seen s o short = length o < max_item
Seen s o (over z) = (x : ℕ) × (z ≡ refused_by s x)
Seen s o (taken n t z) = TakenSeen s o n z

found-seen : (s : Session) (o : List ℕ) (n : ℕ) (packet : List ℕ) (f : Found) → 0 < n → n ≤ length o → Seen s o (found_front s n packet f)
found-seen s o n packet (found.Frame a b) p l = record { some = p; inside = l; refusal = refl; packets = omega arith; fragments = omega arith; cut = omega arith }
found-seen s o n packet found.Passed p l = record { some = p; inside = l; refusal = refl; packets = omega arith; fragments = omega arith; cut = omega arith }
found-seen s o n packet found.Fragment p l = record { some = p; inside = l; refusal = refl; packets = omega arith; fragments = omega arith; cut = omega arith }
found-seen s o n packet found.Cut p l = record { some = p; inside = l; refusal = refl; packets = omega arith; fragments = omega arith; cut = omega arith }

packet-seen : (port : ℕ) (s : Session) (o : List ℕ) (n link : ℕ) (packet : List ℕ) → 0 < n → n ≤ length o → Seen s o (packet_front port s n link packet)
packet-seen port s o n link packet p l = go (is_link_taken link)
  where
    go : (b : Bool) → Seen s o (cond b (found_front s n packet (datagram_in packet link port)) (over (refused_by s link_not_taken)))
    go true = found-seen s o n packet (datagram_in packet link port) p l
    go false = (link_not_taken, refl)

moved-seen : (s : Session) (o : List ℕ) (n : ℕ) (st : State) → 0 < n → n ≤ length o → TakenSeen s o n (moved s st)
moved-seen s o n st p l = record { some = p; inside = l; refusal = refl; packets = omega arith; fragments = omega arith; cut = omega arith }

item-seen : (port : ℕ) (s : Session) (o : List ℕ) (i : Read) → Fits i (length o) → Seen s o (item_front port s o i)
item-seen port s o (Err unread.Short) f = f
item-seen port s o (Err (unread.Refused x)) f = (x, refl)
item-seen port s o (Ok (item.Head c n)) f = moved-seen s o n _ f.0 f.1
item-seen port s o (Ok (item.Interface l k n)) f = moved-seen s o n _ f.0 f.1
item-seen port s o (Ok (item.Packet p n)) f = packet-seen port s o n p.link (packet_in p o) f.0 f.1
item-seen port s o (Ok (item.Other n)) f = moved-seen s o n _ f.0 f.1

-- a walk that is over stays so
over-stays : (port : ℕ) (z : Session) (x : ℕ) → z.refusal ≡ Some x → Stays (frame_walk port) z
over-stays port z x e = record { front = λ o. front-refused port z o x e; closing = λ o. refl; last = λ o. last-refused z (length o) x e }

module _ (port : ℕ) (s : Session) (o : List ℕ) where
  abbrev here : Front Session
  here = session_front port s o

  -- what stands at the front, by whether the walk is over
  seen_by : (f : Front Session) → here ≡ f → (P : Front Session → Type 0) → (s.refusal ≡ None → Seen s o f → P f) → ((x : ℕ) → s.refusal ≡ Some x → P (over s)) → P f
  seen_by f e P g h = go s.refusal refl
    where
      go : (k : Option ℕ) → s.refusal ≡ k → P f
      go None q = g q (subst (Seen s o) (sym (front-open port s o q) ∙ e) (item-seen port s o (step_of s.state o) (step_fits s.state o)))
      go (Some x) q = subst P (sym (front-refused port s o x q) ∙ e) (h x q)

  abbrev IsTaken : Front Session → Type 0
  IsTaken short = Unit {0}
  IsTaken (over z) = Stays (frame_walk port) z
  IsTaken (taken n t z) = TakenSeen s o n z

  fronts : IsTaken here
  fronts = seen_by here refl IsTaken (still here) (λ x q. over-stays port s x q)
    where
      still : (f : Front Session) → s.refusal ≡ None → Seen s o f → IsTaken f
      still short q y = tt
      still (over z) q y = over-stays port z y.0 (ap (λ (k : Session). k.refusal) y.1)
      still (taken n t z) q y = y

  pub taken-seen : (n : ℕ) (t : List ℕ) (z : Session) → here ≡ taken n t z → TakenSeen s o n z
  taken-seen n t z e = subst IsTaken e fronts

  pub over-seen : (z : Session) → here ≡ over z → Stays (frame_walk port) z
  over-seen z e = subst IsTaken e fronts

  -- no whole item: fewer octets than the longest has
  abbrev IsShort : Front Session → Type 0
  IsShort short = length o < max_item
  IsShort (over z) = Unit {0}
  IsShort (taken n t z) = Unit {0}

  pub short-seen : here ≡ short → length o < max_item
  short-seen e = subst IsShort e (seen_by here refl IsShort (still here) (λ x q. tt))
    where
      still : (f : Front Session) → s.refusal ≡ None → Seen s o f → IsShort f
      still short q y = y
      still (over z) q y = tt
      still (taken n t z) q y = tt

  -- a packet is no more than it was
  abbrev Counts : Front Session → Type 0
  Counts short = Unit {0}
  Counts (over z) = (z.packets ≡ s.packets) × (z.fragments ≡ s.fragments) × (z.cut ≡ s.cut)
  Counts (taken n t z) = Unit {0}

  pub over-counts : (z : Session) → here ≡ over z → (z.packets ≡ s.packets) × (z.fragments ≡ s.fragments) × (z.cut ≡ s.cut)
  over-counts z e = subst Counts e (seen_by here refl Counts (still here) (λ x q. (refl, refl, refl)))
    where
      still : (f : Front Session) → s.refusal ≡ None → Seen s o f → Counts f
      still short q y = tt
      still (over w) q y = (ap (λ (k : Session). k.packets) y.1, ap (λ (k : Session). k.fragments) y.1, ap (λ (k : Session). k.cut) y.1)
      still (taken n t w) q y = tt

-- octets behind an item change nothing of what it gives
packet-longer : (p : Place) (n : ℕ) (o more : List ℕ) → n ≤ length o → p.at + p.size ≤ n → packet_in p (o ++ more) ≡ packet_in p o
packet-longer p n o more l h =
    ap (take p.size) (drop-append-le p.at o more (omega arith)) ∙ take-append-le p.size (drop p.at o) more (rw (length-drop p.at o) (omega arith))

item-longer : (port : ℕ) (s : Session) (o more : List ℕ) (i : Read) → Fits i (length o) → item_front port s (o ++ more) i ≡ item_front port s o i
item-longer port s o more (Err unread.Short) f = refl
item-longer port s o more (Err (unread.Refused x)) f = refl
item-longer port s o more (Ok (item.Head c n)) f = refl
item-longer port s o more (Ok (item.Interface l k n)) f = refl
item-longer port s o more (Ok (item.Packet p n)) f = ap (packet_front port s n p.link) (packet-longer p n o more f.1 f.2)
item-longer port s o more (Ok (item.Other n)) f = refl

is-told : (port : ℕ) (s : Session) (o : List ℕ) (i : Read) → (item_front port s o i ≡ short → ⊥) → IsTold i
is-told port s o (Err unread.Short) h = absurd (h refl)
is-told port s o (Err (unread.Refused x)) h = tt
is-told port s o (Ok (item.Head c n)) h = tt
is-told port s o (Ok (item.Interface l k n)) h = tt
is-told port s o (Ok (item.Packet p n)) h = tt
is-told port s o (Ok (item.Other n)) h = tt

front-longer : (port : ℕ) (s : Session) (o more : List ℕ) → (session_front port s o ≡ short → ⊥) → session_front port s (o ++ more) ≡ session_front port s o
front-longer port s o more h = go s.refusal refl
  where
    go : (k : Option ℕ) → s.refusal ≡ k → session_front port s (o ++ more) ≡ session_front port s o
    go None q =
        let a = front-open port s o q in
        let i = step_of s.state o in
        let told = is-told port s o i (λ e. h (a ∙ e)) in
        front-open port s (o ++ more) q ∙ ap (item_front port s (o ++ more)) (step-longer o more s.state told) ∙ item-longer port s o more i (step_fits s.state o) ∙ sym a
    go (Some x) q = front-refused port s (o ++ more) x q ∙ sym (front-refused port s o x q)

-- A CAPTURE IS WALKED LAWFULLY
pub lawful : (port : ℕ) → Lawful (frame_walk port)
lawful port =
    record {
      some = λ s o n t z e. (taken-seen port s o n t z e).some;
      inside = λ s o n t z e. (taken-seen port s o n t z e).inside;
      taken-longer = λ s o more n t z e. front-longer port s o more (λ q. let y : ◌≡◌ {A = ℕ} 0 1 = cc in omega arith) ∙ e;
      stays = λ s o z e. over-seen port s o z e;
      over-longer = λ s o more z e. front-longer port s o more (λ q. let y : ◌≡◌ {A = ℕ} 0 1 = cc in omega arith) ∙ e;
    }

-- what is answered for the item at the front, where there is room for any frame
pub answers : (port : ℕ) (s : Session) (o out : List ℕ) → max_frame ≤ length out → (r : Reply) → r ≡ reply_of s (session_front port s o) → (out' : List ℕ)
    → out' ≡ out_after (session_front port s o) out → length out' ≡ length out → Answers (frame_walk port) max_item s o out r.step r.session out'
answers port s o out h r e out' q l =
    subst (λ (y : Reply). Answers (frame_walk port) max_item s o out y.step y.session out') (sym e) (go (session_front port s o) refl q)
  where
    go : (f : Front Session) → session_front port s o ≡ f → out' ≡ out_after f out → Answers (frame_walk port) max_item s o out (reply_of s f).step (reply_of s f).session out'
    go short f q = subst (λ (y : List ℕ). Answers (frame_walk port) max_item s o out step.Short s y) (sym q) (is-short (frame_walk port) (le-leb max_frame (length out) h) f (short-seen port s o f))
    go (over z) f q = subst (λ (y : List ℕ). Answers (frame_walk port) max_item s o out step.Over z y) (sym q) (is-over (frame_walk port) (le-leb max_frame (length out) h) f)
    go (taken n t z) f q =
        is-taken (frame_walk port) (le-leb max_frame (length out) h) f refl refl refl q (taken-seen port s o n t z f).inside (omega (arith, l, ap length q, length-append t (drop (length t) out)))
