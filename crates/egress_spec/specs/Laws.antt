-- What 02, K10 says of the calls, over their answers alone: no state and no slot is named.
use Rattle.std.specs.Prelude.{◌≡◌, ◌⊎◌, true, cond, ◌&&◌, List, [], ◌∷◌, ℕ, zero, suc, ◌+◌, ◌-◌, ◌%◌, ◌≤◌, ◌<◌, eqb, leb, ltb, length, get_or, drop}
use Rattle.wire_spec.specs.Result.{Result, Err, Ok, judge}
use Rattle.egress_spec.specs.declared.state.State.{State}
use Rattle.egress_spec.specs.Queues.{channels, max_held, slot_size, last_channel, offer_checks, Call, offering, taking, Answer, copied, handed, no}
use Rattle.egress_spec.specs.Places.{held, slot_at}
use Rattle.egress_spec.specs.Calls.{answers_of}

-- A packet handed out, and its channel.
pub record Handed : Type 0 where
  pub channel : ℕ
  pub packet : List ℕ

abbrev pub if_handed : Answer → List Handed → List Handed
if_handed copied l = l
if_handed (handed c p) l = record { channel = c; packet = p } ∷ l
if_handed (no x) l = l

-- what the successful takes among the answers handed out, in order
abbrev pub handed_out : List Answer → List Handed
handed_out [] = []
handed_out (a ∷ l) = if_handed a (handed_out l)

-- it is among the first `n` of them
abbrev pub Within : ℕ → Handed → List Handed → Type 0
Within zero x l = ⊥
Within (suc n) x [] = ⊥
Within (suc n) x (h ∷ l) = (h ≡ x) ⊎ Within n x l

-- how many takes among the calls are lent a slot's octets, for which no packet is too long
abbrev pub roomy_takes : List Call → ℕ
roomy_takes [] = 0
roomy_takes (offering c p ∷ ks) = roomy_takes ks
roomy_takes (taking out ∷ ks) = cond (leb slot_size (length out)) (suc (roomy_takes ks)) (roomy_takes ks)

-- the packets handed out from channel `c`, in order
abbrev pub if_from : ℕ → Answer → List (List ℕ) → List (List ℕ)
if_from c copied l = l
if_from c (handed d p) l = cond (eqb d c) (p ∷ l) l
if_from c (no x) l = l

abbrev pub handed_from : ℕ → List Answer → List (List ℕ)
handed_from c [] = []
handed_from c (a ∷ l) = if_from c a (handed_from c l)

-- the packets copied in for channel `c`, in order
abbrev pub if_copied : ℕ → Call → Answer → List (List ℕ) → List (List ℕ)
if_copied c (offering d p) copied l = cond (eqb d c) (p ∷ l) l
if_copied c (offering d p) (handed e q) l = l
if_copied c (offering d p) (no x) l = l
if_copied c (taking out) a l = l

abbrev pub copied_to : ℕ → List Call → List Answer → List (List ℕ)
copied_to c [] l = []
copied_to c (k ∷ ks) [] = []
copied_to c (k ∷ ks) (a ∷ l) = if_copied c k a (copied_to c ks l)

-- those that are still to be handed out, the channel's head first
abbrev pub waiting : ℕ → List Call → List Answer → List (List ℕ)
waiting c ks l = drop (length (handed_from c l)) (copied_to c ks l)

-- What one channel sees of a run: an offer to it, of so many octets, or that its head was handed out.
pub data Event : Type 0 where
  offered : ℕ → Event
  left : Event

-- "that channel's own earlier offers and takes"
abbrev pub own_of : ℕ → Call → Answer → List Event → List Event
own_of c (offering d p) a l = cond (eqb d c) (offered (length p) ∷ l) l
own_of c (taking out) copied l = l
own_of c (taking out) (handed d p) l = cond (eqb d c) (left ∷ l) l
own_of c (taking out) (no x) l = l

abbrev pub own : ℕ → List Call → List Answer → List Event
own c [] l = []
own c (k ∷ ks) [] = []
own c (k ∷ ks) (a ∷ l) = own_of c k a (own c ks l)

-- how many packets the channel holds, by that alone
abbrev pub fits : ℕ → ℕ → ℕ
fits n h = cond ((leb 1 n && leb n slot_size) && ltb h max_held) (suc h) h

abbrev pub holds : ℕ → List Event → ℕ
holds h [] = h
holds h (offered n ∷ es) = holds (fits n h) es
holds h (left ∷ es) = holds (h - 1) es

abbrev pub offer_answer : {A : Type 0} → Result A → Answer
offer_answer (Err x) = no x
offer_answer (Ok a) = copied

-- what an offer of `n` octets to channel `c`, which holds `h`, is answered
abbrev pub answer_to : (c n h : ℕ) → Answer
answer_to c n h = offer_answer (judge {A = ℕ} 0 (offer_checks c n h) (Ok 0))

-- the channel served last; before any the last one, so that the circle starts "at first with 0"
abbrev pub served_before : ℕ → List Answer → ℕ
served_before d [] = d
served_before d (copied ∷ l) = served_before d l
served_before d (handed c p ∷ l) = served_before c l
served_before d (no x ∷ l) = served_before d l

abbrev pub served_last : List Answer → ℕ
served_last l = served_before last_channel l

-- the channel that a take comes to after passing over `i` others
abbrev pub in_circle : ℕ → ℕ → ℕ
in_circle last i = (last + 1 + i) % channels

-- "first in first out within a channel, the channels in a circle starting after the one served last, .. passing over empty ones":
-- what a take behind the calls `before` hands out
pub record InTurn (m : List ℕ) (before : List Call) (c : ℕ) (p : List ℕ) : Type 0 where
  pub passes : ℕ
  pub few : passes < channels
  pub channel : c ≡ in_circle (served_last (answers_of m before)) passes
  pub empty : (i : ℕ) → i < passes → waiting (in_circle (served_last (answers_of m before)) i) before (answers_of m before) ≡ []
  pub rest : List (List ℕ)
  pub head : waiting c before (answers_of m before) ≡ p ∷ rest

-- 64's cases of a state, in other words than `sound`'s; every slot is in range, held or not: "over eight held, a held length outside 1 to 1,024, a slot held twice or a number out of range"
pub record SoundState (st : State) : Type 0 where
  pub starts : (c : ℕ) → c < 8 → get_or st.heads c 0 ≤ 7
  pub counts : (c : ℕ) → c < 8 → get_or st.counts c 0 ≤ 8
  pub next : st.next ≤ 7
  pub slots : (k : ℕ) → k < 64 → slot_at st k < 64
  pub lengths : (k : ℕ) → k < 64 → held st k ≡ true → (1 ≤ get_or st.lengths k 0) × (get_or st.lengths k 0 ≤ 1024)
  pub once : (j k : ℕ) → j < 64 → k < 64 → held st j ≡ true → held st k ≡ true → slot_at st j ≡ slot_at st k → j ≡ k

-- "63 nothing waits": no channel has a packet left
abbrev pub NothingWaits : (m : List ℕ) (before : List Call) → Type 0
NothingWaits m before = (c : ℕ) → c < channels → waiting c before (answers_of m before) ≡ []
