-- What is to be handed out, told packet by packet in sending order, is what is expected field by field.
-- By recursion on the packets before one: whether the gathering is unbroken there, and what was handed out.
use mathlib.Core.Path.{◌≡◌, refl, ◌∙◌, ap, sym}
use mathlib.Core.Bool.{Bool, true, false, ◌&&◌, ◌||◌, and-true, and-false, and_comm, and_assoc}
use mathlib.Core.List.{List, [], ◌∷◌, ◌++◌, append_assoc, append-nil, nil≢cons, head-eq_of_cons-eq, tail-eq_of_cons-eq}
use Prim.Native.Nat.{ℕ, zero, suc, ◌+◌, ◌≤◌, ◌<◌}
use native.Mathlib.Omega.{arith}
use native.Mathlib.Nat.{add-zero, zero-add, suc-add}
use native.Mathlib.Numerals.{add-one}
use lib.ListN.{length, drop, get_or, length-append}
use borrow.Author.Tests.{ne_eqb}
use Rattle.depacketizer_spec.specs.Stream.{Part, Field, parts, Sent, is_last, sent, sent_of, no_packet, elem, all_from, one_before, only_if, expected, Handed}

-- packet `n` of a list of sent packets
abbrev pub packet_at : List Sent → ℕ → Sent
packet_at ps n = get_or ps n no_packet

-- whether nothing is missing just before packet `n`: the packet before it is fresh, and ends a field or has nothing missing
-- before it
abbrev pub unbroken : List Sent → List ℕ → ℕ → Bool
unbroken ps l zero = false
unbroken ps l (suc n) = elem n l && (is_last (packet_at ps n) || unbroken ps l n)

-- what the packets before `n` hand out
abbrev pub handed_before : List Sent → List ℕ → ℕ → List Handed
handed_before ps l zero = []
handed_before ps l (suc n) =
    handed_before ps l n ++ only_if (elem n l && (is_last (packet_at ps n) && unbroken ps l n)) (packet_at ps n).field

elem-other : (i n : ℕ) (l : List ℕ) → n < i → elem n (i ∷ l) ≡ elem n l
elem-other i n l h = rw (ne_eqb n i (omega arith))

-- a fresh packet changes nothing before it
pub unbroken-below : (ps : List Sent) (l : List ℕ) (i n : ℕ) → n ≤ i → unbroken ps (i ∷ l) n ≡ unbroken ps l n
unbroken-below ps l i zero h = refl
unbroken-below ps l i (suc n) h = rw (elem-other i n l h, unbroken-below ps l i n (omega arith))

-- a fresh packet changes nothing handed out before it
pub handed-below : (ps : List Sent) (l : List ℕ) (i n : ℕ) → n ≤ i → handed_before ps (i ∷ l) n ≡ handed_before ps l n
handed-below ps l i zero h = refl
handed-below ps l i (suc n) h =
    rw (elem-other i n l h, unbroken-below ps l i n (omega arith), handed-below ps l i n (omega arith))

-- no packet from `t` on is fresh
abbrev pub NoneFrom : ℕ → List ℕ → Type 0
NoneFrom t l = (n : ℕ) → t ≤ n → elem n l ≡ false

-- nothing is handed out where no packet is fresh
pub handed-idle : (ps : List Sent) (l : List ℕ) (t d : ℕ) → NoneFrom t l → handed_before ps l (d + t) ≡ handed_before ps l t
handed-idle ps l t zero h = rw (zero-add t)
handed-idle ps l t (suc d) h = rw (suc-add d t, h (d + t) (omega arith)) (append-nil _ ∙ handed-idle ps l t d h)

-- behind a packet that is not fresh something is missing
pub unbroken-idle : (ps : List Sent) (l : List ℕ) (t n : ℕ) → t < n → NoneFrom t l → unbroken ps l n ≡ false
unbroken-idle ps l t zero h e = refl
unbroken-idle ps l t (suc n) h e = rw (e n (omega arith))

-- the packet that the rest of a list begins with
pub at_drop : (ps : List Sent) (k : ℕ) (x : Sent) (xs : List Sent) → drop k ps ≡ x ∷ xs → (packet_at ps k ≡ x) × (drop (suc k) ps ≡ xs)
at_drop [] zero x xs e = absurd (nil≢cons e)
at_drop [] (suc k) x xs e = absurd (nil≢cons e)
at_drop (p ∷ ps) zero x xs e = (head-eq_of_cons-eq e, tail-eq_of_cons-eq e)
at_drop (p ∷ ps) (suc k) x xs e = at_drop ps k x xs e

and-turn : (a g r : Bool) → a && g && r ≡ g && (a && r)
and-turn a g r = rw (and_comm a g) (and_assoc g a r)

and-turn-last : (a g : Bool) → a && g ≡ g && (a && true)
and-turn-last a g = rw (and-true a) (and_comm a g)

handed-within : (ps : List Sent) (l : List ℕ) (k : ℕ) → is_last (packet_at ps k) ≡ false → handed_before ps l (suc k) ≡ handed_before ps l k
handed-within ps l k e = rw (e, and-false (elem k l)) (append-nil _)

-- the packets of a field, from one in it on: what they hand out, and what comes behind them
field-handed : (ps : List Sent) (l : List ℕ) (x : Field) (b : List Part) (q : Part) (qs : List Part) (rest : List Sent) (k : ℕ) (g : Bool)
    → drop k ps ≡ sent_of x b (q ∷ qs) ++ rest → unbroken ps l k ≡ g
    → (handed_before ps l (k + suc (length qs)) ≡ handed_before ps l k ++ only_if (g && all_from k (q ∷ qs) l) x)
    × (drop (k + suc (length qs)) ps ≡ rest)
    × (unbroken ps l (k + suc (length qs)) ≡ one_before (k + suc (length qs)) l)
field-handed ps l x b q [] rest k g e h =
    let p = at_drop ps k _ _ e in
    rw (add-one k) (rw (p.0, h, and-turn-last (elem k l) g), p.1, rw p.0 (and-true (elem k l)))
field-handed ps l x b q (q' ∷ qs) rest k g e h =
    let p = at_drop ps k _ _ e in
    let inner : is_last (packet_at ps k) ≡ false = rw p.0 in
    let more : k + suc (suc (length qs)) ≡ suc k + suc (length qs) = omega arith in
    let ih = field-handed ps l x (b ++ (q ∷ [])) q' qs rest (suc k) (elem k l && g) p.1 (rw (inner, h)) in
    rw more
    (ih.0 ∙ rw (handed-within ps l k inner, and-turn (elem k l) g (all_from (suc k) (q' ∷ qs) l)), ih.1, ih.2)

pub length-sent : (x : Field) (b ps : List Part) → length (sent_of x b ps) ≡ length ps
length-sent x b [] = refl
length-sent x b (p ∷ ps) = ap suc (length-sent x (b ++ (p ∷ [])) ps)

fields-handed : (ps : List Sent) (l : List ℕ) (xs : List Field) (k : ℕ) → drop k ps ≡ sent xs → unbroken ps l k ≡ one_before k l
    → handed_before ps l (k + length (sent xs)) ≡ handed_before ps l k ++ expected k xs l
fields-handed ps l [] k e h = rw (add-zero k) (sym (append-nil _))
fields-handed ps l (x ∷ xs) k e h =
    let p = field-handed ps l x [] x.first x.rest (sent xs) k (one_before k l) e h in
    let ih = fields-handed ps l xs (k + suc (length x.rest)) p.1 p.2 in
    let more : k + length (sent (x ∷ xs)) ≡ k + suc (length x.rest) + length (sent xs) =
    rw (length-append (sent_of x [] (parts x)) (sent xs), length-sent x [] (parts x)) (omega arith) in
    rw more (ih ∙ rw p.0 (append_assoc (handed_before ps l k) _ _))

-- what all packets hand out is what is expected
pub handed-all : (xs : List Field) (l : List ℕ) → handed_before (sent xs) l (length (sent xs)) ≡ expected 0 xs l
handed-all xs l = rw (← zero-add (length (sent xs))) (fields-handed (sent xs) l xs 0 refl refl)
