-- A stream recorded whole is archived whole, but for its first field.
-- All its packets are fresh, one after the other.
use mathlib.Core.Path.{◌≡◌, refl, ap, ap₂, sym, subst, ◌∙◌}
use mathlib.Core.Bool.{Bool, true, false, cond, ◌||◌}
use mathlib.Core.List.{List, [], ◌∷◌, map}
use Prim.Native.Nat.{ℕ, zero, suc, ◌+◌, ◌≤◌, ◌<◌}
use native.Mathlib.Omega.{arith}
use native.Mathlib.Nat.{add-zero}
use borrow.Author.Tests.{lt-ltb, eqb-false}
use lib.Dec.{eqb}
use lib.ListN.{length, get_or, length-append}
use Rattle.wire_spec.specs.Anc.{Each}
use Rattle.wire_spec.specs.Cells.{all_below}
use Rattle.wire_spec.proofs.ResultLaws.{and_both}
use Rattle.fieldfile_spec.specs.File.{FieldContent, end_of_file}
use Rattle.depacketizer_spec.specs.Stream.{Part, Field, parts, Sent, sent, sent_of, no_packet, Stream, nth, Arriving, packet, Calls, none, ◌before◌, octets_of, arrived, fresh, elem, one_before, all_from, NearLast, Near}
use Rattle.depacketizer_spec.proofs.WalkLaws.{length-sent}
use Rattle.archive_laws.specs.Archive.{OpenedByStream, Recorded, WholeRecording, archived, as_written, calls_on}
use Rattle.archive_laws.proofs.SentLaws.{archive-as-sent}

-- the packets before packet `n`, the latest first; `n` packets from packet `k` on, in order
abbrev pub down_from : ℕ → List ℕ
down_from zero = []
down_from (suc n) = n ∷ down_from n

abbrev pub in_order_from : (k n : ℕ) → List Arriving
in_order_from k zero = []
in_order_from k (suc n) = packet k ∷ in_order_from (suc k) n

all-below : (k n : ℕ) → n ≤ k → all_below k (down_from n) ≡ true
all-below k zero h = refl
all-below k (suc n) h = and_both (lt-ltb n k h) (all-below k n (omega arith))

near_next : (k : ℕ) → NearLast (packet k) (down_from k)
near_next zero = tt
near_next (suc k) = (omega arith, omega arith)

record Ordered (cs : Calls) (k : ℕ) : Type 0 where
  pub arrived-are : arrived cs ≡ down_from k
  pub fresh-are : fresh cs ≡ down_from k
  pub near : Near cs

ordered : (n k : ℕ) (cs : Calls) → Ordered cs k → Ordered (calls_on cs (in_order_from k n)) (k + n)
ordered zero k cs o = subst (Ordered cs) (sym (add-zero k)) o
ordered (suc n) k cs o =
    let d : Calls = cs before record { arriving = packet k; store = [] } in
    let next : Ordered d (suc k) =
    record {
      arrived-are = ap (λ (l : List ℕ). k ∷ l) o.arrived-are;
      fresh-are =
          ap₂ (λ (js l : List ℕ). cond (all_below k js) (k ∷ l) l) o.arrived-are o.fresh-are
          ∙ ap (λ (b : Bool). cond b (k ∷ down_from k) (down_from k)) (all-below k k (omega arith));
      near = (o.near, subst (NearLast (packet k)) (sym o.fresh-are) (near_next k));
    } in
    let e : suc k + n ≡ k + suc n = omega arith in
    subst (Ordered (calls_on cs (in_order_from k (suc n)))) e (ordered n (suc k) d next)

-- every packet before `n` is among them
elem-down : (i n : ℕ) → i < n → elem i (down_from n) ≡ true
elem-down i zero h = absurd (omega arith)
elem-down i (suc n) h = go (elem-down i n) (eqb i n) refl
  where
    go : (i < n → elem i (down_from n) ≡ true) → (b : Bool) → eqb i n ≡ b → eqb i n || elem i (down_from n) ≡ true
    go ih true e = rw e
    go ih false e = rw e (ih (let q = eqb-false i n e in omega (arith, h, q)))

all-from : (k n : ℕ) (ps : List Part) → k + length ps ≤ n → all_from k ps (down_from n) ≡ true
all-from k n [] h = refl
all-from k n (p ∷ ps) h = and_both (elem-down k n (omega arith)) (all-from (suc k) n ps (omega arith))

one-before : (k n : ℕ) → k < n → one_before (suc k) (down_from n) ≡ true
one-before k n h = elem-down k n h

length-all : (x : Field) (xs : List Field) → length (sent (x ∷ xs)) ≡ length (parts x) + length (sent xs)
length-all x xs = length-append (sent_of x [] (parts x)) (sent xs) ∙ ap (λ (m : ℕ). m + length (sent xs)) (length-sent x [] (parts x))

-- so every field behind a first one is archived
archived-all : (k n : ℕ) (xs : List Field) → suc k + length (sent xs) ≤ n → archived (suc k) xs (down_from n) ≡ map as_written xs
archived-all k n [] h = refl
archived-all k n (x ∷ xs) h =
    let l = length-all x xs in
    let e : suc k + length (parts x) ≡ suc (k + length (parts x)) = omega arith in
    rw (one-before k n (omega arith), all-from (suc k) n (parts x) (omega (arith, l)))
    (ap (λ (ks : List FieldContent). as_written x ∷ ks) (ap (λ (m : ℕ). archived m xs (down_from n)) e ∙ archived-all (k + length (parts x)) n xs (omega (arith, l))))

-- the octets of all packets, in order
module _ (s : Stream) where
  octets-from : (k : ℕ) (ps : List Sent) → ((i : ℕ) → nth s (k + i) ≡ get_or ps i no_packet) → map (octets_of s) (in_order_from k (length ps)) ≡ map (λ (x : Sent). x.part.octets) ps
  octets-from k [] h = refl
  octets-from k (p ∷ ps) h =
      ap₂ ◌∷◌ (ap (λ (x : Sent). x.part.octets) (ap (nth s) (sym (add-zero k)) ∙ h 0))
      (octets-from (suc k) ps (λ i. ap (nth s) (let e : suc k + i ≡ k + suc i = omega arith in e) ∙ h (suc i)))

  recorded-from : (k n : ℕ) → k + n ≤ length (sent s.fields) → Each (Recorded s) (in_order_from k n)
  recorded-from k zero h = tt
  recorded-from k (suc n) h = (omega arith, recorded-from (suc k) n (omega arith))

opened-from : (s : Stream) (n : ℕ) → OpenedByStream s (in_order_from 0 n)
opened-from s zero = tt
opened-from s (suc n) = tt

-- A STREAM RECORDED WHOLE
pub whole-recording : WholeRecording
whole-recording s w first fields e input below is store room =
    let n = length (sent s.fields) in
    let o = ordered n 0 none (record { arrived-are = refl; fresh-are = refl; near = tt }) in
    let z : 0 + n ≡ n = omega arith in
    let octets = octets-from s 0 (sent s.fields) (λ i. ap (nth s) (let e : 0 + i ≡ i = omega arith in e)) in
    let l : n ≡ length (parts first) + length (sent fields) = ap (λ (xs : List Field). length (sent xs)) e ∙ length-all first fields in
    let first_out : archived 0 s.fields (down_from n) ≡ map as_written fields =
    ap (λ (xs : List Field). archived 0 xs (down_from n)) e ∙ ap (λ (m : ℕ). archived m fields (down_from n)) (let e : 0 + length (parts first) ≡ suc (length first.rest) = omega arith in e)
    ∙ archived-all (length first.rest) n fields (omega (arith, l)) in
    archive-as-sent s w (in_order_from 0 n) (recorded-from s 0 n (omega arith)) (opened-from s n) o.near input below (is ∙ sym octets) store room
    ∙ ap (λ (ks : List FieldContent). record { fields = ks; end = end_of_file }) (ap (archived 0 s.fields) (o.fresh-are ∙ ap down_from z) ∙ first_out)
