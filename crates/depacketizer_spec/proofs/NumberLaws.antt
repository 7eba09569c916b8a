-- Which numbers an arrival is refused with before its place among the packets is looked at: 1 to 13, 15 and 16, 30 or 31.
-- By the checks in their order, each with its number.
use mathlib.Core.Path.{◌≡◌, refl, ◌∙◌, ap}
use mathlib.Core.Bool.{Bool, true, false, ◌&&◌, ◌||◌}
use mathlib.Core.List.{List, [], ◌∷◌}
use mathlib.Core.Logic.{inl, inr}
use Prim.Native.Nat.{ℕ, ◌^◌, ◌<◌}
use native.Mathlib.Omega.{arith}
use lib.Dec.{eqb, leb}
use lib.ListN.{length}
use borrow.Author.Tests.{eq-eqb, ne_eqb}
use Rattle.wire_spec.specs.declared.refusal.Refusal.{Refusal}
use Rattle.wire_spec.specs.Layout.{Layout}
use Rattle.wire_spec.specs.Result.{Result, Err, Ok}
use Rattle.wire_spec.specs.Anc.{anc_checks, read_run}
use Rattle.wire_spec.specs.Packet.{Packet, Content, content, anc_count, payload_at, packet_read, header_checks, padding_checks, payload_checks, read_records, read_packet, read_content}
use Rattle.wire_spec.proofs.BitLaws.{bits_at-lt}
use Rattle.wire_spec.proofs.ResultLaws.{Numbered, numbers, judge-numbered, then-numbered, accepted-inj, judge-accepts, then-accepts}
use Rattle.wire_spec.proofs.AncLaws.{run-numbered}
use Rattle.depacketizer_spec.specs.Step.{admit}
use Rattle.depacketizer_spec.specs.Stream.{Foreign}

-- "1 to 13", and 15 and 16, "counted with 1 to 13" (02, K3 and K5)
abbrev pub is_reading : ℕ → Bool
is_reading n = (leb 1 n && leb n 13) || (eqb n 15 || eqb n 16)

anc-numbers : (L : Layout) (s : List ℕ) → numbers is_reading (anc_checks L s) ≡ true
unfolding anc_checks
anc-numbers L s = refl

records-numbered : (L : Layout) (s : List ℕ) → Numbered is_reading (read_records L s)
unfolding read_records
records-numbered L s =
    then-numbered is_reading (read_run L 0 (anc_count s) _) _ (run-numbered is_reading L (anc-numbers L) 0 (anc_count s) _)
    (λ q. judge-numbered is_reading 0 ((eqb (length q.1) 0, 13) ∷ []) (Ok q.0) refl tt)

packet-numbered : (L : Layout) (s : List ℕ) → Numbered is_reading (read_packet L s)
unfolding read_packet header_checks padding_checks payload_checks
packet-numbered L s =
    judge-numbered is_reading 0 (header_checks s) _ refl
    (judge-numbered is_reading 0 (padding_checks L s) _ refl
    (judge-numbered is_reading 0 (payload_checks L s) _ refl
    (then-numbered is_reading (read_records L s) _ (records-numbered L s) (λ rs. tt))))

-- the reader refuses by these
pub content-numbered : (L : Layout) (s : List ℕ) → Numbered is_reading (read_content L s)
unfolding read_content
content-numbered L s = then-numbered is_reading (read_packet L s) _ (packet-numbered L s) (λ k. tt)

-- "1 to 13, 30 or 31"
abbrev pub is_admission : ℕ → Bool
is_admission n = is_reading n || (eqb n 30 || eqb n 31)

admission : {A : Type 0} (r : Result A) → Numbered is_reading r → Numbered is_admission r
admission (Err x) h = rw h
admission (Ok a) h = tt

-- of the opened source and type
pub admit-own : (L : Layout) (source type : ℕ) (o : List ℕ) (k : Content) → read_content L o ≡ Ok k → k.source ≡ source → k.type ≡ type → admit L source type o ≡ Ok k
admit-own L source type o k e s t = rw (e, eq-eqb k.source source s, eq-eqb k.type type t)

-- refused, or of another source or type
pub admit-foreign : (L : Layout) (source type : ℕ) (o : List ℕ)
    → Foreign source type L o → (x : Refusal) × (admit L source type o ≡ Err x)
admit-foreign L source type o (inl h) = (h.0, rw h.1)
admit-foreign L source type o (inr (k, e, inl n)) = (record { number = 30; index = 0 }, rw (e, ne_eqb k.source source n))
admit-foreign L source type o (inr (k, e, inr n)) = go (eqb k.source source) refl
  where
    go : (b : Bool) → eqb k.source source ≡ b → (x : Refusal) × (admit L source type o ≡ Err x)
    go true q = (record { number = 31; index = 0 }, rw (e, q, ne_eqb k.type type n))
    go false q = (record { number = 30; index = 0 }, rw (e, q))

-- an arrival is refused by them, 30 or 31
pub admit-numbered : (L : Layout) (source type : ℕ) (octets : List ℕ) → Numbered is_admission (admit L source type octets)
admit-numbered L source type octets =
    then-numbered is_admission (read_content L octets) _ (admission (read_content L octets) (content-numbered L octets))
    (λ k. judge-numbered is_admission 0 ((eqb k.source source, 30) ∷ (eqb k.type type, 31) ∷ []) (Ok k) refl tt)

-- a packet's number has 32 bits
pub number_small : (L : Layout) (s : List ℕ) (k : Content) → read_content L s ≡ Ok k → k.number < 2 ^ 32
unfolding read_content read_packet packet_read
number_small L s k e =
    let a = then-accepts (read_packet L s) _ k e in
    let b = judge-accepts 0 (header_checks s) _ a.0 a.1 in
    let c = judge-accepts 0 (padding_checks L s) _ a.0 b.1 in
    let d = judge-accepts 0 (payload_checks L s) _ a.0 c.1 in
    let r = then-accepts (read_records L s) _ a.0 d.1 in
    let is : packet_read L r.0 s ≡ a.0 = accepted-inj r.2 in
    let n : (content (packet_read L r.0 s)).number ≡ k.number = ap (λ (p : Packet). (content p).number) is ∙ ap (λ (q : Content). q.number) (accepted-inj a.2) in
    omega (arith, n, bits_at-lt s (payload_at s) 16, bits_at-lt s 16 16)
