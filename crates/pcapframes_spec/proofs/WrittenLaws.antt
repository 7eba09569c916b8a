-- WHAT A CAPTURE HOLDS: of a capture as the drafts have it written, the payloads are those of its packets, in order.
-- Packet by packet.
use Rattle.std.specs.Prelude.{Ok, Err}
use mathlib.Core.Path.{◌≡◌, refl, ap, ◌∙◌}
use mathlib.Core.Bool.{Bool, true, cond}
use mathlib.Core.List.{List, [], ◌∷◌, ◌++◌, append_assoc}
use Prim.Native.Nat.{ℕ, zero, suc, ◌+◌, ◌%◌, ◌<◌}
use native.Mathlib.Omega.{arith}
use lib.ListN.{length, take, drop, get_or, length-append}
use lib.Seq.{drop_at, take-append_seam}
use Rattle.capture_spec.specs.declared.state.Order.{Order}
use Rattle.capture_spec.specs.declared.state.Order.TheVariants as order
use Rattle.capture_spec.specs.declared.state.Container.{Container}
use Rattle.capture_spec.specs.declared.state.Container.TheVariants as container
use Rattle.capture_spec.specs.Items.{Read}
use Rattle.capture_spec.specs.declared.state.Item.TheVariants as item
use Rattle.capture_spec.specs.declared.state.State.{State}
use Rattle.capture_spec.specs.Step.{behind, opened, step_in, step_of}
use Rattle.capture_spec.specs.Written.{enhanced_of, head_of, interface_of, magic_of, record_of, section_of}
use Rattle.capture_spec.proofs.WrittenLaws.{head_read, interface-read, packet-read, record-read, section-read, written-size}
use Rattle.capture_datagram.specs.Link.{datagram_in, is_link_taken}
use Rattle.pcapframes_spec.specs.Frames.{found_then, payloads_in, payloads_of, payloads_on}
use Rattle.pcapframes_spec.specs.Written.{BlocksFit, Captured, RecordsFit, blocks_of, payloads_among, pcap_of, pcapng_of, records_of}
use Rattle.capture_spec.specs.declared.state.Unread.TheVariants as unread

-- one item more
step-on : (port m : ℕ) (st : State) (o : List ℕ) (i : Read) → step_of st o ≡ i → payloads_in port (suc m) st o ≡ payloads_on port (payloads_in port m) st o i
unfolding payloads_in
step-on port m st o i e = ap (payloads_on port (payloads_in port m) st o) e

-- at the end there is none
ended : (port m : ℕ) (st : State) → step_of st [] ≡ Err unread.Short → payloads_in port m st [] ≡ []
unfolding payloads_in
ended port zero st e = refl
ended port (suc m) st e = ap (payloads_on port (payloads_in port m) st []) e

classic-end : (st : State) (o : Order) (link : ℕ) → st.container ≡ container.Classic o link → step_of st [] ≡ Err unread.Short
unfolding step_of
classic-end st o link e = ap (λ (c : Container). step_in c st []) e

section-end : (st : State) (o : Order) → st.container ≡ container.Section o → step_of st [] ≡ Err unread.Short
unfolding step_of
section-end st o e = ap (λ (c : Container). step_in c st []) e

-- a record: its packet, and what is behind it
record-length : (o : Order) (a b c : ℕ) (p : List ℕ) → length (record_of o a b c p) ≡ 16 + length p
record-length order.Big a b c p = omega arith
record-length order.Little a b c p = omega arith

record-packet : (o : Order) (a b c : ℕ) (p rest : List ℕ) → take (length p) (drop 16 (record_of o a b c p ++ rest)) ≡ p
record-packet order.Big a b c p rest = take-append_seam p rest
record-packet order.Little a b c p rest = take-append_seam p rest

-- a block: its packet, and what is behind it
block-length : (o : Order) (a b c : ℕ) (p more : List ℕ) → length (enhanced_of o 0 a b c p more) ≡ 32 + (length p + length more)
block-length o a b c p more = omega (arith, length-append (enhanced_of o 0 a b c p more) [], written-size 0 a b c p more [] o)

block-packet : (o : Order) (a b c : ℕ) (p more rest : List ℕ) → take (length p) (drop 28 (enhanced_of o 0 a b c p more ++ rest)) ≡ p
block-packet order.Big a b c p more rest = simp append_assoc (take-append_seam p _)
block-packet order.Little a b c p more rest = simp append_assoc (take-append_seam p _)

module _ (port link : ℕ) (taken : is_link_taken link ≡ true) where
  -- a packet before others
  packet-then : (c : Captured) (packet : List ℕ) (ps : List (List ℕ)) → packet ≡ c.octets
      → cond (is_link_taken link) (found_then packet (datagram_in packet link port) ps) [] ≡ found_then c.octets (datagram_in c.octets link port) ps
  packet-then c packet ps e =
      ap (λ (b : Bool). cond b (found_then packet (datagram_in packet link port) ps) []) taken ∙ ap (λ (p : List ℕ). found_then p (datagram_in p link port) ps) e

  records : (o : Order) (cs : List Captured) (m : ℕ) (st : State) → st.container ≡ container.Classic o link → RecordsFit cs → length (records_of o cs) < m
      → payloads_in port m st (records_of o cs) ≡ payloads_among port link cs
  records o [] m st e f h = ended port m st (classic-end st o link e)
  records o (c ∷ cs) zero st e f h = absurd (omega arith)
  records o (c ∷ cs) (suc m) st e f h =
      let p = c.octets in
      let first = record_of o c.high c.low c.original p in
      let rest = records_of o cs in
      let n = record-length o c.high c.low c.original p in
      let behind-it : drop (16 + length p) (first ++ rest) ≡ rest = drop_at first rest (16 + length p) n in
      step-on port m st (first ++ rest) _ (record-read o link c.high c.low c.original p rest st f.0 e)
      ∙ packet-then c (take (length p) (drop 16 (first ++ rest))) (payloads_in port m st (drop (16 + length p) (first ++ rest))) (record-packet o c.high c.low c.original p rest)
      ∙ ap (found_then p (datagram_in p link port)) (ap (payloads_in port m st) behind-it ∙ records o cs m st e f.1 (omega (arith, length-append first rest)))

  blocks : (o : Order) (cs : List Captured) (m : ℕ) (st : State) → st.container ≡ container.Section o → 0 < st.described → get_or st.links 0 0 ≡ link → BlocksFit cs
      → length (blocks_of o cs) < m → payloads_in port m st (blocks_of o cs) ≡ payloads_among port link cs
  blocks o [] m st e d l f h = ended port m st (section-end st o e)
  blocks o (c ∷ cs) zero st e d l f h = absurd (omega arith)
  blocks o (c ∷ cs) (suc m) st e d l f h =
      let p = c.octets in
      let first = enhanced_of o 0 c.high c.low c.original p c.more in
      let rest = blocks_of o cs in
      let n = block-length o c.high c.low c.original p c.more in
      let all = 32 + (length p + length c.more) in
      let behind-it : drop all (first ++ rest) ≡ rest = drop_at first rest all n in
      step-on port m st (first ++ rest) _ (packet-read 0 c.high c.low c.original p c.more rest o st e d (omega arith) f.0 f.1)
      ∙ ap (λ (k : ℕ). cond (is_link_taken k) (found_then (take (length p) (drop 28 (first ++ rest))) (datagram_in (take (length p) (drop 28 (first ++ rest))) k port) (payloads_in port m st (drop all (first ++ rest)))) []) l
      ∙ packet-then c (take (length p) (drop 28 (first ++ rest))) (payloads_in port m st (drop all (first ++ rest))) (block-packet o c.high c.low c.original p c.more rest)
      ∙ ap (found_then p (datagram_in p link port)) (ap (payloads_in port m st) behind-it ∙ blocks o cs m st e d l f.2 (omega (arith, length-append first rest, n)))

head-length : (o : Order) (nano : Bool) (snap link : ℕ) → length (head_of o (magic_of nano) snap link) ≡ 24
head-length order.Big nano snap link = refl
head-length order.Little nano snap link = refl

section-length : (o : Order) → length (section_of o) ≡ 28
section-length order.Big = refl
section-length order.Little = refl

interface-length : (o : Order) (link snap : ℕ) → length (interface_of o link snap) ≡ 20
interface-length order.Big link snap = refl
interface-length order.Little link snap = refl

-- WHAT A PCAP FILE HOLDS
pub pcap-holds : (port : ℕ) (o : Order) (nano : Bool) (snap link : ℕ) (cs : List Captured) → is_link_taken (link % 65536) ≡ true → RecordsFit cs
    → payloads_of port (pcap_of o nano snap link cs) ≡ payloads_among port (link % 65536) cs
pcap-holds port o nano snap link cs t f =
    let h = head_of o (magic_of nano) snap link in
    let rest = records_of o cs in
    let n = head-length o nano snap link in
    let st = behind opened (Ok (item.Head (container.Classic o (link % 65536)) 24)) in
    step-on port (length (h ++ rest)) opened (h ++ rest) _ (head_read o nano snap link rest opened refl)
    ∙ ap (payloads_in port (length (h ++ rest)) st) (drop_at h rest 24 n)
    ∙ records port (link % 65536) t o cs (length (h ++ rest)) st refl f (omega (arith, length-append h rest, n))

-- WHAT A PCAPNG FILE HOLDS, of a section with one interface
pub pcapng-holds : (port : ℕ) (o : Order) (link snap : ℕ) (cs : List Captured) → is_link_taken link ≡ true → BlocksFit cs
    → payloads_of port (pcapng_of o link snap cs) ≡ payloads_among port link cs
pcapng-holds port o link snap cs t f =
    let a = section_of o in
    let b = interface_of o link snap in
    let rest = blocks_of o cs in
    let all = length (a ++ (b ++ rest)) in
    let la = section-length o in
    let lb = interface-length o link snap in
    let size : all ≡ 48 + length rest = omega (arith, length-append a (b ++ rest), length-append b rest, la, lb) in
    let st = behind opened (Ok (item.Head (container.Section o) 28)) in
    let st₁ = behind st (Ok (item.Interface link snap 20)) in
    let fuel : all ≡ suc (47 + length rest) = omega (arith, size) in
    step-on port all opened (a ++ (b ++ rest)) _ (section-read o (b ++ rest) opened refl)
    ∙ (λ i. payloads_in port (fuel i) st (drop_at a (b ++ rest) 28 la i))
    ∙ step-on port (47 + length rest) st (b ++ rest) _ (interface-read link snap rest o st refl (omega arith))
    ∙ ap (payloads_in port (47 + length rest) st₁) (drop_at b rest 20 lb)
    ∙ blocks port link t o cs (47 + length rest) st₁ refl (omega arith) refl f (omega arith)
