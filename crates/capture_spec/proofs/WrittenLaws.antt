-- What is written is read: the items that the drafts have written, whatever follows them.
-- By the numbers at their places, which are those that were written there.
use Rattle.std.specs.Prelude.{Option, Some, Ok, Err}
use mathlib.Core.Path.{◌≡◌, refl, ap, ◌∙◌}
use mathlib.Core.Bool.{Bool, true, false, cond}
use mathlib.Core.List.{List, ◌++◌, append_assoc}
use Prim.Native.Nat.{ℕ, ◌+◌, ◌-◌, ◌*◌, ◌/◌, ◌%◌, ◌<◌, ◌≤◌}
use native.Mathlib.Nat.{div-add-mod'}
use native.Mathlib.Omega.{arith}
use borrow.Author.Tests.{eq-eqb, le-leb, le-ltb, lt-ltb}
use lib.Dec.{eqb}
use lib.ListN.{length, get_or, length-append}
use lib.Seq.{get_or-append-add}
use Rattle.wire_spec.specs.Bits.{quad_of}
use Rattle.capture_spec.specs.declared.state.Order.{Order}
use Rattle.capture_spec.specs.declared.state.Order.TheVariants as order
use Rattle.capture_spec.specs.declared.state.Container.{Container}
use Rattle.capture_spec.specs.declared.state.Container.TheVariants as container
use Rattle.capture_spec.specs.declared.state.State.{State}
use Rattle.capture_spec.specs.Items.{Extent}
use Rattle.capture_spec.specs.declared.state.Item.TheVariants as item
use Rattle.capture_spec.specs.Numbers.{word_at, half_at, head_order, section_order, section_type, max_item}
use Rattle.capture_spec.specs.Step.{block_extent, body_item, head_by, is_length, least_of, packet_from, record_item, section_by, sized, start_item, step_in, step_of, trailed, within}
use Rattle.capture_spec.specs.Written.{block_of, enhanced_of, half_of, head_of, interface_of, magic_of, record_of, section_of, word_of}
use Rattle.capture_spec.specs.declared.state.Unread.TheVariants as unread

-- a number of four octets, digit by digit
digits : (n : ℕ) → quad_of (n / 256 / 256 / 256) (n / 256 / 256 % 256) (n / 256 % 256) (n % 256) ≡ n
digits n =
    let a = div-add-mod' (n / 256 / 256) 256 in
    let b = div-add-mod' (n / 256) 256 in
    let c = div-add-mod' n 256 in
    ap (λ (k : ℕ). (k * 256 + n / 256 % 256) * 256 + n % 256) a ∙ ap (λ (k : ℕ). k * 256 + n % 256) b ∙ c

-- what was written at the front
pub word-front : (o : Order) (n : ℕ) (rest : List ℕ) → word_at o (word_of o n ++ rest) 0 ≡ n
unfolding word_at
word-front order.Big n rest = digits n
word-front order.Little n rest = digits n

half-front : (o : Order) (n : ℕ) (rest : List ℕ) → half_at o (half_of o n ++ rest) 0 ≡ n
unfolding half_at
half-front order.Big n rest = div-add-mod' n 256
half-front order.Little n rest = div-add-mod' n 256

-- and behind others
octet-behind : (a b : List ℕ) (k : ℕ) (n : ℕ) → n ≡ length a + k → get_or (a ++ b) n 0 ≡ get_or b k 0
octet-behind a b k n e = ap (λ (j : ℕ). get_or (a ++ b) j 0) e ∙ get_or-append-add a b k 0

pub word-behind : (o : Order) (a b : List ℕ) (k n : ℕ) → n ≡ length a + k → word_at o (a ++ b) n ≡ word_at o b k
unfolding word_at
word-behind order.Big a b k n e =
    λ i. quad_of (octet-behind a b k n e i) (octet-behind a b (k + 1) (n + 1) (omega arith) i) (octet-behind a b (k + 2) (n + 2) (omega arith) i) (octet-behind a b (k + 3) (n + 3) (omega arith) i)
word-behind order.Little a b k n e =
    λ i. quad_of (octet-behind a b (k + 3) (n + 3) (omega arith) i) (octet-behind a b (k + 2) (n + 2) (omega arith) i) (octet-behind a b (k + 1) (n + 1) (omega arith) i) (octet-behind a b k n e i)

pub length-word : (o : Order) (n : ℕ) → length (word_of o n) ≡ 4
length-word order.Big n = refl
length-word order.Little n = refl

length-half : (o : Order) (n : ℕ) → length (half_of o n) ≡ 2
length-half order.Big n = refl
length-half order.Little n = refl

-- pcap's head
head-is : (s : List ℕ) (o : Order) → 24 ≤ length s → eqb (word_at order.Big s 0) section_type ≡ false → head_order s ≡ Some o
    → start_item s ≡ Ok (item.Head (container.Classic o (word_at o s 20 % 65536)) 24)
head-is s o h t e =
    rw (le-ltb (length s) 4 (omega arith), t) (ap (λ (k : Option Order). head_by k s) e ∙ rw (le-ltb (length s) 24 h))

-- A HEAD THAT IS WRITTEN IS READ
pub head_read : (o : Order) (nano : Bool) (snap link : ℕ) (rest : List ℕ) (st : State) → st.container ≡ container.Unknown
    → step_of st (head_of o (magic_of nano) snap link ++ rest) ≡ Ok (item.Head (container.Classic o (link % 65536)) 24)
unfolding step_of word_at
head_read order.Big true snap link rest st e =
    ap (λ (c : Container). step_in c st (head_of order.Big (magic_of true) snap link ++ rest)) e
    ∙ head-is (head_of order.Big (magic_of true) snap link ++ rest) order.Big (omega arith) refl refl
    ∙ ap (λ (w : ℕ). Ok (item.Head (container.Classic order.Big (w % 65536)) 24)) (digits link)
head_read order.Big false snap link rest st e =
    ap (λ (c : Container). step_in c st (head_of order.Big (magic_of false) snap link ++ rest)) e
    ∙ head-is (head_of order.Big (magic_of false) snap link ++ rest) order.Big (omega arith) refl refl
    ∙ ap (λ (w : ℕ). Ok (item.Head (container.Classic order.Big (w % 65536)) 24)) (digits link)
head_read order.Little true snap link rest st e =
    ap (λ (c : Container). step_in c st (head_of order.Little (magic_of true) snap link ++ rest)) e
    ∙ head-is (head_of order.Little (magic_of true) snap link ++ rest) order.Little (omega arith) refl refl
    ∙ ap (λ (w : ℕ). Ok (item.Head (container.Classic order.Little (w % 65536)) 24)) (digits link)
head_read order.Little false snap link rest st e =
    ap (λ (c : Container). step_in c st (head_of order.Little (magic_of false) snap link ++ rest)) e
    ∙ head-is (head_of order.Little (magic_of false) snap link ++ rest) order.Little (omega arith) refl refl
    ∙ ap (λ (w : ℕ). Ok (item.Head (container.Classic order.Little (w % 65536)) 24)) (digits link)

-- a packet record
record_is : (o : Order) (link : ℕ) (s : List ℕ) (n : ℕ) → 16 + n ≤ length s → word_at o s 8 ≡ n → 16 + n ≤ max_item
    → record_item o link s ≡ Ok (item.Packet (record { at = 16; size = n; link = link }) (16 + n))
record_is o link s n h w m =
    let e : 16 + n - 16 ≡ n = omega arith in
    rw (le-ltb (length s) 16 (omega arith), w, le-ltb max_item (16 + n) m, le-ltb (length s) (16 + n) h)
    (ap (λ (k : ℕ). Ok (item.Packet (record { at = 16; size = k; link = link }) (16 + n))) e)

record-word : (o : Order) (seconds fraction original : ℕ) (p rest : List ℕ) → word_at o (record_of o seconds fraction original p ++ rest) 8 ≡ length p
unfolding word_at
record-word order.Big a b c p rest = digits (length p)
record-word order.Little a b c p rest = digits (length p)

record-size : (o : Order) (seconds fraction original : ℕ) (p rest : List ℕ) → length (record_of o seconds fraction original p ++ rest) ≡ 16 + length p + length rest
record-size order.Big a b c p rest = omega (arith, length-append p rest)
record-size order.Little a b c p rest = omega (arith, length-append p rest)

-- A RECORD THAT IS WRITTEN IS READ
pub record-read : (o : Order) (link seconds fraction original : ℕ) (p rest : List ℕ) (st : State) → 16 + length p ≤ max_item → st.container ≡ container.Classic o link
    → step_of st (record_of o seconds fraction original p ++ rest) ≡ Ok (item.Packet (record { at = 16; size = length p; link = link }) (16 + length p))
unfolding step_of
record-read o link a b c p rest st h e =
    let s = record_of o a b c p ++ rest in
    ap (λ (k : Container). step_in k st s) e ∙ record_is o link s (length p) (omega (arith, record-size o a b c p rest)) (record-word o a b c p rest) h

-- a block of pcapng: its type, its length before and behind
module _ (o : Order) (t : ℕ) (body rest : List ℕ) where
  abbrev all : List ℕ
  all = block_of o t body ++ rest

  abbrev size : ℕ
  size = 12 + length body

  parts : all ≡ (word_of o t ++ (word_of o size ++ body)) ++ (word_of o size ++ rest)
  parts = simp append_assoc

  front-size : length (word_of o t ++ (word_of o size ++ body)) ≡ 8 + length body
  front-size = omega (arith, length-append (word_of o t) (word_of o size ++ body), length-append (word_of o size) body, length-word o t, length-word o size)

  block_size : length all ≡ size + length rest
  block_size =
      ap length parts
      ∙ omega (arith, front-size, length-append (word_of o t ++ (word_of o size ++ body)) (word_of o size ++ rest), length-append (word_of o size) rest, length-word o size)

  block_type : word_at o all 0 ≡ t
  block_type = ap (λ (l : List ℕ). word_at o l 0) (append_assoc (word_of o t) (word_of o size ++ (body ++ word_of o size)) rest) ∙ word-front o t ((word_of o size ++ (body ++ word_of o size)) ++ rest)

  block-length : word_at o all 4 ≡ size
  block-length =
      ap (λ (l : List ℕ). word_at o l 4) (append_assoc (word_of o t) (word_of o size ++ (body ++ word_of o size)) rest)
      ∙ word-behind o (word_of o t) ((word_of o size ++ (body ++ word_of o size)) ++ rest) 0 4 (omega (arith, length-word o t))
      ∙ ap (λ (l : List ℕ). word_at o l 0) (append_assoc (word_of o size) (body ++ word_of o size) rest)
      ∙ word-front o size ((body ++ word_of o size) ++ rest)

  block-behind : word_at o all (size - 4) ≡ size
  block-behind =
      ap (λ (l : List ℕ). word_at o l (size - 4)) parts
      ∙ word-behind o (word_of o t ++ (word_of o size ++ body)) (word_of o size ++ rest) 0 (size - 4) (omega (arith, front-size))
      ∙ word-front o size rest

  -- A BLOCK THAT IS WRITTEN IS WHOLE
  pub block-whole : (least : ℕ) → least ≤ size → size % 4 ≡ 0 → size ≤ max_item → block_extent o least all ≡ Ok size
  block-whole least l f m =
      ap (λ (w : ℕ). cond (is_length least w) (sized w all (trailed o w all)) (Err (unread.Refused 82))) block-length
      ∙ rw (le-leb least size l, eq-eqb (size % 4) 0 f, le-ltb max_item size m, le-ltb (length all) size (omega (arith, block_size)), block-behind, eq-eqb size size refl)

  -- and holds its body
  pub block_read : (st : State) → st.container ≡ container.Section o → eqb t section_type ≡ false → least_of t ≤ size → size % 4 ≡ 0 → size ≤ max_item
      → step_of st all ≡ body_item t o st size all
  unfolding step_of
  block_read st e n l f m =
      ap (λ (k : Container). step_in k st all) e
      ∙ rw (le-ltb (length all) 12 (omega (arith, block_size)))
      (ap (λ (y : ℕ). cond (eqb y section_type) (section_by (section_order all) all) (within (block_extent o (least_of y) all) (λ k. body_item y o st k all))) block_type
      ∙ rw n (ap (λ (x : Extent). within x (λ k. body_item t o st k all)) (block-whole (least_of t) l f m)))

-- the fields of an interface
module _ (link snap : ℕ) (rest : List ℕ) where
  abbrev fields : Order → List ℕ
  fields o = half_of o link ++ (half_of o 0 ++ word_of o snap)

  fields-size : (o : Order) → 12 + length (fields o) ≡ 20
  fields-size order.Big = refl
  fields-size order.Little = refl

  link-is : (o : Order) → half_at o (interface_of o link snap ++ rest) 8 ≡ link
  unfolding half_at
  link-is order.Big = div-add-mod' link 256
  link-is order.Little = div-add-mod' link 256

  snap-is : (o : Order) → word_at o (interface_of o link snap ++ rest) 12 ≡ snap
  unfolding word_at
  snap-is order.Big = digits snap
  snap-is order.Little = digits snap

  -- AN INTERFACE THAT IS WRITTEN IS READ
  pub interface-read : (o : Order) (st : State) → st.container ≡ container.Section o → st.described < 64 → step_of st (interface_of o link snap ++ rest) ≡ Ok (item.Interface link snap 20)
  interface-read o st e d =
      let n = fields-size o in
      block_read o 1 (fields o) rest st e refl (omega arith) (ap (λ (j : ℕ). j % 4) n) (omega arith)
      ∙ rw (lt-ltb st.described 64 d) (λ i. Ok (item.Interface (link-is o i) (snap-is o i) (n i)))

-- the fields of a packet, which padding and options follow
module _ (id high low original : ℕ) (p more rest : List ℕ) where
  abbrev packet : Order → List ℕ
  packet o = word_of o id ++ (word_of o high ++ (word_of o low ++ (word_of o (length p) ++ (word_of o original ++ (p ++ more)))))

  abbrev written : Order → List ℕ
  written o = enhanced_of o id high low original p more ++ rest

  packet-size : (o : Order) → 12 + length (packet o) ≡ 32 + (length p + length more)
  packet-size order.Big = omega (arith, length-append p more)
  packet-size order.Little = omega (arith, length-append p more)

  id-is : (o : Order) → word_at o (written o) 8 ≡ id
  unfolding word_at
  id-is order.Big = digits id
  id-is order.Little = digits id

  length-is : (o : Order) → word_at o (written o) 20 ≡ length p
  unfolding word_at
  length-is order.Big = digits (length p)
  length-is order.Little = digits (length p)

  pub written-size : (o : Order) → length (written o) ≡ 32 + (length p + length more) + length rest
  written-size o = block_size o 6 (packet o) rest ∙ ap (λ (k : ℕ). k + length rest) (packet-size o)

  -- A PACKET THAT IS WRITTEN IS READ, from an interface that the section described
  pub packet-read : (o : Order) (st : State) → st.container ≡ container.Section o → id < st.described → id < 64
      → (32 + (length p + length more)) % 4 ≡ 0 → 32 + (length p + length more) ≤ max_item
      → step_of st (written o) ≡ Ok (item.Packet (record { at = 28; size = length p; link = get_or st.links id 0 }) (32 + (length p + length more)))
  packet-read o st e d k f m =
      let n = packet-size o in
      block_read o 6 (packet o) rest st e refl (omega arith) (ap (λ (j : ℕ). j % 4) n ∙ f) (omega arith)
      ∙ (λ i. packet_from st (id-is o i) 28 (length-is o i) (n i - 32) (n i))
      ∙ rw (le-leb (length p) (32 + (length p + length more) - 32) (omega arith), lt-ltb id st.described d, lt-ltb id 64 k)

-- THE HEAD OF A SECTION THAT IS WRITTEN IS READ, wherever a block may stand
section-is : (s : List ℕ) (o : Order) → 28 ≤ length s → section_order s ≡ Some o → word_at o s 4 ≡ 28 → word_at o s 24 ≡ 28 → section_by (section_order s) s ≡ Ok (item.Head (container.Section o) 28)
section-is s o h e w v =
    ap (λ (k : Option Order). section_by k s) e
    ∙ ap (λ (n : ℕ). within (cond (is_length 28 n) (sized n s (trailed o n s)) (Err (unread.Refused 82))) (λ k. Ok (item.Head (container.Section o) k))) w
    ∙ rw (le-ltb (length s) 28 h, v)

pub section-read : (o : Order) (rest : List ℕ) (st : State) → st.container ≡ container.Unknown → step_of st (section_of o ++ rest) ≡ Ok (item.Head (container.Section o) 28)
unfolding step_of word_at
section-read order.Big rest st e =
    let s = section_of order.Big ++ rest in
    ap (λ (c : Container). step_in c st s) e ∙ rw (le-ltb (length s) 4 (omega arith), le-ltb (length s) 12 (omega arith)) (section-is s order.Big (omega arith) refl refl refl)
section-read order.Little rest st e =
    let s = section_of order.Little ++ rest in
    ap (λ (c : Container). step_in c st s) e ∙ rw (le-ltb (length s) 4 (omega arith), le-ltb (length s) 12 (omega arith)) (section-is s order.Little (omega arith) refl refl refl)
