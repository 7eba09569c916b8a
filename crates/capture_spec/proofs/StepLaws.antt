-- Of the item at the front: it lies in the octets that are there, a front without a whole item is shorter than the longest, and octets behind an
-- item change nothing of it.
-- By the tests, one after the other.
use Rattle.std.specs.Prelude.{Option, Some, None, Ok, Err}
use mathlib.Core.Path.{◌≡◌, refl, ap, ◌∙◌}
use mathlib.Core.Bool.{Bool, true, false, cond, ◌&&◌, ◌||◌}
use mathlib.Core.List.{List}
use Prim.Native.Nat.{ℕ, ◌+◌, ◌-◌, ◌%◌, ◌<◌, ◌≤◌}
use native.Mathlib.Omega.{arith}
use borrow.Author.Tests.{leb-true, ltb-true, ltb-false}
use lib.Dec.{eqb, leb, ltb}
use lib.ListN.{length}
use Rattle.capture_spec.specs.declared.state.Order.{Order}
use Rattle.capture_spec.specs.declared.state.Order.TheVariants as order
use Rattle.capture_spec.specs.declared.state.Container.{Container}
use Rattle.capture_spec.specs.declared.state.Container.TheVariants as container
use Rattle.capture_spec.specs.declared.state.State.{State}
use Rattle.capture_spec.specs.Items.{Extent, Read}
use Rattle.capture_spec.specs.declared.state.Item.TheVariants as item
use Rattle.capture_spec.specs.Numbers.{word_at, half_at, head_order, section_order, section_type, interface_type, packet_type, simple_type, enhanced_type, word_size, head_size, record_head, block_head, least_section, least_interface, least_simple, least_enhanced, simple_at, enhanced_at, max_item}
use Rattle.capture_spec.specs.Step.{Fits, sized, within, head_by, record_extent, is_length, trailed, block_extent, section_by, packet_from, simple_size, is_described, body_item, least_of, block_item, start_item, step_in, step_of}
use Rattle.capture_spec.specs.declared.state.Unread.TheVariants as unread

-- by a test
by : (P : Read → Type 0) (t : Bool) {x y : Read} → (t ≡ true → P x) → (t ≡ false → P y) → P (cond t x y)
by P true f g = f refl
by P false f g = g refl

by_extent : (P : Extent → Type 0) (t : Bool) {x y : Extent} → (t ≡ true → P x) → (t ≡ false → P y) → P (cond t x y)
by_extent P true f g = f refl
by_extent P false f g = g refl

-- an extent of at least so many octets lies in the octets
abbrev pub In : (least : ℕ) → Extent → ℕ → Type 0
In least (Ok n) size = (least ≤ n) × (n ≤ size)
In least (Err unread.Short) size = size < max_item
In least (Err (unread.Refused x)) size = Unit {0}

pub whole_in : (least size : ℕ) (e : Extent) (n : ℕ) → In least e size → e ≡ Ok n → (least ≤ n) × (n ≤ size)
whole_in l size (Ok m) n h e = let q : m ≡ n = cc in (omega (arith, h.0), omega (arith, h.1))
whole_in l size (Err unread.Short) n h e = let z : ◌≡◌ {A = ℕ} 0 1 = cc in absurd (omega arith)
whole_in l size (Err (unread.Refused x)) n h e = let z : ◌≡◌ {A = ℕ} 0 1 = cc in absurd (omega arith)

within-fits : (least : ℕ) (e : Extent) (size : ℕ) (f : ℕ → Read) → In least e size → ((n : ℕ) → least ≤ n → n ≤ size → Fits (f n) size) → Fits (within e f) size
within-fits least (Ok n) size f h k = k n h.0 h.1
within-fits least (Err unread.Short) size f h k = h
within-fits least (Err (unread.Refused x)) size f h k = tt

sized-in : (least n : ℕ) (s : List ℕ) (e : Extent) → (n ≤ length s → In least e (length s)) → In least (sized n s e) (length s)
sized-in least n s e f =
    by_extent (λ x. In least x (length s)) (ltb max_item n) (λ t. tt)
    (λ t. by_extent (λ x. In least x (length s)) (ltb (length s) n) (λ u. omega (arith, ltb-false max_item n t, ltb-true (length s) n u)) (λ u. f (ltb-false (length s) n u)))

-- both parts of a test
pub and_left : (a b : Bool) → (a && b) ≡ true → a ≡ true
and_left true b e = refl
and_left false b e = e

pub block_in : (o : Order) (least : ℕ) (s : List ℕ) → In least (block_extent o least s) (length s)
block_in o least s =
    let n = word_at o s 4 in
    by_extent (λ x. In least x (length s)) (is_length least n)
    (λ t. sized-in least n s (trailed o n s)
    (λ k. by_extent (λ x. In least x (length s)) (eqb (word_at o s (n - 4)) n) (λ u. (leb-true least n (and_left (leb least n) (eqb (n % 4) 0) t), k)) (λ u. tt)))
    (λ t. tt)

head-fits : (o : Option Order) (s : List ℕ) → Fits (head_by o s) (length s)
head-fits None s = tt
head-fits (Some o) s =
    by (λ x. Fits x (length s)) (ltb (length s) head_size) (λ t. omega (arith, ltb-true (length s) head_size t)) (λ t. (omega arith, ltb-false (length s) head_size t))

pub record-in : (o : Order) (s : List ℕ) → In record_head (record_extent o s) (length s)
record-in o s =
    let n = record_head + word_at o s 8 in
    by_extent (λ x. In record_head x (length s)) (ltb (length s) record_head) (λ t. omega (arith, ltb-true (length s) record_head t))
    (λ t. sized-in record_head n s (Ok n) (λ k. (omega arith, k)))

section-fits : (o : Option Order) (s : List ℕ) → Fits (section_by o s) (length s)
section-fits None s = tt
section-fits (Some o) s =
    within-fits least_section (block_extent o least_section s) (length s) (λ n. Ok (item.Head (container.Section o) n)) (block_in o least_section s)
    (λ n h k. (omega arith, k))

-- a packet's octets lie in its block
packet-fits : (st : State) (id at size room n all : ℕ) → 0 < n → n ≤ all → at + room ≤ n → Fits (packet_from st id at size room n) all
packet-fits st id at size room n all p h r =
    by (λ x. Fits x all) (leb size room)
    (λ t. by (λ x. Fits x all) (is_described st id) (λ u. (p, h, omega (arith, leb-true size room t))) (λ u. tt))
    (λ t. tt)

-- a block of each type has at least its fields
least_by : (n : ℕ) (b : Bool) (x y : ℕ) → cond b x y ≤ n → b ≡ true → x ≤ n
least_by n true x y h e = h
least_by n false x y h e = let z : ◌≡◌ {A = ℕ} 0 1 = cc in absurd (omega arith)

least-else : (n : ℕ) (b : Bool) (x y : ℕ) → cond b x y ≤ n → b ≡ false → y ≤ n
least-else n false x y h e = h
least-else n true x y h e = let z : ◌≡◌ {A = ℕ} 0 1 = cc in absurd (omega arith)

or_left : (a b : Bool) → a ≡ true → (a || b) ≡ true
or_left true b e = refl
or_left false b e = let z : ◌≡◌ {A = ℕ} 0 1 = cc in absurd (omega arith)

pub record Least (t n : ℕ) : Type 0 where
  pub interface : eqb t interface_type ≡ true → least_interface ≤ n
  pub simple : eqb t interface_type ≡ false → eqb t simple_type ≡ true → least_simple ≤ n
  pub enhanced : eqb t interface_type ≡ false → eqb t simple_type ≡ false → eqb t enhanced_type ≡ true → least_enhanced ≤ n
  pub old : eqb t interface_type ≡ false → eqb t simple_type ≡ false → eqb t enhanced_type ≡ false → eqb t packet_type ≡ true → least_enhanced ≤ n

pub least : (t n : ℕ) → least_of t ≤ n → Least t n
least t n h =
    record {
      interface = least_by n (eqb t interface_type) least_interface (cond (eqb t simple_type) least_simple rest) h;
      simple = λ a. least_by n (eqb t simple_type) least_simple rest (other a);
      enhanced = λ a b d. least_by n packets least_enhanced block_head (last a b) (or_left (eqb t enhanced_type) (eqb t packet_type) d);
      old = λ a b d e. least_by n packets least_enhanced block_head (last a b) (ap (λ (z : Bool). z || eqb t packet_type) d ∙ e);
    }
  where
    packets : Bool
    packets = eqb t enhanced_type || eqb t packet_type

    rest : ℕ
    rest = cond packets least_enhanced block_head

    other : eqb t interface_type ≡ false → cond (eqb t simple_type) least_simple rest ≤ n
    other a = least-else n (eqb t interface_type) least_interface (cond (eqb t simple_type) least_simple rest) h a

    last : eqb t interface_type ≡ false → eqb t simple_type ≡ false → rest ≤ n
    last a b = least-else n (eqb t simple_type) least_simple rest (other a) b

body-fits : (t : ℕ) (o : Order) (st : State) (n : ℕ) (s : List ℕ) → Least t n → 0 < n → n ≤ length s → Fits (body_item t o st n s) (length s)
body-fits t o st n s l p h =
    by F (eqb t interface_type) (λ a. by F (ltb st.described 64) (λ b. (p, h)) (λ b. tt))
    (λ a. by F (eqb t simple_type)
    (λ b. packet-fits st 0 simple_at (simple_size st.snap (word_at o s 8)) (n - least_simple) n (length s) p h (omega (arith, l.simple a b)))
    (λ b. by F (eqb t enhanced_type)
    (λ d. packet-fits st (word_at o s 8) enhanced_at (word_at o s 20) (n - least_enhanced) n (length s) p h (omega (arith, l.enhanced a b d)))
    (λ d. by F (eqb t packet_type)
    (λ e. packet-fits st (half_at o s 8) enhanced_at (word_at o s 20) (n - least_enhanced) n (length s) p h (omega (arith, l.old a b d e)))
    (λ e. (p, h)))))
  where
    F : Read → Type 0
    F x = Fits x (length s)

pub some-least : (t : ℕ) → block_head ≤ least_of t
some-least t = go (eqb t interface_type) (eqb t simple_type) (eqb t enhanced_type || eqb t packet_type)
  where
    go : (a b d : Bool) → block_head ≤ cond a least_interface (cond b least_simple (cond d least_enhanced block_head))
    go true b d = omega arith
    go false true d = omega arith
    go false false true = omega arith
    go false false false = omega arith

block-fits : (o : Order) (st : State) (s : List ℕ) → Fits (block_item o st s) (length s)
block-fits o st s =
    let t = word_at o s 0 in
    by (λ x. Fits x (length s)) (ltb (length s) block_head) (λ a. omega (arith, ltb-true (length s) block_head a))
    (λ a. by (λ x. Fits x (length s)) (eqb t section_type) (λ b. section-fits (section_order s) s)
    (λ b. within-fits (least_of t) (block_extent o (least_of t) s) (length s) (λ n. body_item t o st n s) (block_in o (least_of t) s)
    (λ n h k. body-fits t o st n s (least t n h) (omega (arith, h, some-least t)) k)))

start_fits : (s : List ℕ) → Fits (start_item s) (length s)
start_fits s =
    by (λ x. Fits x (length s)) (ltb (length s) word_size) (λ a. omega (arith, ltb-true (length s) word_size a))
    (λ a. by (λ x. Fits x (length s)) (eqb (word_at order.Big s 0) section_type)
    (λ b. by (λ x. Fits x (length s)) (ltb (length s) block_head) (λ d. omega (arith, ltb-true (length s) block_head d)) (λ d. section-fits (section_order s) s))
    (λ b. head-fits (head_order s) s))

-- AN ITEM LIES IN THE OCTETS
pub step_fits : (st : State) (s : List ℕ) → Fits (step_of st s) (length s)
unfolding step_of
step_fits st s = go st.container
  where
    go : (c : Container) → Fits (step_in c st s) (length s)
    go container.Unknown = start_fits s
    go (container.Classic o link) =
        within-fits record_head (record_extent o s) (length s) (λ n. Ok (item.Packet (record { at = record_head; size = n - record_head; link = link }) n)) (record-in o s)
        (λ n h k. (omega arith, k, omega arith))
    go (container.Section o) = block-fits o st s
