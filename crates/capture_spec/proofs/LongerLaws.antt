-- Octets behind an item change nothing of it.
-- A number that lies in the octets is the same in longer ones, and so is each test of one; only that there are too few octets can change.
use Rattle.std.specs.Prelude.{Option, Some, None, Ok, Err}
use mathlib.Core.Path.{◌≡◌, refl, ap, ◌∙◌}
use mathlib.Core.Bool.{Bool, true, false, cond}
use mathlib.Core.List.{List, ◌++◌}
use Prim.Native.Nat.{ℕ, ◌+◌, ◌-◌, ◌*◌, ◌%◌, ◌<◌, ◌≤◌}
use native.Mathlib.Omega.{arith}
use borrow.Author.Tests.{leb-true, ltb-false, le-ltb}
use lib.Dec.{eqb, leb, ltb}
use lib.ListN.{length, get_or, length-append, get_or-append}
use Rattle.wire_spec.specs.Bits.{quad_of}
use Rattle.capture_spec.specs.declared.state.Order.{Order}
use Rattle.capture_spec.specs.declared.state.Order.TheVariants as order
use Rattle.capture_spec.specs.declared.state.Container.{Container}
use Rattle.capture_spec.specs.declared.state.Container.TheVariants as container
use Rattle.capture_spec.specs.declared.state.State.{State}
use Rattle.capture_spec.specs.Items.{Extent, Read}
use Rattle.capture_spec.specs.declared.state.Item.TheVariants as item
use Rattle.capture_spec.specs.Numbers.{word_at, half_at, head_order, section_order, ordering, is_magic, order_magic, section_type, interface_type, packet_type, simple_type, enhanced_type, word_size, head_size, record_head, block_head, least_section, max_item}
use Rattle.capture_spec.specs.Step.{IsTold, sized, within, head_by, record_extent, record_item, is_length, trailed, block_extent, section_by, packet_from, simple_size, body_item, least_of, block_item, start_item, step_in, step_of}
use Rattle.capture_spec.proofs.StepLaws.{Least, and_left, block_in, least, some-least, whole_in}
use Rattle.capture_spec.specs.declared.state.Unread.TheVariants as unread

-- what is told of shorter octets is told of longer ones
abbrev Same : (short long : Read) → Type 0
Same x y = IsTold x → y ≡ x

abbrev pair_of : ℕ → ℕ → ℕ
pair_of a b = a * 256 + b

abbrev IsKnown : Extent → Type 0
IsKnown (Err unread.Short) = ⊥
IsKnown (Ok n) = Unit {0}
IsKnown (Err (unread.Refused x)) = Unit {0}

abbrev SameExtent : (short long : Extent) → Type 0
SameExtent x y = IsKnown x → y ≡ x

by-same : (t u : Bool) {a b x y : Read} → u ≡ t → (t ≡ true → Same a x) → (t ≡ false → Same b y) → Same (cond t a b) (cond u x y)
by-same true true e f g = f refl
by-same false false e f g = g refl
by-same true false e f g = let z : ◌≡◌ {A = ℕ} 0 1 = cc in absurd (omega arith)
by-same false true e f g = let z : ◌≡◌ {A = ℕ} 0 1 = cc in absurd (omega arith)

by-extent : (t u : Bool) {a b x y : Extent} → u ≡ t → (t ≡ true → SameExtent a x) → (t ≡ false → SameExtent b y) → SameExtent (cond t a b) (cond u x y)
by-extent true true e f g = f refl
by-extent false false e f g = g refl
by-extent true false e f g = let z : ◌≡◌ {A = ℕ} 0 1 = cc in absurd (omega arith)
by-extent false true e f g = let z : ◌≡◌ {A = ℕ} 0 1 = cc in absurd (omega arith)

module _ (s t : List ℕ) where
  more : length s ≤ length (s ++ t)
  more = omega (arith, length-append s t)

  -- enough octets are enough
  enough : (n : ℕ) → n ≤ length s → ltb (length (s ++ t)) n ≡ false
  enough n h = le-ltb (length (s ++ t)) n (omega (arith, more))

  by_length : (n : ℕ) {a x : Read} → (n ≤ length s → Same a x) → Same (cond (ltb (length s) n) (Err unread.Short) a) (cond (ltb (length (s ++ t)) n) (Err unread.Short) x)
  by_length n {a} {x} f = go (ltb (length s) n) refl
    where
      go : (b : Bool) → ltb (length s) n ≡ b → Same (cond b (Err unread.Short) a) (cond (ltb (length (s ++ t)) n) (Err unread.Short) x)
      go true e k = absurd k
      go false e k = let h = ltb-false (length s) n e in ap (λ (z : Bool). cond z (Err unread.Short) x) (enough n h) ∙ f h k

  by_size : (n : ℕ) {a x : Extent} → (n ≤ length s → SameExtent a x) → SameExtent (cond (ltb (length s) n) (Err unread.Short) a) (cond (ltb (length (s ++ t)) n) (Err unread.Short) x)
  by_size n {a} {x} f = go (ltb (length s) n) refl
    where
      go : (b : Bool) → ltb (length s) n ≡ b → SameExtent (cond b (Err unread.Short) a) (cond (ltb (length (s ++ t)) n) (Err unread.Short) x)
      go true e k = absurd k
      go false e k = let h = ltb-false (length s) n e in ap (λ (z : Bool). cond z (Err unread.Short) x) (enough n h) ∙ f h k

  octet : (i : ℕ) → i < length s → get_or (s ++ t) i 0 ≡ get_or s i 0
  octet i h = get_or-append s t 0 i h

  word : (o : Order) (at : ℕ) → at + 4 ≤ length s → word_at o (s ++ t) at ≡ word_at o s at
  unfolding word_at
  word order.Big at h = λ i. quad_of (octet at (omega arith) i) (octet (at + 1) (omega arith) i) (octet (at + 2) (omega arith) i) (octet (at + 3) (omega arith) i)
  word order.Little at h = λ i. quad_of (octet (at + 3) (omega arith) i) (octet (at + 2) (omega arith) i) (octet (at + 1) (omega arith) i) (octet at (omega arith) i)

  half : (o : Order) (at : ℕ) → at + 2 ≤ length s → half_at o (s ++ t) at ≡ half_at o s at
  unfolding half_at
  half order.Big at h = λ i. pair_of (octet at (omega arith) i) (octet (at + 1) (omega arith) i)
  half order.Little at h = λ i. pair_of (octet (at + 1) (omega arith) i) (octet at (omega arith) i)

  -- a block's end, where its length says
  trailed-same : (o : Order) (n : ℕ) → 4 ≤ n → n ≤ length s → trailed o n (s ++ t) ≡ trailed o n s
  trailed-same o n l h = ap (λ (w : ℕ). cond (eqb w n) (Ok n) (Err (unread.Refused 82))) (word o (n - 4) (omega arith))

  sized_same : (n : ℕ) {a x : Extent} → (n ≤ length s → SameExtent a x) → SameExtent (sized n s a) (sized n (s ++ t) x)
  sized_same n f = by-extent (ltb max_item n) (ltb max_item n) refl (λ e k. refl) (λ e. by_size n f)

  abbrev lengthed : Order → (least n : ℕ) → List ℕ → Extent
  lengthed o l n u = cond (is_length l n) (sized n u (trailed o n u)) (Err (unread.Refused 82))

  block_same : (o : Order) (l : ℕ) → 4 ≤ l → 8 ≤ length s → SameExtent (block_extent o l s) (block_extent o l (s ++ t))
  block_same o l h m k =
      let n = word_at o s 4 in
      let e : word_at o (s ++ t) 4 ≡ n = word o 4 (omega arith) in
      ap (λ (w : ℕ). lengthed o l w (s ++ t)) e
      ∙ by-extent (is_length l n) (is_length l n) refl
      (λ a. sized_same n (λ b c. trailed-same o n (omega (arith, leb-true l n (and_left (leb l n) (eqb (n % 4) 0) a))) b))
      (λ a c. refl) k

  within_same : (e x : Extent) (f g : ℕ → Read) → SameExtent e x → ((n : ℕ) → e ≡ Ok n → Same (f n) (g n)) → Same (within e f) (within x g)
  within_same (Err unread.Short) x f g h k z = absurd z
  within_same (Err (unread.Refused y)) x f g h k z = ap (λ (w : Extent). within w g) (h tt)
  within_same (Ok n) x f g h k z = ap (λ (w : Extent). within w g) (h tt) ∙ k n refl z

  section-same : (o : Option Order) → 8 ≤ length s → Same (section_by o s) (section_by o (s ++ t))
  section-same None m k = refl
  section-same (Some o) m k =
      within_same (block_extent o least_section s) (block_extent o least_section (s ++ t)) (λ n. Ok (item.Head (container.Section o) n)) (λ n. Ok (item.Head (container.Section o) n))
      (block_same o least_section (omega arith) m) (λ n e z. refl) k

  section-order : 12 ≤ length s → section_order (s ++ t) ≡ section_order s
  section-order h = λ i. ordering (eqb (word order.Big 8 h i) order_magic) (eqb (word order.Little 8 h i) order_magic)

  section-longer : 12 ≤ length s → Same (section_by (section_order s) s) (section_by (section_order (s ++ t)) (s ++ t))
  section-longer h k = ap (λ (o : Option Order). section_by o (s ++ t)) (section-order h) ∙ section-same (section_order s) (omega arith) k

  head-same : (o : Option Order) → Same (head_by o s) (head_by o (s ++ t))
  head-same None k = refl
  head-same (Some o) k = by_length head_size (λ h z. ap (λ (w : ℕ). Ok (item.Head (container.Classic o (w % 65536)) head_size)) (word o 20 h)) k

  head-order : 4 ≤ length s → head_order (s ++ t) ≡ head_order s
  head-order h = λ i. ordering (is_magic (word order.Big 0 h i)) (is_magic (word order.Little 0 h i))

  start-same : Same (start_item s) (start_item (s ++ t))
  start-same =
      by_length word_size
      (λ h. by-same (eqb (word_at order.Big s 0) section_type) (eqb (word_at order.Big (s ++ t) 0) section_type) (ap (λ (w : ℕ). eqb w section_type) (word order.Big 0 h))
      (λ a. by_length block_head section-longer)
      (λ a k. ap (λ (o : Option Order). head_by o (s ++ t)) (head-order h) ∙ head-same (head_order s) k))

  record_same : (o : Order) (link : ℕ) → Same (record_item o link s) (record_item o link (s ++ t))
  record_same o link =
      let f : ℕ → Read = λ n. Ok (item.Packet (record { at = record_head; size = n - record_head; link = link }) n) in
      within_same (record_extent o s) (record_extent o (s ++ t)) f f
      (by_size record_head
      (λ h k. ap (λ (w : ℕ). sized (record_head + w) (s ++ t) (Ok (record_head + w))) (word o 8 (omega arith))
      ∙ sized_same (record_head + word_at o s 8) (λ b c. refl) k))
      (λ n e k. refl)

  by-eq : (b : Bool) {x y u v : Read} → (b ≡ true → u ≡ x) → (b ≡ false → v ≡ y) → cond b u v ≡ cond b x y
  by-eq true f g = f refl
  by-eq false f g = g refl

  body_same : (y : ℕ) (o : Order) (st : State) (n : ℕ) → Least y n → block_head ≤ n → n ≤ length s → body_item y o st n (s ++ t) ≡ body_item y o st n s
  body_same y o st n l p h =
      by-eq (eqb y interface_type)
      (λ a. let m = l.interface a in
      λ i. cond (ltb st.described 64) (Ok (item.Interface (half o 8 (omega arith) i) (word o 12 (omega arith) i) n)) (Err (unread.Refused 85)))
      (λ a. by-eq (eqb y simple_type)
      (λ b. let m = l.simple a b in ap (λ (w : ℕ). packet_from st 0 12 (simple_size st.snap w) (n - 16) n) (word o 8 (omega arith)))
      (λ b. by-eq (eqb y enhanced_type)
      (λ d. let m = l.enhanced a b d in λ i. packet_from st (word o 8 (omega arith) i) 28 (word o 20 (omega arith) i) (n - 32) n)
      (λ d. by-eq (eqb y packet_type)
      (λ e. let m = l.old a b d e in λ i. packet_from st (half o 8 (omega arith) i) 28 (word o 20 (omega arith) i) (n - 32) n)
      (λ e. refl))))

  abbrev block_of : Order → State → (type : ℕ) → List ℕ → Read
  block_of o st y u = cond (eqb y section_type) (section_by (section_order u) u) (within (block_extent o (least_of y) u) (λ n. body_item y o st n u))

  block-longer : (o : Order) (st : State) → Same (block_item o st s) (block_item o st (s ++ t))
  block-longer o st =
      let y = word_at o s 0 in
      by_length block_head
      (λ h k. ap (λ (w : ℕ). block_of o st w (s ++ t)) (word o 0 (omega arith))
      ∙ by-same (eqb y section_type) (eqb y section_type) refl (λ a. section-longer h)
      (λ a. within_same (block_extent o (least_of y) s) (block_extent o (least_of y) (s ++ t)) (λ n. body_item y o st n s) (λ n. body_item y o st n (s ++ t))
      (block_same o (least_of y) (omega (arith, some-least y)) (omega arith))
      (λ n e q. let w = whole_in (least_of y) (length s) (block_extent o (least_of y) s) n (block_in o (least_of y) s) e in
      body_same y o st n (least y n w.0) (omega (arith, some-least y, w.0)) w.1)) k)

  -- OCTETS BEHIND AN ITEM CHANGE NOTHING OF IT
  pub step-longer : (st : State) → IsTold (step_of st s) → step_of st (s ++ t) ≡ step_of st s
  unfolding step_of
  step-longer st = go st.container
    where
      go : (c : Container) → Same (step_in c st s) (step_in c st (s ++ t))
      go container.Unknown = start-same
      go (container.Classic o link) = record_same o link
      go (container.Section o) = block-longer o st
