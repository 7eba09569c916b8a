-- A block whose length leaves no room for its fields is refused with 82, whatever octets it has. The
-- numbers are those of the pcapng draft's figures.
-- By the type and the length, which are read as they were written.
use Rattle.std.specs.Prelude.{Err}
use mathlib.Core.Path.{◌≡◌, refl, ap, ◌∙◌}
use mathlib.Core.Bool.{cond, false}
use mathlib.Core.List.{List, ◌++◌}
use Prim.Native.Nat.{ℕ, ◌<◌, ◌≤◌}
use native.Mathlib.Omega.{arith}
use borrow.Author.Tests.{le-ltb, lt-leb}
use lib.Dec.{eqb}
use lib.ListN.{length, length-append}
use Rattle.capture_spec.specs.declared.state.Order.{Order}
use Rattle.capture_spec.specs.declared.state.Container.{Container}
use Rattle.capture_spec.specs.declared.state.Container.TheVariants as container
use Rattle.capture_spec.specs.declared.state.State.{State}
use Rattle.capture_spec.specs.Items.{Extent, Read}
use Rattle.capture_spec.specs.Numbers.{word_at, section_order, section_type}
use Rattle.capture_spec.specs.Step.{
  block_extent,
  body_item,
  is_length,
  least_of,
  section_by,
  sized,
  step_in,
  step_of,
  trailed,
  within,
}
use Rattle.capture_spec.specs.Written.{word_of}
use Rattle.capture_spec.proofs.WrittenLaws.{length-word, word-behind, word-front}
use Rattle.capture_spec.specs.declared.state.Unread.TheVariants as unread

-- the reading stands in a section of this order
abbrev pub InSection : Order → State → Type 0
InSection o st = st.container ≡ container.Section o

module _ (o : Order) (st : State) (begun : InSection o st) (n : ℕ) (rest : List ℕ) (h : 4 ≤ length rest) where
  -- a block of the section: its type, its length, and 4 octets or more
  abbrev block : ℕ → List ℕ
  block t = word_of o t ++ (word_of o n ++ rest)

  block_size : (t : ℕ) → 12 ≤ length (block t)
  block_size t =
      let words = length-append (word_of o t) (word_of o n ++ rest) in
      omega (arith, h, words, length-append (word_of o n) rest, length-word o t, length-word o n)

  block-length : (t : ℕ) → word_at o (block t) 4 ≡ n
  block-length t =
      word-behind o (word_of o t) (word_of o n ++ rest) 0 4 (omega (arith, length-word o t))
      ∙ word-front o n rest

  too_short : (t : ℕ) → n < least_of t → block_extent o (least_of t) (block t) ≡ Err (unread.Refused 82)
  too_short t under =
      let s = block t in
      let least = least_of t in
      ap (λ (w : ℕ). cond (is_length least w) (sized w s (trailed o w s)) (Err (unread.Refused 82))) (block-length t)
      ∙ rw (lt-leb least n under)

  -- what a block of type `y` holds
  abbrev body : List ℕ → (y : ℕ) → Read
  body s y = within (block_extent o (least_of y) s) (λ k. body_item y o st k s)

  short : (t : ℕ) → eqb t section_type ≡ false → n < least_of t → step_of st (block t) ≡ Err (unread.Refused 82)
  unfolding step_of
  short t other under =
      let s = block t in
      ap (λ (k : Container). step_in k st s) begun
      ∙ rw (le-ltb (length s) 12 (block_size t))
      (ap (λ (y : ℕ). cond (eqb y section_type) (section_by (section_order s) s) (body s y)) (word-front o t _)
      ∙ rw other (ap (λ (x : Extent). within x (λ k. body_item t o st k s)) (too_short t under)))

  -- "Interface Description Block" (1): LinkType, reserved and SnapLen take 8 octets, type and both lengths 12
  pub interface-under-20 : n < 20 → step_of st (block 1) ≡ Err (unread.Refused 82)
  interface-under-20 h = short 1 refl h

  -- "Packet Block" (2, obsolete) and "Enhanced Packet Block" (6): 20 octets before the packet
  pub packet-under-32 : n < 32 → step_of st (block 2) ≡ Err (unread.Refused 82)
  packet-under-32 h = short 2 refl h

  pub enhanced-under-32 : n < 32 → step_of st (block 6) ≡ Err (unread.Refused 82)
  enhanced-under-32 h = short 6 refl h

  -- "Simple Packet Block" (3): 4 octets before the packet
  pub simple-under-16 : n < 16 → step_of st (block 3) ≡ Err (unread.Refused 82)
  simple-under-16 h = short 3 refl h
