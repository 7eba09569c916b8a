-- `next_item` reads the item at the front, and finds the next.
-- By whether a `;` follows.
use mathlib.Core.Path.{◌≡◌, ap, sym, ◌∙◌}
use mathlib.Core.Bool.{true, false}
use mathlib.Core.List.{List}
use Prim.Native.Nat.{ℕ, ◌+◌, ◌-◌, ◌≤◌}
use native.Mathlib.Omega.{arith}
use lib.ListN.{length, take, drop, length-drop, drop_of_length-le}
use lib.Seq.{drop-drop, length-take-le}
use borrow.Author.Tests.{lt-ltb, le-ltb}
use Rattle.wire_spec.proofs.ListLaws.{part-all}
use Rattle.sdp_spec.specs.declared.item.Item.{Item}
use Rattle.sdp_spec.specs.Reading.{item_of, skip_spaces, front, next}
use Rattle.sdp_spec.proofs.CutLaws.{front-take, front-inside, next-none}
use Rattle.sdp_reader.specs.Answers.{Stepped}
use Rattle.sdp_reader.proofs.next_item.Goals as goal

module _ (s : List ℕ) (n : ℕ) (x : Item) (same : n ≡ length (front s)) (item : x ≡ item_of (take n s)) where
  inside : n ≤ length s
  inside = omega (arith, front-inside s)

  first : x ≡ item_of (front s)
  first = item ∙ ap item_of (ap (λ (k : ℕ). take k s) same ∙ front-take s)

  last : n ≡ length s → Stepped s (record { item = x; used = n; more = false })
  last e =
      record {
        item = first;
        more = sym (le-ltb (length (front s)) (length s) (omega arith));
        inside = inside;
        rest = drop_of_length-le s {i = n} (omega arith) ∙ sym (next-none s (omega arith));
      }

  module _ (differs : n ≡ length s → ⊥) where
    below : n + 1 ≤ length s
    below = let h = inside in omega arith

    abbrev Part : List ℕ
    Part = take (length s - (n + 1)) (drop (n + 1) s)

    part_length : length Part ≡ length s - (n + 1)
    part_length = ap length (part-all (n + 1) s) ∙ length-drop (n + 1) s

    another : (k : ℕ) → k ≤ length Part → drop k Part ≡ skip_spaces Part → Stepped s (record { item = x; used = n + 1 + k; more = true })
    unfolding next
    another k l e =
        record {
          item = first;
          more = sym (lt-ltb (length (front s)) (length s) (let b = below in omega arith));
          inside = let b = below in omega (arith, part_length);
          rest =
              sym (drop-drop k (n + 1) s)
              ∙ ap (drop k) (sym (part-all (n + 1) s))
              ∙ e
              ∙ ap skip_spaces (part-all (n + 1) s)
              ∙ ap (λ (m : ℕ). skip_spaces (drop (m + 1) s)) same;
        }

pub slice_bounds-read_item-end : goal.slice_bounds-read_item-end
slice_bounds-read_item-end c = sym (length-take-le c.front_length-n.result c.args.text.now (omega (arith, front-inside c.args.text.now)))

pub returns-then-n-text : goal.returns-then-n-text
returns-then-n-text c = last _ _ _ c.front_length-n.ensures c.read_item-item.ensures c.if-n-text.true

pub overflow_add-start : goal.overflow_add-start
overflow_add-start c = let b = below _ _ _ c.front_length-n.ensures c.read_item-item.ensures c.if-n-text.false in omega arith

pub slice_bounds-spaces-count : goal.slice_bounds-spaces-count
slice_bounds-spaces-count c = below _ _ _ c.front_length-n.ensures c.read_item-item.ensures c.if-n-text.false

pub slice_bounds-spaces-start : goal.slice_bounds-spaces-start
slice_bounds-spaces-start c = below _ _ _ c.front_length-n.ensures c.read_item-item.ensures c.if-n-text.false

pub overflow_add-used : goal.overflow_add-used
overflow_add-used c = let b = below c.args.text.now _ _ c.front_length-n.ensures c.read_item-item.ensures c.if-n-text.false in omega (arith, part_length c.args.text.now _ _ c.front_length-n.ensures c.read_item-item.ensures c.if-n-text.false, c.spaces.ensures.0)

pub returns : goal.returns
returns c = another _ _ _ c.front_length-n.ensures c.read_item-item.ensures c.if-n-text.false _ c.spaces.ensures.0 c.spaces.ensures.1
