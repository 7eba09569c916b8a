-- The next record of two fields, in the stores.
-- By the cells that stand there.
use mathlib.Core.Path.{◌≡◌, refl, ap, ap₂, sym, ◌∙◌}
use mathlib.Core.List.{List, [], ◌∷◌, ◌++◌}
use Prim.Native.Nat.{ℕ, ◌+◌, ◌-◌, ◌≤◌}
use native.Mathlib.Omega.{arith}
use lib.ListN.{length, take, drop, length-append, length-drop}
use lib.Seq.{drop_at, drop-drop, get_or-take, length-take-le, take-add, take_at}
use Rattle.wire_spec.specs.Anc.{Record}
use Rattle.wire_spec.specs.Cells.{cell_count, cells_of, head_cells, list_of}
use Rattle.fielddiff_spec.specs.Diff.{cell_lines}
use Rattle.fielddiff_spec.specs.Rest.{record_lines_from}
use Rattle.fielddiff_side.specs.Side.{Short}
use Rattle.fielddiff_turn.specs.declared.Records.{Records}
use Rattle.fielddiff_turn.specs.Turns.{Here, RecordsStand, behind_record, cells_here, record_end}

-- the record at the front of cells that stand at a place
record Front (store : List ℕ) (at : ℕ) (x : Record) (xs : List Record) : Type 0 where
  pub here : Here store at
  pub end : record_end store at ≡ at + length (cells_of x)
  pub cells : cells_here store at ≡ cells_of x
  pub room : record_end store at + length (list_of xs) ≤ length store
  pub others : take (length (list_of xs)) (drop (record_end store at) store) ≡ list_of xs

front : (store : List ℕ) (at : ℕ) (x : Record) (xs : List Record) → at + length (list_of (x ∷ xs)) ≤ length store
    → take (length (list_of (x ∷ xs))) (drop at store) ≡ list_of (x ∷ xs) → Short x → Front store at x xs
front store at x xs room is few =
    record {
      here = record { head = omega (arith, room, both, size); end = omega (arith, room, both, size, count); few = omega (arith, count, few) };
      end = ends;
      cells = ap (λ (n : ℕ). take n (drop at store)) span ∙ first;
      room = omega (arith, room, both, ends);
      others = ap (λ (n : ℕ). take (length (list_of xs)) (drop n store)) ends ∙ ap (take (length (list_of xs))) (sym (drop-drop (length (cells_of x)) at store)) ∙ second;
    }
  where
    both : length (list_of (x ∷ xs)) ≡ length (cells_of x) + length (list_of xs)
    both = length-append (cells_of x) (list_of xs)

    size : length (cells_of x) ≡ head_cells + length x.words
    size = omega arith

    parts : take (length (cells_of x)) (drop at store) ++ take (length (list_of xs)) (drop (length (cells_of x)) (drop at store)) ≡ cells_of x ++ list_of xs
    parts = sym (take-add (length (cells_of x)) (length (list_of xs)) (drop at store)) ∙ ap (λ (n : ℕ). take n (drop at store)) (sym both) ∙ is

    long : length (take (length (cells_of x)) (drop at store)) ≡ length (cells_of x)
    long = length-take-le (length (cells_of x)) (drop at store) (omega (arith, length-drop at store, room, both))

    first : take (length (cells_of x)) (drop at store) ≡ cells_of x
    first =
        sym (take_at (take (length (cells_of x)) (drop at store)) (take (length (list_of xs)) (drop (length (cells_of x)) (drop at store))) (length (cells_of x)) long)
        ∙ ap (take (length (cells_of x))) parts ∙ take_at (cells_of x) (list_of xs) (length (cells_of x)) refl

    second : take (length (list_of xs)) (drop (length (cells_of x)) (drop at store)) ≡ list_of xs
    second =
        sym (drop_at (take (length (cells_of x)) (drop at store)) (take (length (list_of xs)) (drop (length (cells_of x)) (drop at store))) (length (cells_of x)) long)
        ∙ ap (drop (length (cells_of x))) parts ∙ drop_at (cells_of x) (list_of xs) (length (cells_of x)) refl

    count : cell_count (drop at store) ≡ length x.words
    count = sym (get_or-take (length (cells_of x)) (drop at store) 7 0 (omega (arith, size))) ∙ ap cell_count first

    ends : record_end store at ≡ at + length (cells_of x)
    ends = omega (arith, count, size)

    span : record_end store at - at ≡ length (cells_of x)
    span = omega (arith, ends)

-- WHAT THE NEXT RECORD PRINTS, and where the others stand
pub record Compared (r : Records) (left right : List ℕ) (xs ys : List Record) : Type 0 where
  pub left_others : List Record
  pub right_others : List Record
  pub left_here : Here left r.left
  pub right_here : Here right r.right
  pub fits : r.index + 1 ≤ r.count
  pub stands : RecordsStand (behind_record r left right) left right left_others right_others
  pub lines : record_lines_from r.position r.index xs ys
      ≡ cell_lines r.position r.index (cells_here left r.left) (cells_here right r.right) ++ record_lines_from r.position (r.index + 1) left_others right_others

pub compared : (r : Records) (left right : List ℕ) (xs ys : List Record) → RecordsStand r left right xs ys → (r.index ≡ r.count → ⊥) → Compared r left right xs ys
compared r left right [] ys h ne = absurd (ne (omega (arith, h.count)))
compared r left right (x ∷ xs) [] h ne = absurd (ne (omega (arith, h.count)))
compared r left right (x ∷ xs) (y ∷ ys) h ne =
    let f = front left r.left x xs h.left_room h.left_cells h.left_short.0 in
    let g = front right r.right y ys h.right_room h.right_cells h.right_short.0 in
    record {
      left_others = xs;
      right_others = ys;
      left_here = f.here;
      right_here = g.here;
      fits = omega (arith, h.count);
      stands =
          record {
            left_room = f.room;
            left_cells = f.others;
            right_room = g.room;
            right_cells = g.others;
            count = omega (arith, h.count);
            left_short = h.left_short.1;
            right_short = h.right_short.1;
          };
      lines = ap₂ (λ (a b : List ℕ). cell_lines r.position r.index a b ++ record_lines_from r.position (r.index + 1) xs ys) (sym f.cells) (sym g.cells);
    }

-- behind the last record of one of them nothing more is compared
pub none_left : (r : Records) (left right : List ℕ) (xs ys : List Record) → RecordsStand r left right xs ys → r.index ≡ r.count → record_lines_from r.position r.index xs ys ≡ []
none_left r left right [] ys h e = refl
none_left r left right (x ∷ xs) [] h e = refl
none_left r left right (x ∷ xs) (y ∷ ys) h e = absurd (omega (arith, h.count, e))
