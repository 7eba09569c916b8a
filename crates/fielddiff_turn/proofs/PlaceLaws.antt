-- The lines of a position: what stands there, what follows, and nothing else.
-- By what either file has there.
use mathlib.Core.Path.{◌≡◌, refl, ap, ap₂, sym, ◌∙◌}
use mathlib.Core.Bool.{false, true≢false}
use mathlib.Core.List.{List, [], ◌∷◌, ◌++◌, append_assoc}
use Prim.Native.Nat.{ℕ, ◌+◌, min}
use native.Mathlib.Omega.{arith}
use borrow.Author.Tests.{ne_eqb}
use lib.ListN.{length}
use Rattle.wire_spec.specs.Anc.{Record}
use Rattle.fieldfile_spec.specs.declared.format.Version.{Version}
use Rattle.fieldfile_spec.specs.File.{FileRead, field_then, no_field}
use Rattle.fielddiff_spec.specs.Diff.{Line, Place, compare_at, differ, end_number, f_line, field_lines, number, place_in, records_line, refusal, refused_line, dash, ts_line}
use Rattle.fieldfile_scan_spec.specs.Window.{between, content}
use Rattle.fielddiff_spec.specs.Rest.{Standing, reading, over, fields_in, rest_of, lines_from, record_lines_from}
use Rattle.fielddiff_spec.proofs.FromLaws.{both-ended, both-fields, ended-after, left-only, left-refused, records-0, right-only, right-refused}
use Rattle.fielddiff_spec.proofs.RestLaws.{between-rest}
use Rattle.fielddiff_lines.specs.Places.{head_lines, place_lines}
use Rattle.fieldfile_scan_spec.specs.declared.found.Found.{Found}
use Rattle.fielddiff_side.specs.declared.Standing.{Standing as Held}
use Rattle.fielddiff_side.specs.declared.Standing.TheVariants as held
use Rattle.fielddiff_side.specs.Side.{StandsAs, is_reading, next_held, place_of}
use Rattle.fielddiff_turn.specs.Turns.{Now, PhaseStands, lines_left, phase_after}

-- what is printed at a position, and where the files stand then
pub record Placed (i : ℕ) (a b : Held) (left right : List ℕ) (x y : Standing) : Type 0 where
  pub to : Now
  pub stands_left : StandsAs (next_held a) left to.left
  pub stands_right : StandsAs (next_held b) right to.right
  pub phase : PhaseStands (phase_after i (place_of a) (place_of b)) left right to
  pub lines : (s t : List ℕ) → lines_from i (rest_of x s) (rest_of y t) ≡ place_lines i (place_of a) (place_of b) ++ lines_left (phase_after i (place_of a) (place_of b)) (i + 1) to s t

-- the records are behind the lines of the header
field-lines : (i : ℕ) (k m : Found) (xs ys : List Record) → k.records ≡ length xs → m.records ≡ length ys
    → field_lines i (content k.timestamp.0 k.f xs) (content m.timestamp.0 m.f ys) ≡ head_lines i k m ++ record_lines_from i 0 xs ys
unfolding field_lines
field-lines i k m xs ys e f =
    let t = differ (ts_line i) k.timestamp.0 m.timestamp.0 in
    let g = differ (f_line i) k.f m.f in
    let c = differ (records_line i) k.records m.records in
    let r = record_lines_from i 0 xs ys in
    (λ j. t ++ (g ++ (differ (records_line i) (sym e j) (sym f j) ++ records-0 i xs ys j)))
    ∙ sym (append_assoc t (g ++ c) r ∙ ap (λ (z : List Line). t ++ z) (append_assoc g c r))

at-0 : (j : ℕ) → j ≡ 0 + j
at-0 j = omega arith

refused-there : (n : ℕ) → (n ≡ end_number → ⊥) → place_in [] n 0 ≡ refusal n
refused-there n h = rw (ne_eqb n end_number h)

-- what is to come behind a field
read-on : (v : Version) (s : List ℕ) → fields_in v s ≡ rest_of (reading v (between v)) s
read-on v s = sym (between-rest v s)

abbrev now : (x y : Standing) (xs ys : List Record) → Now
now x y xs ys = record { left = x; right = y; left_records = xs; right_records = ys }

pub placed : (i : ℕ) (a b : Held) (left right : List ℕ) (x y : Standing) → is_reading a ≡ false → is_reading b ≡ false → StandsAs a left x → StandsAs b right y → Placed i a b left right x y
unfolding compare_at
placed i (held.Reading st) b left right x y p q h k = absurd (true≢false p)
placed i (held.Field k v) (held.Reading st) left right x y p q h l = absurd (true≢false q)
placed i held.Ended (held.Reading st) left right x y p q h l = absurd (true≢false q)
placed i (held.Refused n) (held.Reading st) left right x y p q h l = absurd (true≢false q)
placed i (held.Field k v) (held.Field m w) left right x y p q (xs, e, nk, room_l, cells_l, few_l) (ys, f, nm, room_r, cells_r, few_r) =
    record {
      to = now (reading v (between v)) (reading w (between w)) xs ys;
      stands_left = refl;
      stands_right = refl;
      phase =
          record {
            left_room = omega (arith, room_l);
            left_cells = cells_l;
            right_room = omega (arith, room_r);
            right_cells = cells_r;
            count = ap₂ min nk nm ∙ at-0 (min (length xs) (length ys));
            left_short = few_l;
            right_short = few_r;
          };
      lines =
          λ s t. ap₂ (λ (c d : Standing). lines_from i (rest_of c s) (rest_of d t)) e f
          ∙ both-fields i (content k.timestamp.0 k.f xs) (content m.timestamp.0 m.f ys) (fields_in v s) (fields_in w t)
          ∙ ap₂ (λ (c d : List Line). c ++ d) (field-lines i k m xs ys nk nm) (ap₂ (lines_from (i + 1)) (read-on v s) (read-on w t))
          ∙ append_assoc (head_lines i k m) (record_lines_from i 0 xs ys) (lines_from (i + 1) (rest_of (reading v (between v)) s) (rest_of (reading w (between w)) t));
    }
placed i (held.Field k v) held.Ended left right x y p q (xs, e, nk, room_l, cells_l, few_l) (z, f, g) =
    record {
      to = now (reading v (between v)) (over z) [] [];
      stands_left = refl;
      stands_right = (z, refl, g);
      phase = tt;
      lines =
          λ s t. ap₂ (λ (c d : Standing). lines_from i (rest_of c s) (rest_of d t)) e f
          ∙ left-only i (content k.timestamp.0 k.f xs) (fields_in v s) z g
          ∙ ap (λ (c : FileRead). place_lines i (place_of (held.Field k v)) (place_of held.Ended) ++ lines_from (i + 1) c (no_field z)) (read-on v s);
    }
placed i (held.Field k v) (held.Refused n) left right x y p q (xs, e, nk, room_l, cells_l, few_l) (z, f, g, h) =
    record {
      to = now (reading v (between v)) (over z) [] [];
      stands_left = refl;
      stands_right = (z, refl, g, h);
      phase = tt;
      lines =
          λ s t. ap₂ (λ (c d : Standing). lines_from i (rest_of c s) (rest_of d t)) e f
          ∙ right-refused i z (field_then (content k.timestamp.0 k.f xs) (fields_in v s)) (λ c. h (sym g ∙ c))
          ∙ ap (λ (c : ℕ). refused_line i dash (number c) ∷ []) g;
    }
placed i held.Ended (held.Field m w) left right x y p q (z, e, g) (ys, f, nm, room_r, cells_r, few_r) =
    record {
      to = now (over z) (reading w (between w)) [] [];
      stands_left = (z, refl, g);
      stands_right = refl;
      phase = tt;
      lines =
          λ s t. ap₂ (λ (c d : Standing). lines_from i (rest_of c s) (rest_of d t)) e f
          ∙ right-only i (content m.timestamp.0 m.f ys) (fields_in w t) z g
          ∙ ap (λ (c : FileRead). place_lines i (place_of held.Ended) (place_of (held.Field m w)) ++ lines_from (i + 1) (no_field z) c) (read-on w t);
    }
placed i held.Ended held.Ended left right x y p q (z, e, g) (u, f, h) =
    record {
      to = now (over z) (over u) [] [];
      stands_left = (z, refl, g);
      stands_right = (u, refl, h);
      phase = tt;
      lines = λ s t. ap₂ (λ (c d : Standing). lines_from i (rest_of c s) (rest_of d t)) e f ∙ both-ended i z u g h;
    }
placed i held.Ended (held.Refused n) left right x y p q (z, e, g) (u, f, h, l) =
    record {
      to = now (over z) (over u) [] [];
      stands_left = (z, refl, g);
      stands_right = (u, refl, h, l);
      phase = tt;
      lines =
          λ s t. ap₂ (λ (c d : Standing). lines_from i (rest_of c s) (rest_of d t)) e f
          ∙ right-refused i u (no_field z) (λ c. l (sym h ∙ c))
          ∙ ap₂ (λ (c : Place) (d : ℕ). compare_at i c (refusal d)) (ended-after z.number g 0) h;
    }
placed i (held.Refused n) (held.Field m w) left right x y p q (z, e, g, h) (ys, f, nm, room_r, cells_r, few_r) =
    record {
      to = now (over z) (reading w (between w)) [] [];
      stands_left = (z, refl, g, h);
      stands_right = refl;
      phase = tt;
      lines =
          λ s t. ap₂ (λ (c d : Standing). lines_from i (rest_of c s) (rest_of d t)) e f
          ∙ left-refused i z (field_then (content m.timestamp.0 m.f ys) (fields_in w t)) (λ c. h (sym g ∙ c))
          ∙ ap (λ (c : ℕ). refused_line i (number c) dash ∷ []) g;
    }
placed i (held.Refused n) held.Ended left right x y p q (z, e, g, h) (u, f, l) =
    record {
      to = now (over z) (over u) [] [];
      stands_left = (z, refl, g, h);
      stands_right = (u, refl, l);
      phase = tt;
      lines =
          λ s t. ap₂ (λ (c d : Standing). lines_from i (rest_of c s) (rest_of d t)) e f
          ∙ left-refused i z (no_field u) (λ c. h (sym g ∙ c))
          ∙ ap₂ (λ (c : ℕ) (d : Place). compare_at i (refusal c) d) g (ended-after u.number l 0);
    }
placed i (held.Refused n) (held.Refused m) left right x y p q (z, e, g, h) (u, f, l, o) =
    record {
      to = now (over z) (over u) [] [];
      stands_left = (z, refl, g, h);
      stands_right = (u, refl, l, o);
      phase = tt;
      lines =
          λ s t. ap₂ (λ (c d : Standing). lines_from i (rest_of c s) (rest_of d t)) e f
          ∙ left-refused i z (no_field u) (λ c. h (sym g ∙ c))
          ∙ ap₂ (λ (c : ℕ) (d : Place). compare_at i (refusal c) d) g (refused-there u.number (λ c. o (sym l ∙ c)) ∙ ap refusal l);
    }
