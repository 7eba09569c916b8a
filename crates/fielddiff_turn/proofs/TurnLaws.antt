-- Each turn keeps what is printed: what was to be printed is what was written, and what is still to be.
-- By what the turn did.
use mathlib.Core.Path.{◌≡◌, refl, ap, ap₂, sym, ◌∙◌, subst}
use mathlib.Core.Bool.{Bool, true, false, cond, ◌&&◌}
use mathlib.Core.List.{List, [], ◌++◌, append_assoc}
use Prim.Native.Nat.{ℕ, ◌+◌, ◌-◌, ◌≤◌}
use native.Mathlib.Omega.{arith}
use lib.ListN.{length, take}
use Rattle.wire_spec.proofs.ListLaws.{length-splice, take-splice}
use Rattle.text.specs.Put.{Put}
use Rattle.fielddiff_spec.specs.Diff.{Line, cell_lines}
use Rattle.fielddiff_spec.specs.Text.{diff_text}
use Rattle.fielddiff_spec.proofs.TextLaws.{text-append}
use Rattle.fielddiff_spec.specs.Rest.{rest_of, lines_from, record_lines_from}
use Rattle.fielddiff_lines.specs.Places.{place_lines}
use Rattle.program_spec.specs.declared.buffers.Buffers.{Buffers}
use Rattle.program_spec.specs.Buffers.{Flushed, begun}
use Rattle.fieldfile_spec.specs.File.{FileRead}
use Rattle.fielddiff_side.specs.declared.Side.{Side}
use Rattle.fielddiff_side.specs.declared.Standing.{Standing as Held}
use Rattle.fielddiff_side.specs.declared.Standing.TheVariants as held
use Rattle.fielddiff_side.specs.Side as side
use Rattle.fielddiff_side.specs.Side.{Advanced, HeldReachable, MayCome, is_reading, next_held, place_of, read_in, unscanned}
use Rattle.fielddiff_side.proofs.SideLaws.{none_read}
use Rattle.fielddiff_turn.specs.declared.Run.{Run}
use Rattle.fielddiff_turn.specs.declared.Records.{Records}
use Rattle.fielddiff_turn.specs.declared.Phase.{Phase}
use Rattle.fielddiff_turn.specs.declared.Phase.TheVariants as phase
use Rattle.fielddiff_turn.specs.Turns.{Bounds, Kept, Now, PhaseStands, RecordsStand, RunFlushed, Stands, Step, Turned, behind_record, cells_here, last, left_on, lines_left, next, phase_after, places, places_done, right_on, to_print, with_left, with_phase, with_right, written_in}
use Rattle.fielddiff_turn.proofs.PlaceLaws.{Placed, placed}
use Rattle.fielddiff_turn.proofs.RecordLaws.{Compared, compared, none_left}

-- text that is put behind what waits
put-kept : (out out' piece rest : List ℕ) (k n : ℕ) → Put out k piece out' n → take k out ++ (piece ++ rest) ≡ take (k - n) out ++ (take n out' ++ rest)
put-kept out out' piece rest k n p =
    let e : take n out' ≡ take k out ++ piece = (λ i. take (p.behind i) (p.octets i)) ∙ take-splice out k piece (omega (arith, p.room)) in
    let z : k - n ≡ 0 = omega (arith, p.behind) in
    sym (ap₂ (λ (m : ℕ) (l : List ℕ). take m out ++ (l ++ rest)) z e ∙ append_assoc (take k out) piece rest)

put-fits : (out out' piece : List ℕ) (k n : ℕ) → Put out k piece out' n → n ≤ length out'
put-fits out out' piece k n p = omega (arith, p.behind, p.room, ap length p.octets, length-splice out k piece p.room)

-- no text is put or written
same_text : (k : ℕ) (out rest : List ℕ) → take k out ++ rest ≡ take (k - k) out ++ (take k out ++ rest)
same_text k out rest = let z : k - k ≡ 0 = omega arith in sym (ap (λ (m : ℕ). take m out ++ (take k out ++ rest)) z)

module _ (v : Run) (left_input right_input left_store right_store out : List ℕ) (b : Bounds v (length left_input) (length right_input) (length out)) where
  left_none : read_in v.left v.left left_input ≡ []
  left_none = none_read v.left left_input b.left

  right_none : read_in v.right v.right right_input ≡ []
  right_none = none_read v.right right_input b.right

  -- a turn that reads nothing
  still_kept : (n to : Now) (r : Run) (out' : List ℕ) → read_in v.left r.left left_input ≡ [] → read_in v.right r.right right_input ≡ []
      → r.left.more ≡ v.left.more → r.right.more ≡ v.right.more → Stands r left_store right_store to
      → ((s t : List ℕ) → to_print v n left_input right_input out s t ≡ written_in v r out ++ to_print r to left_input right_input out' s t)
      → Kept v n left_input right_input out r left_input right_input left_store right_store out'
  still_kept n to r out' nl nr ml mr st core =
      record {
        to = to;
        stands = st;
        left_comes = λ s m. subst (λ (z : List ℕ). MayCome v.left (z ++ s)) (sym nl) (λ e. m (ml ∙ e));
        right_comes = λ t m. subst (λ (z : List ℕ). MayCome v.right (z ++ t)) (sym nr) (λ e. m (mr ∙ e));
        same = λ s t m k. ap₂ (λ (y z : List ℕ). to_print v n left_input right_input out (y ++ s) (z ++ t)) nl nr ∙ core s t;
      }

  -- THE TEXT IS WRITTEN
  abbrev flushed-as : Buffers → Run
  flushed-as x = record { left = v.left; right = v.right; position = v.position; phase = v.phase; filled = x.filled; «open» = v.«open» && x.«open» }

  written-core : (x : Buffers) → Flushed (begun v.filled) x → (rest : List ℕ) → take v.filled out ++ rest ≡ take (v.filled - x.filled) out ++ (take x.filled out ++ rest)
  written-core x f rest = go f.written f.filled
    where
      go : (w : Bool) → x.filled ≡ cond w 0 v.filled → take v.filled out ++ rest ≡ take (v.filled - x.filled) out ++ (take x.filled out ++ rest)
      go true e = let z : v.filled - x.filled ≡ v.filled = omega (arith, e) in sym (ap₂ (λ (m k : ℕ). take m out ++ (take k out ++ rest)) z e)
      go false e = same_text v.filled out rest ∙ sym (ap (λ (k : ℕ). take (v.filled - k) out ++ (take k out ++ rest)) e)

  filled-less : (x : Buffers) → Flushed (begun v.filled) x → x.filled ≤ v.filled
  filled-less x f = go f.written f.filled
    where
      go : (w : Bool) → x.filled ≡ cond w 0 v.filled → x.filled ≤ v.filled
      go true e = omega (arith, e)
      go false e = omega (arith, e)

  pub flushed-turned : (r : Run) → RunFlushed v r → Step v left_input right_input left_store right_store r left_input right_input
      → Turned v left_input right_input left_store right_store out r left_input right_input left_store right_store out
  flushed-turned r f did =
      subst (λ (z : Run). Turned v left_input right_input left_store right_store out z left_input right_input left_store right_store out) (sym f.is)
      (go f.text f.flushed (subst (λ (z : Run). Step v left_input right_input left_store right_store z left_input right_input) f.is did))
    where
      go : (x : Buffers) → Flushed (begun v.filled) x → Step v left_input right_input left_store right_store (flushed-as x) left_input right_input
          → Turned v left_input right_input left_store right_store out (flushed-as x) left_input right_input left_store right_store out
      go x g s =
          record {
            step = s;
            bounds = record { left = b.left; right = b.right; left_reach = b.left_reach; right_reach = b.right_reach; text = omega (arith, filled-less x g, b.text) };
            position = omega arith;
            keeps =
                λ n st. still_kept n n (flushed-as x) out left_none right_none refl refl (record { left = st.left; right = st.right; phase = st.phase })
                (λ s t. written-core x g (diff_text (lines_left v.phase v.position n (unscanned v.left left_input ++ s) (unscanned v.right right_input ++ t))));
          }

  -- THE LINES OF A POSITION
  reach-next : (h : Held) → HeldReachable h → HeldReachable (next_held h)
  reach-next (held.Reading st) r = r
  reach-next (held.Field k w) r = tt
  reach-next held.Ended r = tt
  reach-next (held.Refused n) r = tt

  module _ (here : v.phase ≡ phase.Places) where
    lines-as : (n : Now) (s t : List ℕ) → lines_left v.phase v.position n s t ≡ lines_from v.position (rest_of n.left s) (rest_of n.right t)
    lines-as n s t = ap (λ (p : Phase). lines_left p v.position n s t) here

    pub places-turned : is_reading v.left.standing ≡ false → is_reading v.right.standing ≡ false → (r : Run) (out' : List ℕ)
        → Put out v.filled (diff_text (place_lines v.position (place_of v.left.standing) (place_of v.right.standing))) out' r.filled → r ≡ places_done v r.filled
        → Turned v left_input right_input left_store right_store out r left_input right_input left_store right_store out'
    places-turned fl fr r out' p is =
        subst (λ (z : Run). Turned v left_input right_input left_store right_store out z left_input right_input left_store right_store out') (sym is) (go r.filled p)
      where
        go : (m : ℕ) → Put out v.filled (diff_text (place_lines v.position (place_of v.left.standing) (place_of v.right.standing))) out' m
            → Turned v left_input right_input left_store right_store out (places_done v m) left_input right_input left_store right_store out'
        go m p =
            record {
              step = places here refl;
              bounds =
                  record {
                    left = b.left;
                    right = b.right;
                    left_reach = reach-next v.left.standing b.left_reach;
                    right_reach = reach-next v.right.standing b.right_reach;
                    text = put-fits out out' _ v.filled m p;
                  };
              position = omega arith;
              keeps = λ n st. kept n (placed v.position v.left.standing v.right.standing left_store right_store n.left n.right fl fr st.left st.right);
            }
          where
            kept : (n : Now) → Placed v.position v.left.standing v.right.standing left_store right_store n.left n.right
                → Kept v n left_input right_input out (places_done v m) left_input right_input left_store right_store out'
            kept n q =
                still_kept n q.to (places_done v m) out' left_none right_none refl refl (record { left = q.stands_left; right = q.stands_right; phase = q.phase })
                (λ s t.
                let u = unscanned v.left left_input ++ s in
                let w = unscanned v.right right_input ++ t in
                let piece = place_lines v.position (place_of v.left.standing) (place_of v.right.standing) in
                let rest = lines_left (phase_after v.position (place_of v.left.standing) (place_of v.right.standing)) (v.position + 1) q.to u w in
                ap (λ (l : List Line). take v.filled out ++ diff_text l) (lines-as n u w ∙ q.lines u w)
                ∙ ap (λ (l : List ℕ). take v.filled out ++ l) (text-append piece rest)
                ∙ put-kept out out' (diff_text piece) (diff_text rest) v.filled m p)

    -- A TURN OF ONE FILE
    pub left-turned : is_reading v.left.standing ≡ true → (d : Side) (left_input' left_store' : List ℕ) → Advanced v.left left_input left_store d left_input' left_store'
        → Turned v left_input right_input left_store right_store out (with_left v d) left_input' right_input left_store' right_store out
    left-turned reads d left_input' left_store' a =
        record {
          step = left_on reads a.step refl;
          bounds = record { left = a.bounds; right = b.right; left_reach = a.reach; right_reach = b.right_reach; text = b.text };
          position = omega arith;
          keeps = λ n st. kept n st (a.keeps n.left st.left);
        }
      where
        kept : (n : Now) → Stands v left_store right_store n → side.Kept v.left left_input n.left d left_input' left_store'
            → Kept v n left_input right_input out (with_left v d) left_input' right_input left_store' right_store out
        kept n st k =
            record {
              to = record { left = k.to; right = n.right; left_records = []; right_records = [] };
              stands = record { left = k.stands; right = st.right; phase = tt };
              left_comes = k.comes;
              right_comes = λ t m. subst (λ (z : List ℕ). MayCome v.right (z ++ t)) (sym right_none) m;
              same =
                  λ s t m o.
                  let g = read_in v.left d left_input' in
                  let y = unscanned v.right right_input ++ t in
                  ap (λ (z : List ℕ). to_print v n left_input right_input out (g ++ s) (z ++ t)) right_none
                  ∙ ap (λ (l : List Line). take v.filled out ++ diff_text l)
                  (lines-as n (unscanned v.left left_input ++ (g ++ s)) y ∙ ap (λ (f : FileRead). lines_from v.position f (rest_of n.right y)) (k.same s m))
                  ∙ same_text v.filled out _;
            }

    pub right-turned : is_reading v.right.standing ≡ true → (d : Side) (right_input' right_store' : List ℕ) → Advanced v.right right_input right_store d right_input' right_store'
        → Turned v left_input right_input left_store right_store out (with_right v d) left_input right_input' left_store right_store' out
    right-turned reads d right_input' right_store' a =
        record {
          step = right_on reads a.step refl;
          bounds = record { left = b.left; right = a.bounds; left_reach = b.left_reach; right_reach = a.reach; text = b.text };
          position = omega arith;
          keeps = λ n st. kept n st (a.keeps n.right st.right);
        }
      where
        kept : (n : Now) → Stands v left_store right_store n → side.Kept v.right right_input n.right d right_input' right_store'
            → Kept v n left_input right_input out (with_right v d) left_input right_input' left_store right_store' out
        kept n st k =
            record {
              to = record { left = n.left; right = k.to; left_records = []; right_records = [] };
              stands = record { left = st.left; right = k.stands; phase = tt };
              left_comes = λ s m. subst (λ (z : List ℕ). MayCome v.left (z ++ s)) (sym left_none) m;
              right_comes = k.comes;
              same =
                  λ s t o m.
                  let g = read_in v.right d right_input' in
                  let x = unscanned v.left left_input ++ s in
                  ap (λ (z : List ℕ). to_print v n left_input right_input out (z ++ s) (g ++ t)) left_none
                  ∙ ap (λ (l : List Line). take v.filled out ++ diff_text l)
                  (lines-as n x (unscanned v.right right_input ++ (g ++ t)) ∙ ap (λ (f : FileRead). lines_from v.position (rest_of n.left x) f) (k.same t m))
                  ∙ same_text v.filled out _;
            }

  -- THE RECORDS OF TWO FIELDS
  module _ (c : Records) (comparing : v.phase ≡ phase.Comparing c) where
    records-stand : (n : Now) → Stands v left_store right_store n → RecordsStand c left_store right_store n.left_records n.right_records
    records-stand n st = subst (λ (p : Phase). PhaseStands p left_store right_store n) comparing st.phase

    records-as : (n : Now) (s t : List ℕ) → lines_left v.phase v.position n s t
        ≡ record_lines_from c.position c.index n.left_records n.right_records ++ lines_from v.position (rest_of n.left s) (rest_of n.right t)
    records-as n s t = ap (λ (p : Phase). lines_left p v.position n s t) comparing

    -- behind the last of one of them
    pub records-over : c.index ≡ c.count → Turned v left_input right_input left_store right_store out (with_phase v phase.Places v.filled) left_input right_input left_store right_store out
    records-over e =
        record {
          step = last c comparing e refl;
          bounds = record { left = b.left; right = b.right; left_reach = b.left_reach; right_reach = b.right_reach; text = b.text };
          position = omega arith;
          keeps =
              λ n st. still_kept n n (with_phase v phase.Places v.filled) out left_none right_none refl refl (record { left = st.left; right = st.right; phase = tt })
              (λ s t.
              let u = unscanned v.left left_input ++ s in
              let w = unscanned v.right right_input ++ t in
              let rest = lines_from v.position (rest_of n.left u) (rest_of n.right w) in
              ap (λ (l : List Line). take v.filled out ++ diff_text l)
              (records-as n u w ∙ ap (λ (l : List Line). l ++ rest) (none_left c left_store right_store n.left_records n.right_records (records-stand n st) e))
              ∙ same_text v.filled out (diff_text rest));
        }

    -- the next one
    pub record-turned : (c.index ≡ c.count → ⊥) → (r : Run) (out' : List ℕ)
        → Put out v.filled (diff_text (cell_lines c.position c.index (cells_here left_store c.left) (cells_here right_store c.right))) out' r.filled
        → r ≡ with_phase v (phase.Comparing (behind_record c left_store right_store)) r.filled
        → Turned v left_input right_input left_store right_store out r left_input right_input left_store right_store out'
    record-turned ne r out' p is =
        subst (λ (z : Run). Turned v left_input right_input left_store right_store out z left_input right_input left_store right_store out') (sym is) (go r.filled p)
      where
        cells : List Line
        cells = cell_lines c.position c.index (cells_here left_store c.left) (cells_here right_store c.right)

        go : (m : ℕ) → Put out v.filled (diff_text (cell_lines c.position c.index (cells_here left_store c.left) (cells_here right_store c.right))) out' m
            → Turned v left_input right_input left_store right_store out (with_phase v (phase.Comparing (behind_record c left_store right_store)) m) left_input right_input left_store right_store out'
        go m p =
            record {
              step = next c comparing ne refl;
              bounds = record { left = b.left; right = b.right; left_reach = b.left_reach; right_reach = b.right_reach; text = put-fits out out' _ v.filled m p };
              position = omega arith;
              keeps = λ n st. kept n st (compared c left_store right_store n.left_records n.right_records (records-stand n st) ne);
            }
          where
            kept : (n : Now) → Stands v left_store right_store n → Compared c left_store right_store n.left_records n.right_records
                → Kept v n left_input right_input out (with_phase v (phase.Comparing (behind_record c left_store right_store)) m) left_input right_input left_store right_store out'
            kept n st q =
                still_kept n (record { left = n.left; right = n.right; left_records = q.left_others; right_records = q.right_others })
                (with_phase v (phase.Comparing (behind_record c left_store right_store)) m) out' left_none right_none refl refl
                (record { left = st.left; right = st.right; phase = q.stands })
                (λ s t.
                let u = unscanned v.left left_input ++ s in
                let w = unscanned v.right right_input ++ t in
                let others = record_lines_from c.position (c.index + 1) q.left_others q.right_others in
                let rest = lines_from v.position (rest_of n.left u) (rest_of n.right w) in
                ap (λ (l : List Line). take v.filled out ++ diff_text l)
                (records-as n u w ∙ ap (λ (l : List Line). l ++ rest) q.lines ∙ append_assoc cells others rest)
                ∙ ap (λ (l : List ℕ). take v.filled out ++ l) (text-append cells (others ++ rest))
                ∙ put-kept out out' (diff_text cells) (diff_text (others ++ rest)) v.filled m p)
