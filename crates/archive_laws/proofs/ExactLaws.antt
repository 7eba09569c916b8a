-- Exactly what an archive holds.
-- A fresh packet hands out a field where the packets behind the last marked one are a field's (`NoneLostLaws`), and nowhere else (`AnyLaws`).
use mathlib.Core.Path.{◌≡◌, refl, ap, ap₂, sym, subst, ◌∙◌}
use mathlib.Core.Bool.{Bool, true, false, cond, ◌&&◌}
use mathlib.Core.List.{List, [], ◌∷◌, ◌++◌, append-nil, append_assoc, map, nil≢cons}
use Prim.Native.Nat.{ℕ, ◌+◌, ◌^◌, ◌%◌, ◌<◌}
use native.Mathlib.Omega.{arith}
use borrow.Author.Tests.{eqb-true, eq-eqb, le-leb, leb-true, ne_eqb}
use lib.Dec.{eqb, leb}
use lib.ListN.{length}
use Rattle.wire_spec.specs.Anc.{Each}
use Rattle.wire_spec.specs.Writing.{max_field_records, max_field_cells, max_field_packets}
use Rattle.wire_spec.proofs.ResultLaws.{and_both, and-true}
use Rattle.wire_spec.proofs.ListLaws.{each_snoc}
use Rattle.depacketizer_spec.specs.Step.{marked}
use Rattle.depacketizer_spec.specs.Stream.{Handed, record_count, joined_cells}
use Rattle.archive_laws.specs.Any.{Accepted, Heard, InSequence, OfField, OneField, OnlyLastMarked, Vouched, joined_of, parts_of}
use Rattle.archive_laws.specs.Exact.{field_of, in_sequence, of_field, time_of, whole_fields, whole_of, within}
use Rattle.archive_laws.proofs.GatherLaws.{Unmarked, marks-snoc, mark-is, no-mark-is}
use Rattle.archive_laws.proofs.NoneLostLaws.{marks-front, snoc-inj, snoc-view}

-- THE TESTS say what they are called
sequence-test : (p : Heard) (l : List Heard) → InSequence (p ∷ l) → in_sequence p l ≡ true
sequence-test p [] h = refl
sequence-test p (q ∷ l) h = and_both (eq-eqb q.says.number ((p.says.number + 1) % 2 ^ 32) h.0) (sequence-test q l h.1)

sequence-is : (p : Heard) (l : List Heard) → in_sequence p l ≡ true → InSequence (p ∷ l)
sequence-is p [] h = tt
sequence-is p (q ∷ l) h = let a = and-true (eqb q.says.number ((p.says.number + 1) % 2 ^ 32)) (in_sequence q l) h in (eqb-true q.says.number ((p.says.number + 1) % 2 ^ 32) a.0, sequence-is q l a.1)

field-test : (t f : ℕ) (l : List Heard) → Each (OfField t f) l → of_field t f l ≡ true
field-test t f [] h = refl
field-test t f (p ∷ l) h = and_both (and_both (eq-eqb p.says.timestamp t h.0.0) (eq-eqb p.says.f f h.0.1)) (field-test t f l h.1)

field_is : (t f : ℕ) (l : List Heard) → of_field t f l ≡ true → Each (OfField t f) l
field_is t f [] h = tt
field_is t f (p ∷ l) h =
    let a = and-true (eqb p.says.timestamp t && eqb p.says.f f) (of_field t f l) h in
    let b = and-true (eqb p.says.timestamp t) (eqb p.says.f f) a.0 in
    ((eqb-true p.says.timestamp t b.0, eqb-true p.says.f f b.1), field_is t f l a.1)

-- THE LAST MARKED PACKET, and those behind it
abbrev pub lead_after : (lead fresh : List Heard) → List Heard
lead_after lead [] = lead
lead_after lead (p ∷ l) = lead_after (cond (marked p.says) (p ∷ []) lead) l

abbrev pub held_after : (held fresh : List Heard) → List Heard
held_after held [] = held
held_after held (p ∷ l) = held_after (cond (marked p.says) [] (held ++ (p ∷ []))) l

pub whole_append : (lead held a b : List Heard) → whole_fields lead held (a ++ b) ≡ whole_fields lead held a ++ whole_fields (lead_after lead a) (held_after held a) b
whole_append lead held [] b = refl
whole_append lead held (p ∷ a) b = go (whole_append (p ∷ []) [] a b) (whole_append lead (held ++ (p ∷ [])) a b) (marked p.says)
  where
    go : whole_fields (p ∷ []) [] (a ++ b) ≡ whole_fields (p ∷ []) [] a ++ whole_fields (lead_after (p ∷ []) a) (held_after [] a) b
        → whole_fields lead (held ++ (p ∷ [])) (a ++ b) ≡ whole_fields lead (held ++ (p ∷ [])) a ++ whole_fields (lead_after lead a) (held_after (held ++ (p ∷ [])) a) b
        → (m : Bool)
        → cond m (whole_of lead held p ++ whole_fields (p ∷ []) [] (a ++ b)) (whole_fields lead (held ++ (p ∷ [])) (a ++ b))
        ≡ cond m (whole_of lead held p ++ whole_fields (p ∷ []) [] a) (whole_fields lead (held ++ (p ∷ [])) a)
        ++ whole_fields (lead_after (cond m (p ∷ []) lead) a) (held_after (cond m [] (held ++ (p ∷ []))) a) b
    go x y true = ap (λ (l : List (List Heard)). whole_of lead held p ++ l) x ∙ sym (append_assoc (whole_of lead held p) (whole_fields (p ∷ []) [] a) _)
    go x y false = y

-- behind a marked packet, and unmarked ones
unmarked-after : (lead held l : List Heard) → Each Unmarked l → (lead_after lead l ≡ lead) × (held_after held l ≡ held ++ l)
unmarked-after lead held [] u = (refl, sym (append-nil held))
unmarked-after lead held (p ∷ l) u =
    let m : marked p.says ≡ false = ne_eqb p.says.marker 1 (λ e. omega (arith, u.0)) in
    let x = unmarked-after lead (held ++ (p ∷ [])) l u.1 in
    (rw m x.0, rw m (x.1 ∙ append_assoc held (p ∷ []) l))

tail-is : (lead held before : List Heard) (q : Heard) (l : List Heard) → q.says.marker ≡ 1 → Each Unmarked l
    → (lead_after lead (before ++ (q ∷ l)) ≡ q ∷ []) × (held_after held (before ++ (q ∷ l)) ≡ l)
tail-is lead held [] q l e u =
    let m : marked q.says ≡ true = eq-eqb q.says.marker 1 e in
    let x = unmarked-after (q ∷ []) [] l u in
    (ap (λ (b : Bool). lead_after (cond b (q ∷ []) lead) l) m ∙ x.0, ap (λ (b : Bool). held_after (cond b [] (held ++ (q ∷ []))) l) m ∙ x.1)
tail-is lead held (p ∷ before) q l e u = tail-is (cond (marked p.says) (p ∷ []) lead) (cond (marked p.says) [] (held ++ (p ∷ []))) before q l e u

-- and the other way round: where a packet is the last marked one, it stands there
record Tail (fresh : List Heard) (q : Heard) (held : List Heard) : Type 0 where
  pub before : List Heard
  pub ends : fresh ≡ before ++ (q ∷ held)
  pub leads : q.says.marker ≡ 1
  pub unmarked : Each Unmarked held

abbrev TailOf : (fresh lead held : List Heard) → Type 0
TailOf fresh [] held = Unit {0}
TailOf fresh (q ∷ r ∷ l) held = ⊥
TailOf fresh (q ∷ []) held = Tail fresh q held

abbrev pub Bit : Heard → Type 0
Bit p = p.says.marker < 2

tail-snoc : (done lead held : List Heard) (p : Heard) → Bit p → TailOf done lead held → (m : Bool) → marked p.says ≡ m
    → TailOf (done ++ (p ∷ [])) (cond m (p ∷ []) lead) (cond m [] (held ++ (p ∷ [])))
tail-snoc done lead held p b h true e = record { before = done; ends = refl; leads = mark-is p.says e; unmarked = tt }
tail-snoc done [] held p b h false e = tt
tail-snoc done (q ∷ []) held p b h false e =
    record {
      before = h.before;
      ends = ap (λ (l : List Heard). l ++ (p ∷ [])) h.ends ∙ append_assoc h.before (q ∷ held) (p ∷ []);
      leads = h.leads;
      unmarked = each_snoc Unmarked held p h.unmarked (no-mark-is p.says b e);
    }
tail-snoc done (q ∷ r ∷ l) held p b h false e = absurd h

tail_walk : (done lead held fresh : List Heard) → Each Bit fresh → TailOf done lead held → TailOf (done ++ fresh) (lead_after lead fresh) (held_after held fresh)
tail_walk done lead held [] b h = subst (λ (l : List Heard). TailOf l lead held) (sym (append-nil done)) h
tail_walk done lead held (p ∷ fresh) b h =
    let m = marked p.says in
    subst (λ (l : List Heard). TailOf l (lead_after lead (p ∷ fresh)) (held_after held (p ∷ fresh))) (append_assoc done (p ∷ []) fresh)
    (tail_walk (done ++ (p ∷ [])) (cond m (p ∷ []) lead) (cond m [] (held ++ (p ∷ []))) fresh b.1 (tail-snoc done lead held p b.0 h m refl))

pub after-append : (lead held a b : List Heard) → (lead_after lead (a ++ b) ≡ lead_after (lead_after lead a) b) × (held_after held (a ++ b) ≡ held_after (held_after held a) b)
after-append lead held [] b = (refl, refl)
after-append lead held (p ∷ a) b = after-append (cond (marked p.says) (p ∷ []) lead) (cond (marked p.says) [] (held ++ (p ∷ []))) a b

-- ONE FRESH PACKET
abbrev pub handed_as : List Heard → Handed
handed_as ps = joined_of (time_of ps) (field_of ps) ps

handed-same : (t f : ℕ) (ps : List Heard) → OnlyLastMarked ps → Each (OfField t f) ps → joined_of t f ps ≡ handed_as ps
handed-same t f [] m o = absurd m
handed-same t f (p ∷ l) m o = ap₂ (λ (x y : ℕ). joined_of x y (p ∷ l)) (sym o.0.0) (sym o.0.1)

each_last : {A : Type 0} (P : A → Type 0) (l : List A) (x : A) → Each P (l ++ (x ∷ [])) → P x
each_last P [] x h = h.0
each_last P (y ∷ l) x h = each_last P l x h.1

module _ (source type : ℕ) (fresh : List Heard) (bits : Each Bit fresh) (all : Each (Accepted source type) fresh) (h : Heard) (a : Accepted source type h) where
  abbrev here : List (List Heard)
  here = whole_fields (lead_after [] fresh) (held_after [] fresh) (h ∷ [])

  abbrev One : (t f : ℕ) → List Heard → Type 0
  One t f ps = OneField source type (fresh ++ (h ∷ [])) t f ps

  -- a field's packets pass the tests
  from_field : (t f : ℕ) (ps : List Heard) → One t f ps → here ≡ ps ∷ []
  from_field t f [] o = absurd o.marks
  from_field t f (x ∷ l) o =
      let v = snoc-view x l in
      let front = v.0 in
      let s = snoc-inj fresh (o.before ++ (o.lead ∷ front)) h v.1 (o.ends ∙ ap (λ (y : List Heard). o.before ++ (o.lead ∷ y)) v.2 ∙ sym (append_assoc o.before (o.lead ∷ front) (v.1 ∷ []))) in
      let is : x ∷ l ≡ front ++ (h ∷ []) = v.2 ∙ ap (λ (y : Heard). front ++ (y ∷ [])) (sym s.1) in
      let w = subst (One t f) is o in
      let m = marks-front front h w.marks in
      let one = each_last (OfField t f) front h w.one in
      let tail = tail-is [] [] o.before o.lead front o.leads m.0 in
      let ps = front ++ (h ∷ []) in
      let same : Each (OfField h.says.timestamp h.says.f) ps =
      subst (λ (y : ℕ). Each (OfField y h.says.f) ps) (sym one.0) (subst (λ (y : ℕ). Each (OfField t y) ps) (sym one.1) w.one) in
      let test : in_sequence o.lead ps && (of_field h.says.timestamp h.says.f ps && within ps) ≡ true =
      and_both (sequence-test o.lead ps (subst (λ (y : List Heard). InSequence (o.lead ∷ y)) is o.sequence))
      (and_both (field-test h.says.timestamp h.says.f ps same)
      (and_both (le-leb (record_count (parts_of ps)) max_field_records w.few_records)
      (and_both (le-leb (length (joined_cells (parts_of ps))) max_field_cells w.few_cells) (le-leb (length ps) max_field_packets w.few_packets)))) in
      ap₂ (λ (lead held : List Heard). whole_fields lead held (h ∷ [])) (ap (lead_after []) s.0 ∙ tail.0) (ap (held_after []) s.0 ∙ tail.1)
      ∙ ap (λ (b : Bool). cond b (whole_of (o.lead ∷ []) front h ++ []) []) (eq-eqb h.says.marker 1 m.1)
      ∙ append-nil (whole_of (o.lead ∷ []) front h)
      ∙ ap (λ (b : Bool). cond b (ps ∷ []) []) test
      ∙ ap (λ (y : List Heard). y ∷ []) (sym is)

  -- and what passes them is a field's packets
  to-field : (q : Heard) (held : List Heard) → Tail fresh q held → marked h.says ≡ true
      → let ps = held ++ (h ∷ []) in
      in_sequence q ps && (of_field h.says.timestamp h.says.f ps && within ps) ≡ true → One h.says.timestamp h.says.f ps
  to-field q held v m e =
      let ps = held ++ (h ∷ []) in
      let x = and-true (in_sequence q ps) (of_field h.says.timestamp h.says.f ps && within ps) e in
      let y = and-true (of_field h.says.timestamp h.says.f ps) (within ps) x.1 in
      let z = and-true (leb (record_count (parts_of ps)) max_field_records) _ y.1 in
      let u = and-true (leb (length (joined_cells (parts_of ps))) max_field_cells) (leb (length ps) max_field_packets) z.1 in
      let taken = each-behind (Accepted source type) v.before (q ∷ held) (subst (Each (Accepted source type)) v.ends all) in
      record {
        before = v.before;
        lead = q;
        ends = ap (λ (l : List Heard). l ++ (h ∷ [])) v.ends ∙ append_assoc v.before (q ∷ held) (h ∷ []);
        accepts = (taken.0, each_snoc (Accepted source type) held h taken.1 a);
        sequence = sequence-is q ps x.0;
        leads = v.leads;
        marks = marks-snoc held h v.unmarked (mark-is h.says m);
        one = field_is h.says.timestamp h.says.f ps y.0;
        few_records = leb-true (record_count (parts_of ps)) max_field_records z.0;
        few_cells = leb-true (length (joined_cells (parts_of ps))) max_field_cells u.0;
        few_packets = leb-true (length ps) max_field_packets u.1;
      }
    where
      each-behind : {A : Type 0} (P : A → Type 0) (xs ys : List A) → Each P (xs ++ ys) → Each P ys
      each-behind P [] ys e = e
      each-behind P (x ∷ xs) ys e = each-behind P xs ys e.1

  none_here : ((t f : ℕ) (ps : List Heard) → One t f ps → ⊥) → here ≡ []
  none_here never = by-mark (marked h.says) refl (lead_after [] fresh) (held_after [] fresh) (tail_walk [] [] [] fresh bits tt)
    where
      by-test : (q : Heard) (held : List Heard) → Tail fresh q held → marked h.says ≡ true → (b : Bool)
          → in_sequence q (held ++ (h ∷ [])) && (of_field h.says.timestamp h.says.f (held ++ (h ∷ [])) && within (held ++ (h ∷ []))) ≡ b → cond b ((held ++ (h ∷ [])) ∷ []) [] ≡ []
      by-test q held v m true e = absurd (never h.says.timestamp h.says.f (held ++ (h ∷ [])) (to-field q held v m e))
      by-test q held v m false e = refl

      by-mark : (b : Bool) → marked h.says ≡ b → (lead held : List Heard) → TailOf fresh lead held → cond b (whole_of lead held h ++ []) [] ≡ []
      by-mark false m lead held v = refl
      by-mark true m [] held v = refl
      by-mark true m (q ∷ []) held v = append-nil (whole_of (q ∷ []) held h) ∙ by-test q held v m _ refl
      by-mark true m (q ∷ r ∷ l) held v = absurd v

  -- so what is handed out is what they tell
  pub packet-exact : (l : List Handed) → Each (Vouched source type (fresh ++ (h ∷ []))) l → ((t f : ℕ) (ps : List Heard) → One t f ps → l ≡ joined_of t f ps ∷ []) → l ≡ map handed_as here
  packet-exact [] v c = ap (map handed_as) (sym (none_here (λ t f ps o. nil≢cons (c t f ps o))))
  packet-exact (x ∷ l) v c =
      let t = v.0.0 in
      let f = v.0.1 in
      let ps = v.0.2 in
      let o = v.0.3 in
      c t f ps o ∙ ap (λ (y : Handed). y ∷ []) (handed-same t f ps o.marks o.one) ∙ ap (map handed_as) (sym (from_field t f ps o))
