-- Each sent packet carries a part of its field, and the packet sent after it goes on where it ends.
-- By recursion on the fields and their parts.
use mathlib.Core.Path.{◌≡◌, refl, ◌∙◌, sym, subst}
use mathlib.Core.Bool.{Bool, true, false, true≢false, cond}
use mathlib.Core.List.{List, [], ◌∷◌, ◌++◌, append_assoc}
use Prim.Native.Nat.{ℕ, zero, suc, ◌+◌, ◌<◌}
use native.Mathlib.Omega.{arith}
use native.Mathlib.Nat.{not-suc-le-zero, add-zero, zero-add}
use lib.ListN.{length, take}
use Rattle.wire_spec.specs.Anc.{Each}
use Rattle.wire_spec.specs.Cells.{list_in}
use Rattle.wire_spec.proofs.ListLaws.{each_append}
use Rattle.depacketizer_spec.specs.Step.{Gathered, lost, ready, filling}
use Rattle.depacketizer_spec.specs.Stream.{Part, Field, parts, record_count, cells_from, joined_cells, Sent, is_last, sent, sent_of, Fits}
use Rattle.depacketizer_spec.proofs.WalkLaws.{packet_at}

-- a field's parts up to a packet's, itself included
abbrev pub up_to : Sent → List Part
up_to x = x.before ++ (x.part ∷ [])

-- what is gathered where these parts of a field are
abbrev pub gathered_of : Field → List Part → Gathered
gathered_of x [] = ready
gathered_of x (p ∷ ps) = filling x.timestamp x.f (record_count (p ∷ ps)) (length (joined_cells (p ∷ ps))) (length (p ∷ ps))

-- what is gathered before a packet where nothing is missing
abbrev pub entering : Sent → Gathered
entering x = gathered_of x.field x.before

-- and after it
abbrev pub leaving : Sent → Gathered
leaving x = cond (is_last x) ready (gathered_of x.field (up_to x))

-- the store begins with the cells `c` of what is gathered, and the fields fit it
abbrev pub Holds : List Field → Gathered → (store c : List ℕ) → Type 0
Holds xs lost store c = Unit {0}
Holds xs ready store c = Unit {0}
Holds xs (filling t f r n m) store c = (take n store ≡ c) × Each (Fits store) xs

each_at : (P : Sent → Type 0) (ps : List Sent) (i : ℕ) → Each P ps → i < length ps → P (packet_at ps i)
each_at P [] i e h = absurd (not-suc-le-zero h)
each_at P (x ∷ xs) zero e h = e.0
each_at P (x ∷ xs) (suc i) e h = each_at P xs i e.1 (omega arith)

-- a packet's part stands between the parts before and behind it
abbrev pub PartOf : Sent → Type 0
PartOf x = x.before ++ (x.part ∷ x.behind) ≡ parts x.field

part-of-field : (x : Field) (b ps : List Part) → b ++ ps ≡ parts x → Each PartOf (sent_of x b ps)
part-of-field x b [] e = tt
part-of-field x b (p ∷ ps) e = (e, part-of-field x (b ++ (p ∷ [])) ps (append_assoc b (p ∷ []) ps ∙ e))

part-of-all : (xs : List Field) → Each PartOf (sent xs)
part-of-all [] = tt
part-of-all (x ∷ xs) =
    each_append PartOf (sent_of x [] (parts x)) (sent xs) (part-of-field x [] (parts x) refl) (part-of-all xs)

-- each sent packet carries a part of its field
pub part_at : (xs : List Field) (i : ℕ) → i < length (sent xs) → PartOf (packet_at (sent xs) i)
part_at xs i h = each_at PartOf (sent xs) i (part-of-all xs) h

field-every : (P : Field → Type 0) (x : Field) (b ps : List Part) → P x → Each (λ (y : Sent). P y.field) (sent_of x b ps)
field-every P x b [] h = tt
field-every P x b (p ∷ ps) h = (h, field-every P x (b ++ (p ∷ [])) ps h)

fields-every : (P : Field → Type 0) (xs : List Field) → Each P xs → Each (λ (y : Sent). P y.field) (sent xs)
fields-every P [] h = tt
fields-every P (x ∷ xs) h =
    each_append (λ (y : Sent). P y.field) (sent_of x [] (parts x)) (sent xs) (field-every P x [] (parts x) h.0)
    (fields-every P xs h.1)

-- what holds of each field holds of each sent packet's
pub field_at : (P : Field → Type 0) (xs : List Field) (i : ℕ) → Each P xs → i < length (sent xs) → P (packet_at (sent xs) i).field
field_at P xs i h b = each_at (λ (y : Sent). P y.field) (sent xs) i (fields-every P xs h) b

-- a packet and the one sent after it
abbrev pub Followed : Sent → Sent → Type 0
Followed x y = (leaving x ≡ entering y) × (is_last x ≡ false → up_to x ≡ y.before)

abbrev Linked : Sent → List Sent → Type 0
Linked x [] = Unit {0}
Linked x (y ∷ ys) = Followed x y × Linked y ys

linked-field : (x : Field) (b : List Part) (p : Part) (ps : List Part) (rest : List Sent)
    → ((y : Sent) → is_last y ≡ true → Linked y rest)
    → Linked (record { field = x; before = b; part = p; behind = ps }) (sent_of x (b ++ (p ∷ [])) ps ++ rest)
linked-field x b p [] rest h = h _ refl
linked-field x b p (q ∷ qs) rest h = ((refl, λ e. refl), linked-field x (b ++ (p ∷ [])) q qs rest h)

linked-fields : (xs : List Field) (y : Sent) → is_last y ≡ true → Linked y (sent xs)
linked-fields [] y e = tt
linked-fields (x ∷ xs) y e =
    ((rw e, λ n. absurd (true≢false (sym e ∙ n))), linked-field x [] x.first x.rest (sent xs) (linked-fields xs))

linked-at : (x : Sent) (xs : List Sent) (k : ℕ) → Linked x xs → k < length xs → Followed (packet_at (x ∷ xs) k) (packet_at xs k)
linked-at x [] k h b = absurd (not-suc-le-zero b)
linked-at x (y ∷ ys) zero h b = h.0
linked-at x (y ∷ ys) (suc k) h b = linked-at y ys k h.1 (omega arith)

-- what is gathered after a sent packet is what is gathered before the next
pub followed-at : (xs : List Field) (k : ℕ) → suc k < length (sent xs) → Followed (packet_at (sent xs) k) (packet_at (sent xs) (suc k))
followed-at [] k h = absurd (not-suc-le-zero h)
followed-at (x ∷ xs) k h =
    linked-at _ (sent_of x (x.first ∷ []) x.rest ++ sent xs) k
    (linked-field x [] x.first x.rest (sent xs) (linked-fields xs))
    (omega arith)

-- and so are its cells
pub followed-holds : (xs : List Field) (x y : Sent) (store : List ℕ) → Followed x y → Holds xs (leaving x) store (joined_cells (up_to x))
    → Holds xs (entering y) store (joined_cells y.before)
followed-holds xs x y store f h = go (is_last x) refl
  where
    go : (b : Bool) → is_last x ≡ b → Holds xs (entering y) store (joined_cells y.before)
    go true e =
        let p : ready ≡ entering y = rw e at f.0 in
        subst (λ (g : Gathered). Holds xs g store (joined_cells y.before)) p tt
    go false e =
        subst (λ (g : Gathered). Holds xs g store (joined_cells y.before)) f.0
        (subst (λ (b : List Part). Holds xs (leaving x) store (joined_cells b)) (f.1 e) h)

-- the records of joined parts
pub records-append : (a b : List Part) → record_count (a ++ b) ≡ record_count a + record_count b
records-append [] b = sym (zero-add _)
records-append (p ∷ a) b = rw (records-append a b) (omega arith)

-- the cells of joined parts, the first with index `k`
pub cells-append : (k : ℕ) (a b : List Part) → cells_from k (a ++ b) ≡ cells_from k a ++ cells_from (k + length a) b
cells-append k [] b = rw (add-zero k)
cells-append k (p ∷ a) b =
    let e : suc k + length a ≡ k + length (p ∷ a) = omega arith in
    rw (cells-append (suc k) a b, e) (sym (append_assoc (list_in k p.records) (cells_from (suc k) a) (cells_from (k + length (p ∷ a)) b)))

-- where a part is gathered, a field is filling
pub gathered_snoc : (x : Field) (b : List Part) (p : Part)
    → gathered_of x (b ++ (p ∷ [])) ≡ filling x.timestamp x.f (record_count (b ++ (p ∷ []))) (length (joined_cells (b ++ (p ∷ [])))) (length (b ++ (p ∷ [])))
gathered_snoc x [] p = refl
gathered_snoc x (q ∷ b) p = refl
