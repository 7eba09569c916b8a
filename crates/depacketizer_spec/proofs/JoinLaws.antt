-- What a packet of a field within the limits does where nothing is missing before it: it joins, and the last hands the field out.
-- What is gathered are the parts before the packet, and the store begins with their cells.
use mathlib.Core.Path.{◌≡◌, refl, ◌∙◌, ap, ap₂, sym}
use mathlib.Core.Bool.{Bool, true, false, true≢false, cond}
use mathlib.Core.List.{List, [], ◌∷◌, ◌++◌, append-nil}
use Prim.Native.Nat.{ℕ, suc, ◌+◌, ◌≤◌}
use native.Mathlib.Nat.{zero-add}
use native.Mathlib.Omega.{arith}
use lib.Dec.{eqb}
use lib.ListN.{length, take, length-append}
use borrow.Author.Tests.{le-leb, eq-eqb}
use Rattle.wire_spec.specs.Anc.{Each}
use Rattle.wire_spec.specs.Bits.{splice}
use Rattle.wire_spec.specs.Cells.{list_in, list_of}
use Rattle.wire_spec.proofs.CellLaws.{length-in}
use Rattle.wire_spec.proofs.ResultLaws.{and_both}
use Rattle.wire_spec.proofs.ListLaws.{length-splice, take-splice}
use Rattle.depacketizer_spec.specs.Step.{ready, filling, gathered_cells, gathered_packets, Carried, marked, carried, Gather, whole_if_marked, taken, fits, join_fits, join, follow, appended}
use Rattle.depacketizer_spec.specs.Stream.{Part, Field, parts, record_count, cells_from, joined_cells, Sent, is_last, Stream, content_at, Within, Fits, handed_by, only_if}
use Rattle.depacketizer_spec.proofs.FitLaws.{gathered_fits, taken-fits}
use Rattle.depacketizer_spec.proofs.PlaceLaws.{up_to, gathered_of, entering, leaving, Holds, PartOf, records-append, cells-append, gathered_snoc}

-- a packet is marked where it is its field's last
pub marked-last : (s : Stream) (i : ℕ) (x : Sent) → marked (content_at s i x) ≡ is_last x
marked-last s i x = go (is_last x)
  where
    go : (b : Bool) → eqb (cond b 1 0) 1 ≡ b
    go true = refl
    go false = refl

-- what a packet leaves where nothing is missing before it: what is gathered, its cells in the store, and what is handed out
pub record Joined (xs : List Field) (x : Sent) (z : Gather) (store : List ℕ) : Type 0 where
  pub gathered : z.gathered ≡ leaving x
  pub holds : Holds xs z.gathered store (joined_cells (up_to x))
  pub handed : handed_by z.answer store ≡ only_if (is_last x) x.field

fits-cast : (store new : List ℕ) → length new ≡ length store → (xs : List Field) → Each (Fits store) xs → Each (Fits new) xs
fits-cast store new e [] h = tt
fits-cast store new e (x ∷ xs) h = (rw e h.0, fits-cast store new e xs h.1)

holds-take : (xs : List Field) (x : Field) (store : List ℕ) (b : List Part) → Holds xs (gathered_of x b) store (joined_cells b)
    → take (length (joined_cells b)) store ≡ joined_cells b
holds-take xs x store [] h = refl
holds-take xs x store (q ∷ b) h = h.0

nil-of-last : (x : Sent) → is_last x ≡ true → x.behind ≡ []
nil-of-last x e = go x.behind e
  where
    go : (b : List Part) → is_last (record { field = x.field; before = x.before; part = x.part; behind = b }) ≡ true → b ≡ []
    go [] h = refl
    go (q ∷ b) h = absurd (true≢false (sym h))

-- a packet with the field'p timestamp and F joins what is gathered of it
follow-joins : (x : Field) (b : List Part) (p : Carried) (room : ℕ) → x.timestamp ≡ p.timestamp → x.f ≡ p.f
    → follow (gathered_of x b) p room ≡ join (record_count b) (length (joined_cells b)) (length b) p room
follow-joins x [] p room t f = refl
follow-joins x (q ∷ b) p room t f = rw (eq-eqb x.timestamp p.timestamp t, eq-eqb x.f p.f f)

gathered-cells : (x : Field) (b : List Part) → gathered_cells (gathered_of x b) ≡ length (joined_cells b)
gathered-cells x [] = refl
gathered-cells x (q ∷ b) = refl

gathered-packets : (x : Field) (b : List Part) → gathered_packets (gathered_of x b) ≡ length b
gathered-packets x [] = refl
gathered-packets x (q ∷ b) = refl

module _ (x : Sent) (store : List ℕ) (of : PartOf x) (within : Within x.field) (room : Fits store x.field) where
  abbrev cells_before : ℕ
  cells_before = length (joined_cells x.before)

  abbrev cells_here : List ℕ
  cells_here = list_in (length x.before) x.part.records

  records-up : record_count x.before + length x.part.records ≡ record_count (up_to x)
  records-up = rw (records-append x.before (x.part ∷ [])) (omega arith)

  cells_up : joined_cells (up_to x) ≡ joined_cells x.before ++ cells_here
  cells_up =
      cells-append 0 x.before (x.part ∷ [])
      ∙ ap (λ (n : ℕ). joined_cells x.before ++ cells_from n (x.part ∷ [])) (zero-add (length x.before))
      ∙ ap (λ (l : List ℕ). joined_cells x.before ++ l) (append-nil cells_here)

  length_up : cells_before + length cells_here ≡ length (joined_cells (up_to x))
  length_up = rw (cells_up, length-append (joined_cells x.before) cells_here)

  -- as the packet counts its cells
  length-said : cells_before + length (list_of x.part.records) ≡ length (joined_cells (up_to x))
  length-said = omega (arith, length_up, length-in (length x.before) x.part.records)

  packets-up : length x.before + 1 ≡ length (up_to x)
  packets-up = omega (arith, length-append x.before (x.part ∷ []))

  packets-fit : length (up_to x) ≤ length (parts x.field)
  packets-fit = omega (arith, packets-up, ap length of, length-append x.before (x.part ∷ x.behind))

  records-fit : record_count (up_to x) ≤ record_count (parts x.field)
  records-fit = omega (arith, records-up, sym (records-append x.before (x.part ∷ x.behind)) ∙ ap record_count of)

  cells_fit : length (joined_cells (up_to x)) ≤ length (joined_cells (parts x.field))
  cells_fit =
      let k = 0 + length x.before in
      let e : length (joined_cells (x.before ++ (x.part ∷ x.behind))) ≡ length (joined_cells (parts x.field)) =
      ap (λ (l : List Part). length (joined_cells l)) of in
      let d = ap length (cells-append 0 x.before (x.part ∷ x.behind)) ∙ length-append (joined_cells x.before) (cells_from k (x.part ∷ x.behind)) in
      let h = length-append (list_in k x.part.records) (cells_from (suc k) x.behind) in
      omega (arith, e, d, h, length-said, length-in k x.part.records)

  fits-up : (r : ℕ) → r ≤ record_count (up_to x) → fits r (length (joined_cells (up_to x))) (length (up_to x)) (length store) ≡ true
  fits-up r h =
      and_both (le-leb r _ (omega (arith, records-fit)))
      (and_both (le-leb (length (joined_cells (up_to x))) _ (omega (arith, cells_fit)))
      (and_both (le-leb (length (joined_cells (up_to x))) (length store) (omega (arith, cells_fit))) (le-leb (length (up_to x)) _ (omega (arith, packets-fit)))))

  -- what is gathered after the packet is within the limits and the store
  pub leaving-fits : gathered_fits (leaving x) (length store) ≡ true
  leaving-fits =
      rw (gathered_snoc x.field x.before x.part)
      (taken-fits (is_last x) x.field.timestamp x.field.f (record_count (up_to x)) (length (joined_cells (up_to x))) (length (up_to x)) (length store)
      (omega (arith, packets-up)) (fits-up (record_count (up_to x)) (omega arith)))

  -- the store that it leaves
  abbrev written : List ℕ
  written = splice store cells_before cells_here

  -- it is appended with the index of the packet
  appended-is : (s : Stream) (i : ℕ) → appended true (entering x) (content_at s i x) store ≡ written
  appended-is s i =
      ap₂ (λ (c n : ℕ). splice store c (list_in n x.part.records)) (gathered-cells x.field x.before) (gathered-packets x.field x.before)

  cells-room : cells_before + length cells_here ≤ length store
  cells-room = omega (arith, length_up, cells_fit)

  written-begins : take cells_before store ≡ joined_cells x.before → take (length (joined_cells (up_to x))) written ≡ joined_cells (up_to x)
  written-begins e =
      ap (λ (n : ℕ). take n written) (sym length_up)
      ∙ take-splice store cells_before cells_here (omega (arith, cells-room))
      ∙ ap (λ (l : List ℕ). l ++ cells_here) e
      ∙ sym cells_up

  holds-up : (xs : List Field) → Each (Fits store) xs → take cells_before store ≡ joined_cells x.before → (b : Bool)
      → Holds xs (cond b ready (filling x.field.timestamp x.field.f (record_count (up_to x)) (length (joined_cells (up_to x))) (length (up_to x)))) written (joined_cells (up_to x))
  holds-up xs each e true = tt
  holds-up xs each e false =
      (written-begins e, fits-cast store written (length-splice store cells_before cells_here cells-room) xs each)

  hands-up : take cells_before store ≡ joined_cells x.before → (b : Bool) → is_last x ≡ b
      → handed_by
      (whole_if_marked b
      (record {
        timestamp = record { 0 = x.field.timestamp };
        f = x.field.f;
        records = record_count (up_to x);
        cells = length (joined_cells (up_to x));
        packets = length (up_to x);
      }))
      written
      ≡ only_if b x.field
  hands-up e true l =
      let p : up_to x ≡ parts x.field = (rw (nil-of-last x l) at of) in
      let r : record_count (up_to x) ≡ record_count (parts x.field) = ap record_count p in
      let c : joined_cells (up_to x) ≡ joined_cells (parts x.field) = ap joined_cells p in
      let n : length (up_to x) ≡ length (parts x.field) = ap length p in
      rw (written-begins e) (rw (r, c, n))
  hands-up e false l = refl

  joins-up : (s : Stream) (i : ℕ) → join_fits (record_count x.before) cells_before (length x.before) (carried (content_at s i x)) (length store) ≡ true
  joins-up s i = rw (length-said, packets-up) (fits-up (record_count x.before + length x.part.records) (omega (arith, records-up)))

  follow-taken : (s : Stream) (i : ℕ)
      → follow (entering x) (carried (content_at s i x)) (length store)
      ≡ taken (carried (content_at s i x)) (record_count (up_to x)) (length (joined_cells (up_to x))) (length (up_to x))
  follow-taken s i = follow-joins x.field x.before (carried (content_at s i x)) (length store) refl refl ∙ rw (joins-up s i, records-up, length-said, packets-up)

  -- a packet with nothing missing before it joins its field
  pub part-joins : (s : Stream) (i : ℕ) (xs : List Field) → Each (Fits store) xs → Holds xs (entering x) store (joined_cells x.before)
      → let z : Gather = follow (entering x) (carried (content_at s i x)) (length store) in
      Joined xs x z (appended z.append (entering x) (content_at s i x) store)
  part-joins s i xs each h =
      let e = holds-take xs x.field store x.before h in
      rw (follow-taken s i, marked-last s i x, appended-is s i)
      (record {
        gathered = rw (gathered_snoc x.field x.before x.part);
        holds = holds-up xs each e (is_last x);
        handed = hands-up e (is_last x) refl;
      })
