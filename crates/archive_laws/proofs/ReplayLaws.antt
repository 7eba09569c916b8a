-- A file comes back when its fields are sent as packets, recorded and filed.
-- They are a well-formed stream behind one empty field, recorded whole.
use mathlib.Core.Path.{◌≡◌, refl, ap, ap₂, sym, subst, ◌∙◌}
use mathlib.Core.Bool.{Bool, true, false, true≢false, cond, not, ◌&&◌}
use mathlib.Core.List.{List, [], ◌∷◌, ◌++◌, map}
use Prim.Native.Nat.{ℕ, zero, suc, ◌+◌, ◌^◌, ◌%◌, ◌≤◌, ◌<◌}
use native.Mathlib.Omega.{arith}
use native.Mathlib.Nat.{add-zero, zero-add}
use borrow.Author.Tests.{le-leb, ne_eqb}
use lib.Dec.{eqb, leb}
use lib.ListN.{length, get_or, length-append, length-map}
use Rattle.wire_spec.specs.Bits.{Below}
use Rattle.wire_spec.specs.Layout.{rfc8331}
use Rattle.wire_spec.specs.Result.{Result, Ok, ◌then◌}
use Rattle.wire_spec.specs.Anc.{Record, Each, WellFormed}
use Rattle.wire_spec.specs.Cells.{list_of, read_list}
use Rattle.wire_spec.specs.Packet.{Content, max_packet, read_content}
use Rattle.wire_spec.specs.Writing.{HeadFits, content_octets, head_checks, limit_checks, max_cells, max_type, packet_records, plain, with_records, write_content}
use Rattle.wire_spec.proofs.BitLaws.{below-append}
use Rattle.wire_spec.proofs.CellLaws.{list-iff, lists_length, lists-own}
use Rattle.wire_spec.proofs.Demand2.{below-packet, fits-packet, written_read}
use Rattle.wire_spec.proofs.ResultLaws.{and_both}
use Rattle.wire_spec.proofs.WritingLaws.{all_pass}
use Rattle.wire_spec.proofs.ListLaws.{each_append, each-split, map-append}
use Rattle.fieldfile_spec.specs.File.{FileRead, WellFormedField, file_f_ok, file_octets, written_version}
use Rattle.rtp_frames.specs.Frames.{Frames}
use Rattle.depacketizer_spec.specs.Stream.{Part, Field, parts, record_count, joined_cells, Sent, sent, sent_of, no_packet, Stream, content_at, nth, Within, WellFormedStream}
use Rattle.depacketizer_spec.specs.Delivery.{joined}
use Rattle.depacketizer_spec.proofs.DeliveryLaws.{cells-joined}
use Rattle.fieldsave_session.specs.Filing.{fields_in, filing}
use Rattle.fieldsave_laws.proofs.FiledLaws.{one_list, reads-back}
use Rattle.pcapframes_spec.specs.Frames.{framed}
use Rattle.pcapframes_spec.proofs.FrameLaws.{frames-back}
use Rattle.archive_laws.specs.Archive.{as_written}
use Rattle.archive_laws.specs.Replay.{Cut, CutFits, Few, FileComesBack, all_of, field_packets, file_packets, is_none, replayed, says_at, uncut}
use Rattle.archive_laws.proofs.WholeLaws.{whole-recording}

-- LISTS cut in parts
cells-split : (a b : List Record) → length (list_of (a ++ b)) ≡ length (list_of a) + length (list_of b)
cells-split [] b = sym (zero-add _)
cells-split (r ∷ a) b = omega (arith, length-append r.words (list_of (a ++ b)), length-append r.words (list_of a), cells-split a b)

-- WHAT THE WRITER WRITES of a packet within its limits reads as what it says
f-fits : (f : ℕ) → file_f_ok f ≡ true → leb f 3 && not (eqb f 1) ≡ true
f-fits zero h = refl
f-fits (suc zero) h = h
f-fits (suc (suc zero)) h = refl
f-fits (suc (suc (suc zero))) h = refl
f-fits (suc (suc (suc (suc f)))) h =
    let n = suc (suc (suc (suc f))) in
    let e : file_f_ok n ≡ false = rw (ne_eqb n 0 (λ q. omega arith), ne_eqb n 2 (λ q. omega arith), ne_eqb n 3 (λ q. omega arith)) in
    absurd (true≢false (sym h ∙ e))

reads-own : (k : Content) → HeadFits k → k.type ≤ 127 → file_f_ok k.f ≡ true → Each (WellFormed rfc8331) k.records → length k.records ≤ 255 → length (list_of k.records) ≤ max_cells
    → read_content rfc8331 (content_octets rfc8331 k) ≡ Ok k
unfolding write_content
reads-own k h t f w few short =
    let rs = k.records in
    let cells = list_of rs in
    let reads : read_list cells ≡ Ok rs = (list-iff cells rs).1 (w, lists-own rs) in
    let taken : packet_records rfc8331 k cells max_packet ≡ Ok rs =
    all_pass (head_checks k) (λ (qs : List Record). limit_checks rfc8331 (with_records k qs) (length cells) max_packet) cells (and_both (le-leb k.type max_type t) (f-fits k.f f), tt) rs reads
    (and_both (le-leb (length rs) 255 few) (le-leb (length cells) max_cells short), (refl, (le-leb _ max_packet (fits-packet rfc8331 k short), tt))) in
    let writes : write_content rfc8331 k cells max_packet ≡ Ok (content_octets rfc8331 k) = ap (λ (q : Result (List Record)). q then λ qs. Ok (content_octets rfc8331 (with_records k qs))) taken in
    let q = written_read rfc8331 k cells max_packet (content_octets rfc8331 k) h writes in
    q.5 ∙ ap (λ (qs : List Record). Ok (with_records k qs)) (one_list q.0 rs cells q.1 (lists-own rs))

-- THE STREAM: a field for each cut, behind the empty one
module _ (source type start : ℕ) (is-source : source < 2 ^ 32) (is-type : type ≤ 127) where
  abbrev part_at : (n t f : ℕ) (last : Bool) → List Record → Part
  part_at n t f last rs = record { octets = content_octets rfc8331 (says_at source type start n t f last rs); records = rs }

  abbrev parts_from : (n t f : ℕ) → List (List Record) → List Part
  parts_from n t f [] = []
  parts_from n t f (rs ∷ l) = part_at n t f (is_none source type start l) rs ∷ parts_from (suc n) t f l

  abbrev field_at : ℕ → Cut → Field
  field_at n c =
      record {
        timestamp = c.timestamp;
        f = c.f;
        first = part_at n c.timestamp c.f (is_none source type start c.rest) c.first;
        rest = parts_from (suc n) c.timestamp c.f c.rest;
      }

  abbrev fields_from : ℕ → List Cut → List Field
  fields_from n [] = []
  fields_from n (c ∷ cs) = field_at n c ∷ fields_from (n + suc (length c.rest)) cs

  abbrev empty : Cut
  empty = record { timestamp = 0; f = 0; first = []; rest = [] }

  abbrev stream_of : List Cut → Stream
  stream_of cs = record { layout = rfc8331; source = source; type = type; start = start; fields = field_at 0 empty ∷ fields_from 1 cs }

  -- what it sends
  octets-field : (x : Field) (before : List Part) (n t f : ℕ) (l : List (List Record))
      → map (λ (y : Sent). y.part.octets) (sent_of x before (parts_from n t f l)) ≡ map (content_octets rfc8331) (field_packets source type start n t f l)
  octets-field x before n t f [] = refl
  octets-field x before n t f (rs ∷ l) = ap (λ (m : List (List ℕ)). content_octets rfc8331 (says_at source type start n t f (is_none source type start l) rs) ∷ m) (octets-field x (before ++ (part_at n t f (is_none source type start l) rs ∷ [])) (suc n) t f l)

  octets-fields : (n : ℕ) (cs : List Cut) → map (λ (y : Sent). y.part.octets) (sent (fields_from n cs)) ≡ map (content_octets rfc8331) (file_packets source type start n cs)
  octets-fields n [] = refl
  octets-fields n (c ∷ cs) =
      map-append (λ (y : Sent). y.part.octets) (sent_of (field_at n c) [] (parts (field_at n c))) (sent (fields_from (n + suc (length c.rest)) cs))
      ∙ ap₂ ◌++◌ (octets-field (field_at n c) [] n c.timestamp c.f (c.first ∷ c.rest)) (octets-fields (n + suc (length c.rest)) cs)
      ∙ sym (map-append (content_octets rfc8331) (field_packets source type start n c.timestamp c.f (c.first ∷ c.rest)) (file_packets source type start (n + suc (length c.rest)) cs))

  -- what its fields say
  joined-are : (n t f : ℕ) (l : List (List Record)) → joined (parts_from n t f l) ≡ all_of l
  joined-are n t f [] = refl
  joined-are n t f (rs ∷ l) = ap (λ (m : List Record). rs ++ m) (joined-are (suc n) t f l)

  count-is : (n t f : ℕ) (l : List (List Record)) → record_count (parts_from n t f l) ≡ length (all_of l)
  count-is n t f [] = refl
  count-is n t f (rs ∷ l) = omega (arith, count-is (suc n) t f l, length-append rs (all_of l))

  parts_are : (n t f : ℕ) (l : List (List Record)) → length (parts_from n t f l) ≡ length l
  parts_are n t f [] = refl
  parts_are n t f (rs ∷ l) = ap suc (parts_are (suc n) t f l)

  written-are : (n : ℕ) (cs : List Cut) → map as_written (fields_from n cs) ≡ map uncut cs
  written-are n [] = refl
  written-are n (c ∷ cs) =
      let e = joined-are n c.timestamp c.f (c.first ∷ c.rest) in
      ap₂ ◌∷◌ (λ i. record { timestamp = c.timestamp; f = c.f; records = e i }) (written-are (n + suc (length c.rest)) cs)

  field-within : (n : ℕ) (c : Cut) → WellFormedField written_version (uncut c) → CutFits c → Within (field_at n c)
  field-within n c w h =
      let l = c.first ∷ c.rest in
      let ps = parts_from n c.timestamp c.f l in
      let p = parts_are n c.timestamp c.f l in
      let cells = lists_length (joined ps) (joined_cells ps) (cells-joined 0 ps (omega (arith, p, h.1))) ∙ ap (λ (rs : List Record). length (list_of rs)) (joined-are n c.timestamp c.f l) in
      (omega (arith, count-is n c.timestamp c.f l, w.few), omega (arith, cells, w.short), omega (arith, p, h.1))

  all-within : (n : ℕ) (cs : List Cut) → Each (WellFormedField written_version) (map uncut cs) → Each CutFits cs → Each Within (fields_from n cs)
  all-within n [] w h = tt
  all-within n (c ∷ cs) w h = (field-within n c w.0 h.0, all-within (n + suc (length c.rest)) cs w.1 h.1)

  -- EACH PACKET IS ACCEPTED
  abbrev Taken : Stream → ℕ → Sent → Type 0
  Taken s n y = read_content rfc8331 y.part.octets ≡ Ok (content_at s n y)

  abbrev EachFrom : (ℕ → Sent → Type 0) → ℕ → List Sent → Type 0
  EachFrom P n [] = Unit {0}
  EachFrom P n (y ∷ ys) = P n y × EachFrom P (suc n) ys

  at-index : (P : ℕ → Sent → Type 0) (n : ℕ) (ys : List Sent) → EachFrom P n ys → (i : ℕ) → i < length ys → P (n + i) (get_or ys i no_packet)
  at-index P n [] h i b = absurd (omega arith)
  at-index P n (y ∷ ys) h zero b = subst (λ (m : ℕ). P m y) (sym (add-zero n)) h.0
  at-index P n (y ∷ ys) h (suc i) b = subst (λ (m : ℕ). P m (get_or ys i no_packet)) (let e : suc n + i ≡ n + suc i = omega arith in e) (at-index P (suc n) ys h.1 i (omega arith))

  from-append : (P : ℕ → Sent → Type 0) (n : ℕ) (xs ys : List Sent) → EachFrom P n xs → EachFrom P (n + length xs) ys → EachFrom P n (xs ++ ys)
  from-append P n [] ys h k = subst (λ (m : ℕ). EachFrom P m ys) (add-zero n) k
  from-append P n (x ∷ xs) ys h k =
      (h.0, from-append P (suc n) xs ys h.1 (subst (λ (m : ℕ). EachFrom P m ys) (let e : n + suc (length xs) ≡ suc n + length xs = omega arith in e) k))

  takes : (n t f : ℕ) (last : Bool) (rs : List Record) → t < 2 ^ 32 → file_f_ok f ≡ true → Each (WellFormed rfc8331) rs → length rs ≤ 255 → length (list_of rs) ≤ max_cells
      → read_content rfc8331 (content_octets rfc8331 (says_at source type start n t f last rs)) ≡ Ok (says_at source type start n t f last rs)
  takes n t f last rs time is_f w few short =
      reads-own (says_at source type start n t f last rs) (record { marker = mark last; number = omega arith; timestamp = time; source = is-source }) is-type is_f w few short
    where
      mark : (b : Bool) → cond b 1 0 < 2
      mark true = omega arith
      mark false = omega arith

  module _ (s : Stream) (same : (s.source ≡ source) × (s.type ≡ type) × (s.start ≡ start)) where
    says_so : (n : ℕ) (x : Field) (before : List Part) (l : List (List Record)) (rs : List Record)
        → says_at source type start n x.timestamp x.f (is_none source type start l) rs
        ≡ content_at s n (record { field = x; before = before; part = part_at n x.timestamp x.f (is_none source type start l) rs; behind = parts_from (suc n) x.timestamp x.f l })
    says_so n x before [] rs =
        λ i. record { source = sym same.0 i; type = sym same.1 i; marker = 1; number = (sym same.2 i + n) % 2 ^ 32; timestamp = x.timestamp; f = x.f; records = rs }
    says_so n x before (q ∷ l) rs =
        λ i. record { source = sym same.0 i; type = sym same.1 i; marker = 0; number = (sym same.2 i + n) % 2 ^ 32; timestamp = x.timestamp; f = x.f; records = rs }

    field-taken : (x : Field) (before : List Part) (n : ℕ) (l : List (List Record)) → x.timestamp < 2 ^ 32 → file_f_ok x.f ≡ true → Each (WellFormed rfc8331) (all_of l) → Each Few l → length (list_of (all_of l)) ≤ max_cells
        → EachFrom (Taken s) n (sent_of x before (parts_from n x.timestamp x.f l))
    field-taken x before n [] time is_f w few short = tt
    field-taken x before n (rs ∷ l) time is_f w few short =
        let e = each-split (WellFormed rfc8331) rs (all_of l) w in
        let c = cells-split rs (all_of l) in (
          takes n x.timestamp x.f (is_none source type start l) rs time is_f e.0 few.0 (omega (arith, c, short)) ∙ ap Ok (says_so n x before l rs),
          field-taken x (before ++ (part_at n x.timestamp x.f (is_none source type start l) rs ∷ [])) (suc n) l time is_f e.1 few.1 (omega (arith, c, short)),
        )

    length-field : (x : Field) (before ps : List Part) → length (sent_of x before ps) ≡ length ps
    length-field x before [] = refl
    length-field x before (p ∷ ps) = ap suc (length-field x _ ps)

    fields-taken : (n : ℕ) (cs : List Cut) → Each (WellFormedField written_version) (map uncut cs) → Each CutFits cs → EachFrom (Taken s) n (sent (fields_from n cs))
    fields-taken n [] w h = tt
    fields-taken n (c ∷ cs) w h =
        let l = c.first ∷ c.rest in
        let x = field_at n c in
        let m : n + suc (length c.rest) ≡ n + length (sent_of x [] (parts x)) = omega (arith, length-field x [] (parts x), parts_are n c.timestamp c.f l) in
        from-append (Taken s) n (sent_of x [] (parts x)) (sent (fields_from (n + suc (length c.rest)) cs))
        (field-taken x [] n l w.0.timestamp w.0.f w.0.records h.0.0 w.0.short)
        (subst (λ (j : ℕ). EachFrom (Taken s) j (sent (fields_from (n + suc (length c.rest)) cs))) m (fields-taken (n + suc (length c.rest)) cs w.1 h.1))

  -- so it is well-formed
  formed : (cs : List Cut) → Each (WellFormedField written_version) (map uncut cs) → Each CutFits cs → length (sent (stream_of cs).fields) ≤ 2 ^ 31 → WellFormedStream (stream_of cs)
  formed cs w h few =
      let s = stream_of cs in
      let none-taken = field-taken s (refl, refl, refl) (field_at 0 empty) [] 0 ([] ∷ []) (omega arith) refl tt (omega arith, tt) (omega arith) in
      let all = from-append (Taken s) 0 (sent_of (field_at 0 empty) [] (parts (field_at 0 empty))) (sent (fields_from 1 cs)) none-taken (fields-taken s (refl, refl, refl) 1 cs w h) in
      record {
        few = few;
        within = ((omega arith, omega arith, omega arith), all-within 1 cs w h);
        accepts = λ i b. subst (λ (m : ℕ). Taken s m (nth s i)) (zero-add i) (at-index (Taken s) 0 (sent s.fields) all i b);
      }

-- THE FRAMES are octets
abbrev Short : Content → Type 0
Short k = length (list_of k.records) ≤ max_cells

below-framed : (ks : List Content) → Each Short ks → Below 256 (framed (map (content_octets rfc8331) ks))
below-framed [] h = tt
below-framed (k ∷ ks) h =
    let l : length (content_octets rfc8331 k) ≤ max_packet = fits-packet rfc8331 k h.0 in
    (omega (arith, l), (omega arith, below-append 256 (content_octets rfc8331 k) (framed (map (content_octets rfc8331) ks)) (below-packet rfc8331 (plain k) tt) (below-framed ks h.1)))

module _ (source type start : ℕ) where
  short-field : (n t f : ℕ) (l : List (List Record)) → length (list_of (all_of l)) ≤ max_cells → Each Short (field_packets source type start n t f l)
  short-field n t f [] h = tt
  short-field n t f (rs ∷ l) h =
      let c = cells-split rs (all_of l) in
      (omega (arith, c, h), short-field (suc n) t f l (omega (arith, c, h)))

  short-file : (n : ℕ) (cs : List Cut) → Each (WellFormedField written_version) (map uncut cs) → Each Short (file_packets source type start n cs)
  short-file n [] w = tt
  short-file n (c ∷ cs) w =
      each_append Short (field_packets source type start n c.timestamp c.f (c.first ∷ c.rest)) (file_packets source type start (n + suc (length c.rest)) cs)
      (short-field n c.timestamp c.f (c.first ∷ c.rest) w.0.short) (short-file (n + suc (length c.rest)) cs w.1)

-- THE FILE COMES BACK
pub file-comes-back : FileComesBack
unfolding filing
file-comes-back cs w h source type start a b few store room =
    let s = stream_of source type start a b cs in
    let packets = map (content_octets rfc8331) (replayed source type start cs) in
    let input = framed packets in
    let below = below-framed (replayed source type start cs) (omega arith, short-file source type start 1 cs w) in
    let octets = ap (λ (l : List (List ℕ)). content_octets rfc8331 (says_at source type start 0 0 0 true []) ∷ l) (octets-fields source type start a b 1 cs) in
    let all = ap length (sym octets) in
    let count : length (sent s.fields) ≤ 2 ^ 31 = omega (arith, few, length-map (sent s.fields) (λ (y : Sent). y.part.octets), length-map (replayed source type start cs) (content_octets rfc8331), all) in
    let back = whole-recording s (formed source type start a b cs w h count) (field_at source type start a b 0 (empty source type start a b)) (fields_from source type start a b 1 cs) refl input below (ap (λ (f : Frames). f.packets) (frames-back packets) ∙ sym octets) store room in
    let fields : fields_in rfc8331 store input ≡ map uncut cs =
    ap (λ (r : FileRead). r.fields) (sym (reads-back rfc8331 store input below) ∙ back) ∙ written-are source type start a b 1 cs in
    ap (file_octets written_version) fields
