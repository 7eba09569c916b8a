-- Octets that pass the checks of a packet are the octets of what is read from them.
-- They read as its fields, part by part; `packed` takes fields read to octets.
use mathlib.Core.Path.{◌≡◌, refl, ap, ap₂, sym, ◌∙◌}
use mathlib.Core.Bool.{true, not}
use mathlib.Core.Logic.{◌↔◌}
use mathlib.Core.List.{List, [], ◌∷◌, ◌++◌, append-nil}
use Prim.Native.Nat.{ℕ, zero, suc, ◌+◌, ◌-◌, ◌*◌, ◌<◌, ◌≤◌}
use native.Mathlib.Nat.{zero-mul}
use native.Mathlib.Omega.{arith}
use lib.Dec.{eqb, leb}
use lib.ListN.{length, take, drop, length-append, length-drop, take-append-drop}
use lib.Seq.{length-take-le, get_or-append-add, drop-drop}
use borrow.Author.Tests.{eqb-true, eqb-false, leb-true, not-true}
use Rattle.wire_spec.specs.declared.layout.Layout.TheVariants as layout
use Rattle.wire_spec.specs.Bits.{bits_at, width, pack, Below, row}
use Rattle.wire_spec.specs.Layout.{Layout, f_bits, reserved_bits, payload_header_size}
use Rattle.wire_spec.specs.Result.{Result, Ok, judge, ◌then◌}
use Rattle.wire_spec.specs.Anc.{Record, WellFormed, Each, run_octets, read_run}
use Rattle.wire_spec.specs.Packet.{max_packet, Packet, rtp_fields, extension_fields, payload_fields, packet_fields, packet_around, packet_octets, last_octet, WellFormedPacket, header_least, source_count, has_extension, extension_at, extension_words, header_size, padding_count, payload_size, length_field, anc_count, f_field, run_at, packet_read, header_checks, padding_checks, payload_checks, read_records, read_packet}
use Rattle.wire_spec.proofs.BitLaws.{Reads, packed, length-pack, width-append, reads-append, below-drop, below-take, width-row, length-row_at, reads-row_at}
use Rattle.wire_spec.proofs.ResultLaws.{Passed, accepted-inj, judge-accepts, judge-passes, then-accepts, and-true}
use Rattle.wire_spec.proofs.AncLaws.{run-iff}

-- a list without length is empty
pub no_length : {A : Type 0} (s : List A) → length s ≡ 0 → s ≡ []
no_length [] e = refl
no_length (x ∷ s) e = absurd (omega arith)

-- a test that fails tells two numbers apart
pub not_eqb : (a b : ℕ) → not (eqb a b) ≡ true → a ≡ b → ⊥
not_eqb a b e = eqb-false a b (not-true _ e)

-- octets of a packet's RTP header, and of all that stands before its ANC data packets
abbrev pub rtp_size : Packet → ℕ
rtp_size k = header_least + 4 * length k.sources + 4 * k.x + 4 * length k.extension

abbrev pub front_size : Layout → Packet → ℕ
front_size L k = rtp_size k + payload_header_size L

payload-width : (L : Layout) → 16 + (16 + (8 + (f_bits L + (reserved_bits L + 0)))) ≡ 8 * payload_header_size L
payload-width layout.Rfc8331 = refl
payload-width layout.Draft2015 = refl

-- the fields of a packet fill whole octets
pub width-packet : (L : Layout) (k : Packet) → width (packet_fields L k) ≡ 8 * front_size L k
width-packet L k =
    omega (
      arith,
      payload-width L,
      width-row 32 k.sources,
      width-row 32 k.extension,
      width-append (row 32 k.sources) (extension_fields k ++ (row 32 k.extension ++ payload_fields L k)),
      width-append (row 32 k.extension) (payload_fields L k),
    )

-- octets of a packet
pub length-packet : (L : Layout) (k : Packet) → length (packet_octets L k) ≡ front_size L k + (length (run_octets L k.records) + length k.padding)
unfolding packet_octets
length-packet L k =
    length-append (pack (packet_fields L k)) _
    ∙ ap₂ ◌+◌ (length-pack [] (packet_fields L k) (front_size L k) (width-packet L k)) (length-append (run_octets L k.records) k.padding)

-- the octets `s` read as the fields of `k`, part by part
pub record Parts (L : Layout) (k : Packet) (s : List ℕ) : Type 0 where
  pub rtp : Reads s 0 (rtp_fields k)
  pub sources : Reads s 96 (row 32 k.sources)
  pub extension : Reads s (96 + 32 * length k.sources) (extension_fields k)
  pub words : Reads s (96 + 32 * length k.sources + 16 * k.x + 16 * k.x) (row 32 k.extension)
  pub payload : Reads s (8 * rtp_size k) (payload_fields L k)

-- the fields are read exactly where each part is
pub parts-iff : (L : Layout) (k : Packet) (s : List ℕ) → Reads s 0 (packet_fields L k) ↔ Parts L k s
parts-iff L k s =
    let at = 96 + 32 * length k.sources in
    let words = at + 16 * k.x + 16 * k.x in
    let e1 : 96 + width (row 32 k.sources) ≡ at = rw (width-row 32 k.sources) in
    let e2 : at + width (extension_fields k) ≡ words = omega arith in
    let e3 : words + width (row 32 k.extension) ≡ 8 * rtp_size k = rw (width-row 32 k.extension) (omega arith) in
    let a = reads-append s 0 (rtp_fields k) (row 32 k.sources ++ (extension_fields k ++ (row 32 k.extension ++ payload_fields L k))) in
    let b = reads-append s 96 (row 32 k.sources) (extension_fields k ++ (row 32 k.extension ++ payload_fields L k)) in
    let c = reads-append s at (extension_fields k) (row 32 k.extension ++ payload_fields L k) in
    let d = reads-append s words (row 32 k.extension) (payload_fields L k) in (
      λ r.
          let ra = a.0 r in
          let rb = b.0 ra.1 in
          let rc = c.0 (rw e1 at rb.1) in
          let rd = d.0 (rw e2 at rc.1) in
          record { rtp = ra.0; sources = rb.0; extension = rc.0; words = rd.0; payload = rw e3 at rd.1 },
      λ r. a.1 (r.rtp, b.1 (r.sources, rw e1 (c.1 (r.extension, rw e2 (d.1 (r.words, rw e3 r.payload)))))),
    )

-- the last octet of what follows is the last of all
last-append : (a b : List ℕ) → 0 < length b → last_octet (a ++ b) ≡ last_octet b
last-append a b h =
    let e : length (a ++ b) - 1 ≡ length a + (length b - 1) = rw (length-append a b) (omega arith) in
    rw e (get_or-append-add a b (length b - 1) 0)

-- padding read counts itself
pad-read : (p n : ℕ) (s : List ℕ) → n ≡ p * last_octet s → p ≤ n → n ≤ length s → n ≡ p * last_octet (drop (length s - n) s)
pad-read zero n s e h l = e ∙ zero-mul (last_octet s) ∙ sym (zero-mul (last_octet (drop (length s - n) s)))
pad-read (suc p) n s e h l =
    let m = length s - n in
    let back : last_octet s ≡ last_octet (drop m s) = ap last_octet (sym (take-append-drop m s)) ∙ last-append (take m s) (drop m s) (rw (length-drop m s) (omega arith)) in
    e ∙ ap (λ (x : ℕ). suc p * x) back

-- padding written is counted
pub pad-written : (p : ℕ) (a b : List ℕ) → p ≤ length b → length b ≡ p * last_octet b → p * last_octet (a ++ b) ≡ length b
pad-written zero a b h e = zero-mul (last_octet (a ++ b)) ∙ sym (e ∙ zero-mul (last_octet b))
pad-written (suc p) a b h e = ap (λ (x : ℕ). suc p * x) (last-append a b (omega arith)) ∙ sym e

-- the numbers of octets that pass the checks of the header, ..
pub record HeaderSizes (s : List ℕ) : Type 0 where
  pub short : length s ≤ max_packet
  pub least : header_least ≤ length s
  pub version : bits_at s 0 2 ≡ 2
  pub header : header_size s ≤ length s

-- .. those of the padding, ..
pub record PaddingSizes (L : Layout) (s : List ℕ) : Type 0 where
  pub some : bits_at s 2 1 ≤ padding_count s
  pub payload : header_size s + payload_header_size L + padding_count s ≤ length s

-- .. and all
pub record Sizes (L : Layout) (s : List ℕ) : Type 0 where
  pub short : length s ≤ max_packet
  pub version : bits_at s 0 2 ≡ 2
  pub some : bits_at s 2 1 ≤ padding_count s
  pub f : f_field L s ≡ 1 → ⊥
  pub whole : header_size s + payload_header_size L + length_field s + padding_count s ≡ length s

-- what an answer says: every check passed, and what was read
pub record Answer (L : Layout) (s : List ℕ) (k : Packet) : Type 0 where
  pub header : Passed (header_checks s)
  pub padding : Passed (padding_checks L s)
  pub payload : Passed (payload_checks L s)
  pub records : read_records L s ≡ Ok k.records
  pub read : packet_read L k.records s ≡ k

-- octets that pass the header's checks hold the header
pub header-sizes : (s : List ℕ) → Passed (header_checks s) → HeaderSizes s
unfolding header_checks
header-sizes s h =
    record {
      short = leb-true (length s) max_packet search;
      least = leb-true header_least (length s) search;
      version = eqb-true (bits_at s 0 2) 2 search;
      header = leb-true (header_size s) (length s) search;
    }

module _ (L : Layout) (s : List ℕ) where
  -- octets that pass the padding's checks hold header, payload header and padding
  pub padding-sizes : Passed (header_checks s) → Passed (padding_checks L s) → PaddingSizes L s
  unfolding padding_checks
  padding-sizes h p =
      let g = header-sizes s h in
      let pad = and-true (leb (bits_at s 2 1) (padding_count s)) (leb (padding_count s) (length s - header_size s)) search in
      let b = leb-true (padding_count s) (length s - header_size s) pad.1 in
      let c = leb-true (payload_header_size L) (payload_size s) search in
      record {
        some = leb-true (bits_at s 2 1) (padding_count s) pad.0;
        payload = sum (header_size s) (padding_count s) (payload_header_size L) (length s) g.header b c;
      }
    where
      sum : (h k q n : ℕ) → h ≤ n → k ≤ n - h → q ≤ n - h - k → h + q + k ≤ n
      sum h k q n a b c = omega arith

  -- header, payload header, ANC data packets and padding fill octets that pass
  pub sizes : Passed (header_checks s) → Passed (padding_checks L s) → Passed (payload_checks L s) → Sizes L s
  unfolding payload_checks
  sizes h p q =
      let g = header-sizes s h in
      let d = padding-sizes h p in
      let e = eqb-true (length_field s) (payload_size s - payload_header_size L) search in
      record {
        short = g.short;
        version = g.version;
        some = d.some;
        f = not_eqb (f_field L s) 1 search;
        whole = sum (header_size s) (padding_count s) (payload_header_size L) (length_field s) (length s) d.payload e;
      }
    where
      sum : (h k q l n : ℕ) → h + q + k ≤ n → l ≡ n - h - k - q → h + q + l + k ≡ n
      sum h k q l n a b = omega arith

  -- the ANC data packets' octets
  abbrev region : List ℕ
  region = take (length_field s) (drop (run_at L s) s)

  -- the records are read exactly when their octets fill the region that Length says
  pub region-iff : Below 256 s → (rs : List Record)
      → (read_records L s ≡ Ok rs) ↔ ((length rs ≡ anc_count s) × Each (WellFormed L) rs × (take (length_field s) (drop (run_at L s) s) ≡ run_octets L rs))
  unfolding read_records
  region-iff b rs =
      let run = run-iff L 0 (anc_count s) region (below-take 256 (length_field s) (drop (run_at L s) s) (below-drop 256 (run_at L s) s b)) in (
        λ e.
            let a = then-accepts (read_run L 0 (anc_count s) region) _ rs e in
            let c = judge-accepts 0 ((eqb (length a.0.1) 0, 13) ∷ []) (Ok a.0.0) rs a.2 in
            let none = no_length a.0.1 (eqb-true _ _ c.0.0) in
            let r = (run rs []).0 (a.1 ∙ ap Ok (λ i. (accepted-inj c.1 i, none i))) in
            (r.0, r.1, r.2 ∙ append-nil (run_octets L rs)),
        λ p. rw ((run rs []).1 (p.0, p.1, p.2 ∙ sym (append-nil (run_octets L rs)))),
      )

  -- a packet is accepted exactly when every check passes, its records are read, and it is what stands at the places
  pub answer-iff : (k : Packet) → (read_packet L s ≡ Ok k) ↔ Answer L s k
  unfolding read_packet packet_read
  answer-iff k =
      let tail : Result Packet = read_records L s then λ rs. Ok (packet_read L rs s) in (
        λ e.
            let h = judge-accepts 0 (header_checks s) (judge 0 (padding_checks L s) (judge 0 (payload_checks L s) tail)) k e in
            let p = judge-accepts 0 (padding_checks L s) (judge 0 (payload_checks L s) tail) k h.1 in
            let q = judge-accepts 0 (payload_checks L s) tail k p.1 in
            let r = then-accepts (read_records L s) _ k q.1 in
            let same : packet_read L r.0 s ≡ k = accepted-inj r.2 in
            let rs : r.0 ≡ k.records = ap (λ (x : Packet). x.records) same in
            record { header = h.0; padding = p.0; payload = q.0; records = r.1 ∙ ap Ok rs; read = ap (λ (x : List Record). packet_read L x s) (sym rs) ∙ same },
        λ a.
            judge-passes 0 (header_checks s) _ a.header
            ∙ judge-passes 0 (padding_checks L s) _ a.padding
            ∙ judge-passes 0 (payload_checks L s) _ a.payload
            ∙ ap (λ x. x then λ rs. Ok (packet_read L rs s)) a.records
            ∙ ap Ok a.read,
      )

  -- octets that pass read as the fields of what is read from them
  read-parts : (rs : List Record) → bits_at s 0 2 ≡ 2 → length (run_octets L rs) ≡ length_field s → length rs ≡ anc_count s → Parts L (packet_read L rs s) s
  unfolding packet_read
  read-parts rs version run count =
      let at = extension_at s + 16 * has_extension s + 16 * has_extension s in
      let l1 = length-row_at 32 s 96 (source_count s) in
      let l2 = length-row_at 32 s at (extension_words s) in
      record {
        rtp = (version, (refl, (refl, (sym l1, (refl, (refl, (refl, (refl, (refl, tt)))))))));
        sources = reads-row_at 32 s 96 (source_count s);
        extension = rw l1 (refl, (sym l2, tt));
        words = rw l1 (reads-row_at 32 s at (extension_words s));
        payload = rw (l1, l2) (refl, (sym run, (sym count, (refl, (refl, tt)))));
      }

  -- a packet read has the front that its octets have
  pub front_read : (rs : List Record) → front_size L (packet_read L rs s) ≡ run_at L s
  unfolding packet_read
  front_read rs =
      rw (length-row_at 32 s 96 (source_count s), length-row_at 32 s (extension_at s + 16 * has_extension s + 16 * has_extension s) (extension_words s))

  -- what is read from octets that pass is well-formed, and they are its octets around those of its ANC data packets
  pub around-stands : Below 256 s → Passed (header_checks s) → Passed (padding_checks L s) → Passed (payload_checks L s)
      → (rs : List Record) (run : List ℕ) → length rs ≡ anc_count s → Each (WellFormed L) rs → length run ≡ length (run_octets L rs) → region ≡ run
      → WellFormedPacket L (packet_read L rs s) × (s ≡ packet_around L (packet_read L rs s) run)
  unfolding packet_read
  around-stands below h p q rs run count formed same stands =
      let n = run_at L s in
      let l = length_field s in
      let c = padding_count s in
      let g : Sizes L s = sizes h p q in
      let len : length (run_octets L rs) ≡ l = sym same ∙ ap length (sym stands) ∙ length-take-le l (drop n s) (rw (length-drop n s) (omega (arith, g.whole))) in
      let k = packet_read L rs s in
      let reads = (parts-iff L k s).1 (read-parts rs g.version len count) in
      let fr = front_read rs in
      let front = packed s (packet_fields L k) (front_size L k) (width-packet L k) below (rw fr (omega (arith, g.whole))) reads in
      let sum : n + l ≡ length s - c = omega (arith, g.whole) in
      let pad : drop l (drop n s) ≡ drop (length s - c) s = drop-drop l n s ∙ ap (λ (x : ℕ). drop x s) sum in
      let lp : length (drop (length s - c) s) ≡ c = rw (length-drop (length s - c) s) (omega (arith, g.whole)) in (
        record {
          fit = front.0;
          f = g.f;
          records = formed;
          some = rw lp g.some;
          count = lp ∙ pad-read (bits_at s 2 1) c s refl g.some (omega (arith, g.whole));
          short = rw (length-packet L k, fr, len, lp) (omega (arith, g.whole, g.short));
        },
        sym (take-append-drop n s)
            ∙ ap₂ ◌++◌ (ap (λ (x : ℕ). take x s) (sym fr) ∙ front.1) (sym (take-append-drop l (drop n s)) ∙ ap₂ ◌++◌ stands pad),
      )
