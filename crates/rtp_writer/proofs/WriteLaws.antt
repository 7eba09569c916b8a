-- A packet measured and written: what each of the writer's checks decides, and the octets of one that fits.
-- By the writer's checks in their order, and the size of a packet that has nothing but its content.
use mathlib.Core.Path.{◌≡◌, ap, ap₂, sym, ◌∙◌, subst}
use mathlib.Core.Bool.{true, false, not, ◌&&◌}
use mathlib.Core.List.{List, [], ◌∷◌, ◌++◌, append-nil}
use Prim.Native.Nat.{ℕ, ◌+◌, ◌-◌, ◌≤◌, zero-le}
use native.Mathlib.Omega.{arith}
use borrow.Author.Tests.{leb-true}
use lib.Dec.{eqb, leb}
use lib.ListN.{length, take, drop, get_or}
use Rattle.wire_spec.specs.declared.refusal.Refusal.{Refusal}
use Rattle.wire_spec.specs.declared.count.OctetCount.{OctetCount}
use Rattle.wire_spec.specs.Bits.{pack, overwrite, splice}
use Rattle.wire_spec.specs.Layout.{Layout}
use Rattle.wire_spec.specs.Result.{Result, Err, Ok, refuse, Checks, ◌then◌, IsAccepted}
use Rattle.wire_spec.specs.Anc.{Record, run_octets, run_size}
use Rattle.wire_spec.specs.Cells.{read_list}
use Rattle.wire_spec.specs.Packet.{max_packet, packet_octets}
use Rattle.wire_spec.specs.Writing.{max_records, max_cells, max_type, plain, content_octets, with_records, head_ok, head_checks, layout_ok, limit_checks, packet_records, write_content}
use Rattle.wire_spec.proofs.ListLaws.{splice-append, part-written}
use Rattle.wire_spec.proofs.ResultLaws.{Passed, and-true}
use Rattle.wire_spec.proofs.AncLaws.{length_run}
use Rattle.wire_spec.proofs.CellLaws.{list-iff, lists_length}
use Rattle.wire_spec.proofs.PacketLaws.{length-packet}
use Rattle.wire_spec.proofs.Demand2.{fits-packet}
use Rattle.wire_spec.proofs.WritingLaws.{head-fails, list-fails, limit-fails, all_pass, passes}
use Rattle.wire_spec.specs.Written.{octets_after, written_of}
use Rattle.anc_writer.specs.Answers.{listed_of, list_records, list_octets}
use Rattle.anc_writer.proofs.ListedLaws.{Taken, taken, listed-refused}
use Rattle.rtp_strict_reader.specs.declared.packet.Head.{Head}
use Rattle.rtp_writer.specs.Answers.{content_of}
use Rattle.rtp_writer.specs.Front.{front_size, front_fields}
use Rattle.rtp_writer.proofs.FrontLaws.{front_length, headers-are}

module _ (L : Layout) where
  -- the octets of a packet with these records
  abbrev pub whole : Head → List Record → List ℕ
  whole h rs = content_octets L (with_records (content_of h) rs)

  pub length_whole : (h : Head) (rs : List Record) → length (whole h rs) ≡ front_size L + run_size L rs
  length_whole h rs = length-packet L (plain (with_records (content_of h) rs)) ∙ omega (arith, length_run L rs)

  -- the headers, and then the run
  pub whole_is : (h : Head) (rs : List Record) → whole h rs ≡ pack (front_fields L h (length rs) (run_size L rs)) ++ run_octets L rs
  unfolding packet_octets
  whole_is h rs =
      ap₂ ◌++◌ (headers-are L h rs ∙ ap (λ (n : ℕ). pack (front_fields L h (length rs) n)) (length_run L rs)) (append-nil (run_octets L rs))

  module _ (h : Head) (cells : List ℕ) (room : ℕ) where
    -- what is measured of a list with these six values, for so much room
    abbrev measured : Result (List Record)
    measured = packet_records L (content_of h) cells room

    -- the limits of a list with these records
    abbrev limits : List Record → Checks
    limits rs = limit_checks L (with_records (content_of h) rs) (length cells) room

    -- 21, 25 and 23 as the code tests them: by the number of records, and by the octets of their ANC data packets
    abbrev pub tests : (count octets : ℕ) → Checks
    tests count octets =
        (leb count max_records && leb (length cells) max_cells, 21)
        ∷ (layout_ok L h.f (list_records (read_list cells)), 25)
        ∷ (leb (front_size L + octets) room, 23)
        ∷ []

    pub refused-head : head_ok h.payload_type h.f ≡ false → measured ≡ refuse 24 0
    refused-head e = head-fails (head_checks (content_of h)) limits cells 0 tt e

    module _ (ok : head_ok h.payload_type h.f ≡ true) where
      pub refused-list : (x : Refusal) → listed_of L (read_list cells) ≡ Err x → measured ≡ Err x
      refused-list x e = list-fails (head_checks (content_of h)) limits cells (ok, tt) x (listed-refused L (read_list cells) x e)

      module _ (n : ℕ) (o : OctetCount) (e : listed_of L (read_list cells) ≡ Ok (record { count = n; octets = o })) where
        abbrev list : Taken L (read_list cells) n o
        list = taken L (read_list cells) n o e

        tests-are : limits list.rs ≡ tests n o.0
        tests-are =
            let size : length (whole h list.rs) ≡ front_size L + o.0 = length_whole h list.rs ∙ ap (λ (x : ℕ). front_size L + x) list.size in
            λ i.
            (leb (list.count i) max_records && leb (length cells) max_cells, 21)
            ∷ (layout_ok L h.f (list_records (sym list.reads i)), 25)
            ∷ (leb (size i) room, 23)
            ∷ []

        pub accepts : IsAccepted (read_list cells)
        accepts = subst IsAccepted (sym list.reads) tt

        -- `ts` are the tests with their outcomes
        module _ (ts : Checks) (same : ts ≡ tests n o.0) where
          pub limit : (k : ℕ) → Passed (take k ts) → (get_or ts k (true, 0)).0 ≡ false → measured ≡ refuse (get_or ts k (true, 0)).1 0
          limit k =
              subst (λ (cs : Checks). Passed (take k cs) → (get_or cs k (true, 0)).0 ≡ false → measured ≡ refuse (get_or cs k (true, 0)).1 0) (tests-are ∙ sym same)
              (limit-fails (head_checks (content_of h)) limits cells (ok, tt) list.rs list.reads k)

          pub all_fit : Passed ts → listed_of L measured ≡ Ok (record { count = n; octets = o })
          all_fit p =
              ap (listed_of L) (all_pass (head_checks (content_of h)) limits cells (ok, tt) list.rs list.reads (subst Passed (same ∙ sym tests-are) p))
              ∙ λ i. Ok (record { count = list.count i; octets = record { 0 = list.size i } })

    -- a packet that was measured and refused
    pub refused-write : (x : Refusal) → listed_of L measured ≡ Err x → write_content L (content_of h) cells room ≡ Err x
    unfolding write_content
    refused-write x e = rw (listed-refused L measured x e)

    -- a packet that was measured and fits
    module _ (n : ℕ) (l : OctetCount) (e : listed_of L measured ≡ Ok (record { count = n; octets = l })) where
      pub record Fitting : Type 0 where
        pub rs : List Record
        pub reads : read_list cells ≡ Ok rs
        pub writes : write_content L (content_of h) cells room ≡ Ok (whole h rs)
        pub count : length rs ≡ n
        pub size : run_size L rs ≡ l.0
        pub type : h.payload_type ≤ max_type
        pub f : h.f ≤ 3
        pub few : n ≤ max_records
        pub enough : front_size L + l.0 ≤ room
        pub short : front_size L + l.0 ≤ max_packet

      pub fitting : Fitting
      unfolding write_content
      fitting =
          let t = taken L measured n l e in
          let rs = t.rs in
          let p = passes (head_checks (content_of h)) limits cells rs t.reads in
          let a = and-true (leb h.payload_type max_type) (leb h.f 3 && not (eqb h.f 1)) p.head_passed.0 in
          let b = and-true (leb h.f 3) (not (eqb h.f 1)) a.1 in
          let c = p.limits-passed in
          let z = length_whole h rs in
          let few = leb-true (length rs) max_records (and-true _ _ c.0).0 in
          let cells-few = leb-true (length cells) max_cells (and-true (leb (length rs) max_records) (leb (length cells) max_cells) c.0).1 in
          let list = lists_length rs cells ((list-iff cells rs).0 p.reads).1 in
          record {
            rs = rs;
            reads = p.reads;
            writes = ap (λ r. r then λ rs. Ok (whole h rs)) t.reads;
            count = t.count;
            size = t.size;
            type = leb-true h.payload_type max_type a.0;
            f = leb-true h.f 3 b.0;
            few = omega (arith, t.count);
            enough = omega (arith, t.size, leb-true (length (whole h rs)) room c.1.1.0);
            short = omega (arith, t.size, fits-packet L (with_records (content_of h) rs) (omega (arith, list, cells-few)));
          }

      -- its headers written, and its run behind them from octet `at` on, it is written whole
      module _ (at : ℕ) (here : at ≡ front_size L) where
        pub written-whole : (out front part : List ℕ) → front ≡ overwrite (pack (front_fields L h n l.0)) out
            → part ≡ overwrite (list_octets L (read_list cells)) (take (length front - at) (drop at front))
            → take at front ++ (part ++ drop (length front - at) (drop at front)) ≡ octets_after (write_content L (content_of h) cells room) out
        written-whole out front part p q =
            let t : Fitting = fitting in
            let k = pack (front_fields L h n l.0) in
            let run = run_octets L t.rs in
            let i : list_octets L (read_list cells) ≡ run = ap (list_octets L) t.reads in
            let len : at ≡ 0 + length k = omega (arith, front_length L h n l.0) in
            let w : whole h t.rs ≡ k ++ run = whole_is h t.rs ∙ ap₂ (λ (x y : ℕ). pack (front_fields L h x y) ++ run) t.count t.size in
            part-written at front run part (q ∙ ap (λ (x : List ℕ). overwrite x (take (length front - at) (drop at front))) i)
            ∙ (λ j. splice (p j) (len j) run)
            ∙ splice-append out 0 k run zero-le
            ∙ ap (λ (x : List ℕ). overwrite x out) (sym w)
            ∙ ap (λ r. octets_after r out) (sym t.writes)

        pub written-length : Ok (record { 0 = at + l.0 }) ≡ written_of (write_content L (content_of h) cells room)
        written-length =
            let t : Fitting = fitting in
            let e : at + l.0 ≡ length (whole h t.rs) = (λ i. here i + sym t.size i) ∙ sym (length_whole h t.rs) in
            ap (λ (x : ℕ). Ok (record { 0 = x })) e ∙ ap written_of (sym t.writes)
