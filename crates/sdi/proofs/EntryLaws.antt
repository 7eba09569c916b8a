-- The answers of `write` and `read`, by the checks in their order.
-- Each law says what the definition gives where the code returns.
use mathlib.Core.Path.{◌≡◌, refl, ap, sym, ◌∙◌}
use mathlib.Core.Bool.{true, false}
use mathlib.Core.List.{List, [], ◌∷◌}
use Prim.Native.Nat.{ℕ, ◌+◌, ◌-◌, ◌*◌, ◌^◌, ◌<◌, ◌≤◌}
use native.Mathlib.Nat.{le_refl}
use native.Mathlib.Omega.{arith}
use lib.Dec.{leb}
use lib.ListN.{length, drop, length-append}
use borrow.Author.Tests.{le-leb, lt-leb}
use Rattle.wire_spec.specs.declared.refusal.Refusal.{Refusal}
use Rattle.wire_spec.specs.declared.count.OctetCount.{OctetCount}
use Rattle.wire_spec.specs.Layout.{rfc8331}
use Rattle.wire_spec.specs.Words.{word_bits}
use Rattle.wire_spec.specs.Result.{Result, Err, Ok, refuse, judge, ◌then◌}
use Rattle.wire_spec.specs.Anc.{Record}
use Rattle.wire_spec.specs.Cells.{list_of, all_below, read_list}
use Rattle.wire_spec.proofs.CellLaws.{list-iff, lists_length}
use Rattle.anc_writer.specs.Answers.{listed_of}
use Rattle.anc_writer.proofs.ListedLaws.{listed-refused, taken}
use Rattle.sdi_spec.specs.declared.position.Position.{Position}
use Rattle.sdi_spec.specs.declared.answer.Found.{Found}
use Rattle.sdi_spec.specs.declared.answer.ReadLine.{ReadLine}
use Rattle.sdi_spec.specs.Packets.{stretch, packets_in}
use Rattle.sdi_spec.specs.Line.{PositionFits, max_line, line_checks, line_after, write_line, position_ok, reading_checks, read_line, read_line_into}
use Rattle.sdi_spec.specs.Answers.{written_of, read_of, cells_after}
use Rattle.sdi_spec.specs.Passes.{found_of}
use Rattle.sdi_spec.proofs.WalkLaws.{length-cells, stretch-long}
use Rattle.sdi_spec.proofs.PacketIff.{packets-iff}

-- WRITING
module _ (line : List ℕ) (start : ℕ) (cells : List ℕ) where
  -- an answer is what the definition gives, and so is the line
  pub written_is : (x : Result (List ℕ)) → write_line line start cells ≡ x → (r : Result ℕ) (after : List ℕ) → r ≡ written_of start x → after ≡ line_after x line start
      → (r ≡ written_of start (write_line line start cells)) × (after ≡ line_after (write_line line start cells) line start)
  written_is x e r after hr ha = (hr ∙ ap (written_of start) (sym e), ha ∙ ap (λ (y : Result (List ℕ)). line_after y line start) (sym e))

  pub write-70 : max_line < length line → write_line line start cells ≡ refuse 70 0
  unfolding write_line line_checks
  write-70 h = rw (lt-leb _ _ h)

  module _ (long : length line ≤ max_line) where
    pub write-71 : length line < start → write_line line start cells ≡ refuse 71 0
    unfolding write_line line_checks
    write-71 h = rw (le-leb (length line) max_line long, lt-leb start (length line) h)

    module _ (inside : start ≤ length line) where
      listed-is : write_line line start cells
          ≡ (read_list cells then λ rs. judge 0 ((leb (start + length (stretch rs)) (length line), 72) ∷ []) (Ok (stretch rs)))
      unfolding write_line line_checks
      listed-is = rw (le-leb (length line) max_line long, le-leb start (length line) inside)

      -- 20 and 16
      pub write-list : (x : Refusal) → listed_of rfc8331 (read_list cells) ≡ Err x → write_line line start cells ≡ Err x
      write-list x e =
          listed-is ∙ ap (λ (y : Result (List Record)). y then λ rs. judge 0 ((leb (start + length (stretch rs)) (length line), 72) ∷ []) (Ok (stretch rs))) (listed-refused rfc8331 (read_list cells) x e)

      -- 72, and the stretch
      pub write-72 : (rs : List Record) → read_list cells ≡ Ok rs → length line - start < length (stretch rs) → write_line line start cells ≡ refuse 72 0
      write-72 rs e h = listed-is ∙ rw (e, lt-leb (start + length (stretch rs)) (length line) (omega arith))

      pub write-fits : (rs : List Record) → read_list cells ≡ Ok rs → length (stretch rs) ≤ length line - start → write_line line start cells ≡ Ok (stretch rs)
      write-fits rs e h = listed-is ∙ rw (e, le-leb (start + length (stretch rs)) (length line) (omega arith))

-- a list that was counted: its records, and the words that they take
pub record Counted (cells : List ℕ) (n : ℕ) : Type 0 where
  pub records : List Record
  pub listed : read_list cells ≡ Ok records
  pub words : length (stretch records) + 2 * n ≡ length cells

pub counted : (cells : List ℕ) (n : ℕ) (o : OctetCount) → listed_of rfc8331 (read_list cells) ≡ Ok (record { count = n; octets = o }) → Counted cells n
counted cells n o e =
    let t = taken rfc8331 (read_list cells) n o e in
    record { records = t.rs; listed = t.reads; words = omega (arith, t.count, length-cells t.rs, lists_length t.rs cells ((list-iff cells t.rs).0 t.reads).1) }

-- READING
module _ (line : List ℕ) (start : ℕ) (P : Position) (cells : List ℕ) where
  abbrev pub answer : Result (List Record)
  answer = read_line_into line start P (length cells)

  -- an answer is what the definition gives, and so are the cells
  pub read_is : (x : Result (List Record)) → answer ≡ x → (r : Result ReadLine) (after : List ℕ) → r ≡ read_of start x → after ≡ cells_after x cells
      → (r ≡ read_of start answer) × (after ≡ cells_after answer cells)
  read_is x e r after hr ha = (hr ∙ ap (read_of start) (sym e), ha ∙ ap (λ (y : Result (List Record)). cells_after y cells) (sym e))

  pub read-70 : max_line < length line → answer ≡ refuse 70 0
  unfolding read_line_into read_line line_checks
  read-70 h = rw (lt-leb _ _ h)

  module _ (long : length line ≤ max_line) where
    pub read-71 : length line < start → answer ≡ refuse 71 0
    unfolding read_line_into read_line line_checks
    read-71 h = rw (le-leb (length line) max_line long, lt-leb start (length line) h)

    module _ (inside : start ≤ length line) where
      pub read-20 : position_ok P ≡ false → answer ≡ refuse 20 0
      unfolding read_line_into read_line line_checks reading_checks
      read-20 h = rw (le-leb (length line) max_line long, le-leb start (length line) inside, h)

      module _ (fits : position_ok P ≡ true) where
        pub read-73 : all_below (2 ^ word_bits) line ≡ false → answer ≡ refuse 73 0
        unfolding read_line_into read_line line_checks reading_checks
        read-73 h = rw (le-leb (length line) max_line long, le-leb start (length line) inside, fits, h)

        module _ (words : all_below (2 ^ word_bits) line ≡ true) where
          packets-are : answer ≡ (packets_in P (drop start line) then λ rs. judge 0 ((leb (length (list_of rs)) (length cells), 14) ∷ []) (Ok rs))
          unfolding read_line_into read_line line_checks reading_checks
          packets-are = rw (le-leb (length line) max_line long, le-leb start (length line) inside, fits, words)

          pub read-packet-refused : (x : Refusal) → found_of (packets_in P (drop start line)) ≡ Err x → answer ≡ Err x
          read-packet-refused x e = packets-are ∙ go (packets_in P (drop start line)) e
            where
              go : (y : Result (List Record)) → found_of y ≡ Err x → (y then λ rs. judge 0 ((leb (length (list_of rs)) (length cells), 14) ∷ []) (Ok rs)) ≡ Err x
              go (Err y) e = let q : y ≡ x = cc in ap Err q
              go (Ok rs) e = let z : ◌≡◌ {A = ℕ} 0 1 = cc in absurd (omega arith)

          pub read-14 : (rs : List Record) → packets_in P (drop start line) ≡ Ok rs → length cells < length (list_of rs) → answer ≡ refuse 14 0
          read-14 rs e h = packets-are ∙ rw (e, lt-leb (length (list_of rs)) (length cells) h)

          pub read_fits : (rs : List Record) → packets_in P (drop start line) ≡ Ok rs → length (list_of rs) ≤ length cells → answer ≡ Ok rs
          read_fits rs e h = packets-are ∙ rw (e, le-leb (length (list_of rs)) (length cells) h)

-- packets that were found: their records, and the cells that they take
pub record FoundThere (P : Position) (s : List ℕ) (n used : ℕ) : Type 0 where
  pub records : List Record
  pub packets : packets_in P s ≡ Ok records
  pub count : length records ≡ n
  pub words : length (stretch records) ≡ used
  pub cells : length (list_of records) ≡ used + 2 * n
  pub few : 7 * n ≤ used
  pub inside : used ≤ length s

pub found-there : (P : Position) → PositionFits P → (s : List ℕ) (n used : ℕ) → found_of (packets_in P s) ≡ Ok (record { count = n; words = used }) → FoundThere P s n used
found-there P fits s n used e = go (packets_in P s) refl e
  where
    go : (y : Result (List Record)) → packets_in P s ≡ y → found_of y ≡ Ok (record { count = n; words = used }) → FoundThere P s n used
    go (Err y) q e = let z : ◌≡◌ {A = ℕ} 0 1 = cc in absurd (omega arith)
    go (Ok rs) q e =
        let u : ◌≡◌ {A = Found} (record { count = length rs; words = length (stretch rs) }) (record { count = n; words = used }) = cc in
        let k : length rs ≡ n = ap (λ (x : Found). x.count) u in
        let m : length (stretch rs) ≡ used = ap (λ (x : Found). x.words) u in
        let st = ((packets-iff (length s) P fits 0 s (le_refl (length s)) rs).0 q).2 in
        record {
          records = rs;
          packets = q;
          count = k;
          words = m;
          cells = omega (arith, length-cells rs);
          few = omega (arith, stretch-long rs);
          inside = omega (arith, ap length st.words, length-append (stretch rs) st.rest);
        }
