-- The tests of a packet and the stores of a record as the code makes them.
-- By the words at the front, and by the law of one store after the other.
use mathlib.Core.Path.{◌≡◌, refl, ap, ap₂, sym, ◌∙◌}
use mathlib.Core.Bool.{Bool, true, false, not, ◌&&◌}
use mathlib.Core.List.{List, [], ◌∷◌, ◌++◌}
use Prim.Native.Nat.{ℕ, ◌+◌, ◌-◌, ◌*◌, ◌/◌, ◌%◌, ◌<◌, ◌≤◌}
use native.Mathlib.Nat.{mod-mod}
use native.Mathlib.Omega.{arith}
use borrow.Author.Tests.{not-true, not-false}
use lib.Dec.{eqb}
use lib.ListN.{length, take, drop, get_or, length-drop}
use lib.Seq.{take_at, length-take-le}
use Rattle.wire_spec.specs.Bits.{overwrite, splice}
use Rattle.wire_spec.specs.Words.{header_numbers, header_word, is_header_word, sum_low, checksum_word}
use Rattle.wire_spec.specs.Layout.{rfc8331}
use Rattle.wire_spec.specs.Anc.{Record, WellFormed, are_header_words, checksum}
use Rattle.wire_spec.specs.Cells.{head_cells, cell_count, cell_record, cells_of}
use Rattle.wire_spec.specs.declared.refusal.Refusal.{Refusal}
use Rattle.wire_spec.specs.Result.{Result, Err, Ok, Checks, judge}
use Rattle.wire_spec.proofs.ListLaws.{drop-run, splice-append}
use Rattle.sdi_spec.specs.declared.position.Position.{Position}
use Rattle.sdi_spec.specs.Packets.{packet_words, line_count, user_words, line_record, sum_ok}
use Rattle.sdi_spec.specs.Passes.{head_of, front_of, summed_at}

-- what a branch on a test says of what the test computes
pub passed : (t r : Bool) → r ≡ t → not r ≡ false → t ≡ true
passed t r e h = sym e ∙ not-false r h

pub failed : (t r : Bool) → r ≡ t → not r ≡ true → t ≡ false
failed t r e h = sym e ∙ not-true r h

-- DID, SDID and Data_Count, one after the other
pub headers-test : (t : List ℕ) → 3 ≤ length t
    → are_header_words (take 3 t) ≡ is_header_word (get_or t 0 0) && (is_header_word (get_or t 1 0) && (is_header_word (get_or t 2 0) && true))
headers-test t h = ap (λ (x : List ℕ). are_header_words (take 3 x)) (drop-run 2 0 0 t h)

-- the checksum word asks for the sum modulo 512
pub summed-word : (s x : ℕ) → s ≡ x % 512 → checksum_word s ≡ checksum_word x
unfolding checksum_word
summed-word s x e = ap (λ (low : ℕ). low + 512 * (1 - low / 256)) (ap (λ (y : ℕ). y % 512) e ∙ mod-mod x 512)

-- the checksum word stands behind the words that are summed
pub sum-test : (t : List ℕ) (n s w : ℕ) → n ≡ line_count t → s ≡ sum_low (take (3 + n - 0) (drop 0 t)) % 512 → w ≡ checksum_word s → eqb (get_or t (3 + n) 0) w ≡ sum_ok t
unfolding sum_ok
sum-test t n s w e hs hw =
    let k : 3 + n - 0 ≡ 3 + n = omega arith in
    ap (eqb (get_or t (3 + n) 0)) (hw ∙ summed-word s (sum_low (take (3 + n - 0) (drop 0 t))) hs ∙ ap (λ (m : ℕ). checksum_word (sum_low (take m t))) k)
    ∙ ap (λ (m : ℕ). eqb (get_or t (3 + m) 0) (checksum_word (sum_low (take (3 + m) t)))) e

-- the front of a list overwritten, and then the elements behind that
pub two-parts : (old head x y : List ℕ) (k n : ℕ) → length x ≡ k → length y ≡ n → head ≡ overwrite x old
    → take k head ++ (y ++ drop n (drop k head)) ≡ overwrite (x ++ y) old
two-parts old head x y k n l m h =
    let e : k ≡ 0 + length x = omega arith in
    (λ i. take k head ++ (y ++ drop (sym m i) (drop k head)))
    ∙ ap₂ (λ (a : List ℕ) (j : ℕ). splice a j y) h e ∙ splice-append old 0 x y (omega arith)

-- as many words are read as Data_Count says
pub length-user : (t : List ℕ) → 4 + line_count t ≤ length t → length (user_words t) ≡ line_count t
length-user t h = length-take-le (line_count t) (drop 3 t) (rw (length-drop 3 t) (omega arith))

-- the cells of a record that is read
pub head-cells : (P : Position) (t : List ℕ) → 4 + line_count t ≤ length t → head_of P t ++ user_words t ≡ cells_of (line_record P t)
unfolding line_record
head-cells P t h = rw (length-user t h)

-- the words of a packet that is written: front, user data words, checksum
pub packet-written : (r : Record) (old summed after : List ℕ) → summed ≡ overwrite (front_of r.did r.sdid (length r.words) ++ r.words) old
    → after ≡ summed_at (length r.words) summed → after ≡ overwrite (packet_words r) old
packet-written r old summed after hs ha =
    let f = front_of r.did r.sdid (length r.words) ++ r.words in
    let n = length r.words in
    let body = header_word r.did ∷ header_word r.sdid ∷ header_word n ∷ r.words in
    let l : 6 + n ≡ 0 + length f = omega arith in
    let t : take (3 + n) (drop 3 summed) ≡ body = ap (λ (x : List ℕ). take (3 + n) (drop 3 x)) hs ∙ take_at body _ (3 + n) (omega arith) in
    ha
    ∙ (λ i. splice (hs i) (6 + n) (checksum_word (sum_low (t i)) ∷ []))
    ∙ ap (λ (m : ℕ). splice (overwrite f old) m (checksum r ∷ [])) l
    ∙ splice-append old 0 f (checksum r ∷ []) (omega arith)

-- one packet's verdict: refused, so are the packets
pub verdict-refused : {A : Type 0} (i n : ℕ) (ts : Checks) (x : Refusal) (r : Result A) → judge i ts (Ok n) ≡ Err x → judge i ts r ≡ Err x
verdict-refused i n [] x r e = let z : ◌≡◌ {A = ℕ} 0 1 = cc in absurd (omega arith)
verdict-refused i n ((true, m) ∷ ts) x r e = verdict-refused i n ts x r e
verdict-refused i n ((false, m) ∷ ts) x r e = let q : record { number = m; index = i } ≡ x = cc in ap Err q

-- the numbers of a record's header words, as they stand in the cells
pub record Named (l : List ℕ) : Type 0 where
  pub did : get_or l 5 0 < header_numbers
  pub sdid : get_or l 6 0 < header_numbers
  pub count : cell_count l < header_numbers
  pub words : (cell_record l).words ≡ take (cell_count l) (drop head_cells l)
  pub long : length (cell_record l).words ≡ cell_count l
  pub front : front_of (get_or l 5 0) (get_or l 6 0) (cell_count l) ≡ front_of (cell_record l).did (cell_record l).sdid (length (cell_record l).words)

pub named : (l : List ℕ) → WellFormed rfc8331 (cell_record l) → head_cells + cell_count l ≤ length l → Named l
unfolding cell_record
named l f h =
    let e : length (take (cell_count l) (drop head_cells l)) ≡ cell_count l = length-take-le (cell_count l) (drop head_cells l) (rw (length-drop head_cells l) (omega arith)) in
    record { did = f.fits.did; sdid = f.fits.sdid; count = rw (← e) f.fits.count; words = refl; long = e; front = ap (front_of (get_or l 5 0) (get_or l 6 0)) (sym e) }
