-- Turns over the octets at hand give what the definition gives over all the octets, whatever was at hand at each turn.
-- Each turn is one step of the definition, and needs no more octets than the largest ANC data packet has.
use mathlib.Core.Path.{◌≡◌, refl, ap, ap₂, sym, ◌∙◌, subst}
use mathlib.Core.Bool.{Bool, true, false, true≢false, cond, not, ◌&&◌}
use mathlib.Core.Logic.{◌⊎◌, inl, inr, ⊎_elim}
use mathlib.Core.List.{List, [], ◌∷◌, ◌++◌, append_assoc, append-nil, nil≢cons}
use Prim.Native.Nat.{ℕ, zero, suc, ◌+◌, ◌-◌, ◌*◌, ◌<◌, ◌≤◌}
use native.Mathlib.Omega.{arith}
use lib.Dec.{eqb, leb}
use lib.ListN.{length, drop, length-append, length-drop}
use lib.Seq.{drop-drop, append_snoc}
use borrow.Author.Tests.{le-leb, leb-true, eq-eqb, ne_eqb}
use Rattle.wire_spec.specs.declared.refusal.Refusal.{Refusal}
use Rattle.wire_spec.specs.Layout.{rfc8331}
use Rattle.wire_spec.specs.Result.{Result, Err, Ok, refuse, Checks, judge, ◌then◌}
use Rattle.wire_spec.specs.Anc.{Record, anc_size, data_count, anc_record, anc_checks, read_anc, behind, read_run, run_size}
use Rattle.wire_spec.specs.Cells.{cells_of, list_of}
use Rattle.wire_spec.specs.Writing.{max_field_records, max_field_cells}
use Rattle.wire_spec.proofs.SizeLaws.{size-rfc8331}
use Rattle.wire_spec.proofs.BitLaws.{bits_at-lt}
use Rattle.wire_spec.proofs.ResultLaws.{Passed, accepted-inj, judge-accepts, judge-passes, then-accepts, and-true, and_both}
use Rattle.wire_spec.proofs.AncLaws.{count-read}
use Rattle.fieldfile_spec.specs.declared.format.Version.{Version}
use Rattle.fieldfile_spec.specs.declared.format.Version.TheVariants as version
use Rattle.fieldfile_spec.specs.File.{FieldContent, field_header_size, field_size, timestamp_field, file_f_field, file_f_ok, count_field, within_limits, field_header_checks, limit_checks, end_of_file, read_front, file_head_size, name_size, name_bits, version_bits, file_name, version_field, version_said, is_version, version_of, file_checks, offset_checks, read_field, FileRead, no_field, field_then, read_on, read_from, read_file}
use Rattle.fieldfile_scan_spec.specs.Window.{most_size, AtHand, State, between, within, content, next, Turn, stops, gives, goes, turn_of, turn, after, Turns, stopped, given, went, onward, fields_from, Reads, ends, follows, turns_left}
use Rattle.fieldfile_scan_spec.proofs.FrontLaws.{bits_at-front, anc-at-hand, then-then, then_same, run-rest}

-- THE HEADER OF A FIELD
header-most : (v : Version) → field_header_size v ≤ most_size rfc8331
header-most version.One = rw (size-rfc8331 255) (omega arith)
header-most version.Two = rw (size-rfc8331 255) (omega arith)

-- what a field's header says
pub record SameHeader (v : Version) (w s : List ℕ) : Type 0 where
  pub checks : field_header_checks v s ≡ field_header_checks v w
  pub timestamp : timestamp_field s ≡ timestamp_field w
  pub f : file_f_field s ≡ file_f_field w
  pub count : count_field v s ≡ count_field v w

header-front : (v : Version) (w t : List ℕ) → field_header_size v ≤ length w → SameHeader v w (w ++ t)
unfolding field_header_checks
header-front v w t h =
    let la = length-append w t in
    let e : leb (field_header_size v) (length (w ++ t)) ≡ leb (field_header_size v) (length w) =
    le-leb (field_header_size v) (length (w ++ t)) (omega arith) ∙ sym (le-leb (field_header_size v) (length w) h) in
    let p = bits_at-front w t 0 32 (room v h) in
    let q = bits_at-front w t 32 8 (room' v h) in
    record { checks = λ i. (e i, 52) ∷ (file_f_ok (q i), 53) ∷ []; timestamp = p; f = q; count = counted v h }
  where
    room : (v : Version) → field_header_size v ≤ length w → 0 + 32 ≤ 8 * length w
    room version.One h = omega arith
    room version.Two h = omega arith

    room' : (v : Version) → field_header_size v ≤ length w → 32 + 8 ≤ 8 * length w
    room' version.One h = omega arith
    room' version.Two h = omega arith

    counted : (v : Version) → field_header_size v ≤ length w → count_field v (w ++ t) ≡ count_field v w
    counted version.One h = bits_at-front w t 40 8 (omega arith)
    counted version.Two h = bits_at-front w t 40 16 (omega arith)

pub header-at-hand : (v : Version) (w s : List ℕ) → AtHand (field_header_size v) w s → SameHeader v w s
header-at-hand v w s h = subst (SameHeader v w) (sym h.starts) (go h.enough)
  where
    go : (field_header_size v ≤ length w) ⊎ (h.behind ≡ []) → SameHeader v w (w ++ h.behind)
    go (inl l) = header-front v w h.behind l
    go (inr e) = subst (SameHeader v w) (sym (ap (λ (z : List ℕ). w ++ z) e ∙ append-nil w)) (record { checks = refl; timestamp = refl; f = refl; count = refl })

pub fewer : (m n : ℕ) (w s : List ℕ) → m ≤ n → AtHand n w s → AtHand m w s
fewer m n w s l h = record { behind = h.behind; starts = h.starts; enough = ⊎_elim (λ k. inl (omega arith)) (λ k. inr k) h.enough }

-- checks before an answer, and what follows it
judge-then : {A B : Type 0} (ts : Checks) (r : Result A) (f : A → Result B) → (judge 0 ts r then f) ≡ judge 0 ts (r then f)
judge-then [] r f = refl
judge-then ((true, n) ∷ ts) r f = judge-then ts r f
judge-then ((false, n) ∷ ts) r f = refl

-- a turn that checks first
judge-turn : (ts : Checks) (t : Turn) (s : List ℕ) (r : Result (FieldContent × List ℕ)) → r ≡ after t s → judge 0 ts r ≡ after (turn_of (judge 0 ts (Ok t))) s
judge-turn [] t s r e = e
judge-turn ((true, n) ∷ ts) t s r e = judge-turn ts t s r e
judge-turn ((false, n) ∷ ts) t s r e = refl

-- ONE TURN
-- what follows a run in the definition: the limits and the field, and the octets behind it
abbrev limited : (t f : ℕ) (before : List Record) → List Record × List ℕ → Result (FieldContent × List ℕ)
limited t f before q = judge 0 (limit_checks (before ++ q.0)) (Ok (content t f (before ++ q.0), q.1))

abbrev field_of : List ℕ → List Record × List ℕ → Result FieldContent
field_of x q = judge 0 (limit_checks q.0) (Ok (content (timestamp_field x) (file_f_field x) q.0))

abbrev placed : Version → List ℕ → FieldContent → Result (FieldContent × List ℕ)
placed v x k = Ok (k, drop (field_size v k.records) x)

abbrev headed : Record → List Record × List ℕ → Result (List Record × List ℕ)
headed r q = Ok (r ∷ q.0, q.1)

-- before a field
before-field : (v : Version) (w s : List ℕ) → AtHand (most_size rfc8331) w s → next (between v) s ≡ after (turn (between v) w) s
unfolding next turn read_front
before-field v [] [] h = refl
before-field v [] (o ∷ s) h = absurd (go h.enough)
  where
    go : (most_size rfc8331 ≤ 0) ⊎ (h.behind ≡ []) → ⊥
    go (inl l) = omega (arith, l, size-rfc8331 255)
    go (inr e) = nil≢cons (sym (h.starts ∙ e))
before-field v (o ∷ w) [] h = absurd (nil≢cons h.starts)
before-field v (o ∷ w) (p ∷ s) h = header-turn v (o ∷ w) (p ∷ s) (header-at-hand v (o ∷ w) (p ∷ s) (fewer (field_header_size v) (most_size rfc8331) (o ∷ w) (p ∷ s) (header-most v) h))
  where
    header-turn : (v : Version) (y x : List ℕ) → SameHeader v y x
        → (judge 0 (field_header_checks v x) (read_run rfc8331 0 (count_field v x) (drop (field_header_size v) x) then field_of x) then placed v x)
        ≡ after (turn_of (judge 0 (field_header_checks v y) (Ok (goes (within (timestamp_field y) (file_f_field y) (count_field v y) []) (field_header_size v))))) x
    header-turn v y x q =
        let size = field_header_size v in
        let run = read_run rfc8331 0 (count_field v x) (drop size x) in
        let to : State = within (timestamp_field y) (file_f_field y) (count_field v y) [] in
        judge-then (field_header_checks v x) (run then field_of x) (placed v x)
        ∙ ap (λ (ts : Checks). judge 0 ts ((run then field_of x) then placed v x)) q.checks
        ∙ judge-turn (field_header_checks v y) (goes to size) x ((run then field_of x) then placed v x)
        (then-then run (field_of x) (placed v x)
        ∙ then_same run (λ z. field_of x z then placed v x) (limited (timestamp_field y) (file_f_field y) [])
        (λ z e.
        judge-then (limit_checks z.0) (Ok (content (timestamp_field x) (file_f_field x) z.0)) (placed v x)
        ∙ ap₂ (λ (c : FieldContent) (u : List ℕ). judge 0 (limit_checks z.0) (Ok (c, u)))
        (λ i. content (q.timestamp i) (q.f i) z.0)
        (sym (drop-drop (run_size rfc8331 z.0) size x) ∙ sym (run-rest rfc8331 0 (count_field v x) (drop size x) z.0 z.1 e)))
        ∙ ap (λ (c : ℕ). read_run rfc8331 0 c (drop size x) then limited (timestamp_field y) (file_f_field y) []) q.count)

-- in its ANC data packets
in_field : (t f n : ℕ) (before : List Record) (w s : List ℕ) → AtHand (most_size rfc8331) w s → next (within t f n before) s ≡ after (turn (within t f n before) w) s
unfolding next turn read_run
in_field t f zero before w s h =
    ap (λ (rs : List Record). judge 0 (limit_checks rs) (Ok (content t f rs, s))) (append-nil before)
    ∙ judge-turn (limit_checks before) (gives (content t f before)) s (Ok (content t f before, s)) refl
in_field t f (suc n) before w s h =
    let a = anc-at-hand rfc8331 w s h (length before) in
    then-then (read_anc rfc8331 (length before) s) (λ z. read_run rfc8331 (length before + 1) n (behind rfc8331 s) then headed z) (limited t f before)
    ∙ ap (λ (r : Result Record). r then λ z. (read_run rfc8331 (length before + 1) n (behind rfc8331 s) then headed z) then limited t f before) a.0
    ∙ go (read_anc rfc8331 (length before) w) a.1
  where
    go : (r : Result Record) → data_count rfc8331 s ≡ data_count rfc8331 w
        → (r then λ z. (read_run rfc8331 (length before + 1) n (behind rfc8331 s) then headed z) then limited t f before)
        ≡ after (turn_of (r then λ z. Ok (goes (within t f n (before ++ (z ∷ []))) (anc_size rfc8331 (data_count rfc8331 w))))) s
    go (Err x) e = refl
    go (Ok z) e =
        let l : length before + 1 ≡ length (before ++ (z ∷ [])) = sym (length-append before (z ∷ [])) in
        then-then (read_run rfc8331 (length before + 1) n (behind rfc8331 s)) (headed z) (limited t f before)
        ∙ ap₂ (λ (j : ℕ) (u : List ℕ). read_run rfc8331 j n u then λ q. limited t f before (z ∷ q.0, q.1)) l (ap (λ (c : ℕ). drop (anc_size rfc8331 c) s) e)
        ∙ then_same (read_run rfc8331 (length (before ++ (z ∷ []))) n (drop (anc_size rfc8331 (data_count rfc8331 w)) s)) (λ q. limited t f before (z ∷ q.0, q.1)) (limited t f (before ++ (z ∷ [])))
        (λ q k. ap (λ (rs : List Record). judge 0 (limit_checks rs) (Ok (content t f rs, q.1))) (sym (append_snoc before z q.0)))

pub turn-next : (st : State) (w s : List ℕ) → AtHand (most_size rfc8331) w s → next st s ≡ after (turn st w) s
turn-next (between v) w s h = before-field v w s h
turn-next (within t f n before) w s h = in_field t f n before w s h

-- ANY TURNS, each over octets enough, end in what the definition gives over all the octets
pub turns_next : {st : State} {s : List ℕ} {r : Result (FieldContent × List ℕ)} → Turns st s r → next st s ≡ r
turns_next {st} {s} (stopped {w = w} h e) = turn-next st w s h ∙ ap (λ (t : Turn). after t s) e
turns_next {st} {s} (given {w = w} h e) = turn-next st w s h ∙ ap (λ (t : Turn). after t s) e
turns_next {st} {s} (went {w = w} h e more) = turn-next st w s h ∙ ap (λ (t : Turn). after t s) e ∙ turns_next more

-- and they do end, whoever fills the octets at hand: each turn leaves fewer
pub fewer-turns : (st to : State) (w : List ℕ) (used : ℕ) → turn st w ≡ goes to used → turns_left to < turns_left st
unfolding turn
fewer-turns (between v) to [] used e = let z : ◌≡◌ {A = ℕ} 0 1 = cc in absurd (omega arith)
fewer-turns (between v) to (o ∷ w) used e = go (field_header_checks v (o ∷ w)) e
  where
    small : count_field v (o ∷ w) < 65536
    small = below v
      where
        below : (v : Version) → count_field v (o ∷ w) < 65536
        below version.One = omega (arith, bits_at-lt (o ∷ w) 40 8)
        below version.Two = omega (arith, bits_at-lt (o ∷ w) 40 16)

    go : (ts : Checks) → turn_of (judge 0 ts (Ok (goes (within (timestamp_field (o ∷ w)) (file_f_field (o ∷ w)) (count_field v (o ∷ w)) []) (field_header_size v)))) ≡ goes to used → turns_left to < 65537
    go [] e = let q : within (timestamp_field (o ∷ w)) (file_f_field (o ∷ w)) (count_field v (o ∷ w)) [] ≡ to = cc in subst (λ (z : State). turns_left z < 65537) q (omega (arith, small))
    go ((true, n) ∷ ts) e = go ts e
    go ((false, n) ∷ ts) e = let z : ◌≡◌ {A = ℕ} 0 1 = cc in absurd (omega arith)
fewer-turns (within t f zero before) to w used e = go (within_limits (length before) (length (list_of before))) e
  where
    go : (b : Bool) → turn_of (cond b (Ok (gives (content t f before))) (refuse 21 0)) ≡ goes to used → turns_left to < 1
    go true e = let z : ◌≡◌ {A = ℕ} 0 1 = cc in absurd (omega arith)
    go false e = let z : ◌≡◌ {A = ℕ} 0 1 = cc in absurd (omega arith)
fewer-turns (within t f (suc n) before) to w used e = go (read_anc rfc8331 (length before) w) e
  where
    go : (r : Result Record) → turn_of (r then λ z. Ok (goes (within t f n (before ++ (z ∷ []))) (anc_size rfc8331 (data_count rfc8331 w)))) ≡ goes to used → turns_left to < suc (suc n)
    go (Err x) e = let z : ◌≡◌ {A = ℕ} 0 1 = cc in absurd (omega arith)
    go (Ok z) e = let q : within t f n (before ++ (z ∷ [])) ≡ to = cc in subst (λ (y : State). turns_left y < suc (suc n)) q (omega arith)

-- so with any way of filling the octets at hand the turns end, in what the definition gives
pub turns-end : ((x : List ℕ) → (w : List ℕ) × AtHand (most_size rfc8331) w x) → (st : State) (s : List ℕ) → Turns st s (next st s)
turns-end hand st s = bounded (turns_left st) st s (omega arith)
  where
    bounded : (n : ℕ) (st : State) (s : List ℕ) → turns_left st ≤ n → Turns st s (next st s)
    bounded zero (between v) s h = absurd (omega arith)
    bounded zero (within t f left before) s h = absurd (omega arith)
    bounded (suc n) st s h = go (turn st (hand s).0) refl (λ to x l. bounded n to x l)
      where
        go : (t : Turn) → turn st (hand s).0 ≡ t → ((to : State) (x : List ℕ) → turns_left to ≤ n → Turns to x (next to x)) → Turns st s (next st s)
        go (stops x) e more = subst (Turns st s) (sym (turn-next st (hand s).0 s (hand s).1 ∙ ap (λ (t : Turn). after t s) e)) (stopped (hand s).1 e)
        go (gives k) e more = subst (Turns st s) (sym (turn-next st (hand s).0 s (hand s).1 ∙ ap (λ (t : Turn). after t s) e)) (given (hand s).1 e)
        go (goes to used) e more =
            subst (Turns st s) (sym (turn-next st (hand s).0 s (hand s).1 ∙ ap (λ (t : Turn). after t s) e))
            (went (hand s).1 e (more to (drop used s) (omega (arith, fewer-turns st to (hand s).0 used e))))

-- OVER THE LIMITS: the records so far need not be kept, for the field is refused in any case, by a packet that is still to come or by 21
pub list-append : (xs ys : List Record) → list_of (xs ++ ys) ≡ list_of xs ++ list_of ys
list-append [] ys = refl
list-append (x ∷ xs) ys = ap (λ (z : List ℕ). cells_of x ++ z) (list-append xs ys) ∙ sym (append_assoc (cells_of x) (list_of xs) (list_of ys))

pub over-stays : (xs ys : List Record) → within_limits (length xs) (length (list_of xs)) ≡ false → within_limits (length (xs ++ ys)) (length (list_of (xs ++ ys))) ≡ false
over-stays xs ys h = go (within_limits (length (xs ++ ys)) (length (list_of (xs ++ ys)))) refl
  where
    go : (b : Bool) → within_limits (length (xs ++ ys)) (length (list_of (xs ++ ys))) ≡ b → b ≡ false
    go false e = refl
    go true e =
        let p = and-true (leb (length (xs ++ ys)) max_field_records) (leb (length (list_of (xs ++ ys))) max_field_cells) e in
        let m = leb-true (length (xs ++ ys)) max_field_records p.0 in
        let n = leb-true (length (list_of (xs ++ ys))) max_field_cells p.1 in
        let a = length-append xs ys in
        let b = ap length (list-append xs ys) ∙ length-append (list_of xs) (list_of ys) in
        absurd (true≢false (sym (and_both (le-leb (length xs) max_field_records (omega arith)) (le-leb (length (list_of xs)) max_field_cells (omega arith))) ∙ h))

pub over-next : (t f n : ℕ) (before : List Record) (s : List ℕ) → within_limits (length before) (length (list_of before)) ≡ false
    → next (within t f n before) s ≡ (read_run rfc8331 (length before) n s then λ q. refuse 21 0)
unfolding next
over-next t f n before s h =
    then_same (read_run rfc8331 (length before) n s) (limited t f before) (λ q. refuse 21 0) (λ q e. rw (over-stays before q.0 h))

-- THE HEAD OF A FILE
pub head-at-hand : (w s : List ℕ) → AtHand file_head_size w s → (file_checks s ≡ file_checks w) × (version_of s ≡ version_of w)
unfolding file_checks version_of
head-at-hand w s h = subst (λ (z : List ℕ). (file_checks z ≡ file_checks w) × (version_of z ≡ version_of w)) (sym h.starts) (go h.enough)
  where
    go : (file_head_size ≤ length w) ⊎ (h.behind ≡ []) → (file_checks (w ++ h.behind) ≡ file_checks w) × (version_of (w ++ h.behind) ≡ version_of w)
    go (inl l) =
        let t = h.behind in
        let la = length-append w t in
        let n = bits_at-front w t 0 name_bits (omega arith) in
        let v = bits_at-front w t name_bits version_bits (omega arith) in
        let a : leb name_size (length (w ++ t)) ≡ leb name_size (length w) = le-leb name_size (length (w ++ t)) (omega arith) ∙ sym (le-leb name_size (length w) (omega arith)) in
        let b : leb file_head_size (length (w ++ t)) ≡ leb file_head_size (length w) = le-leb file_head_size (length (w ++ t)) (omega arith) ∙ sym (le-leb file_head_size (length w) l) in (
          λ i. (a i && eqb (n i) file_name, 50) ∷ (b i && is_version (v i), 51) ∷ [],
          ap version_said v,
        )
    go (inr e) =
        let q : w ++ h.behind ≡ w = ap (λ (z : List ℕ). w ++ z) e ∙ append-nil w in
        (ap file_checks q, ap version_of q)

refused-inj : {A : Type 0} {x y : Refusal} → ◌≡◌ {A = Result A} (Err x) (Err y) → x ≡ y
refused-inj e = cc

not-both : {A : Type 0} {x : Refusal} {a : A} → Err x ≡ Ok a → ⊥
not-both e = let z : ◌≡◌ {A = ℕ} 0 1 = cc in omega arith

judge-refused : {A : Type 0} (ts : Checks) (x : Refusal) → judge {A = Unit {0}} 0 ts (Ok tt) ≡ Err x → (r : Result A) → judge 0 ts r ≡ Err x
judge-refused [] x e r = let z : ◌≡◌ {A = ℕ} 0 1 = cc in absurd (omega arith)
judge-refused ((true, n) ∷ ts) x e r = judge-refused ts x e r
judge-refused ((false, n) ∷ ts) x e r = ap Err (refused-inj e)

-- A WHOLE FILE
pub anc-fits : (i : ℕ) (s : List ℕ) (r : Record) → read_anc rfc8331 i s ≡ Ok r → anc_size rfc8331 (data_count rfc8331 s) ≤ length s
unfolding read_anc anc_checks
anc-fits i s r e =
    let q = judge-accepts i (anc_checks rfc8331 s) (Ok (anc_record rfc8331 s)) r e in
    leb-true (anc_size rfc8331 (data_count rfc8331 s)) (length s) q.0.1.1.0

run_fits : (i n : ℕ) (s : List ℕ) (rs : List Record) (rest : List ℕ) → read_run rfc8331 i n s ≡ Ok (rs, rest) → run_size rfc8331 rs ≤ length s
unfolding read_run
run_fits i zero s rs rest e = let q : [] ≡ rs = ap (λ (z : List Record × List ℕ). z.0) (accepted-inj e) in subst (λ (z : List Record). run_size rfc8331 z ≤ length s) q (omega arith)
run_fits i (suc n) s rs rest e =
    let a = then-accepts (read_anc rfc8331 i s) _ _ e in
    let b = then-accepts (read_run rfc8331 (i + 1) n (behind rfc8331 s)) _ _ a.2 in
    let q : a.0 ∷ b.0.0 ≡ rs = ap (λ (z : List Record × List ℕ). z.0) (accepted-inj b.2) in
    let f = anc-fits i s a.0 a.1 in
    let c = ap (anc_size rfc8331) (count-read rfc8331 s i a.0 a.1) in
    let m = run_fits (i + 1) n (behind rfc8331 s) b.0.0 b.0.1 b.1 in
    let d = length-drop (anc_size rfc8331 (data_count rfc8331 s)) s in
    subst (λ (z : List Record). run_size rfc8331 z ≤ length s) q (omega arith)

field_fits : (v : Version) (s : List ℕ) (k : FieldContent) → read_front v s ≡ Ok k → field_size v k.records ≤ length s
unfolding read_front field_header_checks
field_fits v s k e =
    let h = judge-accepts 0 (field_header_checks v s) _ k e in
    let q = then-accepts (read_run rfc8331 0 (count_field v s) (drop (field_header_size v) s)) (field_of s) k h.1 in
    let l = judge-accepts 0 (limit_checks q.0.0) (Ok (content (timestamp_field s) (file_f_field s) q.0.0)) k q.2 in
    let rs : q.0.0 ≡ k.records = ap (λ (z : FieldContent). z.records) (accepted-inj l.1) in
    let m = run_fits 0 (count_field v s) (drop (field_header_size v) s) q.0.0 q.0.1 q.1 in
    let d = length-drop (field_header_size v) s in
    let n = leb-true (field_header_size v) (length s) h.0.0 in
    subst (λ (z : List Record). field_size v z ≤ length s) rs (omega arith)

module _ (s : List ℕ) (head : Passed (file_checks s)) where
  abbrev to_next : ℕ → FieldContent → Result (FieldContent × ℕ)
  to_next at k = Ok (k, at + field_size (version_of s) k.records)

  -- the field at an offset is the next one of the octets from there on
  at_field : (at : ℕ) → file_head_size ≤ at → at < length s → read_field s at ≡ (read_front (version_of s) (drop at s) then to_next at)
  unfolding read_field offset_checks
  at_field at h l =
      let a : leb file_head_size at && leb at (length s) ≡ true = and_both (le-leb file_head_size at h) (le-leb at (length s) (omega arith)) in
      let b : eqb at (length s) ≡ false = ne_eqb at (length s) (λ e. omega arith) in
      judge-passes 0 (file_checks s) _ head ∙ judge-passes 0 (offset_checks s at) _ (a, (ap not b, tt))

  at-end : (at : ℕ) → file_head_size ≤ at → at ≡ length s → read_field s at ≡ Err end_of_file
  unfolding read_field offset_checks
  at-end at h l =
      let a : leb file_head_size at && leb at (length s) ≡ true = and_both (le-leb file_head_size at h) (le-leb at (length s) (omega arith)) in
      let b : eqb at (length s) ≡ true = eq-eqb at (length s) l in
      judge-passes 0 (file_checks s) _ head ∙ rw (a, b)

  -- `read_from` over the file is `fields_from` over the octets that are left
  pub file-fields : (bound at : ℕ) → file_head_size ≤ at → at ≤ length s → read_from bound s at ≡ fields_from bound (version_of s) (drop at s)
  unfolding read_from fields_from
  file-fields zero at h l = refl
  file-fields (suc bound) at h l = go (drop at s) refl (λ to m n. file-fields bound to m n)
    where
      go : (x : List ℕ) → drop at s ≡ x
          → ((to : ℕ) → file_head_size ≤ to → to ≤ length s → read_from bound s to ≡ fields_from bound (version_of s) (drop to s))
          → read_on (read_field s at) (λ to. read_from bound s to) ≡ onward (next (between (version_of s)) x) (λ rest. fields_from bound (version_of s) rest)
      go [] e more = unfold next in (let d : length (drop at s) ≡ 0 = ap length e in rw (at-end at h (omega (arith, length-drop at s))))
      go (o ∷ x) e more = unfold next in (
          let d : length (drop at s) ≡ suc (length x) = ap length e in
          rw (at_field at h (omega (arith, length-drop at s)))
          (ap (λ (z : List ℕ). read_on (read_front (version_of s) z then to_next at) (λ to. read_from bound s to)) e
          ∙ both (read_front (version_of s) (o ∷ x)) refl)
          )
        where
          both : (r : Result FieldContent) → read_front (version_of s) (o ∷ x) ≡ r
              → read_on (r then to_next at) (λ to. read_from bound s to) ≡ onward (r then placed (version_of s) (o ∷ x)) (λ rest. fields_from bound (version_of s) rest)
          both (Err y) q = refl
          both (Ok k) q =
              let f = field_fits (version_of s) (o ∷ x) k q in
              let d : length (drop at s) ≡ suc (length x) = ap length e in
              ap (field_then k)
              (more (at + field_size (version_of s) k.records) (omega arith) (omega (arith, length-drop at s))
              ∙ ap (fields_from bound (version_of s)) (sym (drop-drop (field_size (version_of s) k.records) at s) ∙ ap (drop (field_size (version_of s) k.records)) e))

-- THE FIELDS ONE BY ONE, from the octets behind the head on: what `read_file` gives, and nothing else
-- each field takes octets
pub next-shorter : (v : Version) (s : List ℕ) (k : FieldContent) (rest : List ℕ) → next (between v) s ≡ Ok (k, rest) → length rest < length s
unfolding next
next-shorter v [] k rest e = let z : ◌≡◌ {A = ℕ} 0 1 = cc in absurd (omega arith)
next-shorter v (o ∷ s) k rest e =
    let q = then-accepts (read_front v (o ∷ s)) (placed v (o ∷ s)) (k, rest) e in
    let c = accepted-inj q.2 in
    let r : drop (field_size v q.0.records) (o ∷ s) ≡ rest = ap (λ (z : FieldContent × List ℕ). z.1) c in
    let f = field_fits v (o ∷ s) q.0 q.1 in
    let l = length-drop (field_size v q.0.records) (o ∷ s) in
    subst (λ (z : List ℕ). length z < length (o ∷ s)) r (taken v (run_size rfc8331 q.0.records) (length (o ∷ s)) _ f l)
  where
    taken : (v : Version) (run n m : ℕ) → field_header_size v + run ≤ n → m ≡ n - (field_header_size v + run) → m < n
    taken version.One run n m h e = omega arith
    taken version.Two run n m h e = omega arith

pub fields_read : (bound : ℕ) (v : Version) (s : List ℕ) → length s < bound → Reads v s (fields_from bound v s)
unfolding fields_from
fields_read zero v s h = absurd (omega arith)
fields_read (suc bound) v s h = go (next (between v) s) refl (λ rest l. fields_read bound v rest l)
  where
    go : (r : Result (FieldContent × List ℕ)) → next (between v) s ≡ r → ((rest : List ℕ) → length rest < bound → Reads v rest (fields_from bound v rest))
        → Reads v s (onward r (λ rest. fields_from bound v rest))
    go (Err x) e more = ends e
    go (Ok q) e more = follows e (more q.1 (omega (arith, next-shorter v s q.0 q.1 e)))

-- A FILE WHOSE HEAD PASSES
pub file-reads : (s : List ℕ) → Passed (file_checks s) → Reads (version_of s) (drop file_head_size s) (read_file s)
unfolding file_checks
file-reads s h =
    let l = leb-true file_head_size (length s) (and-true (leb file_head_size (length s)) (is_version (version_field s)) h.1.0).0 in
    subst (Reads (version_of s) (drop file_head_size s)) (sym (file-fields s h (suc (length s)) file_head_size (omega arith) l))
    (fields_read (suc (length s)) (version_of s) (drop file_head_size s) (omega (arith, length-drop file_head_size s)))

-- there is one reading
pub reads-one : {v : Version} {s : List ℕ} {r : FileRead} → Reads v s r → (q : FileRead) → Reads v s q → r ≡ q
reads-one (ends e) q (ends f) = let x = refused-inj (sym e ∙ f) in ap no_field x
reads-one (ends e) q (follows f m) = absurd (not-both (sym e ∙ f))
reads-one (follows e m) q (ends f) = absurd (not-both (sym f ∙ e))
reads-one {v} (follows {rest = t} {k = k} e m) q (follows {rest = u} {k = l} {r = r} f n) =
    let c = accepted-inj (sym e ∙ f) in
    let i = reads-one m r (subst (λ (z : List ℕ). Reads v z r) (sym (ap (λ (z : FieldContent × List ℕ). z.1) c)) n) in
    ap₂ field_then (ap (λ (z : FieldContent × List ℕ). z.0) c) i

-- A FILE WHOSE HEAD IS REFUSED
pub file-refused : (s : List ℕ) (x : Refusal) → judge {A = Unit {0}} 0 (file_checks s) (Ok tt) ≡ Err x → read_file s ≡ no_field x
unfolding read_from read_field
file-refused s x e = ap (λ (r : Result (FieldContent × ℕ)). read_on r (λ to. read_from (length s) s to)) (judge-refused (file_checks s) x e _)
