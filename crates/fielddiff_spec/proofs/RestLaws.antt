-- Each turn takes from what is to come of a file, and changes nothing of it; behind a position the file is read on.
use mathlib.Core.Path.{◌≡◌, refl, ap, sym, ◌∙◌}
use Prim.Native.Nat.{ℕ, suc, ◌<◌}
use mathlib.Core.List.{List}
use native.Mathlib.Omega.{arith}
use lib.ListN.{length, drop}
use Rattle.wire_spec.specs.declared.refusal.Refusal.{Refusal}
use Rattle.wire_spec.specs.Layout.{rfc8331}
use Rattle.wire_spec.specs.Result.{Result, Err, Ok, judge}
use Rattle.wire_spec.proofs.ResultLaws.{Passed}
use Rattle.fieldfile_spec.specs.declared.format.Version.{Version}
use Rattle.fieldfile_spec.specs.File.{FieldContent, field_then, file_head_size, file_checks, version_of}
use Rattle.fieldfile_scan_spec.specs.Window.{AtHand, most_size, State, between, next, Turn, stops, gives, goes, turn, after, onward, fields_from}
use Rattle.fieldfile_scan_spec.proofs.WindowLaws.{turn-next, next-shorter, fields_read, reads-one, file-reads, file-refused}
use Rattle.fielddiff_spec.specs.Rest.{starts, reading, has, over, fields_in, rest_of, standing_after, left_after}

-- the bound on how many fields there can be does not matter
pub any-bound : (bound : ℕ) (v : Version) (s : List ℕ) → length s < bound → fields_from bound v s ≡ fields_in v s
any-bound bound v s h = reads-one (fields_read bound v s h) (fields_in v s) (fields_read (suc (length s)) v s (omega arith))

-- before a field its reading is that of the fields from there on
pub between-rest : (v : Version) (s : List ℕ) → rest_of (reading v (between v)) s ≡ fields_in v s
unfolding fields_from
between-rest v s = go (next (between v) s) refl
  where
    go : (r : Result (FieldContent × List ℕ)) → next (between v) s ≡ r → onward r (λ rest. fields_in v rest) ≡ onward r (λ rest. fields_from (length s) v rest)
    go (Err x) e = refl
    go (Ok q) e = ap (field_then q.0) (sym (any-bound (length s) v q.1 (next-shorter v s q.0 q.1 e)))

-- behind a field the file is read on
pub field-rest : (v : Version) (k : FieldContent) (s : List ℕ) → rest_of (has v k) s ≡ field_then k (rest_of (reading v (between v)) s)
field-rest v k s = ap (field_then k) (sym (between-rest v s))

-- ONE TURN over octets that are enough
pub turn-rest : (v : Version) (st : State) (w s : List ℕ) → AtHand (most_size rfc8331) w s
    → rest_of (reading v st) s ≡ rest_of (standing_after v (turn st w)) (left_after (turn st w) s)
turn-rest v st w s h =
    ap (λ (r : Result (FieldContent × List ℕ)). onward r (λ rest. fields_in v rest)) (turn-next st w s h) ∙ go (turn st w)
  where
    go : (t : Turn) → onward (after t s) (λ rest. fields_in v rest) ≡ rest_of (standing_after v t) (left_after t s)
    go (stops x) = refl
    go (gives k) = refl
    go (goes to used) = refl

-- THE HEAD
pub head-rest : (s : List ℕ) → Passed (file_checks s) → rest_of starts s ≡ rest_of (reading (version_of s) (between (version_of s))) (drop file_head_size s)
head-rest s h =
    reads-one (file-reads s h) (fields_in (version_of s) (drop file_head_size s)) (fields_read (suc (length (drop file_head_size s))) (version_of s) (drop file_head_size s) (omega arith))
    ∙ sym (between-rest (version_of s) (drop file_head_size s))

pub head-refused : (s : List ℕ) (x : Refusal) → judge {A = Unit {0}} 0 (file_checks s) (Ok tt) ≡ Err x → rest_of starts s ≡ rest_of (over x) s
head-refused s x e = file-refused s x e
