-- The cells of a field, and their lines.
-- Each by the definition that it is about.
use mathlib.Core.Path.{◌≡◌, refl, ap, sym, ◌∙◌}
use mathlib.Core.Bool.{Bool, true, false}
use mathlib.Core.List.{List, []}
use Prim.Native.Nat.{ℕ, min}
use native.Mathlib.Omega.{arith}
use borrow.Author.Tests.{leb-true, leb-false}
use lib.Dec.{leb}
use lib.ListN.{length, take}
use lib.Seq.{take_all, take-length}
use Rattle.wire_spec.specs.declared.count.OctetCount.{OctetCount}
use Rattle.wire_spec.specs.declared.refusal.Refusal.{Refusal}
use Rattle.wire_spec.specs.Anc.{Record}
use Rattle.wire_spec.specs.Cells.{read_list}
use Rattle.wire_spec.specs.Result.{Result, Err, Ok, IsAccepted}
use Rattle.wire_spec.specs.Layout.{rfc8331}
use Rattle.anc_writer.specs.Answers.{listed_of}
use Rattle.fieldlist_records.specs.Records.{list_text}

-- the field's cells, where the store has fewer
take-least : (n m : ℕ) (s : List ℕ) → m ≡ min n (length s) → take m s ≡ take n s
take-least n m s e = go (leb n (length s)) refl
  where
    go : (b : Bool) → leb n (length s) ≡ b → take m s ≡ take n s
    go true h =
        let l = leb-true n (length s) h in
        let k : m ≡ n = omega (arith, l) in
        ap (λ (j : ℕ). take j s) k
    go false h =
        let l = leb-false n (length s) h in
        let k : m ≡ length s = omega (arith, l) in
        ap (λ (j : ℕ). take j s) k ∙ take-length s ∙ sym (take_all n s (omega (arith, l)))

none-listed : (r : Result (List Record)) (x : Refusal) → listed_of rfc8331 r ≡ Err x → list_text r ≡ []
none-listed (Err y) x e = refl
none-listed (Ok rs) x e = let o : ◌≡◌ {A = ℕ} 0 1 = cc in absurd (omega arith)

-- a list that is not refused was accepted
pub some-listed : (r : Result (List Record)) (n : ℕ) (o : OctetCount) → listed_of rfc8331 r ≡ Ok (record { count = n; octets = o }) → IsAccepted r
some-listed (Err x) n o e = let q : ◌≡◌ {A = ℕ} 0 1 = cc in absurd (omega arith)
some-listed (Ok rs) n o e = tt

-- a list that is refused has no lines
pub no_lines : (n m : ℕ) (s : List ℕ) (x : Refusal) → m ≡ min n (length s) → listed_of rfc8331 (read_list (take m s)) ≡ Err x → [] ≡ list_text (read_list (take n s))
no_lines n m s x e h = sym (ap (λ (l : List ℕ). list_text (read_list l)) (sym (take-least n m s e)) ∙ none-listed (read_list (take m s)) x h)

pub lines_of : (n m : ℕ) (s : List ℕ) → m ≡ min n (length s) → list_text (read_list (take m s)) ≡ list_text (read_list (take n s))
lines_of n m s e = ap (λ (l : List ℕ). list_text (read_list l)) (take-least n m s e)
