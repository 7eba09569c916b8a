-- A port, digit by digit.
-- By the digit at the front of those that are left.
use Rattle.std.specs.Prelude.{Some, None}
use mathlib.Core.Path.{◌≡◌, ap, sym, ◌∙◌}
use mathlib.Core.Bool.{Bool, cond}
use mathlib.Core.List.{List}
use Prim.Native.Nat.{ℕ, suc, ◌+◌, ◌≤◌, ◌<◌}
use native.Mathlib.Numerals.{add-one}
use borrow.Author.Tests.{eq-eqb, ne_eqb, le-ltb, lt-ltb}
use lib.Dec.{eqb, ltb}
use lib.ListN.{length, drop, get_or}
use lib.Seq.{drop-cons, drop-length}
use Rattle.program_arguments.specs.Port.{next_value, port_in, port_of}

module _ (word : List ℕ) (v i : ℕ) (inv : port_in v (drop i word) ≡ port_of word) where
  next : i < length word → port_in v (drop i word) ≡ cond (ltb 65535 (next_value v (get_or word i 0))) None (port_in (next_value v (get_or word i 0)) (drop (suc i) word))
  unfolding port_in
  next h = ap (port_in v) (drop-cons word i 0 h)

  pub stops : (n : ℕ) → i < length word → n ≡ next_value v (get_or word i 0) → 65535 < n → None ≡ port_of word
  stops n h e k = sym (sym inv ∙ next h ∙ ap (λ (b : Bool). cond b None (port_in (next_value v (get_or word i 0)) (drop (suc i) word))) (ap (λ (m : ℕ). ltb 65535 m) (sym e) ∙ lt-ltb 65535 n k))

  pub goes_on : (n : ℕ) → i < length word → n ≡ next_value v (get_or word i 0) → n ≤ 65535 → port_in n (drop (i + 1) word) ≡ port_of word
  goes_on n h e k =
      (λ j. port_in (e j) (drop (add-one i j) word))
      ∙ sym (sym inv ∙ next h ∙ ap (λ (b : Bool). cond b None (port_in (next_value v (get_or word i 0)) (drop (suc i) word))) (ap (λ (m : ℕ). ltb 65535 m) (sym e) ∙ le-ltb 65535 n k))

  last : i ≡ length word → port_of word ≡ cond (eqb v 0) None (Some v)
  unfolding port_in
  last e = sym inv ∙ ap (port_in v) (ap (λ (j : ℕ). drop j word) e ∙ drop-length word)

  pub is_none : i ≡ length word → v ≡ 0 → None ≡ port_of word
  is_none e z = sym (last e ∙ ap (λ (b : Bool). cond b None (Some v)) (eq-eqb v 0 z))

  pub is_number : i ≡ length word → (v ≡ 0 → ⊥) → Some v ≡ port_of word
  is_number e z = sym (last e ∙ ap (λ (b : Bool). cond b None (Some v)) (ne_eqb v 0 z))
