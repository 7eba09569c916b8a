-- What an answer about a list says of it: the refusal, or its records, their number and their octets.
-- By the cases of the answer.
use Rattle.std.specs.Prelude.{Some, None}
use mathlib.Core.Path.{◌≡◌, refl, ap}
use mathlib.Core.List.{List}
use Prim.Native.Nat.{ℕ}
use native.Mathlib.Omega.{arith}
use lib.ListN.{length}
use Rattle.wire_spec.specs.declared.refusal.Refusal.{Refusal}
use Rattle.wire_spec.specs.declared.count.OctetCount.{OctetCount}
use Rattle.wire_spec.specs.Layout.{Layout}
use Rattle.wire_spec.specs.Result.{Result, Err, Ok}
use Rattle.wire_spec.specs.Anc.{Record, run_size}
use Rattle.anc_writer.specs.Answers.{listed_of, measured_of}
use Rattle.anc_writer.specs.declared.check.Listed.{Listed}

-- a list that was measured, and one that was not
pub measured-is : (x : Result Listed) (n : ℕ) (o : OctetCount) → measured_of x ≡ Some (record { count = n; octets = o }) → x ≡ Ok (record { count = n; octets = o })
measured-is (Err y) n o e = let z : ◌≡◌ {A = ℕ} 0 1 = cc in absurd (omega arith)
measured-is (Ok q) n o e = let a : q ≡ record { count = n; octets = o } = cc in ap Ok a

pub record Unmeasured (x : Result Listed) : Type 0 where
  pub why : Refusal
  pub is : x ≡ Err why

pub unmeasured : (x : Result Listed) → measured_of x ≡ None → Unmeasured x
unmeasured (Err y) e = record { why = y; is = refl }
unmeasured (Ok q) e = let z : ◌≡◌ {A = ℕ} 0 1 = cc in absurd (omega arith)

module _ (L : Layout) where
  pub record Taken (r : Result (List Record)) (n : ℕ) (o : OctetCount) : Type 0 where
    pub rs : List Record
    pub reads : r ≡ Ok rs
    pub count : length rs ≡ n
    pub size : run_size L rs ≡ o.0

  pub taken : (r : Result (List Record)) (n : ℕ) (o : OctetCount) → listed_of L r ≡ Ok (record { count = n; octets = o }) → Taken r n o
  taken (Err x) n o e = let z : ◌≡◌ {A = ℕ} 0 1 = cc in absurd (omega arith)
  taken (Ok rs) n o e =
      let u : ◌≡◌ {A = Listed} (record { count = length rs; octets = record { 0 = run_size L rs } }) (record { count = n; octets = o }) = cc in
      record { rs = rs; reads = refl; count = ap (λ (y : Listed). y.count) u; size = ap (λ (y : Listed). y.octets.0) u }

  pub listed-refused : (r : Result (List Record)) (x : Refusal) → listed_of L r ≡ Err x → r ≡ Err x
  listed-refused (Err y) x e = let i : y ≡ x = cc in ap Err i
  listed-refused (Ok rs) x e = let z : ◌≡◌ {A = ℕ} 0 1 = cc in absurd (omega arith)
