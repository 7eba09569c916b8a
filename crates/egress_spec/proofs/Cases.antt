-- A call is refused, with nothing changed, or it is not: the two cases of an offer and of a take.
use mathlib.Core.Path.{◌≡◌, refl}
use mathlib.Core.Bool.{true, false}
use mathlib.Core.List.{List, [], ◌∷◌}
use Prim.Native.Nat.{ℕ}
use lib.Dec.{leb}
use lib.ListN.{length}
use Rattle.wire_spec.specs.declared.refusal.Refusal.{Refusal}
use Rattle.wire_spec.specs.Result.{Result, Err, Ok, refuse, Checks, judge, ◌then◌}
use Rattle.wire_spec.proofs.ResultLaws.{Passed}
use Rattle.egress_spec.specs.Queues.{Model, channels, joined, without, offer_checks, Turn, turn, hand_out, offering, taking, copied, handed, no, Step, after_offer, after_take, step}

-- a property of every refusal and of the answer is one of what the checks say
judge-cases : {A : Type 0} (P : Result A → Type 0) (i : ℕ) (ts : Checks) (r : Result A) → ((n : ℕ) → P (refuse n i)) → (Passed ts → P r) → P (judge i ts r)
judge-cases P i [] r f h = h tt
judge-cases P i ((true, n) ∷ ts) r f h = judge-cases P i ts r f (λ p. h (refl, p))
judge-cases P i ((false, n) ∷ ts) r f h = f n

-- and of two answers under the same checks
pub judge-both : {A B : Type 0} (R : Result A → Result B → Type 0) (i : ℕ) (ts : Checks) (x : Result A) (y : Result B) → ((n : ℕ) → R (refuse n i) (refuse n i))
    → (Passed ts → R x y) → R (judge i ts x) (judge i ts y)
judge-both R i [] x y f h = h tt
judge-both R i ((true, n) ∷ ts) x y f h = judge-both R i ts x y f (λ p. h (refl, p))
judge-both R i ((false, n) ∷ ts) x y f h = f n

module _ (m : Model) (P : Step → Type 0) (unchanged : (x : Refusal) → P (record { model = m; answer = no x })) where
  pub offer-cases : (c : ℕ) (p : List ℕ)
      → (Passed (offer_checks c (length p) (length (m.queue c))) → P (record { model = joined m c p; answer = copied })) → P (step m (offering c p))
  offer-cases c p h =
      judge-cases (λ r. P (after_offer m r)) 0 (offer_checks c (length p) (length (m.queue c))) (Ok (joined m c p))
      (λ n. unchanged (record { number = n; index = 0 })) h

  pub take_cases : (out : List ℕ)
      → ((t : Turn) → turn channels m.queue m.next ≡ Ok t → P (record { model = without m t; answer = handed t.channel t.packet }))
      → P (step m (taking out))
  take_cases out h = go (turn channels m.queue m.next) refl
    where
      go : (r : Result Turn) → turn channels m.queue m.next ≡ r → P (after_take m (r then hand_out (length out)))
      go (Err x) e = unchanged x
      go (Ok t) e =
          judge-cases (λ r. P (after_take m r)) 0 ((leb (length t.packet) (length out), 23) ∷ []) (Ok t) (λ n. unchanged (record { number = n; index = 0 })) (λ z. h t e)
