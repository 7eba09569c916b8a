-- Items are accepted exactly where none is malformed, at most 64 are pairs, and at most one is a VPID code.
-- By the items from left to right: what each adds to the number of pairs and to the VPID code.
use Rattle.std.specs.Prelude.{Option, Some, None}
use mathlib.Core.Path.{◌≡◌, refl, ap, sym, ◌∙◌}
use mathlib.Core.List.{List, [], ◌∷◌, ◌++◌, append-nil, append_assoc}
use Prim.Native.Nat.{ℕ, ◌+◌, ◌*◌, ◌≤◌}
use native.Mathlib.Omega.{arith}
use lib.Dec.{ltb}
use lib.ListN.{length, length-append}
use borrow.Author.Tests.{ltb-true, lt-ltb}
use Rattle.wire_spec.specs.Anc.{Each}
use Rattle.wire_spec.specs.Result.{Ok, ◌then◌}
use Rattle.wire_spec.proofs.ResultLaws.{accepted-inj, judge-accepts, then-accepts}
use Rattle.sdp_spec.specs.declared.item.Item.{Item}
use Rattle.sdp_spec.specs.declared.item.Item.TheVariants.{DidSdid, VpidCode, Other, Malformed}
use Rattle.sdp_spec.specs.declared.parameters.Parameters.{Parameters}
use Rattle.sdp_spec.specs.Text.{max_pairs}
use Rattle.sdp_spec.specs.Grammar.{pairs_of, codes_of, codes}
use Rattle.sdp_spec.specs.Reading.{add_code, add, gather}

abbrev pub Formed : Item → Type 0
Formed (DidSdid did sdid) = Unit {0}
Formed (VpidCode code) = Unit {0}
Formed Other = Unit {0}
Formed Malformed = ⊥

-- what items have added to parameters
pub record Adds (p : Parameters) (xs : List Item) (q : Parameters) : Type 0 where
  pub formed : Each Formed xs
  pub pairs : 2 * q.pairs ≡ 2 * p.pairs + length (pairs_of xs)
  pub few : q.pairs ≤ max_pairs
  pub vpid : codes q.vpid ≡ codes p.vpid ++ codes_of xs

pub codes-inj : (v w : Option ℕ) → codes v ≡ codes w → v ≡ w
codes-inj (Some a) (Some b) e = let h : a ≡ b = cc in ap Some h
codes-inj (Some a) None e = let h = ap length e in absurd (omega arith)
codes-inj None (Some b) e = let h = ap length e in absurd (omega arith)
codes-inj None None e = refl

codes-few : (v : Option ℕ) → length (codes v) ≤ 1
codes-few (Some a) = omega arith
codes-few None = omega arith

-- ACCEPTED: one item, then all
add-adds : (i : ℕ) (p : Parameters) (x : Item) (q : Parameters) → p.pairs ≤ max_pairs → add i p x ≡ Ok q → Adds p (x ∷ []) q
add-adds i p (DidSdid did sdid) q h e =
    let a = judge-accepts i ((ltb p.pairs max_pairs, 43) ∷ []) (Ok (record { pairs = p.pairs + 1; vpid = p.vpid })) q e in
    let s = accepted-inj a.1 in
    let n : p.pairs + 1 ≡ q.pairs = ap (λ (r : Parameters). r.pairs) s in
    let v : p.vpid ≡ q.vpid = ap (λ (r : Parameters). r.vpid) s in
    let l = ltb-true p.pairs max_pairs a.0.0 in
    record { formed = (tt, tt); pairs = omega arith; few = omega arith; vpid = ap codes (sym v) ∙ sym (append-nil (codes p.vpid)) }
add-adds i p (VpidCode code) q h e = go p.vpid refl e
  where
    go : (v : Option ℕ) → p.vpid ≡ v → add_code i p.pairs v code ≡ Ok q → Adds p (VpidCode code ∷ []) q
    go (Some c) k e = let z : ◌≡◌ {A = ℕ} 0 1 = cc in absurd (omega arith)
    go None k e =
        let s = accepted-inj e in
        let n : p.pairs ≡ q.pairs = ap (λ (r : Parameters). r.pairs) s in
        let v : Some code ≡ q.vpid = ap (λ (r : Parameters). r.vpid) s in
        record { formed = (tt, tt); pairs = omega arith; few = omega arith; vpid = ap codes (sym v) ∙ ap (λ (w : Option ℕ). codes w ++ (code ∷ [])) (sym k) }
add-adds i p Other q h e =
    let s = accepted-inj e in
    let n : p.pairs ≡ q.pairs = ap (λ (r : Parameters). r.pairs) s in
    record { formed = (tt, tt); pairs = omega arith; few = omega arith; vpid = ap (λ (r : Parameters). codes r.vpid) (sym s) ∙ sym (append-nil (codes p.vpid)) }
add-adds i p Malformed q h e = let z : ◌≡◌ {A = ℕ} 0 1 = cc in absurd (omega arith)

-- the pairs of an item, and of the items behind it
pub pairs-cons : (x : Item) (xs : List Item) → pairs_of (x ∷ xs) ≡ pairs_of (x ∷ []) ++ pairs_of xs
pairs-cons (DidSdid did sdid) xs = refl
pairs-cons (VpidCode code) xs = refl
pairs-cons Other xs = refl
pairs-cons Malformed xs = refl

codes-cons : (l : List ℕ) (x : Item) (xs : List Item) → (l ++ codes_of (x ∷ [])) ++ codes_of xs ≡ l ++ codes_of (x ∷ xs)
codes-cons l (DidSdid did sdid) xs = rw (append-nil l)
codes-cons l (VpidCode code) xs = rw (append_assoc l (code ∷ []) (codes_of xs))
codes-cons l Other xs = rw (append-nil l)
codes-cons l Malformed xs = rw (append-nil l)

pub gather-adds : (i : ℕ) (p : Parameters) (xs : List Item) (q : Parameters) → p.pairs ≤ max_pairs → gather i p xs ≡ Ok q → Adds p xs q
unfolding gather
gather-adds i p [] q h e =
    let s = accepted-inj e in
    let n : p.pairs ≡ q.pairs = ap (λ (r : Parameters). r.pairs) s in
    record { formed = tt; pairs = omega arith; few = omega arith; vpid = ap (λ (r : Parameters). codes r.vpid) (sym s) ∙ sym (append-nil (codes p.vpid)) }
gather-adds i p (x ∷ xs) q h e =
    let a = then-accepts (add i p x) _ q e in
    let one = add-adds i p x a.0 h a.1 in
    let more = gather-adds (i + 1) a.0 xs q one.few a.2 in
    record {
      formed = (one.formed.0, more.formed);
      pairs = omega (arith, one.pairs, more.pairs, ap length (pairs-cons x xs), length-append (pairs_of (x ∷ [])) (pairs_of xs));
      few = more.few;
      vpid = more.vpid ∙ ap (λ (l : List ℕ). l ++ codes_of xs) one.vpid ∙ codes-cons (codes p.vpid) x xs;
    }

-- AND BACK
pub adds-gather : (i : ℕ) (p : Parameters) (xs : List Item) (q : Parameters) → Adds p xs q → gather i p xs ≡ Ok q
unfolding gather
adds-gather i p [] q a =
    let n : p.pairs ≡ q.pairs = omega (arith, a.pairs) in
    let v : p.vpid ≡ q.vpid = codes-inj p.vpid q.vpid (sym (a.vpid ∙ append-nil (codes p.vpid))) in
    ap Ok (λ i. record { pairs = n i; vpid = v i })
adds-gather i p (DidSdid did sdid ∷ xs) q a =
    let m = a.pairs in
    rw (lt-ltb p.pairs max_pairs (omega (arith, a.few)))
    (adds-gather (i + 1) (record { pairs = p.pairs + 1; vpid = p.vpid }) xs q
    (record { formed = a.formed.1; pairs = omega (arith, m); few = a.few; vpid = a.vpid }))
adds-gather i p (VpidCode code ∷ xs) q a = go p.vpid refl (adds-gather (i + 1) (record { pairs = p.pairs; vpid = Some code }) xs q)
  where
    go : (v : Option ℕ) → p.vpid ≡ v → (Adds (record { pairs = p.pairs; vpid = Some code }) xs q → gather (i + 1) (record { pairs = p.pairs; vpid = Some code }) xs ≡ Ok q)
        → (add_code i p.pairs v code then λ r. gather (i + 1) r xs) ≡ Ok q
    go (Some c) k ih = let l = ap length (a.vpid ∙ ap (λ (w : Option ℕ). codes w ++ (code ∷ codes_of xs)) k) in let f = codes-few q.vpid in absurd (omega arith)
    go None k ih = ih (record { formed = a.formed.1; pairs = a.pairs; few = a.few; vpid = a.vpid ∙ ap (λ (w : Option ℕ). codes w ++ (code ∷ codes_of xs)) k })
adds-gather i p (Other ∷ xs) q a =
    adds-gather (i + 1) p xs q (record { formed = a.formed.1; pairs = a.pairs; few = a.few; vpid = a.vpid })
adds-gather i p (Malformed ∷ xs) q a = absurd a.formed.0
