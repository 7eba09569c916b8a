-- When a record is wanted, in other words than the definition's: by its entries; of Type 1 by the DIDs alone; of Type 2 by the pair itself.
-- By the entries from left to right.
use mathlib.Core.Path.{◌≡◌, refl, ap, ap₂, sym, ◌∙◌, subst}
use mathlib.Core.Bool.{Bool, true, false, ◌&&◌, ◌||◌}
use mathlib.Core.Logic.{◌↔◌, ◌⊎◌, inl, inr, ⊎_elim}
use mathlib.Core.List.Memᴰ
use mathlib.Core.List.{List, [], ◌∷◌, Memᴰ}
use Prim.Native.Nat.{ℕ, ◌<◌, ◌≤◌}
use native.Mathlib.Omega.{arith}
use borrow.Author.Tests.{eqb-true, leb-true, eq-eqb, le-leb, lt-leb}
use lib.Dec.{eqb, leb, eqb-suc-zero}
use lib.ListN.{length}
use Rattle.anc_filter.specs.declared.DidSdid.{DidSdid}
use Rattle.anc_filter.specs.Wanted.{type1_from, is_type1, matching, matching_pair, any_of, wanted_of, dids_of}

-- an entry of the row that the record matches
pub record Matches (did sdid : ℕ) (row : List DidSdid) : Type 0 where
  pub entry : DidSdid
  pub listed : Memᴰ entry row
  pub same-did : entry.did ≡ did
  pub second : (type1_from ≤ did) ⊎ (entry.sdid ≡ sdid)

both : (a b : Bool) → a && b ≡ true → (a ≡ true) × (b ≡ true)
both true b e = (refl, e)
both false b e = let z : ◌≡◌ {A = ℕ} 0 1 = cc in absurd (omega arith)

either : (a b : Bool) → a || b ≡ true → (a ≡ true) ⊎ (b ≡ true)
either true b e = inl refl
either false b e = inr e

or_right : (a b : Bool) → b ≡ true → a || b ≡ true
or_right true b e = refl
or_right false b e = e

-- one entry
matching-iff : (did sdid : ℕ) (p : DidSdid) → (matching_pair did sdid p ≡ true) ↔ ((p.did ≡ did) × ((type1_from ≤ did) ⊎ (p.sdid ≡ sdid)))
unfolding matching
matching-iff did sdid p = (
  λ e.
      let h = both (eqb p.did did) (is_type1 did || eqb p.sdid sdid) e in
      (eqb-true p.did did h.0, ⊎_elim (λ t. inl (leb-true type1_from did t)) (λ t. inr (eqb-true p.sdid sdid t)) (either (is_type1 did) (eqb p.sdid sdid) h.1)),
  λ h.
      rw (eq-eqb p.did did h.0)
      (⊎_elim (λ l. rw (le-leb type1_from did l)) (λ s. or_right (is_type1 did) (eqb p.sdid sdid) (eq-eqb p.sdid sdid s)) h.1),
)

any-iff : (did sdid : ℕ) (row : List DidSdid) → (any_of did sdid row ≡ true) ↔ Matches did sdid row
unfolding any_of
any-iff did sdid [] = (λ e. let z : ◌≡◌ {A = ℕ} 0 1 = cc in absurd (omega arith), λ h. absurd (Memᴰ.not-nil h.listed))
any-iff did sdid (p ∷ row) = (
  λ e.
      ⊎_elim
      (λ t. let m = (matching-iff did sdid p).0 t in record { entry = p; listed = Memᴰ.head refl; same-did = m.0; second = m.1 })
      (λ t. let r = (any-iff did sdid row).0 t in record { entry = r.entry; listed = Memᴰ.tail r.listed; same-did = r.same-did; second = r.second })
      (either (matching_pair did sdid p) (any_of did sdid row) e),
  λ h.
      ⊎_elim
      (λ (i : h.entry ≡ p). ap (λ (t : Bool). t || any_of did sdid row) ((matching-iff did sdid p).1 (ap (λ (y : DidSdid). y.did) (sym i) ∙ h.same-did, ⊎_elim (λ l. inl l) (λ s. inr (ap (λ (y : DidSdid). y.sdid) (sym i) ∙ s)) h.second)))
      (λ (m : Memᴰ h.entry row). or_right (matching_pair did sdid p) (any_of did sdid row) ((any-iff did sdid row).1 record { entry = h.entry; listed = m; same-did = h.same-did; second = h.second }))
      (Memᴰ.cases_cons h.listed),
)

-- "a record is wanted if the row is empty or both its DID and SDID match an entry"; "A Type 1 record is wanted when the DID matches"
pub wanted-iff : (did sdid : ℕ) (row : List DidSdid) → (wanted_of did sdid row ≡ true) ↔ ((row ≡ []) ⊎ Matches did sdid row)
unfolding any_of
wanted-iff did sdid [] = (λ e. inl refl, λ h. refl)
wanted-iff did sdid (p ∷ row) =
    let some : eqb (length (p ∷ row)) 0 ≡ false = eqb-suc-zero (length row) in
    let i = any-iff did sdid (p ∷ row) in (
      λ e. inr (i.0 (rw some at e)),
      λ h. rw some (⊎_elim (λ n. let z : length (p ∷ row) ≡ 0 = ap length n in absurd (omega arith)) (λ m. i.1 m) h),
    )

-- ".., whichever second number either side has.": of Type 1 the answer goes by the DIDs alone
module _ (did : ℕ) (type1 : type1_from ≤ did) where
  any-dids : (s s' : ℕ) (row row' : List DidSdid) → dids_of row ≡ dids_of row' → any_of did s row ≡ any_of did s' row'
  unfolding any_of matching
  any-dids s s' [] [] e = refl
  any-dids s s' [] (q ∷ row') e = let z : ◌≡◌ {A = ℕ} 0 1 = cc in absurd (omega arith)
  any-dids s s' (p ∷ row) [] e = let z : ◌≡◌ {A = ℕ} 0 1 = cc in absurd (omega arith)
  any-dids s s' (p ∷ row) (q ∷ row') e =
      let first : p.did ≡ q.did = cc in
      let others : dids_of row ≡ dids_of row' = cc in
      rw (le-leb type1_from did type1) (ap₂ (λ (x : ℕ) (t : Bool). (eqb x did && true) || t) first (any-dids s s' row row' others))

  same_length : (row row' : List DidSdid) → dids_of row ≡ dids_of row' → eqb (length row) 0 ≡ eqb (length row') 0
  same_length [] [] e = refl
  same_length [] (q ∷ row') e = let z : ◌≡◌ {A = ℕ} 0 1 = cc in absurd (omega arith)
  same_length (p ∷ row) [] e = let z : ◌≡◌ {A = ℕ} 0 1 = cc in absurd (omega arith)
  same_length (p ∷ row) (q ∷ row') e = eqb-suc-zero (length row) ∙ sym (eqb-suc-zero (length row'))

  pub type-1-by-did : (s s' : ℕ) (row row' : List DidSdid) → dids_of row ≡ dids_of row' → wanted_of did s row ≡ wanted_of did s' row'
  type-1-by-did s s' row row' e = ap₂ ◌||◌ (same_length row row' e) (any-dids s s' row row' e)

-- below 0x80 nothing has changed: the pair itself must be listed
pub type-2-by-both : (did sdid : ℕ) (row : List DidSdid) → did < type1_from
    → (wanted_of did sdid row ≡ true) ↔ ((row ≡ []) ⊎ Memᴰ (record { did = did; sdid = sdid }) row)
type-2-by-both did sdid row l = (
  λ e. ⊎_elim (λ n. inl n) (λ m. inr (as-pair m)) ((wanted-iff did sdid row).0 e),
  λ h. (wanted-iff did sdid row).1 (⊎_elim (λ n. inl n) (λ m. inr record { entry = record { did = did; sdid = sdid }; listed = m; same-did = refl; second = inr refl }) h),
)
  where
    as-pair : Matches did sdid row → Memᴰ (record { did = did; sdid = sdid }) row
    as-pair m =
        let s : m.entry.sdid ≡ sdid = ⊎_elim (λ t. absurd (omega arith)) (λ s. s) m.second in
        let same : m.entry ≡ record { did = did; sdid = sdid } = λ i. record { did = m.same-did i; sdid = s i } in
        subst (λ (y : DidSdid). Memᴰ y row) same m.listed
