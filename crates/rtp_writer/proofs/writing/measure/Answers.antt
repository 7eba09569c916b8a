-- `measure` gives 24, 20, 16, 21, 25 or 23, or the records and octets of a packet that fits.
-- Each return knows the checks before it, in the order of the definition.
use mathlib.Core.Path.{◌≡◌, ap, sym, ◌∙◌}
use mathlib.Core.Bool.{true, false}
use mathlib.Core.List.{[], ◌∷◌}
use Prim.Native.Nat.{ℕ, ◌+◌}
use lib.Dec.{leb}
use lib.ListN.{take, get_or}
use Rattle.wire_spec.specs.Cells.{read_list}
use Rattle.wire_spec.specs.Result.{Checks, Ok, Err}
use Rattle.wire_spec.specs.Writing.{head_ok, packet_records}
use Rattle.wire_spec.proofs.ResultLaws.{Passed}
use Rattle.anc_writer.specs.Answers.{listed_of}
use Rattle.anc_writer.proofs.ListedLaws.{measured-is, unmeasured}
use Rattle.rtp_writer.specs.Answers.{content_of}
use Rattle.rtp_writer.specs.Front.{front_size}
use Rattle.rtp_writer.proofs.WriteLaws.{tests, refused-head, refused-list, accepts, limit, all_fit}
use Rattle.rtp_writer.proofs.writing.measure.Goals as goal

pub returns-then-not-head_ok : goal.returns-then-not-head_ok
returns-then-not-head_ok c = let a = c.args in
    c.refuse.ensures ∙ sym (ap (listed_of a.layout) (refused-head a.layout a.head a.cells.now a.room (sym c.head_ok.ensures ∙ c.if-not-head_ok.true)))

pub returns-in_default : goal.returns-in_default
returns-in_default c = let head_passed : head_ok c.args.head.payload_type c.args.head.f ≡ true = sym c.head_ok.ensures ∙ c.if-not-head_ok.false in
    let a = c.args in
    let u = unmeasured _ (sym c.measure_list.ensures ∙ c.in_default.is) in
    c.check_list.ensures ∙ u.is ∙ sym (ap (listed_of a.layout) (refused-list a.layout a.head a.cells.now a.room (head_passed) _ u.is))

pub layout_ok-held-requires : goal.layout_ok-held-requires
layout_ok-held-requires c = let head_passed : head_ok c.args.head.payload_type c.args.head.f ≡ true = sym c.head_ok.ensures ∙ c.if-not-head_ok.false in
    let list-passed : listed_of c.args.layout (read_list c.args.cells.now) ≡ Ok c.in-Some.listed = measured-is _ _ _ (sym c.measure_list.ensures ∙ c.in-Some.is) in
    accepts c.args.layout c.args.head c.args.cells.now c.args.room (head_passed) _ _ (list-passed)

pub returns-then-not-within : goal.returns-then-not-within
returns-then-not-within c = let outcomes : Checks = (c.within_limits-within.result, 21) ∷ (c.layout_ok-held.result, 25) ∷ (c.fits_behind-enough.result, 23) ∷ [] in
    let head_passed : head_ok c.args.head.payload_type c.args.head.f ≡ true = sym c.head_ok.ensures ∙ c.if-not-head_ok.false in
    let list-passed : listed_of c.args.layout (read_list c.args.cells.now) ≡ Ok c.in-Some.listed = measured-is _ _ _ (sym c.measure_list.ensures ∙ c.in-Some.is) in
    let outcomes-are : outcomes ≡ tests c.args.layout c.args.head c.args.cells.now c.args.room c.in-Some.listed.count c.in-Some.listed.octets.0 = let behind : (most : ℕ) → leb (c.front_size-front.result + c.in-Some.listed.octets.0) most ≡ leb (front_size c.args.layout + c.in-Some.listed.octets.0) most =
    λ most. ap (λ (x : ℕ). leb (x + c.in-Some.listed.octets.0) most) c.front_size-front.ensures in
    λ i.
    (c.within_limits-within.ensures i, 21)
    ∷ (c.layout_ok-held.ensures i, 25)
    ∷ ((c.fits_behind-enough.ensures ∙ behind c.args.room) i, 23)
    ∷ [] in
    let failed : (k : ℕ) → Passed (take k (outcomes)) → (get_or (outcomes) k (true, 0)).0 ≡ false → Err (record { number = (get_or (outcomes) k (true, 0)).1; index = 0 }) ≡ listed_of c.args.layout (packet_records c.args.layout (content_of c.args.head) c.args.cells.now c.args.room) = λ k p e. let a = c.args in
    sym (ap (listed_of a.layout) (limit a.layout a.head a.cells.now a.room (head_passed) _ _ (list-passed) (outcomes) (outcomes-are) k p e)) in
    c.refuse-then-not-within.ensures ∙ failed 0 tt (c.if-not-within.true)

pub returns-then-not-held : goal.returns-then-not-held
returns-then-not-held c = let outcomes : Checks = (c.within_limits-within.result, 21) ∷ (c.layout_ok-held.result, 25) ∷ (c.fits_behind-enough.result, 23) ∷ [] in
    let head_passed : head_ok c.args.head.payload_type c.args.head.f ≡ true = sym c.head_ok.ensures ∙ c.if-not-head_ok.false in
    let list-passed : listed_of c.args.layout (read_list c.args.cells.now) ≡ Ok c.in-Some.listed = measured-is _ _ _ (sym c.measure_list.ensures ∙ c.in-Some.is) in
    let outcomes-are : outcomes ≡ tests c.args.layout c.args.head c.args.cells.now c.args.room c.in-Some.listed.count c.in-Some.listed.octets.0 = let behind : (most : ℕ) → leb (c.front_size-front.result + c.in-Some.listed.octets.0) most ≡ leb (front_size c.args.layout + c.in-Some.listed.octets.0) most =
    λ most. ap (λ (x : ℕ). leb (x + c.in-Some.listed.octets.0) most) c.front_size-front.ensures in
    λ i.
    (c.within_limits-within.ensures i, 21)
    ∷ (c.layout_ok-held.ensures i, 25)
    ∷ ((c.fits_behind-enough.ensures ∙ behind c.args.room) i, 23)
    ∷ [] in
    let failed : (k : ℕ) → Passed (take k (outcomes)) → (get_or (outcomes) k (true, 0)).0 ≡ false → Err (record { number = (get_or (outcomes) k (true, 0)).1; index = 0 }) ≡ listed_of c.args.layout (packet_records c.args.layout (content_of c.args.head) c.args.cells.now c.args.room) = λ k p e. let a = c.args in
    sym (ap (listed_of a.layout) (limit a.layout a.head a.cells.now a.room (head_passed) _ _ (list-passed) (outcomes) (outcomes-are) k p e)) in
    c.refuse-then-not-held.ensures ∙ failed 1 (c.if-not-within.false, tt) (c.if-not-held.true)

pub returns-then-not-enough : goal.returns-then-not-enough
returns-then-not-enough c = let outcomes : Checks = (c.within_limits-within.result, 21) ∷ (c.layout_ok-held.result, 25) ∷ (c.fits_behind-enough.result, 23) ∷ [] in
    let head_passed : head_ok c.args.head.payload_type c.args.head.f ≡ true = sym c.head_ok.ensures ∙ c.if-not-head_ok.false in
    let list-passed : listed_of c.args.layout (read_list c.args.cells.now) ≡ Ok c.in-Some.listed = measured-is _ _ _ (sym c.measure_list.ensures ∙ c.in-Some.is) in
    let outcomes-are : outcomes ≡ tests c.args.layout c.args.head c.args.cells.now c.args.room c.in-Some.listed.count c.in-Some.listed.octets.0 = let behind : (most : ℕ) → leb (c.front_size-front.result + c.in-Some.listed.octets.0) most ≡ leb (front_size c.args.layout + c.in-Some.listed.octets.0) most =
    λ most. ap (λ (x : ℕ). leb (x + c.in-Some.listed.octets.0) most) c.front_size-front.ensures in
    λ i.
    (c.within_limits-within.ensures i, 21)
    ∷ (c.layout_ok-held.ensures i, 25)
    ∷ ((c.fits_behind-enough.ensures ∙ behind c.args.room) i, 23)
    ∷ [] in
    let failed : (k : ℕ) → Passed (take k (outcomes)) → (get_or (outcomes) k (true, 0)).0 ≡ false → Err (record { number = (get_or (outcomes) k (true, 0)).1; index = 0 }) ≡ listed_of c.args.layout (packet_records c.args.layout (content_of c.args.head) c.args.cells.now c.args.room) = λ k p e. let a = c.args in
    sym (ap (listed_of a.layout) (limit a.layout a.head a.cells.now a.room (head_passed) _ _ (list-passed) (outcomes) (outcomes-are) k p e)) in
    c.refuse-then-not-enough.ensures ∙ failed 2 (c.if-not-within.false, (c.if-not-held.false, tt)) (c.if-not-enough.true)

pub returns : goal.returns
returns c = let outcomes : Checks = (c.within_limits-within.result, 21) ∷ (c.layout_ok-held.result, 25) ∷ (c.fits_behind-enough.result, 23) ∷ [] in
    let head_passed : head_ok c.args.head.payload_type c.args.head.f ≡ true = sym c.head_ok.ensures ∙ c.if-not-head_ok.false in
    let list-passed : listed_of c.args.layout (read_list c.args.cells.now) ≡ Ok c.in-Some.listed = measured-is _ _ _ (sym c.measure_list.ensures ∙ c.in-Some.is) in
    let outcomes-are : outcomes ≡ tests c.args.layout c.args.head c.args.cells.now c.args.room c.in-Some.listed.count c.in-Some.listed.octets.0 = let behind : (most : ℕ) → leb (c.front_size-front.result + c.in-Some.listed.octets.0) most ≡ leb (front_size c.args.layout + c.in-Some.listed.octets.0) most =
    λ most. ap (λ (x : ℕ). leb (x + c.in-Some.listed.octets.0) most) c.front_size-front.ensures in
    λ i.
    (c.within_limits-within.ensures i, 21)
    ∷ (c.layout_ok-held.ensures i, 25)
    ∷ ((c.fits_behind-enough.ensures ∙ behind c.args.room) i, 23)
    ∷ [] in
    let a = c.args in
    sym (all_fit a.layout a.head a.cells.now a.room (head_passed) _ _ (list-passed) _ (outcomes-are)
    (c.if-not-within.false, (c.if-not-held.false, (c.if-not-enough.false, tt))))
