use Rattle.std.proofs.Common.{◌≡◌, ap, ◌∙◌, subst, List, ℕ, ◌+◌, ◌*◌, ◌/◌, ◌<◌, length, drop, arith}
use lib.ListN.{drop_of_length-le}
use Rattle.text.proofs.PutLaws.{both}
use Rattle.text.proofs.LeftLaws.{Left, left-starts, left_as}
use Rattle.sdp_spec.specs.Writing.{joined, pair_texts}
use Rattle.sdp_writer.specs.Parts.{following}
use Rattle.sdp_writer.proofs.TextLaws.{room-behind, left-put, following-none, pair-room, pair-next}
use Rattle.sdp_writer.proofs.put_pairs.Goals as goal

inside : (k n : ℕ) → k < n / 2 → 2 * k + 1 < n
inside k n h = omega arith

pub loop-k-init : goal.loop-k-init
loop-k-init c = left-starts _ _ c.requires.pairs_in_bounds

pub put_separator-start-requires : goal.put_separator-start-requires
put_separator-start-requires c = let l = c.loop-k in
    omega (arith, pair-room _ _ (inside l.k (length c.args.pairs.now) (omega arith)) _ _ _ _ l.invariant)

pub put_pair-to-requires : goal.put_pair-to-requires
put_pair-to-requires c = let l = c.loop-k in
    room-behind _ (pair-room _ _ (inside l.k (length c.args.pairs.now) (omega arith)) _ _ _ _ l.invariant) c.put_separator-start.ensures

pub loop-k-preserved : goal.loop-k-preserved
loop-k-preserved c = let l = c.loop-k in
    let pairs = c.args.pairs.now in
    let next : 2 * l.k + 2 ≡ 2 * (l.k + 1) = omega arith in
    let to = c.put_pair-to.result in
    let out = c.put_pair-to.new.out in
    subst (λ (i : ℕ). Left (joined (pair_texts pairs)) c.args.out.now (following to (pair_texts (drop i pairs))) out to) next
    (pair-next _ _ (inside l.k (length pairs) (omega arith)) _ _ _ _ l.invariant _ _ (both c.put_separator-start.ensures c.put_pair-to.ensures))

pub shape_of-out : goal.shape_of-out
shape_of-out c = c.loop-k.invariant.long

pub returns : goal.returns
unfolding pair_texts
returns c = let l = c.loop-k in
    let none = drop_of_length-le c.args.pairs.now {i = 2 * l.k} (omega (arith, c.requires.pairs_len)) in
    left-put _ _ _ _
    (left_as _ _ _ _ _ _ (ap (λ (x : List ℕ). following l.to (pair_texts x)) none ∙ following-none l.to) l.invariant)
