-- ACCEPTANCE BY THE GRAMMAR: a text is accepted exactly where it is a text of well-formed items with at most one VPID code and at most
-- 64 pairs, and has at most 4,096 octets; what is read is then the items' pairs in order and their VPID code.
use mathlib.Core.Path.{◌≡◌, refl, ap, sym, ◌∙◌, subst}
use mathlib.Core.Logic.{◌↔◌}
use mathlib.Core.List.{List, [], ◌∷◌}
use Prim.Native.Nat.{ℕ, ◌*◌, ◌/◌, ◌%◌, ◌≤◌}
use native.Mathlib.Omega.{arith}
use lib.Dec.{leb}
use lib.ListN.{length}
use borrow.Author.Tests.{leb-true, le-leb}
use Rattle.wire_spec.specs.Result.{Ok, ◌then◌}
use Rattle.wire_spec.proofs.ResultLaws.{accepted-inj, judge-accepts, then-accepts}
use Rattle.sdp_spec.specs.declared.item.Item.{Item}
use Rattle.sdp_spec.specs.declared.item.Item.TheVariants.{DidSdid, VpidCode, Other, Malformed}
use Rattle.sdp_spec.specs.declared.parameters.Parameters.{Parameters}
use Rattle.sdp_spec.specs.Text.{max_text, max_pairs}
use Rattle.sdp_spec.specs.Grammar.{Content, pairs_of, codes, Says}
use Rattle.sdp_spec.specs.Reading.{items, gather, none, read_text, read_into}
use Rattle.sdp_spec.proofs.GatherIff.{Adds, gather-adds, adds-gather}
use Rattle.sdp_spec.proofs.TextIff.{items-text, text-items, texts-formed}

-- pairs have two octets each
pub pairs-even : (xs : List Item) → length (pairs_of xs) % 2 ≡ 0
pairs-even [] = refl
pairs-even (DidSdid did sdid ∷ xs) = let h = pairs-even xs in omega arith
pairs-even (VpidCode code ∷ xs) = pairs-even xs
pairs-even (Other ∷ xs) = pairs-even xs
pairs-even (Malformed ∷ xs) = pairs-even xs

accepted-says : (s : List ℕ) (k : Content) → read_text s ≡ Ok k → Says s k
unfolding read_text
accepted-says s k e =
    let a = judge-accepts 0 ((leb (length s) max_text, 40) ∷ []) (gather 0 none (items s) then λ p. Ok (record { pairs = pairs_of (items s); vpid = p.vpid })) k e in
    let b = then-accepts (gather 0 none (items s)) _ k a.1 in
    let q = accepted-inj b.2 in
    let d = gather-adds 0 none (items s) b.0 (omega arith) b.1 in
    let p : pairs_of (items s) ≡ k.pairs = ap (λ (k : Content). k.pairs) q in
    record {
      items = items s;
      text = items-text s (items s) refl d.formed;
      pairs = p;
      vpid = sym d.vpid ∙ ap (λ (k : Content). codes k.vpid) q;
      few = subst (λ (l : List ℕ). length l ≤ 2 * max_pairs) p (let m = d.pairs in omega (arith, d.few));
      short = leb-true (length s) max_text a.0.0;
    }

says-accepted : (s : List ℕ) (k : Content) → Says s k → read_text s ≡ Ok k
unfolding read_text
says-accepted s k t =
    let xs = t.items in
    let e : items s ≡ xs = text-items xs s t.text in
    let p : Parameters = record { pairs = length (pairs_of xs) / 2; vpid = k.vpid } in
    let n : length (pairs_of xs) ≤ 2 * max_pairs = subst (λ (l : List ℕ). length l ≤ 2 * max_pairs) (sym t.pairs) t.few in
    let m = pairs-even xs in
    let adds : Adds none xs p = record { formed = texts-formed xs s t.text; pairs = omega arith; few = omega arith; vpid = sym t.vpid } in
    let g : gather 0 none (items s) ≡ Ok p = ap (gather 0 none) e ∙ adds-gather 0 none xs p adds in
    rw (le-leb (length s) max_text t.short, g)
    (ap (λ (l : List ℕ). Ok (record { pairs = l; vpid = k.vpid })) (ap pairs_of e ∙ t.pairs))

pub accepts-iff : (s : List ℕ) (k : Content) → (read_text s ≡ Ok k) ↔ Says s k
accepts-iff s k = (accepted-says s k, says-accepted s k)

-- with room for the pairs, what is accepted is the answer
pub room-iff : (s : List ℕ) (room : ℕ) (k : Content) → (read_into s room ≡ Ok k) ↔ (Says s k × (length k.pairs ≤ room))
unfolding read_into
room-iff s room k = (
  λ e.
      let a = then-accepts (read_text s) _ k e in
      let b = judge-accepts 0 ((leb (length a.0.pairs) room, 44) ∷ []) (Ok a.0) k a.2 in
      let q = accepted-inj b.1 in
      (accepted-says s k (a.1 ∙ ap Ok q), subst (λ (k : Content). length k.pairs ≤ room) q (leb-true (length a.0.pairs) room b.0.0)),
  λ p. rw (says-accepted s k p.0, le-leb (length k.pairs) room p.1),
)
