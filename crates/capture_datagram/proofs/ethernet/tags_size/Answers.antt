use mathlib.Core.Path.{◌≡◌, ap, sym, ◌∙◌}
use mathlib.Core.Bool.{true}
use mathlib.Core.List.{List}
use Prim.Native.Nat.{ℕ, ◌+◌, ◌≤◌}
use native.Mathlib.Omega.{arith}
use lib.ListN.{length, drop, length-drop}
use lib.Seq.{drop-drop}
use Rattle.capture_datagram.specs.Link.{has_tag, tag_octets}
use Rattle.capture_datagram.proofs.LinkLaws.{tag-inside, tag-next, tag-none}
use Rattle.capture_datagram.proofs.ethernet.tags_size.Goals as goal

pub loop-size-init : goal.loop-size-init
loop-size-init c = let a = c.args in
    let e : a.at + 0 ≡ a.at = omega arith in
    (omega (arith, c.requires), ap (λ (n : ℕ). 0 + tag_octets (drop n a.packet.now)) e ∙ omega arith)

pub loop-size-preserved : goal.loop-size-preserved
loop-size-preserved c = let tag : let a = c.args in has_tag (drop (a.at + c.loop-size.size) a.packet.now) ≡ true = sym c.has_tag.ensures ∙ c.loop-size-test.true in
    let inside : let a = c.args in a.at + (c.loop-size.size + 4) ≤ length a.packet.now = let a = c.args in
    omega (arith, tag-inside _ (tag), length-drop (a.at + c.loop-size.size) a.packet.now, c.loop-size.invariant.0) in
    let a = c.args in
    let s = a.packet.now in
    let n = c.loop-size.size in
    let d = drop-drop 4 (a.at + n) s in
    let t = tag-next (drop (a.at + n) s) (tag) in
    let e : a.at + n + 4 ≡ a.at + (n + 4) = omega arith in
    let f : tag_octets (drop (a.at + n) s) ≡ 4 + tag_octets (drop (a.at + (n + 4)) s) =
    t ∙ ap (λ (x : List ℕ). 4 + tag_octets x) (d ∙ ap (λ (k : ℕ). drop k s) e) in
    (inside, omega (arith, f, c.loop-size.invariant.1))

pub returns : goal.returns
returns c = omega (arith, tag-none _ (sym c.has_tag.ensures ∙ c.loop-size-test.false), c.loop-size.invariant.1)

pub overflow_add-at : goal.overflow_add-at
overflow_add-at c = omega (arith, c.loop-size.invariant.0)

pub has_tag-requires : goal.has_tag-requires
has_tag-requires c = c.loop-size.invariant.0

pub overflow_add-size : goal.overflow_add-size
overflow_add-size c = let tag : let a = c.args in has_tag (drop (a.at + c.loop-size.size) a.packet.now) ≡ true = sym c.has_tag.ensures ∙ c.loop-size-test.true in
    let inside : let a = c.args in a.at + (c.loop-size.size + 4) ≤ length a.packet.now = let a = c.args in
    omega (arith, tag-inside _ (tag), length-drop (a.at + c.loop-size.size) a.packet.now, c.loop-size.invariant.0) in
    omega (arith, inside)

pub loop-size-smaller : goal.loop-size-smaller
loop-size-smaller c = let tag : let a = c.args in has_tag (drop (a.at + c.loop-size.size) a.packet.now) ≡ true = sym c.has_tag.ensures ∙ c.loop-size-test.true in
    let inside : let a = c.args in a.at + (c.loop-size.size + 4) ≤ length a.packet.now = let a = c.args in
    omega (arith, tag-inside _ (tag), length-drop (a.at + c.loop-size.size) a.packet.now, c.loop-size.invariant.0) in
    omega (arith, inside)
