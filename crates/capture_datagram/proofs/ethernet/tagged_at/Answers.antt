-- `tagged_at` tells what stands behind the tags.
-- Each return knows the tests before it, in the order of the definition.
use mathlib.Core.Path.{◌≡◌, sym, ◌∙◌, ap}
use mathlib.Core.Bool.{Bool, true, false, not}
use mathlib.Core.List.{List}
use Prim.Native.Nat.{ℕ, ◌+◌, ◌≤◌}
use native.Mathlib.Omega.{arith}
use lib.Dec.{leb}
use lib.ListN.{length, drop, length-drop}
use Rattle.capture_datagram.specs.Link.{is_tag, tagged, typed_in}
use Rattle.capture_datagram.proofs.FieldLaws.{passed, failed, held, beyond-at}
use Rattle.capture_datagram.proofs.LinkLaws.{tags-inside}
use Rattle.capture_datagram.proofs.ethernet.tagged_at.Goals as goal

pub overflow_add-end : goal.overflow_add-end
overflow_add-end c = let header : List ℕ = let a = c.args in drop a.at a.packet.now in
    omega (arith, c.tags_size-size.ensures, tags-inside (header), length-drop c.args.at c.args.packet.now, c.well_formed)

pub returns-then-not-holds : goal.returns-then-not-holds
unfolding tagged
returns-then-not-holds c = rw (← c.tags_size-size.ensures, failed c.holds.ensures (ap not c.if-not-holds.true))

pub returns-then-is_tag : goal.returns-then-is_tag
unfolding tagged
returns-then-is_tag c = let header : List ℕ = let a = c.args in drop a.at a.packet.now in
    let captured : leb (c.tags_size-size.result + 2) (length (header)) ≡ true = passed c.holds.ensures (ap not c.if-not-holds.false) in
    let tag_is : (b : Bool) → c.is_tag.result ≡ b → is_tag c.number-kind.result ≡ b = λ b e. sym c.is_tag.ensures ∙ e in
    rw (← c.tags_size-size.ensures, captured, ← c.number-kind.ensures, tag_is true c.if-is_tag.true)

pub returns : goal.returns
unfolding tagged
returns c = let header : List ℕ = let a = c.args in drop a.at a.packet.now in
    let captured : leb (c.tags_size-size.result + 2) (length (header)) ≡ true = passed c.holds.ensures (ap not c.if-not-holds.false) in
    let tag_is : (b : Bool) → c.is_tag.result ≡ b → is_tag c.number-kind.result ≡ b = λ b e. sym c.is_tag.ensures ∙ e in
    let a = c.args in
    rw (← c.tags_size-size.ensures, captured, ← c.number-kind.ensures, tag_is false c.if-is_tag.false)
    (c.typed_at.ensures ∙ beyond-at (typed_in a.port c.number-kind.result) a.packet.now a.at (c.tags_size-size.result + 2))

pub number-kind-requires : goal.number-kind-requires
number-kind-requires c = let header : List ℕ = let a = c.args in drop a.at a.packet.now in
    let captured : leb (c.tags_size-size.result + 2) (length (header)) ≡ true = passed c.holds.ensures (ap not c.if-not-holds.false) in
    let inside : let a = c.args in a.at + (c.tags_size-size.result + 2) ≤ length a.packet.now = held c.args.packet.now c.args.at (c.tags_size-size.result + 2) c.requires (captured) in
    omega (arith, inside)

pub overflow_add-at : goal.overflow_add-at
overflow_add-at c = let header : List ℕ = let a = c.args in drop a.at a.packet.now in
    let captured : leb (c.tags_size-size.result + 2) (length (header)) ≡ true = passed c.holds.ensures (ap not c.if-not-holds.false) in
    let inside : let a = c.args in a.at + (c.tags_size-size.result + 2) ≤ length a.packet.now = held c.args.packet.now c.args.at (c.tags_size-size.result + 2) c.requires (captured) in
    omega (arith, inside, c.well_formed)

pub typed_at-requires : goal.typed_at-requires
typed_at-requires c = let header : List ℕ = let a = c.args in drop a.at a.packet.now in
    let captured : leb (c.tags_size-size.result + 2) (length (header)) ≡ true = passed c.holds.ensures (ap not c.if-not-holds.false) in
    let inside : let a = c.args in a.at + (c.tags_size-size.result + 2) ≤ length a.packet.now = held c.args.packet.now c.args.at (c.tags_size-size.result + 2) c.requires (captured) in
    inside
