-- `check_padding` gives 4 or 5, or the payload's octets.
-- Each return knows the tests before it, in the order of the definition.
use Rattle.wire_spec.specs.Result.{Ok}
use mathlib.Core.Path.{◌≡◌, ap₂, subst₂, subst₃}
use mathlib.Core.Bool.{true, false}
use Prim.Native.Nat.{ℕ, ◌-◌, ◌<◌, ◌≤◌}
use borrow.Author.Tests.{le-leb, lt-leb}
use lib.Dec.{leb}
use lib.ListN.{length}
use Rattle.wire_spec.specs.Layout.{payload_header_size}
use Rattle.wire_spec.specs.Packet.{header_size, padding_flag, padding_count, payload_size, padding_checks}
use Rattle.rtp_strict_reader.proofs.stages.check_padding.Goals as goal

pub returns-then-padding-padding_flag : goal.returns-then-padding-padding_flag
unfolding padding_checks
returns-then-padding-padding_flag c = let a = c.args in
    let s = a.octets.now in
    let n : c.padding_count-padding.result.0 ≡ padding_count s = c.padding_count-padding.ensures in
    let flag : c.padding_flag.result ≡ padding_flag s = c.padding_flag.ensures in
    let h1 : leb (padding_flag s) (padding_count s) ≡ false = lt-leb _ _ (subst₂ ◌<◌ n flag c.if-padding-padding_flag.true) in
    rw (c.refuse.ensures, h1)

pub returns-then-after-padding : goal.returns-then-after-padding
unfolding padding_checks
returns-then-after-padding c = let a = c.args in
    let s = a.octets.now in
    let n : c.padding_count-padding.result.0 ≡ padding_count s = c.padding_count-padding.ensures in
    let flag : c.padding_flag.result ≡ padding_flag s = c.padding_flag.ensures in
    let h1 : leb (padding_flag s) (padding_count s) ≡ true = le-leb _ _ (subst₂ ◌≤◌ flag n c.if-padding-padding_flag.false) in
    let h2 : leb (padding_count s) (length s - header_size s) ≡ false = lt-leb _ _ (subst₂ (λ (x y : ℕ). length s - x < y) c.requires.0 n c.if-after-padding.true) in
    rw (c.refuse-then-after-padding.ensures, h1, h2)

pub returns-then-after-padding-2 : goal.returns-then-after-padding-2
unfolding padding_checks
returns-then-after-padding-2 c = let a = c.args in
    let s = a.octets.now in
    let n : c.padding_count-padding.result.0 ≡ padding_count s = c.padding_count-padding.ensures in
    let flag : c.padding_flag.result ≡ padding_flag s = c.padding_flag.ensures in
    let h1 : leb (padding_flag s) (padding_count s) ≡ true = le-leb _ _ (subst₂ ◌≤◌ flag n c.if-padding-padding_flag.false) in
    let h2 : leb (padding_count s) (length s - header_size s) ≡ true = le-leb _ _ (subst₂ (λ (x y : ℕ). y ≤ length s - x) c.requires.0 n c.if-after-padding.false) in
    let h3 : leb (payload_header_size c.args.layout) (payload_size s) ≡ false = lt-leb _ _ (subst₃ (λ (x y z : ℕ). length s - x - y < z) c.requires.0 n c.payload_header_size.ensures c.if-after-padding-2.true) in
    rw (c.refuse-then-after-padding-2.ensures, h1, h2, h3)

pub returns : goal.returns
unfolding padding_checks
returns c = let a = c.args in
    let s = a.octets.now in
    let n : c.padding_count-padding.result.0 ≡ padding_count s = c.padding_count-padding.ensures in
    let flag : c.padding_flag.result ≡ padding_flag s = c.padding_flag.ensures in
    let h1 : leb (padding_flag s) (padding_count s) ≡ true = le-leb _ _ (subst₂ ◌≤◌ flag n c.if-padding-padding_flag.false) in
    let h2 : leb (padding_count s) (length s - header_size s) ≡ true = le-leb _ _ (subst₂ (λ (x y : ℕ). y ≤ length s - x) c.requires.0 n c.if-after-padding.false) in
    let h3 : leb (payload_header_size c.args.layout) (payload_size s) ≡ true = le-leb _ _ (subst₃ (λ (x y z : ℕ). z ≤ length s - x - y) c.requires.0 n c.payload_header_size.ensures c.if-after-padding-2.false) in
    rw (h1, h2, h3) (ap₂ (λ (x y : ℕ). Ok (record { 0 = length s - x - y })) c.requires.0 n)
