-- `write_front` writes the packed headers to the first octets, and no other octet.
-- F and the reserved bits stand behind what both layouts have: one store after the other is one store of both.
use mathlib.Core.Path.{◌≡◌, ap, sym, ◌∙◌}
use mathlib.Core.List.{List}
use Prim.Native.Nat.{ℕ, ◌+◌, zero-le}
use native.Mathlib.Omega.{arith}
use lib.ListN.{length}
use Rattle.wire_spec.specs.Bits.{overwrite, pack, splice}
use Rattle.wire_spec.specs.Layout.{draft2015}
use Rattle.wire_spec.proofs.ListLaws.{splice-append}
use Rattle.rtp_writer.specs.Front.{front_fields, f_fields}
use Rattle.rtp_writer.proofs.FrontLaws.{front_length, front-then}
use Rattle.rtp_writer.proofs.writing.write_front.Goals as goal

pub returns : goal.returns
returns c = let a = c.args in
    let h = a.head in
    let o = a.octets.now in
    let first = pack (front_fields draft2015 h a.count a.size.0) in
    let last = pack (f_fields a.layout h.f) in
    let here : 17 ≡ 0 + length first = omega (arith, front_length draft2015 h a.count a.size.0) in
    c.write_f.ensures
    ∙ (λ i. splice ((c.copy.ensures ∙ ap (λ (x : List ℕ). overwrite x o) c.front-front.ensures) i) (here i) last)
    ∙ splice-append o 0 first last zero-le
    ∙ ap (λ (x : List ℕ). overwrite x o) (sym (front-then a.layout h a.count a.size.0))
