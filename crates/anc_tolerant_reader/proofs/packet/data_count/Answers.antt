-- `data_count` gives a packet's Data_Count.
-- The third word from DID on, and what it carries.
use mathlib.Core.Path.{◌≡◌, ap, ◌∙◌}
use Prim.Native.Nat.{ℕ, ◌+◌, ◌*◌, ◌%◌}
use native.Mathlib.Omega.{arith}
use Rattle.wire_spec.specs.Bits.{bits_at}
use Rattle.wire_spec.specs.Words.{word_bits, header_numbers}
use Rattle.wire_spec.specs.Anc.{did_at}
use Rattle.wire_spec.proofs.LayoutLaws.{places}
use Rattle.anc_reader.proofs.PacketLaws.{header-there}
use Rattle.anc_tolerant_reader.proofs.packet.data_count.Goals as goal

pub overflow_add-did_at : goal.overflow_add-did_at
overflow_add-did_at c = omega (arith, c.did_at.ensures, (places c.args.layout).did-near)

pub fetch-requires : goal.fetch-requires
fetch-requires c = let f = header-there c.args.layout c.args.octets.now c.requires in
    record { even = omega (arith, f.even); inside = omega (arith, f.inside); near = omega (arith, f.near) }

pub returns : goal.returns
returns c = let a = c.args in
    let e : c.did_at.result + 2 * word_bits ≡ did_at a.layout + word_bits + word_bits = omega (arith, c.did_at.ensures) in
    ap (λ (x : ℕ). x % header_numbers) (c.fetch.ensures ∙ ap (λ (k : ℕ). bits_at a.octets.now k word_bits) e)
