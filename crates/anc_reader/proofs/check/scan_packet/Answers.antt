-- `scan_packet` tells of DID, SDID and Data_Count and the user data words.
-- One row or two.
use mathlib.Core.Path.{ap, subst, ◌∙◌}
use mathlib.Core.List.{List}
use Prim.Native.Nat.{ℕ}
use native.Mathlib.Omega.{arith}
use Rattle.wire_spec.specs.Bits.{row_at}
use Rattle.wire_spec.specs.Layout.{draft2015}
use Rattle.wire_spec.specs.Words.{word_bits}
use Rattle.wire_spec.specs.Anc.{did_at, words_at}
use Rattle.wire_row_scan.specs.Clear.{Scanned}
use Rattle.wire_row_scan.proofs.ClearLaws.{scanned-both}
use Rattle.anc_reader.proofs.PacketLaws.{no_words, one-row}
use Rattle.anc_reader.proofs.check.scan_packet.Goals as goal

pub returns-then-n-eq0 : goal.returns-then-n-eq0
returns-then-n-eq0 c = let a = c.args in
    let s = a.octets.now in
    subst (λ (ws : List ℕ). Scanned ws c.scan_singly.result.sum c.scan_singly.result.clear)
    (ap (λ (at : ℕ). row_at word_bits s at 3) c.did_at.ensures ∙ no_words s (did_at a.layout) (words_at a.layout) a.n c.if-n-eq0.true)
    c.scan_singly.ensures

pub scan_words-requires : goal.scan_words-requires
scan_words-requires c = let p = rw c.in-Rfc8331.is at c.requires in
    record { even = omega arith; inside = omega arith; near = omega arith }

pub scan_singly-head-requires : goal.scan_singly-head-requires
scan_singly-head-requires c = (rw c.in-Draft2015.is at c.requires).0

pub scan_singly-words-requires : goal.scan_singly-words-requires
scan_singly-words-requires c = (rw c.in-Draft2015.is at c.requires).1

pub returns-in-Rfc8331 : goal.returns-in-Rfc8331
returns-in-Rfc8331 c = let a = c.args in
    rw c.in-Rfc8331.is
    (subst (λ (ws : List ℕ). Scanned ws c.scan_words.result.sum c.scan_words.result.clear) (one-row a.octets.now 32 62 a.n (omega arith)) c.scan_words.ensures)

pub returns-in-Draft2015 : goal.returns-in-Draft2015
returns-in-Draft2015 c = let a = c.args in
    let s = a.octets.now in
    rw c.in-Draft2015.is
    (scanned-both (row_at word_bits s (did_at draft2015) 3) (row_at word_bits s (words_at draft2015) a.n) c.scan_singly-head.ensures c.scan_singly-words.ensures
    c.both.ensures.0 c.both.ensures.1)
