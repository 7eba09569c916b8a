-- `tally_row` tallies the words from a bit on.
-- By its three rows: to the first word that starts an octet, eight words a turn, and the words that are left.
use Rattle.std.proofs.Common.{◌≡◌, ◌+◌, ◌-◌, ◌*◌, ◌/◌, arith}
use Rattle.wire_row_scan.proofs.ClearLaws.{tallied-rows}
use Rattle.wire_row_scan.proofs.scan.tally_row.Goals as goal

pub returns : goal.returns
returns c = let a = c.args in
    let s = a.octets.now in
    let first = c.words_before_octet-first.result in
    let eights = (a.count - first) / 8 in
    let last = first + 8 * eights in
    let b : 8 * ((a.bit + 10 * first) / 8) ≡ a.bit + 10 * first = omega arith in
    let n : last + (a.count - last) ≡ a.count = omega arith in
    let one = c.join.ensures in
    let two = c.join-2.ensures in
    let front = tallied-rows s a.bit first (8 * eights) {l = c.join.result.low} c.tally_singly-a.ensures (rw b at c.tally_eights-b.ensures) one.0 one.1 in
    rw (← n) (tallied-rows s a.bit last (a.count - last) front c.tally_singly-c.ensures two.0 two.1)
