-- 22 cannot be given, in either layout (02, K7): the writer with the test of 22 in its place answers as the writer without it, whatever it is given.
-- What passes 21 fits a packet, so the test passes wherever it is reached.
use mathlib.Core.Path.{◌≡◌, refl, ap}
use mathlib.Core.Bool.{Bool, true, false, ◌&&◌}
use mathlib.Core.List.{List}
use Prim.Native.Nat.{ℕ}
use native.Mathlib.Omega.{arith}
use lib.Dec.{leb}
use lib.ListN.{length}
use borrow.Author.Tests.{leb-true, le-leb}
use Rattle.wire_spec.specs.Layout.{Layout}
use Rattle.wire_spec.specs.Result.{Result, Err, Ok, judge, ◌then◌}
use Rattle.wire_spec.specs.Anc.{Record}
use Rattle.wire_spec.specs.Cells.{Lists, read_list}
use Rattle.wire_spec.specs.Packet.{max_packet, Content}
use Rattle.wire_spec.specs.Writing.{max_records, max_cells, content_octets, with_records, head_checks, limit_checks, limit_checks22, write_content, write_content22}
use Rattle.wire_spec.proofs.ResultLaws.{and-true}
use Rattle.wire_spec.proofs.CellLaws.{list-iff, lists_length}
use Rattle.wire_spec.proofs.Demand2.{fits-packet}

module _ (L : Layout) (k : Content) (cells : List ℕ) (room : ℕ) where
  -- the limits of the list's records, with the test of 22 and without it
  with-22 : List Record → Result (List Record)
  with-22 rs = judge 0 (limit_checks22 L (with_records k rs) (length cells) room) (Ok rs)

  without : List Record → Result (List Record)
  without rs = judge 0 (limit_checks L (with_records k rs) (length cells) room) (Ok rs)

  alike : (rs : List Record) → Lists rs cells → with-22 rs ≡ without rs
  unfolding with-22 without
  alike rs e = go (leb (length rs) max_records && leb (length cells) max_cells) refl
    where
      go : (t : Bool) → leb (length rs) max_records && leb (length cells) max_cells ≡ t → with-22 rs ≡ without rs
      go false h = rw h
      go true h =
          let l = leb-true (length cells) max_cells (and-true (leb (length rs) max_records) (leb (length cells) max_cells) h).1 in
          let f = fits-packet L (with_records k rs) (omega (arith, lists_length rs cells e, l)) in
          let s : leb (length (content_octets L (with_records k rs))) max_packet ≡ true = le-leb (length (content_octets L (with_records k rs))) max_packet f in
          rw (h, s)

  pub never-22 : write_content22 L k cells room ≡ write_content L k cells room
  unfolding write_content with-22 without
  never-22 = ap (λ r. judge 0 (head_checks k) r then λ rs. Ok (content_octets L (with_records k rs))) (go (read_list cells) refl)
    where
      go : (r : Result (List Record)) → read_list cells ≡ r → (r then with-22) ≡ (r then without)
      go (Err x) e = refl
      go (Ok rs) e = alike rs ((list-iff cells rs).0 e).1
