-- `begin` writes `ANF` and the version to the first octets, or gives 23 and leaves them.
-- The five octets are the packed head.
use Rattle.wire_spec.specs.Result.{Ok}
use mathlib.Core.Path.{ap, ◌∙◌}
use mathlib.Core.List.{List}
use Prim.Native.Nat.{ℕ}
use borrow.Author.Tests.{le-leb, lt-leb}
use lib.ListN.{length}
use Rattle.wire_spec.specs.Bits.{overwrite}
use Rattle.fieldfile_spec.specs.File.{file_head_size}
use Rattle.fieldfile_writer.proofs.HeadOctets.{head-packed}
use Rattle.fieldfile_writer.proofs.begin.Goals as goal

pub returns-then-out-lt-HEAD_SIZE : goal.returns-then-out-lt-HEAD_SIZE
returns-then-out-lt-HEAD_SIZE c = let h = lt-leb file_head_size (length c.args.out.now) c.if-out-lt-HEAD_SIZE.true in record { value = c.refuse.ensures ∙ rw h; out_after = rw h }

pub returns : goal.returns
returns c = let out = c.args.out.now in
    let h = le-leb file_head_size (length out) c.if-out-lt-HEAD_SIZE.false in
    record { value = rw h (ap (λ (x : List ℕ). Ok (record { 0 = length x })) head-packed); out_after = rw h (c.copy.ensures ∙ ap (λ (x : List ℕ). overwrite x out) head-packed) }
