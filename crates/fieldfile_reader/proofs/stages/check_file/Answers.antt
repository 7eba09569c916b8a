-- `check_file` gives 50 or 51, or passes.
-- Each return knows the tests before it, in the order of the definition.
use mathlib.Core.Path.{ap, sym, ◌∙◌}
use borrow.Author.Tests.{le-leb, lt-leb}
use lib.ListN.{length}
use Rattle.fieldfile_spec.specs.File.{name_size, file_head_size, is_version, file_checks}
use Rattle.fieldfile_reader.proofs.stages.check_file.Goals as goal

pub returns-then-file-lt-NAME_SIZE : goal.returns-then-file-lt-NAME_SIZE
unfolding file_checks
returns-then-file-lt-NAME_SIZE c = let s = c.args.file.now in
    let h1 = lt-leb name_size (length s) c.if-file-lt-NAME_SIZE.true in
    rw (c.refuse.ensures, h1)

pub returns-then-not-name_ok : goal.returns-then-not-name_ok
unfolding file_checks
returns-then-not-name_ok c = let s = c.args.file.now in
    let h1 = le-leb name_size (length s) c.if-file-lt-NAME_SIZE.false in
    let h2 = sym c.name_ok.ensures ∙ c.if-not-name_ok.true in
    rw (c.refuse-then-not-name_ok.ensures, h1, h2)

pub returns-then-file-lt-HEAD_SIZE : goal.returns-then-file-lt-HEAD_SIZE
unfolding file_checks
returns-then-file-lt-HEAD_SIZE c = let s = c.args.file.now in
    let h1 = le-leb name_size (length s) c.if-file-lt-NAME_SIZE.false in
    let h2 = sym c.name_ok.ensures ∙ c.if-not-name_ok.false in
    let h3 = lt-leb file_head_size (length s) c.if-file-lt-HEAD_SIZE.true in
    rw (c.refuse-then-file-lt-HEAD_SIZE.ensures, h1, h2, h3)

pub returns-then-not-version_ok : goal.returns-then-not-version_ok
unfolding file_checks
returns-then-not-version_ok c = let s = c.args.file.now in
    let h1 = le-leb name_size (length s) c.if-file-lt-NAME_SIZE.false in
    let h2 = sym c.name_ok.ensures ∙ c.if-not-name_ok.false in
    let h3 = le-leb file_head_size (length s) c.if-file-lt-HEAD_SIZE.false in
    let h4 = ap is_version (sym c.pair_at.ensures) ∙ sym c.version_ok.ensures ∙ c.if-not-version_ok.true in
    rw (c.refuse-then-not-version_ok.ensures, h1, h2, h3, h4)

pub returns : goal.returns
unfolding file_checks
returns c = let s = c.args.file.now in
    let h1 = le-leb name_size (length s) c.if-file-lt-NAME_SIZE.false in
    let h2 = sym c.name_ok.ensures ∙ c.if-not-name_ok.false in
    let h3 = le-leb file_head_size (length s) c.if-file-lt-HEAD_SIZE.false in
    let h4 = ap is_version (sym c.pair_at.ensures) ∙ sym c.version_ok.ensures ∙ c.if-not-version_ok.false in
    rw (h1, h2, h3, h4)
