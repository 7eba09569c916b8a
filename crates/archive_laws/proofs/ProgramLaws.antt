-- What `fieldsave` has written is as sent.
-- Where all was written, it is the file of what was read.
use mathlib.Core.Path.{ap, ◌∙◌}
use Rattle.fieldfile_spec.specs.File.{read_file}
use Rattle.archive_laws.specs.Program.{ProgramAsSent, ProgramExact}
use Rattle.archive_laws.proofs.SentLaws.{archive-as-sent}
use Rattle.archive_laws.proofs.ExactArchiveLaws.{exact-archive}

pub program-as-sent : ProgramAsSent
program-as-sent s w tape h o near store left out room after d e below is =
    ap read_file (e.2.complete d) ∙ archive-as-sent s w tape h o near e.2.read below is store room

pub program-exact : ProgramExact
program-exact L store left out room after d e below =
    ap read_file (e.2.complete d) ∙ exact-archive L store e.2.read below room
