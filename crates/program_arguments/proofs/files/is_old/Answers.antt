use Rattle.std.proofs.Common.{◌∙◌}
use Rattle.program_arguments.proofs.OptionLaws.{as-text}
use Rattle.program_arguments.proofs.files.is_old.Goals as goal

pub returns : goal.returns
returns c = c.eq.ensures ∙ as-text c.args.word.now "old"
