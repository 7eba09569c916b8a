-- Lines to the letter, every number another (01, "`fieldlist`").
-- By computation.
use mathlib.Core.Path.{◌≡◌, refl}
use mathlib.Core.List.{[]}
use Rattle.depacketizer_spec.specs.declared.state.Answer.TheVariants as answer
use Rattle.depacketizer_spec.specs.declared.state.Field.{Field}
use Rattle.wire_spec.specs.Cells.{clear_from, records_from}
use Rattle.text.specs.Text.{ascii, decimal, decimal_in}
use Rattle.fieldlist_lines.specs.Lines.{answer_text, counts_text, refused_text, whole_text}

-- "7 skipped", "8 late"; a far arrival (02, K11) is a refusal like others, and not late
pub answers : (answer_text 7 answer.Skipped [] ≡ ascii "7 skipped\n")
    × (answer_text 65544 answer.Held [] ≡ ascii "65544 held\n")
    × (answer_text 4294967295 answer.Mixed [] ≡ ascii "4294967295 mixed\n")
    × (answer_text 0 answer.Overfull [] ≡ ascii "0 overfull\n")
    × (answer_text 8 (answer.Refused (record { number = 32; index = 0 })) [] ≡ ascii "8 late\n")
    × (answer_text 8 (answer.Refused (record { number = 36; index = 0 })) [] ≡ ascii "refused 36 0\n")
    × (answer_text 8 (answer.Refused (record { number = 11; index = 254 })) [] ≡ ascii "refused 11 254\n")
unfolding ascii decimal decimal_in refused_text
answers = (refl, refl, refl, refl, refl, refl, refl)

-- "8 whole ts=2501 f=3 records=1": here without records, so that no line follows
abbrev field : Field
field = record { timestamp = record { 0 = 2501 }; f = 3; records = 0; cells = 0; packets = 4 }

pub whole : answer_text 8 (answer.Whole field) []
    ≡ ascii "8 whole ts=2501 f=3 records=0\n"
unfolding ascii decimal decimal_in whole_text records_from clear_from
whole = refl

-- "fresh=3 late=1 missing=1"
pub counts : counts_text 5 2 31 ≡ ascii "fresh=5 late=2 missing=31\n"
unfolding ascii decimal decimal_in counts_text
counts = refl
