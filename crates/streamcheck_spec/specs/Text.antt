-- The text of the report (02, K12): "as lines: the frame's index from 0, then `refused CODE INDEX` or `cut`, `number`, `change`, `reserved` or `raster`".
use Rattle.std.specs.Prelude.{List, [], ◌∷◌, ◌++◌, ℕ}
use Rattle.wire_spec.specs.Layout.{Layout}
use Rattle.text.specs.Text.{ascii, decimal}
use Rattle.rtp_frames.specs.Frames.{frames}
use Rattle.streamcheck_spec.specs.declared.checker.Checker.{Checker}
use Rattle.streamcheck_spec.specs.declared.finding.Finding.{Finding}
use Rattle.streamcheck_spec.specs.declared.finding.Finding.TheVariants as finding
use Rattle.streamcheck_spec.specs.Check.{Entry, report_from, report}

-- "`refused CODE INDEX` or `cut`, `number`, `change`, `reserved` or `raster`", behind the index `i`
unfoldable pub line_text : ℕ → Finding → List ℕ
line_text i (finding.Refused x) = decimal i ++ (ascii " refused " ++ decimal x.number) ++ (ascii " " ++ decimal x.index) ++ ascii "\n"
line_text i finding.Cut = decimal i ++ ascii " cut\n"
line_text i finding.Number = decimal i ++ ascii " number\n"
line_text i finding.Change = decimal i ++ ascii " change\n"
line_text i finding.Reserved = decimal i ++ ascii " reserved\n"
line_text i finding.Raster = decimal i ++ ascii " raster\n"

-- the lines of a report
unfoldable pub report_text : List Entry → List ℕ
report_text [] = []
report_text (x ∷ xs) = line_text x.0 x.1 ++ report_text xs

-- WHAT THE PROGRAM PRINTS for an input: "RFC 4571 frames in, read in the old layout if its argument is `old`"
unfoldable pub stream_text : Layout → List ℕ → List ℕ
stream_text L input = report_text (report L (frames input).broken (frames input).packets)

-- what is printed for the rest of an input, its first packet having index `i`
unfoldable pub remaining : Layout → ℕ → Checker → List ℕ → List ℕ
remaining L i st input = report_text (report_from L (frames input).broken i st (frames input).packets)
