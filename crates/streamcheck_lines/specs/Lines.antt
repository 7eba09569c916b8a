-- The lines of a packet, one for each finding, and the last line (02, K12).
use Rattle.std.specs.Prelude.{Bool, cond, List, [], ◌++◌, ℕ}
use Rattle.streamcheck_spec.specs.declared.checker.Findings.{Findings}
use Rattle.streamcheck_spec.specs.declared.finding.Finding.{Finding}
use Rattle.streamcheck_spec.specs.declared.finding.Finding.TheVariants as finding
use Rattle.streamcheck_spec.specs.Text.{line_text}

-- a line, where the test holds
unfoldable pub line_if : Bool → ℕ → Finding → List ℕ
line_if b i x = cond b (line_text i x) []

-- "A packet's findings, one of a kind, are listed in that order"
abbrev pub findings_text : ℕ → Findings → List ℕ
findings_text i f =
    line_if f.number i finding.Number
    ++ (line_if f.change i finding.Change ++ (line_if f.reserved i finding.Reserved ++ line_if f.raster i finding.Raster))

-- "a cut last frame": the last line
unfoldable pub cut_text : Bool → ℕ → List ℕ
cut_text broken i = line_if broken i finding.Cut

-- octets that the lines of a packet may take: four indices of 20 digits, and the words behind them
abbrev pub lines_room : ℕ
lines_room = 120
