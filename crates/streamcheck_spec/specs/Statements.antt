-- What is claimed of the report (02, K12).
use Rattle.std.specs.Prelude.{◌≡◌, Bool, ◌↔◌, ℕ, ◌^◌, ◌<◌}
use mathlib.Core.List.{List, Memᴰ}
use Rattle.wire_spec.specs.Anc.{Each}
use Rattle.wire_spec.specs.Layout.{Layout}
use Rattle.streamcheck_spec.specs.declared.finding.Finding.{Finding}
use Rattle.streamcheck_spec.specs.declared.finding.Finding.TheVariants as finding
use Rattle.streamcheck_spec.specs.Rules.{Breaks}
use Rattle.streamcheck_spec.specs.Check.{Entry, report, Increasing}
use Rattle.streamcheck_spec.specs.Text.{report_text}

-- the lines of a list are those of the rules broken
abbrev pub Lists : Layout → (broken : Bool) → List (List ℕ) → List Entry → Type 0
Lists L broken ps l = (i : ℕ) (x : Finding) → Memᴰ (i, x) l ↔ Breaks L ps broken i x

-- "A line stands there exactly when its packet breaks that rule"
abbrev pub ReportLists : Type 0
ReportLists = (L : Layout) (broken : Bool) (ps : List (List ℕ)) → Lists L broken ps (report L broken ps)

-- "It lists by packet", "A packet's findings, one of a kind, are listed in that order"
abbrev pub ReportIncreases : Type 0
ReportIncreases = (L : Layout) (broken : Bool) (ps : List (List ℕ)) → Increasing (report L broken ps)

-- the two fix the list
abbrev pub ReportFixed : Type 0
ReportFixed = (L : Layout) (broken : Bool) (ps : List (List ℕ)) (l : List Entry) → Lists L broken ps l → Increasing l → l ≡ report L broken ps

-- the numbers of a line have at most 64 bits
abbrev pub FindingFits : Finding → Type 0
FindingFits (finding.Refused x) = (x.number < 2 ^ 64) × (x.index < 2 ^ 64)
FindingFits finding.Cut = Unit {0}
FindingFits finding.Number = Unit {0}
FindingFits finding.Change = Unit {0}
FindingFits finding.Reserved = Unit {0}
FindingFits finding.Raster = Unit {0}

abbrev pub EntryFits : Entry → Type 0
EntryFits x = (x.0 < 2 ^ 64) × FindingFits x.1

-- the text tells the report: no two kinds of line, indices or numbers are printed alike
abbrev pub ReportTold : Type 0
ReportTold =
    (xs ys : List Entry) → Each EntryFits xs → Each EntryFits ys → report_text xs ≡ report_text ys → xs ≡ ys
