-- The lines of a packet are those of its findings, one behind the other; a cut frame's is the last.
-- By each test.
use Rattle.wire_spec.specs.Result.{Ok, Err}
use mathlib.Core.Path.{◌≡◌, refl, ap, sym, ◌∙◌}
use mathlib.Core.Bool.{Bool, true, false}
use mathlib.Core.List.{List, ◌++◌, append-nil}
use Prim.Native.Nat.{ℕ}
use Rattle.streamcheck_spec.specs.declared.checker.Findings.{Findings}
use Rattle.streamcheck_spec.specs.declared.finding.Finding.{Finding}
use Rattle.streamcheck_spec.specs.declared.finding.Finding.TheVariants as finding
use Rattle.streamcheck_spec.specs.Check.{only_if, entries, at_end}
use Rattle.streamcheck_spec.specs.Code.{findings_in}
use Rattle.streamcheck_spec.specs.Text.{line_text, report_text}
use Rattle.wire_spec.specs.declared.refusal.Refusal.{Refusal}
use Rattle.streamcheck_lines.specs.Lines.{line_if, findings_text, cut_text}

one_more : (i : ℕ) (t : Bool) (x : Finding) (xs : List Finding) → report_text (entries i (only_if t x ++ xs)) ≡ line_if t i x ++ report_text (entries i xs)
unfolding report_text entries line_if
one_more i true x xs = refl
one_more i false x xs = refl

last : (i : ℕ) (t : Bool) (x : Finding) → report_text (entries i (only_if t x)) ≡ line_if t i x
unfolding report_text entries line_if
last i true x = append-nil (line_text i x)
last i false x = refl

pub findings-text : (i : ℕ) (f : Findings) → findings_text i f ≡ report_text (entries i (findings_in (Ok f)))
findings-text i f =
    sym
    (one_more i f.number finding.Number _
    ∙ ap (λ (z : List ℕ). line_if f.number i finding.Number ++ z)
    (one_more i f.change finding.Change _
    ∙ ap (λ (z : List ℕ). line_if f.change i finding.Change ++ z)
    (one_more i f.reserved finding.Reserved _
    ∙ ap (λ (z : List ℕ). line_if f.reserved i finding.Reserved ++ z) (last i f.raster finding.Raster))))

pub refused-text : (i : ℕ) (x : Refusal) → line_text i (finding.Refused x) ≡ report_text (entries i (findings_in (Err x)))
unfolding report_text entries
refused-text i x = sym (append-nil (line_text i (finding.Refused x)))

pub cut-text : (t : Bool) (i : ℕ) → report_text (at_end t i) ≡ cut_text t i
unfolding report_text cut_text line_if
cut-text true i = append-nil (line_text i finding.Cut)
cut-text false i = refl
