-- The lines of a position but for those of the records, from what the code knows of the two files there.
use Rattle.std.specs.Prelude.{List, [], ◌∷◌, ◌++◌, cond, ℕ, eqb}
use Rattle.text.specs.Text.{decimal}
use Rattle.fielddiff_spec.specs.Diff.{left, right, dash, number, Line, ts_line, f_line, records_line, only_line, refused_line, differ}
use Rattle.fielddiff_spec.specs.Text.{sides_text}
use Rattle.fieldfile_scan_spec.specs.declared.found.Found.{Found}
use Rattle.fieldfile_scan_spec.specs.declared.found.Place.{Place}
use Rattle.fieldfile_scan_spec.specs.declared.found.Place.TheVariants as place

-- the text `I LABEL L R`, where the two numbers differ
abbrev pub differing : ℕ → (label : List ℕ) → (l r : ℕ) → List ℕ
differing i label l r = cond (eqb l r) [] (decimal i ++ (label ++ sides_text (decimal l) (decimal r)))

-- both have a field: "timestamp, F, record count"
abbrev pub head_lines : ℕ → (x y : Found) → List Line
head_lines i x y =
    differ (ts_line i) x.timestamp.0 y.timestamp.0
    ++ (differ (f_line i) x.f y.f ++ differ (records_line i) x.records y.records)

-- beside a field of the left file
abbrev pub beside_field : ℕ → Found → Place → List Line
beside_field i x (place.Field y) = head_lines i x y
beside_field i x place.Ended = only_line i left ∷ []
beside_field i x (place.Refused m) = refused_line i dash (number m) ∷ []

-- beside its end
abbrev pub beside_end : ℕ → Place → List Line
beside_end i (place.Field y) = only_line i right ∷ []
beside_end i place.Ended = []
beside_end i (place.Refused m) = refused_line i dash (number m) ∷ []

-- beside its refusal
abbrev pub beside_refusal : ℕ → ℕ → Place → List Line
beside_refusal i n (place.Field y) = refused_line i (number n) dash ∷ []
beside_refusal i n place.Ended = refused_line i (number n) dash ∷ []
beside_refusal i n (place.Refused m) = refused_line i (number n) (number m) ∷ []

abbrev pub place_lines : ℕ → (p q : Place) → List Line
place_lines i (place.Field x) q = beside_field i x q
place_lines i place.Ended q = beside_end i q
place_lines i (place.Refused n) q = beside_refusal i n q
