-- A field file that is cut: the fields that stand whole in it, and the refusal of the place of the cut (01, "Numbers of refusal").
use Rattle.std.specs.Prelude.{cond, List, [], ◌∷◌, ℕ, suc, ◌-◌, eqb, leb, length}
use Rattle.wire_spec.specs.declared.refusal.Refusal.{Refusal}
use Rattle.wire_spec.specs.Layout.{rfc8331}
use Rattle.wire_spec.specs.Anc.{Record, anc_size}
use Rattle.fieldfile_spec.specs.declared.format.Version.{Version}
use Rattle.fieldfile_spec.specs.File.{name_size, file_head_size, field_header_size, FieldContent, field_size, FileRead, end_of_file, no_field, field_then}

-- "the ANC packet for 9 to 12": the index of the first packet that is not whole, where `m` octets of the packets stand
abbrev pub cut_packet : ℕ → List Record → ℕ
cut_packet m [] = 0
cut_packet m (r ∷ rs) =
    let size = anc_size rfc8331 (length r.words) in cond (leb size m) (suc (cut_packet (m - size) rs)) 0

-- where `m` octets of a field stand, not all: 54 "end of file" if none, 52 "file field header cut", 9 "ANC packet cut"
abbrev pub cut_end : Version → ℕ → FieldContent → Refusal
cut_end v m k =
    cond (eqb m 0) end_of_file
    (cond (leb (field_header_size v) m) (record { number = 9; index = cut_packet (m - field_header_size v) k.records }) (record { number = 52; index = 0 }))

-- where `m` octets of the fields stand: those that are whole, and why the next is not read
abbrev pub cut_fields : Version → ℕ → List FieldContent → FileRead
cut_fields v m [] = no_field end_of_file
cut_fields v m (k ∷ ks) =
    let size = field_size v k.records in
    cond (leb size m) (field_then k (cut_fields v (m - size) ks)) (no_field (cut_end v m k))

-- where `n` octets of the file stand: 50 "under 3 octets", 51 "under 5 octets", or its fields
abbrev pub cut_file : Version → ℕ → List FieldContent → FileRead
cut_file v n ks =
    cond (leb name_size n)
    (cond (leb file_head_size n) (cut_fields v (n - file_head_size) ks) (no_field (record { number = 51; index = 0 })))
    (no_field (record { number = 50; index = 0 }))
