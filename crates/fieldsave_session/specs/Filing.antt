-- What `fieldsave` files: the fields that a depacketizer hands out of a recorded stream, as a field file (01, "Field file", "The keeper").
use Rattle.depacketizer.specs.declared.state.Depacketizer.{Depacketizer}
use Rattle.std.specs.Prelude.{List, [], ◌∷◌, ◌++◌, ℕ, ◌+◌, ◌*◌, ◌/◌, length, take}
use Rattle.wire_spec.specs.Layout.{Layout}
use Rattle.wire_spec.specs.Result.{Result, Err, Ok}
use Rattle.wire_spec.specs.Anc.{Record}
use Rattle.wire_spec.specs.Packet.{read_content}
use Rattle.wire_spec.specs.Writing.{max_field_cells, records_to_write}
use Rattle.fieldfile_spec.specs.File.{FieldContent, field_header_size, fields_octets, file_f_ok, file_octets, within_limits, written_version}
use Rattle.depacketizer_spec.specs.declared.state.Answer.{Answer}
use Rattle.depacketizer_spec.specs.declared.state.Answer.TheVariants as answer
use Rattle.depacketizer_spec.specs.declared.state.Field.{Field}
use Rattle.depacketizer_spec.specs.Step.{Step, step}
use Rattle.rtp_frames.specs.Frames.{frames}
use Rattle.fieldlist_session.specs.declared.session.Session.{Session}
use Rattle.fieldlist_session.specs.declared.session.Session.TheVariants as session
use Rattle.fieldlist_session.specs.Session.{entered, layout_in, turn}

-- "Writing one field: 53, 20, 21, ..", and 16: the records of a field that is filed. (For 23 there is room, `field_room`.)
abbrev pub records_to_file : (f : ℕ) (cells : List ℕ) → Result (List Record)
records_to_file f cells =
    records_to_write ((file_f_ok f, 53) ∷ []) (λ rs. (within_limits (length rs) (length cells), 21) ∷ []) cells

-- a field handed out, as the file says it; one that the file refuses is not filed
abbrev pub filed_as : Field → Result (List Record) → List FieldContent
filed_as x (Err r) = []
filed_as x (Ok rs) = record { timestamp = x.timestamp.0; f = x.f; records = rs } ∷ []

abbrev pub field_in : Field → List ℕ → List FieldContent
field_in x store = filed_as x (records_to_file x.f (take x.cells store))

-- "answer whole": the field is handed out, over the store as it then is; no other answer hands one out
abbrev pub handed_by : Answer → List ℕ → List FieldContent
handed_by answer.Skipped store = []
handed_by answer.Held store = []
handed_by answer.Mixed store = []
handed_by answer.Overfull store = []
handed_by (answer.Whole x) store = field_in x store
handed_by (answer.Refused x) store = []

-- what one packet completes: nothing where no depacketizer is open and it opens none
abbrev pub handed_at : Layout → List ℕ → List ℕ → Result Depacketizer → List FieldContent
handed_at L octets store (Err x) = []
handed_at L octets store (Ok d) = let x : Step = step d.state L octets store in handed_by x.answer x.store

unfoldable pub handed : Session → List ℕ → List ℕ → List FieldContent
handed s octets store = handed_at (layout_in s) octets store (entered s (read_content (layout_in s) octets))

-- all packets in order, each behind what the ones before it left: the session of `fieldlist`
abbrev pub fields_of : Session → List ℕ → List (List ℕ) → List FieldContent
fields_of s store [] = []
fields_of s store (p ∷ ps) = handed s p store ++ fields_of (turn s p store).session (turn s p store).store ps

-- the octets that one packet adds to the file
abbrev pub filed : Session → List ℕ → List ℕ → List ℕ
filed s octets store = fields_octets written_version (handed s octets store)

-- what is filed of the rest of an input
unfoldable pub remaining : Session → List ℕ → List ℕ → List ℕ
remaining s store input = fields_octets written_version (fields_of s store (frames input).packets)

-- the fields of a whole input, for packets of a layout and a store lent at the start
abbrev pub fields_in : Layout → List ℕ → List ℕ → List FieldContent
fields_in L store input = fields_of (session.Waiting L) store (frames input).packets

-- THE WHOLE FILE
unfoldable pub filing : Layout → List ℕ → List ℕ → List ℕ
filing L store input = file_octets written_version (fields_in L store input)

-- octets that any field fits in: its header, and three for two cells (02, K7: "never more than 12 + 1.5n octets")
abbrev pub field_room : ℕ
field_room = field_header_size written_version + 3 * max_field_cells / 2
