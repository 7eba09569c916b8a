-- How many lines a listing has (01, "`fieldlist`").
use Rattle.std.specs.Prelude.{Bool, cond, List, [], ◌∷◌, ℕ, ◌+◌, length}
use Rattle.wire_spec.specs.Bits.{Below}
use Rattle.wire_spec.specs.Layout.{Layout}
use Rattle.rtp_frames.specs.Frames.{frames}
use Rattle.depacketizer_spec.specs.Stream.{Handed}
use Rattle.text_laws.specs.Lines.{Lines}
use Rattle.fieldlist_session.specs.declared.session.Session.TheVariants as session
use Rattle.fieldlist_session.specs.Session.{listing}
use Rattle.fieldsave_laws.specs.Filed.{wholes_of}

-- the records that the answers tell of fields handed out
abbrev pub records_in : List Handed → ℕ
records_in [] = 0
records_in (x ∷ xs) = x.records + records_in xs

-- `cut` for a broken last frame
abbrev pub cut_lines : Bool → ℕ
cut_lines broken = cond broken 1 0

-- ONE LINE A PACKET, AND ONE A RECORD of a field handed out: before them the title, after them `cut` for a
-- broken last frame, and the counts. No other
abbrev pub ListedInLines : Type 0
ListedInLines = (L : Layout) (store input : List ℕ) → Below 256 input
    → let packets = (frames input).packets in
    let records = records_in (wholes_of (session.Waiting L) store packets) in
    Lines (1 + (length packets + records + (cut_lines (frames input).broken + 1))) (listing L store input)
