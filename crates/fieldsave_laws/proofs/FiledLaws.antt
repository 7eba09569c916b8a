-- A file of `fieldsave` reads back, whole or cut.
-- Its fields are well-formed, and so the laws of every field file hold of it.
use mathlib.Core.Path.{◌≡◌, refl, ap, ap₂, sym, ◌∙◌, subst}
use mathlib.Core.List.{List, [], ◌∷◌, ◌++◌, nil≢cons}
use Prim.Native.Nat.{ℕ}
use lib.ListN.{length}
use lib.Seq.{take-append_seam, drop-append_seam, drop-drop}
use Rattle.wire_spec.specs.Bits.{Below}
use Rattle.wire_spec.specs.Layout.{Layout}
use Rattle.wire_spec.specs.Anc.{Each, Record}
use Rattle.wire_spec.specs.Cells.{Lists, cell_record, cells_in, head_cells, rest}
use Rattle.fieldfile_spec.specs.File.{WellFormedField, written_version}
use Rattle.fieldfile_spec.proofs.CutFile.{cut-file, whole-file}
use Rattle.rtp_frames.specs.Frames.{frames}
use Rattle.fieldlist_session.specs.declared.session.Session.TheVariants as session
use Rattle.fieldsave_session.specs.Filing.{fields_in, filing}
use Rattle.fieldsave_laws.specs.Filed.{CutReads, ReadsBack}
use Rattle.fieldsave_laws.proofs.FormedLaws.{fields-formed, frames-below}

formed : (L : Layout) (store input : List ℕ) → Below 256 input → Each (WellFormedField written_version) (fields_in L store input)
formed L store input h = fields-formed (session.Waiting L) store (frames input).packets (frames-below input h)

pub reads-back : ReadsBack
unfolding filing
reads-back L store input h = whole-file written_version (fields_in L store input) (formed L store input h)

pub cut-reads : CutReads
unfolding filing
cut-reads L store input h n = cut-file written_version (fields_in L store input) (formed L store input h) n

-- CELLS TELL THEIR RECORDS: one list of records stands in them, whatever the index of each
record-told : (p : ℕ) (r : Record) (t : List ℕ) → cell_record (cells_in p r ++ t) ≡ r
unfolding cell_record
record-told p r t =
    let w = take-append_seam r.words t in
    λ i. record { c = r.c; line = r.line; offset = r.offset; s = r.s; stream = r.stream; did = r.did; sdid = r.sdid; words = w i }

rest-told : (p : ℕ) (r : Record) (t : List ℕ) → rest (cells_in p r ++ t) ≡ t
rest-told p r t = sym (drop-drop (length r.words) head_cells (cells_in p r ++ t)) ∙ drop-append_seam r.words t

pub one_list : (rs qs : List Record) (l : List ℕ) → Lists rs l → Lists qs l → rs ≡ qs
one_list [] [] l a b = refl
one_list [] (q ∷ qs) l a b = absurd (nil≢cons (sym a ∙ b.3))
one_list (r ∷ rs) [] l a b = absurd (nil≢cons (sym b ∙ a.3))
one_list (r ∷ rs) (q ∷ qs) l a b =
    let first : r ≡ q = sym (record-told a.0 r a.1) ∙ ap cell_record (sym a.3 ∙ b.3) ∙ record-told b.0 q b.1 in
    let behind : a.1 ≡ b.1 = sym (rest-told a.0 r a.1) ∙ ap rest (sym a.3 ∙ b.3) ∙ rest-told b.0 q b.1 in
    ap₂ ◌∷◌ first (one_list rs qs b.1 (subst (Lists rs) behind a.4) b.4)
