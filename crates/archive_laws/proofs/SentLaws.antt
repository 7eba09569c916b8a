-- The archive of a recorded stream is what was sent and arrived.
-- What is handed out is what demand 3 expects (`SessionLaws`); all of it is filed, and its cells tell its records.
use mathlib.Core.Path.{◌≡◌, refl, ap, ap₂, subst, ◌∙◌}
use mathlib.Core.Bool.{Bool, true, false, ◌&&◌}
use mathlib.Core.List.{List, [], ◌∷◌, ◌++◌}
use Prim.Native.Nat.{ℕ, ◌+◌}
use lib.ListN.{length}
use Rattle.wire_spec.specs.Bits.{Below}
use Rattle.wire_spec.specs.Anc.{Each}
use Rattle.fieldfile_spec.specs.File.{FieldContent, end_of_file}
use Rattle.depacketizer_spec.specs.Stream.{Field, parts, joined_cells, Within, fresh, one_before, all_from, Handed, as_sent, only_if, expected}
use Rattle.depacketizer_spec.specs.Delivery.{joined}
use Rattle.depacketizer_spec.proofs.DeliveryLaws.{field-said}
use Rattle.fieldlist_session.specs.declared.session.Session.TheVariants as session
use Rattle.fieldsave_session.specs.Filing.{fields_in}
use Rattle.fieldsave_laws.specs.Filed.{EachFiled, Filed, wholes_of}
use Rattle.fieldsave_laws.proofs.AllFiled.{none-left-out}
use Rattle.fieldsave_laws.proofs.FiledLaws.{one_list, reads-back}
use Rattle.fieldsave_laws.proofs.FormedLaws.{frames-below}
use Rattle.archive_laws.specs.Archive.{ArchiveAsSent, archived, as_written, calls_of, kept_if}
use Rattle.archive_laws.proofs.SessionLaws.{session-hands}

-- a field that is filed as sent is filed as written
filed-written : (x : Field) (k : FieldContent) → Within x → Filed (as_sent x) k → k ≡ as_written x
filed-written x k w h =
    let rs = one_list k.records (joined (parts x)) (joined_cells (parts x)) h.3 (field-said x w) in
    λ i. record { timestamp = h.0 i; f = h.1 i; records = rs i }

filed-archived : (n : ℕ) (xs : List Field) (l : List ℕ) (ks : List FieldContent) → Each Within xs → EachFiled (expected n xs l) ks → ks ≡ archived n xs l
filed-archived n [] l [] w h = refl
filed-archived n [] l (k ∷ ks) w h = absurd h
filed-archived n (x ∷ xs) l ks w h = go (λ ks. filed-archived (n + length (parts x)) xs l ks w.1) (one_before n l && all_from n (parts x) l) ks h
  where
    go : ((ks : List FieldContent) → EachFiled (expected (n + length (parts x)) xs l) ks → ks ≡ archived (n + length (parts x)) xs l)
        → (b : Bool) (ks : List FieldContent) → EachFiled (only_if b x ++ expected (n + length (parts x)) xs l) ks → ks ≡ kept_if b x ++ archived (n + length (parts x)) xs l
    go next true [] h = absurd h
    go next true (k ∷ ks) h = ap₂ ◌∷◌ (filed-written x k w.0 h.0) (next ks h.1)
    go next false ks h = next ks h

-- THE ARCHIVE IS AS SENT
pub archive-as-sent : ArchiveAsSent
archive-as-sent s w tape h o near input below e store room =
    let b = subst (Each (Below 256)) e (frames-below input below) in
    let hands = ap (wholes_of (session.Waiting s.layout) store) e ∙ session-hands s w tape h o near b store room in
    let filed = subst (λ (l : List Handed). EachFiled l (fields_in s.layout store input)) hands (none-left-out s.layout store input below) in
    reads-back s.layout store input below
    ∙ ap (λ (ks : List FieldContent). record { fields = ks; end = end_of_file }) (filed-archived 0 s.fields (fresh (calls_of tape)) (fields_in s.layout store input) w.within filed)
