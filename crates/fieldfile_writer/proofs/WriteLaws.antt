-- A field measured and written: what each of the writer's checks decides, and the octets of one that fits.
-- By the writer's checks in their order, and the size of a field.
use mathlib.Core.Path.{◌≡◌, refl, ap, sym, ◌∙◌}
use mathlib.Core.Bool.{true, false}
use mathlib.Core.List.{List, [], ◌∷◌, ◌++◌}
use Prim.Native.Nat.{ℕ, ◌+◌, ◌-◌, zero-le}
use native.Mathlib.Omega.{arith}
use lib.Dec.{leb}
use lib.ListN.{length, take, drop}
use Rattle.wire_spec.specs.declared.refusal.Refusal.{Refusal}
use Rattle.wire_spec.specs.declared.count.OctetCount.{OctetCount}
use Rattle.wire_spec.specs.Bits.{pack, overwrite, splice}
use Rattle.wire_spec.specs.Layout.{rfc8331}
use Rattle.wire_spec.specs.Result.{Err, Ok, refuse, Checks}
use Rattle.wire_spec.specs.Anc.{Record, run_octets}
use Rattle.wire_spec.specs.Cells.{read_list}
use Rattle.wire_spec.proofs.BitLaws.{length-pack}
use Rattle.wire_spec.proofs.ListLaws.{splice-append, part-written}
use Rattle.wire_spec.proofs.WritingLaws.{head-fails, list-fails, limit-fails, all_pass}
use Rattle.wire_spec.specs.Written.{octets_after, written_of}
use Rattle.fieldfile_spec.specs.File.{written_version, field_header_size, field_header_fields, field_octets, field_size, file_f_ok, within_limits, room_checks, field_records, write_field}
use Rattle.fieldfile_spec.proofs.FrontLaws.{length-field}
use Rattle.fieldfile_spec.proofs.WritesLaws.{writes}
use Rattle.anc_writer.specs.Answers.{listed_of, list_octets}
use Rattle.anc_writer.proofs.ListedLaws.{Taken, taken, listed-refused}

module _ (f : ℕ) (cells : List ℕ) (room : ℕ) where
  abbrev head : Checks
  head = (file_f_ok f, 53) ∷ []

  abbrev limits : List Record → Checks
  limits rs = room_checks rs (length cells) room

  pub refused-f : file_f_ok f ≡ false → field_records f cells room ≡ refuse 53 0
  refused-f e = head-fails head limits cells 0 tt e

  module _ (ok : file_f_ok f ≡ true) where
    pub refused-list : (x : Refusal) → listed_of rfc8331 (read_list cells) ≡ Err x → field_records f cells room ≡ Err x
    refused-list x e = list-fails head limits cells (ok, tt) x (listed-refused rfc8331 (read_list cells) x e)

    module _ (n : ℕ) (o : OctetCount) (e : listed_of rfc8331 (read_list cells) ≡ Ok (record { count = n; octets = o })) where
      -- 21 and 23 as the code tests them: by the number of records, and by the octets of their ANC data packets
      abbrev list : Taken rfc8331 (read_list cells) n o
      list = taken rfc8331 (read_list cells) n o e

      within : within_limits n (length cells) ≡ within_limits (length list.rs) (length cells)
      within = ap (λ (x : ℕ). within_limits x (length cells)) (sym list.count)

      at_most : leb (field_header_size written_version + o.0) room ≡ leb (field_size written_version list.rs) room
      at_most = ap (λ (x : ℕ). leb (field_header_size written_version + x) room) (sym list.size)

      pub over-limit : within_limits n (length cells) ≡ false → field_records f cells room ≡ refuse 21 0
      over-limit a = limit-fails head limits cells (ok, tt) list.rs list.reads 0 tt (sym within ∙ a)

      module _ (a : within_limits n (length cells) ≡ true) where
        pub no_room : leb (field_header_size written_version + o.0) room ≡ false → field_records f cells room ≡ refuse 23 0
        no_room b = limit-fails head limits cells (ok, tt) list.rs list.reads 1 (sym within ∙ a, tt) (sym at_most ∙ b)

        pub all_fit : leb (field_header_size written_version + o.0) room ≡ true → listed_of rfc8331 (field_records f cells room) ≡ Ok (record { count = n; octets = o })
        all_fit b =
            ap (listed_of rfc8331) (all_pass head limits cells (ok, tt) list.rs list.reads (sym within ∙ a, (sym at_most ∙ b, tt)))
            ∙ λ i. Ok (record { count = list.count i; octets = record { 0 = list.size i } })

-- a field that fits: its header written, and its run behind it, it is written whole
module _ (ts f : ℕ) (cells : List ℕ) (room : ℕ) (rs : List Record) (e : field_records f cells room ≡ Ok rs) where
  abbrev whole : List ℕ
  whole = field_octets written_version (record { timestamp = ts; f = f; records = rs })

  pub field-written : write_field ts f cells room ≡ Ok (field_octets written_version (record { timestamp = ts; f = f; records = rs }))
  field-written = rw e

  pub written-length : written_of (write_field ts f cells room) ≡ Ok (record { 0 = field_size written_version rs })
  written-length = ap written_of field-written ∙ ap (λ (n : ℕ). Ok (record { 0 = n })) (length-field written_version (record { timestamp = ts; f = f; records = rs }))

  pub written-whole : (n : ℕ) → n ≡ length rs → (out front part : List ℕ) → front ≡ overwrite (pack (field_header_fields written_version ts f n)) out
      → part ≡ overwrite (list_octets rfc8331 (read_list cells)) (take (length front - field_header_size written_version) (drop (field_header_size written_version) front))
      → take (field_header_size written_version) front ++ (part ++ drop (length front - field_header_size written_version) (drop (field_header_size written_version) front)) ≡ octets_after (write_field ts f cells room) out
  written-whole n hn out front part p q =
      let run = run_octets rfc8331 rs in
      let k = pack (field_header_fields written_version ts f (length rs)) in
      let i : list_octets rfc8331 (read_list cells) ≡ run = ap (list_octets rfc8331) (writes f cells room rs e).reads in
      let len : field_header_size written_version ≡ 0 + length k = omega (arith, length-pack [] (field_header_fields written_version ts f (length rs)) (field_header_size written_version) refl) in
      part-written (field_header_size written_version) front run part (q ∙ ap (λ (x : List ℕ). overwrite x (take (length front - field_header_size written_version) (drop (field_header_size written_version) front))) i)
      ∙ ap (λ (x : List ℕ). splice x (field_header_size written_version) run) (p ∙ ap (λ (x : ℕ). overwrite (pack (field_header_fields written_version ts f x)) out) hn)
      ∙ ap (λ (m : ℕ). splice (overwrite k out) m run) len
      ∙ splice-append out 0 k run zero-le
      ∙ ap (λ r. octets_after r out) (sym field-written)
