-- What the answers say in the papers' terms: the refusal, or what was found.
use Rattle.rtp_strict_reader.specs.declared.packet.Summary.{Summary}
use Rattle.std.specs.Prelude.{List, ℕ, ◌+◌}
use Rattle.wire_spec.specs.Bits.{overwrite}
use Rattle.wire_spec.specs.Layout.{Layout}
use Rattle.wire_spec.specs.Result.{Result, Err, Ok, Passed}
use Rattle.wire_spec.specs.Cells.{list_of}
use Rattle.wire_spec.specs.Packet.{header_size, run_at, length_field, anc_count, header_checks, padding_checks, payload_checks}
use Rattle.anc_tolerant_spec.specs.Tolerant.{Tolerated}
use Rattle.rtp_strict_reader.specs.Answers.{summary_of}
use Rattle.rtp_reader.specs.declared.through.Region.{Region}
use Rattle.rtp_reader.specs.declared.packet.TolerantRead.{TolerantRead}

-- 1 to 8 are not given
pub record Staged (L : Layout) (s : List ℕ) : Type 0 where
  pub header : Passed (header_checks s)
  pub padding : Passed (padding_checks L s)
  pub payload : Passed (payload_checks L s)

-- where the ANC data packets stand
abbrev pub region_of : Layout → List ℕ → Region
region_of L s = record { header = record { 0 = header_size s }; at = run_at L s; end = run_at L s + length_field s; count = anc_count s }

-- a packet read: the refusal, or what it says with the records that came through, and how many were left out
abbrev pub tolerant_of : Result Tolerated → Result TolerantRead
tolerant_of (Err x) = Err x
tolerant_of (Ok t) = Ok (record { summary = summary_of t.says; omitted = t.left_out })

-- a strict answer in the same terms: none left out
abbrev pub strict_of : Result Summary → Result TolerantRead
strict_of (Err x) = Err x
strict_of (Ok m) = Ok (record { summary = m; omitted = 0 })

-- what the lent list then holds
abbrev pub through_after : Result Tolerated → List ℕ → List ℕ
through_after (Err x) cells = cells
through_after (Ok t) cells = overwrite (list_of t.says.records) cells
