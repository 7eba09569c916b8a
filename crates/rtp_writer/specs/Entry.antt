-- What the entry point `write` returns and leaves.
use Rattle.wire_spec.specs.Result.{Result}
use Rattle.wire_spec.specs.declared.count.OctetCount.{OctetCount}
use Rattle.std.specs.Prelude.{List, ℕ, ◌^◌, ◌<◌, length}
use Rattle.wire_spec.specs.Layout.{Layout}
use Rattle.wire_spec.specs.Writing.{write_content}
use Rattle.wire_spec.specs.Written.{octets_after, written_of}
use Rattle.rtp_strict_reader.specs.declared.packet.Head.{Head}
use Rattle.rtp_writer.specs.Answers.{content_of}

-- what `write` returns for these six values, this list and these lent octets, in the layout that it is told
abbrev pub write_returns : Layout → Head → (cells out : List ℕ) → Result OctetCount
write_returns L h cells out = written_of (write_content L (content_of h) cells (length out))

-- what the lent octets then hold
abbrev pub write_leaves : Layout → Head → (cells out : List ℕ) → List ℕ
write_leaves L h cells out = octets_after (write_content L (content_of h) cells (length out)) out

-- what the types of the six values say of them: three are of 32 bits (the others are tested, by 24, or a flag)
pub record OfTypes (h : Head) : Type 0 where
  pub source : h.source < 2 ^ 32
  pub number : h.number.0 < 2 ^ 32
  pub timestamp : h.timestamp.0 < 2 ^ 32
