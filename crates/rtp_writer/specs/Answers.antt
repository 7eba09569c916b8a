-- What the writer is given, in the papers' terms.
use Rattle.std.specs.Prelude.{[]}
use Rattle.wire_spec.specs.Bits.{bit}
use Rattle.wire_spec.specs.Packet.{Content}
use Rattle.rtp_strict_reader.specs.declared.packet.Head.{Head}

-- "the writer takes the first six and a list": the six, as content without records
abbrev pub content_of : Head → Content
content_of h =
    record {
      source = h.source;
      type = h.payload_type;
      marker = bit h.marker;
      number = h.number.0;
      timestamp = h.timestamp.0;
      f = h.f;
      records = [];
    }
