-- The layouts of the payload: RFC 8331's, and that of its drafts of 2015 (documents 000 and 001; 02, K3). "Which layout applies is told
-- by the caller." A field that a layout lacks has width 0: it reads as 0, and only 0 fits it ("Records come out with F, S and StreamNum
-- zero").
use Rattle.std.specs.Prelude.{ℕ, ◌+◌, ◌/◌}
use Rattle.wire_spec.specs.declared.layout.Layout.{Layout as Declared}
use Rattle.wire_spec.specs.declared.layout.Layout.TheVariants as layout

abbrev pub Layout : Type 0
Layout = Declared

-- RFC 8331, section 2.1
abbrev pub rfc8331 : Layout
rfc8331 = layout.Rfc8331

-- document 001, section 2.1
abbrev pub draft2015 : Layout
draft2015 = layout.Draft2015

-- "C 1, Line_Number 11, Horizontal_Offset 12": the bit at which S, or what follows where there is no S, starts
abbrev pub s_at : ℕ
s_at = 1 + 11 + 12

-- widths in bits of S and of StreamNum: "S 1, StreamNum 7"; "C, line, offset, DID, .."
abbrev pub s_bits : Layout → ℕ
s_bits layout.Rfc8331 = 1
s_bits layout.Draft2015 = 0

abbrev pub stream_bits : Layout → ℕ
stream_bits layout.Rfc8331 = 7
stream_bits layout.Draft2015 = 0

-- of R, between Data_Count and the user data words: ".. Data_Count, two R bits, words, .."
abbrev pub r_bits : Layout → ℕ
r_bits layout.Rfc8331 = 0
r_bits layout.Draft2015 = 2

-- "zero bits up to a multiple of 32"; "zero bits to a full octet"
abbrev pub alignment : Layout → ℕ
alignment layout.Rfc8331 = 32
alignment layout.Draft2015 = 8

-- octets of the smallest ANC data packet (9: "under 12 octets left"; "the first 9 means under 9 octets left")
abbrev pub least_size : Layout → ℕ
least_size layout.Rfc8331 = 12
least_size layout.Draft2015 = 9

-- the payload header: widths in bits of F and of its reserved bits ("F 2, reserved 22"; "without F or reserved bits")
abbrev pub f_bits : Layout → ℕ
f_bits layout.Rfc8331 = 2
f_bits layout.Draft2015 = 0

abbrev pub reserved_bits : Layout → ℕ
reserved_bits layout.Rfc8331 = 22
reserved_bits layout.Draft2015 = 0

-- "Payload header, 8 octets: Extended Sequence Number 16, Length 16, ANC_Count 8, F 2, reserved 22"; "The payload header is 5 octets"
abbrev pub payload_header_size : Layout → ℕ
payload_header_size L = (16 + 16 + 8 + f_bits L + reserved_bits L) / 8
