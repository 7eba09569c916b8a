-- The numbers of both formats, in either order of octets.
use Rattle.std.specs.Prelude.{Bool, true, false, ◌||◌, List, ℕ, ◌+◌, ◌*◌, eqb, get_or, Option, Some, None}
use Rattle.wire_spec.specs.Bits.{quad_of}
use Rattle.capture_spec.specs.declared.state.Order.{Order}
use Rattle.capture_spec.specs.declared.state.Order.TheVariants as order

-- the number of two octets
unfoldable pub half_at : Order → List ℕ → ℕ → ℕ
half_at order.Big s at = get_or s at 0 * 256 + get_or s (at + 1) 0
half_at order.Little s at = get_or s (at + 1) 0 * 256 + get_or s at 0

-- and of four
unfoldable pub word_at : Order → List ℕ → ℕ → ℕ
word_at order.Big s at = quad_of (get_or s at 0) (get_or s (at + 1) 0) (get_or s (at + 2) 0) (get_or s (at + 3) 0)
word_at order.Little s at = quad_of (get_or s (at + 3) 0) (get_or s (at + 2) 0) (get_or s (at + 1) 0) (get_or s at 0)

-- pcap, "File Header", Magic Number; the second where timestamps are in nanoseconds
abbrev pub magic_micro : ℕ
magic_micro = 0xA1B2C3D4

abbrev pub magic_nano : ℕ
magic_nano = 0xA1B23C4D

-- pcapng, "Section Header Block": its type, and its Byte-Order Magic
abbrev pub section_type : ℕ
section_type = 0x0A0D0D0A

abbrev pub order_magic : ℕ
order_magic = 0x1A2B3C4D

-- "Interface Description Block", "Packet Block (obsolete)", "Simple Packet Block", "Enhanced Packet Block"
abbrev pub interface_type : ℕ
interface_type = 1

abbrev pub packet_type : ℕ
packet_type = 2

abbrev pub simple_type : ℕ
simple_type = 3

abbrev pub enhanced_type : ℕ
enhanced_type = 6

-- octets of a number of 32 bits, of which a block has a whole number
abbrev pub word_size : ℕ
word_size = 4

-- octets of pcap's head and of a record's, and of a block's type, length and magic
abbrev pub head_size : ℕ
head_size = 24

abbrev pub record_head : ℕ
record_head = 16

abbrev pub block_head : ℕ
block_head = 12

-- pcap, "File Header" and "Packet Record": where the link type stands, how many numbers it has, and where the captured length stands
abbrev pub link_at : ℕ
link_at = 20

abbrev pub link_types : ℕ
link_types = 65536

abbrev pub record_length_at : ℕ
record_length_at = 8

-- pcapng, where fields stand in their blocks: the length and the first field behind it; of an interface SnapLen; of a packet its captured length
abbrev pub length_at : ℕ
length_at = 4

abbrev pub fields_at : ℕ
fields_at = 8

abbrev pub snap_at : ℕ
snap_at = 12

abbrev pub captured_at : ℕ
captured_at = 20

-- the fewest octets of a block: its fields, and its length before and behind
abbrev pub least_section : ℕ
least_section = 28

abbrev pub least_interface : ℕ
least_interface = 20

abbrev pub least_simple : ℕ
least_simple = 16

abbrev pub least_enhanced : ℕ
least_enhanced = 32

-- where the octets of a packet stand in its block
abbrev pub simple_at : ℕ
simple_at = 12

abbrev pub enhanced_at : ℕ
enhanced_at = 28

-- the longest record or block that is read: a packet of 262,144 octets, and 4,096 for the rest
abbrev pub max_item : ℕ
max_item = 266240

-- the interfaces of one section
abbrev pub max_interfaces : ℕ
max_interfaces = 64

-- numbers of refusal
abbrev pub not_capture : ℕ
not_capture = 80

abbrev pub capture_cut : ℕ
capture_cut = 81

abbrev pub lengths_disagree : ℕ
lengths_disagree = 82

abbrev pub link_not_taken : ℕ
link_not_taken = 83

abbrev pub item_too_long : ℕ
item_too_long = 84

abbrev pub too_many_interfaces : ℕ
too_many_interfaces = 85

-- the order in which a number is one of those
abbrev pub ordering : (big little : Bool) → Option Order
ordering true little = Some order.Big
ordering false true = Some order.Little
ordering false false = None

abbrev pub is_magic : ℕ → Bool
is_magic x = eqb x magic_micro || eqb x magic_nano

-- "the magic number .. to determine the byte order"
abbrev pub head_order : List ℕ → Option Order
head_order s = ordering (is_magic (word_at order.Big s 0)) (is_magic (word_at order.Little s 0))

-- the Byte-Order Magic stands behind the block's type and length
abbrev pub section_order : List ℕ → Option Order
section_order s = ordering (eqb (word_at order.Big s fields_at) order_magic) (eqb (word_at order.Little s fields_at) order_magic)
