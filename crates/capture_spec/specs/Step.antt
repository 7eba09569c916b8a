-- What stands at the front of a capture, by where the reading stands, and where it stands behind that.
use Rattle.std.specs.Prelude.{Bool, cond, ◌&&◌, ◌||◌, List, ℕ, ◌+◌, ◌-◌, ◌%◌, ◌<◌, ◌≤◌, eqb, leb, ltb, length, get_or, set, replicate, Option, Some, None, Ok, Err}
use Rattle.capture_spec.specs.declared.state.Order.{Order}
use Rattle.capture_spec.specs.declared.state.Order.TheVariants as order
use Rattle.capture_spec.specs.declared.state.Container.{Container}
use Rattle.capture_spec.specs.declared.state.Container.TheVariants as container
use Rattle.capture_spec.specs.declared.state.State.{State}
use Rattle.capture_spec.specs.Items.{Extent, Read}
use Rattle.capture_spec.specs.declared.state.Item.TheVariants as item
use Rattle.capture_spec.specs.Numbers.{word_at, half_at, head_order, section_order, section_type, interface_type, packet_type, simple_type, enhanced_type, word_size, head_size, record_head, block_head, link_at, link_types, record_length_at, length_at, fields_at, snap_at, captured_at, least_section, least_interface, least_simple, least_enhanced, simple_at, enhanced_at, max_item, max_interfaces, not_capture, lengths_disagree, link_not_taken, item_too_long, too_many_interfaces}
use Rattle.capture_spec.specs.declared.state.Unread.TheVariants as unread

-- so many octets, where they are there
abbrev pub sized : ℕ → List ℕ → Extent → Extent
sized n s e = cond (ltb max_item n) (Err (unread.Refused item_too_long)) (cond (ltb (length s) n) (Err unread.Short) e)

-- what is in a whole extent
abbrev pub within : Extent → (ℕ → Read) → Read
within (Err x) f = Err x
within (Ok n) f = f n

-- pcap, "File Header": "LinkType .. (16 bits)" are the low ones of the last number
abbrev pub head_by : Option Order → List ℕ → Read
head_by None s = Err (unread.Refused not_capture)
head_by (Some o) s = cond (ltb (length s) head_size) (Err unread.Short) (Ok (item.Head (container.Classic o (word_at o s link_at % link_types)) head_size))

-- pcap, "Packet Record": timestamp, Captured Packet Length, Original Packet Length, the packet
abbrev pub record_extent : Order → List ℕ → Extent
record_extent o s = cond (ltb (length s) record_head) (Err unread.Short) (sized (record_head + word_at o s record_length_at) s (Ok (record_head + word_at o s record_length_at)))

abbrev pub record_item : Order → ℕ → List ℕ → Read
record_item o link s = within (record_extent o s) (λ n. Ok (item.Packet (record { at = record_head; size = n - record_head; link = link }) n))

-- pcapng, "General Block Structure": "Block Total Length .. MUST be a multiple of 4", no less than the block's fields take
abbrev pub is_length : (least n : ℕ) → Bool
is_length least n = leb least n && eqb (n % word_size) 0

-- "This value is repeated at the end of the block": the same number stands there
abbrev pub trailed : Order → ℕ → List ℕ → Extent
trailed o n s = cond (eqb (word_at o s (n - word_size)) n) (Ok n) (Err (unread.Refused lengths_disagree))

abbrev pub block_extent : Order → (least : ℕ) → List ℕ → Extent
block_extent o least s =
    cond (is_length least (word_at o s length_at)) (sized (word_at o s length_at) s (trailed o (word_at o s length_at) s)) (Err (unread.Refused lengths_disagree))

-- "Section Header Block": its order holds for all blocks of the section
abbrev pub section_head : Order → Extent → Read
section_head o e = within e (λ n. Ok (item.Head (container.Section o) n))

abbrev pub section_by : Option Order → List ℕ → Read
section_by None s = Err (unread.Refused lengths_disagree)
section_by (Some o) s = section_head o (block_extent o least_section s)

-- "Interface Description Block": LinkType (16 bits), reserved, SnapLen
abbrev pub interface_item : Order → State → ℕ → List ℕ → Read
interface_item o st n s = cond (ltb st.described max_interfaces) (Ok (item.Interface (half_at o s fields_at) (word_at o s snap_at) n)) (Err (unread.Refused too_many_interfaces))

-- an interface that the section described
abbrev pub is_described : State → ℕ → Bool
is_described st id = ltb id st.described && ltb id max_interfaces

-- a packet from an interface, where the block has its octets
abbrev pub packet_from : State → (id at size room n : ℕ) → Read
packet_from st id at size room n =
    cond (leb size room)
    (cond (is_described st id) (Ok (item.Packet (record { at = at; size = size; link = get_or st.links id 0 }) n)) (Err (unread.Refused link_not_taken)))
    (Err (unread.Refused lengths_disagree))

-- "Simple Packet Block": from the first interface; "the SnapLen value MUST be used to determine the size of the Packet Data", 0 being no limit
abbrev pub simple_size : (snap original : ℕ) → ℕ
simple_size snap original = cond (eqb snap 0) original (cond (ltb original snap) original snap)

abbrev pub simple_item : Order → State → ℕ → List ℕ → Read
simple_item o st n s = packet_from st 0 simple_at (simple_size st.snap (word_at o s fields_at)) (n - least_simple) n

-- "Enhanced Packet Block": Interface ID, timestamp, Captured Packet Length, Original Packet Length, the packet, options
abbrev pub enhanced_item : Order → State → (id n : ℕ) → List ℕ → Read
enhanced_item o st id n s = packet_from st id enhanced_at (word_at o s captured_at) (n - least_enhanced) n

-- "Packet Block (obsolete)": the same, with an Interface ID of 16 bits. Blocks of other types are passed over
abbrev pub body_item : (type : ℕ) → Order → State → ℕ → List ℕ → Read
body_item t o st n s =
    cond (eqb t interface_type) (interface_item o st n s)
    (cond (eqb t simple_type) (simple_item o st n s)
    (cond (eqb t enhanced_type) (enhanced_item o st (word_at o s fields_at) n s)
    (cond (eqb t packet_type) (enhanced_item o st (half_at o s fields_at) n s)
    (Ok (item.Other n)))))

abbrev pub least_of : (type : ℕ) → ℕ
least_of t =
    cond (eqb t interface_type) least_interface
    (cond (eqb t simple_type) least_simple
    (cond (eqb t enhanced_type || eqb t packet_type) least_enhanced block_head))

-- a block of a section
abbrev pub block_item : Order → State → List ℕ → Read
block_item o st s =
    cond (ltb (length s) block_head) (Err unread.Short)
    (cond (eqb (word_at o s 0) section_type) (section_by (section_order s) s)
    (within (block_extent o (least_of (word_at o s 0)) s) (λ n. body_item (word_at o s 0) o st n s)))

-- the front of a capture: pcapng's first block is a section's head
abbrev pub start_item : List ℕ → Read
start_item s =
    cond (ltb (length s) word_size) (Err unread.Short)
    (cond (eqb (word_at order.Big s 0) section_type)
    (cond (ltb (length s) block_head) (Err unread.Short) (section_by (section_order s) s))
    (head_by (head_order s) s))

abbrev pub step_in : Container → State → List ℕ → Read
step_in container.Unknown st s = start_item s
step_in (container.Classic o link) st s = record_item o link s
step_in (container.Section o) st s = block_item o st s

-- THE ITEM at the front
unfoldable pub step_of : State → List ℕ → Read
step_of st s = step_in st.container st s

-- one interface more
abbrev pub interface_added : State → (link snap : ℕ) → State
interface_added st link snap =
    record {
      container = st.container;
      links = set st.links st.described link;
      described = st.described + 1;
      snap = cond (eqb st.described 0) snap st.snap;
    }

-- a new section has no interfaces yet
abbrev pub begun_as : State → Container → State
begun_as st c = record { container = c; links = st.links; described = 0; snap = 0 }

-- WHERE THE READING STANDS behind an item
abbrev pub behind : State → Read → State
behind st (Err x) = st
behind st (Ok (item.Head c n)) = begun_as st c
behind st (Ok (item.Interface link snap n)) = cond (ltb st.described max_interfaces) (interface_added st link snap) st
behind st (Ok (item.Packet p n)) = st
behind st (Ok (item.Other n)) = st

-- and before the first octet
abbrev pub opened : State
opened = record { container = container.Unknown; links = replicate max_interfaces 0; described = 0; snap = 0 }

-- an item lies in so many octets, and a packet in its item; without a whole one there are fewer than the longest has
abbrev pub Fits : Read → ℕ → Type 0
Fits (Err unread.Short) size = size < max_item
Fits (Err (unread.Refused x)) size = Unit {0}
Fits (Ok (item.Head c n)) size = (0 < n) × (n ≤ size)
Fits (Ok (item.Interface link snap n)) size = (0 < n) × (n ≤ size)
Fits (Ok (item.Packet p n)) size = (0 < n) × (n ≤ size) × (p.at + p.size ≤ n)
Fits (Ok (item.Other n)) size = (0 < n) × (n ≤ size)

-- more than that the item is not whole yet
abbrev pub IsTold : Read → Type 0
IsTold (Err unread.Short) = ⊥
IsTold (Err (unread.Refused x)) = Unit {0}
IsTold (Ok (item.Head c n)) = Unit {0}
IsTold (Ok (item.Interface link snap n)) = Unit {0}
IsTold (Ok (item.Packet p n)) = Unit {0}
IsTold (Ok (item.Other n)) = Unit {0}
