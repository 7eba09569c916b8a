-- A capture walked whole: what is written, what is counted, and what ends it.
-- By computing.
use Rattle.std.specs.Prelude.{Some, None}
use mathlib.Core.Path.{◌≡◌, refl}
use mathlib.Core.List.{List, [], ◌∷◌, ◌++◌}
use Prim.Native.Nat.{ℕ}
use lib.ListN.{take}
use Rattle.capture_spec.specs.declared.state.Order.TheVariants as order
use Rattle.capture_spec.specs.Numbers.{word_at}
use Rattle.capture_spec.specs.Step.{step_of}
use Rattle.capture_spec.specs.Written.{head_of, record_of}
use Rattle.capture_datagram.specs.Udp.{is_for_port, udp_in}
use Rattle.capture_datagram.specs.Ip.{ipv4_in, is_ipv4_udp, is_ipv4_whole}
use Rattle.capture_datagram.specs.Link.{link_in, link_of}
use Rattle.text.specs.Text.{ascii, decimal, decimal_in}
use Rattle.program_spec.specs.Walk.{walk, walk_in}
use Rattle.pcapframes_spec.specs.Session.{begun, counted, frame_walk}
use Rattle.pcapframes_spec.specs.Told.{left_out_text, refused_text, told_text}

-- a datagram to port 20000 with two octets; to 20001; a fragment; one that was cut
datagram : (fragment port : ℕ) → List ℕ
datagram f port =
    0x45 ∷ 0 ∷ 0 ∷ 30 ∷ 0 ∷ 1 ∷ f ∷ 0 ∷ 64 ∷ 17 ∷ 0 ∷ 0 ∷ 192 ∷ 0 ∷ 2 ∷ 1 ∷ 233 ∷ 252 ∷ 0 ∷ 1 ∷ 0x13 ∷ 0x8C ∷ 0x4E ∷ port ∷ 0 ∷ 10 ∷ 0 ∷ 0 ∷ 7 ∷ 8 ∷ []

four : (link : ℕ) → List ℕ
four link =
    head_of order.Big 0xA1B2C3D4 65535 link
    ++ (record_of order.Big 1 2 30 (datagram 0 0x21)
    ++ (record_of order.Big 1 2 30 (datagram 0x20 0x20)
    ++ (record_of order.Big 1 2 30 (take 29 (datagram 0 0x20)) ++ record_of order.Big 1 2 30 (datagram 0 0x20))))

written : (walk (frame_walk 20000) begun (four 228)).text ≡ 0 ∷ 2 ∷ 7 ∷ 8 ∷ []
unfolding walk_in step_of word_at link_of link_in ipv4_in is_ipv4_udp is_ipv4_whole udp_in is_for_port four datagram
written = refl

-- four packets, of which one is a fragment and one was cut; the capture ends behind a record
packets : (walk (frame_walk 20000) begun (four 228)).state.packets ≡ 4
unfolding walk_in step_of word_at link_of link_in ipv4_in is_ipv4_udp is_ipv4_whole udp_in is_for_port four datagram
packets = refl

fragments : (walk (frame_walk 20000) begun (four 228)).state.fragments ≡ 1
unfolding walk_in step_of word_at link_of link_in ipv4_in is_ipv4_udp is_ipv4_whole udp_in is_for_port four datagram
fragments = refl

cut : (walk (frame_walk 20000) begun (four 228)).state.cut ≡ 1
unfolding walk_in step_of word_at link_of link_in ipv4_in is_ipv4_udp is_ipv4_whole udp_in is_for_port four datagram
cut = refl

whole : (walk (frame_walk 20000) begun (four 228)).state.refusal ≡ None
unfolding walk_in step_of word_at link_of link_in ipv4_in is_ipv4_udp is_ipv4_whole udp_in is_for_port four datagram
whole = refl

-- a link type that is not taken: at packet 0
not_taken : (walk (frame_walk 20000) begun (four 105)).state.refusal ≡ Some 83
unfolding walk_in step_of word_at link_of link_in ipv4_in is_ipv4_udp is_ipv4_whole udp_in is_for_port four datagram
not_taken = refl

at_first : (walk (frame_walk 20000) begun (four 105)).state.packets ≡ 0
unfolding walk_in step_of word_at link_of link_in ipv4_in is_ipv4_udp is_ipv4_whole udp_in is_for_port four datagram
at_first = refl

-- a capture that ends within its last record, and one without an octet
ends-early : (walk (frame_walk 20000) begun (take 200 (four 228))).state.refusal ≡ Some 81
unfolding walk_in step_of word_at link_of link_in ipv4_in is_ipv4_udp is_ipv4_whole udp_in is_for_port four datagram
ends-early = refl

ends-at-fourth : (walk (frame_walk 20000) begun (take 200 (four 228))).state.packets ≡ 3
unfolding walk_in step_of word_at link_of link_in ipv4_in is_ipv4_udp is_ipv4_whole udp_in is_for_port four datagram
ends-at-fourth = refl

nothing : (walk (frame_walk 20000) begun []).state.refusal ≡ Some 81
unfolding walk_in step_of word_at link_of link_in ipv4_in is_ipv4_udp is_ipv4_whole udp_in is_for_port four datagram
nothing = refl

-- what is told of the capture that ends early, and of the link type that is not taken; where a fragment was left out; and nothing where nothing was
told-both : told_text (walk (frame_walk 20000) begun (take 200 (four 228))).state ≡ ascii "fragments=1 cut=1\nrefused 81 3\n"
unfolding left_out_text refused_text decimal decimal_in ascii walk_in step_of word_at link_of link_in ipv4_in is_ipv4_udp is_ipv4_whole udp_in is_for_port four datagram
told-both = refl

told-refused : told_text (walk (frame_walk 20000) begun (four 105)).state ≡ ascii "refused 83 0\n"
unfolding left_out_text refused_text decimal decimal_in ascii walk_in step_of word_at link_of link_in ipv4_in is_ipv4_udp is_ipv4_whole udp_in is_for_port four datagram
told-refused = refl

told-fragment : told_text (counted begun 1 0) ≡ ascii "fragments=1 cut=0\n"
unfolding left_out_text refused_text decimal decimal_in ascii
told-fragment = refl

nothing-told : told_text (counted begun 0 0) ≡ []
unfolding left_out_text refused_text
nothing-told = refl
