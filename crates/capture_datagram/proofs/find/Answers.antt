-- `find` tells what a captured packet holds for a port.
-- By its link type.
use mathlib.Core.Path.{◌≡◌, ap, sym, ◌∙◌}
use Rattle.capture_datagram.specs.declared.link.Link.{Link}
use Rattle.capture_datagram.specs.Link.{link_in, datagram_in}
use Rattle.capture_datagram.proofs.LinkLaws.{beyond-none}
use Rattle.capture_datagram.proofs.find.Goals as goal

pub returns-in-Ethernet : goal.returns-in-Ethernet
unfolding link_in
returns-in-Ethernet c = let told : (k : Link) → c.link_of-kind.result ≡ k → let a = c.args in link_in k a.port a.packet.now ≡ datagram_in a.packet.now a.link a.port = λ _ e. let a = c.args in ap (λ (k : Link). link_in k a.port a.packet.now) (sym e ∙ c.link_of-kind.ensures) in
    c.tagged_behind.ensures ∙ told _ c.in-Ethernet.is

pub returns-in-Cooked : goal.returns-in-Cooked
unfolding link_in
returns-in-Cooked c = let told : (k : Link) → c.link_of-kind.result ≡ k → let a = c.args in link_in k a.port a.packet.now ≡ datagram_in a.packet.now a.link a.port = λ _ e. let a = c.args in ap (λ (k : Link). link_in k a.port a.packet.now) (sym e ∙ c.link_of-kind.ensures) in
    c.tagged_behind-in-Cooked.ensures ∙ told _ c.in-Cooked.is

pub returns-in-CookedV2 : goal.returns-in-CookedV2
unfolding link_in
returns-in-CookedV2 c = let told : (k : Link) → c.link_of-kind.result ≡ k → let a = c.args in link_in k a.port a.packet.now ≡ datagram_in a.packet.now a.link a.port = λ _ e. let a = c.args in ap (λ (k : Link). link_in k a.port a.packet.now) (sym e ∙ c.link_of-kind.ensures) in
    c.cooked_v2.ensures ∙ told _ c.in-CookedV2.is

pub returns-in-Raw : goal.returns-in-Raw
unfolding link_in
returns-in-Raw c = let told : (k : Link) → c.link_of-kind.result ≡ k → let a = c.args in link_in k a.port a.packet.now ≡ datagram_in a.packet.now a.link a.port = λ _ e. let a = c.args in ap (λ (k : Link). link_in k a.port a.packet.now) (sym e ∙ c.link_of-kind.ensures) in
    c.raw.ensures ∙ told _ c.in-Raw.is

pub returns-in-Ipv4 : goal.returns-in-Ipv4
unfolding link_in
returns-in-Ipv4 c = let told : (k : Link) → c.link_of-kind.result ≡ k → let a = c.args in link_in k a.port a.packet.now ≡ datagram_in a.packet.now a.link a.port = λ _ e. let a = c.args in ap (λ (k : Link). link_in k a.port a.packet.now) (sym e ∙ c.link_of-kind.ensures) in
    c.ipv4_at.ensures ∙ beyond-none _ ∙ told _ c.in-Ipv4.is

pub returns-in-Ipv6 : goal.returns-in-Ipv6
unfolding link_in
returns-in-Ipv6 c = let told : (k : Link) → c.link_of-kind.result ≡ k → let a = c.args in link_in k a.port a.packet.now ≡ datagram_in a.packet.now a.link a.port = λ _ e. let a = c.args in ap (λ (k : Link). link_in k a.port a.packet.now) (sym e ∙ c.link_of-kind.ensures) in
    c.ipv6_at.ensures ∙ beyond-none _ ∙ told _ c.in-Ipv6.is

pub returns-in-Other : goal.returns-in-Other
unfolding link_in
returns-in-Other c = let told : (k : Link) → c.link_of-kind.result ≡ k → let a = c.args in link_in k a.port a.packet.now ≡ datagram_in a.packet.now a.link a.port = λ _ e. let a = c.args in ap (λ (k : Link). link_in k a.port a.packet.now) (sym e ∙ c.link_of-kind.ensures) in
    told _ c.in-Other.is
