-- `is_link_taken` tells whether the packets of a link type are looked into.
-- By the definition.
use mathlib.Core.Path.{◌≡◌, ap, sym, ◌∙◌}
use Rattle.capture_datagram.specs.declared.link.Link.{Link}
use Rattle.capture_datagram.specs.Link.{is_taken, is_link_taken}
use Rattle.capture_datagram.proofs.link.is_link_taken.Goals as goal

pub returns-in-Ethernet : goal.returns-in-Ethernet
returns-in-Ethernet c = let told : (k : Link) → c.link_of-link.result ≡ k → is_taken k ≡ is_link_taken c.args.number = λ _ e. ap is_taken (sym e ∙ c.link_of-link.ensures) in
    told _ c.in-Ethernet.is

pub returns-in-Cooked : goal.returns-in-Cooked
returns-in-Cooked c = let told : (k : Link) → c.link_of-link.result ≡ k → is_taken k ≡ is_link_taken c.args.number = λ _ e. ap is_taken (sym e ∙ c.link_of-link.ensures) in
    told _ c.in-Cooked.is

pub returns-in-CookedV2 : goal.returns-in-CookedV2
returns-in-CookedV2 c = let told : (k : Link) → c.link_of-link.result ≡ k → is_taken k ≡ is_link_taken c.args.number = λ _ e. ap is_taken (sym e ∙ c.link_of-link.ensures) in
    told _ c.in-CookedV2.is

pub returns-in-Raw : goal.returns-in-Raw
returns-in-Raw c = let told : (k : Link) → c.link_of-link.result ≡ k → is_taken k ≡ is_link_taken c.args.number = λ _ e. ap is_taken (sym e ∙ c.link_of-link.ensures) in
    told _ c.in-Raw.is

pub returns-in-Ipv4 : goal.returns-in-Ipv4
returns-in-Ipv4 c = let told : (k : Link) → c.link_of-link.result ≡ k → is_taken k ≡ is_link_taken c.args.number = λ _ e. ap is_taken (sym e ∙ c.link_of-link.ensures) in
    told _ c.in-Ipv4.is

pub returns-in-Ipv6 : goal.returns-in-Ipv6
returns-in-Ipv6 c = let told : (k : Link) → c.link_of-link.result ≡ k → is_taken k ≡ is_link_taken c.args.number = λ _ e. ap is_taken (sym e ∙ c.link_of-link.ensures) in
    told _ c.in-Ipv6.is

pub returns-in-Other : goal.returns-in-Other
returns-in-Other c = let told : (k : Link) → c.link_of-link.result ≡ k → is_taken k ≡ is_link_taken c.args.number = λ _ e. ap is_taken (sym e ∙ c.link_of-link.ensures) in
    told _ c.in-Other.is
