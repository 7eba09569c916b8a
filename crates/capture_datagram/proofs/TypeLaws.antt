-- The link types that are looked into, and no other.
use mathlib.Core.Path.{◌≡◌, ap}
use mathlib.Core.Bool.{true, false}
use mathlib.Core.List.{List}
use mathlib.Core.Logic.{inl, inr}
use Prim.Native.Nat.{ℕ}
use borrow.Author.Tests.{ne_eqb}
use Rattle.capture_datagram.specs.declared.answer.Found.TheVariants as found
use Rattle.capture_datagram.specs.declared.link.Link.{Link}
use Rattle.capture_datagram.specs.declared.link.Link.TheVariants as link
use Rattle.capture_datagram.specs.Link.{link_of, link_in, is_taken, is_link_taken, datagram_in}
use Rattle.capture_datagram.specs.Wrapped.{LinkNumber}

pub link-taken : (n : ℕ) → LinkNumber n → is_link_taken n ≡ true
unfolding link_of
link-taken n (inl e) = ap is_link_taken e
link-taken n (inr (inl e)) = ap is_link_taken e
link-taken n (inr (inr (inl e))) = ap is_link_taken e
link-taken n (inr (inr (inr (inl e)))) = ap is_link_taken e
link-taken n (inr (inr (inr (inr (inl e))))) = ap is_link_taken e
link-taken n (inr (inr (inr (inr (inr (inl e)))))) = ap is_link_taken e
link-taken n (inr (inr (inr (inr (inr (inr e)))))) = ap is_link_taken e

module _ (n : ℕ) (none : LinkNumber n → ⊥) where
  other-link : link_of n ≡ link.Other
  unfolding link_of
  other-link =
      rw (
        ne_eqb n 1 (λ e. none (inl e)),
        ne_eqb n 113 (λ e. none (inr (inl e))),
        ne_eqb n 276 (λ e. none (inr (inr (inl e)))),
        ne_eqb n 12 (λ e. none (inr (inr (inr (inl e))))),
        ne_eqb n 101 (λ e. none (inr (inr (inr (inr (inl e)))))),
        ne_eqb n 228 (λ e. none (inr (inr (inr (inr (inr (inl e))))))),
        ne_eqb n 229 (λ e. none (inr (inr (inr (inr (inr (inr e))))))),
      )

  pub other-link-not-taken : is_link_taken n ≡ false
  other-link-not-taken = ap is_taken other-link

  pub other-link-passed : (packet : List ℕ) (port : ℕ) → datagram_in packet n port ≡ found.Passed
  unfolding link_in
  other-link-passed packet port = ap (λ (l : Link). link_in l port packet) other-link
