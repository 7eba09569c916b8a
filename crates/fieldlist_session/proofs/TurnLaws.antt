-- What one packet does, from what the code found: refused before a depacketizer is open, or arrived at one.
-- By the session, and by what was checked.
use mathlib.Core.Path.{◌≡◌, refl, ap, sym, ◌∙◌}
use mathlib.Core.Bool.{Bool, true, false}
use mathlib.Core.List.{List}
use Prim.Native.Nat.{ℕ, ◌+◌, ◌*◌, ◌-◌, ◌/◌, ◌≤◌}
use native.Mathlib.Omega.{arith}
use borrow.Author.Tests.{le-leb, lt-leb, leb-true, leb-false}
use lib.Dec.{leb}
use Rattle.wire_spec.specs.declared.refusal.Refusal.{Refusal}
use Rattle.wire_spec.specs.Layout.{Layout}
use Rattle.wire_spec.specs.Result.{Result, Err, Ok}
use Rattle.wire_spec.specs.Packet.{Content, read_content}
use Rattle.depacketizer.specs.Answers.{inspected_of}
use Rattle.depacketizer.specs.declared.inspect.Inspected.{Inspected}
use Rattle.depacketizer.specs.declared.state.Depacketizer.{Depacketizer}
use Rattle.depacketizer_spec.specs.Step.{step}
use Rattle.fieldlist_lines.specs.Lines.{refused_text}
use Rattle.fieldlist_lines.specs.Room.{line_room}
use Rattle.fieldlist_records.specs.Records.{cell_room}
use Rattle.fieldlist_session.specs.declared.session.Session.{Session}
use Rattle.fieldlist_session.specs.declared.session.Session.TheVariants as session
use Rattle.fieldlist_session.specs.Answers.{entered_by, number_in}
use Rattle.fieldlist_session.specs.Session.{number_of, entered, layout_in, turn, turn_by, arrived}

-- what was inspected in the session's layout: its number, and the depacketizer that it arrives at
module _ (v : Session) (octets : List ℕ) (L : Layout) (i : Result Inspected)
    (said : L ≡ layout_in v) (is : i ≡ inspected_of L octets (read_content L octets)) where
  numbers : (r : Result Content) → number_in (inspected_of L octets r) ≡ number_of r
  numbers (Err x) = refl
  numbers (Ok k) = refl

  enters : (w : Session) (r : Result Content) → entered_by w (inspected_of L octets r) ≡ entered w r
  enters (session.Waiting M) (Err x) = refl
  enters (session.Waiting M) (Ok k) = refl
  enters (session.Open M d) r = refl

  pub number-found : number_in i ≡ number_of (read_content (layout_in v) octets)
  number-found =
      ap number_in is ∙ numbers (read_content L octets) ∙ ap (λ (M : Layout). number_of (read_content M octets)) said

  pub entry_found : entered_by v i ≡ entered v (read_content (layout_in v) octets)
  entry_found =
      ap (entered_by v) is ∙ enters v (read_content L octets)
      ∙ ap (λ (M : Layout). entered v (read_content M octets)) said

module _ (v : Session) (octets store : List ℕ) (o : Result Depacketizer) (entry : o ≡ entered v (read_content (layout_in v) octets)) where
  abbrev content : Result Content
  content = read_content (layout_in v) octets

  by : (p : Result Depacketizer) → o ≡ p → turn v octets store ≡ turn_by v (number_of content) octets store p
  unfolding turn
  by p e = ap (turn_by v (number_of content) octets store) (sym entry ∙ e)

  -- no depacketizer, and none opened
  pub turn-refused : (x : Refusal) → o ≡ Err x → turn v octets store ≡ record { session = v; store = store; text = refused_text x }
  turn-refused x e = by (Err x) e

  -- one that is open
  pub turn-arrived : (d : Depacketizer) → o ≡ Ok d → turn v octets store ≡ arrived (layout_in v) (number_of content) (step d.state (layout_in v) octets store)
  turn-arrived d e = by (Ok d) e

-- "Which layout applies is told by the caller" (02, K3): a session keeps the one that it began with
pub layout_stays : (v : Session) (p store : List ℕ) → layout_in (turn v p store).session ≡ layout_in v
unfolding turn
layout_stays v p store = go (number_of (read_content (layout_in v) p)) (entered v (read_content (layout_in v) p))
  where
    go : (n : ℕ) (o : Result Depacketizer) → layout_in (turn_by v n p store o).session ≡ layout_in v
    go n (Err x) = refl
    go n (Ok d) = refl

-- the test for room, by division
pub divided : (s o : ℕ) → line_room ≤ o → leb s ((o - line_room) / cell_room) ≡ leb (line_room + cell_room * s) o
divided s o h = go (leb s ((o - line_room) / cell_room)) refl
  where
    go : (b : Bool) → leb s ((o - line_room) / cell_room) ≡ b → leb s ((o - line_room) / cell_room) ≡ leb (line_room + cell_room * s) o
    go true e = e ∙ sym (le-leb (line_room + cell_room * s) o (omega (arith, leb-true s ((o - line_room) / cell_room) e)))
    go false e = e ∙ sym (lt-leb (line_room + cell_room * s) o (omega (arith, leb-false s ((o - line_room) / cell_room) e)))
