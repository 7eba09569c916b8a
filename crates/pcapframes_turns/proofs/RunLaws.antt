-- The counts of a session are at most the turns that were made; and the whole run, said of the frames.
-- Each item raises each of them by one at the most; the text of the walk is the frames.
use mathlib.Core.Path.{◌≡◌, refl, sym, subst, ◌∙◌}
use mathlib.Core.List.{List, append-nil}
use Prim.Native.Nat.{ℕ, ◌+◌, ◌<◌, ◌≤◌}
use native.Mathlib.Omega.{arith}
use lib.ListN.{length}
use Rattle.capture_spec.specs.Numbers.{max_item}
use Rattle.program_spec.specs.Run.{At, Ready, Started, turning, unused}
use Rattle.program_spec.specs.Turns.{Lasts, Passed, Stopped, max_turns, turns_of}
use Rattle.program_spec.specs.Walk.{over, taken}
use Rattle.program_spec.proofs.RunLaws.{item-counts, run-ended}
use Rattle.program_spec.proofs.StepLaws.{closed-without}
use Rattle.program_spec.proofs.TurnLaws.{counts-turns}
use Rattle.pcapframes_spec.specs.declared.session.Session.{Session}
use Rattle.pcapframes_spec.specs.Frames.{frames_of}
use Rattle.pcapframes_spec.specs.Session.{Countable, begun, frame_walk, last_of}
use Rattle.pcapframes_spec.proofs.FrameLaws.{walk-text}
use Rattle.pcapframes_spec.proofs.SessionLaws.{lawful, over-counts, taken-seen}
use Rattle.pcapframes_turns.specs.Turns.{Ended, Enough}
use Rattle.pcapframes_turns.proofs.TurnLaws.{room-for-frame}

-- while a turn is left, one packet more can be counted
pub countable : {port : ℕ} {from here : At Session} {read written : List ℕ} → from.state ≡ begun
    → (p : Passed (turning (frame_walk port)) from read written here) → turns_of (turning (frame_walk port)) p < max_turns → Countable here.state
countable {port} {from} {here} b p left =
    let zero : (g : Session → ℕ) → g from.state ≡ g begun = λ g i. g (b i) in
    let most : (g : Session → ℕ) → ((s : Session) (o : List ℕ) (n : ℕ) (t : List ℕ) (z : Session) → (frame_walk port).front s o ≡ taken n t z → g z ≤ g s + 1)
    → ((s : Session) (o : List ℕ) (z : Session) → (frame_walk port).front s o ≡ over z → g z ≤ g s + 1) → g here.state ≤ g from.state + turns_of (turning (frame_walk port)) p =
    λ g x y. counts-turns (turning (frame_walk port)) (λ (a : At Session). g a.state) (item-counts (frame_walk port) g x y) p in
    record {
      packets = omega (arith, left, zero (λ s. s.packets), most (λ s. s.packets) (λ s o n t z q. (taken-seen port s o n t z q).packets) (λ s o z q. omega (arith, (over-counts port s o z q).0)));
      fragments = omega (arith, left, zero (λ s. s.fragments), most (λ s. s.fragments) (λ s o n t z q. (taken-seen port s o n t z q).fragments) (λ s o z q. omega (arith, (over-counts port s o z q).1)));
      cut = omega (arith, left, zero (λ s. s.cut), most (λ s. s.cut) (λ s o n t z q. (taken-seen port s o n t z q).cut) (λ s o z q. omega (arith, (over-counts port s o z q).2)));
    }

pub lasts : {port : ℕ} {from : At Session} {i c o : ℕ} → Started (frame_walk port) begun from → Enough i o
    → Lasts (turning (frame_walk port)) max_turns from (Ready (frame_walk port) max_item (λ s cells. s) (λ s cells. Countable s) i c o)
lasts t e read written here p left session cells size carried =
    (record { item = e.item; text = room-for-frame e }, subst Countable carried (countable t.state p left))

-- the whole run, said of the frames; there is no last text
pub ended : {port : ℕ} {from here : At Session} → Started (frame_walk port) begun from → Stopped (turning (frame_walk port)) max_turns from here
    → {s : Session} → s ≡ last_of here.state (length (unused here))
    → Ended port s here.input here.out here.buffers
ended {port} {here = here} t f last =
    let closed = closed-without (frame_walk port) {a = here} refl in
    let r = run-ended (frame_walk port) (lawful port) (frames_of port) (λ l. sym (walk-text port l)) t f closed in
    record {
      before = here;
      run = r;
      holds = (refl, refl);
      at_last = last;
      complete = λ h. sym (append-nil r.written) ∙ r.but_last h;
      carries = λ h. last ∙ r.carries h;
    }
