-- FRAMES ARE ITEMS: a program over frames is a lawful one over items, and what it prints frame by frame is its walk's text.
-- By what stands at the front; the frame that was read is the frame of the whole input.
use mathlib.Core.Path.{◌≡◌, refl, ap, sym, ◌∙◌}
use mathlib.Core.List.{List, [], ◌++◌, append-nil}
use mathlib.Core.Bool.{true}
use Prim.Native.Nat.{ℕ, zero, suc, ◌+◌, ◌≤◌, ◌<◌}
use native.Mathlib.Omega.{arith}
use lib.ListN.{length, take, drop, length-drop}
use lib.Seq.{drop-drop, length-take-le}
use Rattle.wire_spec.specs.Bits.{overwrite}
use Rattle.rtp_frames.specs.Answers.{front_of}
use Rattle.rtp_frames.specs.Frames as rfc
use Rattle.rtp_frames.specs.Frames.{end, cut, frame, is_broken, length_size, max_frame}
use Rattle.rtp_frames.proofs.FrameLaws.{FrameAt, frame_found}
use Rattle.rtp_frames.proofs.NextLaws.{front-longer, shorter}
use Rattle.program_spec.specs.Walk.{taken, over, Lawful, onward, walk_in, walk}
use Rattle.program_spec.specs.declared.buffers.Step.TheVariants as answer
use Rattle.program_spec.specs.Frames.{FrameProgram, frame_front, over_frames}
use Rattle.program_spec.specs.Run.{Answers, At, Turned}
use Rattle.program_spec.proofs.RunLaws.{item-counts}
use Rattle.program_spec.proofs.StepLaws.{is-short, is-taken}

-- what lies behind a frame
behind-frame : (s p rest : List ℕ) → rfc.front s ≡ frame p rest → rest ≡ drop (length_size + length p) s
behind-frame s p rest e =
    let f = frame_found s (length p) (ap front_of e) in
    rest-is (sym e ∙ f.is) ∙ drop-drop (length p) length_size s
  where
    rest-is : {q t : List ℕ} → frame p rest ≡ frame q t → rest ≡ t
    rest-is g = cc

-- no whole frame stands there
abbrev pub NoFrame : rfc.Front → Type 0
NoFrame f = (p rest : List ℕ) → f ≡ frame p rest → ⊥

module _ (F : FrameProgram) where
  -- an item is a frame
  record Is (s : F.State) (f : rfc.Front) (n : ℕ) (t : List ℕ) (z : F.State) : Type 0 where
    pub packet : List ℕ
    pub rest : List ℕ
    pub front : f ≡ frame packet rest
    pub used : length_size + length packet ≡ n
    pub is : frame_front F s (frame packet rest) ≡ taken n t z
    pub next : z ≡ F.next s packet

  is-frame : (s : F.State) (f : rfc.Front) (n : ℕ) (t : List ℕ) (z : F.State) → frame_front F s f ≡ taken n t z → Is s f n t z
  is-frame s end n t z e = let o : ◌≡◌ {A = ℕ} 0 1 = cc in absurd (omega arith)
  is-frame s cut n t z e = let o : ◌≡◌ {A = ℕ} 0 1 = cc in absurd (omega arith)
  is-frame s (frame p rest) n t z e = record { packet = p; rest = rest; front = refl; used = cc; is = e; next = cc }

  never-over : (s : F.State) (f : rfc.Front) (z : F.State) → frame_front F s f ≡ over z → ⊥
  never-over s end z e = let o : ◌≡◌ {A = ℕ} 0 1 = cc in omega arith
  never-over s cut z e = let o : ◌≡◌ {A = ℕ} 0 1 = cc in omega arith
  never-over s (frame p rest) z e = let o : ◌≡◌ {A = ℕ} 0 1 = cc in omega arith

  pub lawful : Lawful (over_frames F)
  lawful =
      record {
        some = λ s o n t z e. omega (arith, (is-frame s (rfc.front o) n t z e).used);
        inside =
            λ s o n t z e. let i = is-frame s (rfc.front o) n t z e in
            omega (arith, i.used, (frame_found o (length i.packet) (ap front_of i.front)).inside);
        taken-longer =
            λ s o more n t z e. let i = is-frame s (rfc.front o) n t z e in
            ap (frame_front F s) (front-longer o more i.packet i.rest i.front) ∙ i.is;
        stays = λ s o z e. absurd (never-over s (rfc.front o) z e);
        over-longer = λ s o more z e. absurd (never-over s (rfc.front o) z e);
      }

  -- a number that a packet raises by 1 at the most, a turn does
  pub frame-counts : (f : F.State → ℕ) → ((s : F.State) (p : List ℕ) → f (F.next s p) ≤ f s + 1) → (a b : At F.State) → Turned (over_frames F) a b → f b.state ≤ f a.state + 1
  frame-counts f h = item-counts (over_frames F) f (λ s o n t z e. let i = is-frame s (rfc.front o) n t z e in omega (arith, h s i.packet, ap f i.next)) (λ s o z e. absurd (never-over s (rfc.front o) z e))

  -- what is answered where there is room: no whole frame, or the packet that was found, with its text put
  module _ {s : F.State} {o out : List ℕ} (room : F.room s (length out) ≡ true) where
    pub end-answers : rfc.front o ≡ end → length o < max_frame → Answers (over_frames F) max_frame s o out answer.Short s out
    end-answers e h = is-short (over_frames F) room (ap (frame_front F s) e) h

    pub cut-answers : rfc.front o ≡ cut → length o < max_frame → Answers (over_frames F) max_frame s o out answer.Short s out
    cut-answers e h = is-short (over_frames F) room (ap (frame_front F s) e) h

    pub frame-answers : (n : ℕ) → FrameAt o n → {p : List ℕ} → p ≡ take n (drop 2 o) → {s' : F.State} {size : ℕ} {out' : List ℕ}
        → s' ≡ F.next s p → size ≡ length (F.text s p) → out' ≡ overwrite (F.text s p) out → size ≤ length out
        → Answers (over_frames F) max_frame s o out (answer.Taken (length_size + n) size) s' out'
    frame-answers n f {p} q e k w i =
        let m : length p ≡ n = ap length q ∙ length-take-le n (drop 2 o) (rw (length-drop 2 o) (omega (arith, f.inside))) in
        is-taken (over_frames F) room (ap (frame_front F s) (f.is ∙ ap (λ (x : List ℕ). frame x (drop n (drop 2 o))) (sym q))) (omega (arith, m)) k e w f.inside i

  -- WHAT IS PRINTED FRAME BY FRAME for the rest of an input: a frame that was read gives its packet's text, and then what is printed for the rest, read or
  -- not; where no frame is in all that is left, the last lines
  pub record Prints (remaining : F.State → List ℕ → List ℕ) : Type 0 where
    pub next : (s : F.State) (read unread p rest : List ℕ) → rfc.front read ≡ frame p rest
        → remaining s (read ++ unread) ≡ F.text s p ++ remaining (F.next s p) (rest ++ unread)
    pub last : (s : F.State) (left : List ℕ) → NoFrame (rfc.front left) → remaining s left ≡ F.last (is_broken (rfc.front left)) s

  module _ (remaining : F.State → List ℕ → List ℕ) (prints : Prints remaining) where
    prints-in : (m : ℕ) (s : F.State) (o : List ℕ) → length o < m → remaining s o ≡ (walk_in (over_frames F) m s o).text
    unfolding walk_in
    prints-in zero s o h = absurd (omega arith)
    prints-in (suc m) s o h = go (λ z r. prints-in m z r) (rfc.front o) refl
      where
        go : ((z : F.State) (r : List ℕ) → length r < m → remaining z r ≡ (walk_in (over_frames F) m z r).text) → (f : rfc.Front) → rfc.front o ≡ f
            → remaining s o ≡ (onward (over_frames F) (walk_in (over_frames F) m) s o (frame_front F s f)).text
        go ih end e = prints.last s o (λ p rest q. let z : ◌≡◌ {A = ℕ} 0 1 = cc in omega arith)
        go ih cut e = prints.last s o (λ p rest q. let z : ◌≡◌ {A = ℕ} 0 1 = cc in omega arith)
        go ih (frame p rest) e =
            ap (remaining s) (sym (append-nil o)) ∙ prints.next s o [] p rest e
            ∙ ap (λ (r : List ℕ). F.text s p ++ remaining (F.next s p) r) (append-nil rest ∙ behind-frame o p rest e)
            ∙ ap (λ (r : List ℕ). F.text s p ++ r)
            (ih (F.next s p) (drop (length_size + length p) o) (omega (arith, shorter o p rest e, ap length (behind-frame o p rest e))))

    -- it is the text of the walk
    pub walk_is : (s : F.State) (o : List ℕ) → remaining s o ≡ (walk (over_frames F) s o).text
    walk_is s o = prints-in (suc (length o)) s o (omega arith)
