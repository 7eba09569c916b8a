-- `put_told` puts what was left out, and behind it the refusal.
-- By whether there was one; two pieces one behind the other are one piece.
use Rattle.std.specs.Prelude.{Option, ℕ}
use mathlib.Core.Path.{◌≡◌, ap, sym}
use mathlib.Core.List.{◌++◌}
use native.Mathlib.Omega.{arith}
use Rattle.text.specs.Text.{ascii}
use Rattle.text.proofs.PutLaws.{both, nothing, same}
use Rattle.pcapframes_spec.specs.declared.session.Session.{Session}
use Rattle.pcapframes_spec.specs.Told.{left_out_text, refused_text, told_text}
use Rattle.pcapframes_session.proofs.told.put_told.Goals as goal

-- what is told, by where the walk stands
told_at : (s : Session) (k : Option ℕ) → s.refusal ≡ k → left_out_text s.fragments s.cut ++ refused_text k s.packets ≡ told_text s
told_at s k e = ap (λ (z : Option ℕ). left_out_text s.fragments s.cut ++ refused_text z s.packets) (sym e)

pub returns-in-None : goal.returns-in-None
unfolding refused_text
returns-in-None c = record { put = same (told_at c.args.session _ c.in-None.is) (both c.put_left_out-next.ensures.put (nothing _ _ (omega (arith, c.put_left_out-next.ensures.upper_bound)))); upper_bound = omega (arith, c.put_left_out-next.ensures.upper_bound) }

pub returns-in-Some : goal.returns-in-Some
unfolding refused_text ascii
returns-in-Some c = record { put = same (told_at c.args.session _ c.in-Some.is) (both c.put_left_out-next.ensures.put c.put_line.ensures.put); upper_bound = omega (arith, c.put_left_out-next.ensures.upper_bound, c.put_line.ensures.upper_bound) }
