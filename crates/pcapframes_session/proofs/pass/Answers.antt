-- `pass` goes behind an item that is no packet.
-- As it stands.
use Rattle.program_spec.specs.declared.buffers.Step.TheVariants as step
use Rattle.pcapframes_spec.specs.Session.{moved}
use Rattle.pcapframes_session.proofs.pass.Goals as goal

pub returns : goal.returns
returns c = let a = c.args in λ i. record { session = moved a.session (c.next_state.ensures i); step = step.Taken a.used 0 }
