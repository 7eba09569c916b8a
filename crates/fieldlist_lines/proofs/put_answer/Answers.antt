-- By the answer.
use Rattle.std.proofs.Common.{ap, sym}
use Rattle.depacketizer_spec.specs.declared.state.Answer.{Answer}
use Rattle.text.specs.Text.{ascii}
use Rattle.text.proofs.PutLaws.{same}
use Rattle.fieldlist_lines.specs.Lines.{answer_text}
use Rattle.fieldlist_lines.proofs.put_answer.Goals as goal

pub returns-in-Skipped : goal.returns-in-Skipped
unfolding ascii
returns-in-Skipped c = same (sym (ap (λ (x : Answer). answer_text c.args.number x c.args.store.now) c.in-Skipped.is)) c.put_numbered.ensures.put

pub returns-in-Held : goal.returns-in-Held
unfolding ascii
returns-in-Held c = same (sym (ap (λ (x : Answer). answer_text c.args.number x c.args.store.now) c.in-Held.is)) c.put_numbered-in-Held.ensures.put

pub returns-in-Mixed : goal.returns-in-Mixed
unfolding ascii
returns-in-Mixed c = same (sym (ap (λ (x : Answer). answer_text c.args.number x c.args.store.now) c.in-Mixed.is)) c.put_numbered-in-Mixed.ensures.put

pub returns-in-Overfull : goal.returns-in-Overfull
unfolding ascii
returns-in-Overfull c = same (sym (ap (λ (x : Answer). answer_text c.args.number x c.args.store.now) c.in-Overfull.is)) c.put_numbered-in-Overfull.ensures.put
