-- `put_answer` puts the field of an answer that hands one out.
-- By the answer.
use mathlib.Core.Path.{ap, sym}
use Rattle.fieldfile_spec.specs.File.{fields_octets, written_version}
use Rattle.depacketizer_spec.specs.declared.state.Answer.{Answer}
use Rattle.text.proofs.PutLaws.{same}
use Rattle.fieldsave_session.specs.Filing.{handed_by}
use Rattle.fieldsave_session.proofs.FieldLaws.{no_field}
use Rattle.fieldsave_session.proofs.put_answer.Goals as goal

pub returns-in-Whole : goal.returns-in-Whole
returns-in-Whole c = same (sym (ap (λ (x : Answer). fields_octets written_version (handed_by x c.args.store.now)) c.in-Whole.is)) c.put_field.ensures

pub returns-in-Skipped : goal.returns-in-Skipped
returns-in-Skipped c = no_field c.args.answer c.args.store.now c.args.out.now (ap (λ (x : Answer). handed_by x c.args.store.now) c.in-Skipped.is)

pub returns-in-Held : goal.returns-in-Held
returns-in-Held c = no_field c.args.answer c.args.store.now c.args.out.now (ap (λ (x : Answer). handed_by x c.args.store.now) c.in-Held.is)

pub returns-in-Mixed : goal.returns-in-Mixed
returns-in-Mixed c = no_field c.args.answer c.args.store.now c.args.out.now (ap (λ (x : Answer). handed_by x c.args.store.now) c.in-Mixed.is)

pub returns-in-Overfull : goal.returns-in-Overfull
returns-in-Overfull c = no_field c.args.answer c.args.store.now c.args.out.now (ap (λ (x : Answer). handed_by x c.args.store.now) c.in-Overfull.is)

pub returns-in-Refused : goal.returns-in-Refused
returns-in-Refused c = no_field c.args.answer c.args.store.now c.args.out.now (ap (λ (x : Answer). handed_by x c.args.store.now) c.in-Refused.is)
