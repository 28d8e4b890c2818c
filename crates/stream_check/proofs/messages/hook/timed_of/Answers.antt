use Rattle.stream_check.specs.declared.messages.message.Subject.{Subject}
use Rattle.stream_check.proofs.Joined.{fault_of_both}
use Rattle.stream_check.proofs.messages.hook.timed_of.Goals as goal

pub returns-in-Err : goal.returns-in-Err
returns-in-Err c = fault_of_both (λ (s : Subject). (s.address.now, s.word.now)) _ _ _ _ _ c.and.ensures c.object_at.ensures c.subject_of.ensures c.in-Err.fault _ c.in-Err.is
