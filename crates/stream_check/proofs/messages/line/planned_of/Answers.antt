use Rattle.std.proofs.Common.{List, ℕ}
use Rattle.std.specs.Borrow.{Bor}
use Rattle.stream_check.proofs.Joined.{fault_of_both}
use Rattle.stream_check.proofs.messages.line.planned_of.Goals as goal

pub returns-in-Err : goal.returns-in-Err
returns-in-Err c = fault_of_both (λ (text : Bor (List ℕ)). text.now) _ _ _ _ _ c.and.ensures c.object_at.ensures c.text_at.ensures c.in-Err.fault _ c.in-Err.is
