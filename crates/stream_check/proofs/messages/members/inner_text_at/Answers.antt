use Rattle.std.proofs.Common.{List, ℕ}
use Rattle.std.specs.Borrow.{Bor}
use Rattle.stream_check.proofs.Joined.{joined_at}
use Rattle.stream_check.proofs.messages.members.inner_text_at.Goals as goal

pub returns : goal.returns
returns c = joined_at (λ (text : Bor (List ℕ)). text.now) _ _ _ _ _ c.and.ensures c.object_at.ensures c.text_at.ensures
