use Rattle.std.proofs.Common.{List, ℕ}
use Rattle.std.specs.Borrow.{Bor}
use Rattle.stream_check.proofs.Joined.{joined_at}
use Rattle.stream_check.proofs.messages.hook.address_of.Goals as goal

pub returns : goal.returns
returns c = joined_at (λ (address : Bor (List ℕ)). address.now) _ _ _ _ _ c.and.ensures c.object_at.ensures c.inner_text_at.ensures
