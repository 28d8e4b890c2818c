use Rattle.std.proofs.Common.{◌∷◌, refl}
use Rattle.stream_check.specs.Message.{foreign}
use Rattle.stream_check.specs.Tallied.{with_foreign}
use Rattle.stream_check.proofs.Continuing.{plain_read, still_foreign}
use Rattle.stream_check.proofs.Counting.{foreign_tallied}
use Rattle.stream_check.proofs.OneLine.{next_foreign}
use Rattle.stream_check.proofs.rules.checker.Checker.foreign.Goals as goal

pub returns : goal.returns
returns c = λ messages read. (
  foreign ∷ messages,
  next_foreign messages,
  plain_read c.args.self.now _ foreign messages with_foreign read (λ b. refl) (λ b. refl) c.with_foreign-self.ensures.value (foreign_tallied messages) (still_foreign messages),
)
