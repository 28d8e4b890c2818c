use Rattle.std.proofs.Common.{◌∷◌, ap, refl}
use Rattle.stream_check.specs.Lines.{as_first}
use Rattle.stream_check.specs.Message.{foreign, version}
use Rattle.stream_check.specs.MessageView.{message_view}
use Rattle.stream_check.specs.Tallied.{with_foreign, with_version}
use Rattle.stream_check.proofs.Continuing.{plain_read, still_foreign, still_version}
use Rattle.stream_check.proofs.Counting.{foreign_tallied, version_tallied}
use Rattle.stream_check.proofs.rules.checker.Checker.first.Goals as goal

pub returns-in-Version : goal.returns-in-Version
returns-in-Version c = λ messages read. (
  version ∷ messages,
  ap (λ m. as_first messages (message_view m)) c.in-Version.is,
  plain_read c.args.self.now _ version messages with_version read (λ b. refl) (λ b. refl) c.with_version-self.ensures.value (version_tallied messages) (still_version messages),
)

pub returns-in-Foreign : goal.returns-in-Foreign
returns-in-Foreign c = λ messages read. (
  foreign ∷ messages,
  ap (λ m. as_first messages (message_view m)) c.in-Foreign.is,
  plain_read c.args.self.now _ foreign messages with_foreign read (λ b. refl) (λ b. refl) c.with_foreign-self.ensures.value (foreign_tallied messages) (still_foreign messages),
)
