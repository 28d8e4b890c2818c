use Rattle.std.proofs.Common.{◌∷◌, false, refl}
use Rattle.std.specs.Option.{option_copied}
use Rattle.stream_check.specs.Message.{diagnostic}
use Rattle.stream_check.specs.Tallied.{with_line}
use Rattle.stream_check.proofs.Continuing.{plain_read, still_warning}
use Rattle.stream_check.proofs.Counting.{warning_tallied}
use Rattle.stream_check.proofs.rules.checker.Checker.warning.Goals as goal

pub returns : goal.returns
returns c = λ messages read.
    let address = option_copied c.args.address in (
      diagnostic false address ∷ messages,
      refl,
      plain_read c.args.self.now _ (diagnostic false address) messages with_line read (λ b. refl) (λ b. refl) c.with_line-self.ensures.value (warning_tallied address messages) (still_warning address messages),
    )
