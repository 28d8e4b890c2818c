use Rattle.std.proofs.Common.{◌≡◌, ◌∷◌, ap, refl, true, None}
use Rattle.std.specs.Option.{option_copied}
use Rattle.stream_check.specs.Message.{diagnostic}
use Rattle.stream_check.specs.Tallied.{with_error}
use Rattle.stream_check.proofs.Continuing.{plain_read, still_error}
use Rattle.stream_check.proofs.Counting.{error_tallied}
use Rattle.stream_check.proofs.rules.checker.Checker.diagnostic.Goals as goal

pub returns-in-None : goal.returns-in-None
returns-in-None c = λ messages read.
    let none : option_copied c.args.address ≡ None = ap option_copied c.in-None.is in
    let error : c.args.is_error ≡ true = c.if-not-is_error.false in (
      diagnostic true None ∷ messages,
      rw (none, error) refl,
      plain_read c.args.self.now _ (diagnostic true None) messages with_error read (λ b. refl) (λ b. refl) c.with_error-self.ensures.value (error_tallied messages) (still_error messages),
    )

pub with_error-self-requires : goal.with_error-self-requires
with_error-self-requires c = record { few = c.requires; small = c.args.self.now.small }

pub invariant_of-self : goal.invariant_of-self
invariant_of-self c = record { small = c.with_error-self.ensures.small }

pub returns-then-not-is_error : goal.returns-then-not-is_error
returns-then-not-is_error c = rw (c.if-not-is_error.true) c.warning.ensures

pub returns-in-Some : goal.returns-in-Some
returns-in-Some c = rw (c.if-not-is_error.false, c.in-Some.is) c.error_at.ensures
