use Rattle.std.proofs.Common.{◌≡◌, ◌∷◌, ◌∙◌, ap, refl, sym, true, false}
use Rattle.stream_check.specs.declared.rules.tally.Tally.{Tally}
use Rattle.stream_check.specs.Message.{outputs}
use Rattle.stream_check.specs.Tallied.{with_outputs}
use Rattle.stream_check.specs.Tally.{awaits_outputs}
use Rattle.stream_check.proofs.Continuing.{plain_read, still_outputs}
use Rattle.stream_check.proofs.Counting.{outputs_tallied}
use Rattle.stream_check.proofs.Summing.{outputs_alone, outputs_fit}
use Rattle.stream_check.proofs.rules.checker.Checker.outputs.Goals as goal

pub returns-then-self : goal.returns-then-self
returns-then-self c = λ messages read.
    let await : awaits_outputs messages ≡ true = ap (λ (t : Tally). t.awaits_outputs) (sym read.tally) ∙ c.if-self.true in (
      outputs ∷ messages,
      outputs_fit messages await,
      plain_read c.args.self.now _ outputs messages with_outputs read (λ b. refl) (λ b. refl) c.with_outputs-self.ensures.value (outputs_tallied messages) (still_outputs messages),
    )

pub returns-else-self : goal.returns-else-self
returns-else-self c = λ messages read.
    let await : awaits_outputs messages ≡ false = ap (λ (t : Tally). t.awaits_outputs) (sym read.tally) ∙ c.if-self.false in
    (read, λ memory. outputs_alone messages await)
