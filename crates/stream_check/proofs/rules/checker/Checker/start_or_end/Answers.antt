use Rattle.std.proofs.Common.{◌≡◌, ◌+◌, ◌∷◌, ◌∙◌, length, ap, sym, true, false, Ok}
use Rattle.stream_check.specs.declared.rules.tally.Tally.{Tally}
use Rattle.stream_check.specs.Lines.{is_beyond_plan}
use Rattle.stream_check.specs.Message.{step}
use Rattle.stream_check.specs.AddressState.{state_of, step_on}
use Rattle.stream_check.specs.Tallied.{is_beyond}
use Rattle.stream_check.proofs.Continuing.{after_summary, no_summary, with_one, step_after, step_read}
use Rattle.stream_check.proofs.Summing.{step_beyond, step_faulty, step_fits}
use Rattle.stream_check.proofs.rules.checker.Checker.start_or_end.Goals as goal

pub returns-in-Err : goal.returns-in-Err
returns-in-Err c = λ messages read. (
  read,
  λ memory. step_faulty messages c.args.address.now c.args.action c.args.stage c.in-Err.fault (no_summary c.args.self.now messages read c.in_default.not-Some)
      (step_after c.args.self.now messages c.args.address.now c.args.action c.args.stage c.at.result c.step_on.result read c.at.ensures c.step_on.ensures ∙ c.in-Err.is),
)

pub returns-then-is_beyond : goal.returns-then-is_beyond
returns-then-is_beyond c = λ messages read.
    let e : step_on c.args.action c.args.stage (length messages + 1) (state_of c.args.address.now messages) ≡ Ok c.in-Ok.state =
    step_after c.args.self.now messages c.args.address.now c.args.action c.args.stage c.at.result c.step_on.result read c.at.ensures c.step_on.ensures ∙ c.in-Ok.is in
    let beyond : is_beyond_plan c.args.action c.args.stage messages ≡ true = ap (λ (t : Tally). is_beyond c.args.action c.args.stage t) (sym read.tally) ∙ sym c.is_beyond.ensures ∙ c.if-is_beyond.true in
    (read, λ memory. step_beyond messages c.args.address.now c.args.action c.args.stage c.in-Ok.state (no_summary c.args.self.now messages read c.in_default.not-Some) e beyond)

pub returns : goal.returns
returns c = λ messages read.
    let a = c.args.address.now in
    let e : step_on c.args.action c.args.stage (length messages + 1) (state_of a messages) ≡ Ok c.in-Ok.state =
    step_after c.args.self.now messages a c.args.action c.args.stage c.at.result c.step_on.result read c.at.ensures c.step_on.ensures ∙ c.in-Ok.is in
    let within : is_beyond_plan c.args.action c.args.stage messages ≡ false = ap (λ (t : Tally). is_beyond c.args.action c.args.stage t) (sym read.tally) ∙ sym c.is_beyond.ensures ∙ c.if-is_beyond.false in (
      step a c.args.action c.args.stage ∷ messages,
      step_fits messages a c.args.action c.args.stage c.in-Ok.state (no_summary c.args.self.now messages read c.in_default.not-Some) e within,
      step_read c.args.self.now _ messages a c.args.action c.args.stage c.in-Ok.state read c.in-Ok-set.ensures.ok c.step.ensures c.with_step-self.ensures.value e,
    )

pub returns-in-Some : goal.returns-in-Some
returns-in-Some c = λ messages read. after_summary c.args.self.now messages c.in-Some.line _ read c.in-Some.is

pub overflow_add-self : goal.overflow_add-self
overflow_add-self c = with_one c.args.self.now.tally.lines c.requires

pub invariant_of-self : goal.invariant_of-self
invariant_of-self c = record { small = c.args.self.now.small }

pub with_step-self-requires : goal.with_step-self-requires
with_step-self-requires c = record {
  few = c.requires;
  small = c.args.self.now.small;
}

pub invariant_of-self-2 : goal.invariant_of-self-2
invariant_of-self-2 c = record { small = c.with_step-self.ensures.small }
