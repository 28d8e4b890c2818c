use Rattle.std.proofs.Common.{◌≡◌, ◌+◌, ◌∷◌, ◌∙◌, length, refl, sym, Ok, Err}
use Rattle.std.specs.Prelude.{unwrap_or}
use Rattle.std.specs.BTreeMap.{get_by_text}
use Rattle.stream_check.specs.declared.messages.timed_stage.TimedStage.TheVariants.{Progress}
use Rattle.stream_check.specs.Message.{step}
use Rattle.stream_check.specs.AddressState.{idle, state_of, step_on}
use Rattle.stream_check.proofs.Continuing.{after_summary, no_summary, step_after, step_read}
use Rattle.stream_check.proofs.Summing.{step_faulty, step_fits}
use Rattle.stream_check.proofs.rules.checker.Checker.progress.Goals as goal

pub returns-in-Err : goal.returns-in-Err
returns-in-Err c = λ messages read.
    let a = c.args.address.now in
    let k = c.args.action in
    let stage = Progress c.args.seconds in
    let s = unwrap_or (get_by_text c.args.self.now.pending.states a) idle in
    let told = c.in-Err.ensures.err in (
      record { tally = read.tally; state = λ b. told.1 b ∙ read.state b; unbegun = read.unbegun },
      λ memory. step_faulty messages a k stage c.in-Err.fault (no_summary c.args.self.now messages read c.in_default.not-Some)
          (step_after c.args.self.now messages a k stage s (Err c.in-Err.fault) read refl (sym told.0)),
    )

pub returns-in-Ok : goal.returns-in-Ok
returns-in-Ok c = λ messages read.
    let a = c.args.address.now in
    let k = c.args.action in
    let stage = Progress c.args.seconds in
    let s = unwrap_or (get_by_text c.args.self.now.pending.states a) idle in
    let told = c.in-Ok.ensures.ok in
    let e : step_on k stage (length messages + 1) (state_of a messages) ≡ Ok told.0 = step_after c.args.self.now messages a k stage s (Ok told.0) read refl (sym told.1) in (
      step a k stage ∷ messages,
      step_fits messages a k stage told.0 (no_summary c.args.self.now messages read c.in_default.not-Some) e refl,
      step_read c.args.self.now _ messages a k stage told.0 read told.2 (λ b. refl) c.with_line-self.ensures.value e,
    )

pub returns-in-Some : goal.returns-in-Some
returns-in-Some c = λ messages read. after_summary c.args.self.now messages c.in-Some.line _ read c.in-Some.is

pub with_line-self-requires : goal.with_line-self-requires
with_line-self-requires c = record { few = c.requires; small = c.args.self.now.small }

pub invariant_of-self : goal.invariant_of-self
invariant_of-self c = record { small = c.with_line-self.ensures.small }
