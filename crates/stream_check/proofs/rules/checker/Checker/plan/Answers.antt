use Rattle.std.proofs.Common.{◌+◌, ◌∷◌, ◌∙◌, Bool, ap, refl}
use Rattle.std.specs.BTreeMap.{get_by_text}
use Rattle.std.specs.Option.{option_copied}
use Rattle.stream_check.specs.Message.{planned}
use Rattle.stream_check.specs.Unbegun.{planned_state}
use Rattle.stream_check.proofs.Continuing.{after_summary, no_summary, planned_read, with_one}
use Rattle.stream_check.proofs.Summing.{plan_fits}
use Rattle.stream_check.proofs.rules.checker.Checker.plan.Goals as goal

pub returns : goal.returns
returns c = λ messages read.
    let o = option_copied c.args.address in (
      planned c.args.intent o ∷ messages,
      plan_fits messages c.args.intent o (no_summary c.args.self.now messages read c.in_default.not-Some),
      planned_read c.args.self.now _ messages c.args.intent o read (λ b. refl)
          (λ b. c.in-Ok.ensures.ok b ∙ ap (λ (counts : Bool). planned_state counts (c.args.self.now.tally.lines + 1) o (λ a. get_by_text c.args.self.now.unbegun.waiting.states a) b) c.awaits_create-counts.ensures)
          c.with_planned-self.ensures.value,
    )

pub returns-in-Some : goal.returns-in-Some
returns-in-Some c = λ messages read. after_summary c.args.self.now messages c.in-Some.line _ read c.in-Some.is

pub overflow_add-line : goal.overflow_add-line
overflow_add-line c = with_one c.args.self.now.tally.lines c.requires

pub with_planned-self-requires : goal.with_planned-self-requires
with_planned-self-requires c = record { few = c.requires; small = c.args.self.now.small }

pub invariant_of-self : goal.invariant_of-self
invariant_of-self c = record { small = c.args.self.now.small }

pub invariant_of-self-2 : goal.invariant_of-self-2
invariant_of-self-2 c = record { small = c.with_planned-self.ensures.small }
