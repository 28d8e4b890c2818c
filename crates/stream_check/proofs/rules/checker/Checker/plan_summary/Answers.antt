use Rattle.std.proofs.Common.{◌≡◌, ◌∷◌, ◌∙◌, ap, refl, sym, true}
use Rattle.stream_check.specs.declared.rules.tally.Tally.{Tally}
use Rattle.stream_check.specs.Message.{plan_summary}
use Rattle.stream_check.specs.Tallied.{with_plan_summary}
use Rattle.stream_check.specs.Tally.{planned_totals, same_totals}
use Rattle.stream_check.proofs.Continuing.{after_summary, no_plan_summary, no_summary, plain_read, still_plan_summary}
use Rattle.stream_check.proofs.Counting.{plan_summary_tallied}
use Rattle.stream_check.proofs.Summing.{foreseen_right}
use Rattle.stream_check.proofs.rules.checker.Checker.plan_summary.Goals as goal

pub returns : goal.returns
returns c = λ messages read.
    let right : same_totals c.args.totals (planned_totals messages) ≡ true = ap (λ (t : Tally). same_totals c.args.totals t.planned) (sym read.tally) ∙ sym c.if-not-agree.ensures in (
      plan_summary c.args.totals ∷ messages,
      foreseen_right messages c.args.totals (no_summary c.args.self.now messages read c.in_default.not-Some) (no_plan_summary c.args.self.now messages read c.in_default-plan_summary.not-Some) right,
      plain_read c.args.self.now _ (plan_summary c.args.totals) messages with_plan_summary read (λ b. refl) (λ b. refl) c.with_plan_summary-self.ensures.value (plan_summary_tallied c.args.totals messages) (still_plan_summary c.args.totals messages),
    )

pub returns-in-Some : goal.returns-in-Some
returns-in-Some c = λ messages read. after_summary c.args.self.now messages c.in-Some.line _ read c.in-Some.is

pub with_plan_summary-self-requires : goal.with_plan_summary-self-requires
with_plan_summary-self-requires c = record { few = c.requires; small = c.args.self.now.small }

pub invariant_of-self : goal.invariant_of-self
invariant_of-self c = record { small = c.with_plan_summary-self.ensures.small }
