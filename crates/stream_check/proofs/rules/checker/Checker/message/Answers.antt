use Rattle.std.proofs.Common.{◌∷◌, ◌∙◌, ap, refl, sym, Some}
use Rattle.std.specs.Option.{option_copied}
use Rattle.stream_check.specs.Lines.{after_version}
use Rattle.stream_check.specs.Message.{step, provision, planned, plan_summary, summary, diagnostic, outputs, other, foreign}
use Rattle.stream_check.specs.MessageView.{message_view}
use Rattle.stream_check.specs.Tallied.{with_foreign, with_line}
use Rattle.stream_check.proofs.Continuing.{continues_after, continues_first, next_after, plain_read, still_foreign, still_other, version_line}
use Rattle.stream_check.proofs.Counting.{foreign_tallied, other_tallied}
use Rattle.stream_check.proofs.rules.checker.Checker.message.Goals as goal

pub returns-in-Other : goal.returns-in-Other
returns-in-Other c = λ messages read. (
  other ∷ messages,
  next_after messages (message_view c.args.message) c.in-Some.first (version_line c.args.self.now messages (Some c.in-Some.first) read (sym c.in-Some.is)) ∙ ap (λ m. after_version messages c.in-Some.first (message_view m)) c.in-Other.is,
  plain_read c.args.self.now _ other messages with_line read (λ b. refl) (λ b. refl) c.with_line-self.ensures.value (other_tallied messages) (still_other messages),
)

pub returns-in-Foreign : goal.returns-in-Foreign
returns-in-Foreign c = λ messages read. (
  foreign ∷ messages,
  next_after messages (message_view c.args.message) c.in-Some.first (version_line c.args.self.now messages (Some c.in-Some.first) read (sym c.in-Some.is)) ∙ ap (λ m. after_version messages c.in-Some.first (message_view m)) c.in-Foreign.is,
  plain_read c.args.self.now _ foreign messages with_foreign read (λ b. refl) (λ b. refl) c.with_foreign-self.ensures.value (foreign_tallied messages) (still_foreign messages),
)

pub returns-in_default : goal.returns-in_default
returns-in_default c = continues_first c.args.self.now c.first.new.self (message_view c.args.message) c.first.result c.in_default.is c.first.ensures

pub returns-in-Version : goal.returns-in-Version
returns-in-Version c = λ messages read. (
  read,
  λ memory. next_after messages (message_view c.args.message) c.in-Some.first (version_line c.args.self.now messages (Some c.in-Some.first) read (sym c.in-Some.is)) ∙ ap (λ m. after_version messages c.in-Some.first (message_view m)) c.in-Version.is,
)

pub with_line-self-requires : goal.with_line-self-requires
with_line-self-requires c = record {
  few = c.requires;
  small = c.args.self.now.small;
}

pub invariant_of-self : goal.invariant_of-self
invariant_of-self c = record { small = c.with_line-self.ensures.small }

pub with_foreign-self-requires : goal.with_foreign-self-requires
with_foreign-self-requires c = record {
  few = c.requires;
  small = c.args.self.now.small;
}

pub invariant_of-self-in-Foreign : goal.invariant_of-self-in-Foreign
invariant_of-self-in-Foreign c = record { small = c.with_foreign-self.ensures.small }

pub returns-in-Step : goal.returns-in-Step
returns-in-Step c =
    continues_after c.args.self.now c.step.new.self (message_view c.args.message) c.in-Some.first (λ messages. after_version messages 0 (step c.in-Step.address.now c.in-Step.action c.in-Step.stage)) c.step.result c.in-Some.is
    (λ messages. ap (λ m. after_version messages c.in-Some.first (message_view m)) c.in-Step.is) c.step.ensures

pub returns-in-Provision : goal.returns-in-Provision
returns-in-Provision c =
    continues_after c.args.self.now c.provision.new.self (message_view c.args.message) c.in-Some.first (λ messages. after_version messages 0 (provision c.in-Provision.address.now c.in-Provision.stage)) c.provision.result c.in-Some.is
    (λ messages. ap (λ m. after_version messages c.in-Some.first (message_view m)) c.in-Provision.is) c.provision.ensures

pub returns-in-Planned : goal.returns-in-Planned
returns-in-Planned c =
    continues_after c.args.self.now c.plan.new.self (message_view c.args.message) c.in-Some.first (λ messages. after_version messages 0 (planned c.in-Planned.intent (option_copied c.in-Planned.address))) c.plan.result c.in-Some.is
    (λ messages. ap (λ m. after_version messages c.in-Some.first (message_view m)) c.in-Planned.is) c.plan.ensures

pub returns-in-PlanSummary : goal.returns-in-PlanSummary
returns-in-PlanSummary c =
    continues_after c.args.self.now c.plan_summary.new.self (message_view c.args.message) c.in-Some.first (λ messages. after_version messages 0 (plan_summary c.in-PlanSummary.totals)) c.plan_summary.result c.in-Some.is
    (λ messages. ap (λ m. after_version messages c.in-Some.first (message_view m)) c.in-PlanSummary.is) c.plan_summary.ensures

pub returns-in-Summary : goal.returns-in-Summary
returns-in-Summary c =
    continues_after c.args.self.now c.summary.new.self (message_view c.args.message) c.in-Some.first (λ messages. after_version messages 0 (summary c.in-Summary.totals)) c.summary.result c.in-Some.is
    (λ messages. ap (λ m. after_version messages c.in-Some.first (message_view m)) c.in-Summary.is) c.summary.ensures

pub returns-in-Diagnostic : goal.returns-in-Diagnostic
returns-in-Diagnostic c =
    continues_after c.args.self.now c.diagnostic.new.self (message_view c.args.message) c.in-Some.first (λ messages. after_version messages 0 (diagnostic c.in-Diagnostic.is_error (option_copied c.in-Diagnostic.address))) c.diagnostic.result c.in-Some.is
    (λ messages. ap (λ m. after_version messages c.in-Some.first (message_view m)) c.in-Diagnostic.is) c.diagnostic.ensures

pub returns-in-Outputs : goal.returns-in-Outputs
returns-in-Outputs c =
    continues_after c.args.self.now c.outputs.new.self (message_view c.args.message) c.in-Some.first (λ messages. after_version messages 0 outputs) c.outputs.result c.in-Some.is
    (λ messages. ap (λ m. after_version messages c.in-Some.first (message_view m)) c.in-Outputs.is) c.outputs.ensures
