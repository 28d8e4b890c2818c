-- Summaries after other messages, and which message may follow which.
use Rattle.std.proofs.Common.{◌≡◌, ℕ, ◌+◌, List, ◌∷◌, length, true, false, Option, Some, None, Result, Ok, Err, refl}
use Rattle.stream_check.specs.declared.messages.action.Action.{Action}
use Rattle.stream_check.specs.declared.messages.intent.Intent.{Intent}
use Rattle.stream_message.specs.declared.stage.Stage.{Stage}
use Rattle.stream_check.specs.declared.messages.timed_stage.TimedStage.{TimedStage}
use Rattle.stream_check.specs.declared.messages.totals.Totals.{Totals}
use Rattle.stream_check.specs.declared.rules.fault.Fault.{Fault}
use Rattle.stream_check.specs.declared.rules.fault.Fault.TheVariants.{AfterSummary, NotPlanned, OutputsAlone, PlanAgain, Unended, WrongPlanTotals, WrongTotals}
use Rattle.stream_check.specs.declared.rules.address_state.AddressState.{AddressState}
use Rattle.stream_check.specs.Lines.{before_summary, after_version, is_beyond_plan}
use Rattle.stream_check.specs.Message.{Message, step, provision, planned, plan_summary, summary, outputs}
use Rattle.stream_check.specs.Open.{any_open}
use Rattle.stream_check.specs.AddressState.{provision_on, state_of, step_on}
use Rattle.stream_check.specs.Tally.{awaits_outputs, completed_totals, is_plan_summary, is_summary, line_of, planned_totals, same_totals}

-- after the summary
pub after_summary : (ms : List Message) (line : ℕ) (answer : Result (List Message) Fault) → line_of is_summary ms ≡ Some line → before_summary ms answer ≡ Err (AfterSummary line)
after_summary ms line answer is = rw is refl

-- ---- steps

pub step_fits : (ms : List Message) (a : List ℕ) (k : Action) (stage : TimedStage) (s : AddressState) → line_of is_summary ms ≡ None → step_on k stage (length ms + 1) (state_of a ms) ≡ Ok s → is_beyond_plan k stage ms ≡ false
    → after_version ms 0 (step a k stage) ≡ Ok (step a k stage ∷ ms)
step_fits ms a k stage s none e within = rw (none, e, within) refl

pub step_beyond : (ms : List Message) (a : List ℕ) (k : Action) (stage : TimedStage) (s : AddressState) → line_of is_summary ms ≡ None → step_on k stage (length ms + 1) (state_of a ms) ≡ Ok s → is_beyond_plan k stage ms ≡ true
    → after_version ms 0 (step a k stage) ≡ Err NotPlanned
step_beyond ms a k stage s none e beyond = rw (none, e, beyond) refl

pub step_faulty : (ms : List Message) (a : List ℕ) (k : Action) (stage : TimedStage) (fault : Fault) → line_of is_summary ms ≡ None → step_on k stage (length ms + 1) (state_of a ms) ≡ Err fault → after_version ms 0 (step a k stage) ≡ Err fault
step_faulty ms a k stage fault none e = rw (none, e) refl

-- ---- provisioners

pub provision_fits : (ms : List Message) (a : List ℕ) (stage : Stage) (s : AddressState) → line_of is_summary ms ≡ None → provision_on stage (length ms + 1) (state_of a ms) ≡ Ok s → after_version ms 0 (provision a stage) ≡ Ok (provision a stage ∷ ms)
provision_fits ms a stage s none e = rw (none, e) refl

pub provision_faulty : (ms : List Message) (a : List ℕ) (stage : Stage) (fault : Fault) → line_of is_summary ms ≡ None → provision_on stage (length ms + 1) (state_of a ms) ≡ Err fault → after_version ms 0 (provision a stage) ≡ Err fault
provision_faulty ms a stage fault none e = rw (none, e) refl

-- ---- plans

pub plan_fits : (ms : List Message) (i : Intent) (o : Option (List ℕ)) → line_of is_summary ms ≡ None → after_version ms 0 (planned i o) ≡ Ok (planned i o ∷ ms)
plan_fits ms i o none = rw none refl

pub foreseen_again : (ms : List Message) (t : Totals) (line : ℕ) → line_of is_summary ms ≡ None → line_of is_plan_summary ms ≡ Some line → after_version ms 0 (plan_summary t) ≡ Err (PlanAgain line)
foreseen_again ms t line none is = rw (none, is) refl

pub foreseen_right : (ms : List Message) (t : Totals) → line_of is_summary ms ≡ None → line_of is_plan_summary ms ≡ None → same_totals t (planned_totals ms) ≡ true → after_version ms 0 (plan_summary t) ≡ Ok (plan_summary t ∷ ms)
foreseen_right ms t none once right = rw (none, once, right) refl

pub foreseen_wrong : (ms : List Message) (t : Totals) → line_of is_summary ms ≡ None → line_of is_plan_summary ms ≡ None → same_totals t (planned_totals ms) ≡ false → after_version ms 0 (plan_summary t) ≡ Err (WrongPlanTotals t (planned_totals ms))
foreseen_wrong ms t none once wrong = rw (none, once, wrong) refl

-- ---- summaries

pub before_end : (ms : List Message) (t : Totals) → line_of is_summary ms ≡ None → any_open ms ≡ true → after_version ms 0 (summary t) ≡ Err Unended
before_end ms t none there = rw (none, there) refl

pub summed_wrong : (ms : List Message) (t : Totals) → line_of is_summary ms ≡ None → any_open ms ≡ false → same_totals t (completed_totals ms) ≡ false → after_version ms 0 (summary t) ≡ Err (WrongTotals t (completed_totals ms))
summed_wrong ms t none closed wrong = rw (none, closed, wrong) refl

pub summed_right : (ms : List Message) (t : Totals) → line_of is_summary ms ≡ None → any_open ms ≡ false → same_totals t (completed_totals ms) ≡ true → after_version ms 0 (summary t) ≡ Ok (summary t ∷ ms)
summed_right ms t none closed right = rw (none, closed, right) refl

-- ---- outputs

pub outputs_fit : (ms : List Message) → awaits_outputs ms ≡ true → after_version ms 0 outputs ≡ Ok (outputs ∷ ms)
outputs_fit ms await = rw await refl

pub outputs_alone : (ms : List Message) → awaits_outputs ms ≡ false → after_version ms 0 outputs ≡ Err OutputsAlone
outputs_alone ms await = rw await refl
