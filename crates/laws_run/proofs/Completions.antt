-- The totals count the steps whose completion has a line.
use Rattle.std.proofs.Common.{◌≡◌, ℕ, ◌+◌, List, [], ◌∷◌, codes, Bool, true, false, ◌&&◌, not, cond, Option, None, Some, refl, sym, ap, ◌∙◌, arith}
use Rattle.std.specs.Prelude.{count_by, slice_get}
use Rattle.std.specs.Option.{option_map_or}
use Rattle.std.specs.Str.{bytes_eq}
use Rattle.std.proofs.lemmas.Grind.{common_steps}
use Rattle.apply_model.specs.declared.plan.step_kind.StepKind.{StepKind}
use Rattle.apply_model.specs.declared.plan.step_kind.StepKind.TheVariants.{Create, Update, Delete, Read}
use Rattle.apply_model.specs.declared.script.outcome.Outcome.{Outcome}
use Rattle.apply_model.specs.Plan.ResourceChange.{ResourceChange}
use Rattle.apply_model.specs.Plan.SavedPlan.{SavedPlan}
use Rattle.apply_model.specs.Script.OutcomeMap.{OutcomeMap, outcome_of}
use Rattle.apply_events.specs.declared.event.Event.{Event}
use Rattle.apply_events.specs.declared.what.What.{What}
use Rattle.apply_events.specs.declared.what.What.TheVariants.{Start, Progress, Complete, Errored, ErrorNote, WarnNote, Halted, ProvisionStart, ProvisionOutput, ProvisionComplete, ProvisionErrored}
use Rattle.apply_model.specs.Plan.StepKind.{is_kind}
use Rattle.apply_events.specs.Totals.{completes, is_complete, totals_of}
use Rattle.apply_text.specs.Laws.{reports_completion}
use Rattle.apply_text.specs.Message.{event_message}

tells : (change : ResourceChange) (step : StepKind) (outcome : Outcome) (what : What) → bytes_eq (event_message change step outcome what).type_name (codes "apply_complete") ≡ is_complete what
tells change step outcome Start = refl
tells change step outcome (Progress seconds) = refl
tells change step outcome (Complete seconds) = refl
tells change step outcome (Errored seconds) = refl
tells change step outcome ErrorNote = refl
tells change step outcome WarnNote = refl
tells change step outcome (Halted phase hook) = refl
tells change step outcome (ProvisionStart i) = refl
tells change step outcome (ProvisionOutput i line) = refl
tells change step outcome (ProvisionComplete i) = refl
tells change step outcome (ProvisionErrored i) = refl

-- the three totals count all kinds of steps but reads
by_kind : (complete : Bool) (located : Option StepKind) → cond (complete && option_map_or (is_kind Create) located false) 1 0 + cond (complete && option_map_or (is_kind Update) located false) 1 0 + cond (complete && option_map_or (is_kind Delete) located false) 1 0 ≡ cond (option_map_or (λ step. complete && not (is_kind Read step)) located false) 1 0
by_kind false None = refl
by_kind true None = refl
by_kind false (Some step) = refl
by_kind true (Some Create) = refl
by_kind true (Some Update) = refl
by_kind true (Some Delete) = refl
by_kind true (Some Read) = refl

-- for a step that was looked up
of_located : (change : ResourceChange) (outcome : Outcome) (what : What) (located : Option StepKind) → cond (is_complete what && option_map_or (is_kind Create) located false) 1 0 + cond (is_complete what && option_map_or (is_kind Update) located false) 1 0 + cond (is_complete what && option_map_or (is_kind Delete) located false) 1 0 ≡ cond (option_map_or (λ step. bytes_eq (event_message change step outcome what).type_name (codes "apply_complete") && not (is_kind Read step)) located false) 1 0
of_located change outcome what None = by_kind (is_complete what) None
of_located change outcome what (Some step) = by_kind (is_complete what) (Some step) ∙ ap (λ b. cond (b && not (is_kind Read step)) 1 0) (sym (tells change step outcome what))

of_change : (outcome : Outcome) (what : What) (k : ℕ) (change : Option ResourceChange)
    → cond (is_complete what && option_map_or (is_kind Create) (slice_get (option_map_or (λ change. change.steps) change []) k) false) 1 0 + cond (is_complete what && option_map_or (is_kind Update) (slice_get (option_map_or (λ change. change.steps) change []) k) false) 1 0 + cond (is_complete what && option_map_or (is_kind Delete) (slice_get (option_map_or (λ change. change.steps) change []) k) false) 1 0
    ≡ cond (option_map_or (λ change. option_map_or (λ step. bytes_eq (event_message change step outcome what).type_name (codes "apply_complete") && not (is_kind Read step)) (slice_get change.steps k) false) change false) 1 0
of_change outcome what k None = by_kind (is_complete what) None
of_change outcome what k (Some change) = of_located change outcome what (slice_get change.steps k)

one : (plan : SavedPlan) (script : OutcomeMap) (event : Event)
    → cond (completes plan Create event) 1 0 + cond (completes plan Update event) 1 0 + cond (completes plan Delete event) 1 0 ≡ cond (reports_completion plan script event) 1 0
one plan script event = of_change (outcome_of script event.change event.step) event.what event.step (slice_get plan.changes event.change)

pub all : (plan : SavedPlan) (script : OutcomeMap) (events : List Event)
    → (totals_of plan events).added + (totals_of plan events).changed + (totals_of plan events).removed ≡ count_by (reports_completion plan script) events
all plan script [] = refl
all plan script (event ∷ events) = grind (arith, common_steps, one plan script event, all plan script events)
