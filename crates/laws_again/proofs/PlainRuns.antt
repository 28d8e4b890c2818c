-- Steps and diagnostics of a run in the default form.
use Rattle.std.proofs.Common.{◌≡◌, ◌∙◌, ℕ, List, [], ◌∷◌, ◌++◌, append-nil, map, All, false, Option, Some, None, Ok, refl, sym, ap, subst}
use Rattle.std.specs.Prelude.{slice_get}
use Rattle.std.specs.Option.{option_map_or}
use Rattle.std.specs.List.{Contains}
use Rattle.std.proofs.lemmas.List.Elements.{All-contains_itself, All-weaker}
use Rattle.apply_model.specs.declared.details.note.Note.{Note}
use Rattle.apply_model.specs.declared.plan.step_kind.StepKind.{StepKind}
use Rattle.apply_model.specs.Plan.ResourceChange.{ResourceChange}
use Rattle.apply_model.specs.Plan.SavedPlan.{SavedPlan}
use Rattle.apply_model.specs.Script.Outcome.{end_id, fails, is_warned}
use Rattle.apply_model.specs.Script.OutcomeMap.{OutcomeMap, outcome_of}
use Rattle.apply_events.specs.declared.event.Event.{Event}
use Rattle.apply_events.specs.StepEvents.{emits_end}
use Rattle.apply_run.specs.Bytes.{given_script}
use Rattle.laws_begun.specs.Runs.{HasEnd}
use Rattle.laws_lines.specs.Stated.{id_of}
use Rattle.laws_own_streams.specs.Runs.{without_hooks}
use Rattle.laws_scripts.specs.Outcomes.{IsOfStep}
use Rattle.laws_scripts.proofs.Entries.{default_of_step, read_of_steps}
use Rattle.laws_steps_again.proofs.WholeSteps.{yes_or}
use Rattle.laws_texts.specs.Notes.{HasAnEnd}
use Rattle.laws_texts.specs.Streams.{without_place}

-- ---- ends

-- No step only warns.
abbrev pub HasEnds : OutcomeMap → Type 0
HasEnds steps = (c k : ℕ) → is_warned (outcome_of steps c k).result ≡ false

pub events_end : (plan : SavedPlan) (steps : OutcomeMap) (events : List Event) → HasEnds steps
    → All (λ (event : Event). HasEnd (without_hooks plan steps) event.change event.step) events
events_end plan steps events ends = All-weaker (Contains events) (λ (event : Event). HasEnd (without_hooks plan steps) event.change event.step)
    (λ event has. ap (emits_end (fails (outcome_of steps event.change event.step))) (ends event.change event.step)
    ∙ yes_or (fails (outcome_of steps event.change event.step)))
    events (All-contains_itself events)

pub messages_end : (steps : OutcomeMap) (events : List Event) → HasEnds steps → All (HasAnEnd steps) events
messages_end steps events ends =
    All-weaker (Contains events) (HasAnEnd steps) (λ event has. ends event.change event.step) events (All-contains_itself events)

-- ---- outcomes

-- Each outcome of a script that was read, or of none, is one that its step can have.
pub given_of_steps : (plan : SavedPlan) (script : Option (List ℕ)) (steps : OutcomeMap) → given_script plan script ≡ Ok steps
    → (c k : ℕ) (change : ResourceChange) (kind : StepKind) → slice_get plan.changes c ≡ Some change → slice_get change.steps k ≡ Some kind
    → IsOfStep change k kind (outcome_of steps c k)
given_of_steps plan None steps is c k change kind change_at kind_at =
    subst (λ (s : OutcomeMap). IsOfStep change k kind (outcome_of s c k)) (let same : [] ≡ steps = cc in same) (default_of_step change k kind)
given_of_steps plan (Some bytes) steps is c k change kind change_at kind_at = read_of_steps plan bytes steps c k change kind is change_at kind_at

-- The id that the end of a step of the plan reports is that of its outcome.
pub id_is : (plan : SavedPlan) (steps : OutcomeMap) (c k : ℕ) (change : ResourceChange) (kind : StepKind)
    → slice_get plan.changes c ≡ Some change → slice_get change.steps k ≡ Some kind
    → id_of plan steps c k ≡ end_id kind (outcome_of steps c k).result
id_is plan steps c k change kind change_at kind_at =
    ap (λ (o : Option ResourceChange).
    option_map_or (λ (own : ResourceChange). option_map_or (λ (of : StepKind). end_id of (outcome_of steps c k).result) (slice_get own.steps k) None) o None) change_at
    ∙ ap (λ (o : Option StepKind). option_map_or (λ (of : StepKind). end_id of (outcome_of steps c k).result) o None) kind_at

-- ---- diagnostics

pub without_place_twice : (notes : List Note) → map without_place (map without_place notes) ≡ map without_place notes
without_place_twice [] = refl
without_place_twice (note ∷ notes) = ap (λ (l : List Note). without_place note ∷ l) (without_place_twice notes)

-- Diagnostics that are shown again are shown the same.
pub shown_again : (told : List Note) (others left notes : List Note) → others ++ left ≡ notes → left ≡ [] → notes ≡ map without_place told ++ []
    → map without_place others ≡ map without_place told
shown_again told others left notes again none are =
    let same : others ≡ map without_place told = sym (append-nil others) ∙ ap (λ (l : List Note). others ++ l) (sym none) ∙ again ∙ are ∙ append-nil (map without_place told) in
    ap (map without_place) same ∙ without_place_twice told
