-- What is told of steps: of their begins and their ends.
use Rattle.std.specs.Prelude.{ℕ, ℤ, List, [], ◌∷◌, ◌++◌, ◌*◌, ◌&&◌, false, Option, codes, if◌then◌else◌, nat_lt, option_map, unwrap_or}
use Rattle.std.specs.Option.{option_map_or, option_or}
use Rattle.std.specs.Str.{bytes_eq}
use Rattle.serde_json.specs.Data.{Data}
use Rattle.serde_json.specs.View.{view}
use Rattle.apply_json.specs.Tree.{◌>>=◌, non_empty_text_of, text_of}
use Rattle.stream_message.specs.declared.stage.Stage.{Stage}
use Rattle.stream_message.specs.declared.stage.Stage.TheVariants as stage
use Rattle.term_text.specs.Shown.{shown_text}
use Rattle.term_words.specs.Words.{grouped}
use Rattle.stream_watch.specs.Counts.{is_change, with_begun, with_done, with_failed}
use Rattle.stream_watch.specs.Hooks.{Hook, hook_of, kind_of}
use Rattle.stream_watch.specs.RefreshRow.{reported_told}
use Rattle.stream_watch.specs.Noted.{with_noted}
use Rattle.stream_watch.specs.State.{State, Told, line_told, nothing, told_then}
use Rattle.stream_watch.specs.Steps.{Step, begin_of_first, is_step, new_step, without_first}
use Rattle.stream_watch.specs.Words.{length_since, length_words, step_words, whole_of}
use Rattle.stream_watch.specs.declared.counts.Counts.{Counts}
use Rattle.stream_watch.specs.declared.looks.Looks.{Looks}
use Rattle.stream_watch.specs.declared.mark.Mark.TheVariants as mark
use Rattle.stream_watch.specs.declared.rows.step.StepMessage.{StepMessage}

-- ---- what messages name

-- `hook`, the action, and the address of the resource
pub record NamedStep : Type 0 where
  pub hook : Data
  pub action : List ℕ
  pub address : List ℕ

abbrev pub named_step : Hook → (action : List ℕ) → NamedStep
named_step named action = record { hook = named.hook; action = action; address = named.address }

abbrev pub step_of : Data → Option NamedStep
step_of tree = hook_of tree >>= λ named. option_map (named_step named) (text_of (codes "action") named.hook)

-- what was read of a message
abbrev pub named_view : StepMessage → NamedStep
named_view message = record { hook = view message.hook.now; action = message.action.now; address = message.address.now }

-- ---- the begin of a step

-- before a create, an update or a delete, refreshes are told
abbrev pub told_before : Looks → State → (action : List ℕ) → Told
told_before looks state action = if is_change action then reported_told looks state else nothing state

abbrev pub with_step : NamedStep → (moment : ℤ) → State → State
with_step step moment state = record state {
  steps = state.steps ++ new_step step.address step.action (kind_of step.hook) false moment ∷ [];
  counts = with_begun step.action state.counts;
}

abbrev pub began_told : Looks → State → NamedStep → (moment : ℤ) → Told
began_told looks state step moment =
    told_then (told_before looks state step.action)
    (λ state. line_told looks (with_step step moment state) mark.Begin (step_words step.action step.address))

-- ---- the end of a step

-- the microseconds of which a message speaks
abbrev pub stated_length : Data → Option ℕ
stated_length hook = option_map (λ seconds. seconds * 1000000) (whole_of (codes "elapsed_seconds") hook)

-- How long the step took, in microseconds: by moments, or as the message says where the step is not
-- open. None if that is unknown too.
abbrev pub step_length : List Step → NamedStep → (moment : ℤ) → Option ℕ
step_length steps step moment =
    option_or (length_since (begin_of_first (is_step step.address step.action false) steps) moment) (stated_length step.hook)

-- which one of the planned changes is done
abbrev pub share_words : Counts → (action : List ℕ) → List ℕ
share_words counts action =
    if is_change action && nat_lt 0 counts.planned then codes " (" ++ grouped counts.done ++ codes " of " ++ grouped counts.planned ++ codes ")"
    else []

-- the id of the object, where the message has one
abbrev pub id_words : (hook : Data) → List ℕ
id_words hook = option_map_or
    (λ id. codes " [" ++ shown_text (unwrap_or (non_empty_text_of (codes "id_key") hook) (codes "id")) ++ codes "=" ++ shown_text id ++ codes "]")
    (text_of (codes "id_value") hook) []

-- an object that was deleted has no id
abbrev pub kept_id_words : NamedStep → List ℕ
kept_id_words step = if bytes_eq step.action (codes "delete") then [] else id_words step.hook

abbrev pub done_words : Counts → NamedStep → (length : Option ℕ) → List ℕ
done_words counts step length =
    step_words step.action step.address ++ length_words (codes " in ") length ++ share_words counts step.action ++ kept_id_words step

abbrev pub failed_words : NamedStep → (length : Option ℕ) → List ℕ
failed_words step length = step_words step.action step.address ++ codes " failed" ++ length_words (codes " after ") length

abbrev pub without_step : NamedStep → State → State
without_step step state = record state { steps = without_first (is_step step.address step.action false) state.steps }

abbrev pub done_state : State → NamedStep → State
done_state state step = record (without_step step state) { counts = with_done step.action state.counts }

abbrev pub done_told : Looks → State → NamedStep → (moment : ℤ) → Told
done_told looks state step moment =
    line_told looks (done_state state step) mark.Done (done_words (with_done step.action state.counts) step (step_length state.steps step moment))

abbrev pub failed_state : State → NamedStep → State
failed_state state step = record (without_step step state) { counts = with_failed step.action state.counts }

abbrev pub failed_told : Looks → State → NamedStep → (moment : ℤ) → Told
failed_told looks state step moment =
    line_told looks (failed_state state step) mark.Failed (failed_words step (step_length state.steps step moment))

-- ---- the row

-- the time of a step that is open is kept
abbrev pub noted_step : NamedStep → (moment : ℤ) → State → State
noted_step step moment state = with_noted (is_step step.address step.action false) moment state

abbrev pub told_of_step : Looks → State → Stage → (moment : ℤ) → NamedStep → Told
told_of_step looks state stage.Start moment step = began_told looks state step moment
told_of_step looks state stage.Progress moment step = nothing state
told_of_step looks state stage.Complete moment step = done_told looks (noted_step step moment state) step moment
told_of_step looks state stage.Errored moment step = failed_told looks state step moment

-- what is told of a step; none if the message lacks the action or the address
abbrev pub step_told : Looks → State → Stage → Data → (moment : ℤ) → Option Told
step_told looks state stage tree moment = option_map (told_of_step looks state stage moment) (step_of tree)
