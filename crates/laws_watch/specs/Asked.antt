-- Which rows a line asks for. Its message alone decides.
use Rattle.std.specs.Prelude.{ℕ, List, [], ◌∷◌, ◌++◌, ◌==◌, ◌&&◌, Bool, true, false, Option, Some, None, codes, count_by, if◌then◌else◌, is_some, map, option_and_then, option_map, unwrap_or}
use Rattle.std.specs.List.{flat_map}
use Rattle.std.specs.Option.{option_map_or}
use Rattle.std.specs.Str.{bytes_eq}
use Rattle.serde_json.specs.Data.{Data}
use Rattle.apply_json.specs.Tree.{◌>>=◌, is_empty, member_of, text_of}
use Rattle.stream_message.specs.Kinds.{kind_named}
use Rattle.stream_message.specs.declared.kind.Kind.{Kind}
use Rattle.stream_message.specs.declared.kind.Kind.TheVariants as kind
use Rattle.stream_message.specs.declared.stage.Stage.{Stage}
use Rattle.stream_message.specs.declared.stage.Stage.TheVariants as stage
use Rattle.term_text.specs.LineTexts.{line_text, text_lines}
use Rattle.stream_watch.specs.Changes.{NamedChange, change_of}
use Rattle.stream_watch.specs.Counts.{is_change}
use Rattle.stream_watch.specs.DiagnosticRow.{severity_mark, text_or_nothing}
use Rattle.stream_watch.specs.Hooks.{Hook, hook_of}
use Rattle.stream_watch.specs.Marks.{planned_mark}
use Rattle.stream_watch.specs.OutputRows.{has_outputs, is_unplanned, planned_action}
use Rattle.stream_watch.specs.Outputs.{OutputView, outputs_of}
use Rattle.stream_watch.specs.ProgressMessage.{is_progress_kind}
use Rattle.stream_watch.specs.ProvisionerRows.{one_at_least}
use Rattle.stream_watch.specs.Reading.{message_of}
use Rattle.stream_watch.specs.StepRows.{step_of}
use Rattle.stream_watch.specs.SummaryRow.{summary_words}
use Rattle.stream_watch.specs.declared.mark.Mark.{Mark}
use Rattle.stream_watch.specs.declared.mark.Mark.TheVariants as mark

pub record Asked : Type 0 where
  -- refreshes that were not reported yet have a row before
  pub reports : Bool
  -- the marks of the rows with a time
  pub marks : List Mark

abbrev pub only : List Mark → Asked
only marks = record { reports = false; marks = marks }

abbrev pub reporting : List Mark → Asked
reporting marks = record { reports = true; marks = marks }

-- ---- steps

-- A begin, a good end and a failure have one row each, and progress has none. Before a create, an
-- update or a delete, refreshes are reported.
abbrev pub of_stage : (action : List ℕ) → Stage → Asked
of_stage action stage.Start = record { reports = is_change action; marks = mark.Begin ∷ [] }
of_stage action stage.Progress = only []
of_stage action stage.Complete = only (mark.Done ∷ [])
of_stage action stage.Errored = only (mark.Failed ∷ [])

abbrev pub of_step : Stage → Data → Option Asked
of_step stage tree = option_map (λ step. of_stage step.action stage) (step_of tree)

-- ---- provisioners

-- the text that a provisioner put out; none if the message lacks it
abbrev pub output_of : Hook → Option (List ℕ)
output_of named = text_of (codes "output") named.hook

-- one row for each line of the text, and one for an empty text
abbrev pub of_output : (output : List ℕ) → Asked
of_output output = only (map (λ line. mark.Output) (one_at_least (text_lines output)))

-- A begin and a failure have one row each, and a good end has none.
abbrev pub of_provisioner : Stage → Hook → Option Asked
of_provisioner stage.Start named = Some (only (mark.Begin ∷ []))
of_provisioner stage.Progress named = option_map of_output (output_of named)
of_provisioner stage.Complete named = Some (only [])
of_provisioner stage.Errored named = Some (only (mark.Failed ∷ []))

-- ---- diagnostics

-- an error, a warning or another diagnostic has one row
abbrev pub of_diagnostic : Data → Option Asked
of_diagnostic tree =
    member_of (codes "diagnostic") tree
    >>= λ diagnostic. option_map (λ severity. reporting (severity_mark severity ∷ [])) (text_of (codes "severity") diagnostic)

-- ---- outputs

-- an output has a row if an action other than `noop` is planned for it
abbrev pub of_action : (action : Option (List ℕ)) → List Mark
of_action None = []
of_action (Some action) = if bytes_eq action (codes "noop") then [] else planned_mark action ∷ []

abbrev pub of_planned : List OutputView → List Mark
of_planned outputs = flat_map (λ output. of_action (planned_action output)) outputs

-- the other outputs have one row together
abbrev pub of_others : List OutputView → List Mark
of_others outputs = if count_by is_unplanned outputs == 0 then [] else mark.Sum ∷ []

abbrev pub of_outputs : List OutputView → Asked
of_outputs outputs = reporting (of_planned outputs ++ of_others outputs)

-- ---- messages

-- a change that is planned, or one outside of Terraform
abbrev pub of_change : (NamedChange → Mark) → Data → Option Asked
of_change mark_of tree = option_map (λ change. reporting (mark_of change ∷ [])) (change_of tree)

-- none if the message lacks what its row names
abbrev pub of_kind : (find : Bool) → (line name : List ℕ) → Data → Kind → Option Asked
of_kind find line name tree kind.Version = option_map (λ version. reporting (mark.Sum ∷ [])) (text_of (codes "terraform") tree)
of_kind find line name tree kind.Planned = of_change (λ change. planned_mark change.action) tree
of_kind find line name tree (kind.Apply stage) = of_step stage tree
of_kind find line name tree (kind.Ephemeral stage) = of_step stage tree
of_kind find line name tree (kind.Refresh stage) = option_map (λ named. only []) (hook_of tree)
of_kind find line name tree (kind.Provision stage) = hook_of tree >>= of_provisioner stage
of_kind find line name tree kind.Diagnostic = of_diagnostic tree
of_kind find line name tree kind.Summary = option_map (λ words. reporting (mark.Sum ∷ [])) (summary_words tree)
of_kind find line name tree kind.Outputs = if has_outputs tree then Some (of_outputs (outputs_of find line)) else None
of_kind find line name tree kind.Other =
    if bytes_eq name (codes "resource_drift") then of_change (λ change. mark.Drift) tree else None

abbrev pub of_row : (find : Bool) → (line : List ℕ) → Data → Option Asked
of_row find line tree =
    option_and_then (λ name. of_kind find line name tree (kind_named name)) (text_of (codes "type") tree)

-- ---- lines

-- a line of another program has one row, unless it is blank
abbrev pub of_passed : (line : List ℕ) → Asked
of_passed line = only (if is_empty (line_text line) then [] else mark.Passed ∷ [])

-- a text has one row, and its line stands for it if it has no lines
abbrev pub of_text : (line : List ℕ) → (lines : List (List ℕ)) → Asked
of_text line [] = of_passed line
of_text line (first ∷ rest) = only (mark.Other ∷ [])

-- by the row of its type, or by its text
abbrev pub of_message : (find : Bool) → (line : List ℕ) → Data → Asked
of_message find line tree =
    unwrap_or (of_row find line tree) (of_text line (text_lines (text_or_nothing (codes "@message") tree)))

abbrev pub of_message_or_line : (find : Bool) → (line : List ℕ) → (message : Option Data) → Asked
of_message_or_line find line None = of_passed line
of_message_or_line find line (Some tree) = of_message find line tree

-- what the line asks for
abbrev pub asked_by : (find : Bool) → (line : List ℕ) → Asked
asked_by find line = of_message_or_line find line (message_of find line)

-- ---- progress of a step

-- a message of progress that names an action and an address
abbrev pub is_progress_message : Data → Bool
is_progress_message tree =
    option_map_or (λ name. is_progress_kind (kind_named name)) (text_of (codes "type") tree) false && is_some (step_of tree)

abbrev pub is_progress : (find : Bool) → (line : List ℕ) → Bool
is_progress find line = option_map_or is_progress_message (message_of find line) false
