-- The lines before an apply are lines, and none has the level `error`.
use Rattle.std.proofs.Common.{◌≡◌, ℕ, ◌+◌, List, [], ◌∷◌, ◌++◌, codes, map, Bool, false, Option, Some, None, refl, inl, inr, ap₂, slice_get}
use Rattle.std.specs.Prelude.{◌||◌}
use Rattle.std.specs.List.{AllByRecursion, list_any}
use Rattle.std.specs.Option.{option_map_or}
use Rattle.json.specs.Print.{escape_byte}
use Rattle.apply_model.specs.declared.details.change_details.ChangeDetails.{ChangeDetails}
use Rattle.apply_model.specs.declared.plan.mode.Mode.{Mode}
use Rattle.apply_model.specs.declared.plan.mode.Mode.TheVariants.{DataSource, Managed}
use Rattle.apply_model.specs.Plan.ResourceChange.{ResourceChange}
use Rattle.apply_events.specs.declared.event.Event.{Event}
use Rattle.apply_events.specs.declared.what.What.{What}
use Rattle.apply_events.specs.declared.what.What.TheVariants.{Start, Progress, Complete, Errored, ErrorNote, WarnNote, Halted, ProvisionStart, ProvisionOutput, ProvisionComplete, ProvisionErrored}
use Rattle.apply_prior.specs.declared.drift.Drift.{Drift}
use Rattle.apply_planning.specs.declared.told.Told.{Told}
use Rattle.apply_text.specs.Lines.{message_object, typed}
use Rattle.apply_text.specs.Message.{Message}
use Rattle.apply_text_terraform.specs.Lines.{message_line, version_members}
use Rattle.apply_text_terraform.specs.Message.{planned_message}
use Rattle.apply_text_terraform.specs.UtcTimestamp.{precise_timestamp_text}
use Rattle.apply_text_planning.specs.Message.{drift_message, plan_outputs_message, plan_summary_message, read_complete_message, read_progress_message, read_start_message, refresh_complete_message, refresh_start_message}
use Rattle.apply_text_planning.specs.Lines.{command_text}
use Rattle.apply_text_planning.specs.Words.{command_word}
use Rattle.apply_command.specs.declared.head_line.HeadLine.{HeadLine}
use Rattle.apply_command.specs.declared.head_line.HeadLine.TheVariants as line
use Rattle.apply_command.specs.Head.{HeadInputs, line_text, read_text, refresh_text, told_text}
use Rattle.laws_check.specs.Levels.{IsLineOrNothing, is_error_line}

-- a text is a line or nothing, and has not the level
pub record IsFine (text : List ℕ) : Type 0 where
  pub line : IsLineOrNothing text
  pub level : is_error_line text ≡ false

nothing : IsFine []
nothing = record { line = inl refl; level = refl }

-- a message whose line has not the level
of_message : (seconds : ℕ) (message : Message) → is_error_line (message_line seconds message) ≡ false → IsFine (message_line seconds message)
of_message seconds message level = record {
  line = inr (inl (message_object message.level message.text (precise_timestamp_text seconds) (typed message.name message.body message.type_name), refl));
  level = level;
}

-- ---- the planning

of_refresh : (seconds : ℕ) (told : Told) (what : What) → IsFine (refresh_text seconds told what)
unfolding message_object escape_byte
of_refresh seconds told Start = of_message seconds (refresh_start_message told.object told.id_before) refl
of_refresh seconds told (Progress n) = nothing
of_refresh seconds told (Complete n) = of_message seconds (refresh_complete_message told.object told.id_after) refl
of_refresh seconds told (Errored n) = nothing
of_refresh seconds told ErrorNote = nothing
of_refresh seconds told WarnNote = nothing
of_refresh seconds told (Halted phase hook) = nothing
of_refresh seconds told (ProvisionStart i) = nothing
of_refresh seconds told (ProvisionOutput i n) = nothing
of_refresh seconds told (ProvisionComplete i) = nothing
of_refresh seconds told (ProvisionErrored i) = nothing

of_read : (seconds : ℕ) (told : Told) (what : What) → IsFine (read_text seconds told what)
unfolding message_object escape_byte
of_read seconds told Start = of_message seconds (read_start_message told.object) refl
of_read seconds told (Progress n) = of_message seconds (read_progress_message told.object n) refl
of_read seconds told (Complete n) = of_message seconds (read_complete_message told.object n told.id_after) refl
of_read seconds told (Errored n) = nothing
of_read seconds told ErrorNote = nothing
of_read seconds told WarnNote = nothing
of_read seconds told (Halted phase hook) = nothing
of_read seconds told (ProvisionStart i) = nothing
of_read seconds told (ProvisionOutput i n) = nothing
of_read seconds told (ProvisionComplete i) = nothing
of_read seconds told (ProvisionErrored i) = nothing

of_mode : (mode : Mode) (seconds : ℕ) (told : Told) (what : What) → IsFine (told_text mode seconds told what)
of_mode Managed seconds told what = of_refresh seconds told what
of_mode DataSource seconds told what = of_read seconds told what

of_told : (start : ℕ) (event : Event) (one : Option Told) → IsFine (option_map_or (λ (t : Told). told_text t.object.mode (start + event.at) t event.what) one [])
of_told start event None = nothing
of_told start event (Some t) = of_mode t.object.mode (start + event.at) t event.what

-- ---- the plan

of_drift : (seconds : ℕ) (drift : Option Drift) → IsFine (option_map_or (λ (d : Drift). message_line seconds (drift_message d.change d.details)) drift [])
unfolding message_object escape_byte
of_drift seconds None = nothing
of_drift seconds (Some d) = of_message seconds (drift_message d.change d.details) refl

of_word : (seconds : ℕ) (change : ResourceChange) (details : ChangeDetails) (word : Option (List ℕ))
    → IsFine (option_map_or (λ word. message_line seconds (planned_message change word details)) word [])
unfolding message_object escape_byte
of_word seconds change details None = nothing
of_word seconds change details (Some word) = of_message seconds (planned_message change word details) refl

of_details : (seconds : ℕ) (change : ResourceChange) (details : Option ChangeDetails)
    → IsFine (option_map_or (λ (d : ChangeDetails). command_text seconds change d) details [])
of_details seconds change None = nothing
of_details seconds change (Some details) = of_word seconds change details (command_word change.steps details)

of_change : (inputs : HeadInputs) (number : ℕ) (change : Option ResourceChange)
    → IsFine (option_map_or (λ change. option_map_or (λ (d : ChangeDetails). command_text (inputs.start + inputs.took) change d) (slice_get inputs.details number) []) change [])
of_change inputs number None = nothing
of_change inputs number (Some change) = of_details (inputs.start + inputs.took) change (slice_get inputs.details number)

-- ---- all of them

of_line : (inputs : HeadInputs) (one : HeadLine) → IsFine (line_text inputs one)
unfolding message_object escape_byte
of_line inputs line.Version = record {
  line = inr (inl (message_object (codes "info") (codes "Terraform " ++ inputs.plan.version) (precise_timestamp_text inputs.start) (version_members inputs.plan.version), refl));
  level = refl;
}
of_line inputs (line.Planning event) = of_told inputs.start event (slice_get inputs.told event.change)
of_line inputs (line.Drift number) = of_drift (inputs.start + inputs.took) (slice_get inputs.drifts number)
of_line inputs (line.Planned number) = of_change inputs number (slice_get inputs.plan.changes number)
of_line inputs line.Summary = of_message (inputs.start + inputs.took) (plan_summary_message inputs.totals) refl
of_line inputs line.Outputs = of_message (inputs.start + inputs.took) (plan_outputs_message inputs.outputs) refl

pub are_lines : (inputs : HeadInputs) (all : List HeadLine) → AllByRecursion IsLineOrNothing (map (line_text inputs) all)
are_lines inputs [] = tt
are_lines inputs (one ∷ all) = ((of_line inputs one).line, are_lines inputs all)

pub none_has_the_level : (inputs : HeadInputs) (all : List HeadLine) → list_any is_error_line (map (line_text inputs) all) ≡ false
none_has_the_level inputs [] = refl
none_has_the_level inputs (one ∷ all) = ap₂ (λ (a b : Bool). a || b) (of_line inputs one).level (none_has_the_level inputs all)
