-- Which lines begin what is remembered.
use Rattle.std.specs.Prelude.{ℕ, List, codes, ◌&&◌, Bool, true, false, is_some}
use Rattle.std.specs.Option.{option_map_or}
use Rattle.serde_json.specs.Data.{Data}
use Rattle.apply_json.specs.Tree.{text_of}
use Rattle.stream_message.specs.Kinds.{kind_named}
use Rattle.stream_message.specs.declared.kind.Kind.{Kind}
use Rattle.stream_message.specs.declared.kind.Kind.TheVariants as kind
use Rattle.stream_message.specs.declared.stage.Stage.{Stage}
use Rattle.stream_message.specs.declared.stage.Stage.TheVariants as stage
use Rattle.stream_watch.specs.Hooks.{hook_of}
use Rattle.stream_watch.specs.Reading.{message_of}
use Rattle.stream_watch.specs.StepRows.{step_of}

abbrev pub is_start : Stage → Bool
is_start stage.Start = true
is_start stage.Progress = false
is_start stage.Complete = false
is_start stage.Errored = false

-- a step begins, or a refresh
abbrev pub begins_kind : Data → Kind → Bool
begins_kind tree kind.Version = false
begins_kind tree kind.Planned = false
begins_kind tree (kind.Apply stage) = is_some (step_of tree) && is_start stage
begins_kind tree (kind.Ephemeral stage) = is_some (step_of tree) && is_start stage
begins_kind tree (kind.Refresh stage) = is_some (hook_of tree) && is_start stage
begins_kind tree (kind.Provision stage) = false
begins_kind tree kind.Diagnostic = false
begins_kind tree kind.Summary = false
begins_kind tree kind.Outputs = false
begins_kind tree kind.Other = false

abbrev pub begins_message : Data → Bool
begins_message tree = option_map_or (λ name. begins_kind tree (kind_named name)) (text_of (codes "type") tree) false

-- the line begins a step or a refresh
abbrev pub begins : (find : Bool) → (line : List ℕ) → Bool
begins find line = option_map_or begins_message (message_of find line) false
