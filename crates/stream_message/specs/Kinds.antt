-- The kinds of message types (Machine-Readable UI, "Message Types").
use Rattle.std.specs.Prelude.{ℕ, List, codes, if◌then◌else◌}
use Rattle.std.specs.Str.{bytes_eq}
use Rattle.stream_message.specs.declared.kind.Kind.{Kind}
use Rattle.stream_message.specs.declared.kind.Kind.TheVariants as kind
use Rattle.stream_message.specs.declared.stage.Stage.TheVariants as stage

abbrev pub ephemeral_kind : (name : List ℕ) → Kind
ephemeral_kind name =
    if bytes_eq name (codes "ephemeral_op_start") then kind.Ephemeral stage.Start
    else if bytes_eq name (codes "ephemeral_op_progress") then kind.Ephemeral stage.Progress
    else if bytes_eq name (codes "ephemeral_op_complete") then kind.Ephemeral stage.Complete
    else if bytes_eq name (codes "ephemeral_op_errored") then kind.Ephemeral stage.Errored
    else kind.Other

abbrev pub general_kind : (name : List ℕ) → Kind
general_kind name =
    if bytes_eq name (codes "planned_change") then kind.Planned
    else if bytes_eq name (codes "change_summary") then kind.Summary
    else if bytes_eq name (codes "diagnostic") then kind.Diagnostic
    else if bytes_eq name (codes "outputs") then kind.Outputs
    else ephemeral_kind name

abbrev pub refresh_kind : (name : List ℕ) → Kind
refresh_kind name =
    if bytes_eq name (codes "refresh_start") then kind.Refresh stage.Start
    else if bytes_eq name (codes "refresh_complete") then kind.Refresh stage.Complete
    else if bytes_eq name (codes "provision_start") then kind.Provision stage.Start
    else if bytes_eq name (codes "provision_progress") then kind.Provision stage.Progress
    else if bytes_eq name (codes "provision_complete") then kind.Provision stage.Complete
    else if bytes_eq name (codes "provision_errored") then kind.Provision stage.Errored
    else general_kind name

-- the kind of a type
abbrev pub kind_named : (name : List ℕ) → Kind
kind_named name =
    if bytes_eq name (codes "version") then kind.Version
    else if bytes_eq name (codes "apply_start") then kind.Apply stage.Start
    else if bytes_eq name (codes "apply_progress") then kind.Apply stage.Progress
    else if bytes_eq name (codes "apply_complete") then kind.Apply stage.Complete
    else if bytes_eq name (codes "apply_errored") then kind.Apply stage.Errored
    else refresh_kind name
