-- How many bytes a time line takes in memory, on a machine of 64 bits. Not counted are the reserve
-- of vectors and maps, single numbers and flags, and the current line.
use Rattle.std.specs.Prelude.{ℕ, ◌+◌, [], unwrap_or}
use Rattle.std.specs.List.{sum_by}
use Rattle.stream_timeline.specs.declared.reading.builder.TimelineBuilder.{TimelineBuilder}
use Rattle.stream_timeline.specs.Details.{DiagnosticRead}
use Rattle.stream_timeline.specs.OpenPlaces.{index_bytes, places_bytes, text_bytes}
use Rattle.stream_timeline.specs.Steps.{ProvisionerRead, StepRead}
use Rattle.stream_timeline.specs.TimelineRead.{TimelineRead}

-- the name and 32 bytes
abbrev pub provisioner_bytes : ProvisionerRead → ℕ
provisioner_bytes p = text_bytes p.name + 32

-- the address, the action, 64 bytes, and the provisioners
abbrev pub step_bytes : StepRead → ℕ
step_bytes s = text_bytes s.address + text_bytes s.action + 64 + sum_by provisioner_bytes s.provisioners

-- the texts and 64 bytes
abbrev pub diagnostic_bytes : DiagnosticRead → ℕ
diagnostic_bytes d =
    text_bytes d.summary + text_bytes (unwrap_or d.address []) + text_bytes (unwrap_or d.file []) + 64
    + sum_by text_bytes d.detail

-- the steps, the version, the errors and the warnings
abbrev pub timeline_bytes : TimelineRead → ℕ
timeline_bytes t =
    sum_by step_bytes t.steps + text_bytes (unwrap_or t.version []) + sum_by diagnostic_bytes t.errors.stored
    + sum_by diagnostic_bytes t.warnings.stored

-- what a builder stores: the time line and the index of open steps
abbrev pub builder_bytes : TimelineBuilder → ℕ
builder_bytes builder = timeline_bytes builder.timeline + places_bytes builder.opened

-- the most that a builder of this time line stores
abbrev pub stored_bytes : TimelineRead → ℕ
stored_bytes t = timeline_bytes t + index_bytes t.steps
