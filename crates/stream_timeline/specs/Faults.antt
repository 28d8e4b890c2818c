-- Why a stream has no time line.
use Rattle.stream_lines.specs.declared.line_fault.LineFault.{LineFault}
use Rattle.stream_lines.specs.declared.line_fault.LineFault.TheVariants as of
use Rattle.stream_timeline.specs.declared.reading.timeline_fault.TimelineFault.{TimelineFault}
use Rattle.stream_timeline.specs.declared.reading.timeline_fault.TimelineFault.TheVariants as fault

-- the fault for a line that could not be read
abbrev pub as_timeline_fault : LineFault → TimelineFault
as_timeline_fault (of.Unread failed) = fault.Unread failed
as_timeline_fault of.Memory = fault.Memory
