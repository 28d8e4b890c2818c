-- Why a stream gives no script, by what the parts of the work answer.
use Rattle.stream_record.specs.declared.script_fault.ScriptFault.{ScriptFault}
use Rattle.stream_record.specs.declared.script_fault.ScriptFault.TheVariants as script
use Rattle.stream_record_waits.specs.declared.waits_fault.WaitsFault.{WaitsFault}
use Rattle.stream_record_waits.specs.declared.waits_fault.WaitsFault.TheVariants as waits
use Rattle.stream_record_script.specs.declared.recording_fault.RecordingFault.{RecordingFault}
use Rattle.stream_record_script.specs.declared.recording_fault.RecordingFault.TheVariants as fault

abbrev pub of_script_fault : ScriptFault → RecordingFault
of_script_fault script.TooLarge = fault.TooLarge
of_script_fault script.Memory = fault.Memory

abbrev pub of_waits_fault : WaitsFault → RecordingFault
of_waits_fault waits.TooMany = fault.TooManyWaits
of_waits_fault waits.Memory = fault.Memory
