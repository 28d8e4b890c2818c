-- What the tool `record` gives.
use Rattle.std.specs.Prelude.{◌≡◌, ◌⊎◌, ⊤, ℕ, List, Bool, true, false, Option, Result, Ok, Err, option_map, string_bytes}
use Rattle.std.specs.Io.KnownBytes.{Keeps}
use Rattle.stream_tool.specs.Running.{Giving}
use Rattle.stream_record_cli.specs.Alone as alone
use Rattle.stream_record_cli.specs.Chosen.{choice_of}
use Rattle.stream_record_cli.specs.Inputs.{IsOfRead, IsOfStream, IsStreamOf}
use Rattle.stream_record_cli.specs.Outcomes.{HasOutcome}
use Rattle.stream_record_cli.specs.Recorded.{IsRefused, IsScriptOfStream}
use Rattle.stream_record_cli.specs.declared.command.inputs.Inputs.{Inputs}
use Rattle.stream_record_cli.specs.declared.command.settings.Settings.{Settings}
use Rattle.stream_record_cli.specs.declared.record_fault.RecordFault.{RecordFault}
use Rattle.stream_record_cli.specs.declared.record_fault.RecordFault.TheVariants as fault

-- The script of the plan alone, or of the stream, by the plan and the graph that were read.
abbrev pub HasOutcomeOf : {File : Type 0} → (remaining : File → Option (List ℕ)) → Settings → (given before after : Option (List ℕ))
    → Result (Unit {0}) RecordFault → (status : ℕ) → (only_plan : Bool) → (plan : List ℕ) → (graph : Option (List ℕ)) → Type 0
HasOutcomeOf remaining settings given before after answer status true plan graph =
    HasOutcome (alone.IsScript plan graph) (alone.IsRefused plan graph) before after status answer
HasOutcomeOf remaining settings given before after answer status false plan graph =
    IsOfStream remaining settings given (λ stream.
    HasOutcome (IsScriptOfStream plan graph (choice_of settings) stream) (IsRefused plan graph (choice_of settings) stream) before after status answer)

-- What `record` gives with these settings. An input could not be opened or read: status 2, or 3
-- where memory was refused, and the output is unchanged. Memory was refused: status 3, and the
-- output is unchanged. Else all were read. `remaining` gives the bytes of a file, and `given` are
-- those of standard input.
abbrev pub HasRecorded : {File : Type 0} → (remaining : File → Option (List ℕ)) → Giving Settings (Result (Unit {0}) RecordFault)
HasRecorded remaining settings given before after (Err (fault.Input why)) status = ((status ≡ 2) ⊎ (status ≡ 3)) × Keeps before after
HasRecorded remaining settings given before after (Err fault.Memory) status = (status ≡ 3) × Keeps before after
HasRecorded remaining settings given before after answer status =
    IsOfRead remaining settings given (λ plan graph. HasOutcomeOf remaining settings given before after answer status settings.only_plan plan graph)

-- Nothing is reported on standard error: the script was written without warnings, or the reader of
-- the output is gone.
abbrev pub IsQuiet : Result (Unit {0}) RecordFault → (status : ℕ) → Type 0
IsQuiet (Ok done) status = status ≡ 0
IsQuiet (Err fault.Gone) status = ⊤
IsQuiet (Err why) status = status ≡ 0

-- ---- for private clauses

-- This holds of the bytes of the stream, where these are left of standard input.
abbrev pub IsOfInput : {File : Type 0} → (remaining : File → Option (List ℕ)) → (given : Option (List ℕ)) → (name : Option (List ℕ))
    → (IsSo : (stream : Option (List ℕ)) → Type 0) → Type 0
IsOfInput remaining given name IsSo = (stream : Option (List ℕ)) × IsStreamOf remaining given name stream × IsSo stream

-- What a stream gives, where the plan and the graph were read.
abbrev pub HasRecordedStream : {File : Type 0} → (remaining : File → Option (List ℕ)) → Settings → Inputs → (given before after : Option (List ℕ))
    → Result (Unit {0}) RecordFault → (status : ℕ) → Type 0
HasRecordedStream remaining settings inputs given before after (Err (fault.Input why)) status = ((status ≡ 2) ⊎ (status ≡ 3)) × Keeps before after
HasRecordedStream remaining settings inputs given before after (Err fault.Memory) status = (status ≡ 3) × Keeps before after
HasRecordedStream remaining settings inputs given before after answer status =
    IsOfInput remaining given (option_map string_bytes settings.file) (λ stream.
    HasOutcome (IsScriptOfStream inputs.plan.bytes.items (option_map (λ read. read.bytes.items) inputs.graph) (choice_of settings) stream)
    (IsRefused inputs.plan.bytes.items (option_map (λ read. read.bytes.items) inputs.graph) (choice_of settings) stream) before after status answer)
