-- What the main command does for an invocation: in lanes or with workers, with a saved plan in one
-- form or the other, or without one.
use Rattle.std.specs.Prelude.{ℕ, Bool, List, Option, Some, None}
use Rattle.clap.specs.Walk.{Text}
use Rattle.apply_text_terraform.specs.declared.command.Command.{Command}
use Rattle.apply_text_terraform.specs.declared.command.Command.TheVariants.{Saved, Plan, Apply, Destroy}
use Rattle.apply_text_terraform.specs.declared.form.Form.{Form}
use Rattle.apply_run.specs.Bytes.{Inputs}
use Rattle.apply_run.specs.FromBytes.{Reading, reading_of}
use Rattle.apply_run.specs.Run.{SinkState}
use Rattle.apply_run.specs.Schedule.{ByWorkers, InLanes, Schedule}
use Rattle.apply_command.specs.Reading.{planned_reading}
use Rattle.apply_cli_args.specs.Halt.{hooks_of_halts}
use Rattle.apply_cli_args.specs.Invocation.{IsOfWords}
use Rattle.apply_cli_args.specs.declared.invocation.Invocation.{Invocation}
use Rattle.apply_cli_args.specs.declared.settings.Settings.{Settings}
use Rattle.apply_cli.specs.declared.job.Job.{Job}
use Rattle.apply_cli.specs.Command.{HasAppliedOf, HasBegunOf, OfFile, OfInput}

-- in lanes if a parallelism is given, else with workers
abbrev pub schedule_of : Settings → (parallelism : Option ℕ) → Schedule
schedule_of settings None = ByWorkers settings.workers settings.queue
schedule_of settings (Some lanes) = InLanes lanes

-- the inputs were applied, and the whole stream was written
unfoldable pub HasAppliedAsAsked : Inputs → Settings → (parallelism : Option ℕ) → Reading → (before after : SinkState) → (status : ℕ) → Type 0
HasAppliedAsAsked given settings parallelism reading before after status =
    HasAppliedOf (schedule_of settings parallelism) reading given settings.at settings.operation before after status

-- a prefix of the stream was written
unfoldable pub HasBegunAsAsked : Inputs → Settings → (parallelism : Option ℕ) → Reading → (before after : SinkState) → Type 0
HasBegunAsAsked given settings parallelism reading before after =
    HasBegunOf (schedule_of settings parallelism) reading given settings.at settings.operation before after

-- ---- what is read

-- the planning has as many lanes as the apply: one, where no parallelism is given
abbrev pub lanes_of : (parallelism : Option ℕ) → ℕ
lanes_of None = 1
lanes_of (Some lanes) = lanes

-- a saved plan in that form, or what the command plans itself
abbrev pub reading_for : Form → Command → (refresh : Bool) → (parallelism : Option ℕ) → Reading
reading_for form Saved refresh parallelism = reading_of form
reading_for form Plan refresh parallelism = planned_reading Plan refresh (lanes_of parallelism)
reading_for form Apply refresh parallelism = planned_reading Apply refresh (lanes_of parallelism)
reading_for form Destroy refresh parallelism = planned_reading Destroy refresh (lanes_of parallelism)

-- as a job states it
abbrev pub job_reading : {a b : _} {g : _} → Job a b g → (parallelism : Option ℕ) → Reading
job_reading job parallelism = reading_for job.form job.command job.refresh parallelism

-- as an invocation states it
abbrev pub reading_asked : Invocation → Reading
reading_asked invocation = reading_for invocation.form invocation.command invocation.refresh invocation.parallelism

-- ---- from the words

-- the inputs of a run with these settings: the bytes of a plan, those of a script or none, and a
-- hook for each halt
abbrev pub given_of : Settings → (plan : List ℕ) → (script : Option (List ℕ)) → Inputs
given_of settings plan script =
    record { plan = plan; script = script; hooks = hooks_of_halts settings.halts.items }

-- the plan was applied as the invocation asks, and the whole stream was written after the bytes
-- that the output had. The script has all bytes of a file if and only if the settings name one
abbrev pub WasFollowed : {File : Type 0} → (remaining : File → Option (List ℕ)) → Invocation → (before after : SinkState) → (status : ℕ)
    → (plan : List ℕ) → Type 0
WasFollowed remaining invocation before after status plan = OfFile remaining invocation.settings.script (λ script.
    HasAppliedAsAsked (given_of invocation.settings plan script) invocation.settings invocation.parallelism (reading_asked invocation) before after status)

-- and a prefix of the stream was written
abbrev pub WasFollowedInPart : {File : Type 0} → (remaining : File → Option (List ℕ)) → Invocation → (before after : SinkState)
    → (plan : List ℕ) → Type 0
WasFollowedInPart remaining invocation before after plan = OfFile remaining invocation.settings.script (λ script.
    HasBegunAsAsked (given_of invocation.settings plan script) invocation.settings invocation.parallelism (reading_asked invocation) before after)

-- an output with these bytes, if it reveals them, and no failed write
abbrev pub unfailed : Option (List ℕ) → SinkState
unfailed bytes = record { bytes = bytes; failed = 0 }

-- the words state an invocation, the plan of the input was applied with it, and the whole stream
-- was written. No write or flush has failed
pub record WereApplied {File : Type 0} (remaining : File → Option (List ℕ)) (words : List Text) (input before : Option (List ℕ))
    (after : SinkState) (status : ℕ) : Type 0 where
  pub invocation : Invocation
  pub is_of_words : IsOfWords words invocation
  pub applied : OfInput input (WasFollowed remaining invocation (unfailed before) after status)

-- the words state an invocation, the plan of the input was applied with it, and a prefix of the
-- stream was written
pub record WereBegun {File : Type 0} (remaining : File → Option (List ℕ)) (words : List Text) (input before : Option (List ℕ))
    (after : SinkState) : Type 0 where
  pub invocation : Invocation
  pub is_of_words : IsOfWords words invocation
  pub begun : OfInput input (WasFollowedInPart remaining invocation (unfailed before) after)
