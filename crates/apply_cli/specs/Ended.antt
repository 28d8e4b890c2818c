-- How the main command ends, with each exit status.
use Rattle.std.specs.Prelude.{◌≡◌, ◌<◌, ◌≤◌, ◌⊎◌, ℕ, List, Option, length}
use Rattle.std.specs.Io.KnownBytes.{Keeps}
use Rattle.apply_plan.specs.Bytes.{max_bytes}
use Rattle.apply_run.specs.Bytes.{Inputs}
use Rattle.apply_run.specs.FromBytes.{Reading}
use Rattle.apply_run.specs.Run.{SinkState}
use Rattle.apply_cli_args.specs.declared.halt.Halt.{Halt}
use Rattle.apply_cli_args.specs.declared.settings.Settings.{Settings}
use Rattle.apply_cli.specs.Command.{HasRefusedOf, OfInput}
use Rattle.apply_cli.specs.Invocation.{HasAppliedAsAsked, HasBegunAsAsked, schedule_of}
use Rattle.apply_cli.specs.Unmatched.{AreReported, unmatched_of}

-- what holds with each status, if the inputs are known. Too many bytes of a plan are refused
pub record HasEnded (given : Inputs) (settings : Settings) (parallelism : Option ℕ) (reading : Reading) (before after : SinkState)
    (faults faults' : Option (List ℕ)) (status : ℕ) : Type 0 where
  pub applied : status ≤ 1 → HasAppliedAsAsked given settings parallelism reading before after status
  pub refused : status ≡ 2 → HasRefusedOf (schedule_of settings parallelism) reading given settings.at settings.operation before after
  pub unchanged : status ≡ 2 → Keeps before.bytes after.bytes
  pub cut_off : status ≡ 3 → Keeps before.bytes after.bytes ⊎ HasBegunAsAsked given settings parallelism reading before after
  pub large : max_bytes < length given.plan → status ≡ 2
  pub reported : status ≤ 1 → AreReported (unmatched_of given.plan settings.halts.items) faults faults'
  pub statuses : status ≤ 3

-- what holds with each status, if the plan is read from an input: whether it was applied, wholly or
-- in part, is said of the plan's bytes
pub record HasEndedOn (input : Option (List ℕ)) (Applied Begun : (plan : List ℕ) → Type 0) (halts : List Halt)
    (before after : SinkState) (faults faults' : Option (List ℕ)) (status : ℕ) : Type 0 where
  pub applied : status ≤ 1 → OfInput input Applied
  pub refused : status ≡ 2 → Keeps before.bytes after.bytes
  pub cut_off : status ≡ 3 → Keeps before.bytes after.bytes ⊎ OfInput input Begun
  pub reported : status ≤ 1 → OfInput input (λ plan. AreReported (unmatched_of plan halts) faults faults')
  pub statuses : status ≤ 3
