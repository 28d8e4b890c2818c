-- The state of an address: the open steps of each action, the provisioner, and the failures that no
-- error explains.
use Rattle.std.specs.Prelude.{ℕ, ◌+◌, List, [], ◌∷◌, length, Bool, true, false, ◌&&◌, ◌||◌, not, nat_lt, if◌then◌else◌, Option, Some, None, is_some, Result, Ok, Err}
use Rattle.std.specs.Str.{bytes_eq}
use Rattle.stream_check.specs.declared.messages.action.Action.{Action}
use Rattle.stream_check.specs.declared.messages.action.Action.TheVariants.{Create, Update, Delete, Read, Refresh}
use Rattle.stream_check.specs.declared.rules.fault.Fault.{Fault}
use Rattle.stream_check.specs.declared.rules.fault.Fault.TheVariants.{NoStep, ProvisionerRuns, NoProvisioner, LeavesProvisioner}
use Rattle.stream_message.specs.declared.stage.Stage.{Stage}
use Rattle.stream_message.specs.declared.stage.Stage.TheVariants as stage
use Rattle.stream_check.specs.declared.rules.pending.Pending.{Pending}
use Rattle.stream_check.specs.declared.rules.address_state.Failures.{Failures}
use Rattle.stream_check.specs.declared.rules.address_state.AddressState.{AddressState}
use Rattle.stream_check.specs.declared.messages.timed_stage.TimedStage.{TimedStage}
use Rattle.stream_check.specs.declared.messages.timed_stage.TimedStage.TheVariants.{Start, Progress, Complete, Errored}
use Rattle.stream_check.specs.Course.{after}
use Rattle.stream_check.specs.Limits.{max_lines}
use Rattle.stream_check.specs.Message.{Message, version, step, provision, planned, plan_summary, summary, diagnostic, outputs, other, foreign}
use Rattle.stream_check.specs.Results.{◌>>=◌}

abbrev pub pending_at : Action → AddressState → Option Pending
pending_at Create s = s.create
pending_at Update s = s.update
pending_at Delete s = s.delete
pending_at Read s = s.read
pending_at Refresh s = s.refresh

abbrev pub with_pending : Action → Option Pending → AddressState → AddressState
with_pending Create pending s = record s { create = pending }
with_pending Update pending s = record s { update = pending }
with_pending Delete pending s = record s { delete = pending }
with_pending Read pending s = record s { read = pending }
with_pending Refresh pending s = record s { refresh = pending }

-- nothing stands open
abbrev pub idle : AddressState
idle =
    record { create = None; update = None; delete = None; read = None; refresh = None; provisioner = None; failures = None }

abbrev pub is_idle : AddressState → Bool
is_idle s =
    not (is_some s.create) && not (is_some s.update) && not (is_some s.delete) && not (is_some s.read)
    && not (is_some s.refresh) && not (is_some s.provisioner) && not (is_some s.failures)

abbrev pub unless_idle : AddressState → Option AddressState
unless_idle s = if is_idle s then None else Some s

-- ---- a step

-- a provisioner runs within a create or a delete
abbrev pub may_provision : AddressState → Bool
may_provision s = is_some s.create || is_some s.delete

-- a step may not end while its provisioner runs
abbrev pub unless_provisioner_left : Option ℕ → AddressState → Result AddressState Fault
unless_provisioner_left None s = Ok s
unless_provisioner_left (Some start_line) s = if may_provision s then Ok s else Err (LeavesProvisioner start_line)

-- A failed create, update or delete needs an error. A read that fails has no message of its own in
-- Terraform's streams.
abbrev pub may_fail : Action → Bool
may_fail Create = true
may_fail Update = true
may_fail Delete = true
may_fail Read = false
may_fail Refresh = false

-- one failure more, on that line; there are no more failures than lines
abbrev pub one_failure_more : (line : ℕ) → Option Failures → Failures
one_failure_more line None = record { since = line; count = 1 }
one_failure_more line (Some failures) =
    if nat_lt failures.count max_lines then record failures { count = failures.count + 1 } else failures

-- a failed step leaves a failure
abbrev pub failed_by : Action → TimedStage → (line : ℕ) → AddressState → AddressState
failed_by action Start line s = s
failed_by action (Progress seconds) line s = s
failed_by action (Complete seconds) line s = s
failed_by action (Errored seconds) line s =
    if may_fail action then record s { failures = Some (one_failure_more line s.failures) } else s

-- the state after a message about a step on that line, or its fault
abbrev pub step_on : Action → TimedStage → (line : ℕ) → AddressState → Result AddressState Fault
step_on action stage line s =
    after action stage line (pending_at action s)
    >>= λ pending. unless_provisioner_left s.provisioner (failed_by action stage line (with_pending action pending s))

-- ---- a provisioner

-- the line of the running provisioner after a message on that line, or its fault
abbrev pub provisioned : Stage → (line : ℕ) → Option ℕ → Result (Option ℕ) Fault
provisioned stage.Start line None = Ok (Some line)
provisioned stage.Start line (Some start_line) = Err (ProvisionerRuns start_line)
provisioned stage.Progress line None = Err NoProvisioner
provisioned stage.Progress line (Some start_line) = Ok (Some start_line)
provisioned stage.Complete line None = Err NoProvisioner
provisioned stage.Complete line (Some start_line) = Ok None
provisioned stage.Errored line None = Err NoProvisioner
provisioned stage.Errored line (Some start_line) = Ok None

abbrev pub provision_on : Stage → (line : ℕ) → AddressState → Result AddressState Fault
provision_on stage line s =
    if may_provision s then (provisioned stage line s.provisioner >>= λ running. Ok (record s { provisioner = running }))
    else Err NoStep

-- ---- a diagnostic

-- an error explains all failures of its address
abbrev pub failures_cleared : Bool → AddressState → AddressState
failures_cleared is_error s = if is_error then record s { failures = None } else s

-- ---- all messages

-- a message with a fault leaves the state unchanged
abbrev pub or_as_before : AddressState → Result AddressState Fault → AddressState
or_as_before s (Ok new) = new
or_as_before s (Err fault) = s

-- the state of the address after a message on that line
abbrev pub state_after : (address : List ℕ) → (line : ℕ) → Message → AddressState → AddressState
state_after address line version s = s
state_after address line (step a action stage) s =
    if bytes_eq a address then or_as_before s (step_on action stage line s) else s
state_after address line (provision a stage) s = if bytes_eq a address then or_as_before s (provision_on stage line s) else s
state_after address line (planned intent place) s = s
state_after address line (plan_summary totals) s = s
state_after address line (summary totals) s = s
state_after address line (diagnostic is_error None) s = s
state_after address line (diagnostic is_error (Some a)) s = if bytes_eq a address then failures_cleared is_error s else s
state_after address line outputs s = s
state_after address line other s = s
state_after address line foreign s = s

-- The state of the address after all messages, the latest first.
unfoldable pub state_of : (address : List ℕ) → List Message → AddressState
state_of address [] = idle
state_of address (message ∷ earlier) = state_after address (length earlier + 1) message (state_of address earlier)
