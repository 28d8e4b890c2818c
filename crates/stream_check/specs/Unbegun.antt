-- Planned creates that have not begun.
use Rattle.std.specs.Prelude.{ℕ, ◌+◌, ◌-◌, ◌==◌, List, [], ◌∷◌, length, Bool, true, false, ◌&&◌, nat_lt, if◌then◌else◌, Option, Some, None, is_some, unwrap_or}
use Rattle.std.specs.List.{list_any}
use Rattle.std.specs.Option.{option_and_then, option_map_or}
use Rattle.std.specs.Str.{bytes_eq}
use Rattle.stream_check.specs.declared.messages.action.Action.{Action}
use Rattle.stream_check.specs.declared.messages.action.Action.TheVariants as action
use Rattle.stream_check.specs.declared.messages.timed_stage.TimedStage.{TimedStage}
use Rattle.stream_check.specs.declared.messages.timed_stage.TimedStage.TheVariants.{Start, Progress, Complete, Errored}
use Rattle.stream_check.specs.declared.rules.address_state.AddressState.{AddressState}
use Rattle.stream_check.specs.declared.rules.open_entry.OpenEntry.{OpenEntry}
use Rattle.stream_check.specs.declared.rules.open_entry.OpenKind.TheVariants.{Create}
use Rattle.stream_check.specs.declared.rules.pending.Pending.{Pending}
use Rattle.stream_check.specs.declared.rules.pending.Pending.TheVariants.{One, Several}
use Rattle.stream_check.specs.AddressState.{idle, unless_idle}
use Rattle.stream_check.specs.Intents.{creates}
use Rattle.stream_check.specs.Limits.{max_lines}
use Rattle.stream_check.specs.Message.{Message, version, step, provision, planned, plan_summary, summary, diagnostic, outputs, other, foreign}
use Rattle.stream_check.specs.Tally.{begun_totals}
use Rattle.stream_check.specs.Unended.{AreAll, Opened, open_step}

-- One create more is planned on that line. Several at one address wait since the line of the first.
-- There are no more of them than lines.
abbrev pub one_planned : (line : ℕ) → Option Pending → Pending
one_planned line None = Several line 1
one_planned line (Some (One start_line last_seconds since)) = Several start_line 2
one_planned line (Some (Several start_line count)) =
    Several start_line (if nat_lt count max_lines then count + 1 else count)

-- one of them has begun
abbrev pub one_begun : Option Pending → Option Pending
one_begun None = None
one_begun (Some (One start_line last_seconds since)) = None
one_begun (Some (Several start_line count)) = if nat_lt 1 count then Some (Several start_line (count - 1)) else None

-- the message is the start of a create
abbrev pub starts_create : TimedStage → Action → Bool
starts_create Start action.Create = true
starts_create Start action.Update = false
starts_create Start action.Delete = false
starts_create Start action.Read = false
starts_create Start action.Refresh = false
starts_create (Progress seconds) given = false
starts_create (Complete seconds) given = false
starts_create (Errored seconds) given = false

-- What waits at an address after a message on that line. A plan comes before its apply, so a planned
-- create counts where no create has begun before.
abbrev pub unbegun_after : (address : List ℕ) → (line begun : ℕ) → Message → Option Pending → Option Pending
unbegun_after address line begun version waiting = waiting
unbegun_after address line begun (step a given stage) waiting =
    if starts_create stage given && bytes_eq a address then one_begun waiting else waiting
unbegun_after address line begun (provision a stage) waiting = waiting
unbegun_after address line begun (planned intent None) waiting = waiting
unbegun_after address line begun (planned intent (Some a)) waiting =
    if (creates intent && begun == 0) && bytes_eq a address then Some (one_planned line waiting) else waiting
unbegun_after address line begun (plan_summary totals) waiting = waiting
unbegun_after address line begun (summary totals) waiting = waiting
unbegun_after address line begun (diagnostic is_error a) waiting = waiting
unbegun_after address line begun outputs waiting = waiting
unbegun_after address line begun other waiting = waiting
unbegun_after address line begun foreign waiting = waiting

-- the planned creates of the address that have not begun after all messages, the latest first
unfoldable pub unbegun_at : (address : List ℕ) → List Message → Option Pending
unbegun_at address [] = None
unbegun_at address (message ∷ earlier) =
    unbegun_after address (length earlier + 1) (begun_totals earlier).added message (unbegun_at address earlier)

-- the address of a planned change
abbrev pub planned_address : Message → Option (List ℕ)
planned_address (planned intent address) = address
planned_address _ = None

-- a planned create waits at the address of the message
abbrev pub is_unbegun : List Message → Message → Bool
is_unbegun messages message = option_map_or (λ a. is_some (unbegun_at a messages)) (planned_address message) false

-- some planned create has not begun
unfoldable pub any_unbegun : List Message → Bool
any_unbegun messages = list_any (is_unbegun messages) messages

-- the entry of an address at which planned creates wait, with the line of the first
abbrev pub unbegun_entry : List Message → (address : List ℕ) → List Opened
unbegun_entry messages address = open_step address Create (unbegun_at address messages)

-- All addresses at which planned creates wait, in the order of their bytes.
abbrev pub AreAllUnbegun : List Message → List OpenEntry → Type 0
AreAllUnbegun messages entries = AreAll (unbegun_entry messages) (λ a. is_some (unbegun_at a messages)) entries

-- ---- for private clauses

-- what waits, as the state of an address
abbrev pub awaiting : Option Pending → AddressState
awaiting waiting = record idle { create = waiting }

-- the stored states after a change was planned on that line
abbrev pub planned_state : (counts : Bool) → (line : ℕ) → (planned : Option (List ℕ)) → (stored : List ℕ → Option AddressState) → (address : List ℕ) → Option AddressState
planned_state counts line None stored address = stored address
planned_state counts line (Some a) stored address =
    if counts && bytes_eq a address
    then unless_idle (awaiting (Some (one_planned line (unwrap_or (stored a) idle).create)))
    else stored address

-- the stored state of an address after one create has begun there
abbrev pub begun_state : Option AddressState → Option AddressState
begun_state o = option_and_then (λ s. unless_idle (awaiting (one_begun s.create))) o
