-- Laws of every accepted stream.
use Rattle.std.specs.Prelude.{◌≡◌, ◌≢◌, ◌≤◌, ⊤, ℕ, List, [], ◌∷◌, drop, count_by, Bool, true, false, ◌&&◌, ◌||◌, Result, Ok, Err}
use Rattle.std.specs.List.{AllByRecursion, list_any}
use Rattle.std.specs.Str.{bytes_eq}
use Rattle.stream_check.specs.declared.messages.action.Action.{Action}
use Rattle.stream_check.specs.declared.messages.action.Action.TheVariants.{Read, Refresh}
use Rattle.stream_check.specs.declared.rules.fault.Fault.{Fault}
use Rattle.stream_check.specs.declared.messages.totals.Totals.{Totals}
use Rattle.stream_check.specs.declared.verdict.whole.Whole.{Whole}
use Rattle.stream_check.specs.declared.messages.timed_stage.TimedStage.{TimedStage}
use Rattle.stream_check.specs.declared.messages.timed_stage.TimedStage.TheVariants.{Start, Progress, Complete, Errored}
use Rattle.stream_check.specs.declared.rules.mode.Mode.{Mode}
use Rattle.stream_check.specs.Lines.{leaves_planned, line_message}
use Rattle.stream_check.specs.Message.{Message, version, step, provision, planned, plan_summary, summary, diagnostic, outputs, other, foreign}
use Rattle.stream_check.specs.Tally.{completed_totals, is_error, is_summary, planned_totals}
use Rattle.stream_check.specs.Words.{same_action}

abbrev pub is_start : TimedStage → Bool
is_start Start = true
is_start (Progress seconds) = false
is_start (Complete seconds) = false
is_start (Errored seconds) = false

abbrev pub is_end : TimedStage → Bool
is_end Start = false
is_end (Progress seconds) = false
is_end (Complete seconds) = true
is_end (Errored seconds) = true

-- the message is about the action at the address, at a stage that passes the test
abbrev pub tells : (TimedStage → Bool) → List ℕ → Action → Message → Bool
tells test a k version = false
tells test a k (step b l stage) = (bytes_eq b a && same_action l k) && test stage
tells test a k (provision b stage) = false
tells test a k (planned intent address) = false
tells test a k (plan_summary totals) = false
tells test a k (summary totals) = false
tells test a k (diagnostic e b) = false
tells test a k outputs = false
tells test a k other = false
tells test a k foreign = false

-- At no time has a step ended more often than it started. At the end, each create, update and
-- delete has ended as often as it started. The latest message is the first of the list, so the list
-- without its first n messages is an earlier time.
pub record EachEnds (messages : List Message) : Type 0 where
  pub in_order : (n : ℕ) (a : List ℕ) (k : Action) → count_by (tells is_end a k) (drop n messages)
      ≤ count_by (tells is_start a k) (drop n messages)
  pub at_last : (a : List ℕ) (k : Action) → k ≢ Read → k ≢ Refresh → count_by (tells is_start a k) messages
      ≡ count_by (tells is_end a k) messages

-- a summary states these totals
abbrev pub SumsUp : Totals → Message → Type 0
SumsUp totals version = ⊤
SumsUp totals (step a k stage) = ⊤
SumsUp totals (provision a stage) = ⊤
SumsUp totals (planned intent address) = ⊤
SumsUp totals (plan_summary stated) = ⊤
SumsUp totals (summary stated) = stated ≡ totals
SumsUp totals (diagnostic e a) = ⊤
SumsUp totals outputs = ⊤
SumsUp totals other = ⊤
SumsUp totals foreign = ⊤

-- the lines state these messages after the earlier ones, the latest first
abbrev pub StateMessages : (find : Bool) → (earlier messages : List Message) → List (List ℕ) → Type 0
StateMessages find earlier messages [] = messages ≡ earlier
StateMessages find earlier messages (text ∷ texts) =
    (m : Message) × (line_message find text ≡ Ok m) × StateMessages find (m ∷ earlier) messages texts

-- the line states a message that passes the test
abbrev pub states_in : (Message → Bool) → Result Message Fault → Bool
states_in p (Ok m) = p m
states_in p (Err fault) = false

abbrev pub says : (find : Bool) → (Message → Bool) → List ℕ → Bool
says find p text = states_in p (line_message find text)

-- The lines are messages in which each step ends as often as it starts. The totals count the
-- completed steps, or the planned ones in the stream of a plan. A summary states the same totals.
-- The stream has a summary or an error. Without an error each planned create began.
pub record IsWhole (mode : Mode) (texts : List (List ℕ)) (whole : Whole) (messages : List Message) : Type 0 where
  pub lines : StateMessages mode.find [] messages texts
  pub steps : EachEnds messages
  pub completed : whole.is_plan ≡ false → whole.totals ≡ completed_totals messages
  pub planned : whole.is_plan ≡ true → whole.totals ≡ planned_totals messages
  pub summed : AllByRecursion (SumsUp (completed_totals messages)) messages
  pub errors : whole.has_errors ≡ list_any is_error messages
  pub closed : whole.is_plan ≡ false → (list_any is_summary messages || list_any is_error messages) ≡ true
  pub asked : whole.is_plan ≡ true → mode.plan ≡ true
  pub begun : whole.is_plan ≡ false → leaves_planned messages ≡ false
