-- What the streams of a plan, of its apply and of its destroy have in common.
use Rattle.std.specs.Prelude.{◌≡◌, ℕ, ◌+◌, List, [], ◌++◌, Bool, false, ◌&&◌, flat_map, if◌then◌else◌, length, true}
use Rattle.std.specs.List.{enumerate_from}
use Rattle.apply_events.specs.declared.event.Event.{Event}
use Rattle.apply_events.specs.Totals.{totals_of}
use Rattle.apply_planning_failures.specs.Planning.{planning_notes}
use Rattle.apply_text.specs.Latest.{latest_of}
use Rattle.apply_text.specs.Order.{as_written}
use Rattle.apply_text_planning.specs.Notes.{forgotten_in}
use Rattle.apply_text_terraform.specs.declared.command.Command.{Command}
use Rattle.apply_text_terraform.specs.declared.command.Command.TheVariants.{Plan}
use Rattle.apply_text_terraform.specs.Lines.{note_text}
use Rattle.apply_command.specs.Head.{head_lines, head_text, is_none, plan_lines}
use Rattle.apply_command.specs.Notes.{is_partial, tells_plan}
use Rattle.apply_command.specs.Reading.{CommandInputs, failed, head_inputs, is_applied, kept_changes, kept_drifts, notes, planning}
use Rattle.apply_writer.specs.Stream.Form.{StreamForm}

-- ---- how a stream begins

module _ (lanes : ℕ) (read : CommandInputs) (start : ℕ) where
  -- the version, and what is refreshed and read
  abbrev pub planning_text : List ℕ
  planning_text = head_text (head_inputs Plan lanes read start) (head_lines (planning Plan lanes read).events [])

  -- what drifted, what is planned, and the sums
  abbrev pub plan_text : List ℕ
  plan_text = head_text (head_inputs Plan lanes read start) (plan_lines true (kept_drifts Plan lanes read) (kept_changes Plan lanes read) read.outputs)

  -- all that the stream of a plan has before its diagnostics
  abbrev pub before_diagnostics : List ℕ
  before_diagnostics = planning_text ++ plan_text

  -- the diagnostics of a plan, when the planning has ended
  abbrev pub diagnostics : List ℕ
  diagnostics = flat_map (note_text (start + (head_inputs Plan lanes read start).took) 0) (notes Plan lanes read)

-- the command prints the plan
abbrev pub prints_plan : Command → (lanes : ℕ) → CommandInputs → Bool
prints_plan command lanes read =
    tells_plan command (failed Plan lanes read) (planning_notes (planning Plan lanes read)) (is_none read.stated.plan.changes && is_none read.outputs)

-- how the stream of a command begins: as that of a plan up to its diagnostics, or, where the
-- command does not print the plan, up to the plan
abbrev pub beginning : Command → (lanes : ℕ) → CommandInputs → (start : ℕ) → List ℕ
beginning command lanes read start =
    if prints_plan command lanes read then before_diagnostics lanes read start else planning_text lanes read start

-- ---- what comes after the beginning

-- the stream of these events after its head
abbrev pub after_head : StreamForm → (taken : List Event) → List ℕ
after_head form taken =
    flat_map (λ p. form.line (latest_of (as_written taken) (p.0 + 1)) p.1) (enumerate_from 0 (as_written taken))
    ++ form.tail (latest_of (as_written taken) (length (as_written taken))) (totals_of form.plan taken)

-- the command applies the plan, which is not partial and forgets no object
pub record AppliesWholePlan (command : Command) (lanes : ℕ) (read : CommandInputs) : Type 0 where
  pub applied : is_applied command lanes read ≡ true
  pub whole : is_partial read.stated.details.note ≡ false
  pub forgets_none : forgotten_in read.stated.plan.changes read.stated.details.changes ≡ []
