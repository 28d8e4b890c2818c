-- The lines of planned changes: which lines have the type `planned_change`, and the word of each
-- line.
use Rattle.std.specs.Prelude.{◌≡◌, ◌⊎◌, ◌+◌, ℕ, List, [], ◌∷◌, ◌++◌, Bool, false, true, codes, if◌then◌else◌, length, map, flat_map, nat_eq, reverse, MatchOption, Option, Some, None, ⊤}
use Rattle.std.specs.List.{AllByRecursion, concat, enumerate_from, starts_with}
use Rattle.serde_json.specs.Data.{Data, Items, no_items, item}
use Rattle.serde_json.specs.Find.{as_str}
use Rattle.apply_json.specs.Tree.{◌>>=◌, is_word, member_of, text_of}
use Rattle.apply_model.specs.Plan.SavedPlan.{SavedPlan}
use Rattle.apply_model.specs.Script.OutcomeMap.{OutcomeMap}
use Rattle.apply_events.specs.declared.event.Event.{Event}
use Rattle.apply_events.specs.Totals.{totals_of}
use Rattle.apply_text.specs.declared.operation.Operation.{Operation}
use Rattle.apply_text.specs.Latest.{latest_of}
use Rattle.apply_text.specs.Message.{Message}
use Rattle.apply_text.specs.Order.{as_written}
use Rattle.apply_text_terraform.specs.Lines.{line_of_text, message_line, note_text, summary_text, version_text}
use Rattle.apply_plan_terraform.specs.Details.{actions_in}
use Rattle.apply_writer.specs.Stream.Form.{StreamForm, stream_in}
use Rattle.apply_writer.specs.Stream.Terraform.{StreamExtras, imported_in, outputs_of_apply, planned_at, contains_error, terraform_form}
use Rattle.laws_run.specs.PlannedChanges.{planned_in}

-- ---- which lines have the type

-- the end of the line of a planned change: its last member is the type
abbrev pub planned_end : List ℕ
planned_end = codes ",\"type\":\"planned_change\"}\n"

-- A line has the type `planned_change` if it ends with that member. In a line each quote that is
-- part of a text has an escape before it.
abbrev pub is_planned_line : (line : List ℕ) → Bool
is_planned_line line = starts_with nat_eq (reverse line) (reverse planned_end)

-- the text is empty, or the line of one JSON text of another type
abbrev pub IsOtherLine : List ℕ → Type 0
IsOtherLine text =
    (text ≡ []) ⊎ ((json : List ℕ) × (text ≡ line_of_text json) × (is_planned_line text ≡ false))

-- the lines of events in the order in which they are written; empty where an event has no line
abbrev pub lines_of_events : StreamForm → (written : List Event) → List (List ℕ)
lines_of_events form written = map (λ p. form.line (latest_of written (p.0 + 1)) p.1) (enumerate_from 0 written)

-- the lines after those of planned changes: of events, of diagnostics of no step, and of the end if
-- there is one
abbrev pub lines_after : SavedPlan → OutcomeMap → StreamExtras → (start : ℕ) → Operation → (taken : List Event) → List (List ℕ)
lines_after plan script extras start operation taken =
    let written = as_written taken in
    let latest = latest_of written (length written) in
    let counts = totals_of plan taken in
    lines_of_events (terraform_form plan script extras start operation) written
    ++ (map (note_text start latest) extras.notes
    ++ (if contains_error extras.notes counts then []
    else (summary_text start latest operation counts (imported_in extras.details)
    ∷ outputs_of_apply operation start latest extras.outputs ∷ [])))

-- The stream is the version, the lines of the planned changes, and the lines after them. Only the
-- lines of planned changes have the type `planned_change`.
pub record OnlyPlannedHaveType (plan : SavedPlan) (script : OutcomeMap) (extras : StreamExtras) (start : ℕ) (operation : Operation)
    (taken : List Event) : Type 0 where
  pub stream : stream_in (terraform_form plan script extras start operation) taken
      ≡ version_text plan start
      ++ (flat_map (planned_at start extras.details) (planned_in extras.details plan)
      ++ concat (lines_after plan script extras start operation taken))
  pub version : is_planned_line (version_text plan start) ≡ false
  pub planned : AllByRecursion (λ p. is_planned_line (planned_at start extras.details p) ≡ true) (planned_in extras.details plan)
  pub others : AllByRecursion IsOtherLine (lines_after plan script extras start operation taken)

-- ---- in which word

-- The word for a list of actions: `remove` for `["forget"]`, the action itself for any other single
-- action, and `replace` for two actions. There is none for `["no-op"]`.
abbrev pub word_for : Items → Option (List ℕ)
word_for no_items = None
word_for (item action no_items) =
    if is_word (codes "no-op") action then None
    else if is_word (codes "forget") action then Some (codes "remove")
    else as_str action
word_for (item first (item second others)) = Some (codes "replace")

-- the word for the actions of an element of `resource_changes`
abbrev pub word_of : Data → Option (List ℕ)
word_of element = actions_in (member_of (codes "change") element) >>= word_for

-- the line is a message that names the address and the word in its text, and the word in its object
pub record NamesPlannedAction (seconds : ℕ) (address word line : List ℕ) : Type 0 where
  pub message : Message
  pub line_is : line ≡ message_line seconds message
  pub type_is : message.type_name ≡ codes "planned_change"
  pub text_is : message.text ≡ address ++ codes ": Plan to " ++ word
  pub name_is : message.name ≡ codes "change"
  pub action_is : text_of (codes "action") message.body ≡ Some word

-- an element with an address has a line with the word for its actions, or an empty line if there is
-- no word
pub record HasLineInItsWord (seconds : ℕ) (element : Data) (line : List ℕ) : Type 0 where
  pub address : List ℕ
  pub address_is : text_of (codes "address") element ≡ Some address
  pub line_is_in_word : MatchOption (word_of element) (line ≡ []) (λ word. NamesPlannedAction seconds address word line)

-- each element has such a line, in the same order
abbrev pub HaveLinesInTheirWords : (seconds : ℕ) → List Data → (lines : List (List ℕ)) → Type 0
HaveLinesInTheirWords seconds [] [] = ⊤
HaveLinesInTheirWords seconds [] (line ∷ lines) = ⊥
HaveLinesInTheirWords seconds (element ∷ elements) [] = ⊥
HaveLinesInTheirWords seconds (element ∷ elements) (line ∷ lines) =
    HasLineInItsWord seconds element line × HaveLinesInTheirWords seconds elements lines
