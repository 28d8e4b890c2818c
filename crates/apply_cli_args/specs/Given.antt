-- Which options are given, which command and which form they state, and which do not go together.
use Rattle.std.specs.Prelude.{◌≡◌, ◌&&◌, ◌||◌, Bool, List, Option, Some, None, true, false, codes, find, option_and_then, if◌then◌else◌}
use Rattle.std.specs.Option.{option_map_or}
use Rattle.std.specs.Str.{bytes_eq}
use Rattle.clap.specs.Walk.{Row, Text, first_of}
use Rattle.clap.specs.declared.parser.matches.ValueSource.{ValueSource}
use Rattle.clap.specs.declared.parser.matches.ValueSource.TheVariants as source
use Rattle.apply_text.specs.declared.operation.Operation.{Operation}
use Rattle.apply_text.specs.declared.operation.Operation.TheVariants as operation
use Rattle.apply_text_terraform.specs.declared.command.Command.{Command}
use Rattle.apply_text_terraform.specs.declared.command.Command.TheVariants.{Saved, Plan, Apply, Destroy}
use Rattle.apply_text_terraform.specs.declared.form.Form.{Form}
use Rattle.apply_text_terraform.specs.declared.form.Form.TheVariants.{Applystream, Terraform}
use Rattle.apply_cli_args.specs.declared.misplaced.Misplaced.{Misplaced}
use Rattle.apply_cli_args.specs.declared.misplaced.Misplaced.TheVariants as misplaced

-- the value comes from the command line, and is not a default
abbrev pub is_of_words : Option ValueSource → Bool
is_of_words (Some source.CommandLine) = true
is_of_words (Some source.DefaultValue) = false
is_of_words None = false

-- the option stands among the words
abbrev pub is_given : (name : Text) → List Row → Bool
is_given name rows = is_of_words (option_and_then (λ r. r.source) (find (λ r. bytes_eq r.id name) rows))

-- `--parallelism` is given together with `--workers` or `--queue`
abbrev pub is_conflict : List Row → Bool
is_conflict rows =
    is_given (codes "parallelism") rows && (is_given (codes "workers") rows || is_given (codes "queue") rows)

-- ---- the command of Terraform

abbrev pub command_of_word : Text → Command
command_of_word word =
    if bytes_eq word (codes "plan") then Plan
    else if bytes_eq word (codes "apply") then Apply
    else if bytes_eq word (codes "destroy") then Destroy
    else Saved

-- the command that the option names, or an apply of a saved plan
abbrev pub stated_command : List Row → Command
stated_command rows = option_map_or command_of_word (first_of (codes "command") rows) Saved

-- objects are refreshed while the plan is made: the option is `true`, or states nothing
abbrev pub stated_refresh : List Row → Bool
stated_refresh rows = option_map_or (λ word. bytes_eq word (codes "true")) (first_of (codes "refresh") rows) true

-- the operation of a command without `--destroy`: `Destroy` only for the command of that name
abbrev pub operation_of : Command → Operation
operation_of Saved = operation.Apply
operation_of Plan = operation.Apply
operation_of Apply = operation.Apply
operation_of Destroy = operation.Destroy

abbrev pub form_of_word : Text → Form
form_of_word word = if bytes_eq word (codes "terraform") then Terraform else Applystream

-- the form that the option names, or the default form
abbrev pub named_form : List Row → Form
named_form rows = option_map_or form_of_word (first_of (codes "form") rows) Applystream

-- the form of the command's stream: that of the option for a saved plan, else that of Terraform
abbrev pub stated_form : Command → List Row → Form
stated_form Saved rows = named_form rows
stated_form Plan rows = Terraform
stated_form Apply rows = Terraform
stated_form Destroy rows = Terraform

-- ---- what does not go with it

-- the form is not that of Terraform
abbrev pub is_applystream : Form → Bool
is_applystream Applystream = true
is_applystream Terraform = false

-- with a saved plan, `--refresh`
abbrev pub misplaced_with_saved : List Row → Option Misplaced
misplaced_with_saved rows = if is_given (codes "refresh") rows then Some misplaced.Refresh else None

-- with another command, `--form applystream`, and else `--destroy`
abbrev pub misplaced_with_others : List Row → Option Misplaced
misplaced_with_others rows =
    if is_given (codes "form") rows && is_applystream (named_form rows) then Some misplaced.Form
    else if is_given (codes "destroy") rows then Some misplaced.Destroy
    else None

-- the first option that does not go with the command
abbrev pub misplaced_with : Command → List Row → Option Misplaced
misplaced_with Saved rows = misplaced_with_saved rows
misplaced_with Plan rows = misplaced_with_others rows
misplaced_with Apply rows = misplaced_with_others rows
misplaced_with Destroy rows = misplaced_with_others rows

-- no option stands beside another that excludes it
pub record AreTogether (rows : List Row) : Type 0 where
  pub alone : is_conflict rows ≡ false
  pub placed : misplaced_with (stated_command rows) rows ≡ None
