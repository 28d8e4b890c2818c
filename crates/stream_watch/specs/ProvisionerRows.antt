-- What is told of provisioners.
use Rattle.std.specs.Prelude.{ℕ, ℤ, List, [], ◌∷◌, ◌++◌, Option, None, Some, codes, option_map, unwrap_or}
use Rattle.std.specs.List.{flat_map}
use Rattle.serde_json.specs.Data.{Data}
use Rattle.apply_json.specs.Tree.{◌>>=◌, non_empty_text_of, text_of}
use Rattle.stream_message.specs.declared.stage.Stage.{Stage}
use Rattle.stream_message.specs.declared.stage.Stage.TheVariants as stage
use Rattle.term_text.specs.LineTexts.{text_lines}
use Rattle.term_text.specs.Shown.{shown_text}
use Rattle.stream_watch.specs.Hooks.{Hook, hook_of}
use Rattle.stream_watch.specs.State.{State, Told, line_at, line_told, nothing}
use Rattle.stream_watch.specs.Steps.{Running, Step, begin_of_running, new_running, runs_at, with_provisioner}
use Rattle.stream_watch.specs.Words.{length_since, length_words}
use Rattle.stream_watch.specs.declared.looks.Looks.{Looks}
use Rattle.stream_watch.specs.declared.mark.Mark.TheVariants as mark

abbrev pub provisioner_name : (hook : Data) → List ℕ
provisioner_name hook = unwrap_or (non_empty_text_of (codes "provisioner") hook) (codes "provisioner")

abbrev pub provisioner_at_words : (name address : List ℕ) → List ℕ
provisioner_at_words name address = shown_text name ++ codes " of " ++ shown_text address

-- the state with this provisioner, or none, in the step in which one at the address runs
abbrev pub with_running : (address : List ℕ) → Option Running → State → State
with_running address provisioner state = record state { steps = with_provisioner (runs_at address) provisioner state.steps }

-- ---- the begin of a provisioner

abbrev pub running_told : Looks → State → (name address : List ℕ) → (moment : ℤ) → Told
running_told looks state name address moment =
    line_told looks (with_running address (Some (new_running name moment)) state) mark.Begin (provisioner_at_words name address)

-- ---- what it puts out

-- the lines, or an empty one where there are none
abbrev pub one_at_least : List (List ℕ) → List (List ℕ)
one_at_least [] = [] ∷ []
one_at_least (line ∷ lines) = line ∷ lines

abbrev pub output_words : (name address line : List ℕ) → List ℕ
output_words name address line = shown_text address ++ codes " (" ++ shown_text name ++ codes "): " ++ line

abbrev pub output_bytes : Looks → State → (name address line : List ℕ) → List ℕ
output_bytes looks state name address line = line_at looks state mark.Output (output_words name address line)

abbrev pub lines_told : Looks → State → (name address : List ℕ) → List (List ℕ) → Told
lines_told looks state name address lines = record { bytes = flat_map (output_bytes looks state name address) lines; state = state }

abbrev pub output_told : Looks → State → (name address output : List ℕ) → Told
output_told looks state name address output = lines_told looks state name address (one_at_least (text_lines output))

-- ---- the end of a provisioner

-- how long the provisioner ran, in microseconds; none if none runs there
abbrev pub running_length : List Step → (address : List ℕ) → (moment : ℤ) → Option ℕ
running_length steps address moment = length_since (begin_of_running address steps) moment

abbrev pub broken_words : (name address : List ℕ) → (length : Option ℕ) → List ℕ
broken_words name address length = provisioner_at_words name address ++ codes " failed" ++ length_words (codes " after ") length

abbrev pub broken_told : Looks → State → (name address : List ℕ) → (moment : ℤ) → Told
broken_told looks state name address moment =
    line_told looks (with_running address None state) mark.Failed (broken_words name address (running_length state.steps address moment))

-- ---- the row

abbrev pub told_of_provisioner : Looks → State → Stage → (moment : ℤ) → Hook → Option Told
told_of_provisioner looks state stage.Start moment named =
    Some (running_told looks state (provisioner_name named.hook) named.address moment)
told_of_provisioner looks state stage.Progress moment named =
    option_map (output_told looks state (provisioner_name named.hook) named.address) (text_of (codes "output") named.hook)
told_of_provisioner looks state stage.Complete moment named = Some (nothing (with_running named.address None state))
told_of_provisioner looks state stage.Errored moment named =
    Some (broken_told looks state (provisioner_name named.hook) named.address moment)

-- what is told of a provisioner; none if the message lacks the address, or its output
abbrev pub provision_told : Looks → State → Stage → Data → (moment : ℤ) → Option Told
provision_told looks state stage tree moment = hook_of tree >>= told_of_provisioner looks state stage moment
