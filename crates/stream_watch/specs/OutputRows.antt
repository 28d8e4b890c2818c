-- What is told of outputs.
use Rattle.std.specs.Prelude.{ℕ, List, [], ◌++◌, ◌==◌, Bool, Option, Some, None, codes, count_by, filter, if◌then◌else◌, is_none, is_some, map, unwrap_or}
use Rattle.std.specs.List.{flat_map}
use Rattle.std.specs.Str.{bytes_eq}
use Rattle.serde_json.specs.Data.{Data}
use Rattle.serde_json.specs.Find.{as_object}
use Rattle.apply_json.specs.Tree.{◌>>=◌, member_of}
use Rattle.term_text.specs.Fronts.{cut_text}
use Rattle.term_text.specs.Shown.{shown_text}
use Rattle.term_words.specs.Words.{number_words}
use Rattle.stream_watch.specs.FurtherLines.{further_lines}
use Rattle.stream_watch.specs.Marks.{planned_mark}
use Rattle.stream_watch.specs.Outputs.{OutputView, outputs_of}
use Rattle.stream_watch.specs.RefreshRow.{reported_told}
use Rattle.stream_watch.specs.State.{State, Told, line_at}
use Rattle.stream_watch.specs.declared.looks.Looks.{Looks}
use Rattle.stream_watch.specs.declared.mark.Mark.TheVariants as mark

-- ---- planned outputs

-- the action that is planned; none of an output with a value
abbrev pub planned_action : OutputView → Option (List ℕ)
planned_action output = if is_none output.value then output.action else None

abbrev pub planned_words : (action : List ℕ) → OutputView → List ℕ
planned_words action output =
    codes "plan to " ++ shown_text action ++ codes " output " ++ shown_text output.name
    ++ (if output.is_sensitive then codes " (sensitive)" else [])

-- one output with its planned action; nothing of one that stays as it is
abbrev pub planned_bytes : Looks → State → OutputView → (action : Option (List ℕ)) → List ℕ
planned_bytes looks state output None = []
planned_bytes looks state output (Some action) =
    if bytes_eq action (codes "noop") then [] else line_at looks state (planned_mark action) (planned_words action output)

abbrev pub planned_outputs : Looks → State → List OutputView → List ℕ
planned_outputs looks state outputs = flat_map (λ output. planned_bytes looks state output (planned_action output)) outputs

-- ---- the other outputs

-- no value is told of a sensitive output
abbrev pub shown_value : OutputView → List ℕ
shown_value output = if output.is_sensitive then codes "(sensitive)" else unwrap_or output.value (codes "(no value)")

abbrev pub raw_words : OutputView → List ℕ
raw_words output = output.name ++ codes " = " ++ shown_value output

-- name and value, in 1,024 bytes at most
abbrev pub value_words : OutputView → List ℕ
value_words output = cut_text 1024 (shown_text (raw_words output))

-- no action is planned for the output
abbrev pub is_unplanned : OutputView → Bool
is_unplanned output = is_none (planned_action output)

abbrev pub unplanned : List OutputView → List OutputView
unplanned outputs = filter is_unplanned outputs

-- how many there are, unless there are none
abbrev pub count_bytes : Looks → State → (count : ℕ) → List ℕ
count_bytes looks state count =
    if count == 0 then [] else line_at looks state mark.Sum (number_words count (codes "output"))

-- their number, and each of them behind it
abbrev pub value_outputs : Looks → State → List OutputView → List ℕ
value_outputs looks state outputs =
    count_bytes looks state (count_by is_unplanned outputs) ++ further_lines looks mark.Output (map value_words (unplanned outputs))

-- ---- the row

-- the outputs, behind the refreshes that were not told before
abbrev pub all_told : Looks → State → List OutputView → Told
all_told looks state outputs =
    let reported = reported_told looks state in
    record {
      bytes = reported.bytes ++ planned_outputs looks reported.state outputs ++ value_outputs looks reported.state outputs;
      state = reported.state;
    }

-- the message has an object of outputs
abbrev pub has_outputs : (tree : Data) → Bool
has_outputs tree = is_some (member_of (codes "outputs") tree >>= as_object)

-- what is told of a line with the outputs of a message; none if they are no object
abbrev pub outputs_told : Looks → State → (find : Bool) → (tree : Data) → (line : List ℕ) → Option Told
outputs_told looks state find tree line =
    if has_outputs tree then Some (all_told looks state (outputs_of find line)) else None
