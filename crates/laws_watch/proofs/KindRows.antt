-- A message of each kind has the rows that it asks for.
use Rattle.std.proofs.Common.{◌≡◌, ◌∙◌, ℕ, ℤ, List, [], ◌∷◌, ◌++◌, ◌==◌, ◌<◌, Bool, true, false, Option, None, Some, ap, append_assoc, arith, codes, find, if◌then◌else◌, length, map, refl, subst, sym}
use Rattle.std.specs.List.{count_by, flat_map}
use Rattle.std.specs.Option.{option_map_or}
use Rattle.std.specs.Str.{bytes_eq}
use Rattle.std.proofs.lemmas.Bool.{false≢true}
use Rattle.std.proofs.lemmas.Bool.Decides.{nat_tests}
use Rattle.std.proofs.lemmas.List.Concat.{flat_map_single}
use Rattle.std.proofs.lemmas.List.Sums.{length-filter}
use Rattle.serde_json.specs.Data.{Data}
use Rattle.apply_json.specs.Tree.{member_of, text_of}
use Rattle.stream_message.specs.declared.kind.Kind.{Kind}
use Rattle.stream_message.specs.declared.kind.Kind.TheVariants as kind
use Rattle.stream_message.specs.declared.stage.Stage.{Stage}
use Rattle.stream_message.specs.declared.stage.Stage.TheVariants as stage
use Rattle.term_text.specs.LineTexts.{text_lines}
use Rattle.stream_watch.specs.AfterRefreshes.{told_after_refreshes}
use Rattle.stream_watch.specs.Changes.{NamedChange, change_of, counting, drift_words, planned_words}
use Rattle.stream_watch.specs.Clock.{elapsed}
use Rattle.stream_watch.specs.Counts.{is_change}
use Rattle.stream_watch.specs.DiagnosticRow.{address_of, body_lines, diagnostic_words, severity_mark, severity_told, without_reads}
use Rattle.stream_watch.specs.FurtherLines.{further_lines}
use Rattle.stream_watch.specs.Hooks.{Hook, hook_of}
use Rattle.stream_watch.specs.Marks.{planned_mark}
use Rattle.stream_watch.specs.Noted.{with_length_of}
use Rattle.stream_watch.specs.OutputRows.{all_told, count_bytes, has_outputs, is_unplanned, outputs_told, planned_action, planned_bytes, planned_outputs, unplanned, value_outputs, value_words}
use Rattle.stream_watch.specs.OutputRows as output_rows
use Rattle.stream_watch.specs.Outputs.{OutputView, outputs_of}
use Rattle.stream_watch.specs.ProvisionerRows.{one_at_least, output_bytes, output_told, told_of_provisioner}
use Rattle.stream_watch.specs.RefreshRow.{refresh_state, reported_told}
use Rattle.stream_watch.specs.State.{State, line_at, line_told, nothing, told_then}
use Rattle.stream_watch.specs.StepRows.{NamedStep, step_of, told_of_step, with_step}
use Rattle.stream_watch.specs.Steps.{Step}
use Rattle.stream_watch.specs.SummaryRow.{summary_words}
use Rattle.stream_watch.specs.Telling.{kind_told, version_words}
use Rattle.stream_watch.specs.Words.{step_words}
use Rattle.stream_watch.specs.declared.looks.Looks.{Looks}
use Rattle.stream_watch.specs.declared.mark.Mark.{Mark}
use Rattle.stream_watch.specs.declared.mark.Mark.TheVariants as mark
use Rattle.laws_watch.specs.Asked.{of_action, of_kind, of_others, of_output, of_outputs, of_planned, of_provisioner, of_stage, output_of, reporting}
use Rattle.laws_watch.proofs.Agreement.{Agree, agree_if, agree_map, agree_then}
use Rattle.laws_watch.proofs.Own.{KeepsTime, OwnRows, own_after_refreshes, own_as, own_line, own_nothing, own_only, own_reporting, same_time}
use Rattle.laws_watch.proofs.RowBytes.{HasRows, line_and_further, no_rows, one_line, rows_at, rows_of_each, rows_then}

-- ---- steps

noted_keeps : (moment : ℤ) (state : State) (step : Option Step) → KeepsTime state (option_map_or (with_length_of moment state) step state)
noted_keeps moment state None = same_time state
noted_keeps moment state (Some step) = record { clock = refl; marks = refl }

began_rows : (reports : Bool) (looks : Looks) (state : State) (change : State → State) (words : List ℕ) → ((s : State) → KeepsTime s (change s))
    → OwnRows looks state (record { reports = reports; marks = mark.Begin ∷ [] })
    (told_then (if reports then reported_told looks state else nothing state) (λ s. line_told looks (change s) mark.Begin words))
began_rows true looks state change words keeps =
    own_reporting looks state (mark.Begin ∷ []) (λ s. line_at looks (change s) mark.Begin words) change
    (λ s. rows_at looks (elapsed (change s).clock) (elapsed s.clock) (mark.Begin ∷ []) (line_at looks (change s) mark.Begin words)
    (ap elapsed (keeps s).clock) (one_line looks (change s) mark.Begin words)) keeps
began_rows false looks state change words keeps =
    let line = own_line looks state (change state) mark.Begin words (keeps state) in
    record { own = line.own; rows = line.rows; bytes = line.bytes; kept = line.kept }

stage_rows : (looks : Looks) (state : State) (moment : ℤ) (stage : Stage) (step : NamedStep)
    → OwnRows looks state (of_stage step.action stage) (told_of_step looks state stage moment step)
stage_rows looks state moment stage.Start step =
    began_rows (is_change step.action) looks state (with_step step moment) (step_words step.action step.address) (λ s. record { clock = refl; marks = refl })
stage_rows looks state moment stage.Progress step = own_nothing looks state state (same_time state)
stage_rows looks state moment stage.Complete step =
    own_line looks state _ mark.Done _
    (let noted = noted_keeps moment state _ in record { clock = noted.clock; marks = noted.marks })
stage_rows looks state moment stage.Errored step =
    own_line looks state _ mark.Failed _ (record { clock = refl; marks = refl })

-- ---- refreshes

refresh_keeps : (state : State) (stage : Stage) (moment : ℤ) (named : Hook) → KeepsTime state (refresh_state state stage moment named)
refresh_keeps state stage.Start moment named = record { clock = refl; marks = refl }
refresh_keeps state stage.Progress moment named = record { clock = refl; marks = refl }
refresh_keeps state stage.Complete moment named =
    let noted = noted_keeps moment state _ in record { clock = noted.clock; marks = noted.marks }
refresh_keeps state stage.Errored moment named = record { clock = refl; marks = refl }

-- ---- provisioners

output_rows_are : (looks : Looks) (state : State) (bytes : List ℕ → List ℕ) (lines : List (List ℕ))
    → ((line : List ℕ) → HasRows looks (elapsed state.clock) (mark.Output ∷ []) (bytes line))
    → HasRows looks (elapsed state.clock) (map (λ (line : List ℕ). mark.Output) lines) (flat_map bytes lines)
output_rows_are looks state bytes lines each =
    subst (λ (marks : List Mark). HasRows looks (elapsed state.clock) marks (flat_map bytes lines))
    (flat_map_single (λ (line : List ℕ). mark.Output) lines)
    (rows_of_each looks (elapsed state.clock) (λ (line : List ℕ). mark.Output ∷ []) bytes each lines)

output_own : (looks : Looks) (state : State) (name address output : List ℕ)
    → OwnRows looks state (of_output output) (output_told looks state name address output)
output_own looks state name address output =
    own_only looks state state _ _ (same_time state)
    (output_rows_are looks state (output_bytes looks state name address) (one_at_least (text_lines output))
    (λ line. one_line looks state mark.Output _))

provisioner_rows : (looks : Looks) (state : State) (moment : ℤ) (stage : Stage) (named : Hook)
    → Agree looks state (of_provisioner stage named) (told_of_provisioner looks state stage moment named)
provisioner_rows looks state moment stage.Start named =
    own_line looks state _ mark.Begin _ (record { clock = refl; marks = refl })
provisioner_rows looks state moment stage.Progress named =
    agree_map looks state of_output _ (λ output. output_own looks state _ named.address output) (output_of named)
provisioner_rows looks state moment stage.Complete named =
    own_nothing looks state _ (record { clock = refl; marks = refl })
provisioner_rows looks state moment stage.Errored named =
    own_line looks state _ mark.Failed _ (record { clock = refl; marks = refl })

-- ---- diagnostics

pub reads_keep : (address : Option (List ℕ)) (state : State) → KeepsTime state (without_reads address state)
reads_keep None state = same_time state
reads_keep (Some address) state = record { clock = refl; marks = refl }

severity_rows : (looks : Looks) (state : State) (diagnostic : Data) (severity : List ℕ)
    → OwnRows looks state (reporting (severity_mark severity ∷ [])) (severity_told looks state severity diagnostic)
severity_rows looks state diagnostic severity =
    own_as looks state _ _ _ _ (sym (append_assoc (reported_told looks state).bytes _ _)) (own_reporting looks state (severity_mark severity ∷ [])
    (λ s. line_at looks s (severity_mark severity) (diagnostic_words severity diagnostic) ++ further_lines looks (severity_mark severity) (body_lines diagnostic))
    (without_reads (address_of diagnostic))
    (λ s. line_and_further looks s (severity_mark severity) (severity_mark severity) (diagnostic_words severity diagnostic) (body_lines diagnostic))
    (reads_keep (address_of diagnostic)))

-- ---- outputs

action_rows : (looks : Looks) (state : State) (output : OutputView) (is_noop : Bool) (action : List ℕ)
    → HasRows looks (elapsed state.clock) (if is_noop then [] else planned_mark action ∷ [])
    (if is_noop then [] else line_at looks state (planned_mark action) (output_rows.planned_words action output))
action_rows looks state output true action = no_rows looks (elapsed state.clock)
action_rows looks state output false action = one_line looks state (planned_mark action) (output_rows.planned_words action output)

planned_row : (looks : Looks) (state : State) (output : OutputView) (action : Option (List ℕ))
    → HasRows looks (elapsed state.clock) (of_action action) (planned_bytes looks state output action)
planned_row looks state output None = no_rows looks (elapsed state.clock)
planned_row looks state output (Some action) = action_rows looks state output (bytes_eq action (codes "noop")) action

some_left : (n : ℕ) → 0 < n → (n == 0) ≡ false
some_left n some = grind (arith, nat_tests)

nothing_left : {X : Type 0} (xs : List X) → (length xs == 0) ≡ true → xs ≡ []
nothing_left [] none = refl
nothing_left (x ∷ xs) none = absurd (false≢true (sym (some_left (length (x ∷ xs)) (omega arith)) ∙ none))

others_rows : (looks : Looks) (state : State) (none : Bool) (words : List ℕ) (texts : List (List ℕ)) → (none ≡ true → texts ≡ [])
    → HasRows looks (elapsed state.clock) (if none then [] else mark.Sum ∷ [])
    ((if none then [] else line_at looks state mark.Sum words) ++ further_lines looks mark.Output texts)
others_rows looks state true words texts empty =
    subst (λ (lines : List (List ℕ)). HasRows looks (elapsed state.clock) [] (further_lines looks mark.Output lines))
    (sym (empty refl)) (no_rows looks (elapsed state.clock))
others_rows looks state false words texts empty = line_and_further looks state mark.Sum mark.Output words texts

no_texts : (outputs : List OutputView) → (count_by is_unplanned outputs == 0) ≡ true → map value_words (unplanned outputs) ≡ []
no_texts outputs none =
    ap (map value_words) (nothing_left (unplanned outputs) (ap (λ (n : ℕ). n == 0) (length-filter is_unplanned outputs) ∙ none))

outputs_rows : (looks : Looks) (state : State) (outputs : List OutputView)
    → HasRows looks (elapsed state.clock) (of_planned outputs ++ of_others outputs)
    (planned_outputs looks state outputs ++ value_outputs looks state outputs)
outputs_rows looks state outputs =
    rows_then looks (elapsed state.clock) (of_planned outputs) (of_others outputs) (planned_outputs looks state outputs) (value_outputs looks state outputs)
    (rows_of_each looks (elapsed state.clock) (λ output. of_action (planned_action output)) (λ output. planned_bytes looks state output (planned_action output))
    (λ output. planned_row looks state output (planned_action output)) outputs)
    (others_rows looks state (count_by is_unplanned outputs == 0) _ (map value_words (unplanned outputs)) (no_texts outputs))

outputs_own : (looks : Looks) (state : State) (outputs : List OutputView) → OwnRows looks state (of_outputs outputs) (all_told looks state outputs)
outputs_own looks state outputs =
    own_as looks state _ _ _ _ (sym (append_assoc (reported_told looks state).bytes _ _)) (own_reporting looks state (of_planned outputs ++ of_others outputs)
    (λ s. planned_outputs looks s outputs ++ value_outputs looks s outputs) (λ s. s) (λ s. outputs_rows looks s outputs) same_time)

-- ---- changes

planned_own : (looks : Looks) (state : State) (change : NamedChange)
    → OwnRows looks state (reporting (planned_mark change.action ∷ []))
    (told_after_refreshes looks (planned_mark change.action) (planned_words change) (counting change.action state))
planned_own looks state change =
    let line = own_after_refreshes looks (counting change.action state) (planned_mark change.action) (planned_words change) in
    record { own = line.own; rows = line.rows; bytes = line.bytes; kept = record { clock = line.kept.clock; marks = line.kept.marks } }

-- ---- a message of each kind

pub kind_rows : (looks : Looks) (state : State) (find : Bool) (line name : List ℕ) (tree : Data) (moment : ℤ) (k : Kind)
    → Agree looks state (of_kind find line name tree k) (kind_told looks state find line name tree moment k)
kind_rows looks state find line name tree moment kind.Version =
    agree_map looks state _ _ (λ version. own_after_refreshes looks state mark.Sum (version_words version)) (text_of (codes "terraform") tree)
kind_rows looks state find line name tree moment kind.Planned =
    agree_map looks state _ _ (planned_own looks state) (change_of tree)
kind_rows looks state find line name tree moment (kind.Apply stage) =
    agree_map looks state _ _ (stage_rows looks state moment stage) (step_of tree)
kind_rows looks state find line name tree moment (kind.Ephemeral stage) =
    agree_map looks state _ _ (stage_rows looks state moment stage) (step_of tree)
kind_rows looks state find line name tree moment (kind.Refresh stage) =
    agree_map looks state _ _ (λ named. own_nothing looks state (refresh_state state stage moment named) (refresh_keeps state stage moment named)) (hook_of tree)
kind_rows looks state find line name tree moment (kind.Provision stage) =
    agree_then looks state _ _ (provisioner_rows looks state moment stage) (hook_of tree)
kind_rows looks state find line name tree moment kind.Diagnostic =
    agree_then looks state _ _ (λ diagnostic. agree_map looks state _ _ (severity_rows looks state diagnostic) (text_of (codes "severity") diagnostic))
    (member_of (codes "diagnostic") tree)
kind_rows looks state find line name tree moment kind.Summary =
    agree_map looks state _ _ (λ words. own_after_refreshes looks state mark.Sum words) (summary_words tree)
kind_rows looks state find line name tree moment kind.Outputs =
    agree_if looks state (has_outputs tree) _ _ (outputs_own looks state (outputs_of find line))
kind_rows looks state find line name tree moment kind.Other =
    agree_if looks state (bytes_eq name (codes "resource_drift")) _ _
    (agree_map looks state _ _ (λ change. own_after_refreshes looks state mark.Drift (drift_words change)) (change_of tree))
