-- No line asks for a row of what is under way.
use Rattle.std.proofs.Common.{◌≡◌, ◌∙◌, ℕ, List, [], ◌∷◌, ◌++◌, ◌==◌, Bool, true, false, Option, None, Some, ap, codes, cond, if◌then◌else◌, map, option_and_then, option_map, refl, unwrap_or}
use Rattle.std.specs.List.{count_by, filter, flat_map}
use Rattle.std.specs.Str.{bytes_eq}
use Rattle.std.proofs.lemmas.List.Elements.{filter-append}
use Rattle.serde_json.specs.Data.{Data}
use Rattle.apply_json.specs.Tree.{◌>>=◌, is_empty, member_of, text_of}
use Rattle.stream_message.specs.Kinds.{kind_named}
use Rattle.stream_message.specs.declared.kind.Kind.{Kind}
use Rattle.stream_message.specs.declared.kind.Kind.TheVariants as kind
use Rattle.stream_message.specs.declared.stage.Stage.{Stage}
use Rattle.stream_message.specs.declared.stage.Stage.TheVariants as stage
use Rattle.term_text.specs.LineTexts.{line_text, text_lines}
use Rattle.stream_watch.specs.Changes.{NamedChange, change_of}
use Rattle.stream_watch.specs.DiagnosticRow.{severity_mark, text_or_nothing}
use Rattle.stream_watch.specs.Hooks.{Hook, hook_of}
use Rattle.stream_watch.specs.Marks.{planned_mark}
use Rattle.stream_watch.specs.OutputRows.{has_outputs, is_unplanned, planned_action}
use Rattle.stream_watch.specs.Outputs.{OutputView, outputs_of}
use Rattle.stream_watch.specs.ProvisionerRows.{one_at_least}
use Rattle.stream_watch.specs.Reading.{message_of}
use Rattle.stream_watch.specs.StepRows.{step_of}
use Rattle.stream_watch.specs.SummaryRow.{summary_words}
use Rattle.stream_watch.specs.declared.mark.Mark.{Mark}
use Rattle.stream_watch.specs.declared.mark.Mark.TheVariants as mark
use Rattle.laws_watch.specs.Asked.{Asked, asked_by, of_action, of_change, of_kind, of_message_or_line, of_others, of_output, of_outputs, of_passed, of_planned, of_provisioner, of_row, of_stage, of_text, output_of}
use Rattle.laws_watch.specs.Told.{is_under_way}

-- none of the marks is that of what is under way
abbrev pub HasNone : List Mark → Type 0
HasNone marks = filter is_under_way marks ≡ []

abbrev HasNoneIf : Option Asked → Type 0
HasNoneIf None = Unit {0}
HasNoneIf (Some asked) = HasNone asked.marks

none_map : {X : Type 0} (asked : X → Asked) → ((x : X) → HasNone (asked x).marks) → (o : Option X) → HasNoneIf (option_map asked o)
none_map asked each None = tt
none_map asked each (Some x) = each x

none_then : {X : Type 0} (asked : X → Option Asked) → ((x : X) → HasNoneIf (asked x)) → (o : Option X) → HasNoneIf (o >>= asked)
none_then asked each None = tt
none_then asked each (Some x) = each x

none_and_then : {X : Type 0} (asked : X → Option Asked) → ((x : X) → HasNoneIf (asked x)) → (o : Option X) → HasNoneIf (option_and_then asked o)
none_and_then asked each None = tt
none_and_then asked each (Some x) = each x

none_if : (b : Bool) (asked : Option Asked) → HasNoneIf asked → HasNoneIf (if b then asked else None)
none_if true asked none = none
none_if false asked none = tt

none_or : (o : Option Asked) (other : Asked) → HasNoneIf o → HasNone other.marks → HasNone (unwrap_or o other).marks
none_or None other none otherwise = otherwise
none_or (Some asked) other none otherwise = none

-- ---- single marks

one_mark : (m : Mark) → is_under_way m ≡ false → HasNone (m ∷ [])
one_mark m other = ap (λ (b : Bool). cond b (m ∷ []) []) other

-- one mark or another
either : (b : Bool) (m n : Mark) → is_under_way m ≡ false → is_under_way n ≡ false → is_under_way (if b then m else n) ≡ false
either true m n first second = first
either false m n first second = second

planned_other : (action : List ℕ) → is_under_way (planned_mark action) ≡ false
planned_other action =
    either (bytes_eq action (codes "create")) _ _ refl (either (bytes_eq action (codes "update")) _ _ refl
    (either (bytes_eq action (codes "delete")) _ _ refl (either (bytes_eq action (codes "replace")) _ _ refl
    (either (bytes_eq action (codes "read")) _ _ refl (either (bytes_eq action (codes "remove")) _ _ refl
    (either (bytes_eq action (codes "move")) _ _ refl (either (bytes_eq action (codes "import")) _ _ refl refl)))))))

severity_other : (severity : List ℕ) → is_under_way (severity_mark severity) ≡ false
severity_other severity =
    either (bytes_eq severity (codes "error")) _ _ refl (either (bytes_eq severity (codes "warning")) _ _ refl refl)

-- ---- lists of marks

none_both : (xs ys : List Mark) → HasNone xs → HasNone ys → HasNone (xs ++ ys)
none_both xs ys first second =
    filter-append is_under_way xs ys ∙ ap (λ (x : List Mark). x ++ filter is_under_way ys) first ∙ second

each_none : {X : Type 0} (marks : X → List Mark) → ((x : X) → HasNone (marks x)) → (xs : List X) → HasNone (flat_map marks xs)
each_none marks each [] = refl
each_none marks each (x ∷ xs) = none_both (marks x) (flat_map marks xs) (each x) (each_none marks each xs)

outputs_none : (lines : List (List ℕ)) → HasNone (map (λ (line : List ℕ). mark.Output) lines)
outputs_none [] = refl
outputs_none (line ∷ lines) = outputs_none lines

unless : (b : Bool) (m : Mark) → is_under_way m ≡ false → HasNone (if b then [] else m ∷ [])
unless true m other = refl
unless false m other = one_mark m other

action_none : (action : Option (List ℕ)) → HasNone (of_action action)
action_none None = refl
action_none (Some action) = unless (bytes_eq action (codes "noop")) (planned_mark action) (planned_other action)

outputs_free : (outputs : List OutputView) → HasNone (of_outputs outputs).marks
outputs_free outputs =
    let planned = each_none (λ output. of_action (planned_action output)) (λ output. action_none (planned_action output)) outputs in
    let others = unless (count_by is_unplanned outputs == 0) mark.Sum refl in
    none_both (of_planned outputs) (of_others outputs) planned others

-- ---- messages

stage_none : (action : List ℕ) (stage : Stage) → HasNone (of_stage action stage).marks
stage_none action stage.Start = refl
stage_none action stage.Progress = refl
stage_none action stage.Complete = refl
stage_none action stage.Errored = refl

provisioner_none : (stage : Stage) (named : Hook) → HasNoneIf (of_provisioner stage named)
provisioner_none stage.Start named = refl
provisioner_none stage.Progress named = none_map of_output (λ output. outputs_none (one_at_least (text_lines output))) (output_of named)
provisioner_none stage.Complete named = refl
provisioner_none stage.Errored named = refl

change_none : (mark_of : NamedChange → Mark) → ((change : NamedChange) → is_under_way (mark_of change) ≡ false) → (tree : Data) → HasNoneIf (of_change mark_of tree)
change_none mark_of other tree = none_map _ (λ change. one_mark (mark_of change) (other change)) (change_of tree)

kind_none : (find : Bool) (line name : List ℕ) (tree : Data) (k : Kind) → HasNoneIf (of_kind find line name tree k)
kind_none find line name tree kind.Version = none_map _ (λ version. refl) (text_of (codes "terraform") tree)
kind_none find line name tree kind.Planned = change_none (λ change. planned_mark change.action) (λ change. planned_other change.action) tree
kind_none find line name tree (kind.Apply stage) = none_map _ (λ step. stage_none step.action stage) (step_of tree)
kind_none find line name tree (kind.Ephemeral stage) = none_map _ (λ step. stage_none step.action stage) (step_of tree)
kind_none find line name tree (kind.Refresh stage) = none_map _ (λ named. refl) (hook_of tree)
kind_none find line name tree (kind.Provision stage) = none_then (of_provisioner stage) (provisioner_none stage) (hook_of tree)
kind_none find line name tree kind.Diagnostic =
    none_then _ (λ diagnostic. none_map _ (λ severity. one_mark (severity_mark severity) (severity_other severity)) (text_of (codes "severity") diagnostic))
    (member_of (codes "diagnostic") tree)
kind_none find line name tree kind.Summary = none_map _ (λ words. refl) (summary_words tree)
kind_none find line name tree kind.Outputs = none_if (has_outputs tree) _ (outputs_free (outputs_of find line))
kind_none find line name tree kind.Other = none_if (bytes_eq name (codes "resource_drift")) _ (change_none (λ change. mark.Drift) (λ change. refl) tree)

-- ---- lines

passed_none : (line : List ℕ) → HasNone (of_passed line).marks
passed_none line = unless (is_empty (line_text line)) mark.Passed refl

text_none : (line : List ℕ) (lines : List (List ℕ)) → HasNone (of_text line lines).marks
text_none line [] = passed_none line
text_none line (first ∷ rest) = refl

message_none : (find : Bool) (line : List ℕ) (message : Option Data) → HasNone (of_message_or_line find line message).marks
message_none find line None = passed_none line
message_none find line (Some tree) =
    none_or (of_row find line tree) (of_text line (text_lines (text_or_nothing (codes "@message") tree)))
    (none_and_then (λ name. of_kind find line name tree (kind_named name)) (λ name. kind_none find line name tree (kind_named name)) (text_of (codes "type") tree))
    (text_none line (text_lines (text_or_nothing (codes "@message") tree)))

pub asked_none : (find : Bool) (line : List ℕ) → HasNone (asked_by find line).marks
asked_none find line = message_none find line (message_of find line)
