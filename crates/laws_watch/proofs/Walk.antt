-- All that is told is lines with a time and further lines, behind one another. So what holds of
-- these, and of bytes behind bytes, holds of all that is told. It is stated of two forms of the
-- output, as with colours and without.
use Rattle.std.proofs.Common.{◌≡◌, ℕ, ◌-◌, ◌==◌, ◌∷◌, ◌++◌, [], Bool, List, Option, None, Some, true, false, ap, codes, length, map, refl, subst, take}
use Rattle.std.specs.Prelude.{ℤ, ◌&&◌, count_by, if◌then◌else◌, is_ok, is_some, nat_lt, option_and_then, option_map, string_bytes, unwrap_or}
use Rattle.std.specs.List.{flat_map}
use Rattle.std.specs.Str.{bytes_eq}
use Rattle.serde_json.specs.Data.{Data}
use Rattle.apply_json.specs.Tree.{◌>>=◌, is_empty, member_of, text_of}
use Rattle.stream_check.specs.declared.verdict.judge.Verdict.{Verdict}
use Rattle.stream_message.specs.Kinds.{kind_named}
use Rattle.stream_message.specs.declared.kind.Kind.{Kind}
use Rattle.stream_message.specs.declared.kind.Kind.TheVariants as kind
use Rattle.stream_message.specs.declared.stage.Stage.{Stage}
use Rattle.stream_message.specs.declared.stage.Stage.TheVariants as stage
use Rattle.term_text.specs.LineTexts.{line_text, text_lines}
use Rattle.stream_watch.specs.AfterRefreshes.{told_after_refreshes}
use Rattle.stream_watch.specs.Changes.{change_of, counting, drift_told, drift_words, planned_told, planned_words}
use Rattle.stream_watch.specs.Clock.{elapsed}
use Rattle.stream_watch.specs.Counts.{is_change}
use Rattle.stream_watch.specs.DiagnosticRow.{address_of, body_lines, diagnostic_told, diagnostic_words, severity_mark, severity_told, text_or_nothing, without_reads}
use Rattle.stream_watch.specs.Ending.{are_left, end_told, first_open_told, more_open_told, open_told_unless, planned_steps_told, without_end_words}
use Rattle.stream_watch.specs.FurtherLines.{further_lines}
use Rattle.stream_watch.specs.Hooks.{Hook, hook_of}
use Rattle.stream_watch.specs.Marks.{is_in_panel, planned_mark}
use Rattle.stream_watch.specs.OutputRows.{all_told, has_outputs, is_unplanned, outputs_told, planned_action, planned_bytes, planned_outputs, unplanned, value_outputs, value_words}
use Rattle.stream_watch.specs.Outputs.{OutputView, outputs_of}
use Rattle.stream_watch.specs.Printed.{further_bytes, line_bytes}
use Rattle.stream_watch.specs.Progress.{is_due, under_way_told}
use Rattle.stream_watch.specs.ProvisionerRows.{one_at_least, output_bytes, output_told, provision_told, provisioner_name, told_of_provisioner, with_running}
use Rattle.stream_watch.specs.Reading.{message_of}
use Rattle.stream_watch.specs.RefreshRow.{refresh_state, refresh_told, reported_told}
use Rattle.stream_watch.specs.State.{State, Told, beginning, further_line, line_at, line_told, nothing, told_then}
use Rattle.stream_watch.specs.StepRows.{NamedStep, began_told, step_of, step_told, told_of_step, with_step}
use Rattle.stream_watch.specs.Stream.{last_told, lines_told, stream_told}
use Rattle.stream_watch.specs.SummaryRow.{summary_told, summary_words}
use Rattle.stream_watch.specs.Telling.{at_moment, kind_told, lines_or_line_told, message_or_line_told, message_told, moment_of, passed_told, text_told, told_at, version_told, version_words}
use Rattle.stream_watch.specs.VerdictRow.{verdict_mark, verdict_words}
use Rattle.stream_watch.specs.Words.{step_words}
use Rattle.stream_watch.specs.declared.looks.Looks.{Looks}
use Rattle.stream_watch.specs.declared.mark.Mark.{Mark}
use Rattle.stream_watch.specs.declared.mark.Mark.TheVariants as mark

-- what is told in two forms
pub record AreTold (R : List ℕ → List ℕ → Type 0) (one other : Told) : Type 0 where
  pub bytes : R one.bytes other.bytes
  pub state : one.state ≡ other.state

abbrev pub AreToldIf : (R : List ℕ → List ℕ → Type 0) → (one other : Option Told) → Type 0
AreToldIf R None None = Unit {0}
AreToldIf R None (Some other) = ⊥
AreToldIf R (Some one) None = ⊥
AreToldIf R (Some one) (Some other) = AreTold R one other

-- what holds of lines and of bytes behind bytes
pub record IsKept (R : List ℕ → List ℕ → Type 0) (looks others : Looks) : Type 0 where
  pub none : R [] []
  pub both : (a b c d : List ℕ) → R a b → R c d → R (a ++ c) (b ++ d)
  pub timed : (elapsed : ℕ) (mark : Mark) (text : List ℕ)
      → R (line_bytes looks.width looks.has_colour elapsed mark text) (line_bytes others.width others.has_colour elapsed mark text)
  pub further : (mark : Mark) (text : List ℕ)
      → R (further_bytes looks.width looks.has_colour mark text) (further_bytes others.width others.has_colour mark text)
  pub panel : looks.has_panel ≡ others.has_panel

module _ (R : List ℕ → List ℕ → Type 0) (looks others : Looks) (kept : IsKept R looks others) where
  -- ---- in general

  either_bytes : (test : Bool) (a b c d : List ℕ) → R a c → R b d → R (if test then a else b) (if test then c else d)
  either_bytes true a b c d then_is else_is = then_is
  either_bytes false a b c d then_is else_is = else_is

  silent : (state : State) → AreTold R (nothing state) (nothing state)
  silent state = record { bytes = kept.none; state = refl }

  line_of : (state : State) (mark : Mark) (text : List ℕ) → R (line_at looks state mark text) (line_at others state mark text)
  unfolding line_at
  line_of state mark text =
      let bytes = line_bytes looks.width looks.has_colour (elapsed state.clock) mark text in
      let others_bytes = line_bytes others.width others.has_colour (elapsed state.clock) mark text in
      subst (λ panel. R (if looks.has_panel && is_in_panel mark then [] else bytes) (if panel && is_in_panel mark then [] else others_bytes)) kept.panel
      (either_bytes (looks.has_panel && is_in_panel mark) [] bytes [] others_bytes kept.none (kept.timed (elapsed state.clock) mark text))

  timed : (state : State) (mark : Mark) (text : List ℕ) → AreTold R (line_told looks state mark text) (line_told others state mark text)
  timed state mark text = record { bytes = line_of state mark text; state = refl }

  followed : (one other : Told) (next after : State → Told) → AreTold R one other → ((state : State) → AreTold R (next state) (after state))
      → AreTold R (told_then one next) (told_then other after)
  followed one other next after first second =
      let rest : AreTold R (next one.state) (after other.state) = subst (λ state. AreTold R (next one.state) (after state)) first.state (second one.state) in
      record { bytes = kept.both one.bytes other.bytes (next one.state).bytes (after other.state).bytes first.bytes rest.bytes; state = rest.state }

  either : (test : Bool) (one two other another : Told) → AreTold R one other → AreTold R two another → AreTold R (if test then one else two) (if test then other else another)
  either true one two other another then_is else_is = then_is
  either false one two other another then_is else_is = else_is

  either_if : (test : Bool) (one other : Option Told) → AreToldIf R one other → AreToldIf R (if test then one else None) (if test then other else None)
  either_if true one other then_is = then_is
  either_if false one other then_is = tt

  each : {X : Type 0} (f g : X → List ℕ) → ((x : X) → R (f x) (g x)) → (xs : List X) → R (flat_map f xs) (flat_map g xs)
  each f g are [] = kept.none
  each f g are (x ∷ xs) = kept.both (f x) (g x) (flat_map f xs) (flat_map g xs) (are x) (each f g are xs)

  mapped : {X : Type 0} (f g : X → Told) → ((x : X) → AreTold R (f x) (g x)) → (o : Option X) → AreToldIf R (option_map f o) (option_map g o)
  mapped f g are None = tt
  mapped f g are (Some x) = are x

  bound : {X : Type 0} (f g : X → Option Told) → ((x : X) → AreToldIf R (f x) (g x)) → (o : Option X) → AreToldIf R (o >>= f) (o >>= g)
  bound f g are None = tt
  bound f g are (Some x) = are x

  bound_then : {X : Type 0} (f g : X → Option Told) → ((x : X) → AreToldIf R (f x) (g x)) → (o : Option X) → AreToldIf R (option_and_then f o) (option_and_then g o)
  bound_then f g are None = tt
  bound_then f g are (Some x) = are x

  or_else : (one other : Option Told) (two another : Told) → AreToldIf R one other → AreTold R two another → AreTold R (unwrap_or one two) (unwrap_or other another)
  or_else None None two another some none = none
  or_else None (Some other) two another some none = absurd some
  or_else (Some one) None two another some none = absurd some
  or_else (Some one) (Some other) two another some none = some

  texts : (mark : Mark) (lines : List (List ℕ)) → R (further_lines looks mark lines) (further_lines others mark lines)
  texts mark lines = each (further_line looks mark) (further_line others mark) (λ text. kept.further mark text) lines

  -- ---- rows

  reported : (state : State) → AreTold R (reported_told looks state) (reported_told others state)
  reported state = either (state.refreshes.unreported == 0) _ _ _ _ (silent state) (timed _ mark.Done _)

  after_refreshes : (mark : Mark) (text : List ℕ) (state : State) → AreTold R (told_after_refreshes looks mark text state) (told_after_refreshes others mark text state)
  after_refreshes mark text state = followed _ _ _ _ (reported state) (λ state. timed state mark text)

  planned : (tree : Data) (state : State) → AreToldIf R (planned_told looks tree state) (planned_told others tree state)
  planned tree state = mapped _ _ (λ change. after_refreshes (planned_mark change.action) (planned_words change) (counting change.action state)) (change_of tree)

  drift : (tree : Data) (state : State) → AreToldIf R (drift_told looks tree state) (drift_told others tree state)
  drift tree state = mapped _ _ (λ change. after_refreshes mark.Drift (drift_words change) state) (change_of tree)

  began : (state : State) (step : NamedStep) (moment : ℤ) → AreTold R (began_told looks state step moment) (began_told others state step moment)
  began state step moment =
      followed _ _ _ _ (either (is_change step.action) _ _ _ _ (reported state) (silent state))
      (λ state. timed (with_step step moment state) mark.Begin (step_words step.action step.address))

  step_stage : (state : State) (stage : Stage) (moment : ℤ) (step : NamedStep) → AreTold R (told_of_step looks state stage moment step) (told_of_step others state stage moment step)
  step_stage state stage.Start moment step = began state step moment
  step_stage state stage.Progress moment step = silent state
  step_stage state stage.Complete moment step = timed _ mark.Done _
  step_stage state stage.Errored moment step = timed _ mark.Failed _

  step : (state : State) (stage : Stage) (tree : Data) (moment : ℤ) → AreToldIf R (step_told looks state stage tree moment) (step_told others state stage tree moment)
  step state stage tree moment = mapped _ _ (step_stage state stage moment) (step_of tree)

  refresh : (state : State) (stage : Stage) (tree : Data) (moment : ℤ) → AreToldIf R (refresh_told state stage tree moment) (refresh_told state stage tree moment)
  refresh state stage tree moment = mapped _ _ (λ named. silent (refresh_state state stage moment named)) (hook_of tree)

  put_out : (state : State) (name address output : List ℕ) → AreTold R (output_told looks state name address output) (output_told others state name address output)
  put_out state name address output = record {
    bytes = each (output_bytes looks state name address) (output_bytes others state name address) (λ line. line_of state mark.Output _) (one_at_least (text_lines output));
    state = refl;
  }

  provisioner_stage : (state : State) (stage : Stage) (moment : ℤ) (named : Hook)
      → AreToldIf R (told_of_provisioner looks state stage moment named) (told_of_provisioner others state stage moment named)
  provisioner_stage state stage.Start moment named = timed _ mark.Begin _
  provisioner_stage state stage.Progress moment named = mapped _ _ (λ output. put_out state (provisioner_name named.hook) named.address output) (text_of (codes "output") named.hook)
  provisioner_stage state stage.Complete moment named = silent (with_running named.address None state)
  provisioner_stage state stage.Errored moment named = timed _ mark.Failed _

  provision : (state : State) (stage : Stage) (tree : Data) (moment : ℤ) → AreToldIf R (provision_told looks state stage tree moment) (provision_told others state stage tree moment)
  provision state stage tree moment = bound _ _ (provisioner_stage state stage moment) (hook_of tree)

  -- ---- diagnostics

  -- more behind the refreshes, in the state that they leave
  behind : (one other : Told) (bytes others_bytes : State → List ℕ) (next : State → State) → AreTold R one other → ((state : State) → R (bytes state) (others_bytes state))
      → AreTold R (record { bytes = one.bytes ++ bytes one.state; state = next one.state }) (record { bytes = other.bytes ++ others_bytes other.state; state = next other.state })
  behind one other bytes others_bytes next first more = record {
    bytes = kept.both one.bytes other.bytes (bytes one.state) (others_bytes other.state) first.bytes
        (subst (λ state. R (bytes one.state) (others_bytes state)) first.state (more one.state));
    state = ap next first.state;
  }

  severity : (state : State) (words : List ℕ) (diagnostic : Data) → AreTold R (severity_told looks state words diagnostic) (severity_told others state words diagnostic)
  severity state words diagnostic =
      let row = behind (reported_told looks state) (reported_told others state) (λ state. line_at looks state (severity_mark words) (diagnostic_words words diagnostic))
      (λ state. line_at others state (severity_mark words) (diagnostic_words words diagnostic)) (without_reads (address_of diagnostic)) (reported state)
      (λ state. line_of state (severity_mark words) (diagnostic_words words diagnostic)) in
      record { bytes = kept.both _ _ _ _ row.bytes (texts (severity_mark words) (body_lines diagnostic)); state = row.state }

  diagnostic : (state : State) (tree : Data) → AreToldIf R (diagnostic_told looks state tree) (diagnostic_told others state tree)
  diagnostic state tree =
      bound _ _ (λ diagnostic. mapped _ _ (λ words. severity state words diagnostic) (text_of (codes "severity") diagnostic)) (member_of (codes "diagnostic") tree)

  summary : (tree : Data) (state : State) → AreToldIf R (summary_told looks tree state) (summary_told others tree state)
  summary tree state = mapped _ _ (λ words. after_refreshes mark.Sum words state) (summary_words tree)

  -- ---- outputs

  planned_output : (state : State) (output : OutputView) (action : Option (List ℕ)) → R (planned_bytes looks state output action) (planned_bytes others state output action)
  planned_output state output None = kept.none
  planned_output state output (Some action) = either_bytes (bytes_eq action (codes "noop")) [] _ [] _ kept.none (line_of state (planned_mark action) _)

  all_outputs : (state : State) (list : List OutputView) → AreTold R (all_told looks state list) (all_told others state list)
  all_outputs state list =
      let first = behind (reported_told looks state) (reported_told others state) (λ state. planned_outputs looks state list) (λ state. planned_outputs others state list)
      (λ state. state) (reported state)
      (λ state. each _ _ (λ output. planned_output state output (planned_action output)) list) in
      let values : R (value_outputs looks (reported_told looks state).state list) (value_outputs others (reported_told others state).state list) =
      subst (λ after. R (value_outputs looks (reported_told looks state).state list) (value_outputs others after list)) (reported state).state
      (kept.both _ _ _ _ (either_bytes (count_by is_unplanned list == 0) [] _ [] _ kept.none (line_of (reported_told looks state).state mark.Sum _))
      (texts mark.Output (map value_words (unplanned list)))) in
      record { bytes = kept.both _ _ _ _ first.bytes values; state = first.state }

  outputs_row : (state : State) (find : Bool) (tree : Data) (line : List ℕ) → AreToldIf R (outputs_told looks state find tree line) (outputs_told others state find tree line)
  outputs_row state find tree line = either_if (has_outputs tree) _ _ (all_outputs state (outputs_of find line))

  -- ---- messages

  version : (tree : Data) (state : State) → AreToldIf R (version_told looks tree state) (version_told others tree state)
  version tree state = mapped _ _ (λ words. after_refreshes mark.Sum (version_words words) state) (text_of (codes "terraform") tree)

  row : (state : State) (find : Bool) (line name : List ℕ) (tree : Data) (moment : ℤ) (kind : Kind)
      → AreToldIf R (kind_told looks state find line name tree moment kind) (kind_told others state find line name tree moment kind)
  row state find line name tree moment kind.Version = version tree state
  row state find line name tree moment kind.Planned = planned tree state
  row state find line name tree moment (kind.Apply stage) = step state stage tree moment
  row state find line name tree moment (kind.Ephemeral stage) = step state stage tree moment
  row state find line name tree moment (kind.Refresh stage) = refresh state stage tree moment
  row state find line name tree moment (kind.Provision stage) = provision state stage tree moment
  row state find line name tree moment kind.Diagnostic = diagnostic state tree
  row state find line name tree moment kind.Summary = summary tree state
  row state find line name tree moment kind.Outputs = outputs_row state find tree line
  row state find line name tree moment kind.Other = either_if (bytes_eq name (codes "resource_drift")) _ _ (drift tree state)

  passed : (line : List ℕ) (state : State) → AreTold R (passed_told looks line state) (passed_told others line state)
  passed line state = either (is_empty (line_text line)) _ _ _ _ (silent state) (timed state mark.Passed _)

  other_lines : (line : List ℕ) (lines : List (List ℕ)) (state : State) → AreTold R (lines_or_line_told looks line lines state) (lines_or_line_told others line lines state)
  other_lines line [] state = passed line state
  other_lines line (first ∷ rest) state = record { bytes = kept.both _ _ _ _ (line_of state mark.Other first) (texts mark.Other rest); state = refl }

  at_time : (state : State) (find : Bool) (line : List ℕ) (tree : Data) (moment : Option ℤ) → AreTold R (told_at looks state find line tree moment) (told_at others state find line tree moment)
  at_time state find line tree moment =
      or_else _ _ _ _ (bound_then _ _ (λ name. row state find line name tree (unwrap_or moment state.clock.now) (kind_named name)) (text_of (codes "type") tree))
      (other_lines line (text_lines (text_or_nothing (codes "@message") tree)) state)

  under_way : (state : State) → AreTold R (under_way_told looks state) (under_way_told others state)
  under_way state = either (is_due state) _ _ _ _ (timed _ mark.UnderWay _) (silent state)

  message : (state : State) (find : Bool) (line : List ℕ) (tree : Data) → AreTold R (message_told looks state find line tree) (message_told others state find line tree)
  message state find line tree =
      followed _ _ _ _ (at_time (at_moment (moment_of tree) state) find line tree (moment_of tree))
      (λ state. either (is_some (moment_of tree)) _ _ _ _ (under_way state) (silent state))

  message_or_line : (state : State) (find : Bool) (line : List ℕ) (found : Option Data)
      → AreTold R (message_or_line_told looks state find line found) (message_or_line_told others state find line found)
  message_or_line state find line None = passed line state
  message_or_line state find line (Some tree) = message state find line tree

  pub line : (state : State) (find : Bool) (bytes : List ℕ) → AreTold R (text_told looks state find bytes) (text_told others state find bytes)
  unfolding text_told
  line state find bytes = message_or_line state find bytes (message_of find bytes)

  pub lines : (find : Bool) (all : List (List ℕ)) (state : State) → AreTold R (lines_told looks find all state) (lines_told others find all state)
  lines find [] state = silent state
  lines find (first ∷ rest) state = followed _ _ _ _ (line state find first) (λ state. lines find rest state)

  -- ---- the end

  first_open : (state : State) → AreTold R (first_open_told looks state) (first_open_told others state)
  first_open state = record { bytes = each _ _ (λ step. kept.timed (elapsed state.clock) mark.NoEnd (without_end_words state.clock.now step)) (take 20 state.steps); state = refl }

  more_open : (state : State) → AreTold R (more_open_told looks state) (more_open_told others state)
  more_open state = either (nat_lt 0 (length state.steps - 20)) _ _ _ _ (timed state mark.NoEnd _) (silent state)

  left_open : (is_whole : Bool) (state : State) → AreTold R (open_told_unless is_whole looks state) (open_told_unless is_whole others state)
  left_open is_whole state = either is_whole _ _ _ _ (silent state) (followed _ _ _ _ (first_open state) more_open)

  planned_left : (state : State) → AreTold R (planned_steps_told looks state) (planned_steps_told others state)
  planned_left state = either (are_left state.counts) _ _ _ _ (timed state mark.Sum _) (silent state)

  end : (is_whole : Bool) (state : State) → AreTold R (end_told looks is_whole state) (end_told others is_whole state)
  end is_whole state =
      followed (told_then (reported_told looks state) (open_told_unless is_whole looks)) (told_then (reported_told others state) (open_told_unless is_whole others))
      (planned_steps_told looks) (planned_steps_told others)
      (followed (reported_told looks state) (reported_told others state) (open_told_unless is_whole looks) (open_told_unless is_whole others) (reported state) (left_open is_whole)) planned_left

  last : (verdict : Verdict) (state : State) → AreTold R (last_told looks verdict state) (last_told others verdict state)
  last verdict state = followed _ _ _ _ (end (is_ok verdict.answer) state) (λ state. timed state (verdict_mark verdict.answer) (verdict_words verdict.answer (string_bytes verdict.text)))

  pub stream : (find : Bool) (lines_read : List (List ℕ)) (verdict : Verdict) → AreTold R (stream_told looks find lines_read verdict) (stream_told others find lines_read verdict)
  stream find lines_read verdict = followed _ _ _ _ (lines find lines_read beginning) (λ state. last verdict state)
