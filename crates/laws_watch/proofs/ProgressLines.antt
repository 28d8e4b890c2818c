-- Progress of a step tells nothing by itself, and changes the time alone.
use Rattle.std.proofs.Common.{◌≡◌, ◌∙◌, ℕ, ℤ, List, ◌&&◌, Bool, true, false, Option, None, Some, ap, if◌then◌else◌, is_some, option_and_then, option_map, refl, subst, sym, unwrap_or}
use Rattle.std.specs.Prelude.{codes}
use Rattle.std.specs.Option.{option_map_or}
use Rattle.std.proofs.lemmas.Bool.{false≢true}
use Rattle.serde_json.specs.Data.{Data}
use Rattle.apply_json.specs.Tree.{text_of}
use Rattle.stream_message.specs.Kinds.{kind_named}
use Rattle.stream_message.specs.declared.kind.Kind.{Kind}
use Rattle.stream_message.specs.declared.kind.Kind.TheVariants as kind
use Rattle.stream_message.specs.declared.stage.Stage.{Stage}
use Rattle.stream_message.specs.declared.stage.Stage.TheVariants as stage
use Rattle.stream_watch.specs.Progress.{is_due, slow_told}
use Rattle.stream_watch.specs.ProgressMessage.{is_progress_kind, is_progress_stage}
use Rattle.stream_watch.specs.Reading.{message_of}
use Rattle.stream_watch.specs.State.{State, Told, nothing, told_then}
use Rattle.stream_watch.specs.StepRows.{NamedStep, step_of, told_of_step}
use Rattle.stream_watch.specs.Telling.{at_moment, kind_told, message_or_line_told, moment_of, other_told, text_told, told_at, under_way_told_if}
use Rattle.stream_watch.specs.declared.looks.Looks.{Looks}
use Rattle.laws_watch.specs.Asked.{is_progress, is_progress_message}
use Rattle.laws_watch.specs.Rows.{rows_bytes}
use Rattle.laws_watch.specs.Told.{DifferInTime, rows_after, tells_under_way, under_way_after}
use Rattle.laws_watch.proofs.LineRows.{under_way_rows_are}

-- ---- a message of progress tells nothing

stage_told : (looks : Looks) (state : State) (moment : ℤ) (stage : Stage) (step : Option NamedStep) → is_progress_stage stage ≡ true → is_some step ≡ true
    → option_map (told_of_step looks state stage moment) step ≡ Some (nothing state)
stage_told looks state moment stage.Start step is named = absurd (false≢true is)
stage_told looks state moment stage.Progress None is named = absurd (false≢true named)
stage_told looks state moment stage.Progress (Some step) is named = refl
stage_told looks state moment stage.Complete step is named = absurd (false≢true is)
stage_told looks state moment stage.Errored step is named = absurd (false≢true is)

progress_kind_told : (looks : Looks) (state : State) (find : Bool) (line name : List ℕ) (tree : Data) (moment : ℤ) (k : Kind) → is_progress_kind k ≡ true
    → is_some (step_of tree) ≡ true → kind_told looks state find line name tree moment k ≡ Some (nothing state)
progress_kind_told looks state find line name tree moment kind.Version is named = absurd (false≢true is)
progress_kind_told looks state find line name tree moment kind.Planned is named = absurd (false≢true is)
progress_kind_told looks state find line name tree moment (kind.Apply stage) is named = stage_told looks state moment stage (step_of tree) is named
progress_kind_told looks state find line name tree moment (kind.Ephemeral stage) is named = stage_told looks state moment stage (step_of tree) is named
progress_kind_told looks state find line name tree moment (kind.Refresh stage) is named = absurd (false≢true is)
progress_kind_told looks state find line name tree moment (kind.Provision stage) is named = absurd (false≢true is)
progress_kind_told looks state find line name tree moment kind.Diagnostic is named = absurd (false≢true is)
progress_kind_told looks state find line name tree moment kind.Summary is named = absurd (false≢true is)
progress_kind_told looks state find line name tree moment kind.Outputs is named = absurd (false≢true is)
progress_kind_told looks state find line name tree moment kind.Other is named = absurd (false≢true is)

progress_row_told : (looks : Looks) (state : State) (find : Bool) (line : List ℕ) (tree : Data) (moment : ℤ) (name : Option (List ℕ))
    → option_map_or (λ n. is_progress_kind (kind_named n)) name false ≡ true → is_some (step_of tree) ≡ true
    → option_and_then (λ n. kind_told looks state find line n tree moment (kind_named n)) name ≡ Some (nothing state)
progress_row_told looks state find line tree moment None is named = absurd (false≢true is)
progress_row_told looks state find line tree moment (Some name) is named =
    progress_kind_told looks state find line name tree moment (kind_named name) is named

both_true : (a b : Bool) → (a && b) ≡ true → (a ≡ true) × (b ≡ true)
both_true true b is = (refl, is)
both_true false b is = absurd (false≢true is)

progress_told_at : (looks : Looks) (state : State) (find : Bool) (line : List ℕ) (tree : Data) (moment : Option ℤ) → is_progress_message tree ≡ true
    → told_at looks state find line tree moment ≡ nothing state
progress_told_at looks state find line tree moment is =
    let both = both_true (option_map_or (λ n. is_progress_kind (kind_named n)) (text_of (codes "type") tree) false) (is_some (step_of tree)) is in
    ap (λ (row : Option Told). unwrap_or row (other_told looks line tree state))
    (progress_row_told looks state find line tree (unwrap_or moment state.clock.now) (text_of (codes "type") tree) both.0 both.1)

-- ---- the state

due_differs : (due : Bool) (looks : Looks) (state : State) → DifferInTime state (if due then slow_told looks state else nothing state).state
due_differs true looks state = record { steps = refl; counts = refl; refreshes = refl; lengths = refl }
due_differs false looks state = record { steps = refl; counts = refl; refreshes = refl; lengths = refl }

pub under_way_differs : (has_moment : Bool) (looks : Looks) (state : State) → DifferInTime state (under_way_told_if has_moment looks state).state
under_way_differs true looks state = due_differs (is_due state) looks state
under_way_differs false looks state = record { steps = refl; counts = refl; refreshes = refl; lengths = refl }

-- ---- a line of progress

-- nothing is told but what is under way, and the states differ in the time
pub record TellsTime (looks : Looks) (before : State) (tells : Bool) (told : Told) : Type 0 where
  pub bytes : told.bytes ≡ rows_bytes looks (rows_after tells told.state)
  pub state : DifferInTime before told.state

nothing_then : (looks : Looks) (before state : State) (has_moment : Bool) (own : Told) → DifferInTime before state → own ≡ nothing state
    → TellsTime looks before (has_moment && is_due own.state) (told_then own (under_way_told_if has_moment looks))
nothing_then looks before state has_moment own at is =
    let under = under_way_rows_are has_moment looks state in
    let differs = under_way_differs has_moment looks state in
    subst (λ (told : Told). TellsTime looks before (has_moment && is_due told.state) (told_then told (under_way_told_if has_moment looks))) (sym is)
    (record {
      bytes = under.bytes;
      state = record {
        steps = differs.steps ∙ at.steps;
        counts = differs.counts ∙ at.counts;
        refreshes = differs.refreshes ∙ at.refreshes;
        lengths = differs.lengths ∙ at.lengths;
      };
    })

progress_line_of : (looks : Looks) (state : State) (find : Bool) (line : List ℕ) (message : Option Data)
    → option_map_or is_progress_message message false ≡ true
    → TellsTime looks state (under_way_after looks state find line message) (message_or_line_told looks state find line message)
progress_line_of looks state find line None is = absurd (false≢true is)
progress_line_of looks state find line (Some tree) is =
    nothing_then looks state (at_moment (moment_of tree) state) (is_some (moment_of tree))
    (told_at looks (at_moment (moment_of tree) state) find line tree (moment_of tree))
    (record { steps = refl; counts = refl; refreshes = refl; lengths = refl })
    (progress_told_at looks (at_moment (moment_of tree) state) find line tree (moment_of tree) is)

pub progress_line : (looks : Looks) (state : State) (find : Bool) (line : List ℕ) → is_progress find line ≡ true
    → TellsTime looks state (tells_under_way looks state find line) (text_told looks state find line)
unfolding text_told
progress_line looks state find line is = progress_line_of looks state find line (message_of find line) is
