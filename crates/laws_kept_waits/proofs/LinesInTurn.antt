-- Lines of steps come in the order of their hook messages.
use Rattle.std.proofs.Common.{◌≡◌, ◌∙◌, ◌+◌, ℕ, ℤ, Bool, true, false, eqb, List, [], ◌∷◌, ◌++◌, filter, Option, None, Some, refl, sym, ap, ap₂, arith, subst, ⊎_elim}
use Rattle.std.specs.Prelude.{option_map, slice_get}
use Rattle.std.specs.List.{Contains}
use Rattle.std.proofs.lemmas.Bool.{and_parts, eqb-true, true≢false}
use Rattle.apply_model.specs.declared.script.wait.Wait.{Wait}
use Rattle.apply_events.specs.declared.event.Event.{Event}
use Rattle.apply_events.specs.Step.{Work, kinds_of}
use Rattle.apply_events.proofs.Waits.Members.{any_in, filter_in, in_cases, in_head, in_tail, split_in}
use Rattle.apply_text.specs.Order.{hook_messages_of}
use Rattle.stream_record_outcomes.specs.declared.recorded_step.RecordedStep.{RecordedStep}
use Rattle.stream_record_script.specs.Runs.{run_of}
use Rattle.stream_record_steps.specs.declared.begun_step.BegunStep.{BegunStep}
use Rattle.stream_record_steps.specs.declared.begun_step.StepEnd.{StepEnd}
use Rattle.stream_record_steps.specs.Begun.{Begun}
use Rattle.stream_record_steps.specs.Steps.{PlannedStep, planned_steps}
use Rattle.stream_record_waits.specs.declared.step_of_plan.StepRun.{StepRun}
use Rattle.laws_begun.specs.Followed.{AreFollowed, IsKnownBy, numbered, numbered_of_step}
use Rattle.laws_begun.specs.Telling.{Telling}
use Rattle.laws_recorded.proofs.Planned.{contains_at}
use Rattle.laws_recorded.proofs.RunOrder.{has_run}
use Rattle.laws_recorded.proofs.Stated.{item_there}
use Rattle.laws_run.specs.WaitingSteps.{has_events, is_of_step}
use Rattle.laws_waits.specs.Places.{place_of}
use Rattle.laws_waits.proofs.ChangeSteps.{change_of_kind}
use Rattle.laws_waits.proofs.StepPlaces.{in_stream, planned_step}
use Rattle.laws_kept_waits.specs.InLines.{ComeInTurn, RanAs}
use Rattle.laws_kept_waits.proofs.Lists.{among, in_either}
use Rattle.laws_kept_waits.proofs.NumberedLines.{item_of, split_at}

-- ---- the lines of a step

abbrev is_line_of : Wait → ℕ × Event → Bool
is_line_of name line = is_of_step name line.1

-- a run by its own lines, the first of which is its start
record HasLines (lines : List (ℕ × Event)) (name : Wait) (run : StepRun) : Type 0 where
  pub began : ℕ × Event
  pub rest : List (ℕ × Event)
  pub ended : ℕ × Event
  pub are : filter (is_line_of name) lines ≡ began ∷ rest
  pub ends : Contains rest ended
  pub line : run.line ≡ began.0
  pub end : run.end ≡ Some ended.0

module _ (telling : Telling) (start : ℤ) (lines : List (ℕ × Event)) (own : PlannedStep) (found : RecordedStep) (known : BegunStep) (name : Wait) where
  known_lines : (all : List (ℕ × Event)) → filter (is_line_of name) lines ≡ all → IsKnownBy telling start own.kind all (Some known) → HasLines lines name (run_of own found known)
  known_lines [] is none = let both : Some known ≡ None = none in cc
  known_lines (line ∷ all) is by = record {
    began = by.began;
    rest = by.facts ++ by.ended ∷ [];
    ended = by.ended;
    are = is ∙ by.are;
    ends = split_in by.facts by.ended [];
    line = by.line;
    end = ap (option_map (λ (e : StepEnd). e.line)) by.end;
  }

module _ (work : Work) (events : List Event) (telling : Telling) (start : ℤ) (first : ℕ) (begun : Begun) (recorded : List (Option RecordedStep)) (same_plan : telling.plan ≡ work.plan)
    (followed : AreFollowed telling start first (hook_messages_of events) begun) where
  abbrev hooks : List Event
  hooks = hook_messages_of events

  lines_of : (name : Wait) (run : StepRun) → RanAs work begun recorded name.change name.step run → HasLines (numbered first (hook_messages_of events)) name run
  lines_of name run ran =
      let place = place_of work.plan.changes name.change name.step in
      let kind = item_there (kinds_of work.plan name.change) name.step ran.0 in
      let change = change_of_kind (slice_get work.plan.changes name.change) name.step kind.0 kind.1 in
      let own = planned_step change.0 name.change name.step place kind.0 in
      let at = in_stream work.plan.changes name.change name.step change.0 kind.0 change.1 change.2 in
      let there : slice_get (planned_steps telling.plan.changes) place ≡ Some own = ap (λ plan. slice_get (planned_steps plan.changes) place) same_plan ∙ at in
      let has = has_run begun recorded place run ran.1 in
      let by : IsKnownBy telling start own.kind (numbered_of_step name.change name.step (numbered first hooks)) (Some has.known) =
      subst (IsKnownBy telling start own.kind (numbered_of_step name.change name.step (numbered first hooks))) has.known_is
      (followed.steps own (contains_at (planned_steps telling.plan.changes) place own there)) in
      let planned : Some has.own ≡ Some own = sym has.stands ∙ ap (λ (ps : List PlannedStep). slice_get ps place) followed.planned ∙ there in
      let same : has.own ≡ own = cc in
      subst (HasLines (numbered first hooks) name) (sym (has.run_is ∙ ap (λ (o : PlannedStep). run_of o has.found has.known) same))
      (known_lines telling start (numbered first hooks) own has.found has.known name (numbered_of_step name.change name.step (numbered first hooks)) refl by)

  -- ---- two steps

  same_name : (one other : Wait) (event : Event) → is_of_step one event ≡ true → is_of_step other event ≡ true → one ≡ other
  same_name one other event of_one of_other =
      let a = and_parts (eqb event.change one.change) (eqb event.step one.step) of_one in
      let b = and_parts (eqb event.change other.change) (eqb event.step other.step) of_other in
      ap₂ (λ (c k : ℕ). record { change = c; step = k })
      (sym (eqb-true event.change one.change a.0) ∙ eqb-true event.change other.change b.0)
      (sym (eqb-true event.step one.step a.1) ∙ eqb-true event.step other.step b.1)

  pub in_turn : ComeInTurn work events begun recorded
  in_turn one two run later end ran ran_later ends before =
      let lines = numbered first hooks in
      let ours = lines_of one run ran in
      let theirs = lines_of two later ran_later in
      let began = theirs.began in
      let all = among (is_line_of two) lines [] theirs.rest began theirs.are in
      let split = split_at first hooks all.before all.after began all.are in
      -- the start of the second step is one of its messages, and so is its end, which comes later
      let starts : is_of_step two began.1 ≡ true = (filter_in (is_line_of two) lines began (subst (λ ls. Contains ls began) (sym theirs.are) (in_head began theirs.rest))).1 in
      let its_end = filter_in (is_line_of two) all.after theirs.ended (subst (λ ls. Contains ls theirs.ended) (sym all.kept) theirs.ends) in
      let goes_on : has_events split.back two ≡ true =
      any_in (is_of_step two) split.back theirs.ended.1 (item_of (began.0 + 1) split.back theirs.ended (subst (λ ls. Contains ls theirs.ended) split.on its_end.0)) its_end.1 in
      let none : has_events split.back one ≡ false = before split.front split.back began.1 split.are starts in
      -- where the end of the first step stands
      let our_end = filter_in (is_line_of one) lines ours.ended (subst (λ ls. Contains ls ours.ended) (sym ours.are) (in_tail ours.began ours.rest ours.ended ours.ends)) in
      let number : Some ours.ended.0 ≡ Some end = sym ours.end ∙ ends in
      let end_is : ours.ended.0 ≡ end = cc in
      let line_is = theirs.line in
      ⊎_elim
      (λ (lower : Contains all.before ours.ended). let less = split.lower ours.ended lower in omega (arith, less, end_is, line_is))
      (λ (others : Contains (began ∷ all.after) ours.ended). absurd (⊎_elim
      (λ (here : began ≡ ours.ended).
      let name = same_name one two began.1 (ap (is_line_of one) here ∙ our_end.1) starts in
      true≢false (sym goes_on ∙ ap (has_events split.back) (sym name) ∙ none))
      (λ (there : Contains all.after ours.ended).
      true≢false (sym (any_in (is_of_step one) split.back ours.ended.1 (item_of (began.0 + 1) split.back ours.ended (subst (λ ls. Contains ls ours.ended) split.on there)) our_end.1) ∙ none))
      (in_cases began all.after ours.ended others)))
      (in_either all.before (began ∷ all.after) ours.ended (subst (λ ls. Contains ls ours.ended) all.are our_end.0))
