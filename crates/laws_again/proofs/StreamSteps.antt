-- The steps of a stream that was read back are those of its run.
use Rattle.std.proofs.Common.{◌≡◌, ◌∙◌, ◌+◌, ◌<◌, ℕ, ℤ, zero, suc, Bool, true, false, List, [], ◌∷◌, ◌++◌, length, length-append, Option, Some, None, refl, sym, ap, arith, subst, ⊎_elim}
use Rattle.std.specs.Prelude.{is_some, option_map, slice_get}
use Rattle.std.specs.List.{Contains}
use Rattle.std.specs.Option.{option_map_or}
use Rattle.std.proofs.lemmas.Bool.{cases_Bool}
use Rattle.std.proofs.lemmas.List.Elements.{All-contains, Contains-append_right}
use Rattle.std.proofs.lemmas.List.Sums.{sum_by-cons}
use Rattle.std.proofs.lemmas.Option.{same_Some, slice_get_within}
use Rattle.apply_model.specs.declared.details.note.Note.{Note}
use Rattle.apply_model.specs.declared.plan.step_kind.StepKind.{StepKind}
use Rattle.apply_model.specs.declared.script.outcome.Outcome.{Outcome}
use Rattle.apply_model.specs.declared.script.provisioner.Provisioner.{Provisioner}
use Rattle.apply_model.specs.Plan.ResourceChange.{ResourceChange}
use Rattle.apply_model.specs.Plan.SavedPlan.{SavedPlan}
use Rattle.apply_model.specs.Script.Outcome.{fails, ran, seconds_of_all, took}
use Rattle.apply_model.specs.Script.OutcomeMap.{outcome_of}
use Rattle.apply_events.specs.declared.event.Event.{Event}
use Rattle.apply_events.specs.declared.what.What.{What}
use Rattle.apply_events.specs.declared.what.What.TheVariants.{Complete, Errored}
use Rattle.apply_events.specs.Step.{Work, kinds_of}
use Rattle.apply_events.specs.Waits.Schedule.{schedule}
use Rattle.apply_events.proofs.Waits.Members.{in_head, in_tail}
use Rattle.apply_text.specs.Order.{hook_messages_of}
use Rattle.stream_record_outcomes.specs.declared.fate.Fate.{Fate}
use Rattle.stream_record_outcomes.specs.declared.recorded_step.RecordedStep.{RecordedStep}
use Rattle.stream_record_script.specs.Runs.{run_fate_of, run_of, steps_of_plan}
use Rattle.stream_record_steps.specs.declared.begun_step.BegunStep.{BegunStep}
use Rattle.stream_record_steps.specs.declared.begun_step.StepEnd.{StepEnd}
use Rattle.stream_record_steps.specs.Begun.{Begun, begun_at}
use Rattle.stream_record_steps.specs.Steps.{PlannedStep, planned_from, planned_steps, steps_from}
use Rattle.stream_record_waits.specs.declared.step_of_plan.StepOfPlan.{StepOfPlan}
use Rattle.stream_record_waits.specs.declared.step_of_plan.StepRun.{StepRun}
use Rattle.stream_record_waits.specs.Steps.{is_failure, step_at}
use Rattle.laws_begun.specs.Followed as followed
use Rattle.laws_begun.specs.Followed.{AreFollowed, IsKnown, IsKnownBy, IsWhole, IsWholeOrNone, events_of_step, numbered, numbered_of_step}
use Rattle.laws_begun.specs.Telling.{Telling}
use Rattle.laws_begun.proofs.KnownSteps.{events_in, same_events}
use Rattle.laws_lanes.specs.Alike.{IsAnsweredAlike, RunAlike, is_begun}
use Rattle.laws_lanes.proofs.WithEvents.{begun_is}
use Rattle.laws_queue.specs.OfLanes as queue
use Rattle.laws_queue.specs.OfRun.{HasLines, IsOfRun, IsStepOf, RanAsAnswered, RanIf, has_events, is_end, is_start}
use Rattle.laws_queue.proofs.Numbered.{stands_at}
use Rattle.laws_recorded.proofs.Places.{length-steps_from}
use Rattle.laws_recorded.proofs.RunOrder.{as_many, step_there}
use Rattle.laws_steps_again.specs.Places.{step_of_plan}
use Rattle.laws_steps_again.specs.ReadBack.{IsReadBack, Reading}
use Rattle.laws_steps_again.specs.Steps.{AreStepsAgain, IsRecorded, fate_as}
use Rattle.laws_steps_again.proofs.KnownLines.{AreLines, are_lines}
use Rattle.laws_steps_again.proofs.Planned.{in_plan}
use Rattle.laws_waits.specs.Places.{place_of, steps_before}
use Rattle.laws_again.specs.WithoutWaits.{line_at}
use Rattle.laws_again.proofs.LatestLines.{previous_is}

-- ---- places

none_before : (changes : List ResourceChange) → steps_before changes 0 ≡ 0
none_before [] = refl
none_before (change ∷ changes) = refl

before_next : (changes : List ResourceChange) (c : ℕ)
    → steps_before changes (suc c) ≡ steps_before changes c + length (option_map_or (λ (own : ResourceChange). own.steps) (slice_get changes c) [])
before_next [] c = refl
before_next (change ∷ changes) zero = let none = none_before changes in omega (arith, none)
before_next (change ∷ changes) (suc c) = let rest = before_next changes c in omega (arith, rest)

same_base : (plan : SavedPlan) (c : ℕ) → queue.place_of plan c ≡ steps_before plan.changes c
same_base plan zero = sym (none_before plan.changes)
same_base plan (suc c) =
    let rest = same_base plan c in
    let next = before_next plan.changes c in omega (arith, rest, next)

planned_many : (changes : List ResourceChange) (n place : ℕ) → length (planned_from n place changes) ≡ steps_before changes (length changes)
planned_many [] n place = refl
planned_many (change ∷ changes) n place =
    let here = length-steps_from change n 0 place change.steps in
    let rest = planned_many changes (n + 1) (place + length change.steps) in
    let both = length-append (steps_from change n 0 place change.steps) (planned_from (n + 1) (place + length change.steps) changes) in omega (arith, here, rest, both)

-- ---- seconds

same_seconds : (ones others : List Provisioner) → RunAlike ones others → seconds_of_all others ≡ seconds_of_all ones
same_seconds [] [] h = refl
same_seconds [] (other ∷ others) h = absurd h
same_seconds (one ∷ ones) [] h = absurd h
same_seconds (one ∷ ones) (other ∷ others) h =
    let rest = same_seconds ones others h.1 in
    let here = h.0.seconds in
    let sum = sum_by-cons (λ (p : Provisioner). p.seconds) one ones in
    let other_sum = sum_by-cons (λ (p : Provisioner). p.seconds) other others in omega arith

took_alike : (kind : StepKind) (one other : Outcome) → IsAnsweredAlike kind one other → took kind other ≡ took kind one
took_alike kind one other h =
    let before = h.before in
    let after = h.after in
    let between = same_seconds (ran one.provisioners) (ran other.provisioners) h.ran in omega arith

-- ---- one step

failure_as : (failed : Bool) → is_failure (run_fate_of (fate_as failed)) ≡ failed
failure_as true = refl
failure_as false = refl

ends_too : (what : What) → followed.is_end what ≡ true → is_end what ≡ true
ends_too (Complete seconds) is = refl
ends_too (Errored seconds) is = refl
ends_too _ is = absurd cc

known_of : (telling : Telling) (start : ℤ) (kind : StepKind) (lines : List (ℕ × Event)) (o : Option BegunStep) (known : BegunStep) → o ≡ Some known
    → IsKnownBy telling start kind lines o → IsKnown telling start kind lines known
known_of telling start kind [] o known at by = let both : None ≡ Some known = sym by ∙ at in absurd cc
known_of telling start kind (line ∷ lines) None known at by = absurd by
known_of telling start kind (line ∷ lines) (Some step) known at by = subst (IsKnown telling start kind (line ∷ lines)) (same_Some step known at) by

whole_of : (events : List Event) (first : Event) (rest : List Event) → events ≡ first ∷ rest → IsWholeOrNone events → IsWhole events
whole_of [] first rest are whole = absurd cc
whole_of (event ∷ events) first rest are whole = whole

none_run : (run : Option StepRun) → is_some run ≡ false → run ≡ None
none_run None is = refl
none_run (Some run) is = absurd cc

module _ (work : Work) (n : ℕ) (events : List Event) (reading : Reading) (begun : Begun) (loose notes : List Note) (recorded : List (Option RecordedStep)) (left : List Note)
    (back : IsReadBack work n events reading begun loose notes recorded left) (again : AreStepsAgain work n begun recorded reading.telling.id)
    (follows : AreFollowed reading.telling reading.start reading.first (hook_messages_of events) begun) where
  abbrev hooks : List Event
  hooks = hook_messages_of events

  abbrev lines_of : (c k : ℕ) → List (ℕ × Event)
  lines_of c k = numbered_of_step c k (numbered reading.first (hook_messages_of events))

  of_plan : (event : Event) → Contains (hook_messages_of events) event → event.step < length (kinds_of reading.telling.plan event.change)
  of_plan event has =
      subst (λ (plan : SavedPlan). event.step < length (kinds_of plan event.change)) (sym back.plan)
      (All-contains (λ (e : Event). e.step < length (kinds_of work.plan e.change)) (hook_messages_of events) event back.whole.known has)

  module _ (c k : ℕ) (kind : StepKind) (at : slice_get (kinds_of work.plan c) k ≡ Some kind) where
    module _ (its : IsRecorded work begun recorded c k kind (reading.telling.id c k)) where
      known_lines : IsKnown reading.telling reading.start kind (numbered_of_step c k (numbered reading.first (hook_messages_of events))) its.known
      known_lines =
          let own = in_plan work.plan c k kind at in
          let step = step_of_plan work.plan.changes own.change c k kind in
          known_of reading.telling reading.start kind (lines_of c k) (begun_at begun.by_step (place_of work.plan.changes c k)) its.known its.known_at
          (follows.steps step (subst (λ (plan : SavedPlan). Contains (planned_steps plan.changes) step) (sym back.plan) own.among))

      whole : IsWhole (events_of_step c k (hook_messages_of events))
      whole =
          let is = known_lines in
          whole_of (events_of_step c k hooks) is.began.1 _
          (sym (same_events c k reading.first hooks) ∙ ap events_in is.are)
          (back.whole.steps c k)

      lines_are : AreLines reading.telling reading.start kind (numbered_of_step c k (numbered reading.first (hook_messages_of events))) its.known whole.start whole.facts whole.end
      lines_are = are_lines reading.telling reading.start kind (lines_of c k) its.known whole.start whole.facts whole.end
          (same_events c k reading.first hooks ∙ whole.are) known_lines

      has_lines : HasLines (hook_messages_of events) (line_at reading) c k (run_of (step_of_plan work.plan.changes its.change c k kind) its.found its.known)
      has_lines =
          let are = lines_are in
          let is = are.is in
          let whole_step = whole in
          let first_among : Contains (lines_of c k) is.began = subst (λ (l : List (ℕ × Event)). Contains l is.began) (sym is.are) (in_head is.began (is.facts ++ is.ended ∷ [])) in
          let last_among : Contains (lines_of c k) is.ended = subst (λ (l : List (ℕ × Event)). Contains l is.ended) (sym is.are)
          (in_tail is.began (is.facts ++ is.ended ∷ []) is.ended (Contains-append_right is.facts (is.ended ∷ []) is.ended (in_head is.ended []))) in
          let begins = stands_at reading.first hooks c k is_start is.began first_among (ap is_start (ap (λ (e : Event). e.what) are.first_is ∙ whole_step.starts)) in
          let ends = stands_at reading.first hooks c k is_end is.ended last_among
          (ends_too is.ended.1.what (ap (λ (e : Event). followed.is_end e.what) are.last_is ∙ whole_step.ends)) in
          record {
            start = begins.0;
            starts = begins.2;
            line_is = is.line ∙ begins.1;
            previous_is =
                previous_is reading.telling reading.start reading.first hooks (planned_steps work.plan.changes) of_plan
                (place_of work.plan.changes c k) its.known
                (ap (λ (b : Begun). begun_at b.by_step (place_of work.plan.changes c k)) (sym back.begun_is) ∙ its.known_at)
                begins.0 (is.line ∙ begins.1);
            end = ends.0;
            ends = ends.2;
            end_is = ap (option_map (λ (end : StepEnd). end.line)) is.end ∙ ap Some ends.1;
          }

      ran_as_answered : RanAsAnswered work events (line_at reading) c k kind (run_of (step_of_plan work.plan.changes its.change c k kind) its.found its.known)
      ran_as_answered = record {
        fate = ap (λ (f : Fate). is_failure (run_fate_of f)) its.fate_is ∙ failure_as (fails (outcome_of work.script c k));
        seconds = took_alike kind (outcome_of work.script c k) its.found.outcome its.again.alike;
        lines = has_lines;
      }

    step_is : (place : ℕ) → place ≡ place_of work.plan.changes c k → IsStepOf work events (line_at reading) c k kind (step_at (steps_of_plan begun recorded) place)
    step_is place is =
        let own = in_plan work.plan c k kind at in
        let step = step_of_plan work.plan.changes own.change c k kind in
        let there = step_there begun recorded (place_of work.plan.changes c k) step (ap (λ (l : List PlannedStep). slice_get l (place_of work.plan.changes c k)) again.steps.planned ∙ own.planned_at) in
        let less = slice_get_within (kinds_of work.plan c) k kind at in
        let some = back.own.some in
        let with_events : is_begun work (schedule work n) c k ≡ has_events events c k = begun_is work n (omega (arith, some)) events back.own.line c k in
        let mine = steps_of_plan begun recorded in
        subst (λ (p : ℕ). IsStepOf work events (line_at reading) c k kind (step_at mine p)) (sym is)
        (record {
          first = ap (λ (s : StepOfPlan). s.is_first) there;
          ran = ⊎_elim
              (λ (begins : is_begun work (schedule work n) c k ≡ true).
              let its = again.began c k kind at begins in
              let ran : RanIf true work events (line_at reading) c k kind (step_at mine (place_of work.plan.changes c k)).run =
              (run_of (step_of_plan work.plan.changes its.change c k kind) its.found its.known, its.run_at, ran_as_answered its) in
              subst (λ (t : Bool). RanIf t work events (line_at reading) c k kind (step_at mine (place_of work.plan.changes c k)).run) (sym begins ∙ with_events) ran)
              (λ (never : is_begun work (schedule work n) c k ≡ false).
              let none : RanIf false work events (line_at reading) c k kind (step_at mine (place_of work.plan.changes c k)).run =
              none_run (step_at mine (place_of work.plan.changes c k)).run (again.begins c k less ∙ never) in
              subst (λ (t : Bool). RanIf t work events (line_at reading) c k kind (step_at mine (place_of work.plan.changes c k)).run) (sym never ∙ with_events) none)
              (cases_Bool (is_begun work (schedule work n) c k));
        })

  -- ---- all steps

  pub of_run : IsOfRun work events (line_at reading) (steps_of_plan begun recorded)
  of_run = record {
    hooks = back.own.hooks;
    few = again.steps.few;
    rises = λ i j less within. omega (arith, less);
    each = as_many begun recorded begun.planned 0 ∙ ap length again.steps.planned ∙ planned_many work.plan.changes 0 0 ∙ sym (same_base work.plan (length work.plan.changes));
    are = λ c k kind at. step_is c k kind at (queue.place_of work.plan c + k) (ap (λ (b : ℕ). b + k) (same_base work.plan c));
  }
