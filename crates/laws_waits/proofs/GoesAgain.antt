-- A work whose steps `record` knows goes alike with the recorded script.
use Rattle.std.proofs.Common.{◌≡◌, ◌∙◌, ◌<◌, ◌≤◌, ℕ, zero, suc, Bool, true, false, List, [], ◌∷◌, length, ltb, Option, None, Some, refl, sym, ap, arith, subst, lt-ltb, ◌⊎◌, inl, inr, ⊎_elim}
use Rattle.std.specs.Prelude.{◌||◌, is_some, not, slice_get}
use Rattle.std.specs.List.{Contains}
use Rattle.std.specs.Option.{option_map_or}
use Rattle.std.proofs.lemmas.Option.{slice_get_within}
use Rattle.apply_model.specs.declared.plan.step_kind.StepKind.{StepKind}
use Rattle.apply_model.specs.declared.script.outcome.Outcome.{Outcome}
use Rattle.apply_model.specs.declared.script.wait.Wait.{Wait}
use Rattle.apply_model.specs.Plan.ResourceChange.{ResourceChange}
use Rattle.apply_model.specs.Script.Outcome.{fails}
use Rattle.apply_model.specs.Script.OutcomeMap.{OutcomeMap, outcome_of}
use Rattle.apply_model.specs.Script.Waits.{waits_of}
use Rattle.apply_events.specs.Step.{Work, kinds_applied, kinds_of}
use Rattle.apply_events.specs.Waits.Done.{done_at}
use Rattle.apply_events.specs.Waits.Schedule.{schedule}
use Rattle.stream_record.specs.EvenScript as even
use Rattle.stream_record_outcomes.specs.declared.recorded_step.RecordedStep.{RecordedStep}
use Rattle.stream_record_steps.specs.Begun.{Begun}
use Rattle.stream_record_waits.specs.declared.choices.Choices.{Choices}
use Rattle.stream_record_waits.specs.declared.step_of_plan.StepOfPlan.{StepOfPlan}
use Rattle.stream_record_waits.specs.declared.step_of_plan.StepRun.{StepRun}
use Rattle.stream_record_waits.specs.Recorded.{AreRecordedWaits}
use Rattle.stream_record_waits.specs.States.{holds_up}
use Rattle.stream_record_waits.specs.Steps.{has_begun, has_failed, step_at}
use Rattle.stream_record_script.specs.Runs.{recorded_at, steps_of_plan}
use Rattle.laws_lanes.specs.Alike.{BeginsAlike, GoesAlike, IsAnsweredAlike, WaitsInVain, is_begun}
use Rattle.laws_recorded.proofs.RunOrder.{has_run}
use Rattle.laws_recorded.proofs.Stated.{item_there}
use Rattle.laws_waits.specs.Again.{HaveSameItems, IsKnown, with_script}
use Rattle.laws_waits.specs.Places.{place_of}
use Rattle.laws_waits.specs.Scripts.{AreOfPlan, HasStepsThatBegan, IsHeldUp, recorded_script, waits_named}
use Rattle.laws_waits.proofs.Increasing.{contains_first, contains_later, first_or_later, nothing_in}
use Rattle.laws_waits.proofs.KeptWaits.{waits_again}
use Rattle.laws_waits.proofs.RecordedScripts.{has_steps_that_began}
use Rattle.laws_waits.proofs.StepPlaces.{stands}

-- ---- waits

-- one list has items where the other has
some_items : (xs ys : List Wait) → HaveSameItems xs ys → ltb 0 (length xs) ≡ ltb 0 (length ys)
some_items [] [] same = refl
some_items [] (y ∷ ys) same = absurd (nothing_in y (same.back y (contains_first y ys)))
some_items (x ∷ xs) [] same = absurd (nothing_in x (same.into x (contains_first x xs)))
some_items (x ∷ xs) (y ∷ ys) same = lt-ltb 0 (length (x ∷ xs)) (omega arith) ∙ sym (lt-ltb 0 (length (y ∷ ys)) (omega arith))

rest_from : {X : Type 0} (first x : X) (xs ys : List X) → (Contains xs x → Contains ys x) → Contains (first ∷ xs) x → Contains (first ∷ ys) x
rest_from first x xs ys into has = ⊎_elim
    (λ (here : first ≡ x). subst (λ (y : _). Contains (first ∷ ys) y) here (contains_first first ys))
    (λ (later : Contains xs x). contains_later first x ys (into later))
    (first_or_later first x xs has)

-- from the waits that the outcomes state to all waits
waits_from : (one other : OutcomeMap) (c k : ℕ) (name : Wait) → (Contains (outcome_of one c k).after name → Contains (outcome_of other c k).after name)
    → Contains (waits_of one c k) name → Contains (waits_of other c k) name
waits_from one other c zero name into has = into has
waits_from one other c (suc k) name into has = rest_from (record { change = c; step = k }) name (outcome_of one c (suc k)).after (outcome_of other c (suc k)).after into has

-- ---- outcomes

-- what a step waits for makes no difference to how its outcome goes
alike_after : (kind : StepKind) (one other : Outcome) (after : List Wait) → IsAnsweredAlike kind one other → IsAnsweredAlike kind one (record other { after = after })
alike_after kind one other after is = record { before = is.before; ran = is.ran; after = is.after; fails = is.fails; ends = is.ends; other_ends = is.other_ends }

run_there : (run : Option StepRun) → is_some run ≡ true → (one : StepRun) × (run ≡ Some one)
run_there None is = cc
run_there (Some one) is = (one, refl)

either_way : (begun failed : Bool) → (not begun || failed) ≡ true → (begun ≡ false) ⊎ (failed ≡ true)
either_way false failed is = inl refl
either_way true failed is = inr is

-- A step that does not begin, or fails, is never done.
abbrev pub IsNeverDone : Type 0
IsNeverDone = (work : Work) (n c k : ℕ) → (is_begun work (schedule work n) c k ≡ false) ⊎ (fails (outcome_of work.script c k) ≡ true)
    → done_at work (schedule work n) (record { change = c; step = k }) ≡ None

module _ (never : IsNeverDone) (work : Work) (n : ℕ) (begun : Begun) (recorded : List (Option RecordedStep)) (graph : List (List ℕ)) (known : IsKnown work n begun recorded graph) where
  abbrev steps : List StepOfPlan
  steps = steps_of_plan begun recorded

  abbrev script : OutcomeMap
  script = recorded_script work.plan begun recorded graph

  abbrev place : (c k : ℕ) → ℕ
  place c k = place_of work.plan.changes c k

  of_plan : AreOfPlan work.plan begun recorded graph
  of_plan = record { few = known.steps.few; planned = known.steps.planned; each = known.steps.each; waits = known.kept.sound.of_steps; in_order = known.steps.in_order }

  has_steps : HasStepsThatBegan work.plan begun recorded graph (recorded_script work.plan begun recorded graph)
  has_steps = has_steps_that_began work.plan begun recorded graph of_plan

  found_of : (p : ℕ) → has_begun (steps_of_plan begun recorded) p ≡ true → (found : RecordedStep) × (recorded_at recorded p ≡ Some found)
  found_of p is =
      let run = run_there (step_at steps p).run is in
      let has = has_run begun recorded p run.0 run.1 in (has.found, has.recorded_is)

  -- ---- a step that begins

  begins_alike : (c k : ℕ) (kind : StepKind) → is_begun work (schedule work n) c k ≡ true → slice_get (kinds_of work.plan c) k ≡ Some kind
      → BeginsAlike work (with_script work (recorded_script work.plan begun recorded graph)) c k kind
  begins_alike c k kind begins at =
      let less = slice_get_within (kinds_of work.plan c) k kind at in
      let began = known.begins c k less ∙ begins in
      let found = found_of (place c k) began in
      let applied = has_steps.began c k kind found.0 at began found.1 in
      let same = known.stated c k less begins in
      let after : (outcome_of script c k).after ≡ waits_named work.plan graph (place c k) = ap (λ (o : Outcome). o.after) applied.outcome in record {
        applied = applied.applied;
        alike = subst (IsAnsweredAlike kind (outcome_of work.script c k)) (sym applied.outcome)
            (alike_after kind (outcome_of work.script c k) found.0.outcome (waits_named work.plan graph (place c k)) (known.alike c k kind found.0 at found.1));
        waits = λ name has. waits_from work.script script c k name (λ own. subst (λ (names : List Wait). Contains names name) (sym after) (same.back name own)) has;
        no_more = λ name has. waits_from script work.script c k name (λ own. same.into name (subst (λ (names : List Wait). Contains names name) after own)) has;
        named = ap (λ (names : List Wait). ltb 0 (length names)) after ∙ some_items (waits_named work.plan graph (place c k)) (outcome_of work.script c k).after same;
      }

  -- ---- a step that does not begin

  -- a step that holds up others is never done
  never_done : (p : ℕ) (name : Wait) → slice_get (even.planned_steps work.plan.changes) p ≡ Some name → holds_up (steps_of_plan begun recorded) p ≡ true
      → done_at work (schedule work n) name ≡ None
  never_done p name at holds =
      let there = stands work.plan.changes p name at in
      let kinds : kinds_of work.plan name.change ≡ there.change.steps = ap (λ (o : Option ResourceChange). option_map_or (λ (own : ResourceChange). own.steps) o []) there.change_at in
      let many = ap (length {A = StepKind}) kinds in
      let inside = slice_get_within there.change.steps name.step there.kind there.kind_at in
      let less : name.step < length (kinds_of work.plan name.change) = omega (arith, many, inside) in
      ⊎_elim
      (λ (not_begun : has_begun steps p ≡ false).
      never work n name.change name.step
      (inl (sym (known.begins name.change name.step less) ∙ ap (has_begun steps) (sym there.place_is) ∙ not_begun)))
      (λ (failed : has_failed (step_at steps p) ≡ true).
      never work n name.change name.step
      (inr (known.fail name.change name.step less (ap (λ (q : ℕ). has_failed (step_at steps q)) (sym there.place_is) ∙ failed))))
      (either_way (has_begun steps p) (has_failed (step_at steps p)) holds)

  left_out : (c k : ℕ) → k < length (kinds_of work.plan c) → is_begun work (schedule work n) c k ≡ false
      → (length (kinds_applied work.plan (recorded_script work.plan begun recorded graph) c) ≤ k) ⊎ WaitsInVain work (with_script work (recorded_script work.plan begun recorded graph)) n c k
  left_out c k less not_begun =
      let kind = item_there (kinds_of work.plan c) k less in
      ⊎_elim
      (λ (out : length (kinds_applied work.plan script c) ≤ k). inl out)
      (λ (held : IsHeldUp work.plan steps script c k). inr (record {
        name = held.name;
        waits = held.waits;
        never = never_done held.place held.name held.stands held.holds;
      }))
      (has_steps.others c k kind.0 kind.1 (known.begins c k less ∙ not_begun))

  pub goes_with_graph : GoesAlike work (with_script work (recorded_script work.plan begun recorded graph)) n
  goes_with_graph = record {
    plan = refl;
    hooks = known.hooks;
    other_hooks = refl;
    some = known.some;
    few = known.steps.few;
    begun = begins_alike;
    left_out = left_out;
  }

  pub goes_again : (choices : Choices) (after early : List (List ℕ)) → choices.begins ≡ false → AreRecordedWaits (steps_of_plan begun recorded) (Some graph) choices after early
      → GoesAlike work (with_script work (recorded_script work.plan begun recorded after)) n
  goes_again choices after early begins are =
      subst (λ (lists : List (List ℕ)). GoesAlike work (with_script work (recorded_script work.plan begun recorded lists)) n)
      (sym (waits_again steps graph known.kept choices after early begins are)) goes_with_graph
