-- Each step of a run is known as it went.
use Rattle.std.proofs.Common.{◌≡◌, ◌∙◌, ◌+◌, ◌+ℤ◌, ℕ, ℤ, pos, Bool, true, false, List, [], ◌∷◌, ◌++◌, map, Option, Some, None, refl, sym, ap, ap₂}
use Rattle.std.specs.Prelude.{slice_get}
use Rattle.std.specs.List.{Contains, list_any}
use Rattle.std.proofs.Math.IntN.{+ℤ_assoc, pos-+ℤ-pos}
use Rattle.std.proofs.lemmas.List.{map-append}
use Rattle.std.proofs.lemmas.Option.{same_Some}
use Rattle.apply_model.specs.declared.plan.step_kind.StepKind.{StepKind}
use Rattle.apply_model.specs.Script.OutcomeMap.{outcome_of}
use Rattle.apply_events.specs.declared.event.Event.{Event}
use Rattle.apply_events.specs.declared.what.What.{What}
use Rattle.apply_events.specs.declared.what.What.TheVariants.{Start}
use Rattle.apply_events.specs.Step.{Step, Work, step_of}
use Rattle.apply_events.specs.StepEvents.{between as between_of, end_of, event, seconds_of}
use Rattle.apply_text.specs.Order.{hook_messages_of}
use Rattle.stream_record_steps.specs.declared.begun_step.BegunStep.{BegunStep}
use Rattle.stream_record_steps.specs.declared.step_facts.StepFact.{StepFact}
use Rattle.stream_record_steps.specs.Begun.{Begun, begun_at}
use Rattle.stream_record_steps.specs.Steps.{PlannedStep, planned_steps}
use Rattle.laws_run.specs.WaitingSteps as run
use Rattle.laws_begun.specs.Followed.{AreFollowed, IsKnown, IsKnownBy, fact_of, is_of_step, numbered, numbered_of_step, result_of, seconds_in, step_fact}
use Rattle.laws_begun.specs.Runs.{IsFollowable}
use Rattle.laws_begun.specs.Telling.{Telling}
use Rattle.laws_begun.specs.Went.{IsKnownAsItWent, WentWith, fact_after}
use Rattle.laws_begun.proofs.InTurn.{none_among}
use Rattle.laws_begun.proofs.KnownSteps.{events_in, heads, same_events}
use Rattle.laws_begun.proofs.Meant.{kinds_at}
use Rattle.laws_begun.proofs.Places.{is_planned}
use Rattle.laws_begun.proofs.WholeEvents.{last, middle, shown}
use Rattle.laws_begun.proofs.WholeRuns.{has_all, shown_all, shown_of}

-- ---- lists

nothing_ends : (ys : List Event) (y : Event) → [] ≡ ys ++ y ∷ [] → ⊥
nothing_ends [] y same = cc
nothing_ends (z ∷ ys) y same = cc

same_ends : (xs ys : List Event) (x y : Event) → xs ++ x ∷ [] ≡ ys ++ y ∷ [] → (xs ≡ ys) × (x ≡ y)
same_ends [] [] x y same = (refl, (heads x y [] [] same).0)
same_ends [] (z ∷ ys) x y same = absurd (nothing_ends ys y (heads x z [] (ys ++ y ∷ []) same).1)
same_ends (z ∷ xs) [] x y same = absurd (nothing_ends xs x (sym (heads z y (xs ++ x ∷ []) [] same).1))
same_ends (z ∷ xs) (w ∷ ys) x y same =
    let parts = heads z w (xs ++ x ∷ []) (ys ++ y ∷ []) same in
    let rest = same_ends xs ys x y parts.1 in
    (ap₂ (λ v vs. v ∷ vs) parts.0 rest.0, rest.1)

facts_in : (telling : Telling) (start : ℤ) (lines : List (ℕ × Event)) → map (λ (line : ℕ × Event). step_fact telling start line.1) lines ≡ map (step_fact telling start) (events_in lines)
facts_in telling start [] = refl
facts_in telling start (line ∷ lines) = ap (λ l. step_fact telling start line.1 ∷ l) (facts_in telling start lines)

-- ---- what lines of a step with these events make known

module _ (telling : Telling) (start : ℤ) where
  pub record IsKnownWith (kind : StepKind) (first : Event) (facts : List Event) (end : Event) (known : Option BegunStep) : Type 0 where
    pub begun : BegunStep
    pub is : known ≡ Some begun
    pub kind_is : begun.kind ≡ kind
    pub second : begun.second ≡ start +ℤ pos first.at
    pub facts_are : begun.facts ≡ map (step_fact telling start) facts
    pub line : ℕ
    pub ended : begun.end ≡ Some (record { line = line; seconds = seconds_in end.what; result = result_of telling end.change end.step end.what })

  known_step : (kind : StepKind) (first : Event) (facts : List Event) (end : Event) (lines : List (ℕ × Event)) (step : BegunStep) → IsKnown telling start kind lines step
      → events_in lines ≡ first ∷ (facts ++ end ∷ []) → IsKnownWith kind first facts end (Some step)
  known_step kind first facts end lines step known are =
      let told : known.began.1 ∷ (events_in known.facts ++ known.ended.1 ∷ []) ≡ first ∷ (facts ++ end ∷ []) =
      ap (λ l. known.began.1 ∷ l) (sym (map-append (λ (line : ℕ × Event). line.1) known.facts (known.ended ∷ []))) ∙ ap events_in (sym known.are) ∙ are in
      let parts = heads known.began.1 first (events_in known.facts ++ known.ended.1 ∷ []) (facts ++ end ∷ []) told in
      let rest = same_ends (events_in known.facts) facts known.ended.1 end parts.1 in record {
        begun = step;
        is = refl;
        kind_is = known.kind_is;
        second = known.second ∙ ap (λ (e : Event). start +ℤ pos e.at) parts.0;
        facts_are = known.facts_are ∙ facts_in telling start known.facts ∙ ap (map (step_fact telling start)) rest.0;
        line = known.ended.0;
        ended = known.end ∙ ap (λ (e : Event). Some (record { line = known.ended.0; seconds = seconds_in e.what; result = result_of telling e.change e.step e.what })) rest.1;
      }

  known_with : (kind : StepKind) (first : Event) (facts : List Event) (end : Event) (lines : List (ℕ × Event)) (known : Option BegunStep) → IsKnownBy telling start kind lines known
      → events_in lines ≡ first ∷ (facts ++ end ∷ []) → IsKnownWith kind first facts end known
  known_with kind first facts end [] known is are = absurd cc
  known_with kind first facts end (line ∷ lines) None is are = absurd is
  known_with kind first facts end (line ∷ lines) (Some step) is are = known_step kind first facts end (line ∷ lines) step is are

  not_known : (kind : StepKind) (lines : List (ℕ × Event)) (known : Option BegunStep) → IsKnownBy telling start kind lines known → events_in lines ≡ [] → known ≡ None
  not_known kind [] known is none = is
  not_known kind (line ∷ lines) known is none = absurd cc

  -- the facts of a step, by the second of its start
  facts_after : (lane : ℕ) (step : Step) (at : ℕ) (ones : List (ℕ × What)) → map (step_fact telling start) (map (λ p. event lane step (at + p.0) p.1) ones)
      ≡ map (fact_after telling step.change step.number (start +ℤ pos at)) ones
  facts_after lane step at [] = refl
  facts_after lane step at (one ∷ ones) =
      ap₂ (λ (second : ℤ) (rest : List StepFact). record { second = second; stated = fact_of telling step.change step.number one.1 } ∷ rest)
      (ap (λ z. start +ℤ z) (sym (pos-+ℤ-pos at one.0)) ∙ sym (+ℤ_assoc start (pos at) (pos one.0))) (facts_after lane step at ones)

end_seconds : (fails : Bool) (seconds : ℕ) → seconds_in (end_of fails seconds) ≡ seconds
end_seconds true seconds = refl
end_seconds false seconds = refl

module _ (work : Work) (events : List Event) (followable : IsFollowable work events) (wholes : run.AreWhole work events) (id : (change step : ℕ) → Option (List ℕ)) (start : ℤ) where
  abbrev told : Telling
  told = record { plan = work.plan; script = work.script; id = id }

  went : (step : PlannedStep) (known : BegunStep) (made : Step) (begin : ℕ) → made ≡ step_of work step.change_number step.number step.kind → known.kind ≡ step.kind
      → known.second ≡ start +ℤ pos begin → known.facts ≡ map (fact_after told made.change made.number (start +ℤ pos begin)) (between_of made) → (line : ℕ)
      → known.end ≡ Some (record { line = line; seconds = seconds_in (end_of made.fails (seconds_of made)); result = result_of told made.change made.number (end_of made.fails (seconds_of made)) })
      → WentWith told step (outcome_of work.script step.change_number step.number) known
  went step known made begin is kind second facts line end =
      let own = step_of work step.change_number step.number step.kind in record {
        kind = kind;
        facts = facts ∙ ap (λ (s : Step). map (fact_after told s.change s.number (start +ℤ pos begin)) (between_of s)) is
            ∙ ap (λ z. map (fact_after told step.change_number step.number z) (between_of own)) (sym second);
        line = line;
        end = end
            ∙ ap (λ (s : Step). Some (record { line = line; seconds = seconds_in (end_of s.fails (seconds_of s)); result = result_of told s.change s.number (end_of s.fails (seconds_of s)) })) is
            ∙ ap (λ n. Some (record { line = line; seconds = n; result = result_of told step.change_number step.number (end_of own.fails (seconds_of own)) })) (end_seconds own.fails (seconds_of own));
      }

  module _ (first : ℕ) (begun : Begun) (followed : AreFollowed (record { plan = work.plan; script = work.script; id = id }) start first (hook_messages_of events) begun)
      (step : PlannedStep) (has : Contains (planned_steps work.plan.changes) step) where
    abbrev lines : List (ℕ × Event)
    lines = numbered_of_step step.change_number step.number (numbered first (hook_messages_of events))

    known_here : (begins : Bool) → list_any (is_of_step step.change_number step.number) events ≡ begins → IsKnownAsItWent told step begins (begun_at begun.by_step step.place)
    known_here false none =
        not_known told start step.kind lines (begun_at begun.by_step step.place) (followed.steps step has)
        (same_events step.change_number step.number first (hook_messages_of events) ∙ shown_of work events followable wholes step.change_number step.number
        ∙ ap hook_messages_of (none_among step.change_number step.number events none))
    known_here true some =
        let all = has_all work events followable wholes step.change_number step.number some in
        let planned = is_planned work.plan.changes step has in
        let kind : all.kind ≡ step.kind = same_Some all.kind step.kind (sym all.kind_at
        ∙ ap (λ kinds. slice_get kinds step.number) (kinds_at work.plan step.change_number step.change planned.change_at) ∙ planned.kind_at) in
        let known = known_with told start step.kind (event all.lane all.step all.begin Start) (middle all.lane all.step all.begin) (last all.lane all.step all.begin)
        lines (begun_at begun.by_step step.place) (followed.steps step has)
        (same_events step.change_number step.number first (hook_messages_of events) ∙ shown_all work events followable wholes step.change_number step.number all
        ∙ shown all.lane all.step all.begin all.unhalted all.ends) in (
          known.begun,
          known.is,
          went step known.begun all.step all.begin (all.step_is ∙ ap (step_of work step.change_number step.number) kind) known.kind_is known.second
              (known.facts_are ∙ facts_after told start all.lane all.step all.begin (between_of all.step)) known.line known.ended,
        )

  pub as_it_went : (first : ℕ) (begun : Begun) → AreFollowed (record { plan = work.plan; script = work.script; id = id }) start first (hook_messages_of events) begun
      → (step : PlannedStep) → Contains (planned_steps work.plan.changes) step
      → IsKnownAsItWent (record { plan = work.plan; script = work.script; id = id }) step (run.has_events events (record { change = step.change_number; step = step.number })) (begun_at begun.by_step step.place)
  as_it_went first begun followed step has = known_here first begun followed step has (list_any (is_of_step step.change_number step.number) events) refl
