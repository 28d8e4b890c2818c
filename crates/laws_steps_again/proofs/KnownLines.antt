-- What is known of a step by the lines of its events.
use Rattle.std.proofs.Common.{◌≡◌, ◌∙◌, ◌+◌, ℕ, ℤ, pos, ◌+ℤ◌, Bool, true, false, List, [], ◌∷◌, ◌++◌, map, Option, Some, None, refl, sym, ap, ap₂, arith}
use Rattle.std.proofs.lemmas.Int.{ints}
use Rattle.std.proofs.lemmas.List.{map-append}
use Rattle.apply_model.specs.declared.plan.step_kind.StepKind.{StepKind}
use Rattle.apply_model.specs.Script.OutcomeMap.{outcome_of}
use Rattle.apply_events.specs.declared.event.Event.{Event}
use Rattle.apply_events.specs.declared.what.What.{What}
use Rattle.apply_events.specs.declared.what.What.TheVariants.{Start, Progress, Complete, Errored, ErrorNote, WarnNote, Halted, ProvisionStart, ProvisionOutput, ProvisionComplete, ProvisionErrored}
use Rattle.apply_events.specs.Step.{Step}
use Rattle.apply_events.specs.StepEvents.{between, end_of, event, seconds_of}
use Rattle.stream_record_steps.specs.declared.begun_step.BegunStep.{BegunStep}
use Rattle.stream_record_steps.specs.declared.begun_step.EndResult.{EndResult}
use Rattle.stream_record_steps.specs.declared.begun_step.StepEnd.{StepEnd}
use Rattle.stream_record_steps.specs.declared.step_facts.StepFact.{StepFact}
use Rattle.laws_begun.specs.Followed as followed
use Rattle.laws_begun.specs.Followed.{IsKnown, IsKnownBy}
use Rattle.laws_begun.specs.Telling.{Telling}
use Rattle.laws_begun.proofs.KnownSteps.{events_in}
use Rattle.laws_outcomes.specs.Told as told

-- ---- lists

heads : {X : Type 0} (x y : X) (xs ys : List X) → x ∷ xs ≡ y ∷ ys → (x ≡ y) × (xs ≡ ys)
heads x y xs ys same = (cc, cc)

lasts : {X : Type 0} (xs ys : List X) (x y : X) → xs ++ x ∷ [] ≡ ys ++ y ∷ [] → (xs ≡ ys) × (x ≡ y)
lasts [] [] x y same = (refl, (heads x y [] [] same).0)
lasts [] (z ∷ []) x y same = absurd cc
lasts [] (z ∷ (other ∷ ys)) x y same = absurd cc
lasts (z ∷ []) [] x y same = absurd cc
lasts (z ∷ (other ∷ xs)) [] x y same = absurd cc
lasts (z ∷ xs) (other ∷ ys) x y same =
    let parts = heads z other (xs ++ x ∷ []) (ys ++ y ∷ []) same in
    let rest = lasts xs ys x y parts.1 in
    (ap₂ (λ a l. a ∷ l) parts.0 rest.0, rest.1)

-- ---- a step with lines

module _ (telling : Telling) (start : ℤ) (kind : StepKind) where
  pub known_if : (lines : List (ℕ × Event)) (known : Option BegunStep) (first : Event) (rest : List Event) → events_in lines ≡ first ∷ rest → IsKnownBy telling start kind lines known
      → (step : BegunStep) × (known ≡ Some step) × IsKnown telling start kind lines step
  known_if [] known first rest are by = absurd cc
  known_if (line ∷ lines) None first rest are by = absurd by
  known_if (line ∷ lines) (Some step) first rest are by = (step, refl, by)

  pub none_if : (lines : List (ℕ × Event)) (known : Option BegunStep) → events_in lines ≡ [] → IsKnownBy telling start kind lines known → known ≡ None
  none_if [] known are by = by
  none_if (line ∷ lines) known are by = absurd cc

-- ---- the events of the lines

-- the lines are those of a start, of facts and of an end
pub record AreLines (telling : Telling) (start : ℤ) (kind : StepKind) (lines : List (ℕ × Event)) (known : BegunStep) (first : Event) (facts : List Event) (last : Event) : Type 0 where
  pub is : IsKnown telling start kind lines known
  pub first_is : is.began.1 ≡ first
  pub facts_are : events_in is.facts ≡ facts
  pub last_is : is.ended.1 ≡ last

pub are_lines : (telling : Telling) (start : ℤ) (kind : StepKind) (lines : List (ℕ × Event)) (known : BegunStep) (first : Event) (facts : List Event) (last : Event)
    → events_in lines ≡ first ∷ (facts ++ last ∷ []) → IsKnown telling start kind lines known → AreLines telling start kind lines known first facts last
are_lines telling start kind lines known first facts last are is =
    let all : is.began.1 ∷ (events_in is.facts ++ is.ended.1 ∷ []) ≡ first ∷ (facts ++ last ∷ []) =
    ap (λ l. is.began.1 ∷ l) (sym (map-append (λ (line : ℕ × Event). line.1) is.facts (is.ended ∷ []))) ∙ sym (ap events_in is.are) ∙ are in
    let parts = heads is.began.1 first (events_in is.facts ++ is.ended.1 ∷ []) (facts ++ last ∷ []) all in
    let both = lasts (events_in is.facts) facts is.ended.1 last parts.1 in
    record { is = is; first_is = parts.0; facts_are = both.0; last_is = both.1 }

-- ---- the facts

same_fact : (telling : Telling) (c k : ℕ) (what : What) → followed.fact_of telling c k what ≡ told.fact_of (outcome_of telling.script c k) what
same_fact telling c k Start = refl
same_fact telling c k (Progress seconds) = refl
same_fact telling c k (Complete seconds) = refl
same_fact telling c k (Errored seconds) = refl
same_fact telling c k ErrorNote = refl
same_fact telling c k WarnNote = refl
same_fact telling c k (Halted phase hook) = refl
same_fact telling c k (ProvisionStart i) = refl
same_fact telling c k (ProvisionOutput i line) = refl
same_fact telling c k (ProvisionComplete i) = refl
same_fact telling c k (ProvisionErrored i) = refl

later : (start : ℤ) (begin after : ℕ) → start +ℤ pos (begin + after) ≡ (start +ℤ pos begin) +ℤ pos after
later start begin after = omega (arith, ints)

module _ (telling : Telling) (start : ℤ) where
  facts_in : (lines : List (ℕ × Event)) → map (λ (line : ℕ × Event). followed.step_fact telling start line.1) lines ≡ map (followed.step_fact telling start) (events_in lines)
  facts_in [] = refl
  facts_in (line ∷ lines) = ap (λ l. followed.step_fact telling start line.1 ∷ l) (facts_in lines)

  module _ (lane : ℕ) (step : Step) (begin : ℕ) where
    facts_told : (ps : List (ℕ × What)) → map (followed.step_fact telling start) (map (λ p. event lane step (begin + p.0) p.1) ps)
        ≡ map (told.step_fact (start +ℤ pos begin) (outcome_of telling.script step.change step.number)) ps
    facts_told [] = refl
    facts_told (p ∷ ps) =
        ap₂ (λ (second : ℤ) (l : List StepFact). let one : StepFact = record { second = second; stated = followed.fact_of telling step.change step.number p.1 } in one ∷ l)
        (later start begin p.0) (facts_told ps)
        ∙ ap (λ stated. let one : StepFact = record { second = (start +ℤ pos begin) +ℤ pos p.0; stated = stated } in one
        ∷ map (told.step_fact (start +ℤ pos begin) (outcome_of telling.script step.change step.number)) ps)
        (same_fact telling step.change step.number p.1)

-- ---- the end

pub seconds_at : (failed : Bool) (seconds : ℕ) → followed.seconds_in (end_of failed seconds) ≡ seconds
seconds_at true seconds = refl
seconds_at false seconds = refl

pub result_at : (telling : Telling) (c k : ℕ) (failed : Bool) (seconds : ℕ) → followed.result_of telling c k (end_of failed seconds) ≡ told.result_of failed (telling.id c k)
result_at telling c k true seconds = refl
result_at telling c k false seconds = refl

-- ---- all that is known

pub record IsKnownStep (telling : Telling) (start : ℤ) (kind : StepKind) (step : Step) (failed : Bool) (known : BegunStep) (end_line : ℕ) : Type 0 where
  pub kind_is : known.kind ≡ kind
  pub facts_are : known.facts ≡ map (told.step_fact known.second (outcome_of telling.script step.change step.number)) (between step)
  pub end_is : known.end ≡ Some (record { line = end_line; seconds = seconds_of step; result = told.result_of failed (telling.id step.change step.number) })

pub known_step : (telling : Telling) (start : ℤ) (kind : StepKind) (lines : List (ℕ × Event)) (known : BegunStep) (lane : ℕ) (step : Step) (begin : ℕ) (failed : Bool)
    → (are : AreLines telling start kind lines known (event lane step begin Start) (map (λ p. event lane step (begin + p.0) p.1) (between step)) (event lane step (begin + seconds_of step) (end_of failed (seconds_of step))))
    → IsKnownStep telling start kind step failed known are.is.ended.0
known_step telling start kind lines known lane step begin failed are =
    let second : known.second ≡ start +ℤ pos begin = are.is.second ∙ ap (λ (e : Event). start +ℤ pos e.at) are.first_is in record {
      kind_is = are.is.kind_is;
      facts_are = are.is.facts_are ∙ facts_in telling start are.is.facts ∙ ap (map (followed.step_fact telling start)) are.facts_are
          ∙ facts_told telling start lane step begin (between step)
          ∙ ap (λ (s : ℤ). map (told.step_fact s (outcome_of telling.script step.change step.number)) (between step)) (sym second);
      end_is = are.is.end
          ∙ ap (λ (e : Event). let end : StepEnd = record { line = are.is.ended.0; seconds = followed.seconds_in e.what; result = followed.result_of telling e.change e.step e.what } in Some end) are.last_is
          ∙ ap₂ (λ (s : ℕ) (r : EndResult). let end : StepEnd = record { line = are.is.ended.0; seconds = s; result = r } in Some end)
          (seconds_at failed (seconds_of step)) (result_at telling step.change step.number failed (seconds_of step));
    }
