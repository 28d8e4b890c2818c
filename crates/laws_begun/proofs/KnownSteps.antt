-- What the lines of a whole step make known of it.
use Rattle.std.proofs.Common.{◌≡◌, ◌∙◌, ◌+◌, ◌+ℤ◌, ℕ, ℤ, pos, Bool, true, false, cond, List, [], ◌∷◌, ◌++◌, map, Option, None, Some, refl, sym, ap, append-nil, append_assoc, subst}
use Rattle.std.specs.Prelude.{All}
use Rattle.std.proofs.lemmas.List.Elements.{All-head, All-tail}
use Rattle.std.proofs.lemmas.Option.{same_Some}
use Rattle.apply_model.specs.declared.plan.step_kind.StepKind.{StepKind}
use Rattle.apply_events.specs.declared.event.Event.{Event}
use Rattle.apply_events.specs.declared.what.What.{What}
use Rattle.apply_events.specs.declared.what.What.TheVariants.{Start, Progress, Complete, Errored, ProvisionStart, ProvisionOutput, ProvisionComplete, ProvisionErrored}
use Rattle.stream_record_steps.specs.declared.begun_step.BegunStep.{BegunStep}
use Rattle.stream_record_steps.specs.declared.step_facts.StepFact.{StepFact}
use Rattle.stream_record_steps.specs.Starts.{first_known}
use Rattle.stream_record_steps.specs.UnderWay.{ended, plus_fact}
use Rattle.laws_begun.specs.Followed.{IsKnown, IsKnownBy, IsWhole, IsWholeOrNone, events_of_step, is_end, is_fact, is_of_step, numbered, numbered_of_step, step_fact}
use Rattle.laws_begun.specs.Telling.{Telling}
use Rattle.laws_begun.proofs.OwnLines.{bare, bare_step, lines_after, own_after, own_end, own_fact}

-- ---- the lines of a whole step

-- the events of lines
abbrev pub events_in : List (ℕ × Event) → List Event
events_in lines = map (λ (line : ℕ × Event). line.1) lines

pub same_events : (c k line : ℕ) (events : List Event) → events_in (numbered_of_step c k (numbered line events)) ≡ events_of_step c k events
same_events c k line [] = refl
same_events c k line (event ∷ events) =
    either (is_of_step c k event) (same_events c k (line + 1) events)
  where
    either : (t : Bool) → events_in (numbered_of_step c k (numbered (line + 1) events)) ≡ events_of_step c k events
        → events_in (cond t ((line, event) ∷ numbered_of_step c k (numbered (line + 1) events)) (numbered_of_step c k (numbered (line + 1) events)))
        ≡ cond t (event ∷ events_of_step c k events) (events_of_step c k events)
    either true rest = ap (λ l. event ∷ l) rest
    either false rest = rest

-- the lines of the events before the last one, and that of the last
record IsSplit (lines : List (ℕ × Event)) (facts : List Event) (end : Event) : Type 0 where
  before : List (ℕ × Event)
  last : ℕ × Event
  are : lines ≡ before ++ last ∷ []
  before_are : events_in before ≡ facts
  last_is : last.1 ≡ end

pub heads : {X : Type 0} (x y : X) (xs ys : List X) → x ∷ xs ≡ y ∷ ys → (x ≡ y) × (xs ≡ ys)
heads x y xs ys same = (cc, cc)

split : (lines : List (ℕ × Event)) (facts : List Event) (end : Event) → events_in lines ≡ facts ++ end ∷ [] → IsSplit lines facts end
split [] [] end same = absurd cc
split [] (fact ∷ facts) end same = absurd cc
split (line ∷ lines) [] end same =
    let parts = heads line.1 end (events_in lines) [] same in
    record { before = []; last = line; are = ap (λ l. line ∷ l) (none lines parts.1); before_are = refl; last_is = parts.0 }
  where
    none : (rest : List (ℕ × Event)) → events_in rest ≡ [] → rest ≡ []
    none [] is = refl
    none (one ∷ rest) is = absurd cc
split (line ∷ lines) (fact ∷ facts) end same =
    let parts = heads line.1 fact (events_in lines) (facts ++ end ∷ []) same in
    let rest = split lines facts end parts.1 in record {
      before = line ∷ rest.before;
      last = rest.last;
      are = ap (λ l. line ∷ l) rest.are;
      before_are = ap (λ l. line.1 ∷ l) rest.before_are ∙ ap (λ e. e ∷ facts) parts.0;
      last_is = rest.last_is;
    }

module _ (telling : Telling) (start : ℤ) (kind : StepKind) where
  fact_known : (c k line at : ℕ) (what : What) (step : BegunStep) → is_fact what ≡ true → own_after telling start kind c k line at what (Some step) ≡ Some (plus_fact (own_fact telling start c k at what) step)
  fact_known c k line at (Progress seconds) step is = refl
  fact_known c k line at (ProvisionStart i) step is = refl
  fact_known c k line at (ProvisionOutput i output) step is = refl
  fact_known c k line at (ProvisionComplete i) step is = refl
  fact_known c k line at (ProvisionErrored i) step is = refl
  fact_known c k line at _ step is = absurd cc

  end_known : (c k line at : ℕ) (what : What) (step : BegunStep) → is_end what ≡ true → own_after telling start kind c k line at what (Some step) ≡ Some (ended (own_end telling start c k line what) step)
  end_known c k line at (Complete seconds) step is = refl
  end_known c k line at (Errored seconds) step is = refl
  end_known c k line at _ step is = absurd cc

  abbrev facts_of : List (ℕ × Event) → List StepFact
  facts_of lines = map (λ (line : ℕ × Event). step_fact telling start line.1) lines

  facts_known : (lines rest : List (ℕ × Event)) (step : BegunStep) → All (λ event. is_fact event.what ≡ true) (events_in lines)
      → lines_after telling start kind (lines ++ rest) (Some step) ≡ lines_after telling start kind rest (Some (record step { facts = step.facts ++ facts_of lines }))
  facts_known [] rest step all = ap (λ f. lines_after telling start kind rest (Some (record step { facts = f }))) (sym (append-nil step.facts))
  facts_known (line ∷ lines) rest step all =
      let is = All-head (λ event. is_fact event.what ≡ true) line.1 (events_in lines) all in
      let more = plus_fact (step_fact telling start line.1) step in
      ap (lines_after telling start kind (lines ++ rest)) (fact_known line.1.change line.1.step line.0 line.1.at line.1.what step is)
      ∙ facts_known lines rest more (All-tail (λ event. is_fact event.what ≡ true) line.1 (events_in lines) all)
      ∙ ap (λ f. lines_after telling start kind rest (Some (record step { facts = f }))) (append_assoc step.facts (step_fact telling start line.1 ∷ []) (facts_of lines))

  -- what is known in the end, but for the line before the start
  abbrev whole_step : (began : ℕ × Event) → (facts : List (ℕ × Event)) → (last : ℕ × Event) → BegunStep
  whole_step began facts last = record (first_known began.0 (start +ℤ pos began.1.at) kind None) {
    facts = facts_of facts;
    end = Some (own_end telling start last.1.change last.1.step last.0 last.1.what);
  }

  whole_known : (began : ℕ × Event) (facts : List (ℕ × Event)) (last : ℕ × Event) → began.1.what ≡ Start → All (λ event. is_fact event.what ≡ true) (events_in facts) → is_end last.1.what ≡ true
      → lines_after telling start kind (began ∷ (facts ++ last ∷ [])) None ≡ Some (whole_step began facts last)
  whole_known began facts last starts all ends =
      let first = first_known began.0 (start +ℤ pos began.1.at) kind None in
      ap (λ what. lines_after telling start kind (facts ++ last ∷ []) (own_after telling start kind began.1.change began.1.step began.0 began.1.at what None)) starts
      ∙ facts_known facts (last ∷ []) first all
      ∙ end_known last.1.change last.1.step last.0 last.1.at last.1.what (record first { facts = facts_of facts }) ends

  known_of : (began : ℕ × Event) (facts : List (ℕ × Event)) (last : ℕ × Event) (lines : List (ℕ × Event)) (step : BegunStep) → lines ≡ began ∷ (facts ++ last ∷ [])
      → bare_step step ≡ whole_step began facts last → IsKnown telling start kind lines step
  known_of began facts last lines step are same = record {
    began = began;
    facts = facts;
    ended = last;
    are = are;
    kind_is = ap (λ (s : BegunStep). s.kind) same;
    line = ap (λ (s : BegunStep). s.line) same;
    second = ap (λ (s : BegunStep). s.second) same;
    facts_are = ap (λ (s : BegunStep). s.facts) same;
    end = ap (λ (s : BegunStep). s.end) same;
  }

  known_by_whole : (line : ℕ × Event) (lines : List (ℕ × Event)) (known : Option BegunStep) → IsWhole (events_in (line ∷ lines)) → bare known ≡ lines_after telling start kind (line ∷ lines) None
      → IsKnownBy telling start kind (line ∷ lines) known
  known_by_whole line lines known whole is =
      let parts = heads line.1 whole.start (events_in lines) (whole.facts ++ whole.end ∷ []) whole.are in
      let rest = split lines whole.facts whole.end parts.1 in
      let are = ap (λ l. line ∷ l) rest.are in
      of rest.before rest.last known are (is ∙ ap (λ l. lines_after telling start kind l None) are
      ∙ whole_known line rest.before rest.last (ap (λ (e : Event). e.what) parts.0 ∙ whole.starts)
      (subst (All (λ event. is_fact event.what ≡ true)) (sym rest.before_are) whole.are_facts)
      (ap (λ (e : Event). is_end e.what) rest.last_is ∙ whole.ends))
    where
      of : (facts : List (ℕ × Event)) (last : ℕ × Event) (o : Option BegunStep) → line ∷ lines ≡ line ∷ (facts ++ last ∷ []) → bare o ≡ Some (whole_step line facts last)
          → IsKnownBy telling start kind (line ∷ lines) o
      of facts last None are same = absurd cc
      of facts last (Some step) are same = known_of line facts last (line ∷ lines) step are (same_Some (bare_step step) (whole_step line facts last) same)

  pub known_by : (lines : List (ℕ × Event)) (known : Option BegunStep) → IsWholeOrNone (events_in lines) → bare known ≡ lines_after telling start kind lines None → IsKnownBy telling start kind lines known
  known_by [] None whole is = refl
  known_by [] (Some step) whole is = absurd cc
  known_by (line ∷ lines) known whole is = known_by_whole line lines known whole is
