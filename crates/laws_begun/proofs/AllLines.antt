-- What all lines make of what is known of each step: it is made by the lines of the step alone.
use Rattle.std.proofs.Common.{◌≡◌, ◌∙◌, ◌+◌, ◌+ℤ◌, ◌<◌, ℕ, ℤ, pos, zero, suc, Bool, true, false, cond, eqb, List, [], ◌∷◌, ◌++◌, filter, length, map, Option, Some, None, refl, sym, ap, arith, append-nil, append_assoc, subst, ⊎_elim}
use Rattle.std.specs.Prelude.{slice_get}
use Rattle.std.specs.List.{Contains, cons_option, filter_map, find}
use Rattle.std.specs.Option.{option_map_or}
use Rattle.std.proofs.lemmas.Bool.{and_from, and_parts, cases_eq, eq-eqb, eqb-true, ne_eqb}
use Rattle.std.proofs.lemmas.List.Elements.{All-contains}
use Rattle.apply_model.specs.declared.plan.step_kind.StepKind.{StepKind}
use Rattle.apply_model.specs.Plan.ResourceChange.{ResourceChange}
use Rattle.apply_events.specs.declared.event.Event.{Event}
use Rattle.apply_events.specs.declared.what.What.{What}
use Rattle.apply_events.specs.Step.{kinds_of}
use Rattle.apply_events.proofs.Waits.Members.{in_head, in_tail}
use Rattle.stream_record_lines.specs.declared.event.Event.TheVariants as stated
use Rattle.stream_record_steps.specs.declared.begun_step.BegunStep.{BegunStep}
use Rattle.stream_record_steps.specs.Begun.{Begun, begun_at, none_begun}
use Rattle.stream_record_steps.specs.Steps.{PlannedStep, planned_steps}
use Rattle.laws_begun.specs.Followed.{AreApart, AreWhole, is_end, is_numbered, is_of_change, is_of_step, is_start, numbered, numbered_of_step, places_of}
use Rattle.laws_begun.specs.Telling.{Telling, after_events, after_stated, line_of, stated_of}
use Rattle.laws_begun.proofs.Goes.{Goes, first_after, goes_from_start, phase_at, second_after}
use Rattle.laws_begun.proofs.Meant.{below_two}
use Rattle.laws_begun.proofs.OneLine.{Changes, HavePhases, line_changes}
use Rattle.laws_begun.proofs.OwnLines.{bare, bare_phase, lines_after, own_after, own_phase}
use Rattle.laws_begun.proofs.Phases.{Phase, NotBegun, phase_after, phase_of}
use Rattle.laws_begun.proofs.Places.{IsNumbered, IsPlanned, is_planned, numbered_step, same_change, same_place}
use Rattle.laws_begun.proofs.Sought.{finds}

-- ---- phases

phase_moves : (first second : Phase) (k : ℕ) (what : What) → phase_at (first_after first k what) (second_after second k what) k ≡ phase_after (phase_at first second k) what
phase_moves first second zero what = refl
phase_moves first second (suc k) what = refl

phase_stays : (first second : Phase) (k n : ℕ) (what : What) → k < 2 → n < 2 → (n ≡ k → ⊥) → phase_at (first_after first k what) (second_after second k what) n ≡ phase_at first second n
phase_stays first second zero zero what few less apart = absurd (apart refl)
phase_stays first second zero (suc n) what few less apart = refl
phase_stays first second (suc k) zero what few less apart = refl
phase_stays first second (suc k) (suc n) what few less apart = absurd (apart (omega (arith, few, less)))

none_at : (planned : List PlannedStep) (place : ℕ) → begun_at (map (λ step. None) planned) place ≡ None
none_at [] place = refl
none_at (step ∷ planned) zero = refl
none_at (step ∷ planned) (suc place) = none_at planned place

pub nothing_known : (planned : List PlannedStep) (place : ℕ) → bare (begun_at (map (λ step. None) planned) place) ≡ None
nothing_known planned place = ap bare (none_at planned place)

none_begun_yet : (k : ℕ) → phase_at NotBegun NotBegun k ≡ NotBegun
none_begun_yet zero = refl
none_begun_yet (suc k) = refl

pub length_none : (planned : List PlannedStep) → length (map {B = Option BegunStep} (λ step. None) planned) ≡ length planned
length_none [] = refl
length_none (step ∷ planned) = ap suc (length_none planned)

-- ---- the step of an event

own_step : (changes : List ResourceChange) (c k : ℕ) (found : Option ResourceChange) → slice_get changes c ≡ found → k < length (option_map_or (λ (ch : ResourceChange). ch.steps) found [])
    → (step : PlannedStep) × IsNumbered changes c k step
own_step changes c k None at less = absurd (omega (arith, less))
own_step changes c k (Some change) at less =
    let kind = kind_of change.steps k less in
    numbered_step changes c k change kind.0 at kind.1
  where
    kind_of : (kinds : List StepKind) (n : ℕ) → n < length kinds → (kind : StepKind) × (slice_get kinds n ≡ Some kind)
    kind_of [] n less = absurd (omega (arith, less))
    kind_of (kind ∷ kinds) zero less = (kind, refl)
    kind_of (kind ∷ kinds) (suc n) less = kind_of kinds n (omega (arith, less))

-- ---- what is kept along the lines

-- what is known of the steps of a change fits what comes of it
pub record FollowsChange (telling : Telling) (by_step : List (Option BegunStep)) (c : ℕ) (events : List Event) : Type 0 where
  pub first : Phase
  pub second : Phase
  pub phases : HavePhases (planned_steps telling.plan.changes) by_step c first second
  pub goes : Goes telling.plan c first second (filter (is_of_change c) events)

pub record Follows (telling : Telling) (begun : Begun) (events : List Event) : Type 0 where
  pub planned : begun.planned ≡ planned_steps telling.plan.changes
  pub each : length begun.by_step ≡ length (planned_steps telling.plan.changes)
  pub known : (event : Event) → Contains events event → event.step < length (kinds_of telling.plan event.change)
  pub changes : (c : ℕ) → FollowsChange telling begun.by_step c events

pub follows_from_start : (telling : Telling) (events : List Event) → AreWhole telling.plan events → Follows telling (none_begun (planned_steps telling.plan.changes)) events
follows_from_start telling events whole = record {
  planned = refl;
  each = length_none (planned_steps telling.plan.changes);
  known = λ event has. All-contains (λ event. event.step < length (kinds_of telling.plan event.change)) events event whole.known has;
  changes = λ c. record {
    first = NotBegun;
    second = NotBegun;
    phases = λ step has of. ap phase_of (none_at (planned_steps telling.plan.changes) step.place) ∙ sym (none_begun_yet step.number);
    goes = goes_from_start telling.plan events whole c;
  };
}

module _ (telling : Telling) (start : ℤ) (apart : AreApart telling.plan) where
  stated_is : (own : PlannedStep) → IsPlanned telling.plan.changes own → (event : Event) → own.change_number ≡ event.change → own.number ≡ event.step
      → stated_of telling event ≡ line_of telling own.change own.kind event.change event.step event.what
  stated_is own planned event change number =
      ap (λ o. option_map_or (λ (ch : ResourceChange). option_map_or (λ kind. line_of telling ch kind event.change event.step event.what) (slice_get ch.steps event.step) stated.Other) o stated.Other)
      (ap (slice_get telling.plan.changes) (sym change) ∙ planned.change_at)
      ∙ ap (λ o. option_map_or (λ kind. line_of telling own.change kind event.change event.step event.what) o stated.Other) (ap (slice_get own.change.steps) (sym number) ∙ planned.kind_at)

  module _ (line : ℕ) (begun : Begun) (event : Event) (events : List Event) (follows : Follows telling begun (event ∷ events)) where
    -- what the line of the event changes
    abbrev OwnChanges : Begun → PlannedStep → Type 0
    OwnChanges new own = Changes begun new own.place (own_after telling start own.kind event.change event.step line event.at event.what (bare (begun_at begun.by_step own.place)))
        (is_start event.what) (is_end event.what)

    own : (step : PlannedStep) × IsNumbered telling.plan.changes event.change event.step step
    own = own_step telling.plan.changes event.change event.step (slice_get telling.plan.changes event.change) refl (follows.known event (in_head event events))

    taken_of : filter (is_of_change event.change) (event ∷ events) ≡ event ∷ filter (is_of_change event.change) events
    taken_of = ap (λ t. cond t (event ∷ filter (is_of_change event.change) events) (filter (is_of_change event.change) events)) (eq-eqb event.change event.change refl)

    own_changes : OwnChanges (after_stated line (start +ℤ pos event.at) (stated_of telling event) begun) own.0
    own_changes =
        let one = follows.changes event.change in
        let goes = subst (Goes telling.plan event.change one.first one.second) taken_of one.goes in
        subst (λ s. OwnChanges (after_stated line (start +ℤ pos event.at) s begun) own.0)
        (sym (stated_is own.0 (is_planned telling.plan.changes own.0 own.1.stands) event own.1.of_change own.1.of_number))
        (line_changes telling start begun own.0 event.change event.step line event.at apart follows.planned follows.each own.1 one.first one.second one.phases event.what goes.0)

    module _ (new : Begun) (changed : OwnChanges new own.0) where
      -- of a step at another place the same is known
      elsewhere : (step : PlannedStep) → (step.place ≡ own.0.place → ⊥) → phase_of (begun_at new.by_step step.place) ≡ phase_of (begun_at begun.by_step step.place)
      elsewhere step other = ap phase_of (changed.others step.place other)

      own_change : FollowsChange telling new.by_step event.change events
      own_change =
          let one = follows.changes event.change in
          let goes = subst (Goes telling.plan event.change one.first one.second) taken_of one.goes in record {
            first = first_after one.first event.step event.what;
            second = second_after one.second event.step event.what;
            phases = λ step has of. phases one.first one.second one.phases step has of;
            goes = goes.1;
          }
        where
          phases : (first second : Phase) → HavePhases (planned_steps telling.plan.changes) begun.by_step event.change first second → (step : PlannedStep)
              → Contains (planned_steps telling.plan.changes) step → step.change_number ≡ event.change
              → phase_of (begun_at new.by_step step.place) ≡ phase_at (first_after first event.step event.what) (second_after second event.step event.what) step.number
          phases first second old step has of =
              let here = is_planned telling.plan.changes own.0 own.1.stands in
              let there = is_planned telling.plan.changes step has in ⊎_elim
              (λ (same : step.number ≡ event.step).
              let place = same_place telling.plan.changes step own.0 there here (of ∙ sym own.1.of_change) (same ∙ sym own.1.of_number) in
              ap (λ p. phase_of (begun_at new.by_step p)) place
              ∙ sym (bare_phase (begun_at new.by_step own.0.place)) ∙ ap phase_of changed.here
              ∙ own_phase telling start own.0.kind event.change event.step line event.at event.what (bare (begun_at begun.by_step own.0.place))
              ∙ ap (λ p. phase_after p event.what) (bare_phase (begun_at begun.by_step own.0.place) ∙ old own.0 own.1.stands own.1.of_change ∙ ap (phase_at first second) own.1.of_number)
              ∙ sym (phase_moves first second event.step event.what)
              ∙ ap (phase_at (first_after first event.step event.what) (second_after second event.step event.what)) (sym same))
              (λ (differs : step.number ≡ event.step → ⊥).
              elsewhere step (λ place. differs (ap (λ (s : PlannedStep). s.number) (same_change telling.plan.changes step own.0 has own.1.stands place) ∙ own.1.of_number))
              ∙ old step has of
              ∙ sym (phase_stays first second event.step step.number event.what (subst (λ n. n < 2) own.1.of_number (below_two telling.plan apart own.0 here)) (below_two telling.plan apart step there) differs))
              (cases_eq step.number event.step)

      other_change : (c : ℕ) → (event.change ≡ c → ⊥) → FollowsChange telling new.by_step c events
      other_change c differs =
          let one = follows.changes c in
          let left : filter (is_of_change c) (event ∷ events) ≡ filter (is_of_change c) events =
          ap (λ t. cond t (event ∷ filter (is_of_change c) events) (filter (is_of_change c) events)) (ne_eqb event.change c differs) in record {
            first = one.first;
            second = one.second;
            phases = λ step has of.
                elsewhere step (λ place. differs (sym own.1.of_change ∙ ap (λ (s : PlannedStep). s.change_number) (sym (same_change telling.plan.changes step own.0 has own.1.stands place)) ∙ of))
                ∙ one.phases step has of;
            goes = subst (Goes telling.plan c one.first one.second) left one.goes;
          }

      next_follows : Follows telling new events
      next_follows = record {
        planned = changed.planned ∙ follows.planned;
        each = changed.each ∙ follows.each;
        known = λ other has. follows.known other (in_tail event events other has);
        changes = λ c. ⊎_elim
            (λ (same : event.change ≡ c). subst (λ d. FollowsChange telling new.by_step d events) same own_change)
            (λ (differs : event.change ≡ c → ⊥). other_change c differs)
            (cases_eq event.change c);
      }

  -- ---- places

  module _ (event : Event) (events : List Event) (step : PlannedStep) (own : IsNumbered telling.plan.changes event.change event.step step) where
    one_place : places_of telling.plan (event ∷ events) ≡ step.place ∷ places_of telling.plan events
    one_place =
        let found = finds (is_numbered event.change event.step) (planned_steps telling.plan.changes) step own.stands
        (and_from (eqb step.change_number event.change) (eqb step.number event.step) (eq-eqb step.change_number event.change own.of_change) (eq-eqb step.number event.step own.of_number)) in
        let both = and_parts (eqb found.0.change_number event.change) (eqb found.0.number event.step) found.2.1 in
        let place = same_place telling.plan.changes found.0 step (is_planned telling.plan.changes found.0 found.2.0) (is_planned telling.plan.changes step own.stands)
        (eqb-true found.0.change_number event.change both.0 ∙ sym own.of_change) (eqb-true found.0.number event.step both.1 ∙ sym own.of_number) in
        ap (λ o. map (λ (s : PlannedStep). s.place) (cons_option o (filter_map (λ (e : Event). find (is_numbered e.change e.step) (planned_steps telling.plan.changes)) events))) found.1
        ∙ ap (λ p. p ∷ places_of telling.plan events) place

  more_places : (test : What → Bool) (event : Event) (events : List Event) (step : PlannedStep) → IsNumbered telling.plan.changes event.change event.step step
      → (old middle new : List ℕ) → middle ≡ old ++ cond (test event.what) (step.place ∷ []) [] → new ≡ middle ++ places_of telling.plan (filter (λ e. test e.what) events)
      → new ≡ old ++ places_of telling.plan (filter (λ e. test e.what) (event ∷ events))
  more_places test event events step own old middle new one rest =
      let later = filter (λ (e : Event). test e.what) events in
      rest ∙ ap (λ l. l ++ places_of telling.plan later) one ∙ append_assoc old (cond (test event.what) (step.place ∷ []) []) (places_of telling.plan later)
      ∙ ap (λ l. old ++ l) (either (test event.what))
    where
      either : (t : Bool) → cond t (step.place ∷ []) [] ++ places_of telling.plan (filter (λ (e : Event). test e.what) events)
          ≡ places_of telling.plan (cond t (event ∷ filter (λ (e : Event). test e.what) events) (filter (λ (e : Event). test e.what) events))
      either true = sym (one_place event (filter (λ (e : Event). test e.what) events) step own)
      either false = refl

  -- ---- all lines

  pub record AfterAll (line : ℕ) (events : List Event) (old new : Begun) : Type 0 where
    pub planned : new.planned ≡ old.planned
    pub each : length new.by_step ≡ length old.by_step
    pub steps : (step : PlannedStep) → Contains (planned_steps telling.plan.changes) step → bare (begun_at new.by_step step.place)
        ≡ lines_after telling start step.kind (numbered_of_step step.change_number step.number (numbered line events)) (bare (begun_at old.by_step step.place))
    pub begins : new.begins ≡ old.begins ++ places_of telling.plan (filter (λ event. is_start event.what) events)
    pub ends : new.ends ≡ old.ends ++ places_of telling.plan (filter (λ event. is_end event.what) events)
    pub strays : new.strays ≡ old.strays
    pub odd : new.odd ≡ old.odd

  one_and_rest : (line : ℕ) (begun middle new : Begun) (event : Event) (events : List Event) (own : PlannedStep) → IsNumbered telling.plan.changes event.change event.step own
      → Changes begun middle own.place (own_after telling start own.kind event.change event.step line event.at event.what (bare (begun_at begun.by_step own.place))) (is_start event.what) (is_end event.what)
      → AfterAll (line + 1) events middle new → AfterAll line (event ∷ events) begun new
  one_and_rest line begun middle new event events own is one rest = record {
    planned = rest.planned ∙ one.planned;
    each = rest.each ∙ one.each;
    steps = λ step has. rest.steps step has ∙ either step has (is_of_step step.change_number step.number event) refl;
    begins = more_places is_start event events own is begun.begins middle.begins new.begins one.begins rest.begins;
    ends = more_places is_end event events own is begun.ends middle.ends new.ends one.ends rest.ends;
    strays = rest.strays ∙ one.strays;
    odd = rest.odd ∙ one.odd;
  }
    where
      later : PlannedStep → List (ℕ × Event)
      later step = numbered_of_step step.change_number step.number (numbered (line + 1) events)

      either : (step : PlannedStep) → Contains (planned_steps telling.plan.changes) step → (t : Bool) → is_of_step step.change_number step.number event ≡ t
          → lines_after telling start step.kind (numbered_of_step step.change_number step.number (numbered (line + 1) events)) (bare (begun_at middle.by_step step.place))
          ≡ lines_after telling start step.kind (cond t ((line, event) ∷ numbered_of_step step.change_number step.number (numbered (line + 1) events))
          (numbered_of_step step.change_number step.number (numbered (line + 1) events))) (bare (begun_at begun.by_step step.place))
      either step has true tested =
          let both = and_parts (eqb event.change step.change_number) (eqb event.step step.number) tested in
          let place = same_place telling.plan.changes own step (is_planned telling.plan.changes own is.stands) (is_planned telling.plan.changes step has)
          (is.of_change ∙ eqb-true event.change step.change_number both.0) (is.of_number ∙ eqb-true event.step step.number both.1) in
          let same = same_change telling.plan.changes own step is.stands has place in
          ap (lines_after telling start step.kind (later step))
          (subst (λ (s : PlannedStep). bare (begun_at middle.by_step s.place) ≡ own_after telling start s.kind event.change event.step line event.at event.what (bare (begun_at begun.by_step s.place))) same one.here)
      either step has false tested =
          ap (λ o. lines_after telling start step.kind (later step) (bare o)) (one.others step.place (λ place.
          let same = same_change telling.plan.changes own step is.stands has (sym place) in
          let yes = and_from (eqb event.change step.change_number) (eqb event.step step.number)
          (eq-eqb event.change step.change_number (sym is.of_change ∙ ap (λ (s : PlannedStep). s.change_number) same))
          (eq-eqb event.step step.number (sym is.of_number ∙ ap (λ (s : PlannedStep). s.number) same)) in
          let both : true ≡ false = sym yes ∙ tested in cc))

  pub all_lines : (events : List Event) (line : ℕ) (begun : Begun) → Follows telling begun events → AfterAll line events begun (after_events telling start line events begun)
  all_lines [] line begun follows = record {
    planned = refl;
    each = refl;
    steps = λ step has. refl;
    begins = sym (append-nil begun.begins);
    ends = sym (append-nil begun.ends);
    strays = refl;
    odd = refl;
  }
  all_lines (event ∷ events) line begun follows =
      let new = after_stated line (start +ℤ pos event.at) (stated_of telling event) begun in
      let step = own line begun event events follows in
      let one = own_changes line begun event events follows in
      one_and_rest line begun new (after_events telling start (line + 1) events new) event events step.0 step.1 one
      (all_lines events (line + 1) new (next_follows line begun event events follows new one))
