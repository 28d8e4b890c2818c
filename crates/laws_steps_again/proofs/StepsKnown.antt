-- What `record` knows of each step of a run of our own.
use Rattle.std.proofs.Common.{◌≡◌, ◌∙◌, ◌+◌, ◌<◌, ℕ, ℤ, Bool, true, false, ◌&&◌, ◌||◌, eqb, not, List, [], ◌∷◌, ◌++◌, map, Option, Some, None, is_none, is_some, length, refl, sym, ap}
use Rattle.std.specs.Prelude.{All, slice_get}
use Rattle.std.specs.List.{AllByRecursion, list_any}
use Rattle.std.proofs.lemmas.List.Elements.{All-cons, All-nil}
use Rattle.apply_model.specs.declared.details.note.Note.{Note}
use Rattle.apply_model.specs.declared.plan.step_kind.StepKind.{StepKind}
use Rattle.apply_model.specs.declared.plan.step_kind.StepKind.TheVariants.{Create, Delete}
use Rattle.apply_model.specs.declared.script.outcome.Outcome.{Outcome}
use Rattle.apply_model.specs.declared.script.provisioner.Provisioner.{Provisioner}
use Rattle.apply_model.specs.Plan.ResourceChange.{ResourceChange}
use Rattle.apply_model.specs.Plan.StepKind.{is_kind}
use Rattle.apply_model.specs.Script.Outcome.{are_in_time, fails, first_diag, is_failed, is_warned, makes_fail, ran, seconds_before, took}
use Rattle.apply_model.specs.Script.OutcomeMap.{outcome_of}
use Rattle.apply_events.specs.declared.event.Event.{Event}
use Rattle.apply_events.specs.declared.what.What.TheVariants.{Start}
use Rattle.apply_events.specs.Step.{Work, kinds_of, step_of}
use Rattle.apply_events.specs.StepEvents.{between, end_of, event, seconds_of}
use Rattle.apply_events.specs.Waits.Schedule.{schedule}
use Rattle.apply_text.specs.Order.{hook_messages_of}
use Rattle.stream_record_steps.specs.declared.begun_step.BegunStep.{BegunStep}
use Rattle.stream_record_steps.specs.Begun.{Begun, begun_at}
use Rattle.stream_record_outcomes.specs.declared.last_provisioner.LastProvisioner.TheVariants.{Absent}
use Rattle.stream_record_outcomes.specs.Outcome.{IsAllowed}
use Rattle.stream_record_outcomes.specs.Provisioners.{fails_its_step, last_provisioner}
use Rattle.laws_lanes.specs.Alike.{is_begun}
use Rattle.laws_begun.specs.Followed.{AreFollowed, numbered, numbered_of_step}
use Rattle.laws_begun.specs.Telling.{Telling}
use Rattle.laws_begun.proofs.KnownSteps.{same_events}
use Rattle.laws_outcomes.specs.Told as told
use Rattle.laws_outcomes.proofs.Last.{last_fails, last_is, last_of}
use Rattle.laws_outcomes.proofs.Provisioners.{diag_if}
use Rattle.laws_scripts.specs.Outcomes.{IsInOrder, IsOfStep}
use Rattle.laws_steps_again.specs.Own.{IsOwn}
use Rattle.laws_waits.specs.Places.{place_of}
use Rattle.laws_steps_again.specs.Places.{step_of_plan}
use Rattle.laws_steps_again.proofs.KnownLines.{AreLines, IsKnownStep, are_lines, known_if, known_step, none_if}
use Rattle.laws_steps_again.proofs.Planned.{IsInPlan, in_plan}
use Rattle.laws_steps_again.proofs.WholeSteps.{HasEvents, has_events, has_none}

-- ---- outcomes that a run takes

in_time_all : (ps : List Provisioner) → AllByRecursion IsInOrder ps → All (λ p. are_in_time 0 p.seconds p.output ≡ true) ps
in_time_all [] all = All-nil (λ (p : Provisioner). are_in_time 0 p.seconds p.output ≡ true)
in_time_all (p ∷ ps) all = All-cons (λ (p : Provisioner). are_in_time 0 p.seconds p.output ≡ true) p ps all.0.in_time (in_time_all ps all.1)

named_all : (ps : List Provisioner) → AllByRecursion IsInOrder ps → All (λ p. 0 < length p.name) ps
named_all [] all = All-nil (λ (p : Provisioner). 0 < length p.name)
named_all (p ∷ ps) all = All-cons (λ (p : Provisioner). 0 < length p.name) p ps all.0.named (named_all ps all.1)

none_not_some : {X : Type 0} (o : Option X) → not (is_some o) ≡ is_none o
none_not_some None = refl
none_not_some (Some x) = refl

pub is_allowed : (changes : List ResourceChange) (change : ResourceChange) (c k : ℕ) (kind : StepKind) (outcome : Outcome) → IsOfStep change k kind outcome
    → IsAllowed (step_of_plan changes change c k kind) outcome
is_allowed changes change c k kind outcome is = record {
  bounded = is.bounded;
  outputs_in_time = in_time_all outcome.provisioners is.sound.provisioners;
  named = named_all outcome.provisioners is.sound.provisioners;
  has_id = is.sound.has_id;
  only_reads_warn = is.only_reads_warn;
  provisioned = λ some.
      ap (λ (t : Bool). is_kind Create kind || (is_kind Delete kind && (eqb k 0 && t))) (sym (none_not_some change.deposed)) ∙ is.provisioned some;
  fails_alone = is.sound.fails_alone;
}

-- ---- the last provisioner of a step that fails

last_with : (outcome : Outcome) (failed any : Bool) → is_failed outcome.result ≡ failed → list_any makes_fail outcome.provisioners ≡ any → (failed || any) ≡ true
    → (failed ≡ true → outcome.provisioners ≡ []) → fails_its_step (last_of Absent (ran outcome.provisioners)) ≡ any
last_with outcome failed true provider some fails alone = last_fails Absent outcome.provisioners some
last_with outcome true false provider none fails alone = ap (λ (ps : List Provisioner). fails_its_step (last_of Absent (ran ps))) (alone refl)
last_with outcome false false provider none fails alone = absurd cc

-- ---- a step that began

-- what the lines of a script tell, with these ids
abbrev pub telling_with : Work → (id : (c k : ℕ) → Option (List ℕ)) → Telling
telling_with work id = record { plan = work.plan; script = work.script; id = id }

-- A step that began, with its events and its lines.
pub record IsStepKnown (work : Work) (events : List Event) (id : (c k : ℕ) → Option (List ℕ)) (start : ℤ) (first : ℕ) (begun : Begun) (c k : ℕ) (kind : StepKind) : Type 0 where
  pub plan : IsInPlan work.plan c k kind
  pub has : HasEvents work events c k kind
  pub known : BegunStep
  pub known_at : begun_at begun.by_step (place_of work.plan.changes c k) ≡ Some known
  pub lines : AreLines (telling_with work id) start kind (numbered_of_step c k (numbered first (hook_messages_of events))) known
      (event has.lane (step_of work c k kind) has.begin Start)
      (map (λ p. event has.lane (step_of work c k kind) (has.begin + p.0) p.1) (between (step_of work c k kind)))
      (event has.lane (step_of work c k kind) (has.begin + seconds_of (step_of work c k kind)) (end_of (fails (outcome_of work.script c k)) (seconds_of (step_of work c k kind))))
  pub are : IsKnownStep (telling_with work id) start kind (step_of work c k kind) (fails (outcome_of work.script c k)) known lines.is.ended.0

module _ (work : Work) (n : ℕ) (events : List Event) (own : IsOwn work n events) (id : (c k : ℕ) → Option (List ℕ)) (start : ℤ) (first : ℕ) (begun : Begun)
    (is : AreFollowed (telling_with work id) start first (hook_messages_of events) begun) where
  pub step_known : (c k : ℕ) (kind : StepKind) → slice_get (kinds_of work.plan c) k ≡ Some kind → is_begun work (schedule work n) c k ≡ true
      → IsStepKnown work events id start first begun c k kind
  step_known c k kind at began =
      let hooks = hook_messages_of events in
      let plan = in_plan work.plan c k kind at in
      let has = has_events work n events own c k kind at began in
      let lines = numbered_of_step c k (numbered first hooks) in
      let step = step_of work c k kind in
      let start_event = event has.lane step has.begin Start in
      let middle = map (λ p. event has.lane step (has.begin + p.0) p.1) (between step) in
      let last = event has.lane step (has.begin + seconds_of step) (end_of (fails (outcome_of work.script c k)) (seconds_of step)) in
      let are = same_events c k first hooks ∙ has.are in
      let by = is.steps (step_of_plan work.plan.changes plan.change c k kind) plan.among in
      let one = known_if (telling_with work id) start kind lines (begun_at begun.by_step (place_of work.plan.changes c k)) start_event (middle ++ last ∷ []) are by in
      let own_lines = are_lines (telling_with work id) start kind lines one.0 start_event middle last are one.2 in record {
        plan = plan;
        has = has;
        known = one.0;
        known_at = one.1;
        lines = own_lines;
        are = known_step (telling_with work id) start kind lines one.0 has.lane step has.begin (fails (outcome_of work.script c k)) own_lines;
      }

  pub step_unknown : (c k : ℕ) (kind : StepKind) → slice_get (kinds_of work.plan c) k ≡ Some kind → is_begun work (schedule work n) c k ≡ false
      → begun_at begun.by_step (place_of work.plan.changes c k) ≡ None
  step_unknown c k kind at never =
      let hooks = hook_messages_of events in
      let plan = in_plan work.plan c k kind at in
      none_if (telling_with work id) start kind (numbered_of_step c k (numbered first hooks)) (begun_at begun.by_step (place_of work.plan.changes c k))
      (same_events c k first hooks ∙ has_none work n events own c k never)
      (is.steps (step_of_plan work.plan.changes plan.change c k kind) plan.among)

  module _ (c k : ℕ) (kind : StepKind) (one : IsStepKnown work events id start first begun c k kind) where
    pub of_step : IsOfStep one.plan.change k kind (outcome_of work.script c k)
    of_step = own.outcomes c k one.plan.change kind one.plan.change_at one.plan.kind_at

    pub was_told : (own_note : Option Note) → told.FitsEnd (fails (outcome_of work.script c k)) own_note
        → told.WasTold (step_of_plan work.plan.changes one.plan.change c k kind) (outcome_of work.script c k) (id c k) one.known own_note
    was_told own_note fits = record {
      allowed = is_allowed work.plan.changes one.plan.change c k kind (outcome_of work.script c k) of_step;
      ends = own.ends c k;
      kind = one.are.kind_is;
      facts = one.are.facts_are;
      line = one.lines.is.ended.0;
      end = one.are.end_is;
      fits = fits;
    }

    pub fails_by_provisioner : fails (outcome_of work.script c k) ≡ true → fails_its_step (last_provisioner one.known.facts) ≡ is_some (first_diag (outcome_of work.script c k).provisioners)
    fails_by_provisioner fails_so =
        let outcome = outcome_of work.script c k in
        let alone = λ (failed : is_failed outcome.result ≡ true). of_step.sound.fails_alone (ap (λ (t : Bool). t || is_warned outcome.result) failed) in
        ap (λ facts. fails_its_step (last_provisioner facts)) one.are.facts_are
        ∙ ap fails_its_step (last_is one.known.second outcome Absent (took kind outcome) 0 0 (seconds_before kind outcome) (ran outcome.provisioners))
        ∙ last_with outcome (is_failed outcome.result) (list_any makes_fail outcome.provisioners) refl refl fails_so alone
        ∙ sym (diag_if outcome.provisioners)
