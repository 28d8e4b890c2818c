-- A run of our own can be followed.
use Rattle.std.proofs.Common.{◌≡◌, ◌≢◌, ◌∙◌, ◌<◌, ℕ, Bool, true, List, [], ◌∷◌, length, is_some, refl, ap, arith}
use Rattle.std.specs.List.{Contains}
use Rattle.std.proofs.lemmas.List.Elements.{All-contains_itself, All-weaker}
use Rattle.apply_model.specs.declared.plan.step_kind.StepKind.{StepKind}
use Rattle.apply_model.specs.declared.plan.step_kind.StepKind.TheVariants.{Create, Update, Delete, Read}
use Rattle.apply_model.specs.Script.Outcome.{fails}
use Rattle.apply_model.specs.Script.OutcomeMap.{outcome_of}
use Rattle.apply_events.specs.declared.event.Event.{Event}
use Rattle.apply_events.specs.Step.{Work}
use Rattle.apply_events.specs.StepEvents.{emits_end}
use Rattle.apply_plan.specs.Script.Refusals.{takes_provisioners}
use Rattle.laws_begun.specs.Followed.{may_be_provisioned}
use Rattle.laws_begun.specs.Runs.{HasEnd, IsFollowable}
use Rattle.laws_steps_again.specs.Own.{IsOwn}
use Rattle.laws_steps_again.proofs.Planned.{in_plan}
use Rattle.laws_steps_again.proofs.WholeSteps.{yes_or}

some_of : {X : Type 0} (xs : List X) → xs ≢ [] → 0 < length xs
some_of [] some = absurd (some refl)
some_of (x ∷ xs) some = omega arith

takes_few : (deposed : Bool) (k : ℕ) (kind : StepKind) → takes_provisioners deposed (k, kind) ≡ true → may_be_provisioned kind ≡ true
takes_few deposed k Create takes = refl
takes_few deposed k Update takes = takes
takes_few deposed k Delete takes = refl
takes_few deposed k Read takes = takes

pub followable : (work : Work) (n : ℕ) (events : List Event) → IsOwn work n events → IsFollowable work events
followable work n events own = record {
  hooks = own.hooks;
  apart = own.apart;
  ends = All-weaker (Contains events) (λ (event : Event). HasEnd work event.change event.step)
      (λ event has. ap (emits_end (fails (outcome_of work.script event.change event.step))) (own.ends event.change event.step)
      ∙ yes_or (fails (outcome_of work.script event.change event.step)))
      events (All-contains_itself events);
  provisioners = λ c k kind at some.
      (let plan = in_plan work.plan c k kind at in
      let outcome = outcome_of work.script c k in
      takes_few (is_some plan.change.deposed) k kind ((own.outcomes c k plan.change kind plan.change_at plan.kind_at).provisioned (some_of outcome.provisioners some)));
}
