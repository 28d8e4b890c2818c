-- The plan has the step of each event that can happen, and the event has a line.
use Rattle.std.proofs.Common.{◌≡◌, ℕ, zero, suc, ◌==◌, All, List, [], ◌∷◌, slice_get, take, Bool, true, false, Option, Some, None, refl, sym, ap, ◌∙◌}
use Rattle.std.specs.Prelude.{◌&&◌}
use Rattle.std.specs.List.{AllByRecursion}
use Rattle.std.specs.Option.{option_map_or}
use Rattle.apply_model.specs.declared.plan.step_kind.StepKind.{StepKind}
use Rattle.apply_model.specs.declared.plan.step_kind.StepKind.TheVariants.{Create, Update, Delete, Read}
use Rattle.apply_model.specs.declared.script.outcome.Outcome.{Outcome}
use Rattle.apply_model.specs.Plan.ResourceChange.{ResourceChange}
use Rattle.apply_model.specs.Plan.SavedPlan.{SavedPlan}
use Rattle.apply_model.specs.Script.Outcome.{fails, took}
use Rattle.apply_model.specs.Script.OutcomeMap.{OutcomeMap, first_skipped, outcome_of}
use Rattle.apply_events.specs.declared.event.Event.{Event}
use Rattle.apply_events.specs.declared.what.What.{What}
use Rattle.apply_events.specs.declared.what.What.TheVariants.{Start, Progress, Complete, Errored, ErrorNote, WarnNote, Halted, ProvisionStart, ProvisionOutput, ProvisionComplete, ProvisionErrored}
use Rattle.apply_events.specs.Fits.{Fits, can_happen}
use Rattle.apply_events.specs.Step.{kinds_applied, kinds_of}
use Rattle.apply_text_terraform.specs.Message.{is_silent}
use Rattle.laws_check.proofs.Given.{each_held}
use Rattle.laws_lines.specs.Reading.{IsLoud, IsPlanned, NoReadFails}
use Rattle.laws_lines.proofs.ReadEvents.{all_weaker}

taken_is : {A : Type 0} (n : ℕ) (xs : List A) (i : ℕ) (x : A) → slice_get (take n xs) i ≡ Some x → slice_get xs i ≡ Some x
taken_is zero xs i x e = absurd cc
taken_is (suc n) [] i x e = absurd cc
taken_is (suc n) (y ∷ ys) zero x e = e
taken_is (suc n) (y ∷ ys) (suc i) x e = taken_is n ys i x e

module _ (plan : SavedPlan) (script : OutcomeMap) where
  applied_is : (c k : ℕ) (kind : StepKind) → slice_get (kinds_applied plan script c) k ≡ Some kind → slice_get (kinds_of plan c) k ≡ Some kind
  applied_is c k kind e = of_skipped (first_skipped script c) e
    where
      of_skipped : (o : Option ℕ) → slice_get (option_map_or (λ skipped. take skipped (kinds_of plan c)) o (kinds_of plan c)) k ≡ Some kind → slice_get (kinds_of plan c) k ≡ Some kind
      of_skipped None e = e
      of_skipped (Some skipped) e = taken_is skipped (kinds_of plan c) k kind e

  of_change : (o : Option ResourceChange) (k : ℕ) (kind : StepKind) → slice_get (option_map_or (λ (change : ResourceChange). change.steps) o []) k ≡ Some kind → (change : ResourceChange) × (o ≡ Some change) × (slice_get change.steps k ≡ Some kind)
  of_change None k kind e = absurd cc
  of_change (Some change) k kind e = (change, refl, e)

  happening : (e : Event) → Fits plan script e → (kind : StepKind) × (slice_get (kinds_applied plan script e.change) e.step ≡ Some kind) × (can_happen kind (outcome_of script e.change e.step) e.what ≡ true)
  happening e fits = of_kind (slice_get (kinds_applied plan script e.change) e.step) refl fits.happens
    where
      of_kind : (o : Option StepKind) → slice_get (kinds_applied plan script e.change) e.step ≡ o → option_map_or (λ kind. can_happen kind (outcome_of script e.change e.step) e.what) o false ≡ true
          → (kind : StepKind) × (slice_get (kinds_applied plan script e.change) e.step ≡ Some kind) × (can_happen kind (outcome_of script e.change e.step) e.what ≡ true)
      of_kind None is happens = absurd cc
      of_kind (Some kind) is happens = (kind, is, happens)

  fits_planned : (e : Event) → Fits plan script e → IsPlanned plan e
  fits_planned e fits =
      let happens = happening e fits in
      let located = of_change (slice_get plan.changes e.change) e.step happens.0 (applied_is e.change e.step happens.0 happens.1) in
      (located.0, happens.0, located.1, located.2)

  loud : (kind : StepKind) (outcome : Outcome) (what : What) → (kind ≡ Read → fails outcome ≡ false) → can_happen kind outcome what ≡ true → is_silent kind what ≡ false
  loud Read outcome (Errored s) fine happens = absurd (let never : false ≡ true = sym (ap (λ (b : Bool). b && (s == took Read outcome)) (fine refl)) ∙ happens in cc)
  loud Read outcome Start fine happens = refl
  loud Read outcome (Progress s) fine happens = refl
  loud Read outcome (Complete s) fine happens = refl
  loud Read outcome ErrorNote fine happens = refl
  loud Read outcome WarnNote fine happens = refl
  loud Read outcome (Halted phase hook) fine happens = refl
  loud Read outcome (ProvisionStart i) fine happens = refl
  loud Read outcome (ProvisionOutput i line) fine happens = refl
  loud Read outcome (ProvisionComplete i) fine happens = refl
  loud Read outcome (ProvisionErrored i) fine happens = refl
  loud Create outcome what fine happens = refl
  loud Update outcome what fine happens = refl
  loud Delete outcome what fine happens = refl

  fits_loud : NoReadFails plan script → (e : Event) → Fits plan script e → IsLoud plan e
  fits_loud none e fits =
      let happens = happening e fits in
      let located = of_change (slice_get plan.changes e.change) e.step happens.0 (applied_is e.change e.step happens.0 happens.1) in (
        located.0,
        happens.0,
        located.1,
        located.2,
        loud happens.0 (outcome_of script e.change e.step) e.what (λ is. none e.change e.step located.0 located.1 (located.2 ∙ ap (λ (k : StepKind). Some k) is)) happens.2,
      )

  pub all_planned : (es : List Event) → All (Fits plan script) es → AllByRecursion (IsPlanned plan) es
  all_planned es fit = all_weaker (Fits plan script) (IsPlanned plan) fits_planned es (each_held (Fits plan script) es fit)

  pub all_loud : (es : List Event) → NoReadFails plan script → All (Fits plan script) es → AllByRecursion (IsLoud plan) es
  all_loud es none fit = all_weaker (Fits plan script) (IsLoud plan) (fits_loud none) es (each_held (Fits plan script) es fit)
