-- The runs of the steps of a plan keep the order of what began.
use Rattle.std.proofs.Common.{◌≡◌, ◌∙◌, ◌+◌, ◌-◌, ◌<◌, ◌≤◌, ℕ, zero, suc, Bool, true, false, cond, eqb, List, [], ◌∷◌, length, Option, None, Some, refl, sym, ap, arith, subst, ◌⊎◌, inl, inr, ⊎_elim}
use Rattle.std.specs.Prelude.{◌||◌, IfSome, option_map, slice_get}
use Rattle.std.specs.Option.{option_and_then}
use Rattle.std.proofs.lemmas.Bool.{eqb-false}
use Rattle.stream_record_outcomes.specs.declared.fate.Fate.{Fate}
use Rattle.stream_record_outcomes.specs.declared.fate.Fate.TheVariants as fate
use Rattle.stream_record_outcomes.specs.declared.recorded_step.RecordedStep.{RecordedStep}
use Rattle.stream_record_steps.specs.declared.begun_step.BegunStep.{BegunStep}
use Rattle.stream_record_steps.specs.declared.begun_step.StepEnd.{StepEnd}
use Rattle.stream_record_steps.specs.Begun.{Begun, begun_at}
use Rattle.stream_record_steps.specs.Steps.{PlannedStep, is_first_step}
use Rattle.stream_record_waits.specs.declared.step_of_plan.StepOfPlan.{StepOfPlan}
use Rattle.stream_record_waits.specs.declared.step_of_plan.StepRun.{StepRun}
use Rattle.stream_record_waits.specs.Steps.{done_line, done_line_of, step_at, step_before}
use Rattle.stream_record_script.specs.Runs.{recorded_at, run_at, run_fate_of, run_of, steps_from, steps_of_plan}
use Rattle.laws_recorded.specs.Begins.{BeginInOrder}
use Rattle.laws_recorded.specs.Graphs.{IsRankedGraph}
use Rattle.laws_recorded.proofs.Orders.{BeganAfter, HasRanks, KeepOrder}

-- ---- the step at a place

-- the step of the plan at a place, and how it ran
pub record IsPlannedAt (begun : Begun) (recorded : List (Option RecordedStep)) (planned : List PlannedStep) (place i : ℕ) (step : StepOfPlan) : Type 0 where
  pub own : PlannedStep
  pub stands : slice_get planned i ≡ Some own
  pub is : step ≡ record { is_first = is_first_step own; run = run_at begun recorded (place + i) own }

abbrev IsNowhere : List PlannedStep → ℕ → StepOfPlan → Type 0
IsNowhere planned i step = (slice_get planned i ≡ None) × (step ≡ record { is_first = false; run = None })

at_from : (begun : Begun) (recorded : List (Option RecordedStep)) (planned : List PlannedStep) (place i : ℕ)
    → IsPlannedAt begun recorded planned place i (step_at (steps_from begun recorded place planned) i) ⊎ IsNowhere planned i (step_at (steps_from begun recorded place planned) i)
at_from begun recorded [] place i = inr (refl, refl)
at_from begun recorded (own ∷ planned) place zero =
    let same : place ≡ place + 0 = omega arith in
    inl (record { own = own; stands = refl; is = ap (λ (p : ℕ). record { is_first = is_first_step own; run = run_at begun recorded p own }) same })
at_from begun recorded (own ∷ planned) place (suc i) = ⊎_elim
    (λ (there : IsPlannedAt begun recorded planned (place + 1) i (step_at (steps_from begun recorded (place + 1) planned) i)).
    let same : place + 1 + i ≡ place + suc i = omega arith in
    inl (record { own = there.own; stands = there.stands; is = there.is ∙ ap (λ (p : ℕ). record { is_first = is_first_step there.own; run = run_at begun recorded p there.own }) same }))
    (λ (none : IsNowhere planned i (step_at (steps_from begun recorded (place + 1) planned) i)). inr none)
    (at_from begun recorded planned (place + 1) i)

pub as_many : (begun : Begun) (recorded : List (Option RecordedStep)) (planned : List PlannedStep) (place : ℕ) → length (steps_from begun recorded place planned) ≡ length planned
as_many begun recorded [] place = refl
as_many begun recorded (own ∷ planned) place = ap suc (as_many begun recorded planned (place + 1))

-- how a step ran that began, and its outcome
pub record HasRun (begun : Begun) (recorded : List (Option RecordedStep)) (i : ℕ) (run : StepRun) : Type 0 where
  pub own : PlannedStep
  pub stands : slice_get begun.planned i ≡ Some own
  pub first_is : (step_at (steps_of_plan begun recorded) i).is_first ≡ is_first_step own
  pub found : RecordedStep
  pub recorded_is : recorded_at recorded i ≡ Some found
  pub known : BegunStep
  pub known_is : begun_at begun.by_step i ≡ Some known
  pub run_is : run ≡ run_of own found known

module _ (begun : Begun) (recorded : List (Option RecordedStep)) where
  abbrev steps : List StepOfPlan
  steps = steps_of_plan begun recorded

  pub step_there : (i : ℕ) (own : PlannedStep) → slice_get begun.planned i ≡ Some own → step_at (steps_of_plan begun recorded) i ≡ record { is_first = is_first_step own; run = run_at begun recorded i own }
  step_there i own stands = ⊎_elim
      (λ (there : IsPlannedAt begun recorded begun.planned 0 i (step_at steps i)).
      let same : there.own ≡ own = let both : Some there.own ≡ Some own = sym there.stands ∙ stands in cc in
      let zeroth : 0 + i ≡ i = omega arith in
      there.is ∙ ap (λ (p : ℕ). record { is_first = is_first_step there.own; run = run_at begun recorded p there.own }) zeroth
      ∙ ap (λ (o : PlannedStep). record { is_first = is_first_step o; run = run_at begun recorded i o }) same)
      (λ (none : IsNowhere begun.planned i (step_at steps i)). let both : None ≡ Some own = sym none.0 ∙ stands in absurd cc)
      (at_from begun recorded begun.planned 0 i)

  run_parts : (own : PlannedStep) (run : StepRun) (o : Option RecordedStep) (b : Option BegunStep) → option_and_then (λ found. option_map (run_of own found) b) o ≡ Some run
      → (found : RecordedStep) × (known : BegunStep) × (o ≡ Some found) × (b ≡ Some known) × (run ≡ run_of own found known)
  run_parts own run None b is = cc
  run_parts own run (Some found) None is = cc
  run_parts own run (Some found) (Some known) is = let same : run ≡ run_of own found known = cc in (found, known, refl, refl, same)

  pub has_run : (i : ℕ) (run : StepRun) → (step_at (steps_of_plan begun recorded) i).run ≡ Some run → HasRun begun recorded i run
  has_run i run is = ⊎_elim
      (λ (there : IsPlannedAt begun recorded begun.planned 0 i (step_at steps i)).
      let at = step_there i there.own there.stands in
      let parts = run_parts there.own run (recorded_at recorded i) (begun_at begun.by_step i) (sym (ap (λ (s : StepOfPlan). s.run) at) ∙ is) in
      record {
        own = there.own;
        stands = there.stands;
        first_is = ap (λ (s : StepOfPlan). s.is_first) at;
        found = parts.0;
        recorded_is = parts.2;
        known = parts.1;
        known_is = parts.3;
        run_is = parts.4;
      })
      (λ (none : IsNowhere begun.planned i (step_at steps i)). let both : None ≡ Some run = sym (ap (λ (s : StepOfPlan). s.run) none.1) ∙ is in absurd cc)
      (at_from begun recorded begun.planned 0 i)

-- ---- the order

ends_by : (f : Fate) (line done : ℕ) (o : Option StepEnd) → IfSome o (λ end. line ≤ end.line) → done_line_of (run_fate_of f) line (option_map (λ end. end.line) o) ≡ Some done → line ≤ done
ends_by fate.Done line done None late is = absurd cc
ends_by fate.Done line done (Some end) late is = let same : end.line ≡ done = cc in omega (arith, late, same)
ends_by fate.Warned line done o late is = let same : line ≡ done = cc in omega (arith, same)
ends_by fate.Failed line done o late is = absurd cc

no_start : (a b : Bool) → (a || b) ≡ false → (a ≡ false) × (b ≡ false)
no_start true b e = absurd cc
no_start false b e = (refl, e)

before_parts : (first t : Bool) (step other : ℕ) → (eqb step 0 || first) ≡ t → cond t None (Some (step - 1)) ≡ Some other → (0 < step) × (first ≡ false) × (step - 1 ≡ other)
before_parts first true step other at is = absurd cc
before_parts first false step other at is =
    let parts = no_start (eqb step 0) first at in
    let positive = eqb-false step 0 parts.0 in
    let same : step - 1 ≡ other = cc in (omega (arith, positive), parts.1, same)

-- the step before a step
pub step_before_is : (steps : List StepOfPlan) (step other : ℕ) → step_before steps step ≡ Some other → (0 < step) × ((step_at steps step).is_first ≡ false) × (step - 1 ≡ other)
step_before_is steps step other is = before_parts (step_at steps step).is_first (eqb step 0 || (step_at steps step).is_first) step other refl is

pub item_before : {X : Type 0} (xs : List X) (i j : ℕ) (x : X) → j ≤ i → slice_get xs i ≡ Some x → (y : X) × (slice_get xs j ≡ Some y)
item_before [] i j x less at = absurd cc
item_before (z ∷ xs) i zero x less at = (z, refl)
item_before (z ∷ xs) zero (suc j) x less at = absurd (omega arith)
item_before (z ∷ xs) (suc i) (suc j) x less at = item_before xs i j x (omega arith) at

item_at : {X : Type 0} (xs : List X) (i : ℕ) → i < length xs → (x : X) × (slice_get xs i ≡ Some x)
item_at [] i less = absurd (omega arith)
item_at (x ∷ xs) zero less = (x, refl)
item_at (x ∷ xs) (suc i) less = item_at xs i (omega arith)

-- each step that began has an outcome
abbrev pub HaveOutcomes : Begun → List (Option RecordedStep) → Type 0
HaveOutcomes begun recorded = (i : ℕ) (own : PlannedStep) (known : BegunStep) → slice_get begun.planned i ≡ Some own → begun_at begun.by_step i ≡ Some known
    → (found : RecordedStep) × (recorded_at recorded i ≡ Some found)

module _ (begun : Begun) (order : BeginInOrder begun) (recorded : List (Option RecordedStep)) (outcomes : HaveOutcomes begun recorded) where
  abbrev all : List StepOfPlan
  all = steps_of_plan begun recorded

  ends_after : (step done : ℕ) (run : StepRun) → (step_at (steps_of_plan begun recorded) step).run ≡ Some run → done_line run ≡ Some done → run.line ≤ done
  ends_after step done run is at =
      let has = has_run begun recorded step run is in
      let line : run.line ≡ has.known.line = ap (λ (r : StepRun). r.line) has.run_is in
      let ended : done_line (run_of has.own has.found has.known) ≡ Some done = ap done_line (sym has.run_is) ∙ at in
      let late = ends_by has.found.fate has.known.line done has.known.end (order.ends step has.known has.known_is) ended in omega (arith, line, late)

  begins_after : (step other : ℕ) (run : StepRun) → (step_at (steps_of_plan begun recorded) step).run ≡ Some run → step_before (steps_of_plan begun recorded) step ≡ Some other
      → BeganAfter (steps_of_plan begun recorded) run.line other
  begins_after step other run is at =
      let has = has_run begun recorded step run is in
      let parts = step_before_is (steps_of_plan begun recorded) step other at in
      let before = order.begins step has.own has.known has.stands (sym has.first_is ∙ parts.1) has.known_is in
      let spot = parts.2 in
      let there = item_before begun.planned step (step - 1) has.own (omega arith) has.stands in
      let found = outcomes (step - 1) there.0 before.step there.1 before.began in
      let line : run.line ≡ has.known.line = ap (λ (r : StepRun). r.line) has.run_is in
      let early = before.earlier in
      let ran : run_at begun recorded (step - 1) there.0 ≡ Some (run_of there.0 found.0 before.step) =
      ap (option_and_then (λ (f : RecordedStep). option_map (run_of there.0 f) (begun_at begun.by_step (step - 1)))) found.1
      ∙ ap (option_map (run_of there.0 found.0)) before.began in
      record {
        run = run_of there.0 found.0 before.step;
        began = ap (λ (p : ℕ). (step_at (steps_of_plan begun recorded) p).run) (sym spot) ∙ ap (λ (s : StepOfPlan). s.run) (step_there begun recorded (step - 1) there.0 there.1) ∙ ran;
        earlier = omega (arith, line, early);
      }

  pub runs_in_order : KeepOrder (steps_of_plan begun recorded)
  runs_in_order = record { ends = ends_after; begins = begins_after }

  -- the ranks of the graph are ranks of the steps
  pub has_ranks : (graph : List (List ℕ)) → IsRankedGraph begun.planned graph → HasRanks (steps_of_plan begun recorded) graph
  has_ranks graph ranked =
      let many = as_many begun recorded begun.planned 0 in record {
        rank = ranked.rank;
        waits = λ step other within has. ranked.waits step other (omega (arith, many, within)) has;
        before = λ step other within at.
            let parts = step_before_is (steps_of_plan begun recorded) step other at in
            let own = item_at begun.planned step (omega (arith, many, within)) in
            let later : is_first_step own.0 ≡ false = sym (ap (λ (s : StepOfPlan). s.is_first) (step_there begun recorded step own.0 own.1)) ∙ parts.1 in
            subst (λ (n : ℕ). ranked.rank n < ranked.rank step) parts.2 (ranked.before step own.0 own.1 later);
      }
