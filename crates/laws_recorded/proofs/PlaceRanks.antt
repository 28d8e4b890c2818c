-- Ranks of steps by the lines on which they began.
use Rattle.std.proofs.Common.{◌≡◌, ◌∙◌, ◌+◌, ◌-◌, ◌<◌, ◌≤◌, ℕ, suc, Bool, true, false, cond, ltb, eqb, List, length, Option, None, Some, refl, sym, ap, arith, subst, ◌⊎◌, inl, inr, ⊎_elim}
use Rattle.std.specs.Prelude.{◌||◌, sum_by}
use Rattle.std.specs.List.{Contains}
use Rattle.std.specs.Option.{option_and_then, option_map_or}
use Rattle.std.proofs.lemmas.Bool.{cases_lt, eqb-false, ltb-true}
use Rattle.std.proofs.lemmas.List.{get_or_past}
use Rattle.std.proofs.lemmas.List.Elements.{All-contains}
use Rattle.std.proofs.lemmas.List.Sums.{get_or-le-sum_by}
use Rattle.stream_record_waits.specs.declared.choices.Choices.{Choices}
use Rattle.stream_record_waits.specs.declared.step_of_plan.StepOfPlan.{StepOfPlan}
use Rattle.stream_record_waits.specs.declared.step_of_plan.StepRun.{StepRun}
use Rattle.stream_record_waits.specs.Graph.{waits_at}
use Rattle.stream_record_waits.specs.Recorded.{AreRecordedWaits, AreSoundWaits}
use Rattle.stream_record_waits.specs.Steps.{done_line, is_done_before, step_at, step_before}
use Rattle.laws_recorded.proofs.Orders.{HasRanks, KeepOrder}
use Rattle.laws_recorded.proofs.NotBegun.{as_stated, guessed_began}

-- The places of the steps have ranks: each has a higher rank than those that the step waits for, and
-- than that before it in its change.
pub record AreRanked (steps : List StepOfPlan) (after : List (List ℕ)) : Type 0 where
  pub rank : ℕ → ℕ
  pub waits : (step other : ℕ) → step < length steps → Contains (waits_at after step) other → rank other < rank step
  pub before : (step other : ℕ) → step < length steps → step_before steps step ≡ Some other → rank other < rank step

-- ---- the line of each start

abbrev line_of : StepOfPlan → ℕ
line_of step = option_map_or (λ run. run.line) step.run 0

line_is : (step : StepOfPlan) (run : StepRun) → step.run ≡ Some run → line_of step ≡ run.line
line_is step run is = ap (λ (o : Option StepRun). option_map_or (λ r. r.line) o 0) is

abbrev most : List StepOfPlan → ℕ
most steps = sum_by line_of steps

none_began : StepOfPlan
none_began = record { is_first = false; run = None }

line_within : (steps : List StepOfPlan) (step : ℕ) (run : StepRun) → (step_at steps step).run ≡ Some run → run.line ≤ most steps
line_within steps step run is = ⊎_elim
    (λ (less : step < length steps).
    let small = get_or-le-sum_by line_of steps step (record { is_first = false; run = None }) less in
    let line = line_is (step_at steps step) run is in omega (arith, small, line))
    (λ (over : length steps ≤ step).
    let past = get_or_past steps step (record { is_first = false; run = None }) over in
    let none : None ≡ Some run = sym (ap (λ (s : StepOfPlan). s.run) past) ∙ is in absurd cc)
    (cases_lt step (length steps))

-- ---- a step that was done before a line began before it

began_before : (steps : List StepOfPlan) (order : KeepOrder steps) (other line : ℕ) → is_done_before steps other line ≡ true
    → (run : StepRun) × ((step_at steps other).run ≡ Some run) × (run.line < line)
began_before steps order other line done = of (step_at steps other).run refl done
  where
    done_by : (run : StepRun) → (step_at steps other).run ≡ Some run → (o : Option ℕ) → done_line run ≡ o → option_map_or (λ (d : ℕ). ltb d line) o false ≡ true
        → (run : StepRun) × ((step_at steps other).run ≡ Some run) × (run.line < line)
    done_by run is None none done = cc
    done_by run is (Some d) at done =
        let early = ltb-true d line done in
        let ends = order.ends other d run is at in (run, is, omega (arith, early, ends))

    of : (one : Option StepRun) → (step_at steps other).run ≡ one → option_map_or (λ (d : ℕ). ltb d line) (option_and_then done_line one) false ≡ true
        → (run : StepRun) × ((step_at steps other).run ≡ Some run) × (run.line < line)
    of None is done = cc
    of (Some run) is done = done_by run is (done_line run) refl done

-- ---- the ranks

abbrev rank_by : ℕ → Option StepRun → ℕ → ℕ
rank_by last None own = suc last + own
rank_by last (Some run) own = run.line

module _ (steps : List StepOfPlan) (after : List (List ℕ)) (sound : AreSoundWaits steps after) (order : KeepOrder steps)
    (own : ℕ → ℕ) (own_before : (step other : ℕ) → step < length steps → step_before steps step ≡ Some other → own other < own step)
    (own_waits : (step other : ℕ) → step < length steps → (step_at steps step).run ≡ None → Contains (waits_at after step) other
    → ((run : StepRun) × ((step_at steps other).run ≡ Some run)) ⊎ (own other < own step)) where
  abbrev rank_of : ℕ → ℕ
  rank_of step = rank_by (most steps) (step_at steps step).run (own step)

  rank_began : (step : ℕ) (run : StepRun) → (step_at steps step).run ≡ Some run → rank_of step ≡ run.line
  rank_began step run is = ap (λ (o : Option StepRun). rank_by (most steps) o (own step)) is

  rank_not : (step : ℕ) → (step_at steps step).run ≡ None → rank_of step ≡ suc (most steps) + own step
  rank_not step is = ap (λ (o : Option StepRun). rank_by (most steps) o (own step)) is

  -- a step after another, by their lines
  in_lines : (step other : ℕ) (run one : StepRun) → (step_at steps step).run ≡ Some run → (step_at steps other).run ≡ Some one → one.line < run.line → rank_of other < rank_of step
  in_lines step other run one is also less =
      let first = rank_began step run is in
      let second = rank_began other one also in omega (arith, first, second, less)

  over_began : (step other : ℕ) (one : StepRun) → (step_at steps step).run ≡ None → (step_at steps other).run ≡ Some one → rank_of other < rank_of step
  over_began step other one is also =
      let first = rank_not step is in
      let second = rank_began other one also in
      let small = line_within steps other one also in omega (arith, first, second, small)

  over_other : (step other : ℕ) → (step_at steps step).run ≡ None → (o : Option StepRun) → (step_at steps other).run ≡ o → own other < own step → rank_of other < rank_of step
  over_other step other is None also less =
      let first = rank_not step is in
      let second = rank_not other also in omega (arith, first, second, less)
  over_other step other is (Some one) also less = over_began step other one is also

  waits_of : (step other : ℕ) → step < length steps → (o : Option StepRun) → (step_at steps step).run ≡ o → Contains (waits_at after step) other → rank_of other < rank_of step
  waits_of step other within None is has = ⊎_elim
      (λ (began : (run : StepRun) × ((step_at steps other).run ≡ Some run)). over_began step other began.0 is began.1)
      (λ (less : own other < own step). over_other step other is (step_at steps other).run refl less)
      (own_waits step other within is has)
  waits_of step other within (Some run) is has =
      let done = All-contains (λ (n : ℕ). is_done_before steps n run.line ≡ true) (waits_at after step) other (sound.done step run within is) has in
      let before = began_before steps order other run.line done in
      in_lines step other run before.0 is before.1 before.2

  before_of : (step other : ℕ) → step < length steps → (o : Option StepRun) → (step_at steps step).run ≡ o → step_before steps step ≡ Some other → rank_of other < rank_of step
  before_of step other within None is at = over_other step other is (step_at steps other).run refl (own_before step other within at)
  before_of step other within (Some run) is at =
      let began = order.begins step other run is at in
      in_lines step other run began.run is began.began began.earlier

  pub ranked : AreRanked steps after
  ranked = record {
    rank = λ step. rank_by (most steps) (step_at steps step).run (own step);
    waits = λ step other within has. waits_of step other within (step_at steps step).run refl has;
    before = λ step other within at. before_of step other within (step_at steps step).run refl at;
  }

-- ---- with a graph, and without

no_start : (a b : Bool) → (a || b) ≡ false → a ≡ false
no_start true b e = cc
no_start false b e = refl

before_is : (b t : Bool) (step other : ℕ) → (eqb step 0 || b) ≡ t → cond t None (Some (step - 1)) ≡ Some other → other < step
before_is b true step other at is = cc
before_is b false step other at is =
    let same : step - 1 ≡ other = cc in
    let positive = eqb-false step 0 (no_start (eqb step 0) b at) in omega (arith, same, positive)

pub ranks_with : (steps : List StepOfPlan) (graph : List (List ℕ)) (choices : Choices) (after early : List (List ℕ)) → AreRecordedWaits steps (Some graph) choices after early
    → AreSoundWaits steps after → KeepOrder steps → HasRanks steps graph → AreRanked steps after
ranks_with steps graph choices after early are sound order ranks =
    ranked steps after sound order ranks.rank ranks.before
    (λ step other within not has. inr (ranks.waits step other within (subst (λ (ns : List ℕ). Contains ns other) (as_stated steps graph choices after early are step within not) has)))

pub ranks_without : (steps : List StepOfPlan) (choices : Choices) (after early : List (List ℕ)) → AreRecordedWaits steps None choices after early
    → AreSoundWaits steps after → KeepOrder steps → AreRanked steps after
ranks_without steps choices after early are sound order =
    ranked steps after sound order (λ step. step)
    (λ step other within at. before_is (step_at steps step).is_first (eqb step 0 || (step_at steps step).is_first) step other refl at)
    (λ step other within not has. inl (guessed_began steps choices after early are step other within not has))
