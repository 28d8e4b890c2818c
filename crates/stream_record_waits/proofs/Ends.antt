-- The step behind which a step begins, from the ends in the order of their lines.
use Rattle.std.proofs.Common.{◌≡◌, ◌<◌, ◌≤◌, ◌+◌, ◌-◌, ℕ, List, [], ◌∷◌, ◌++◌, true, false, ltb, Option, None, Some, length, get_or, sym, arith, subst, ⊎_elim, length-append, ltb-true, ltb-false}
use Rattle.std.specs.List.{Contains}
use Rattle.std.specs.List.Sorted.{IsNonDecreasingBy, IsPartitionPoint, IsPermutation}
use Rattle.std.proofs.lemmas.Bool.{cases_lt}
use Rattle.std.proofs.lemmas.List.{get_or_append_left, get_or_default, get_or_push}
use Rattle.std.proofs.lemmas.List.Elements.{All-contains}
use Rattle.std.proofs.lemmas.List.Sorted.{Contains-permutation, IsPermutation-sym}
use Rattle.stream_record_waits.specs.declared.step_of_plan.StepOfPlan.{StepOfPlan}
use Rattle.stream_record_waits.specs.declared.step_of_plan.StepRun.{StepRun}
use Rattle.stream_record_waits.specs.Behind.{AreFirstBehind, IsBehind}
use Rattle.stream_record_waits.specs.Ends.{AreEnds, IsEndBefore, IsStepOfLast}
use Rattle.stream_record_waits.specs.Steps.{completion_at, step_at}

module _ (ends : List (ℕ × ℕ)) (line count : ℕ) (point : IsPartitionPoint (λ (end : ℕ × ℕ). ltb end.0 line ≡ true) (λ (end : ℕ × ℕ). ltb end.0 line ≡ false) ends count) where
  pub none_last : count ≡ 0 → IsStepOfLast ends line None
  none_last none k d within = ltb-false (get_or ends k d).0 line (point.1 k d (omega (arith, none)) within)

  pub some_last : (d : ℕ × ℕ) → 0 < count → count ≤ length ends → IsNonDecreasingBy (λ (end : ℕ × ℕ). end.0) ends → IsStepOfLast ends line (Some (get_or ends (count - 1) d).1)
  some_last d some few sorted =
      let x = get_or ends (count - 1) d in
      let inside : count - 1 < length ends = omega (arith, some, few) in (
        x.0,
        record {
          among = (count - 1, inside, get_or_default ends (count - 1) x d inside);
          before = ltb-true x.0 line (point.0 (count - 1) d (omega arith) (omega (arith, some)));
          last = λ k e within before. ⊎_elim
              (λ (lt : k < count).
              subst (λ (y : ℕ × ℕ). (get_or ends k e).0 ≤ y.0) (get_or_default ends (count - 1) e d inside) (sorted k (count - 1) e (omega (arith, lt)) inside))
              (λ (ge : count ≤ k).
              let late = ltb-false (get_or ends k e).0 line (point.1 k e ge within) in
              absurd (omega (arith, late, before)))
              (cases_lt k count);
        },
      )

module _ (steps : List StepOfPlan) (ends sorted : List (ℕ × ℕ)) (are : AreEnds steps (length steps) ends) (moved : IsPermutation ends sorted) where
  known : (end : ℕ × ℕ) → Contains sorted end → (end.1 < length steps) × (completion_at steps end.1 ≡ Some end.0)
  known end c = All-contains (λ (end : ℕ × ℕ). (end.1 < length steps) × (completion_at steps end.1 ≡ Some end.0)) ends end are.sound
      (Contains-permutation sorted ends end (IsPermutation-sym ends sorted moved) c)

  among : (step line : ℕ) → step < length steps → completion_at steps step ≡ Some line → Contains sorted (line, step)
  among step line within is = Contains-permutation ends sorted (line, step) moved (are.complete step line within is)

  pub is_behind : (run : Option StepRun) (step : Option ℕ) → IsEndBefore sorted run step → IsBehind steps run step
  is_behind None step is = is
  is_behind (Some run) None late = λ other other_end e.
      let c = among other other_end e.0 e.1 in
      let after = All-contains (λ (end : ℕ × ℕ). run.line ≤ end.0) sorted (other_end, other) late c in
      let before = e.2 in
      omega (arith, after, before)
  is_behind (Some run) (Some step) (end, last) =
      let is = known (end, step) last.among in
      record {
        end = end;
        ends = (is.0, is.1, last.before);
        last = λ other other_end e.
            All-contains (λ (one : ℕ × ℕ). one.0 < run.line → one.0 ≤ end) sorted (other_end, other) last.last (among other other_end e.0 e.1) e.2;
      }

pub more_behind : (steps : List StepOfPlan) (count : ℕ) (behind new : List (Option ℕ)) (one : Option ℕ) → AreFirstBehind steps count behind → IsBehind steps (step_at steps count).run one
    → new ≡ behind ++ one ∷ [] → AreFirstBehind steps (count + 1) new
more_behind steps count behind new one are is grown = subst (AreFirstBehind steps (count + 1)) (sym grown) (record {
  each = let size = length-append behind (one ∷ []) in let was = are.each in omega (arith, size, was);
  are = λ step within. ⊎_elim
      (λ (lt : step < count).
      let was = are.each in
      subst (IsBehind steps (step_at steps step).run) (sym (get_or_append_left behind (one ∷ []) None step (omega (arith, was, lt)))) (are.are step lt))
      (λ (ge : count ≤ step).
      let was = are.each in
      let same : count ≡ step = omega (arith, within, ge) in
      subst (IsBehind steps (step_at steps step).run) (sym (get_or_push behind one None step (omega (arith, was, same)))) (subst (λ (n : ℕ). IsBehind steps (step_at steps n).run one) same is))
      (cases_lt step count);
})
