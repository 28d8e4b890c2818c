use Rattle.std.proofs.Common.{rules, List, sym, subst, ℕ}
use Rattle.std.specs.List.Sorted.{IsNonDecreasingBy}
use Rattle.std.proofs.lemmas.List.Sorted.{IsNonDecreasingBy-from_sort_by_key}
use Rattle.stream_record_waits.specs.Ends.{IsEndBefore}
use Rattle.stream_record_waits.specs.Steps.{step_at}
use Rattle.stream_record_waits.proofs.Ends.{is_behind, more_behind}
use Rattle.stream_record_waits.proofs.behind.steps_behind.Goals as goal

pub last_before-requires : goal.last_before-requires
last_before-requires c =
    subst (IsNonDecreasingBy (λ (end : ℕ × ℕ). end.0)) (sym c.as_slice.ensures.value)
    (IsNonDecreasingBy-from_sort_by_key (λ (end : ℕ × ℕ). end.0) _ c.sort_unstable_by_key.ensures.sorted (λ a r q k. search rules))

pub loop-step-preserved : goal.loop-step-preserved
loop-step-preserved c =
    more_behind c.args.steps.now c.loop-step.step c.loop-step.behind.items c.push.new.self.items c.last_before.result c.loop-step.invariant
    (is_behind c.args.steps.now c.in_ok-ends.ends.items c.sort_unstable_by_key.new.self.items c.in_ok-ends.ensures c.sort_unstable_by_key.ensures.permutation
    (step_at c.args.steps.now c.loop-step.step).run c.last_before.result
    (subst (λ (ends : List (ℕ × ℕ)). IsEndBefore ends (step_at c.args.steps.now c.loop-step.step).run c.last_before.result) c.as_slice.ensures.value c.last_before.ensures))
    c.in_ok-push.ensures.items
