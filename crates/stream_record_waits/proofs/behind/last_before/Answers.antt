use Rattle.std.proofs.Common.{rules, ◌≡◌, ◌<◌, ◌-◌, get_or, None, Option, Some, arith, ltb, sym, subst, ℕ}
use Rattle.std.proofs.lemmas.List.Sorted.{IsPartitionPoint-from_clause, IsPartitionedBy-ltb}
use Rattle.stream_record_waits.specs.declared.step_of_plan.StepRun.{StepRun}
use Rattle.stream_record_waits.specs.Ends.{IsEndBefore}
use Rattle.stream_record_waits.proofs.Ends.{none_last, some_last}
use Rattle.stream_record_waits.proofs.behind.last_before.Goals as goal

pub returns-then-count-eq0 : goal.returns-then-count-eq0
returns-then-count-eq0 c =
    let line = c.in_ok-run.run'.line in
    let is : c.args.step.run ≡ Some c.in_ok-run.run' = c.in_ok-run.was in
    let parted = IsPartitionedBy-ltb (λ (end : ℕ × ℕ). end.0) c.args.ends.now line c.requires in
    let point = IsPartitionPoint-from_clause (λ (end : ℕ × ℕ). ltb end.0 line) _ _ c.partition_point-count.ensures.partitioned parted (λ a r q k. search rules) in
    subst (λ (run : Option StepRun). IsEndBefore c.args.ends.now run None) (sym is) (none_last c.args.ends.now line c.partition_point-count.result point c.if-count-eq0.true)

pub returns-else-count-eq0 : goal.returns-else-count-eq0
returns-else-count-eq0 c =
    let line = c.in_ok-run.run'.line in
    let is : c.args.step.run ≡ Some c.in_ok-run.run' = c.in_ok-run.was in
    let parted = IsPartitionedBy-ltb (λ (end : ℕ × ℕ). end.0) c.args.ends.now line c.requires in
    let point = IsPartitionPoint-from_clause (λ (end : ℕ × ℕ). ltb end.0 line) _ _ c.partition_point-count.ensures.partitioned parted (λ a r q k. search rules) in
    let some : 0 < c.partition_point-count.result = omega arith in
    subst (λ (run : Option StepRun). IsEndBefore c.args.ends.now run (Some (get_or c.args.ends.now (c.partition_point-count.result - 1) (0, 0)).1)) (sym is)
    (some_last c.args.ends.now line c.partition_point-count.result point (0, 0) some c.partition_point-count.ensures.bound c.requires)
