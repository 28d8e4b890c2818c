use Rattle.std.proofs.Common.{[], None, ap, length, refl, ◌∙◌, arith}
use Rattle.std.specs.Vec.{with_items}
use Rattle.std.proofs.lemmas.List.{with_items_is}
use Rattle.apply_plan.specs.Script.OutcomeMap.{by_number}
use Rattle.apply_plan.proofs.Scripts.Entries.{length-by_number}
use Rattle.apply_plan.proofs.Scripts.Forgotten.{all_covered}
use Rattle.apply_plan.proofs.Scripts.Read.{holds_none, long}
use Rattle.apply_plan.proofs.script.entries.Entries.forget.Goals as goal

pub clear_outcomes-requires : goal.clear_outcomes-requires
clear_outcomes-requires c = rw c.deref_mut.ensures.value (all_covered c.args.self.now c.requires.0 c.requires.1)

pub returns-clause-none : goal.returns-clause-none
returns-clause-none c =
    let holds = c.requires.1 in
    let outcomes = c.args.self.now.outcomes in
    let as_long = ap length c.clear_outcomes.ensures.outcomes ∙ length-by_number (length c.deref_mut.result.now) [] in
    let as_before = ap length c.deref_mut.ensures.value in
    holds_none (record c.args.self.now { outcomes = with_items outcomes c.clear_outcomes.new.outcomes; step_counts = c.clear_outcomes.new.step_counts; waits = 0; fault = None }) holds.few_changes holds.numbered
    (with_items_is outcomes c.clear_outcomes.new.outcomes (omega (arith, as_long, as_before, outcomes.ok.0))
    ∙ c.clear_outcomes.ensures.outcomes ∙ ap (λ n. by_number n []) (as_before ∙ long c.args.self.now c.requires.0 holds)) c.clear_outcomes.ensures.step_counts refl refl
