use Rattle.std.proofs.Common.{[], None, ap, refl, subst, ◌∙◌, arith}
use Rattle.std.proofs.lemmas.List.{length-set, nil_from_length}
use Rattle.apply_plan.specs.Script.EntriesView.{AreCovered}
use Rattle.apply_plan.specs.Script.OutcomeMap.{by_number}
use Rattle.apply_plan.proofs.Scripts.Forgotten.{last_within, none_left, without_last}
use Rattle.apply_plan.proofs.script.entries.clear_outcomes.Goals as goal

pub loop-change-init : goal.loop-change-init
loop-change-init c = (c.requires, refl)

pub bounds-outcomes-change : goal.bounds-outcomes-change
bounds-outcomes-change c = last_within c.loop-change.outcomes c.loop-change.step_counts.items c.pop.new.self.items (c.in-Some.change, c.in-Some._steps) c.in-Some.ensures.items c.loop-change.invariant.0

pub loop-change-preserved-in-Some : goal.loop-change-preserved-in-Some
loop-change-preserved-in-Some c = (
  without_last c.loop-change.outcomes c.loop-change.step_counts.items c.pop.new.self.items (c.in-Some.change, c.in-Some._steps) c.in-Some.ensures.items c.loop-change.invariant.0,
  length-set c.loop-change.outcomes c.in-Some.change None ∙ c.loop-change.invariant.1,
)

pub returns-clause-outcomes : goal.returns-clause-outcomes
returns-clause-outcomes c =
    let l = c.loop-change in
    let none = nil_from_length l.step_counts.items (omega (arith, c.in_default.ensures.cases.0, l.step_counts.ok.0)) in
    none_left l.outcomes (subst (λ step_counts. AreCovered l.outcomes step_counts) none l.invariant.0) ∙ ap (λ n. by_number n []) l.invariant.1
