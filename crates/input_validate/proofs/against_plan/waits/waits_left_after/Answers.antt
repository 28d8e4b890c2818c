use Rattle.std.proofs.Common.{◌≡◌, ◌+◌, ◌≤◌, ℕ, ap, sym, ◌∙◌, take, get_or, arith}
use Rattle.std.specs.List.{sum_by}
use Rattle.std.proofs.lemmas.Bool.{lt-ltb}
use Rattle.std.proofs.lemmas.List.{take_all}
use Rattle.std.proofs.lemmas.List.Sums.{sum_by_more_le}
use Rattle.serde_json.specs.View.{items_view, view}
use Rattle.serde_json.specs.declared.value.Value.{Value}
use Rattle.apply_json.specs.Tree.{list_of}
use Rattle.input_validate.specs.AgainstPlan.{waits_in}
use Rattle.input_validate.proofs.WaitsLeft.{after_left, after_over}
use Rattle.input_validate.proofs.Trees.{sum_listed}
use Rattle.input_validate.proofs.against_plan.waits.waits_left_after.Goals as goal

pub returns-then-count-left : goal.returns-then-count-left
returns-then-count-left c =
    let steps = c.args.steps.now in
    let whole : sum_by waits_in (list_of (items_view steps)) ≡ sum_by (λ v. waits_in (view v)) steps = sum_listed waits_in steps in
    let more : sum_by (λ v. waits_in (view v)) (take c.loop-step.step-index steps) + waits_in (view (get_or steps c.loop-step.step-index c.step-item.result)) ≤ sum_by (λ v. waits_in (view v)) steps =
    sum_by_more_le (λ v. waits_in (view v)) steps c.loop-step.step-index c.step-item.result c.loop-step-test.true in
    let count : c.count_at-count.result ≡ waits_in (view (get_or steps c.loop-step.step-index c.step-item.result)) =
    c.count_at-count.ensures ∙ ap (λ (v : Value). waits_in (view v)) c.step-item.is in
    let left : c.loop-step.left + sum_by (λ v. waits_in (view v)) (take c.loop-step.step-index steps) ≡ c.args.most = c.loop-step.invariant in
    after_over c.args.most (list_of (items_view steps)) (lt-ltb c.args.most (sum_by waits_in (list_of (items_view steps))) (omega arith))

pub returns : goal.returns
returns c =
    let steps = c.args.steps.now in
    let all : sum_by (λ v. waits_in (view v)) (take c.loop-step.step-index steps) ≡ sum_by waits_in (list_of (items_view steps)) =
    ap (sum_by (λ (v : Value). waits_in (view v))) (take_all c.loop-step.step-index steps (omega arith)) ∙ sym (sum_listed waits_in steps) in
    after_left c.args.most c.loop-step.left (list_of (items_view steps)) (ap (λ (n : ℕ). c.loop-step.left + n) (sym all) ∙ c.loop-step.invariant)
