use Rattle.std.proofs.Common.{◌≡◌, ◌<◌, List, length, true, ap, sym, ◌∙◌, arith}
use Rattle.std.specs.Prelude.{nat_lt}
use Rattle.std.proofs.lemmas.Bool.{lt-ltb}
use Rattle.std.proofs.lemmas.Result.{IfOk-weaker}
use Rattle.serde_json.specs.Data.{Data}
use Rattle.serde_json.specs.View.{items_view, view}
use Rattle.apply_json.specs.Tree.{list_of}
use Rattle.input_validate.specs.AgainstPlan.{beyond_at, waits_beyond, waits_in}
use Rattle.input_validate.specs.Findings.{reported}
use Rattle.input_validate.proofs.Trees.{beyond_here, beyond_none, listed}
use Rattle.input_validate.proofs.against_plan.waits.walk_beyond.Goals as goal

pub returns-then-count-left : goal.returns-then-count-left
returns-then-count-left c =
    let steps = c.args.steps.now in
    let below : c.loop-number.number < length steps = omega arith in
    let over : nat_lt c.loop-number.left (waits_in (view c.index-steps-number.result)) ≡ true =
    ap (nat_lt c.loop-number.left) (sym c.count_at-count.ensures) ∙ lt-ltb c.loop-number.left c.count_at-count.result c.if-count-left.true in
    let here : waits_beyond c.args.most 0 (list_of (items_view steps)) ≡ beyond_at c.loop-number.number c.loop-number.left =
    ap (λ (ds : List Data). waits_beyond c.args.most 0 ds) (listed steps) ∙ c.loop-number.invariant
    ∙ beyond_here c.loop-number.left c.loop-number.number steps c.index-steps-number.result below c.index-steps-number.is over in
    IfOk-weaker c.beyond.result _ _ (λ f is. is ∙ ap reported (sym here)) c.beyond.ensures

pub returns : goal.returns
returns c =
    let steps = c.args.steps.now in
    c.none.ensures ∙ ap reported (sym (ap (λ (ds : List Data). waits_beyond c.args.most 0 ds) (listed steps) ∙ c.loop-number.invariant
    ∙ beyond_none c.loop-number.left c.loop-number.number steps (omega arith)))
