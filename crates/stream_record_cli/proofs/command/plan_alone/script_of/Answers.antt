use Rattle.std.proofs.Common.{◌∙◌, Bor, List, Global, Option, Some, Vec, ap, subst, sym, ℕ}
use Rattle.std.specs.Option.{option_copied}
use Rattle.std.proofs.lemmas.Result.{err_from_is_err_and}
use Rattle.input_graph.specs.AllWaits.{lists_in}
use Rattle.stream_record_cli.specs.Alone.{plan_script}
use Rattle.stream_record_cli.specs.Graphs.{AreWaitsIn}
use Rattle.stream_record_cli.proofs.Refused.{made, unmade}
use Rattle.stream_record_cli.proofs.command.plan_alone.script_of.Goals as goal

pub returns-in_err-script_with-in-Some-clause-err : goal.returns-in_err-script_with-in-Some-clause-err
returns-in_err-script_with-in-Some-clause-err c =
    let p = err_from_is_err_and c.from_residual-in_err-script_with-in-Some.result c.from_residual-in_err-script_with-in-Some.ensures.1 in
    let changes = c.in-Ok.plan.changes in
    rw (p.1, p.2)
    (unmade c.args.plan.now c.in-Ok.plan c.in-Ok.ensures.ok (option_copied c.args.graph) (Some (lists_in c.in_ok-waits-in-Some.waits.items)) _
    (subst (λ (graph : Option (Bor (List ℕ))). AreWaitsIn changes (option_copied graph) (Some (lists_in c.in_ok-waits-in-Some.waits.items))) (sym c.in-Some.is) c.in_ok-waits-in-Some.ensures.ok)
    (λ known. ap (λ (waits : List (Vec ℕ Global)). plan_script changes (lists_in waits)) (sym c.deref.ensures.value) ∙ c.in_err-script_with-in-Some.ensures.err known))

pub returns-in-Some-clause-ok : goal.returns-in-Some-clause-ok
returns-in-Some-clause-ok c =
    let changes = c.in-Ok.plan.changes in
    made c.args.plan.now c.in-Ok.plan c.in-Ok.ensures.ok (option_copied c.args.graph) (Some (lists_in c.in_ok-waits-in-Some.waits.items)) _
    (subst (λ (graph : Option (Bor (List ℕ))). AreWaitsIn changes (option_copied graph) (Some (lists_in c.in_ok-waits-in-Some.waits.items))) (sym c.in-Some.is) c.in_ok-waits-in-Some.ensures.ok)
    (ap (λ (waits : List (Vec ℕ Global)). plan_script changes (lists_in waits)) (sym c.deref.ensures.value) ∙ c.in_ok-script_with-in-Some.ensures.ok)
