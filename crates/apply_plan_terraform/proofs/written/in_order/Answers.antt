use Rattle.std.proofs.Common.{◌≡◌, ◌++◌, [], option_map, string_bytes, refl, sym, ap, ◌∙◌, rules, arith, append_assoc, append-nil}
use Rattle.std.specs.Vec.Iter.{into_iter_items}
use Rattle.std.proofs.lemmas.Grind.{common_steps}
use Rattle.serde_json.specs.View.{view}
use Rattle.apply_plan_terraform.specs.InOrder.{outputs_written, output_if_written}
use Rattle.apply_plan_terraform.specs.StoredOutputs as stored
use Rattle.apply_plan_terraform.proofs.written.in_order.Goals as goal

pub loop-name-init : goal.loop-name-init
loop-name-init c =
    let given = c.into_iter-name-iterator.ensures.into_iter_gives.0 in (
      rw (given, c.in_ok-outputs.ensures.items) refl,
      grind (arith, common_steps),
    )

pub loop-name-preserved : goal.loop-name-preserved
loop-name-preserved c =
    let changes = option_map (λ value. view value.now) c.args.changes in
    let l = c.loop-name in
    let one = output_if_written changes (string_bytes c.in-Some.name) (stored.view c.in-Some.output) in
    let rest = into_iter_items c.next.new.self in
    let grown : c.push_if_written.new.outputs.items ≡ l.outputs.items ++ one = search rules in (
      l.invariant.0 ∙ ap (λ outputs. l.outputs.items ++ outputs_written changes outputs) c.in-Some.ensures.steps.0
          ∙ sym (append_assoc l.outputs.items one (outputs_written changes rest)) ∙ ap (λ outputs. outputs ++ outputs_written changes rest) (sym grown),
      grind (arith, common_steps),
    )

pub returns : goal.returns
returns c =
    let changes = option_map (λ value. view value.now) c.args.changes in
    let l = c.loop-name in
    let none : into_iter_items l.name-iterator ≡ [] = grind (arith, common_steps) in
    sym (l.invariant.0 ∙ ap (λ outputs. l.outputs.items ++ outputs_written changes outputs) none ∙ append-nil l.outputs.items)
