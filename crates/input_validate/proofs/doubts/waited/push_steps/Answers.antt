use Rattle.std.proofs.Common.{◌≡◌, ◌+◌, ◌++◌, List, ap, drop, map, option_map, sym, ◌∙◌, arith}
use Rattle.std.specs.List.{flat_map}
use Rattle.serde_json.specs.Data.{Data}
use Rattle.serde_json.specs.View.{view}
use Rattle.input_validate.specs.declared.findings.name.Name.TheVariants as name
use Rattle.input_validate.specs.AgainstPlan.{object_named}
use Rattle.input_validate.specs.Doubts.{named_in_step}
use Rattle.input_validate.specs.ObjectNames.{name_view}
use Rattle.input_validate.specs.Rules.{items_at}
use Rattle.input_validate.proofs.Mapped.{flat_map-drop_more, part_added}
use Rattle.input_validate.proofs.Trees.{listed}
use Rattle.input_validate.proofs.doubts.waited.push_steps.Goals as goal

pub loop-step-preserved : goal.loop-step-preserved
loop-step-preserved c =
    let values = c.args.steps.now in
    let i = c.loop-step.step-index in
    let own = named_in_step (view c.step-item.result) in
    let rest = flat_map named_in_step (map view (drop (i + 1) values)) in
    let old = map (option_map name_view) c.loop-step.names.items in
    let same : map view c.items_at.result.now ≡ items_at name.After (view c.step-item.result) = sym (listed c.items_at.result.now) ∙ c.items_at.ensures in
    part_added old own rest (map (option_map name_view) c.push_items.new.names.items) _ (c.in_ok-push_items.ensures ∙ ap (λ (ds : List Data). old ++ map object_named ds) same)
    (ap (λ more. old ++ more) (sym (flat_map-drop_more named_in_step values i c.step-item.result (omega arith) c.step-item.is)) ∙ c.loop-step.invariant)
