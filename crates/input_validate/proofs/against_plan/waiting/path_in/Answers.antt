use Rattle.std.proofs.Common.{◌≡◌, List, map, ap, sym, ◌∙◌}
use Rattle.std.specs.Option.{option_copied}
use Rattle.std.proofs.lemmas.Result.{IfOk-weaker}
use Rattle.serde_json.specs.Data.{Data}
use Rattle.serde_json.specs.View.{view}
use Rattle.input_validate.specs.declared.findings.name.Name.TheVariants as name
use Rattle.input_validate.specs.AgainstPlan.{path_in, path_to, step_waiting}
use Rattle.input_validate.specs.Rules.{items_at}
use Rattle.input_validate.proofs.Trees.{listed}
use Rattle.input_validate.proofs.against_plan.waiting.path_in.Goals as goal

pub returns : goal.returns
returns c =
    let d = view c.args.script.now in
    let entries = c.items_at-entries.result.now in
    let same : map view entries ≡ items_at name.Changes d = sym (listed entries) ∙ c.items_at-entries.ensures in
    let leads : path_to c.args.entry c.step_waiting.result ≡ path_in (option_copied c.args.planned) d c.args.entry =
    ap (path_to c.args.entry) (c.step_waiting.ensures ∙ ap (λ (ds : List Data). step_waiting (option_copied c.args.planned) ds c.args.entry) same) in
    IfOk-weaker c.path_to.result _ _ (λ path is. is ∙ leads) c.path_to.ensures
