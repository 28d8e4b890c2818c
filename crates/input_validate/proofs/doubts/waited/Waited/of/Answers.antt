use Rattle.std.proofs.Common.{◌≡◌, ◌++◌, List, Option, ap, map, option_map, sym, ◌∙◌}
use Rattle.std.specs.List.{flat_map}
use Rattle.serde_json.specs.Data.{Data}
use Rattle.serde_json.specs.View.{view}
use Rattle.input_validate.specs.declared.findings.name.Name.TheVariants as name
use Rattle.input_validate.specs.declared.plan.object_name.ObjectName.{ObjectName}
use Rattle.input_validate.specs.Doubts.{named_in_entry}
use Rattle.input_validate.specs.ObjectNames.{name_view}
use Rattle.input_validate.specs.Rules.{items_at}
use Rattle.input_validate.proofs.Trees.{listed}
use Rattle.input_validate.proofs.doubts.waited.Waited.of.Goals as goal

pub returns : goal.returns
returns c =
    let values = c.items_at.result.now in
    let same : map view values ≡ items_at name.Changes (view c.args.script.now) = sym (listed values) ∙ c.items_at.ensures in
    c.in_ok-push_entries.ensures
    ∙ ap (λ (old : List (Option ObjectName)). map (option_map name_view) old ++ flat_map named_in_entry (map view values)) c.new-names.ensures.items
    ∙ ap (λ (ds : List Data). flat_map named_in_entry ds) same
