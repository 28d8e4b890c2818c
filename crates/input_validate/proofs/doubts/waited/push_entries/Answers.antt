use Rattle.std.proofs.Common.{◌≡◌, ◌+◌, ◌++◌, List, ap, drop, map, option_map, sym, ◌∙◌, arith}
use Rattle.std.specs.List.{flat_map}
use Rattle.serde_json.specs.Data.{Data}
use Rattle.serde_json.specs.View.{view}
use Rattle.input_validate.specs.declared.findings.name.Name.TheVariants as name
use Rattle.input_validate.specs.Doubts.{named_in_entry, named_in_step}
use Rattle.input_validate.specs.ObjectNames.{name_view}
use Rattle.input_validate.specs.Rules.{items_at}
use Rattle.input_validate.proofs.Mapped.{flat_map-drop_more, part_added}
use Rattle.input_validate.proofs.Trees.{listed}
use Rattle.input_validate.proofs.doubts.waited.push_entries.Goals as goal

pub loop-entry-preserved : goal.loop-entry-preserved
loop-entry-preserved c =
    let values = c.args.entries.now in
    let i = c.loop-entry.entry-index in
    let own = named_in_entry (view c.entry-item.result) in
    let rest = flat_map named_in_entry (map view (drop (i + 1) values)) in
    let old = map (option_map name_view) c.loop-entry.names.items in
    let same : map view c.items_at.result.now ≡ items_at name.Steps (view c.entry-item.result) = sym (listed c.items_at.result.now) ∙ c.items_at.ensures in
    part_added old own rest (map (option_map name_view) c.push_steps.new.names.items) _ (c.in_ok-push_steps.ensures ∙ ap (λ (ds : List Data). old ++ flat_map named_in_step ds) same)
    (ap (λ more. old ++ more) (sym (flat_map-drop_more named_in_entry values i c.entry-item.result (omega arith) c.entry-item.is)) ∙ c.loop-entry.invariant)
