use Rattle.std.proofs.Common.{[], ap, sym, ◌∙◌}
use Rattle.std.specs.Option.{option_map_or}
use Rattle.apply_json.specs.Tree.{items_or_empty, list_of}
use Rattle.stream_watch.proofs.Items.{view_listed}
use Rattle.stream_watch.proofs.rows.snippet.items_of.Goals as goal

pub returns-in-Some : goal.returns-in-Some
returns-in-Some c =
    sym (view_listed c.in-Some.items.now)
    ∙ ap (λ items. option_map_or list_of items []) (c.in-Some.ensures ∙ ap items_or_empty c.member.ensures)
