use Rattle.std.proofs.Common.{List, ap, sym, ◌∙◌}
use Rattle.std.specs.List.{position_from}
use Rattle.std.specs.Option.{option_copied}
use Rattle.serde_json.specs.Data.{Data}
use Rattle.input_validate.specs.AgainstPlan.{is_waiting}
use Rattle.input_validate.proofs.Trees.{listed}
use Rattle.input_validate.proofs.against_plan.waiting.first_waiting.Goals as goal

pub returns : goal.returns
returns c =
    c.first_of.ensures
    ∙ ap (λ (ds : List Data). position_from (is_waiting (option_copied c.args.planned)) 0 ds) (sym (listed c.items_at.result.now) ∙ c.items_at.ensures)
