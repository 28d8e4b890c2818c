use Rattle.std.proofs.Common.{Option, ap, sym, option_map, ◌∙◌}
use Rattle.input_validate.specs.ObjectNames.{name_view}
use Rattle.input_validate.specs.PlanFindings.{first_named}
use Rattle.input_validate.specs.declared.plan.object_name.ObjectName.{ObjectName}
use Rattle.input_validate.proofs.FirstNames.{first_is}
use Rattle.input_validate.proofs.against_plan.first_named.FirstNamed.get.Goals as goal

pub returns-in-Some : goal.returns-in-Some
returns-in-Some c names has =
    c.copied.ensures ∙ c.get.ensures.value ∙ first_is c.args.self.now.numbers names c.in-Some.name has
    ∙ ap (λ (name : Option ObjectName). first_named names (option_map name_view name)) (sym c.in-Some.is)
