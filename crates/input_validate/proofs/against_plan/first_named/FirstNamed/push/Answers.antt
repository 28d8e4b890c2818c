use Rattle.std.proofs.Common.{◌∷◌, ◌++◌, [], Option, option_map, subst, sym, ◌∙◌}
use Rattle.input_validate.specs.ObjectNames.{name_view}
use Rattle.input_validate.specs.declared.plan.object_name.ObjectName.{ObjectName}
use Rattle.input_validate.proofs.FirstNames.{HasFirst, again_more, new_more, nothing_more}
use Rattle.input_validate.proofs.against_plan.first_named.FirstNamed.push.Goals as goal

pub returns-in_default : goal.returns-in_default
returns-in_default c names has counted =
    subst (λ (name : Option ObjectName). HasFirst c.args.self.now.numbers (names ++ option_map name_view name ∷ [])) (sym c.in_default.is)
    (nothing_more c.args.self.now.numbers names has)

pub returns-then-contains_key : goal.returns-then-contains_key
returns-then-contains_key c names has counted =
    subst (λ (name : Option ObjectName). HasFirst c.args.self.now.numbers (names ++ option_map name_view name ∷ [])) (sym c.in-Some.is)
    (again_more c.args.self.now.numbers names c.in-Some.name has (sym c.contains_key.ensures ∙ c.if-contains_key.true))

pub returns : goal.returns
returns c names has counted =
    subst (λ (name : Option ObjectName). HasFirst c.insert.new.self (names ++ option_map name_view name ∷ [])) (sym c.in-Some.is)
    (new_more c.args.self.now.numbers c.insert.new.self names c.in-Some.name c.args.number has (sym c.contains_key.ensures ∙ c.if-contains_key.false) counted c.in_ok-insert.ensures.updates)
