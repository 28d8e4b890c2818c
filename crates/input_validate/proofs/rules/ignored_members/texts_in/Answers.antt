use Rattle.std.proofs.Common.{◌≡◌, Some, ap, sym, ◌∙◌}
use Rattle.std.proofs.lemmas.Result.{IfOk-weaker}
use Rattle.serde_json.specs.Find.{as_object}
use Rattle.serde_json.specs.View.{members_view, view}
use Rattle.input_validate.specs.Rules.{texts_in}
use Rattle.input_validate.proofs.Trees.{members_there}
use Rattle.input_validate.proofs.rules.ignored_members.texts_in.Goals as goal

pub returns-in-Some : goal.returns-in-Some
returns-in-Some c =
    let there : as_object (view c.args.value.now) ≡ Some (members_view c.in-Some.members.now.entries) = cc (c.in-Some.ensures) in
    IfOk-weaker c.texts_of.result _ _
    (λ texts is. is ∙ ap texts_in (sym (members_there (view c.args.value.now) (members_view c.in-Some.members.now.entries) there)))
    c.texts_of.ensures
