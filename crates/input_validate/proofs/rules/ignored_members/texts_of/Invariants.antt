use Rattle.std.proofs.Common.{◌≡◌, ◌++◌, map}
use Rattle.serde_json.specs.View.{members_view}
use Rattle.input_validate.specs.Rules.{texts_in}
use Rattle.input_validate.proofs.rules.ignored_members.texts_of.Given as goal

abbrev pub invariant-loop-name : goal.invariant-loop-name
invariant-loop-name l =
    map (λ text. text.now) l.texts.items ++ texts_in (members_view l.name-iterator) ≡ texts_in (members_view l.members.entries)
