use Rattle.std.proofs.Common.{◌≡◌, ◌∙◌, refl, sym, true, false}
use Rattle.stream_view.proofs.command.arguments.rows_of.Goals as goal

pub returns-then-is_given-clause-limit : goal.returns-then-is_given-clause-limit
returns-then-is_given-clause-limit c says =
    let bad : true ≡ false = sym c.if-is_given.true ∙ c.is_given.ensures.no says in
    cc

pub returns-else-is_given-clause-all : goal.returns-else-is_given-clause-all
returns-else-is_given-clause-all c says =
    let bad : true ≡ false = sym (c.is_given.ensures.yes says) ∙ c.if-is_given.false in
    cc

pub returns-else-is_given-clause-limit : goal.returns-else-is_given-clause-limit
returns-else-is_given-clause-limit c says = record {
  count = c.count_of.result;
  is = refl;
  stated = c.count_of.ensures.stated;
  none = c.count_of.ensures.none;
}
