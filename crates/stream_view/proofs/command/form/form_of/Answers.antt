use Rattle.std.proofs.Common.{◌≡◌, ◌∙◌, sym, true, false}
use Rattle.stream_view.proofs.command.form.form_of.Goals as goal

pub returns-then-is_given-clause-others : goal.returns-then-is_given-clause-others
returns-then-is_given-clause-others c says =
    let bad : true ≡ false = sym c.if-is_given.true ∙ c.is_given.ensures.no says in
    cc

pub returns-else-is_given-clause-svg : goal.returns-else-is_given-clause-svg
returns-else-is_given-clause-svg c says =
    let bad : true ≡ false = sym (c.is_given.ensures.yes says) ∙ c.if-is_given.false in
    cc

pub returns-else-is_given-clause-others : goal.returns-else-is_given-clause-others
returns-else-is_given-clause-others c says = c.form_but_svg.ensures
