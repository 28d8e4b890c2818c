use Rattle.std.proofs.Common.{◌≡◌, ◌∙◌, refl, sym, true, false}
use Rattle.stream_view.proofs.command.form.form_but_svg.Goals as goal

pub returns-then-is_given : goal.returns-then-is_given
returns-then-is_given c = record {
  json = λ says. refl;
  others = λ says. let bad : true ≡ false = sym c.if-is_given.true ∙ c.is_given.ensures.no says in cc;
}

pub returns-else-is_given : goal.returns-else-is_given
returns-else-is_given c = record {
  json = λ says. let bad : true ≡ false = sym (c.is_given.ensures.yes says) ∙ c.if-is_given.false in cc;
  others = λ says. c.form_for_people.ensures;
}
