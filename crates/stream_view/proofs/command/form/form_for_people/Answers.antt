use Rattle.std.proofs.Common.{◌≡◌, ◌∙◌, ap, refl, sym, true, false}
use Rattle.stream_view.specs.declared.command.settings.Form.TheVariants as form
use Rattle.stream_view.proofs.command.form.form_for_people.Goals as goal

pub returns-then-is_given : goal.returns-then-is_given
returns-then-is_given c = record {
  markdown = λ says. refl;
  text = λ says. let bad : true ≡ false = sym c.if-is_given.true ∙ c.is_given.ensures.no says in cc;
}

pub returns-else-is_given : goal.returns-else-is_given
returns-else-is_given c = record {
  markdown = λ says. let bad : true ≡ false = sym (c.is_given.ensures.yes says) ∙ c.if-is_given.false in cc;
  text = λ says. record {
    width = c.width_of.result;
    is = ap (form.Text c.width_of.result) c.colour_of.ensures;
    stated = c.width_of.ensures;
  };
}
