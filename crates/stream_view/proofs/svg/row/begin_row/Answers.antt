use Rattle.std.proofs.Common.{◌∙◌, ℕ, ◌∷◌, [], ◌++◌, List, ap₂}
use Rattle.stream_view.specs.Markup.{shown_parts}
use Rattle.stream_view.specs.declared.svg.markup_part.MarkupPart.{MarkupPart}
use Rattle.stream_view.specs.declared.svg.markup_part.MarkupPart.TheVariants as markup_part
use Rattle.stream_view.specs.declared.svg.fragment.Fragment.TheVariants as fragment
use Rattle.stream_view.proofs.Parts.{parts_more}
use Rattle.stream_view.proofs.svg.row.begin_row.Goals as goal

pub returns : goal.returns
returns c = λ whole.
    let step = c.args.step.now in
    let begun = c.args.markup.now in
    let addressed = parts_more begun c.add.new.self c.shown.new.self _ _ c.add.ensures c.shown.ensures in
    let ended = parts_more begun c.shown.new.self c.fixed.new.self _ _ addressed c.fixed.ensures in
    let all = parts_more begun c.fixed.new.self c.shown-2.new.self _ _ ended c.shown-2.ensures whole in
    let parts : List ℕ → List ℕ → List MarkupPart = λ address action.
    (markup_part.Fixed fragment.GroupBegin ∷ markup_part.Fixed fragment.TitleBegin ∷ []) ++ shown_parts address ++ markup_part.Fixed fragment.NewLine ∷ [] ++ shown_parts action in
    (all.0, all.1 ∙ ap₂ (λ address action. begun.parts.items ++ parts address action) (c.as_bytes.ensures.value ∙ c.address.ensures) (c.as_bytes-2.ensures.value ∙ c.action.ensures))
