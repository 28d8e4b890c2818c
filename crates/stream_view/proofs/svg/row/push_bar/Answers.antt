use Rattle.std.proofs.Common.{◌∙◌, ◌∷◌, ◌++◌, [], List, ap, ap₂}
use Rattle.stream_view.specs.Kinds.{kind_name, kind_of}
use Rattle.stream_view.specs.declared.svg.markup_part.MarkupPart.{MarkupPart}
use Rattle.stream_view.specs.declared.svg.markup_part.MarkupPart.TheVariants as markup_part
use Rattle.stream_view.specs.declared.svg.fragment.Fragment.{Fragment}
use Rattle.stream_view.specs.declared.svg.fragment.Fragment.TheVariants as fragment
use Rattle.stream_view.proofs.Parts.{parts_more}
use Rattle.stream_view.proofs.svg.row.push_bar.Goals as goal

pub returns : goal.returns
returns c =
    let bar = c.args.bar in
    let parts : Fragment → Fragment → List MarkupPart = λ kind end.
    markup_part.Fixed fragment.RectX ∷ markup_part.Tenths bar.left ∷ markup_part.Fixed fragment.Y ∷ markup_part.Number bar.top ∷ markup_part.Fixed fragment.Width ∷ markup_part.Tenths bar.width
    ∷ markup_part.Fixed fragment.Height ∷ markup_part.Number 12 ∷ markup_part.Fixed fragment.RoundedClass ∷ markup_part.Fixed kind ∷ markup_part.Fixed end ∷ [] in
    let name = c.name-kind.ensures ∙ ap kind_name (c.of.ensures ∙ ap kind_of c.action.ensures) in
    λ whole.
    let both = parts_more c.args.markup.now c.begin_box.new.self c.add.new.self _ _ c.begin_box.ensures c.add.ensures whole in
    (both.0, both.1 ∙ ap₂ (λ (kind end : Fragment). c.args.markup.now.parts.items ++ parts kind end) name c.end_of.ensures)
