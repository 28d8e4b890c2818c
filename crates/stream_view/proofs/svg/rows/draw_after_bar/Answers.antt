use Rattle.stream_view.specs.declared.svg.markup_part.MarkupPart.TheVariants as markup_part
use Rattle.stream_view.specs.declared.svg.fragment.Fragment.TheVariants as fragment
use Rattle.stream_view.proofs.Growing.{on_ok}
use Rattle.stream_view.proofs.Parts.{ended_by}
use Rattle.stream_view.proofs.svg.rows.draw_after_bar.Goals as goal

pub returns : goal.returns
returns g c =
    on_ok c.send.result
    (λ sent. ended_by (markup_part.Fixed fragment.GroupEnd) c.push_after_bar.new.markup.parts.items c.fixed.new.self.parts.items _ _ (c.fixed.ensures sent.0).1 sent.1)
    c.send.ensures
