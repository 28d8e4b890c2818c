use Rattle.std.proofs.Common.{◌∙◌, ◌++◌, ap, subst, sym}
use Rattle.stream_view.specs.Markdown.{IsInside}
use Rattle.stream_view.proofs.markdown.inside.inside_of.Goals as goal

pub returns-in-Ok : goal.returns-in-Ok
returns-in-Ok c =
    let drawn = c.in-Ok.ensures in
    subst (IsInside c.args.picture.now) (sym (drawn.written ∙ ap (λ bytes. bytes ++ drawn.inside) c.new-inside.ensures.items)) drawn.is
