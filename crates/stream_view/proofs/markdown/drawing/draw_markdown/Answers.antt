use Rattle.std.proofs.Common.{subst, sym}
use Rattle.std.proofs.KnownBytes.{Appends-kept}
use Rattle.stream_view.specs.Markdown.{IsInside}
use Rattle.stream_view.proofs.markdown.drawing.draw_markdown.Goals as goal

pub returns : goal.returns
returns g c = record {
  inside = c.deref.result.now;
  is = subst (IsInside c.args.picture.now) (sym c.deref.ensures.value) c.in_ok-inside.ensures;
  written = Appends-kept _ _ _ _ (c.in_ok-write_markdown.ensures _ c.headline.ensures) c.in_ok-flush.ensures;
}
