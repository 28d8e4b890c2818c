use Rattle.std.proofs.Common.{◌≡◌, ◌∙◌, ◌-◌, ap}
use Rattle.stream_view.specs.Markdown.{line_count}
use Rattle.stream_view.specs.declared.markdown.extent.Extent.{Extent}
use Rattle.stream_view.proofs.Comments.{kept_written}
use Rattle.stream_view.proofs.Growing.{on_ok}
use Rattle.stream_view.proofs.markdown.writing.write_kept.Goals as goal

pub returns : goal.returns
returns g c =
    let kept = c.args.kept in
    let more : c.saturating_sub-more.result ≡ line_count c.args.inside.now - kept.lines =
    c.saturating_sub-more.ensures ∙ ap (λ (extent : Extent). extent.lines - kept.lines) c.extent_of.ensures in
    on_ok c.write_message-2.result
    (λ back. kept_written c.args.headline.now c.args.inside.now kept c.fence_len.result c.fence_len-2.result c.saturating_sub-more.result _ _ _ _
    c.fence_len.ensures c.fence_len-2.ensures more (c.in_ok-write_message.ensures _ c.front_of.ensures) c.in_ok-write_bytes.ensures back)
    (c.write_message-2.ensures _ c.back_of.ensures)
