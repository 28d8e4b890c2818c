use Rattle.std.proofs.Common.{◌≡◌, ◌∙◌, ◌≤◌, arith, length, true}
use Rattle.stream_view.proofs.Comments.{words_written}
use Rattle.stream_view.proofs.Extents.{kept_front, small_front}
use Rattle.stream_view.proofs.Growing.{on_ok}
use Rattle.stream_view.proofs.markdown.writing.write_markdown.Goals as goal

pub write_kept-requires-clause-within : goal.write_kept-requires-clause-within
write_kept-requires-clause-within g c = (kept_front _ c.args.inside.now c.in_ok-kept.kept c.in_ok-kept.ensures).len

pub write_kept-requires-clause-small : goal.write_kept-requires-clause-small
write_kept-requires-clause-small g c =
    let kept = c.in_ok-kept.kept in
    let front = kept_front _ c.args.inside.now kept c.in_ok-kept.ensures in
    let below : kept.len ≤ length c.args.inside.now = front.len in
    let room : kept.len ≤ 18446744073709551614 = omega (arith, below) in
    small_front c.args.inside.now kept.len kept below room front.is

pub returns : goal.returns
returns g c = λ words has.
    let whole : c.args.headline.now.is_whole ≡ true = grind arith in
    let is = has whole in
    on_ok c.write_kept.result
    (λ written. words_written words c.as_bytes.result.now c.as_bytes-2.result.now c.args.inside.now c.in_ok-kept.kept _ _ (c.as_bytes.ensures ∙ is)
    (c.as_bytes-2.ensures ∙ is) c.in_ok-kept.ensures written) c.write_kept.ensures
