use Rattle.std.proofs.Common.{◌≤◌, ◌+◌, ap, arith, length}
use Rattle.stream_view.specs.declared.markdown.extent.Extent.{Extent}
use Rattle.stream_view.proofs.Extents.{extent-more, kept_all, kept_more, small_front}
use Rattle.stream_view.proofs.markdown.cutting.kept_of.Goals as goal

pub extent_after-extent-requires : goal.extent_after-extent-requires
extent_after-extent-requires c =
    let i = c.loop-byte.byte-index in
    let below : i ≤ length c.args.inside.now = omega arith in
    let room : i ≤ 18446744073709551614 = omega arith in
    small_front c.args.inside.now i c.loop-byte.extent below room c.loop-byte.invariant.0

pub kept_after-requires : goal.kept_after-requires
kept_after-requires c =
    let i = c.loop-byte.byte-index in
    let extent = c.extent_after-extent.result in
    let grown = extent-more c.args.inside.now i c.loop-byte.extent extent (omega arith) c.loop-byte.invariant.0 c.extent_after-extent.ensures in
    let below : i + 1 ≤ length c.args.inside.now = omega arith in
    let room : i + 1 ≤ 18446744073709551614 = omega arith in
    small_front c.args.inside.now (i + 1) extent below room grown

pub loop-byte-preserved : goal.loop-byte-preserved
loop-byte-preserved c =
    let i = c.loop-byte.byte-index in
    let extent = c.extent_after-extent.result in
    let grown = extent-more c.args.inside.now i c.loop-byte.extent extent (omega arith) c.loop-byte.invariant.0 c.extent_after-extent.ensures in (
      grown,
      kept_more c.args.headline c.extent_of-lines.result.lines c.args.inside.now i extent c.loop-byte.kept c.in_ok-kept.kept grown
          c.loop-byte.invariant.1 c.in_ok-kept.ensures,
    )

pub returns : goal.returns
returns c =
    let counted = ap (λ (extent : Extent). extent.lines) c.extent_of-lines.ensures in
    kept_all c.args.headline c.args.inside.now c.loop-byte.byte-index c.extent_of-lines.result.lines c.loop-byte.kept (omega arith) counted
    c.loop-byte.invariant.1
