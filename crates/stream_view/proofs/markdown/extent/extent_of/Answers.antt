use Rattle.std.proofs.Common.{◌≤◌, length, arith}
use Rattle.stream_view.proofs.Extents.{small_front}
use Rattle.stream_view.proofs.markdown.extent.extent_of.Goals as goal

pub extent_after-extent-requires : goal.extent_after-extent-requires
extent_after-extent-requires c =
    let text = c.args.text.now in
    let i = c.loop-byte.byte-index in
    let below : i ≤ length text = omega arith in
    let room : i ≤ 18446744073709551614 = omega arith in
    small_front text i c.loop-byte.extent below room c.loop-byte.invariant
