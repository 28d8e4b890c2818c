use Rattle.std.proofs.Common.{◌≡◌, take}
use Rattle.stream_view.specs.Markdown.{extent_of, kept_within}
use Rattle.stream_view.proofs.markdown.cutting.kept_of.Given as goal

abbrev pub invariant-loop-byte : goal.invariant-loop-byte
invariant-loop-byte l =
    (l.extent ≡ extent_of (take l.byte-index l.inside))
    × (l.kept ≡ kept_within l.headline l.lines l.inside l.byte-index)
