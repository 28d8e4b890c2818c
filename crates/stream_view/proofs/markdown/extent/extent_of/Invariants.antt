use Rattle.std.proofs.Common.{◌≡◌, take}
use Rattle.stream_view.specs.Markdown.{extent_of}
use Rattle.stream_view.proofs.markdown.extent.extent_of.Given as goal

abbrev pub invariant-loop-byte : goal.invariant-loop-byte
invariant-loop-byte l = l.extent ≡ extent_of (take l.byte-index l.text)
