use Rattle.std.proofs.Common.{◌≡◌, take, string_bytes}
use Rattle.std.specs.List.{flat_map}
use Rattle.stream_view.specs.Markup.{markup_part_bytes}
use Rattle.stream_view.proofs.svg.markup.text_of.Given as goal

abbrev pub invariant-loop-markup_part : goal.invariant-loop-markup_part
invariant-loop-markup_part l = string_bytes l.text ≡ flat_map markup_part_bytes (take l.markup_part-index l.parts)
