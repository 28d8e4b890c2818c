-- The axis of an SVG as contracts see it, for private clauses.
use Rattle.stream_view.specs.Markup.{Axis}
use Rattle.stream_view.specs.declared.svg.scale.Scale.{Scale}

abbrev pub axis_in : Scale → Axis
axis_in scale = record { left = scale.left; right = scale.right }
