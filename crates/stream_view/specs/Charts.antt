-- The columns of rows as contracts see them, for private clauses.
use Rattle.stream_view.specs.Rows.{Layout}
use Rattle.stream_view.specs.declared.text.chart.Chart.{Chart}

abbrev pub layout_in : Chart → Layout
layout_in chart = record { action = chart.action; label = chart.label; cells = chart.cells }
