-- Which steps get a row, and in which order.
use Rattle.std.specs.Prelude.{ℕ, List, Option}
use Rattle.stream_timeline.specs.declared.reading.time_range.TimeRange.{TimeRange}
use Rattle.stream_timeline.specs.declared.rows.choosing.Rows.{Rows}
use Rattle.stream_timeline.specs.Rows.{AreRowsOf}
use Rattle.stream_timeline.specs.RowsByLength.{AreRowsByLength}
use Rattle.stream_timeline.specs.Steps.{StepRead}
use Rattle.stream_view.specs.declared.row_choice.Sort.{Sort}
use Rattle.stream_view.specs.declared.row_choice.Sort.TheVariants as sort

-- the rows of these steps: in the order of their begins, or of their lengths
abbrev pub AreRowsIn : Sort → TimeRange → List StepRead → (limit : Option ℕ) → Rows → Type 0
AreRowsIn sort.Begin time_range steps limit rows = AreRowsOf time_range steps limit rows
AreRowsIn sort.Length time_range steps limit rows = AreRowsByLength time_range steps limit rows
