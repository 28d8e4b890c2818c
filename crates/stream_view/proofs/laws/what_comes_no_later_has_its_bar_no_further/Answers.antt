use Rattle.std.proofs.Common.{ℕ, ◌≤◌, ◌-◌, arith}
use Rattle.std.specs.Int.{int_gap}
use Rattle.stream_timeline.specs.Bars.{place_on}
use Rattle.stream_timeline.specs.Intervals.{span_of, until_of}
use Rattle.stream_timeline.proofs.BarLaws.{place_rises}
use Rattle.stream_view.specs.Markup.{Axis, x_at}
use Rattle.stream_view.proofs.laws.what_comes_no_later_has_its_bar_no_further.Goals as goal

rises : (axis : Axis) (span sooner later : ℕ) → sooner ≤ later → x_at axis span sooner ≤ x_at axis span later
rises axis span sooner later no_later =
    let placed : place_on (axis.right - axis.left) span sooner ≤ place_on (axis.right - axis.left) span later =
    place_rises (axis.right - axis.left) span sooner later no_later in
    omega (arith, placed)

pub returns-clause-begin : goal.returns-clause-begin
returns-clause-begin c = λ axis time_range sooner later no_later.
    rises axis (span_of time_range) (int_gap time_range.first sooner.begin) (int_gap time_range.first later.begin) no_later

pub returns-clause-end : goal.returns-clause-end
returns-clause-end c = λ axis time_range sooner later no_later.
    rises axis (span_of time_range) (int_gap time_range.first (until_of time_range sooner)) (int_gap time_range.first (until_of time_range later)) no_later
