-- A line after the refreshes that were not told yet.
use Rattle.std.specs.Prelude.{ℕ, List}
use Rattle.stream_watch.specs.RefreshRow.{reported_told}
use Rattle.stream_watch.specs.State.{State, Told, line_told, told_then}
use Rattle.stream_watch.specs.declared.looks.Looks.{Looks}
use Rattle.stream_watch.specs.declared.mark.Mark.{Mark}

abbrev pub told_after_refreshes : Looks → Mark → (text : List ℕ) → State → Told
told_after_refreshes looks mark text state =
    told_then (reported_told looks state) (λ told. line_told looks told mark text)
