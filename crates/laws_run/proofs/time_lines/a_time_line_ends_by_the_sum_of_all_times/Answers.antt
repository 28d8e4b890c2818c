use Rattle.std.proofs.Common.{◌≤◌, length, arith}
use Rattle.std.specs.List.{Contains}
use Rattle.std.proofs.lemmas.List.Elements.{All-contains_itself, All-weaker}
use Rattle.apply_events.specs.Waits.Schedule.{schedule}
use Rattle.apply_events.specs.Waits.Turn.{turns}
use Rattle.apply_events.proofs.Waits.Ends.{ends_by_total}
use Rattle.apply_events.proofs.Waits.Located.{answer}
use Rattle.laws_run.specs.WaitingSteps.{time_of_all}
use Rattle.laws_run.proofs.time_lines.a_time_line_ends_by_the_sum_of_all_times.Goals as goal

pub returns : goal.returns
returns c w n events some line =
    All-weaker (Contains events) (λ e. e.at ≤ time_of_all w (schedule w n))
    (λ e there.
    let its = answer w n (schedule w n) events line.interleaved e there in
    let last = its.of.last.0 in let ends = ends_by_total w n some (length (turns w)) its.one its.there in omega arith)
    events (All-contains_itself events)
