use Rattle.std.proofs.Common.{◌<◌, arith}
use Rattle.apply_events.specs.Lanes.Dealing.{lanes as lists_of_lanes}
use Rattle.laws_run.proofs.runs.what_lanes_stream_is_a_run_of_workers.Goals as goal

pub returns : goal.returns
returns c work lanes capacity form report before after sizes none streamed =
    let some : 0 < lanes = (let low = sizes.some in omega arith) in
    let plain = (c.without_waits_changes_are_dealt_out.ensures work lanes streamed.events some none).0 streamed.run in
    record {
      events = streamed.events;
      run = record { lists = lists_of_lanes work lanes; applied = c.a_time_line_is_applied_by_workers.ensures work lanes streamed.events some plain };
      whole = streamed.whole;
    }
