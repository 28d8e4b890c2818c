use Rattle.std.specs.Prelude.{is_some}
use Rattle.stream_check.proofs.Statuses.{fault_silent, whole_silent}
use Rattle.stream_check.proofs.command.checking.check_reader.Goals as goal

pub invariant_of-checker : goal.invariant_of-checker
invariant_of-checker g c = record { small = c.check_with.new.checker.small }

pub returns-in-Ok : goal.returns-in-Ok
returns-in-Ok g c = record {
  judged = record {
    judged = c.in-Ok.ensures.answer;
    reported = c.report_whole.ensures.reported (is_some c.args.settings.now.file) (g.R.Read.remaining c.args.reader.now) c.args.mode;
  };
  silent = whole_silent c.in-Ok.whole c.report_whole.result c.report_whole.ensures.quiet c.report_whole.ensures.gone;
}

pub invariant_of-checker-2 : goal.invariant_of-checker-2
invariant_of-checker-2 g c = record { small = c.check_with.new.checker.small }

pub returns : goal.returns
returns g c = record {
  judged = record {
    judged = c.in-Err.ensures.answer;
    reported = c.report_fault.ensures.reported (g.R.Read.remaining c.args.reader.now) c.in-Err.ensures.stops;
  };
  silent = fault_silent c.in-Err.fault c.report_fault.result c.report_fault.ensures.gone;
}
