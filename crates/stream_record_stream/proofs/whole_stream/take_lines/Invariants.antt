use Rattle.stream_record_stream.proofs.FromReader.{Leads}
use Rattle.stream_record_stream.proofs.PlanKept.{IsOfPlan}
use Rattle.stream_record_stream.proofs.whole_stream.take_lines.Given as goal

-- so many lines of the input were read
abbrev pub invariant-lines : goal.invariant-lines
invariant-lines g l = record {
  known : Leads l.initial.plan l.initial.find l.initial.lines_before (g.R.Read.remaining l.initial.reader) (g.R.Read.remaining l.reader) l.before l.so_far;
  planned : IsOfPlan l.plan l.so_far.stream;
}
