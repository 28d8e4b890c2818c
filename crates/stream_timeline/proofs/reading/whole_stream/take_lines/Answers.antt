use Rattle.std.proofs.Common.{Err, ap, arith, subst, ◌∙◌}
use Rattle.std.specs.Prelude.{IfSome}
use Rattle.stream_lines.specs.declared.line.LineEnd.{LineEnd}
use Rattle.stream_lines.specs.Reading.{Gives}
use Rattle.stream_timeline.specs.declared.reading.timeline_fault.TimelineFault.TheVariants.{TooManyLines}
use Rattle.stream_timeline.specs.Lines.{log_line}
use Rattle.stream_timeline.specs.TimelineRead.{with_line}
use Rattle.stream_timeline.specs.Building.{HasRead}
use Rattle.stream_timeline.proofs.FromReader.{as_refused, full_lines, leads_nowhere, leads_on, leads_out, leads_too_far, leads_too_long, starts}
use Rattle.stream_timeline.proofs.reading.whole_stream.take_lines.Goals as goal

pub lines-init : goal.lines-init
lines-init g c = record { known = starts c.args.find (g.R.Read.remaining c.args.reader.now) c.args.builder.now c.requires }

pub returns-in-End-clause-timeline : goal.returns-in-End-clause-timeline
returns-in-End-clause-timeline g c =
    let gives = subst (λ (w : LineEnd). IfSome (g.R.Read.remaining c.lines.reader) (Gives w c.next_line.new.line.items (g.R.Read.remaining c.next_line.new.reader))) c.in-End.is c.in_ok-next_line.ensures in
    leads_out c.args.find (g.R.Read.remaining c.args.reader.now) (g.R.Read.remaining c.lines.reader) (g.R.Read.remaining c.next_line.new.reader) c.lines.builder c.lines.before c.next_line.new.line.items c.lines.invariant.known gives

pub returns-in-TooLong-clause-fault : goal.returns-in-TooLong-clause-fault
returns-in-TooLong-clause-fault g c =
    let gives = subst (λ (w : LineEnd). IfSome (g.R.Read.remaining c.lines.reader) (Gives w c.next_line.new.line.items (g.R.Read.remaining c.next_line.new.reader))) c.in-TooLong.is c.in_ok-next_line.ensures in
    leads_too_long c.args.find (g.R.Read.remaining c.args.reader.now) (g.R.Read.remaining c.lines.reader) (g.R.Read.remaining c.next_line.new.reader) c.lines.builder c.lines.before c.next_line.new.line.items c.lines.invariant.known gives

pub returns-then-is_full-clause-fault : goal.returns-then-is_full-clause-fault
returns-then-is_full-clause-fault g c =
    let gives = subst (λ (w : LineEnd). IfSome (g.R.Read.remaining c.lines.reader) (Gives w c.next_line.new.line.items (g.R.Read.remaining c.next_line.new.reader))) c.in-Line.is c.in_ok-next_line.ensures in
    leads_too_far c.args.find (g.R.Read.remaining c.args.reader.now) (g.R.Read.remaining c.lines.reader) (g.R.Read.remaining c.next_line.new.reader) c.lines.builder c.lines.before c.next_line.new.line.items _ c.lines.invariant.known gives
    (full_lines c.args.find c.lines.builder c.is_full.result c.is_full.ensures.1 c.if-is_full.true)

pub returns-in-Err-clause-fault : goal.returns-in-Err-clause-fault
returns-in-Err-clause-fault g c =
    let gives = subst (λ (w : LineEnd). IfSome (g.R.Read.remaining c.lines.reader) (Gives w c.next_line.new.line.items (g.R.Read.remaining c.next_line.new.reader))) c.in-Line.is c.in_ok-next_line.ensures in
    as_refused c.args.find (g.R.Read.remaining c.args.reader.now) (g.R.Read.remaining c.lines.reader) (g.R.Read.remaining c.next_line.new.reader) c.lines.builder c.line.new.self c.lines.before c.next_line.new.line.items c.log_line.result.now _ c.in-Err.fault c.lines.invariant.known gives
    (c.log_line.ensures ∙ ap (log_line c.args.find) c.deref.ensures.value) c.in-Err.ensures

pub lines-preserved : goal.lines-preserved
lines-preserved g c =
    let gives = subst (λ (w : LineEnd). IfSome (g.R.Read.remaining c.lines.reader) (Gives w c.next_line.new.line.items (g.R.Read.remaining c.next_line.new.reader))) c.in-Line.is c.in_ok-next_line.ensures in
    record {
      known = leads_on c.args.find (g.R.Read.remaining c.args.reader.now) (g.R.Read.remaining c.lines.reader) (g.R.Read.remaining c.next_line.new.reader) c.lines.builder _ c.lines.before c.next_line.new.line.items _ c.lines.invariant.known gives
          (λ t timeline. subst (λ line. HasRead c.line.new.self (with_line line t)) (c.log_line.ensures ∙ ap (log_line c.args.find) c.deref.ensures.value) (c.in-Ok.ensures t timeline));
    }

pub returns-clause-fault : goal.returns-clause-fault
returns-clause-fault g c = leads_nowhere c.args.find (g.R.Read.remaining c.args.reader.now) (g.R.Read.remaining c.lines.reader) c.lines.builder c.lines.before (Err TooManyLines) c.lines.invariant.known (omega arith)
