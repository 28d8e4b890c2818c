use Rattle.std.proofs.Common.{◌≡◌, ◌+◌, Err, List, Ok, ℕ, arith, refl, subst}
use Rattle.std.specs.Prelude.{IfSome}
use Rattle.stream_lines.specs.Reading.{Gives}
use Rattle.stream_lines.specs.declared.line.LineEnd.{LineEnd}
use Rattle.stream_record_stream.specs.Reading.{with_line}
use Rattle.stream_record_stream.proofs.FromReader.{leads_again, leads_on, leads_out, leads_too_far, leads_too_long, starts}
use Rattle.stream_record_stream.proofs.PlanKept.{line_keeps}
use Rattle.stream_record_stream.proofs.whole_stream.take_lines.Goals as goal

pub lines-init : goal.lines-init
lines-init g c = record { known = starts c.args.plan.now c.args.find c.args.lines_before (g.R.Read.remaining c.args.reader.now) c.args.so_far.now c.requires; planned = rw c.requires refl }

pub returns-in-End-clause-read : goal.returns-in-End-clause-read
returns-in-End-clause-read g c =
    let left = g.R.Read.remaining c.lines.reader in
    let rest = g.R.Read.remaining c.next_line.new.reader in
    let gives = subst (λ (w : LineEnd). IfSome left (Gives w c.next_line.new.line.items rest)) c.in-End.is c.in_ok-next_line.ensures in
    leads_out c.args.plan.now c.args.find c.args.lines_before (g.R.Read.remaining c.args.reader.now) left rest c.lines.before c.lines.so_far c.next_line.new.line.items c.lines.invariant.known gives

pub returns-in-TooLong-clause-fault : goal.returns-in-TooLong-clause-fault
returns-in-TooLong-clause-fault g c =
    let left = g.R.Read.remaining c.lines.reader in
    let rest = g.R.Read.remaining c.next_line.new.reader in
    let gives = subst (λ (w : LineEnd). IfSome left (Gives w c.next_line.new.line.items rest)) c.in-TooLong.is c.in_ok-next_line.ensures in
    leads_too_long c.args.plan.now c.args.find c.args.lines_before (g.R.Read.remaining c.args.reader.now) left rest c.lines.before c.lines.so_far c.next_line.new.line.items c.lines.invariant.known gives

pub returns-clause-fault : goal.returns-clause-fault
returns-clause-fault g c = leads_too_far c.args.plan.now c.args.find c.args.lines_before (g.R.Read.remaining c.args.reader.now) (g.R.Read.remaining c.lines.reader) c.lines.before c.lines.so_far c.lines.invariant.known (omega arith)

pub lines-preserved : goal.lines-preserved
lines-preserved g c =
    let left = g.R.Read.remaining c.lines.reader in
    let rest = g.R.Read.remaining c.next_line.new.reader in
    let gives = subst (λ (w : LineEnd). IfSome left (Gives w c.next_line.new.line.items rest)) c.in-Line.is c.in_ok-next_line.ensures in
    let more : with_line c.args.plan.now c.args.find (c.lines.before + 1) c.next_line.new.line.items c.lines.so_far ≡ Ok c.line.new.self =
    subst (λ (text : List ℕ). with_line c.args.plan.now c.args.find (c.lines.before + 1) text c.lines.so_far ≡ Ok c.line.new.self) c.deref.ensures.value c.in-Ok.ensures in
    record {
      known = leads_on c.args.plan.now c.args.find c.args.lines_before (g.R.Read.remaining c.args.reader.now) left rest c.lines.before c.lines.so_far c.line.new.self c.next_line.new.line.items c.in-Line.has_feed c.lines.invariant.known gives more;
      planned = line_keeps c.args.plan.now c.args.find (c.lines.before + 1) c.next_line.new.line.items c.lines.so_far c.line.new.self c.lines.invariant.planned more;
    }

pub returns-in-Err-VersionAgain-clause-fault : goal.returns-in-Err-VersionAgain-clause-fault
returns-in-Err-VersionAgain-clause-fault g c =
    let left = g.R.Read.remaining c.lines.reader in
    let rest = g.R.Read.remaining c.next_line.new.reader in
    let gives = subst (λ (w : LineEnd). IfSome left (Gives w c.next_line.new.line.items rest)) c.in-Line.is c.in_ok-next_line.ensures in
    let again : with_line c.args.plan.now c.args.find (c.lines.before + 1) c.deref.result.now c.lines.so_far ≡ Err c.in-Err-VersionAgain.first =
    rw c.in-Err-VersionAgain.field-0-is at c.in-Err-VersionAgain.ensures in
    leads_again c.args.plan.now c.args.find c.args.lines_before (g.R.Read.remaining c.args.reader.now) left rest c.lines.before c.in-Err-VersionAgain.first c.lines.so_far c.next_line.new.line.items c.in-Line.has_feed c.version_again.result c.lines.invariant.known gives
    (subst (λ (text : List ℕ). with_line c.args.plan.now c.args.find (c.lines.before + 1) text c.lines.so_far ≡ Err c.in-Err-VersionAgain.first) c.deref.ensures.value again)
    c.version_again.ensures
