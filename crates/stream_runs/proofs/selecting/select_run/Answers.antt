-- The next of what the reader gives, by what it is.
use Rattle.std.proofs.Common.{◌≡◌, ◌∙◌, ℕ, List, sym, ap, subst, arith}
use Rattle.std.specs.Prelude.{IfSome}
use Rattle.stream_lines.specs.Reading.{Gives}
use Rattle.stream_lines.specs.declared.line.LineEnd.{LineEnd}
use Rattle.stream_runs.specs.Collected.{Lines, piece_of, with_line}
use Rattle.stream_message.specs.Runs.{begins_run}
use Rattle.stream_runs.proofs.Leading.{Leads, ends_there, leads_nowhere, leads_on, leads_too_far, leads_too_long, leads_out, lines_more, runs_within, starts}
use Rattle.stream_runs.proofs.selecting.select_run.Goals as goal

pub lines-init : goal.lines-init
lines-init g c =
    let all = g.R.Read.remaining c.args.reader.now in
    let is = c.new-collected.ensures in
    (subst (Leads c.args.find c.args.choice all all) (sym is) (starts c.args.find c.args.choice all), ap (λ (s : Lines). s.lines) is, rw is (omega arith))

pub lines-preserved : goal.lines-preserved
lines-preserved g c =
    let left = g.R.Read.remaining c.lines.reader in
    let rest = g.R.Read.remaining c.next_line.new.reader in
    let gives = subst (λ (w : LineEnd). IfSome left (Gives w c.next_line.new.line.items rest)) c.in-Line.is c.in-Ok.ensures in
    let begins = c.in-Ok-begins_run.begins in
    let piece = piece_of c.deref-in-lines.result.now c.in-Line.has_feed in
    let is_begin : begins ≡ begins_run c.args.find c.next_line.new.line.items = c.in-Ok-begins_run.ensures ∙ ap (begins_run c.args.find) c.deref.ensures.value in
    let more : c.line.new.self ≡ with_line c.args.choice begins piece c.lines.collected = c.in-Ok-line.ensures in
    let whole : c.line.new.self ≡ with_line c.args.choice begins (piece_of c.next_line.new.line.items c.in-Line.has_feed) c.lines.collected =
    more ∙ ap (λ (t : List ℕ). with_line c.args.choice begins (piece_of t c.in-Line.has_feed) c.lines.collected) c.deref-in-lines.ensures.value in (
      leads_on c.args.find c.args.choice (g.R.Read.remaining c.args.reader.now) left rest c.lines.collected c.line.new.self c.next_line.new.line.items c.in-Line.has_feed begins c.lines.invariant.0 gives is_begin whole,
      lines_more c.args.choice begins piece c.lines.collected c.line.new.self c.lines.before more c.lines.invariant.1,
      runs_within c.args.choice begins piece c.lines.collected c.line.new.self more c.lines.invariant.2,
    )

pub returns-in-End-clause-selected : goal.returns-in-End-clause-selected
returns-in-End-clause-selected g c =
    let left = g.R.Read.remaining c.lines.reader in
    let rest = g.R.Read.remaining c.next_line.new.reader in
    let gives = subst (λ (w : LineEnd). IfSome left (Gives w c.next_line.new.line.items rest)) c.in-End.is c.in-Ok.ensures in
    leads_out c.args.find c.args.choice (g.R.Read.remaining c.args.reader.now) left rest c.lines.collected c.next_line.new.line.items c.chosen.result c.lines.invariant.0 gives c.chosen.ensures

pub returns-in-End-clause-at_end : goal.returns-in-End-clause-at_end
returns-in-End-clause-at_end g c =
    let left = g.R.Read.remaining c.lines.reader in
    let rest = g.R.Read.remaining c.next_line.new.reader in
    let gives = subst (λ (w : LineEnd). IfSome left (Gives w c.next_line.new.line.items rest)) c.in-End.is c.in-Ok.ensures in
    λ ended. ends_there c.args.find c.args.choice (g.R.Read.remaining c.args.reader.now) left rest c.lines.collected c.next_line.new.line.items c.lines.invariant.0 gives

pub returns-in-TooLong-clause-selected : goal.returns-in-TooLong-clause-selected
returns-in-TooLong-clause-selected g c =
    let left = g.R.Read.remaining c.lines.reader in
    let rest = g.R.Read.remaining c.next_line.new.reader in
    let gives = subst (λ (w : LineEnd). IfSome left (Gives w c.next_line.new.line.items rest)) c.in-TooLong.is c.in-Ok.ensures in
    leads_too_long c.args.find c.args.choice (g.R.Read.remaining c.args.reader.now) left rest c.lines.collected c.next_line.new.line.items c.lines.before c.lines.invariant.1 c.lines.invariant.0 gives

pub returns-in-Err-clause-selected : goal.returns-in-Err-clause-selected
returns-in-Err-clause-selected g c = leads_nowhere c.args.find c.args.choice (g.R.Read.remaining c.args.reader.now) c.from.result c.from.ensures

pub returns-clause-selected : goal.returns-clause-selected
returns-clause-selected g c =
    leads_too_far c.args.find c.args.choice (g.R.Read.remaining c.args.reader.now) (g.R.Read.remaining c.lines.reader) c.lines.collected (omega (arith, c.lines.invariant.1)) c.lines.invariant.0
