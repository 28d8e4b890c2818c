-- The next of what the reader gives, by what it is.
use Rattle.std.proofs.Common.{◌≡◌, ◌≤◌, ◌+◌, ◌∙◌, ℕ, Bool, true, false, cond, ap, subst, arith}
use Rattle.std.specs.Prelude.{IfSome}
use Rattle.stream_lines.specs.Reading.{Gives}
use Rattle.stream_lines.specs.declared.line.LineEnd.{LineEnd}
use Rattle.stream_message.specs.Runs.{begins_run}
use Rattle.stream_runs.proofs.Runs.{counts_none, counts_on, counts_out, counts_too_long}
use Rattle.stream_runs.proofs.counting.count_runs.Goals as goal

within : (begins : Bool) (n runs most : ℕ) → runs ≡ cond begins (n + 1) n → n ≤ most → runs ≤ most + 1
within true n runs most more few = omega (arith, more, few)
within false n runs most more few = omega (arith, more, few)

pub returns-in-End : goal.returns-in-End
returns-in-End g c =
    let left = g.R.Read.remaining c.lines.reader in
    let rest = g.R.Read.remaining c.next_line.new.reader in
    let gives = subst (λ (w : LineEnd). IfSome left (Gives w c.next_line.new.line.items rest)) c.in-End.is c.in-Ok.ensures in
    counts_out c.args.find (g.R.Read.remaining c.args.reader.now) left rest c.next_line.new.line.items c.lines.runs c.lines.invariant.0 gives

pub returns-in-TooLong : goal.returns-in-TooLong
returns-in-TooLong g c =
    let left = g.R.Read.remaining c.lines.reader in
    let rest = g.R.Read.remaining c.next_line.new.reader in
    let gives = subst (λ (w : LineEnd). IfSome left (Gives w c.next_line.new.line.items rest)) c.in-TooLong.is c.in-Ok.ensures in
    counts_too_long c.args.find (g.R.Read.remaining c.args.reader.now) left rest c.next_line.new.line.items c.lines.runs c.lines.invariant.0 gives

pub lines-preserved : goal.lines-preserved
lines-preserved g c =
    let left = g.R.Read.remaining c.lines.reader in
    let rest = g.R.Read.remaining c.next_line.new.reader in
    let gives = subst (λ (w : LineEnd). IfSome left (Gives w c.next_line.new.line.items rest)) c.in-Line.is c.in-Ok.ensures in
    let begins = c.in-Ok-begins_run.begins in
    let is_begin : begins ≡ begins_run c.args.find c.next_line.new.line.items = c.in-Ok-begins_run.ensures ∙ ap (begins_run c.args.find) c.deref.ensures.value in (
      counts_on c.args.find begins (g.R.Read.remaining c.args.reader.now) left rest c.next_line.new.line.items c.in-Line.has_feed c.lines.runs c.with_run-runs.result c.lines.invariant.0 gives is_begin c.with_run-runs.ensures,
      within c.in-Ok-begins_run.begins c.lines.runs c.with_run-runs.result c.lines.counter c.with_run-runs.ensures c.lines.invariant.1,
    )
