-- The next of what the reader gives, by what it is.
use Rattle.std.proofs.Common.{◌≡◌, ◌∙◌, true, false, List, ℕ, sym, ap, subst}
use Rattle.std.specs.Prelude.{IfSome, is_some}
use Rattle.stream_lines.specs.Reading.{Gives}
use Rattle.stream_lines.specs.declared.line.LineEnd.{LineEnd}
use Rattle.stream_message.specs.Located.{from_mark}
use Rattle.stream_check.proofs.Searching.{searches_all, searches_found, searches_on, searches_out, searches_too_long}
use Rattle.stream_check.proofs.command.reading_on.has_mark.Goals as goal

pub lines-init : goal.lines-init
lines-init g c = searches_all (g.R.Read.remaining c.args.reader.now)

pub returns-in-End : goal.returns-in-End
returns-in-End g c =
    let left = g.R.Read.remaining c.lines.reader in
    let rest = g.R.Read.remaining c.next_line.new.reader in
    let gives = subst (λ (w : LineEnd). IfSome left (Gives w c.next_line.new.line.items rest)) c.in-End.is c.in-Ok.ensures in
    searches_out (g.R.Read.remaining c.args.reader.now) left rest c.next_line.new.line.items c.lines.invariant gives

pub returns-in-TooLong : goal.returns-in-TooLong
returns-in-TooLong g c =
    let left = g.R.Read.remaining c.lines.reader in
    let rest = g.R.Read.remaining c.next_line.new.reader in
    let gives = subst (λ (w : LineEnd). IfSome left (Gives w c.next_line.new.line.items rest)) c.in-TooLong.is c.in-Ok.ensures in
    searches_too_long (g.R.Read.remaining c.args.reader.now) left rest c.next_line.new.line.items c.lines.invariant gives

pub returns-then-is_marked : goal.returns-then-is_marked
returns-then-is_marked g c =
    let left = g.R.Read.remaining c.lines.reader in
    let rest = g.R.Read.remaining c.next_line.new.reader in
    let gives = subst (λ (w : LineEnd). IfSome left (Gives w c.next_line.new.line.items rest)) c.in-Line.is c.in-Ok.ensures in
    let some : is_some (from_mark c.next_line.new.line.items) ≡ true = sym (c.is_marked.ensures ∙ ap (λ (l : List ℕ). is_some (from_mark l)) c.deref.ensures.value) ∙ c.if-is_marked.true in
    searches_found (g.R.Read.remaining c.args.reader.now) left rest c.next_line.new.line.items c.in-Line.has_feed c.lines.invariant gives some

pub lines-preserved : goal.lines-preserved
lines-preserved g c =
    let left = g.R.Read.remaining c.lines.reader in
    let rest = g.R.Read.remaining c.next_line.new.reader in
    let gives = subst (λ (w : LineEnd). IfSome left (Gives w c.next_line.new.line.items rest)) c.in-Line.is c.in-Ok.ensures in
    let none : is_some (from_mark c.next_line.new.line.items) ≡ false = sym (c.is_marked.ensures ∙ ap (λ (l : List ℕ). is_some (from_mark l)) c.deref.ensures.value) ∙ c.if-is_marked.false in
    searches_on (g.R.Read.remaining c.args.reader.now) left rest c.next_line.new.line.items c.in-Line.has_feed c.lines.invariant gives none
