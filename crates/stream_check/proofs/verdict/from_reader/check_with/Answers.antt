-- The next of what the reader gives, by what it is.
use Rattle.std.proofs.Common.{◌≡◌, ◌+◌, ◌-◌, ◌<◌, ◌^◌, ℕ, length, Bool, true, false, Ok, Err, sym, ap, ◌∙◌, arith, subst}
use Rattle.std.specs.Prelude.{IfSome, OnOk, OnSome, Result}
use Rattle.std.specs.Io.KnownBytes.{IsAtEnd}
use Rattle.stream_lines.specs.declared.line.LineEnd.{LineEnd}
use Rattle.stream_check.specs.Lines.{at_line, end_of, read_line}
use Rattle.stream_lines.specs.Reading.{Gives}
use Rattle.stream_check.proofs.Continuing.{line_count}
use Rattle.stream_check.proofs.FromReader.{as_answer, at_end_of, at_end_too, leads_on, leads_out, leads_too_far, leads_too_long, leads_wrong, says_nothing, stops_ended, stops_nowhere, stops_too_long, stops_wrong}
use Rattle.stream_check.proofs.WholeStream.{with_one}
use Rattle.stream_check.proofs.verdict.from_reader.check_with.Goals as goal

on_ok : {T E : Type 0} (r : Result T E) (P : Type 0) → P → OnOk r P
on_ok (Ok x) P h = h
on_ok (Err e) P h = tt

pub returns-in-Err : goal.returns-in-Err
returns-in-Err g c = record {
  answer = says_nothing c.args.mode (g.R.Read.remaining c.args.reader.now) c.from.result c.from.ensures;
  at_end = tt;
  stops = stops_nowhere c.args.mode (g.R.Read.remaining c.args.reader.now) c.lines.checker c.next_line.new.line.items c.lines.line.has_feed (g.R.Read.remaining c.next_line.new.reader) c.from.result c.from.ensures;
}

pub returns-in-End : goal.returns-in-End
returns-in-End g c =
    let k = c.lines.invariant.known in
    let gives = subst (λ (w : LineEnd). IfSome (g.R.Read.remaining c.lines.reader) (Gives w c.next_line.new.line.items (g.R.Read.remaining c.next_line.new.reader))) c.in-End.is c.in-Ok.ensures in
    record {
      answer = as_answer c.args.mode (g.R.Read.remaining c.args.reader.now) (at_line c.args.mode k.0 (length k.0) (end_of c.args.mode k.0)) c.ended.result
          (leads_out c.args.mode (g.R.Read.remaining c.args.reader.now) (g.R.Read.remaining c.lines.reader) (g.R.Read.remaining c.next_line.new.reader) k.0 c.next_line.new.line.items k.2 gives)
          (λ texts verdict. c.ended.ensures.answer k.0 texts k.1 verdict);
      at_end = on_ok c.ended.result (OnSome (g.R.Read.remaining c.args.reader.now) (IsAtEnd (g.R.Read.remaining c.next_line.new.reader)))
          (at_end_too c.args.mode (g.R.Read.remaining c.args.reader.now) (g.R.Read.remaining c.lines.reader) (g.R.Read.remaining c.next_line.new.reader) k.0 k.2
          (at_end_of (g.R.Read.remaining c.lines.reader) (g.R.Read.remaining c.next_line.new.reader) c.next_line.new.line.items gives));
      stops = stops_ended c.args.mode (g.R.Read.remaining c.args.reader.now) (g.R.Read.remaining c.lines.reader) (g.R.Read.remaining c.next_line.new.reader) k.0 c.lines.checker c.next_line.new.line.items c.lines.line.has_feed c.ended.result k.2 gives k.1 c.ended.ensures.fault;
    }

pub returns-in-TooLong : goal.returns-in-TooLong
returns-in-TooLong g c =
    let k = c.lines.invariant.known in
    let gives = subst (λ (w : LineEnd). IfSome (g.R.Read.remaining c.lines.reader) (Gives w c.next_line.new.line.items (g.R.Read.remaining c.next_line.new.reader))) c.in-TooLong.is c.in-Ok.ensures in
    record {
      answer = leads_too_long c.args.mode (g.R.Read.remaining c.args.reader.now) (g.R.Read.remaining c.lines.reader) (g.R.Read.remaining c.next_line.new.reader) k.0 c.next_line.new.line.items c.fault_at_next_line.result k.2 gives (c.fault_at_next_line.ensures k.0 k.1);
      at_end = tt;
      stops = stops_too_long c.args.mode (g.R.Read.remaining c.args.reader.now) (g.R.Read.remaining c.lines.reader) (g.R.Read.remaining c.next_line.new.reader) k.0 c.lines.checker c.next_line.new.line.items c.lines.line.has_feed c.fault_at_next_line.result k.2 gives k.1 (c.fault_at_next_line.ensures k.0 k.1);
    }

not_both : (b : Bool) → b ≡ false → b ≡ true → ⊥
not_both b off on = cc

pub returns-then-is_full : goal.returns-then-is_full
returns-then-is_full g c =
    let k = c.lines.invariant.known in
    let gives = subst (λ (w : LineEnd). IfSome (g.R.Read.remaining c.lines.reader) (Gives w c.next_line.new.line.items (g.R.Read.remaining c.next_line.new.reader))) c.in-Line.is c.in-Ok.ensures in
    record {
      answer = leads_too_far c.args.mode (g.R.Read.remaining c.args.reader.now) (g.R.Read.remaining c.lines.reader) (g.R.Read.remaining c.next_line.new.reader) k.0 c.next_line.new.line.items c.in-Line.has_feed k.2 gives
          (λ few. not_both c.is_full.result (c.is_full.ensures.1 (subst (λ (n : ℕ). n < 2 ^ 32) (sym (line_count c.lines.checker k.0 k.1)) few)) c.if-is_full.true);
      at_end = tt;
      stops = tt;
    }

less_left : (before after n m : ℕ) → m ≡ n + 1 → before ≡ n → after ≡ m → before < 4294967296 → 4294967296 - after < 4294967296 - before
less_left before after n m longer is is_too room = omega arith

pub lines-smaller : goal.lines-smaller
lines-smaller g c =
    let k = c.lines.invariant.known in
    let new = c.in-Ok-line.ensures k.0 k.1 in
    let longer = with_one c.args.mode.find k.0 c.deref.result.now new.0 new.1 in
    let before = line_count c.lines.checker k.0 k.1 in
    let after = line_count c.line.new.self new.0 new.2 in
    let room : c.lines.checker.tally.lines < 4294967296 = c.is_full.ensures.0 c.if-is_full.false in
    less_left c.lines.checker.tally.lines c.line.new.self.tally.lines (length k.0) (length new.0) longer before after room

pub lines-preserved : goal.lines-preserved
lines-preserved g c =
    let k = c.lines.invariant.known in
    let gives = subst (λ (w : LineEnd). IfSome (g.R.Read.remaining c.lines.reader) (Gives w c.next_line.new.line.items (g.R.Read.remaining c.next_line.new.reader))) c.in-Line.is c.in-Ok.ensures in
    let new = c.in-Ok-line.ensures k.0 k.1 in
    let read : read_line c.args.mode.find k.0 c.next_line.new.line.items ≡ Ok new.0 = ap (read_line c.args.mode.find k.0) (sym c.deref.ensures.value) ∙ new.1 in
    record { known = (new.0, new.2, leads_on c.args.mode (g.R.Read.remaining c.args.reader.now) (g.R.Read.remaining c.lines.reader) (g.R.Read.remaining c.next_line.new.reader) k.0 new.0 c.next_line.new.line.items c.in-Line.has_feed k.2 gives read) }

pub returns-in-Err-line : goal.returns-in-Err-line
returns-in-Err-line g c =
    let k = c.lines.invariant.known in
    let gives = subst (λ (w : LineEnd). IfSome (g.R.Read.remaining c.lines.reader) (Gives w c.next_line.new.line.items (g.R.Read.remaining c.next_line.new.reader))) c.in-Line.is c.in-Ok.ensures in
    let after = c.in-Err-line.ensures k.0 k.1 in
    record {
      answer = leads_wrong c.args.mode (g.R.Read.remaining c.args.reader.now) (g.R.Read.remaining c.lines.reader) (g.R.Read.remaining c.next_line.new.reader) k.0 c.next_line.new.line.items c.in-Line.has_feed c.in-Err-line.fault c.fault_at_next_line-in-Err-line.result k.2 gives
          (λ memory. ap (read_line c.args.mode.find k.0) (sym c.deref.ensures.value) ∙ after.1 memory) (c.fault_at_next_line-in-Err-line.ensures k.0 after.0);
      at_end = tt;
      stops = stops_wrong c.args.mode (g.R.Read.remaining c.args.reader.now) (g.R.Read.remaining c.lines.reader) (g.R.Read.remaining c.next_line.new.reader) k.0 c.line.new.self c.next_line.new.line.items c.in-Line.has_feed c.in-Err-line.fault c.fault_at_next_line-in-Err-line.result k.2 gives
          (λ memory. ap (read_line c.args.mode.find k.0) (sym c.deref.ensures.value) ∙ after.1 memory) after.0 (c.fault_at_next_line-in-Err-line.ensures k.0 after.0);
    }
