-- The next of what the reader gives, by what it is.
use Rattle.std.proofs.Common.{◌≡◌, ℕ, List, sym, subst}
use Rattle.std.specs.Prelude.{IfSome}
use Rattle.std.specs.Io.Buffered.{reader_remaining}
use Rattle.stream_check.specs.declared.verdict.judge.Judge.{Judge}
use Rattle.stream_lines.specs.Reading.{Gives}
use Rattle.stream_lines.specs.declared.line.LineEnd.{LineEnd}
use Rattle.stream_watch.specs.State.{Tells, looks_of, state_of}
use Rattle.stream_watch.specs.Telling.{text_told}
use Rattle.stream_watch.specs.declared.watcher.Watcher.{Watcher}
use Rattle.stream_watch_cli.specs.Watched.{Sends}
use Rattle.stream_watch_cli.specs.declared.display.Display.{Display}
use Rattle.stream_watch_cli.specs.declared.display.Display.TheVariants.{Lines}
use Rattle.stream_watch_cli.proofs.Reached.{answered, ended, ends_there}
use Rattle.stream_watch_cli.proofs.Shown.{Shown, known_of, shown_all, shown_first, shown_more, shown_too_long, told_none}
use Rattle.stream_watch_cli.proofs.watching.watch.Goals as goal
use Rattle.stream_watch_cli.proofs.watching.watch.Goals.{in-Line+in_ok-line-in-Line+in_ok-text-in-Line, in-TooLong+in_ok-too_long-in-TooLong+in_ok-skip_rest-in-TooLong}

pub lines-init : goal.lines-init
lines-init g c =
    let made = c.new-watcher.ensures in (
      λ same. same,
      shown_first c.args.mode c.args.looks (c.args.display.now ≡ Lines) (reader_remaining g.R.Read.remaining c.args.reader.now) c.new-judge.result c.new-watcher.result
          (g.W.Write.contents c.args.output.now) c.new-judge.ensures
          (told_none c.args.looks c.args.mode.find c.new-watcher.result (g.W.Write.contents c.args.output.now) made.find made.looks made.state made.printed),
    )

pub returns-in-End-clause-verdict : goal.returns-in-End-clause-verdict
returns-in-End-clause-verdict g c =
    let all = reader_remaining g.R.Read.remaining c.args.reader.now in
    let left = reader_remaining g.R.Read.remaining c.lines.reader in
    let rest = reader_remaining g.R.Read.remaining c.read_within.new.reader in
    let gives = subst (λ (w : LineEnd). IfSome left (Gives w c.read_within.new.line.text.items rest)) c.in-End.is c.in_ok-read_within.ensures.gives in
    let known = known_of c.args.mode c.args.looks (c.args.display.now ≡ Lines) all left c.lines.judge c.lines.watcher
    (g.W.Write.contents c.args.output.now) (g.W.Write.contents c.lines.output) c.lines.invariant.1 in
    answered c.args.mode all left rest c.lines.judge c.read_within.new.line.text.items c.end.result known gives c.end.ensures.verdict

pub returns-in-End-clause-at_end : goal.returns-in-End-clause-at_end
returns-in-End-clause-at_end g c =
    let all = reader_remaining g.R.Read.remaining c.args.reader.now in
    let left = reader_remaining g.R.Read.remaining c.lines.reader in
    let rest = reader_remaining g.R.Read.remaining c.read_within.new.reader in
    let gives = subst (λ (w : LineEnd). IfSome left (Gives w c.read_within.new.line.text.items rest)) c.in-End.is c.in_ok-read_within.ensures.gives in
    let known = known_of c.args.mode c.args.looks (c.args.display.now ≡ Lines) all left c.lines.judge c.lines.watcher
    (g.W.Write.contents c.args.output.now) (g.W.Write.contents c.lines.output) c.lines.invariant.1 in
    ended all rest c.end.result (ends_there c.args.mode all left rest c.lines.judge c.read_within.new.line.text.items known gives)

pub returns-in-End-clause-told : goal.returns-in-End-clause-told
returns-in-End-clause-told g c =
    let all = reader_remaining g.R.Read.remaining c.args.reader.now in
    let left = reader_remaining g.R.Read.remaining c.lines.reader in
    let rest = reader_remaining g.R.Read.remaining c.read_within.new.reader in
    let gives = subst (λ (w : LineEnd). IfSome left (Gives w c.read_within.new.line.text.items rest)) c.in-End.is c.in_ok-read_within.ensures.gives in
    let read = c.in_ok-read_within.ensures in
    let stays = c.lines.invariant.0 in
    shown_all c.args.mode c.args.looks (c.args.display.now ≡ Lines) all left rest c.lines.judge c.read_within.new.line.text.items c.lines.watcher c.read_within.new.watcher
    (c.read_within.new.display ≡ Lines) (g.W.Write.contents c.args.output.now) (g.W.Write.contents c.lines.output) (g.W.Write.contents c.read_within.new.output)
    (g.W.Write.contents c.end.new.output) c.end.result c.lines.invariant.1 gives
    (λ shown. read.watcher (stays shown)) (λ shown. read.kept (stays shown)) (λ shown. read.same (stays shown)) c.end.ensures.told

pub lines-preserved : goal.lines-preserved
lines-preserved g c =
    let all = reader_remaining g.R.Read.remaining c.args.reader.now in
    let left = reader_remaining g.R.Read.remaining c.lines.reader in
    let rest = reader_remaining g.R.Read.remaining c.read_within.new.reader in
    let before = g.W.Write.contents c.args.output.now in
    let now = g.W.Write.contents c.lines.output in
    let later = g.W.Write.contents c.line-in-lines.new.output in
    let after = c.line-in-lines.new.watcher in
    let read = c.in_ok-read_within.ensures in
    let stays = c.lines.invariant.0 in
    elim c.match-branch-2.branch [
      | in-Line+in_ok-line-in-Line+in_ok-text-in-Line w ↦
          let line = c.read_within.new.line.text.items in
          let gives = subst (λ (e : LineEnd). IfSome left (Gives e line rest)) w.in-Line.is read.gives in
          let a = c.read_within.new.watcher in
          let tells = subst (λ (text : List ℕ). Tells a w.text.new.self (text_told (looks_of a) (state_of a) a.find text)) w.deref.ensures.value w.in_ok-text-in-Line.ensures in
          let is_lines = λ (shown : c.args.display.now ≡ Lines). subst (λ (d : Display _ _ _). d ≡ Lines) (sym w.display-is) (read.same (stays shown)) in
          let sends = λ (shown : c.args.display.now ≡ Lines).
          subst (λ (b : Watcher). Sends b after (g.W.Write.contents c.read_within.new.output) later) w.watcher-is
          (subst (λ o. Sends c.match-branch-2.watcher after (g.W.Write.contents o) later) w.output-is (c.in-Ok.ensures.sent (is_lines shown))) in (
            λ shown. c.in-Ok.ensures.same (is_lines shown),
            subst (λ (j : Judge). Shown c.args.mode c.args.looks (c.args.display.now ≡ Lines) all (reader_remaining g.R.Read.remaining c.match-branch-2.reader) j after before later) (sym w.judge-is)
                (subst (λ r. Shown c.args.mode c.args.looks (c.args.display.now ≡ Lines) all (reader_remaining g.R.Read.remaining r) w.line.new.self after before later) (sym w.reader-is)
                (shown_more c.args.mode c.args.looks (c.args.display.now ≡ Lines) all left rest c.lines.judge w.line.new.self line w.in-Line.has_feed
                c.lines.watcher a w.text.new.self after before now (g.W.Write.contents c.read_within.new.output) later
                c.lines.invariant.1 gives w.in_ok-line-in-Line.ensures (λ shown. read.watcher (stays shown)) (λ shown. read.kept (stays shown)) tells sends)),
          )
      | in-TooLong+in_ok-too_long-in-TooLong+in_ok-skip_rest-in-TooLong w ↦
          let gives = subst (λ (e : LineEnd). IfSome left (Gives e c.read_within.new.line.text.items rest)) w.in-TooLong.is read.gives in
          let is_lines = λ (shown : c.args.display.now ≡ Lines).
          subst (λ (d : Display _ _ _). d ≡ Lines) (sym w.display-is) (w.in_ok-skip_rest-in-TooLong.ensures (read.same (stays shown))) in (
            λ shown. c.in-Ok.ensures.same (is_lines shown),
            shown_too_long c.args.mode c.args.looks (c.args.display.now ≡ Lines) all left rest (reader_remaining g.R.Read.remaining c.match-branch-2.reader)
                c.lines.judge c.match-branch-2.judge c.read_within.new.line.text.items c.lines.watcher after before now later c.lines.invariant.1 gives,
          )
    ]
