use Rattle.std.proofs.Common.{Bool, ap, refl}
use Rattle.std.specs.Prelude.{is_ok}
use Rattle.term_words.proofs.Appended.{text_all}
use Rattle.stream_watch.specs.Ending.{end_told}
use Rattle.stream_watch.specs.State.{looks_of, state_of}
use Rattle.stream_watch.specs.Stream.{last_told}
use Rattle.stream_watch.specs.VerdictRow.{verdict_told}
use Rattle.stream_watch.proofs.Tellings.{tells_as, told_behind}
use Rattle.stream_watch_cli.proofs.watching.end.Goals as goal

pub returns-clause-told : goal.returns-clause-told
returns-clause-told g c = λ mode texts judged.
    let a = c.args.watcher in
    let verdict = c.in_ok-verdict.verdict in
    let ended = tells_as a c.end.new.self _ _ (ap (λ (is_whole : Bool). end_told (looks_of a) is_whole (state_of a)) c.is_ok.ensures.value) c.end.ensures in
    let told = told_behind a c.end.new.self c.verdict-2.new.self (end_told (looks_of a) (is_ok verdict.answer) (state_of a))
    (λ looks state. verdict_told looks state verdict) ended c.verdict-2.ensures in (
      verdict,
      c.in_ok-verdict.ensures mode texts judged,
      refl,
      λ lines empty. (c.in_ok-end.ensures lines).written (last_told (looks_of a) verdict (state_of a)).bytes
          (text_all a.printer.printed c.verdict-2.new.self.printer.printed (last_told (looks_of a) verdict (state_of a)).bytes empty told.bytes),
    )
