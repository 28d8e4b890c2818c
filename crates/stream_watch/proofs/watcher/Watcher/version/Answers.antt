use Rattle.std.proofs.Common.{Option, ap, option_map}
use Rattle.std.specs.Prelude.{is_some, unwrap_or}
use Rattle.term_words.proofs.Appended.{text_all}
use Rattle.stream_watch.specs.AfterRefreshes.{told_after_refreshes}
use Rattle.stream_watch.specs.State.{Told, looks_of, nothing, state_of}
use Rattle.stream_watch.specs.Telling.{version_words}
use Rattle.stream_watch.specs.declared.mark.Mark.TheVariants as mark
use Rattle.stream_watch.proofs.RowTellings.{tells_nothing}
use Rattle.stream_watch.proofs.Tellings.{tells_as}
use Rattle.stream_watch.proofs.watcher.Watcher.version.Goals as goal

pub returns-in-Some : goal.returns-in-Some
returns-in-Some c =
    let before = c.args.self.now in
    let state = state_of before in
    let words = version_words c.in-Some.version.now in
    let line = c.line_after_refreshes.ensures words (text_all c.new-text.result c.push_version.new.text words c.new-text.ensures c.push_version.ensures) in
    let same = ap (option_map (λ version. told_after_refreshes (looks_of before) mark.Sum (version_words version) state)) c.in-Some.ensures in
    record {
      is = ap is_some same;
      told = tells_as before c.line_after_refreshes.new.self _ _ (ap (λ (told : Option Told). unwrap_or told (nothing state)) same) line;
    }

pub returns-in-None : goal.returns-in-None
returns-in-None c =
    let before = c.args.self.now in
    let state = state_of before in
    let same = ap (option_map (λ version. told_after_refreshes (looks_of before) mark.Sum (version_words version) state)) c.in-None.ensures in
    record {
      is = ap is_some same;
      told = tells_as before before _ _ (ap (λ (told : Option Told). unwrap_or told (nothing state)) same) (tells_nothing before);
    }
