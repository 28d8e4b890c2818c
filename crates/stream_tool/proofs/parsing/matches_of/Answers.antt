use Rattle.std.proofs.Common.{List, Ok, ap, map, string_bytes, ◌∙◌}
use Rattle.clap.specs.Simple.{App, is_simple, matches_of}
use Rattle.clap.specs.Walk.{Text}
use Rattle.stream_tool.proofs.Parsed.{are_refused, faults_are}
use Rattle.stream_tool.proofs.parsing.matches_of.Goals as goal

pub returns-in-Ok-clause-stated : goal.returns-in-Ok-clause-stated
returns-in-Ok-clause-stated c = λ app is simple free.
    let words : List Text = map string_bytes c.args.words.now in (
      faults_are c.args.command app words c.try_get_matches_from.result (Ok c.in-Ok.matches) is free c.try_get_matches_from.ensures.kinds c.in-Ok.is,
      (c.in-Ok.ensures.matches (ap is_simple is ∙ simple)).0 ∙ ap (λ (a : App). matches_of a words) is,
    )

pub returns-in_ok-usage_of-in-Err-clause-refused : goal.returns-in_ok-usage_of-in-Err-clause-refused
returns-in_ok-usage_of-in-Err-clause-refused c = λ app is free.
    let words : List Text = map string_bytes c.args.words.now in
    are_refused c.args.command app words c.try_get_matches_from.result c.in-Err.error c.in_ok-usage_of-in-Err.field-0
    is free c.try_get_matches_from.ensures.kinds c.in-Err.is c.in_ok-usage_of-in-Err.ensures
