use Rattle.std.proofs.Common.{◌<◌, [], arith, length, rules}
use Rattle.std.proofs.lemmas.Bool.Decides.{nat_tests}
use Rattle.std.proofs.lemmas.Grind.{common_steps}
use Rattle.stream_watch.proofs.Gaps.{gap_there}
use Rattle.stream_watch.proofs.Told.{further_to}
use Rattle.stream_watch.proofs.watcher.Watcher.diagnostic_gap.Goals as goal

pub returns-then-not-is_empty : goal.returns-then-not-is_empty
returns-then-not-is_empty c =
    let lines = c.args.lines.now in
    let some : 0 < length lines = first_of (search rules, grind (arith, common_steps), grind (arith, nat_tests)) in
    further_to _ _ _ _ _ (c.further_text.ensures [] c.new.ensures) (gap_there c.args.has_snippet lines c.if-has_snippet.true some)
