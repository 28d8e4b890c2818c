use Rattle.std.proofs.Common.{◌∙◌}
use Rattle.clap.specs.Matches.{found_of}
use Rattle.clap.proofs.WalkLemmas.{one_text-rows}
use Rattle.stream_tool.proofs.options.is_given.Goals as goal

pub returns-clause-yes : goal.returns-clause-yes
returns-clause-yes c says = c.get_flag.ensures.value (one_text-rows (found_of c.args.matches.now) c.args.name.now ∙ says)

pub returns-clause-no : goal.returns-clause-no
returns-clause-no c says = c.get_flag.ensures.other (one_text-rows (found_of c.args.matches.now) c.args.name.now ∙ says)
