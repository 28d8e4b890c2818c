use Rattle.std.proofs.Common.{rules}
use Rattle.apply_json.proofs.Trees.{no_tree}
use Rattle.apply_json.proofs.parsing.text_of.Goals as goal

pub returns-in-Err-clause-err : goal.returns-in-Err-clause-err
returns-in-Err-clause-err c = (search rules, no_tree c.args.bytes.now (λ utf8. absurd (c.in-Err.ensures utf8)))
