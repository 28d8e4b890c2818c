use Rattle.std.proofs.Common.{ap, sym, ◌∙◌}
use Rattle.serde_json.specs.Read.{read}
use Rattle.apply_json.proofs.Trees.{no_tree, tree_is}
use Rattle.apply_json_tree.proofs.parsing.parse.Goals as goal

pub returns-in-Ok-clause-ok : goal.returns-in-Ok-clause-ok
returns-in-Ok-clause-ok c =
    let text = c.in_ok-text.ensures.ok in
    (text.1, tree_is c.args.bytes.now _ text.2 (ap read (sym text.0) ∙ c.in-Ok.ensures.ok))

pub returns-else-is_memory-clause-err : goal.returns-else-is_memory-clause-err
returns-else-is_memory-clause-err c =
    let text = c.in_ok-text.ensures.ok in
    (text.1, no_tree c.args.bytes.now (λ utf8. ap read (sym text.0) ∙ c.in-Err.ensures.err (λ memory. let said = c.if-is_memory.ensures.1 memory in cc)))
