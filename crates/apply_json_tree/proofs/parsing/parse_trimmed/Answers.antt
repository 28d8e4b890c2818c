use Rattle.std.proofs.Common.{Err, ap, subst, sym, ◌∙◌}
use Rattle.serde_json.specs.Read.{read}
use Rattle.apply_json.specs.Parsed.{IsNoTree}
use Rattle.apply_json.proofs.Trees.{no_tree_of_text, tree_is}
use Rattle.apply_json_tree.proofs.parsing.parse_trimmed.Goals as goal

pub returns-in-Ok-clause-ok : goal.returns-in-Ok-clause-ok
returns-in-Ok-clause-ok g c =
    let text = c.in_ok-text.ensures.ok in
    let stored = c.in-Ok.ensures.ok in
    (text.1, (stored.0, tree_is c.args.bytes.now stored.0 text.2 (ap read (sym text.0) ∙ stored.1), stored.2))

pub returns-in-Err-clause-err : goal.returns-in-Err-clause-err
returns-in-Err-clause-err g c =
    let text = c.in_ok-text.ensures.ok in
    let refused = no_tree_of_text c.args.most c.in-Err.fault _ c.args.bytes.now text.0 text.1 (λ is. c.in-Err.ensures.err (ap Err is)) in
    subst (λ fault. IsNoTree c.args.most fault c.args.bytes.now) (sym c.of.ensures) refused
