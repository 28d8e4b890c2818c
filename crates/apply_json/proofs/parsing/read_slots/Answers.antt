use Rattle.std.proofs.Common.{Err, ap, rules, subst, sym, ◌∙◌}
use Rattle.apply_json.specs.Verbatim.{IsNoMixedTree, mixed_tree_of_text}
use Rattle.apply_json.proofs.VerbatimValues.{no_kept_tree}
use Rattle.apply_json.proofs.Trees.{kept_tree_is, no_tree_of_text}
use Rattle.apply_json.proofs.parsing.read_slots.Goals as goal

pub returns-in_err-text-clause-err : goal.returns-in_err-text-clause-err
returns-in_err-text-clause-err g c =
    let refused = no_kept_tree g.S.Slots.is_verbatim c.args.most c.in_err-text.field-0.0 c.args.bytes.now c.in_err-text.ensures.err in
    search (rules, refused)

pub returns-in-Ok-clause-ok : goal.returns-in-Ok-clause-ok
returns-in-Ok-clause-ok g c =
    let text = c.in_ok-text.ensures.ok in
    let found = c.in-Ok.ensures.ok in
    (text.1, (found.0, kept_tree_is g.S.Slots.is_verbatim c.args.bytes.now found.0 text.2 (ap (mixed_tree_of_text g.S.Slots.is_verbatim) (sym text.0) ∙ found.1), found.2))

pub returns-in-Err-clause-err : goal.returns-in-Err-clause-err
returns-in-Err-clause-err g c =
    let text = c.in_ok-text.ensures.ok in
    let refused = no_tree_of_text c.args.most c.in-Err.fault _ c.args.bytes.now text.0 text.1 (λ is. c.in-Err.ensures.err (ap Err is)) in
    subst (λ fault. IsNoMixedTree g.S.Slots.is_verbatim c.args.most fault c.args.bytes.now) (sym c.of.ensures) (no_kept_tree g.S.Slots.is_verbatim c.args.most _ c.args.bytes.now refused)
