use Rattle.apply_text_terraform.proofs.OutputTexts.{first_of, first_written}
use Rattle.apply_text_terraform.proofs.outputs.push_all.Goals as goal

pub returns-in_ok-push_output-in-len1-up-clause-ok : goal.returns-in_ok-push_output-in-len1-up-clause-ok
returns-in_ok-push_output-in-len1-up-clause-ok c = first_written c.push_more.result _ _ _ c.args.outputs.now _ c.first-item.result (first_of c.args.outputs.now c.first-item.result c.in-len1-up.len_at_least c.first-item.is) c.in_ok-push_output-in-len1-up.ensures.ok c.push_more.ensures.ok
