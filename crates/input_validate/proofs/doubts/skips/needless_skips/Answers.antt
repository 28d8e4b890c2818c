use Rattle.std.proofs.Common.{Bool, [], ap, sym, ◌∙◌, arith, if◌then◌else◌}
use Rattle.std.proofs.lemmas.Result.{IfOk-weaker}
use Rattle.serde_json.specs.View.{view}
use Rattle.input_validate.specs.declared.findings.name.Name.TheVariants as name
use Rattle.input_validate.specs.Doubts.{failed_in_script, skips_in_entry}
use Rattle.input_validate.specs.Findings.{reported}
use Rattle.input_validate.specs.Rules.{in_items, inside}
use Rattle.input_validate.proofs.Collected.{none_counted, some_counted}
use Rattle.input_validate.proofs.doubts.skips.needless_skips.Goals as goal

pub returns-then-count-gt0 : goal.returns-then-count-gt0
returns-then-count-gt0 c =
    let d = view c.args.script.now in
    let skips = inside (in_items (λ number. skips_in_entry c.args.planned.now)) name.Changes d in
    c.none.ensures
    ∙ ap (λ (some : Bool). reported (if some then [] else skips))
    (sym (some_counted c.in_ok-failed_in_script.field-0 (failed_in_script d) c.count-2.result c.in_ok-failed_in_script.ensures c.count-2.ensures c.if-count-gt0.true))

pub returns : goal.returns
returns c =
    let d = view c.args.script.now in
    let skips = inside (in_items (λ number. skips_in_entry c.args.planned.now)) name.Changes d in
    IfOk-weaker c.walk_items_at.result _ _
    (λ f is. is ∙ ap (λ (some : Bool). reported (if some then [] else skips))
    (sym (none_counted c.in_ok-failed_in_script.field-0 (failed_in_script d) c.count-2.result c.in_ok-failed_in_script.ensures c.count-2.ensures (omega arith))))
    c.walk_items_at.ensures
