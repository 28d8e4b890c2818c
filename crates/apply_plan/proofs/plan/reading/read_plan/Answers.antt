use Rattle.std.proofs.Common.{◌≡◌, Some, rules, sym, ◌∙◌}
use Rattle.apply_json.specs.Tree.{tree_of}
use Rattle.apply_json.proofs.VerbatimValues.{whole_tree_of}
use Rattle.apply_plan.specs.Plan.SavedPlan.{plan_of}
use Rattle.apply_plan.proofs.Plans.NoTree.{few, no_plan}
use Rattle.apply_plan.proofs.plan.reading.read_plan.Goals as goal

pub returns-in-Ok-clause-defined : goal.returns-in-Ok-clause-defined
unfolding plan_of
returns-in-Ok-clause-defined c =
    let read = c.in-Ok.ensures.ok in
    let tree : tree_of c.args.bytes.now ≡ Some read.1.0 = sym (whole_tree_of c.args.bytes.now) ∙ read.1.1 in
    search (rules, tree)

pub returns-clause-defined : goal.returns-clause-defined
returns-clause-defined c = no_plan c.in-Err.fault c.of_json.result c.args.bytes.now c.in-Err.ensures.err c.of_json.ensures

pub returns-clause-memory : goal.returns-clause-memory
returns-clause-memory c = λ is. few c.in-Err.fault c.of_json.result c.args.bytes.now c.in-Err.ensures.err c.of_json.ensures cc
