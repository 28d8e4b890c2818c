use Rattle.std.proofs.Common.{◌≡◌, ℕ, length, true, false, ap, ◌∙◌, arith}
use Rattle.std.specs.Prelude.{nat_lt}
use Rattle.std.proofs.lemmas.Bool.{le-ltb, lt-ltb}
use Rattle.std.proofs.lemmas.Result.{IfOk-weaker}
use Rattle.serde_json.specs.View.{items_view}
use Rattle.apply_json.specs.Tree.{list_of}
use Rattle.apply_model.specs.Plan.SavedPlan.{max_changes}
use Rattle.input_validate.proofs.Trees.{length_listed}
use Rattle.input_validate.proofs.plan.top_level.walk_changes.Goals as goal

pub returns-then-elements-gt-MAX_CHANGES : goal.returns-then-elements-gt-MAX_CHANGES
returns-then-elements-gt-MAX_CHANGES c =
    let ds = list_of (items_view c.args.elements.now) in
    let many : nat_lt max_changes (length ds) ≡ true =
    ap (λ (n : ℕ). nat_lt max_changes n) (length_listed c.args.elements.now) ∙ lt-ltb max_changes (length c.args.elements.now) c.if-elements-gt-MAX_CHANGES.true in
    rw many c.at.ensures

pub returns : goal.returns
returns c =
    let ds = list_of (items_view c.args.elements.now) in
    let few : nat_lt max_changes (length ds) ≡ false =
    ap (λ (n : ℕ). nat_lt max_changes n) (length_listed c.args.elements.now) ∙ le-ltb max_changes (length c.args.elements.now) (omega arith) in
    rw few (IfOk-weaker c.under.result _ _ (λ f is. is _ c.in_ok-walk_elements.ensures) c.under.ensures)
