use Rattle.std.proofs.Common.{◌≡◌, ◌<◌, ◌≤◌, ◌+◌, List, length, ap, sym, ◌∙◌, arith}
use Rattle.std.specs.Prelude.{slice_get}
use Rattle.apply_model.specs.Plan.ResourceChange.{ResourceChange}
use Rattle.input_validate.specs.AgainstPlan.{change_named}
use Rattle.input_validate.specs.FirstNamed.{of_objects}
use Rattle.input_validate.specs.ObjectNames.{name_view}
use Rattle.input_validate.specs.PlanFindings.{is_named}
use Rattle.input_validate.proofs.FirstNames.{nowhere, object_of, where_first}
use Rattle.input_validate.proofs.against_plan.planned.Planned.change.Goals as goal

pub returns-in-None : goal.returns-in-None
returns-in-None c =
    let changes = c.self.inside.plan.now.changes in
    sym (nowhere object_of (is_named (name_view c.args.name)) changes 0 (sym (c.in-None.ensures (of_objects changes) c.self.invariant.1)))
    ∙ ap (λ (all : List ResourceChange). change_named all (name_view c.args.name)) c.self.view_is

pub overflow_cast-number : goal.overflow_cast-number
overflow_cast-number c =
    let changes = c.self.inside.plan.now.changes in
    let it = where_first object_of (is_named (name_view c.args.name)) changes 0 c.in-Some.number (sym (c.in-Some.ensures (of_objects changes) c.self.invariant.1)) in
    let at : c.in-Some.number ≡ 0 + it.at = it.is in
    let below : it.at < length changes = it.below in
    let few : length changes ≤ 10000 = c.self.invariant.0 in
    omega arith

pub change-requires : goal.change-requires
change-requires c =
    let changes = c.self.inside.plan.now.changes in
    let it = where_first object_of (is_named (name_view c.args.name)) changes 0 c.in-Some.number (sym (c.in-Some.ensures (of_objects changes) c.self.invariant.1)) in
    let at : c.in-Some.number ≡ 0 + it.at = it.is in
    let below : it.at < length changes = it.below in
    omega arith

pub returns-in-Some : goal.returns-in-Some
returns-in-Some c =
    let changes = c.self.inside.plan.now.changes in
    let it = where_first object_of (is_named (name_view c.args.name)) changes 0 c.in-Some.number (sym (c.in-Some.ensures (of_objects changes) c.self.invariant.1)) in
    let at : c.in-Some.number ≡ it.at = it.is ∙ (let q : 0 + it.at ≡ it.at = omega arith in q) in
    c.change.ensures ∙ ap (slice_get changes) at ∙ it.same_value
    ∙ ap (λ (all : List ResourceChange). change_named all (name_view c.args.name)) c.self.view_is
