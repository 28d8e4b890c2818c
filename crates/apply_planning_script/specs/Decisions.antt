-- What was decided of each object that the plan knows, for private clauses.
use Rattle.std.specs.Prelude.{List, slice_get}
use Rattle.std.specs.Option.{option_and_then}
use Rattle.apply_planning_script.specs.declared.decisions.Decision.{Decision}
use Rattle.apply_planning_script.specs.declared.rules.PlanningRules.{PlanningRules}
use Rattle.apply_planning_script.specs.Items.{Item, object_of_item}
use Rattle.apply_planning_script.specs.Objects.{number_in, object_of}
use Rattle.apply_planning_script.specs.Rules.{PlannedObjects}
use Rattle.apply_planning_script.specs.Told.{Object, ToldObject, is_told, item_about, told_if}
use Rattle.apply_model.specs.Plan.ResourceChange.{ResourceChange}

-- the decision on an object
abbrev pub decision_on : PlanningRules → PlannedObjects → List Item → ResourceChange → Decision
decision_on rules plan items object = record {
  is_told = is_told rules plan object (item_about items (object_of object));
  item = number_in object_of_item items (object_of object);
}

-- what a stream tells by the decision
abbrev pub told_decided : List Item → Object → Decision → List ToldObject
told_decided items object decision = told_if decision.is_told object (option_and_then (slice_get items) decision.item)
