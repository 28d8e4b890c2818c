-- The changes of a plan that was read may stand in a script, each once.
use Rattle.std.proofs.Common.{◌≡◌, ℕ, List, [], ◌∷◌, Ok}
use Rattle.std.specs.List.{AllByRecursion}
use Rattle.apply_model.specs.Plan.ResourceChange.{ResourceChange}
use Rattle.apply_model.specs.Plan.SavedPlan.{SavedPlan}
use Rattle.apply_plan.specs.Plan.SavedPlan.{plan_of}
use Rattle.laws_run.specs.Plans as read
use Rattle.laws_check.proofs.PlanTexts.{IsReadable, plan_readable}
use Rattle.laws_record.specs.Writable.{IsWritableChange, NamesEachObjectOnce}
use Rattle.laws_recorded.proofs.DeposedKeys.{HasFilledKey, keys_filled}

each_writable : (changes : List ResourceChange) → AllByRecursion IsReadable changes → AllByRecursion HasFilledKey changes → AllByRecursion IsWritableChange changes
each_writable [] texts keys = tt
each_writable (change ∷ changes) texts keys =
    (record { address = texts.0.address; deposed = keys.0; few = texts.0.few_steps }, each_writable changes texts.1 keys.1)

pub changes_writable : (bytes : List ℕ) (plan : SavedPlan) → plan_of bytes ≡ Ok plan → AllByRecursion IsWritableChange plan.changes
changes_writable bytes plan is = each_writable plan.changes (plan_readable bytes plan is).changes (keys_filled bytes plan is)

pub named_once : (changes : List ResourceChange) → read.NamesEachObjectOnce changes → NamesEachObjectOnce changes
named_once [] once = tt
named_once (change ∷ changes) once = (once.0, named_once changes once.1)
