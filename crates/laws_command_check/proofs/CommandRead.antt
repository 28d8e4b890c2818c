-- What a command read may be planned and applied, and its lines have small numbers.
use Rattle.std.proofs.Common.{◌≡◌, IsUtf8, ℕ, ◌≤◌, List, [], length, Bool, true, false, cond, Option, Some, None, sym, subst, slice_get, option_map, arith}
use Rattle.std.specs.List.{AllByRecursion}
use Rattle.std.specs.Option.{option_map_or}
use Rattle.std.proofs.lemmas.Option.{slice_get-map}
use Rattle.apply_hooks.specs.declared.rule.Rule.{Rule}
use Rattle.apply_model.specs.Plan.ResourceChange.{ResourceChange}
use Rattle.apply_events.specs.Laws.{IsWithinLimits}
use Rattle.apply_events.specs.Waits.Merging.{time_line}
use Rattle.apply_planning.specs.declared.told.Told.{Told}
use Rattle.apply_prior.specs.declared.planned_output.PlannedOutput.{PlannedOutput}
use Rattle.apply_planning.specs.PlanningWork.{change_of, planning_work}
use Rattle.apply_planning_script.specs.declared.rules.PlanningRules.{PlanningRules}
use Rattle.apply_planning_script.specs.Rules.{PlannedObjects}
use Rattle.apply_run.specs.Bytes.{Inputs, IsRead}
use Rattle.apply_run.specs.Read.{IsStated}
use Rattle.apply_text_terraform.specs.declared.command.Command.{Command}
use Rattle.apply_command.specs.Reading.{AreStated, CommandInputs, applied_plan, applied_script, is_applied, kept_changes, kept_drifts, lines, rules_of}
use Rattle.laws_run.specs.Plans.{NamesEachObjectOnce}
use Rattle.laws_run.specs.WaitingSteps.{HasFewSteps}
use Rattle.laws_check.specs.Plans.{ChangesAreWhole}
use Rattle.laws_check.specs.WholeSteps.{IsOfWholeSteps}
use Rattle.laws_check.proofs.Given.{held_at, is_given}
use Rattle.laws_check.proofs.PlanTexts.{IsReadable, IsReadablePlan}
use Rattle.laws_check.proofs.ScriptTexts.{nothing_readable}
use Rattle.laws_check.proofs.WhatWasRead.{limits_of, provisions, the_plan, the_script, warnings}
use Rattle.laws_command_check.specs.Commands.{IsPlannedSo, MayBePlanned, is_plan_told}
use Rattle.laws_command_check.specs.FewTold.{OnlyReadsWarn}
use Rattle.laws_command_check.specs.HeadTexts.{HasDriftTexts, HasPlanningTexts, HasToldTexts, IsSmallLine}
use Rattle.laws_command_check.proofs.CommandTexts.{small_lines, small_plan}
use Rattle.laws_command_check.proofs.Courses.{all_small}
use Rattle.laws_command_check.proofs.OnlyReads.{only_reads_warn, prior_once}
use Rattle.laws_command_check.proofs.PriorTexts.{prior_has_texts}
use Rattle.laws_command_check.proofs.ToldTexts.{told_have_texts}

-- each object that is told is a change of one step
pub told_in_one_step : (told : List Told) → HasFewSteps (planning_work told)
told_in_one_step told c =
    subst (λ (o : Option ResourceChange). length (option_map_or (λ change. change.steps) o []) ≤ 2) (sym (slice_get-map change_of told c)) (by_object (slice_get told c))
  where
    by_object : (o : Option Told) → length (option_map_or (λ (change : ResourceChange). change.steps) (option_map change_of o) []) ≤ 2
    by_object None = omega arith
    by_object (Some one) = omega arith

module _ (given : Inputs) (read : CommandInputs) (is : IsStated given.plan given.script read.stated) (so : IsPlannedSo read) where
  was_read : IsRead given read.stated.plan read.stated.script
  was_read = record { plan_is = is.plan_is; script_is = is.script_is }

  readable : IsReadablePlan read.stated.plan
  readable = the_plan given read.stated.plan read.stated.script was_read

  pub are_whole : ChangesAreWhole read.stated.plan
  are_whole c change place = (is_given IsReadable (slice_get read.stated.plan.changes c) change (held_at IsReadable read.stated.plan.changes c readable.changes) place).of_one

  pub may_be_planned : OnlyReadsWarn read.told → NamesEachObjectOnce read.stated.plan.changes → length read.stated.details.changes ≡ length read.stated.plan.changes → MayBePlanned read
  may_be_planned warns once as_many = record {
    few = so.few;
    warns = warns;
    whole = are_whole;
    as_many = as_many;
    ordinary = record { few = readable.few; once = once; deleted = so.deleted };
    provisions = provisions given read.stated.plan read.stated.script was_read;
    warnings = warnings given read.stated.plan read.stated.script was_read;
  }

  pub command_limits : (command : Command) (lanes : ℕ) (hooks : List (List Rule)) → IsWithinLimits (record { plan = applied_plan command lanes read; script = applied_script command lanes read; hooks = hooks })
  command_limits command lanes hooks = of_applied (is_applied command lanes read)
    where
      of_applied : (b : Bool) → IsWithinLimits (record { plan = cond b read.stated.plan (record { version = read.stated.plan.version; changes = [] }); script = cond b read.stated.script []; hooks = hooks })
      of_applied true = limits_of (record { plan = read.stated.plan; script = read.stated.script; hooks = hooks }) readable (the_script given read.stated.plan read.stated.script was_read)
      of_applied false = limits_of (record { plan = record { version = read.stated.plan.version; changes = [] }; script = []; hooks = hooks }) (record { version = readable.version; changes = tt; few = omega arith }) nothing_readable

  pub command_lines_small : (command : Command) (lanes : ℕ) → HasPlanningTexts read → IsOfWholeSteps (planning_work read.told) (time_line (planning_work read.told) lanes) → AllByRecursion IsSmallLine (lines command lanes read)
  command_lines_small command lanes texts steps =
      let events = time_line (planning_work read.told) lanes in
      small_lines events (all_small read.told events (λ c one place. (is_given HasToldTexts (slice_get read.told c) one (held_at HasToldTexts read.told c texts.told) place).seconds) steps) _
      (small_plan (is_plan_told command lanes read) (kept_drifts command lanes read) (kept_changes command lanes read) read.outputs)

-- what the bytes state of the planning has such texts, and only reads only warn
module _ (command : Command) (refresh : Bool) (given : Inputs) (read : CommandInputs) (is : AreStated command refresh given read) where
  abbrev rules : PlanningRules
  rules = rules_of command refresh read.stated.details.note

  abbrev objects : PlannedObjects
  objects = record { changes = read.stated.plan.changes; details = read.stated.details.changes; drifts = is.prior.drifts.items }

  pub planning_texts : HasPlanningTexts read
  planning_texts =
      let texts = prior_has_texts given.plan is.prior is.prior_is in
      record {
        told = told_have_texts rules objects is.prior.objects.items given.script read.told texts.objects is.told_are;
        drifts = subst (AllByRecursion HasDriftTexts) (sym is.drifts_are) texts.drifts;
        outputs = subst (AllByRecursion (λ (output : PlannedOutput). IsUtf8 output.name)) (sym is.outputs_are) texts.outputs;
      }

  pub planning_warns : OnlyReadsWarn read.told
  planning_warns = only_reads_warn rules objects is.prior.objects.items given.script read.told (prior_once given.plan is.prior is.prior_is) is.told_are
