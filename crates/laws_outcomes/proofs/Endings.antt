-- How the end of a step and its seconds are recorded.
use Rattle.std.proofs.Common.{◌≡◌, ◌∙◌, ℕ, ◌+◌, ◌-◌, ◌<◌, List, [], ◌∷◌, Option, None, Some, Bool, false, true, ap, arith, length, option_map, refl, subst, sym}
use Rattle.std.specs.Prelude.{◌&&◌, ◌||◌, IfSome, if◌then◌else◌}
use Rattle.std.specs.Option.{option_map_or, option_or}
use Rattle.apply_model.specs.declared.details.note.Note.{Note}
use Rattle.apply_model.specs.declared.plan.step_kind.StepKind.{StepKind}
use Rattle.apply_model.specs.declared.plan.step_kind.StepKind.TheVariants.{Create, Delete, Read, Update}
use Rattle.apply_model.specs.declared.script.diag.Diag.{Diag}
use Rattle.apply_model.specs.declared.script.ending.Ending.{Ending}
use Rattle.apply_model.specs.declared.script.provisioner.Provisioner.{Provisioner}
use Rattle.apply_model.specs.Plan.StepKind.{is_kind}
use Rattle.apply_model.specs.Script.Outcome.{diag_of_ending, end_id, is_failed, is_warned, provider_id, seconds_of_all, warning_in}
use Rattle.apply_text_terraform.specs.Message.{end_id as planned_end_id}
use Rattle.stream_record_steps.specs.declared.begun_step.BegunStep.{BegunStep}
use Rattle.stream_record_steps.specs.declared.begun_step.StepEnd.{StepEnd}
use Rattle.stream_record_steps.specs.Steps.{PlannedStep}
use Rattle.stream_record_outcomes.specs.declared.fate.Fate.{Fate}
use Rattle.stream_record_outcomes.specs.declared.fate.Fate.TheVariants.{Done, Failed}
use Rattle.stream_record_outcomes.specs.Outcome.{ending_of, failure_by, fails_by_provisioner, fate_of, fate_of_end, fate_without_end, id_of_end, last_until, provider_seconds, states_provisioners}
use Rattle.stream_record_outcomes.specs.Provisioners.{ProvisionerRun, fails_its_step, has_provisioner, last_provisioner, may_provision}
use Rattle.laws_outcomes.specs.Told.{FitsEnd, id_again, result_of, stated_id}
use Rattle.laws_outcomes.proofs.Runs.{AreRunsOf, last_until_is}

and_false : (b : Bool) → (b && false) ≡ false
and_false true = refl
and_false false = refl

-- ---- the fate

abbrev pub fate_as : (failed : Bool) → Fate
fate_as failed = if failed then Failed else Done

result_fate : (failed : Bool) (id : Option (List ℕ)) → fate_of_end (result_of failed id) ≡ fate_as failed
result_fate true id = refl
result_fate false id = refl

pub fate_is : (kind : StepKind) (begun : BegunStep) (note : Option Note) (end : StepEnd) (failed : Bool) (id : Option (List ℕ))
    → begun.end ≡ Some end → end.result ≡ result_of failed id → fate_of kind begun note ≡ fate_as failed
fate_is kind begun note end failed id ended is =
    ap (λ (o : Option StepEnd). option_map_or (λ e. fate_of_end e.result) o (fate_without_end kind note)) ended
    ∙ ap fate_of_end is ∙ result_fate failed id

-- ---- whether a provisioner makes the step fail, and whether there are provisioners

-- `failed`: the provider fails. `any`: a provisioner makes the step fail.
pub by_is : (step : PlannedStep) (begun : BegunStep) (failed any : Bool) → (any ≡ true → may_provision step ≡ true)
    → (any ≡ true → fails_its_step (last_provisioner begun.facts) ≡ true) → (failed ≡ true → fails_its_step (last_provisioner begun.facts) ≡ false)
    → fails_by_provisioner step begun (fate_as (failed || any)) ≡ any
by_is step begun true true may last alone = ap (λ (b : Bool). b && fails_its_step (last_provisioner begun.facts)) (may refl) ∙ last refl
by_is step begun false true may last alone = ap (λ (b : Bool). b && fails_its_step (last_provisioner begun.facts)) (may refl) ∙ last refl
by_is step begun true false may last alone = ap (λ (b : Bool). may_provision step && b) (alone refl) ∙ and_false (may_provision step)
by_is step begun false false may last alone = refl

pub states_are : (step : PlannedStep) (begun : BegunStep) (failed any : Bool) → may_provision step ≡ true → has_provisioner (last_provisioner begun.facts) ≡ true
    → failed ≡ false → fails_by_provisioner step begun (fate_as (failed || any)) ≡ any
    → states_provisioners step begun (fate_as (failed || any)) ≡ true
states_are step begun true any may has goes_on by = absurd (cc)
states_are step begun false true may has goes_on by =
    ap (λ (b : Bool). b && (has_provisioner (last_provisioner begun.facts) && (false || fails_by_provisioner step begun Failed))) may
    ∙ ap (λ (b : Bool). b && (false || fails_by_provisioner step begun Failed)) has ∙ by
states_are step begun false false may has goes_on by =
    ap (λ (b : Bool). b && (has_provisioner (last_provisioner begun.facts) && true)) may
    ∙ ap (λ (b : Bool). b && true) has

-- ---- the seconds of the provider

-- Before the provisioners, unless the step is a delete.
pub seconds_before_are : (kind : StepKind) (whole since : ℕ) (by : Bool) (provisioners : List Provisioner) (runs : List ProvisionerRun)
    → is_kind Delete kind ≡ false → whole ≡ since + seconds_of_all provisioners → AreRunsOf since provisioners runs
    → provider_seconds kind whole by runs ≡ since
seconds_before_are kind whole since by [] [] other long are = let none : seconds_of_all [] ≡ 0 = refl in omega arith
seconds_before_are kind whole since by [] (run ∷ runs) other long are = absurd are
seconds_before_are kind whole since by (provisioner ∷ others) [] other long are = absurd are
seconds_before_are kind whole since by (provisioner ∷ others) (run ∷ runs) other long are =
    ap (λ (b : Bool). if b then (if by then 0 else whole - last_until run.until runs) else run.begin) other ∙ are.0.began

-- After the provisioners of a delete, unless one of them makes it fail.
pub seconds_after_are : (kind : StepKind) (whole seconds : ℕ) (provisioners : List Provisioner) (runs : List ProvisionerRun)
    → is_kind Delete kind ≡ true → whole ≡ seconds_of_all provisioners + seconds → AreRunsOf 0 provisioners runs
    → provider_seconds kind whole false runs ≡ seconds
seconds_after_are kind whole seconds [] [] deletes long are = let none : seconds_of_all [] ≡ 0 = refl in omega arith
seconds_after_are kind whole seconds [] (run ∷ runs) deletes long are = absurd are
seconds_after_are kind whole seconds (provisioner ∷ others) [] deletes long are = absurd are
seconds_after_are kind whole seconds (provisioner ∷ others) (run ∷ runs) deletes long are =
    let last : last_until 0 (run ∷ runs) ≡ 0 + seconds_of_all (provisioner ∷ others) = last_until_is 0 (provisioner ∷ others) (run ∷ runs) are in
    let left : whole - last_until run.until runs ≡ seconds = omega arith in
    ap (λ (b : Bool). if b then whole - last_until run.until runs else run.begin) deletes ∙ left

-- ---- the ending

none_either : (b : Bool) → let none : Option (List ℕ) = None in none ≡ (if b then None else None)
none_either true = refl
none_either false = refl

end_id_is : (id : Option (List ℕ)) → id_of_end (result_of false id) ≡ stated_id id
end_id_is None = refl
end_id_is (Some id) = refl

-- An id that is not empty is stated as it is.
stated_again : (own : Option (List ℕ)) → IfSome own (λ id. 0 < length id) → stated_id own ≡ own
stated_again None some = refl
stated_again (Some []) some = absurd (omega arith)
stated_again (Some (byte ∷ bytes)) some = refl

or_planned : (own planned id : Option (List ℕ)) → IfSome own (λ text. 0 < length text) → id ≡ option_or own planned
    → option_or (stated_id id) planned ≡ id
or_planned None planned id some is = subst (λ (o : Option (List ℕ)). option_or (stated_id o) planned ≡ o) (sym is) (alone planned)
  where
    alone : (o : Option (List ℕ)) → option_or (stated_id o) o ≡ o
    alone None = refl
    alone (Some []) = refl
    alone (Some (byte ∷ bytes)) = refl
or_planned (Some own) planned id some is =
    ap (λ (o : Option (List ℕ)). option_or (stated_id o) planned) is
    ∙ ap (λ (o : Option (List ℕ)). option_or o planned) (stated_again (Some own) some) ∙ sym is

-- The end reports the id again: in the default form, and in Terraform's form.
pub reported_again : (kind : StepKind) (one other : Ending) (id : Option (List ℕ)) → IfSome (provider_id one) (λ text. 0 < length text)
    → provider_id other ≡ id_again kind false id → id ≡ end_id kind one → end_id kind other ≡ id
reported_again Create one other id some is told = is ∙ ap stated_id told ∙ stated_again (provider_id one) some ∙ sym told
reported_again Update one other id some is told = is ∙ ap stated_id told ∙ stated_again (provider_id one) some ∙ sym told
reported_again Delete one other id some is told = sym told
reported_again Read one other id some is told = is ∙ ap stated_id told ∙ stated_again (provider_id one) some ∙ sym told

pub planned_again : (kind : StepKind) (one other : Ending) (id planned : Option (List ℕ)) → IfSome (provider_id one) (λ text. 0 < length text)
    → provider_id other ≡ id_again kind false id → id ≡ planned_end_id kind one planned → planned_end_id kind other planned ≡ id
planned_again Create one other id planned some is told =
    ap (λ (o : Option (List ℕ)). option_or o planned) is ∙ or_planned (provider_id one) planned id some told
planned_again Update one other id planned some is told =
    ap (λ (o : Option (List ℕ)). option_or o planned) is ∙ or_planned (provider_id one) planned id some told
planned_again Delete one other id planned some is told = sym told
planned_again Read one other id planned some is told =
    ap (λ (o : Option (List ℕ)). option_or o planned) is ∙ or_planned (provider_id one) planned id some told

module _ (kind : StepKind) (begun : BegunStep) (note : Option Note) where
  pub fails_again : (failed any : Bool) → (is_failed (ending_of kind begun note any (fate_as (failed || any))) || any) ≡ (failed || any)
  fails_again true true = refl
  fails_again true false = refl
  fails_again false true = refl
  fails_again false false = refl

  pub never_warned : (failed any : Bool) → is_warned (ending_of kind begun note any (fate_as (failed || any))) ≡ false
  never_warned true true = refl
  never_warned true false = refl
  never_warned false true = refl
  never_warned false false = refl

  pub id_is : (failed any : Bool) (end : StepEnd) (id : Option (List ℕ)) → begun.end ≡ Some end → end.result ≡ result_of (failed || any) id
      → provider_id (ending_of kind begun note any (fate_as (failed || any))) ≡ id_again kind (failed || any) id
  id_is true true end id ended is = none_either (is_kind Delete kind)
  id_is true false end id ended is = none_either (is_kind Delete kind)
  id_is false true end id ended is = none_either (is_kind Delete kind)
  id_is false false end id ended is =
      ap (λ (o : Option (List ℕ)). if is_kind Delete kind then None else o)
      (ap (λ (o : Option StepEnd). option_map_or (λ e. id_of_end e.result) o None) ended ∙ ap id_of_end is ∙ end_id_is id)

  pub warning_is : (failed any : Bool) → (failed || any) ≡ false
      → warning_in (ending_of kind begun note any (fate_as (failed || any))) ≡ option_map (λ own. own.diag) note
  warning_is true any goes_on = absurd (cc)
  warning_is false true goes_on = absurd (cc)
  warning_is false false goes_on = refl

pub failure_is : (kind : StepKind) (begun : BegunStep) (note : Option Note) (failed any : Bool) (first : Option Diag) → (failed || any) ≡ true
    → FitsEnd true note → (any ≡ true → first ≡ failure_by true note)
    → option_or (diag_of_ending (ending_of kind begun note any (fate_as (failed || any)))) first ≡ option_map (λ own. own.diag) note
failure_is kind begun None failed any first fails fits is = absurd fits
failure_is kind begun (Some note) true true first fails fits is = is refl
failure_is kind begun (Some note) true false first fails fits is = refl
failure_is kind begun (Some note) false true first fails fits is = is refl
failure_is kind begun (Some note) false false first fails fits is = absurd (cc)
