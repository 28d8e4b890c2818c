-- An entry that may be written has no fault.
use Rattle.std.proofs.Common.{◌≡◌, ℕ, suc, ◌+◌, ◌≤◌, List, [], ◌∷◌, Bool, false, cond, length, map, Option, Some, None, refl, ap, ◌∙◌, arith}
use Rattle.std.specs.Prelude.{All, ◌||◌, is_some}
use Rattle.std.specs.List.{AllByRecursion, enumerate_from, list_any, zip}
use Rattle.std.specs.Option.{option_or}
use Rattle.std.proofs.lemmas.Bool.{le-ltb}
use Rattle.std.proofs.lemmas.List.Elements.{All-head, All-tail}
use Rattle.apply_model.specs.declared.plan.step_kind.StepKind.{StepKind}
use Rattle.apply_model.specs.declared.script.outcome.Outcome.{Outcome}
use Rattle.apply_model.specs.declared.script.provisioner.Provisioner.{Provisioner}
use Rattle.apply_model.specs.declared.script.script_step.ScriptStep.{ScriptStep}
use Rattle.apply_model.specs.declared.script.script_step.ScriptStep.TheVariants.{Answered, Skipped}
use Rattle.apply_model.specs.Plan.ResourceChange.{ResourceChange}
use Rattle.apply_model.specs.Script.Limits.{max_outputs, max_provisioners, max_seconds, max_waits}
use Rattle.apply_model.specs.Script.Outcome.{has_too_many_provisioners, has_too_much_output, is_too_long, puts_out_too_much, seconds_in_all}
use Rattle.apply_model.specs.Script.OutcomeMap.{OutcomeMap}
use Rattle.apply_model.specs.Script.Step.{answer_to}
use Rattle.apply_plan.specs.declared.script.script_error.ScriptError.TheVariants.{TooManySteps, SecondsRange, TooManyProvisioners, TooMuchOutput, NotACreate, WarnsNotARead, TooManyWaits, UnknownWait, NoSuchStep}
use Rattle.apply_plan.specs.Script.Entry.{EntryStep}
use Rattle.apply_plan.specs.Script.Refusals.{count_of_waits, fault_of_entry, fault_of_steps, fault_of_waits, misplaces_provisioners, passes, warns_not_a_read}
use Rattle.laws_record.specs.Writable.{IsWritableEntry, IsWritableStep, NamesEachObjectOnce, waits_in_steps}
use Rattle.laws_record.proofs.Resolved.{steps_resolved}
use Rattle.laws_record.proofs.StepsBack.{bare_outcome, written_step}

-- ---- the limits of each step

none_pass : (test : Outcome → Bool) → ((step : ScriptStep) → IsWritableStep step → passes test (bare_outcome step) ≡ false) → (steps : List ScriptStep) → AllByRecursion IsWritableStep steps
    → list_any (passes test) (map bare_outcome steps) ≡ false
none_pass test each [] all = refl
none_pass test each (step ∷ steps) all =
    let first = each step all.0 in
    let rest = none_pass test each steps all.1 in
    λ i. first i || rest i

not_long : (step : ScriptStep) → IsWritableStep step → passes is_too_long (bare_outcome step) ≡ false
not_long (Answered outcome) is = le-ltb max_seconds (seconds_in_all outcome) is.bounded.short
not_long (Skipped waits) is = refl

few_provisioners : (step : ScriptStep) → IsWritableStep step → passes has_too_many_provisioners (bare_outcome step) ≡ false
few_provisioners (Answered outcome) is = le-ltb max_provisioners (length outcome.provisioners) is.bounded.few_provisioners
few_provisioners (Skipped waits) is = refl

abbrev IsQuiet : Provisioner → Type 0
IsQuiet provisioner = length provisioner.output ≤ max_outputs

all_quiet : (provisioners : List Provisioner) → All IsQuiet provisioners → list_any puts_out_too_much provisioners ≡ false
all_quiet [] all = refl
all_quiet (p ∷ ps) all =
    let first = le-ltb max_outputs (length p.output) (All-head IsQuiet p ps all) in
    let rest = all_quiet ps (All-tail IsQuiet p ps all) in
    λ i. first i || rest i

little_output : (step : ScriptStep) → IsWritableStep step → passes has_too_much_output (bare_outcome step) ≡ false
little_output (Answered outcome) is = all_quiet outcome.provisioners is.bounded.little_output
little_output (Skipped waits) is = refl

-- ---- steps by their kinds

abbrev Placed : Type 0
Placed = (ℕ × StepKind) × Option Outcome

same_any : (test : Placed → Bool) → ((kind : ℕ × StepKind) (step : ScriptStep) → test (kind, bare_outcome step) ≡ test (kind, answer_to step))
    → (kinds : List (ℕ × StepKind)) (steps : List ScriptStep) → list_any test (zip kinds (map bare_outcome steps)) ≡ list_any test (zip kinds (map answer_to steps))
same_any test each [] steps = refl
same_any test each (kind ∷ kinds) [] = refl
same_any test each (kind ∷ kinds) (step ∷ steps) =
    let first = each kind step in
    let rest = same_any test each kinds steps in
    λ i. first i || rest i

same_misplaced : (deposed : Bool) (kind : ℕ × StepKind) (step : ScriptStep) → misplaces_provisioners deposed (kind, bare_outcome step) ≡ misplaces_provisioners deposed (kind, answer_to step)
same_misplaced deposed kind (Answered outcome) = refl
same_misplaced deposed kind (Skipped waits) = refl

same_warning : (kind : ℕ × StepKind) (step : ScriptStep) → warns_not_a_read (kind, bare_outcome step) ≡ warns_not_a_read (kind, answer_to step)
same_warning kind (Answered outcome) = refl
same_warning kind (Skipped waits) = refl

bare_all : (changes : List ResourceChange) (steps : List ScriptStep) → map (λ (step : EntryStep). step.outcome) (map (written_step changes) steps) ≡ map bare_outcome steps
bare_all changes [] = refl
bare_all changes (step ∷ steps) = ap (λ (os : List (Option Outcome)). bare_outcome step ∷ os) (bare_all changes steps)

bare_length : (steps : List ScriptStep) → length (map bare_outcome steps) ≡ length steps
bare_length [] = refl
bare_length (step ∷ steps) = ap suc (bare_length steps)

-- ---- an entry

module _ (changes : List ResourceChange) (script : OutcomeMap) (k : ℕ) (change : ResourceChange) (steps : List ScriptStep) (is : IsWritableEntry changes script k change steps) (n : ℕ) where
  steps_fit : fault_of_steps n (is_some change.deposed) change.steps (map bare_outcome steps) ≡ None
  unfolding fault_of_steps
  steps_fit =
      let deposed = is_some change.deposed in
      let placed = zip (enumerate_from 0 change.steps) (map bare_outcome steps) in
      let same_length = bare_length steps in
      let bound = is.few in
      let few = le-ltb (length change.steps) (length (map bare_outcome steps)) (omega arith) in
      let short = none_pass is_too_long not_long steps is.each in
      let provisioners = none_pass has_too_many_provisioners few_provisioners steps is.each in
      let quiet = none_pass has_too_much_output little_output steps is.each in
      let provisioned = same_any (misplaces_provisioners deposed) (same_misplaced deposed) (enumerate_from 0 change.steps) steps ∙ is.provisioned in
      let warned = same_any warns_not_a_read same_warning (enumerate_from 0 change.steps) steps ∙ is.warned in
      λ i. cond (few i) (Some (TooManySteps n))
      (cond (short i) (Some (SecondsRange n))
      (cond (provisioners i) (Some (TooManyProvisioners n))
      (cond (quiet i) (Some (TooMuchOutput n)) (cond (provisioned i) (Some (NotACreate n)) (cond (warned i) (Some (WarnsNotARead n)) None)))))

  module _ (once : NamesEachObjectOnce changes) (earlier : ℕ) (few_waits : earlier + waits_in_steps steps ≤ max_waits) where
    waits_fit : fault_of_waits n changes earlier (map (written_step changes) steps) ≡ None
    unfolding fault_of_waits
    waits_fit =
        let resolved = steps_resolved changes once steps is.waits in
        let counted = resolved.count in
        let few = le-ltb max_waits (earlier + count_of_waits (map (written_step changes) steps)) (omega arith) in
        λ i. cond (few i) (Some (TooManyWaits n)) (cond (resolved.known i) (Some (UnknownWait n)) (cond (resolved.whole i) (Some (NoSuchStep n)) None))

    pub faultless : fault_of_entry n changes earlier change (map (written_step changes) steps) ≡ None
    faultless =
        let outcomes_are = bare_all changes steps in
        (λ i. option_or (fault_of_steps n (is_some change.deposed) change.steps (outcomes_are i)) (fault_of_waits n changes earlier (map (written_step changes) steps)))
        ∙ (λ i. option_or (steps_fit i) (waits_fit i))
