-- Waits, steps and entries are read back.
use Rattle.std.proofs.Common.{◌≡◌, ℕ, ◌+◌, ◌==◌, List, [], ◌∷◌, Bool, true, false, cond, length, map, slice_get, Option, Some, None, option_map, option_and_then, unwrap_or, refl, sym, ap, ◌∙◌}
use Rattle.std.specs.Prelude.{codes, filter_map, ◌&&◌, ◌||◌, IfSome, is_none, is_some, nat_lt}
use Rattle.std.specs.List.{AllByRecursion, cons_option}
use Rattle.serde_json.specs.Data.{Data, number, string, unsigned}
use Rattle.serde_json.specs.Find.{as_array, as_number, as_str, as_u64}
use Rattle.apply_json.specs.Tree.{◌>>=◌, list_of, member_of, text_of, text_or, unless_empty, unless_null}
use Rattle.apply_model.specs.declared.script.ending.Ending.{Ending}
use Rattle.apply_model.specs.declared.script.ending.Ending.TheVariants.{Done, Failed, Warned}
use Rattle.apply_model.specs.declared.script.outcome.Outcome.{Outcome}
use Rattle.apply_model.specs.declared.script.provisioner.Provisioner.{Provisioner}
use Rattle.apply_model.specs.declared.script.script_step.ScriptStep.{ScriptStep}
use Rattle.apply_model.specs.declared.script.script_step.ScriptStep.TheVariants.{Answered, Skipped}
use Rattle.apply_model.specs.declared.script.wait.Wait.{Wait}
use Rattle.apply_model.specs.Plan.ResourceChange.{ResourceChange}
use Rattle.apply_model.specs.Script.Outcome.{is_failed, is_warned}
use Rattle.apply_model.specs.Script.Step.{after_of}
use Rattle.apply_plan.specs.Script.Entry.{EntryStep, WaitName, all_some, answered_with, diag_or_none, each_of, ending_from, ending_of, entry_of, failure_or_none, flag_or_false, number_or_none, provisioner_from, seconds_of, skipped_with, step_from, wait_from, wait_of_members}
use Rattle.stream_record.specs.ScriptText.{waited_change, with_step}
use Rattle.laws_record.specs.Writable.{IsFilled, IsWritableChange, IsWritableEnding, IsWritableProvisioner, IsWritableStep}
use Rattle.laws_record.proofs.DiagsBack.{all_back, error_back, optional_diag, provisioner_back, warning_back}
use Rattle.laws_record.proofs.Lists.{array_unless_empty}
use Rattle.laws_record.proofs.Lookups.{each_read, is_member, listed, optional_text, text_back}
use Rattle.laws_record.proofs.Trees.{answered_fields, entry_fields, entry_tree, failed_tree, id_tree, provisioner_tree, skipped_fields, step_tree, wait_fields, wait_tree, waited_tree, waits_tree, warning_tree}
use Rattle.laws_record.proofs.Values.{object_with}
use Rattle.laws_record.proofs.WaitTexts.{AreWritable}

-- ---- waits

-- a wait as it is written: the last step of a change has no number
abbrev pub wait_name : (step : ℕ) → ResourceChange → WaitName
wait_name step change =
    record { address = change.address; deposed = change.deposed; step = cond (step + 1 == length change.steps) None (Some step) }

abbrev pub wait_name_of : List ResourceChange → Wait → Option WaitName
wait_name_of changes wait = option_map (wait_name wait.step) (waited_change changes wait)

abbrev pub wait_names : List ResourceChange → List Wait → List WaitName
wait_names changes waits = filter_map (wait_name_of changes) waits

number_back : (last : Bool) (step : ℕ) → number_or_none (cond last None (Some (number (unsigned step))) >>= unless_null) ≡ Some (cond last None (Some step))
number_back true step = refl
number_back false step = refl

-- a wait that is an object
object_back : (step : ℕ) (change : ResourceChange) → IfSome change.deposed IsFilled → wait_of_members (object_with (wait_fields step change)) ≡ Some (wait_name step change)
unfolding wait_of_members
object_back step change is =
    let fields = wait_fields step change in
    let d = object_with fields in
    let address_is : text_of (codes "address") d ≡ Some change.address = ap (λ o. o >>= as_str) (is_member (codes "address") fields) in
    let deposed_is : text_or [] (member_of (codes "deposed") d) ≡ Some (unwrap_or change.deposed []) = ap (text_or []) (is_member (codes "deposed") fields) ∙ optional_text change.deposed in
    let step_is : number_or_none (member_of (codes "step") d) ≡ Some (cond (step + 1 == length change.steps) None (Some step)) =
    ap number_or_none (is_member (codes "step") fields) ∙ number_back (step + 1 == length change.steps) step in
    (λ i. address_is i >>= (λ address. deposed_is i >>= (λ deposed. step_is i >>= (λ step. Some (record { address = address; deposed = unless_empty deposed; step = step })))))
    ∙ ap (λ (key : Option (List ℕ)). Some (record { address = change.address; deposed = key; step = cond (step + 1 == length change.steps) None (Some step) })) (text_back change.deposed is)

wait_back : (step : ℕ) (change : ResourceChange) → IfSome change.deposed IsFilled → wait_from (waited_tree step change) ≡ Some (wait_name step change)
wait_back step change is = of_parts (step + 1 == length change.steps) change.deposed refl refl
  where
    of_parts : (last : Bool) (deposed : Option (List ℕ)) → (step + 1 == length change.steps) ≡ last → change.deposed ≡ deposed
        → wait_from (cond (last && is_none deposed) (string change.address) (object_with (wait_fields step change))) ≡ Some (wait_name step change)
    of_parts true None last_is none = λ i. Some (record { address = change.address; deposed = sym none i; step = cond (sym last_is i) None (Some step) })
    of_parts true (Some key) last_is some = object_back step change is
    of_parts false deposed last_is key = object_back step change is

waited_filled : (changes : List ResourceChange) → AreWritable changes → (wait : Wait) → IfSome (waited_change changes wait) (λ change. IfSome change.deposed IsFilled)
waited_filled changes writable wait = of_change (slice_get changes wait.change) (writable wait.change)
  where
    of_step : (b : Bool) (change : ResourceChange) → IsWritableChange change → IfSome (cond b (Some change) None) (λ (change : ResourceChange). IfSome change.deposed IsFilled)
    of_step true change is = is.deposed
    of_step false change is = tt

    of_change : (o : Option ResourceChange) → IfSome o IsWritableChange → IfSome (option_and_then (with_step wait.step) o) (λ (change : ResourceChange). IfSome change.deposed IsFilled)
    of_change None is = tt
    of_change (Some change) is = of_step (nat_lt wait.step (length change.steps)) change is

all_waits : (changes : List ResourceChange) → AreWritable changes → (waits : List Wait) → all_some (map wait_from (filter_map (wait_tree changes) waits)) ≡ Some (wait_names changes waits)
all_waits changes writable [] = refl
all_waits changes writable (wait ∷ waits) = of_change (waited_change changes wait) (waited_filled changes writable wait) (all_waits changes writable waits)
  where
    of_change : (o : Option ResourceChange) → IfSome o (λ (change : ResourceChange). IfSome change.deposed IsFilled)
        → all_some (map wait_from (filter_map (wait_tree changes) waits)) ≡ Some (wait_names changes waits)
        → all_some (map wait_from (cons_option (option_map (waited_tree wait.step) o) (filter_map (wait_tree changes) waits))) ≡ Some (cons_option (option_map (wait_name wait.step) o) (wait_names changes waits))
    of_change None is rest = rest
    of_change (Some change) is rest = let first = wait_back wait.step change is in λ i. first i >>= (λ name. rest i >>= (λ names. Some (name ∷ names)))

waits_back : (changes : List ResourceChange) → AreWritable changes → (waits : List Wait) → each_of wait_from (waits_tree changes waits >>= unless_null) ≡ Some (wait_names changes waits)
waits_back changes writable waits = each_read wait_from (filter_map (wait_tree changes) waits) (wait_names changes waits) (all_waits changes writable waits)

-- ---- how a step ends

-- a tree has the members of an ending
record HasEnding (d : Data) (result : Ending) : Type 0 where
  id : member_of (codes "id") d ≡ (id_tree result >>= unless_null)
  warning : member_of (codes "warning") d ≡ (warning_tree result >>= unless_null)
  failed : member_of (codes "failed") d ≡ (failed_tree result >>= unless_null)

ending_in : (d : Data) (result : Ending) → IsWritableEnding result → HasEnding d result → ending_of d ≡ Some result
unfolding ending_of
ending_in d (Done id warning) is has =
    let id_is : text_or [] (member_of (codes "id") d) ≡ Some (unwrap_or id []) = ap (text_or []) has.id ∙ optional_text id in
    let warning_is : diag_or_none (member_of (codes "warning") d) ≡ Some warning = ap diag_or_none has.warning ∙ optional_diag 121 warning is.1 in
    let failed_is : failure_or_none (member_of (codes "failed") d) ≡ Some None = ap failure_or_none has.failed in
    (λ i. id_is i >>= (λ id. warning_is i >>= (λ warning. failed_is i >>= (λ failed. ending_from (unless_empty id) warning failed))))
    ∙ ap (λ (id : Option (List ℕ)). Some (Done id warning)) (text_back id is.0)
ending_in d (Failed diag) is has =
    let id_is : text_or [] (member_of (codes "id") d) ≡ Some [] = ap (text_or []) has.id in
    let warning_is : diag_or_none (member_of (codes "warning") d) ≡ Some None = ap diag_or_none has.warning in
    let failed_is : failure_or_none (member_of (codes "failed") d) ≡ Some (Some (record { diag = diag; only_warns = false })) = ap failure_or_none has.failed ∙ ap (option_map Some) (error_back 121 diag is) in
    λ i. id_is i >>= (λ id. warning_is i >>= (λ warning. failed_is i >>= (λ failed. ending_from (unless_empty id) warning failed)))
ending_in d (Warned diag) is has =
    let id_is : text_or [] (member_of (codes "id") d) ≡ Some [] = ap (text_or []) has.id in
    let warning_is : diag_or_none (member_of (codes "warning") d) ≡ Some None = ap diag_or_none has.warning in
    let failed_is : failure_or_none (member_of (codes "failed") d) ≡ Some (Some (record { diag = diag; only_warns = true })) = ap failure_or_none has.failed ∙ ap (option_map Some) (warning_back 121 diag is) in
    λ i. id_is i >>= (λ id. warning_is i >>= (λ warning. failed_is i >>= (λ failed. ending_from (unless_empty id) warning failed)))

-- ---- steps

-- the outcome of a step without its waits
abbrev pub bare_outcome : ScriptStep → Option Outcome
bare_outcome (Answered outcome) = Some (record { seconds = outcome.seconds; provisioners = outcome.provisioners; result = outcome.result; after = [] })
bare_outcome (Skipped waits) = None

-- a step as it is written
abbrev pub written_step : List ResourceChange → ScriptStep → EntryStep
written_step changes step = record { outcome = bare_outcome step; after = wait_names changes (after_of step) }

alone_back : (fails : Bool) (provisioners : List Provisioner) → (fails ≡ true → provisioners ≡ []) → (fails && nat_lt 0 (length provisioners)) ≡ false
alone_back false provisioners alone = refl
alone_back true provisioners alone = ap (λ (ps : List Provisioner). nat_lt 0 (length ps)) (alone refl)

module _ (changes : List ResourceChange) (writable : AreWritable changes) where
  step_back : (step : ScriptStep) → IsWritableStep step → step_from (step_tree changes step) ≡ Some (written_step changes step)
  unfolding step_from ending_of
  step_back (Answered outcome) is =
      let fields = answered_fields changes outcome in
      let d = object_with fields in
      let names = wait_names changes outcome.after in
      let whole : Outcome = record { seconds = outcome.seconds; provisioners = outcome.provisioners; result = outcome.result; after = [] } in
      let skipped_is : flag_or_false (member_of (codes "skipped") d) ≡ Some false = ap flag_or_false (is_member (codes "skipped") fields) in
      let result_is : ending_of d ≡ Some outcome.result =
      ending_in d outcome.result is.ending (record { id = is_member (codes "id") fields; warning = is_member (codes "warning") fields; failed = is_member (codes "failed") fields }) in
      let provisioners_are : each_of provisioner_from (member_of (codes "provisioners") d) ≡ Some outcome.provisioners =
      ap (each_of provisioner_from) (is_member (codes "provisioners") fields)
      ∙ each_read provisioner_from (map provisioner_tree outcome.provisioners) outcome.provisioners (all_same outcome.provisioners is.provisioners) in
      let after_is : each_of wait_from (member_of (codes "after") d) ≡ Some (wait_names changes outcome.after) =
      ap (each_of wait_from) (is_member (codes "after") fields) ∙ waits_back changes writable outcome.after in
      let seconds_is : seconds_of d ≡ Some outcome.seconds = ap (λ o. (o >>= as_number) >>= as_u64) (is_member (codes "seconds") fields) in
      let alone = alone_back (is_failed outcome.result || is_warned outcome.result) outcome.provisioners is.alone in
      (λ i. skipped_is i >>= (λ skipped. result_is i >>= (λ result. provisioners_are i >>= (λ provisioners. after_is i >>= (λ after.
      cond skipped (skipped_with (is_some (member_of (codes "seconds") d)) result provisioners) (answered_with (seconds_is i) result provisioners) >>= (λ outcome.
      Some (record { outcome = outcome; after = after })))))))
      ∙ (λ i. option_map Some (cond (alone i) None (Some whole)) >>= (λ outcome. Some (record { outcome = outcome; after = names })))
    where
      all_same : (provisioners : List Provisioner) → AllByRecursion IsWritableProvisioner provisioners → all_some (map provisioner_from (map provisioner_tree provisioners)) ≡ Some provisioners
      all_same [] all = refl
      all_same (p ∷ ps) all =
          let first = provisioner_back p all.0 in
          let rest = all_same ps all.1 in
          λ i. first i >>= (λ q. rest i >>= (λ qs. Some (q ∷ qs)))
  step_back (Skipped waits) is =
      let fields = skipped_fields changes waits in
      let d = object_with fields in
      let skipped_is : flag_or_false (member_of (codes "skipped") d) ≡ Some true = ap flag_or_false (is_member (codes "skipped") fields) in
      let result_is : ending_of d ≡ Some (Done None None) =
      ending_in d (Done None None) (tt, tt) (record { id = is_member (codes "id") fields; warning = is_member (codes "warning") fields; failed = is_member (codes "failed") fields }) in
      let provisioners_are : each_of provisioner_from (member_of (codes "provisioners") d) ≡ Some [] = ap (each_of provisioner_from) (is_member (codes "provisioners") fields) in
      let after_is : each_of wait_from (member_of (codes "after") d) ≡ Some (wait_names changes waits) =
      ap (each_of wait_from) (is_member (codes "after") fields) ∙ waits_back changes writable waits in
      let seconds_are : is_some (member_of (codes "seconds") d) ≡ false = ap is_some (is_member (codes "seconds") fields) in
      λ i. skipped_is i >>= (λ skipped. result_is i >>= (λ result. provisioners_are i >>= (λ provisioners. after_is i >>= (λ after.
      cond skipped (skipped_with (seconds_are i) result provisioners) (answered_with (seconds_of d) result provisioners) >>= (λ outcome.
      Some (record { outcome = outcome; after = after }))))))

  -- ---- entries

  -- an entry as it is written
  pub entry_back : (change : ResourceChange) (step : ScriptStep) (steps : List ScriptStep) → IsWritableChange change → AllByRecursion IsWritableStep (step ∷ steps)
      → entry_of (entry_tree changes change (step ∷ steps)) ≡ Some (record { address = change.address; deposed = change.deposed; steps = map (written_step changes) (step ∷ steps) })
  unfolding entry_of
  entry_back change step steps is all =
      let fields = entry_fields changes change (step ∷ steps) in
      let d = object_with fields in
      let trees = map (step_tree changes) (step ∷ steps) in
      let address_is : text_of (codes "address") d ≡ Some change.address = ap (λ o. o >>= as_str) (is_member (codes "address") fields) in
      let deposed_is : text_or [] (member_of (codes "deposed") d) ≡ Some (unwrap_or change.deposed []) = ap (text_or []) (is_member (codes "deposed") fields) ∙ optional_text change.deposed in
      let list_is : member_of (codes "steps") d ≡ (array_unless_empty trees >>= unless_null) = is_member (codes "steps") fields in
      let steps_are = ap (λ (ds : List Data). all_some (map step_from ds)) (listed trees)
      ∙ all_back step_from (step_tree changes) (written_step changes) IsWritableStep step_back (step ∷ steps) all in
      (λ i. address_is i >>= (λ address. deposed_is i >>= (λ deposed. list_is i >>= (λ list. as_array list >>= (λ items. all_some (map step_from (list_of items)) >>= (λ steps.
      Some (record { address = address; deposed = unless_empty deposed; steps = steps })))))))
      ∙ (λ i. steps_are i >>= (λ steps. Some (record { address = change.address; deposed = text_back change.deposed is.deposed i; steps = steps })))
