-- The parts of a step that was read are sound.
use Rattle.std.proofs.Common.{◌≡◌, ℕ, ◌<◌, Bool, true, false, cond, List, [], ◌∷◌, codes, length, map, Option, Some, None, refl, sym, subst, arith}
use Rattle.std.proofs.lemmas.Bool.{ltb-false}
use Rattle.std.specs.Prelude.{◌&&◌, ◌||◌, IfSome, is_some, nat_lt, not}
use Rattle.std.specs.List.{AllByRecursion}
use Rattle.serde_json.specs.Data.{Data, Items}
use Rattle.serde_json.specs.Find.{as_bool, as_str}
use Rattle.apply_json.specs.Tree.{◌>>=◌, items_or_empty, list_of, member_of, non_empty_text_of, text_of, text_or, unless_empty}
use Rattle.apply_model.specs.declared.script.diag.Diag.{Diag}
use Rattle.apply_model.specs.declared.script.ending.Ending.{Ending}
use Rattle.apply_model.specs.declared.script.ending.Ending.TheVariants.{Done, Failed, Warned}
use Rattle.apply_model.specs.declared.script.outcome.Outcome.{Outcome}
use Rattle.apply_model.specs.declared.script.provisioner.Provisioner.{Provisioner}
use Rattle.apply_model.specs.declared.script.timed_text.TimedText.{TimedText}
use Rattle.apply_model.specs.Script.Outcome.{are_in_time, is_failed, is_warned, provider_id}
use Rattle.apply_plan.specs.Script.Entry.{EntryStep, Failure, OutputItem, all_some, answered_with, diag_or_none, each_of, ending_by, ending_from, ending_of, failure_or_none, flag_or_false, may_fail_or_not, output_from, provisioner_from, seconds_of, skipped_with, step_from, timed, timed_outputs, wait_from, with_provisioners}
use Rattle.laws_scripts.specs.Outcomes.{IsInOrder, IsSound}

-- ---- values that may be missing

pub bind_some : {A B : Type 0} (o : Option A) (f : A → Option B) (y : B) → (o >>= f) ≡ Some y → (x : A) × (o ≡ Some x) × (f x ≡ Some y)
bind_some None f y e = absurd cc
bind_some (Some x) f y e = (x, refl, e)

abbrev pub the_some : {A : Type 0} → A → Option A
the_some x = Some x

pub some_is : {A : Type 0} (x y : A) → (the_some x) ≡ the_some y → x ≡ y
some_is x y e = cc

pub all_some_hold : {X Y : Type 0} (P : Y → Type 0) (f : X → Option Y) (xs : List X) (ys : List Y) → ((x : X) (y : Y) → f x ≡ Some y → P y) → all_some (map f xs) ≡ Some ys → AllByRecursion P ys
all_some_hold P f [] ys holds e = subst (AllByRecursion P) (some_is [] ys e) tt
all_some_hold P f (x ∷ xs) ys holds e =
    let first = bind_some (f x) (λ y. all_some (map f xs) >>= λ rest. the_some (y ∷ rest)) ys e in
    let others = bind_some (all_some (map f xs)) (λ rest. the_some (first.0 ∷ rest)) ys first.2 in
    subst (AllByRecursion P) (some_is (first.0 ∷ others.0) ys others.2) (holds x first.0 first.1, all_some_hold P f xs others.0 holds others.1)

pub each_hold : {Y : Type 0} (P : Y → Type 0) (f : Data → Option Y) (input : Option Data) (ys : List Y) → ((x : Data) (y : Y) → f x ≡ Some y → P y) → each_of f input ≡ Some ys → AllByRecursion P ys
each_hold P f input ys holds e =
    let items = bind_some (items_or_empty input) (λ items. all_some (map f (list_of items))) ys e in
    all_some_hold P f (list_of items.0) ys holds items.2

filled : (text name : List ℕ) → unless_empty text ≡ Some name → 0 < length name
filled [] name e = absurd cc
filled (byte ∷ bytes) name e = subst (λ (t : List ℕ). 0 < length t) (some_is (byte ∷ bytes) name e) (omega arith)

-- ---- provisioners

outputs_in_time : (seconds : ℕ) (items : List OutputItem) (output : List TimedText) → timed_outputs seconds items ≡ Some output → are_in_time 0 seconds output ≡ true
outputs_in_time seconds items output e = of_test (are_in_time 0 seconds (map (timed seconds) items)) refl e
  where
    of_test : (b : Bool) → are_in_time 0 seconds (map (timed seconds) items) ≡ b → cond b (the_some (map (timed seconds) items)) None ≡ Some output → are_in_time 0 seconds output ≡ true
    of_test true is e = subst (λ (o : List TimedText). are_in_time 0 seconds o ≡ true) (some_is (map (timed seconds) items) output e) is
    of_test false is e = absurd cc

pub provisioner_holds : (d : Data) (provisioner : Provisioner) → provisioner_from d ≡ Some provisioner → IsInOrder provisioner
unfolding provisioner_from
provisioner_holds d provisioner e =
    let name = bind_some (non_empty_text_of (codes "provisioner") d) _ provisioner e in
    let text = bind_some (text_of (codes "provisioner") d) unless_empty name.0 name.1 in
    let seconds = bind_some (seconds_of d) _ provisioner name.2 in
    let failed = bind_some (diag_or_none (member_of (codes "failed") d)) _ provisioner seconds.2 in
    let items = bind_some (each_of output_from (member_of (codes "output") d)) _ provisioner failed.2 in
    let output = bind_some (timed_outputs seconds.0 items.0) _ provisioner items.2 in
    let may_fail = bind_some (may_fail_or_not (member_of (codes "on_failure") d)) _ provisioner output.2 in
    subst IsInOrder (some_is (record { name = name.0; seconds = seconds.0; output = output.0; failed = failed.0; may_fail = may_fail.0 }) provisioner may_fail.2)
    (record { named = filled text.0 name.0 text.2; in_time = outputs_in_time seconds.0 items.0 output.0 output.1 })

-- ---- endings

abbrev pub HasId : Ending → Type 0
HasId ending = IfSome (provider_id ending) (λ id. 0 < length id)

abbrev pub HasFilled : Option (List ℕ) → Type 0
HasFilled id = IfSome id (λ id. 0 < length id)

of_filled : (text : List ℕ) → HasFilled (unless_empty text)
of_filled [] = tt
of_filled (byte ∷ bytes) = omega arith

pub ending_by_holds : (id : Option (List ℕ)) (warning : Option Diag) (failed : Option Failure) (ending : Ending) → HasFilled id → ending_from id warning failed ≡ Some ending → HasId ending
ending_by_holds id warning None ending filled e = subst (λ (x : Ending). IfSome (provider_id x) (λ id. 0 < length id)) (some_is (Done id warning) ending e) filled
ending_by_holds None None (Some failure) ending filled e = subst (λ (x : Ending). IfSome (provider_id x) (λ id. 0 < length id)) (some_is (ending_by failure) ending e) (of_flag failure.only_warns)
  where
    of_flag : (b : Bool) → IfSome (provider_id (cond b (Warned failure.diag) (Failed failure.diag))) (λ id. 0 < length id)
    of_flag true = tt
    of_flag false = tt
ending_by_holds None (Some warning) (Some failure) ending filled e = absurd cc
ending_by_holds (Some id) warning (Some failure) ending filled e = absurd cc

pub ending_holds : (d : Data) (ending : Ending) → ending_of d ≡ Some ending → HasId ending
unfolding ending_of
ending_holds d ending e =
    let id = bind_some (text_or [] (member_of (codes "id") d)) _ ending e in
    let warning = bind_some (diag_or_none (member_of (codes "warning") d)) _ ending id.2 in
    let failed = bind_some (failure_or_none (member_of (codes "failed") d)) _ ending warning.2 in
    ending_by_holds (unless_empty id.0) warning.0 failed.0 ending (of_filled id.0) failed.2

-- ---- steps

none_are : (provisioners : List Provisioner) → nat_lt 0 (length provisioners) ≡ false → provisioners ≡ []
none_are [] e = refl
none_are (one ∷ others) e = absurd (omega (arith, ltb-false 0 (length (one ∷ others)) e))

outcome_holds : (seconds : ℕ) (result : Ending) (provisioners : List Provisioner) (outcome : Outcome) → HasId result → AllByRecursion IsInOrder provisioners → with_provisioners seconds result provisioners ≡ Some outcome → IsSound outcome
outcome_holds seconds result provisioners outcome id all e = of_tests (is_failed result || is_warned result) (nat_lt 0 (length provisioners)) refl refl e
  where
    made : Outcome
    made = record { seconds = seconds; provisioners = provisioners; result = result; after = [] }

    of_tests : (fails many : Bool) → (is_failed result || is_warned result) ≡ fails → nat_lt 0 (length provisioners) ≡ many → cond (fails && many) None (the_some made) ≡ Some outcome → IsSound outcome
    of_tests true true is has e = absurd cc
    of_tests true false is has e = subst IsSound (some_is made outcome e) (record { provisioners = all; has_id = id; fails_alone = λ yes. none_are provisioners has })
    of_tests false many is has e = subst IsSound (some_is made outcome e) (record { provisioners = all; has_id = id; fails_alone = λ yes. absurd cc })

abbrev map_some : {A : Type 0} → Option A → Option (Option A)
map_some None = None
map_some (Some x) = Some (Some x)

pub answered_holds : (seconds : Option ℕ) (result : Ending) (provisioners : List Provisioner) (answer : Option Outcome) → HasId result → AllByRecursion IsInOrder provisioners → answered_with seconds result provisioners ≡ Some answer → IfSome answer IsSound
answered_holds None result provisioners answer id all e = absurd cc
answered_holds (Some seconds) result provisioners answer id all e = of_outcome (with_provisioners seconds result provisioners) refl e
  where
    of_outcome : (o : Option Outcome) → with_provisioners seconds result provisioners ≡ o → map_some o ≡ Some answer → IfSome answer IsSound
    of_outcome None is e = absurd cc
    of_outcome (Some outcome) is e = subst (λ (a : Option Outcome). IfSome a IsSound) (some_is (the_some outcome) answer e) (outcome_holds seconds result provisioners outcome id all is)

abbrev no_outcome : Option Outcome
no_outcome = None

skipped_holds : (told : Bool) (result : Ending) (provisioners : List Provisioner) (answer : Option Outcome) → skipped_with told result provisioners ≡ Some answer → IfSome answer IsSound
skipped_holds told result provisioners answer e = of_test _ e
  where
    of_test : (b : Bool) → cond b None (the_some no_outcome) ≡ Some answer → IfSome answer IsSound
    of_test true e = absurd cc
    of_test false e = subst (λ (a : Option Outcome). IfSome a IsSound) (some_is no_outcome answer e) tt

pub step_holds : (d : Data) (step : EntryStep) → step_from d ≡ Some step → IfSome step.outcome IsSound
unfolding step_from
step_holds d step e =
    let skipped = bind_some (flag_or_false (member_of (codes "skipped") d)) _ step e in
    let result = bind_some (ending_of d) _ step skipped.2 in
    let provisioners = bind_some (each_of provisioner_from (member_of (codes "provisioners") d)) _ step result.2 in
    let after = bind_some (each_of wait_from (member_of (codes "after") d)) _ step provisioners.2 in
    let outcome = bind_some (cond skipped.0 (skipped_with (is_some (member_of (codes "seconds") d)) result.0 provisioners.0) (answered_with (seconds_of d) result.0 provisioners.0)) _ step after.2 in
    let all = each_hold IsInOrder provisioner_from (member_of (codes "provisioners") d) provisioners.0 provisioner_holds provisioners.1 in
    subst (λ (s : EntryStep). IfSome s.outcome IsSound) (some_is (record { outcome = outcome.0; after = after.0 }) step outcome.2)
    (of_flag skipped.0 result.0 provisioners.0 outcome.0 (ending_holds d result.0 result.1) all outcome.1)
  where
    of_flag : (b : Bool) (result : Ending) (provisioners : List Provisioner) (answer : Option Outcome) → HasId result → AllByRecursion IsInOrder provisioners
        → cond b (skipped_with (is_some (member_of (codes "seconds") d)) result provisioners) (answered_with (seconds_of d) result provisioners) ≡ Some answer → IfSome answer IsSound
    of_flag true result provisioners answer id all e = skipped_holds (is_some (member_of (codes "seconds") d)) result provisioners answer e
    of_flag false result provisioners answer id all e = answered_holds (seconds_of d) result provisioners answer id all e
