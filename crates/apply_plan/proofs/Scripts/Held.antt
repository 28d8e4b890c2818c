-- The values of a script, by the slots of their members.
use Rattle.std.proofs.Common.{◌≡◌, ℕ, Bool, List, [], codes, map, Option, Some, None, is_some, option_map, refl, ap, ◌∙◌}
use Rattle.std.specs.Borrow.{Bor}
use Rattle.serde_json.specs.Data.{Data, null, boolean, number, string, array, object, Items}
use Rattle.serde_json.specs.Find.{as_array, get_member}
use Rattle.apply_model.specs.declared.script.diag.Diag.{Diag}
use Rattle.apply_json.specs.declared.shallow.Shallow.{Shallow}
use Rattle.apply_json.specs.declared.shallow.Shallow.TheVariants as scalar
use Rattle.apply_json.specs.ShallowView as s
use Rattle.apply_json.specs.ShallowView.{members_in, shallow_view, shallow_of, shallow_text, shallow_text_or}
use Rattle.apply_json.specs.Tree.{◌>>=◌, list_of, member_of, unless_empty, unless_null}
use Rattle.apply_json.proofs.Held.{member_in, text_in, text_or_in, whole_in}
use Rattle.apply_plan.specs.declared.script.diag_slots.DiagSlots.{DiagSlots}
use Rattle.apply_plan.specs.declared.script.entry_slots.EntrySlots.{EntrySlots}
use Rattle.apply_plan.specs.declared.script.output_slots.OutputSlots.{OutputSlots}
use Rattle.apply_plan.specs.declared.script.provisioner_slots.ProvisionerSlots.{ProvisionerSlots}
use Rattle.apply_plan.specs.declared.script.step_slots.StepSlots.{StepSlots}
use Rattle.apply_plan.specs.declared.script.wait_slots.WaitSlots.{WaitSlots}
use Rattle.apply_plan.specs.Script.Entry.{Entry, EntryStep, Failure, all_some, diag_from, diag_or_none, each_of, ending_of, entry_of, failure_from, failure_or_none, flag_or_false, may_fail_or_not, number_or_none, object_or_none, only_warns_or_not, output_from, output_of_members, provisioner_from, step_from, wait_from, wait_of_members}
use Rattle.apply_plan.specs.Script.Members.{HoldsDiag, HoldsEntry, HoldsOutput, HoldsProvisioner, HoldsStep, HoldsWait, diag_read, diag_member, each_member, ending_read, entry_read, failure_read, failure_member, flag_read, is_present, may_fail_read, number_read, object_member, only_warns_read, output_read, provisioner_read, step_read, steps_member, wait_read}

-- ---- diagnostics

object_at : (name : List ℕ) (d : Data) → object_or_none (member_of name d) ≡ object_member (get_member name (members_in d))
object_at name d = ap object_or_none (member_in name d)

pub diag_is : (slots : DiagSlots) (d : Data) → HoldsDiag slots (members_in d) → diag_read slots ≡ diag_from d
diag_is slots d holds =
    rw (text_in (codes "summary") d, text_or_in [] (codes "detail") d, object_at (codes "range") d, object_at (codes "snippet") d, ← holds.summary, ← holds.detail, ← holds.range, ← holds.snippet) refl

pub diag_there : (d : Data) → (s.absent ≡ shallow_of (Some d) → ⊥) → option_map Some (diag_from d) ≡ diag_member (Some d)
diag_there null is = absurd (is refl)
diag_there (boolean b) is = refl
diag_there (number n) is = refl
diag_there (string t) is = refl
diag_there (array ds) is = refl
diag_there (object ms) is = refl

-- ---- failures

only_warns_is : (o : Option Data) → only_warns_or_not (o >>= unless_null) ≡ only_warns_read (shallow_of o)
only_warns_is None = refl
only_warns_is (Some null) = refl
only_warns_is (Some (boolean b)) = refl
only_warns_is (Some (number n)) = refl
only_warns_is (Some (string t)) = refl
only_warns_is (Some (array ds)) = refl
only_warns_is (Some (object ms)) = refl

only_warns_at : (d : Data) → only_warns_or_not (member_of (codes "severity") d) ≡ only_warns_read (shallow_of (get_member (codes "severity") (members_in d)))
only_warns_at d = ap only_warns_or_not (member_in (codes "severity") d) ∙ only_warns_is (get_member (codes "severity") (members_in d))

abbrev failing : Diag → Bool → Failure
failing diag only_warns = record { diag = diag; only_warns = only_warns }

pub failure_is : (slots : DiagSlots) (d : Data) → HoldsDiag slots (members_in d) → failure_read slots ≡ failure_from d
failure_is slots d holds = rw (only_warns_at d, ← holds.severity) (behind (diag_read slots) (diag_from d) (diag_is slots d holds))
  where
    behind : (o p : Option Diag) → o ≡ p → (o >>= λ diag. only_warns_read (shallow_view slots.severity) >>= λ only_warns. Some (failing diag only_warns))
        ≡ (p >>= λ diag. only_warns_read (shallow_view slots.severity) >>= λ only_warns. Some (failing diag only_warns))
    behind o p same = ap (λ (q : Option Diag). q >>= λ diag. only_warns_read (shallow_view slots.severity) >>= λ only_warns. Some (failing diag only_warns)) same

pub failure_there : (d : Data) → (s.absent ≡ shallow_of (Some d) → ⊥) → option_map Some (failure_from d) ≡ failure_member (Some d)
failure_there null is = absurd (is refl)
failure_there (boolean b) is = refl
failure_there (number n) is = refl
failure_there (string t) is = refl
failure_there (array ds) is = refl
failure_there (object ms) is = refl

-- ---- items of `after` and of `output`

number_is : (o : Option Data) → number_or_none (o >>= unless_null) ≡ number_read (shallow_of o)
number_is None = refl
number_is (Some null) = refl
number_is (Some (boolean b)) = refl
number_is (Some (number n)) = refl
number_is (Some (string t)) = refl
number_is (Some (array ds)) = refl
number_is (Some (object ms)) = refl

number_in : (name : List ℕ) (d : Data) → number_or_none (member_of name d) ≡ number_read (shallow_of (get_member name (members_in d)))
number_in name d = ap number_or_none (member_in name d) ∙ number_is (get_member name (members_in d))

wait_of_members_is : (slots : WaitSlots) (d : Data) → HoldsWait slots (members_in d) → wait_read slots ≡ wait_of_members d
unfolding wait_of_members
wait_of_members_is slots d holds =
    rw (text_in (codes "address") d, text_or_in [] (codes "deposed") d, number_in (codes "step") d, ← holds.address, ← holds.deposed, ← holds.step) refl

pub wait_is : (slots : WaitSlots) (d : Data) → ((t : List ℕ) → s.text t ≡ shallow_of (Some d) → ⊥) → HoldsWait slots (members_in d) → wait_read slots ≡ wait_from d
wait_is slots null none holds = wait_of_members_is slots null holds
wait_is slots (boolean b) none holds = wait_of_members_is slots (boolean b) holds
wait_is slots (number n) none holds = wait_of_members_is slots (number n) holds
wait_is slots (string t) none holds = absurd (none t refl)
wait_is slots (array ds) none holds = wait_of_members_is slots (array ds) holds
wait_is slots (object ms) none holds = wait_of_members_is slots (object ms) holds

output_of_members_is : (slots : OutputSlots) (d : Data) → HoldsOutput slots (members_in d) → output_read slots ≡ output_of_members d
unfolding output_of_members
output_of_members_is slots d holds = rw (text_in (codes "text") d, number_in (codes "after") d, ← holds.text, ← holds.after) refl

pub output_is : (slots : OutputSlots) (d : Data) → ((t : List ℕ) → s.text t ≡ shallow_of (Some d) → ⊥) → HoldsOutput slots (members_in d) → output_read slots ≡ output_from d
output_is slots null none holds = output_of_members_is slots null holds
output_is slots (boolean b) none holds = output_of_members_is slots (boolean b) holds
output_is slots (number n) none holds = output_of_members_is slots (number n) holds
output_is slots (string t) none holds = absurd (none t refl)
output_is slots (array ds) none holds = output_of_members_is slots (array ds) holds
output_is slots (object ms) none holds = output_of_members_is slots (object ms) holds

-- ---- members that are no scalars

failure_at : (name : List ℕ) (d : Data) → failure_or_none (member_of name d) ≡ failure_member (get_member name (members_in d))
failure_at name d = ap failure_or_none (member_in name d)

diag_at : (name : List ℕ) (d : Data) → diag_or_none (member_of name d) ≡ diag_member (get_member name (members_in d))
diag_at name d = ap diag_or_none (member_in name d)

each_at : {A : Type 0} (part : Data → Option A) (name : List ℕ) (d : Data) → each_of part (member_of name d) ≡ each_member part (get_member name (members_in d))
each_at part name d = ap (each_of part) (member_in name d)

may_fail_is : (o : Option Data) → may_fail_or_not (o >>= unless_null) ≡ may_fail_read (shallow_of o)
may_fail_is None = refl
may_fail_is (Some null) = refl
may_fail_is (Some (boolean b)) = refl
may_fail_is (Some (number n)) = refl
may_fail_is (Some (string t)) = refl
may_fail_is (Some (array ds)) = refl
may_fail_is (Some (object ms)) = refl

may_fail_at : (d : Data) → may_fail_or_not (member_of (codes "on_failure") d) ≡ may_fail_read (shallow_of (get_member (codes "on_failure") (members_in d)))
may_fail_at d = ap may_fail_or_not (member_in (codes "on_failure") d) ∙ may_fail_is (get_member (codes "on_failure") (members_in d))

flag_is : (o : Option Data) → flag_or_false (o >>= unless_null) ≡ flag_read (shallow_of o)
flag_is None = refl
flag_is (Some null) = refl
flag_is (Some (boolean b)) = refl
flag_is (Some (number n)) = refl
flag_is (Some (string t)) = refl
flag_is (Some (array ds)) = refl
flag_is (Some (object ms)) = refl

flag_at : (d : Data) → flag_or_false (member_of (codes "skipped") d) ≡ flag_read (shallow_of (get_member (codes "skipped") (members_in d)))
flag_at d = ap flag_or_false (member_in (codes "skipped") d) ∙ flag_is (get_member (codes "skipped") (members_in d))

told_is : (o : Option Data) → is_some (o >>= unless_null) ≡ is_present (shallow_of o)
told_is None = refl
told_is (Some null) = refl
told_is (Some (boolean b)) = refl
told_is (Some (number n)) = refl
told_is (Some (string t)) = refl
told_is (Some (array ds)) = refl
told_is (Some (object ms)) = refl

told_at : (d : Data) → is_some (member_of (codes "seconds") d) ≡ is_present (shallow_of (get_member (codes "seconds") (members_in d)))
told_at d = ap (λ (o : Option Data). is_some o) (member_in (codes "seconds") d) ∙ told_is (get_member (codes "seconds") (members_in d))

-- ---- provisioners, steps and entries

pub provisioner_is : (slots : ProvisionerSlots) (d : Data) → HoldsProvisioner slots (members_in d) → provisioner_read slots ≡ provisioner_from d
unfolding provisioner_from
provisioner_is slots d holds =
    rw (text_in (codes "provisioner") d, whole_in (codes "seconds") d, diag_at (codes "failed") d, each_at output_from (codes "output") d, may_fail_at d, ← holds.name, ← holds.seconds, ← holds.failed, ← holds.output, ← holds.on_failure) refl

ending_is : (slots : StepSlots) (d : Data) → HoldsStep slots (members_in d) → ending_read (shallow_view slots.id) slots.warning slots.failed ≡ ending_of d
unfolding ending_of
ending_is slots d holds =
    rw (text_or_in [] (codes "id") d, diag_at (codes "warning") d, failure_at (codes "failed") d, ← holds.id, ← holds.warning, ← holds.failed) refl

pub step_is : (slots : StepSlots) (d : Data) → HoldsStep slots (members_in d) → step_read slots ≡ step_from d
unfolding step_from
step_is slots d holds =
    rw (flag_at d, whole_in (codes "seconds") d, told_at d, each_at provisioner_from (codes "provisioners") d, each_at wait_from (codes "after") d, ← ending_is slots d holds, ← holds.skipped, ← holds.seconds, ← holds.provisioners, ← holds.after) refl

abbrev entry_with : List ℕ → List ℕ → List EntryStep → Entry
entry_with address deposed steps = record { address = address; deposed = unless_empty deposed; steps = steps }

pub entry_is : (slots : EntrySlots) (d : Data) → HoldsEntry slots (members_in d) → entry_read slots ≡ entry_of d
unfolding entry_of
entry_is slots d holds =
    rw (text_in (codes "address") d, text_or_in [] (codes "deposed") d, member_in (codes "steps") d, ← holds.address, ← holds.deposed)
    (behind (shallow_text (shallow_view slots.address)) _ _ (λ address. behind (shallow_text_or [] (shallow_view slots.deposed)) _ _ (λ deposed.
    ap (λ (o : Option (List EntryStep)). o >>= λ steps. Some (entry_with address deposed steps)) holds.steps ∙ along (get_member (codes "steps") (members_in d)) address deposed)))
  where
    behind : {A B : Type 0} (o : Option A) (f g : A → Option B) → ((x : A) → f x ≡ g x) → (o >>= f) ≡ (o >>= g)
    behind None f g same = refl
    behind (Some x) f g same = same x

    along : (o : Option Data) (address deposed : List ℕ)
        → (steps_member o >>= λ steps. Some (entry_with address deposed steps))
        ≡ ((o >>= unless_null) >>= λ list. as_array list >>= λ items. all_some (map step_from (list_of items)) >>= λ steps. Some (entry_with address deposed steps))
    along o address deposed = through (o >>= unless_null)
      where
        inner : (p : Option Items) → ((p >>= λ items. all_some (map step_from (list_of items))) >>= λ steps. Some (entry_with address deposed steps))
            ≡ (p >>= λ items. all_some (map step_from (list_of items)) >>= λ steps. Some (entry_with address deposed steps))
        inner None = refl
        inner (Some items) = refl

        through : (q : Option Data) → ((q >>= λ list. as_array list >>= λ items. all_some (map step_from (list_of items))) >>= λ steps. Some (entry_with address deposed steps))
            ≡ (q >>= λ list. as_array list >>= λ items. all_some (map step_from (list_of items)) >>= λ steps. Some (entry_with address deposed steps))
        through None = refl
        through (Some list) = inner (as_array list)

-- ---- scalars

pub not_text : (input : Shallow) → ((x : Bor (List ℕ)) → input ≡ scalar.Text x → ⊥) → (t : List ℕ) → s.text t ≡ shallow_view input → ⊥
not_text scalar.Absent never t is = absurd cc
not_text (scalar.Bool b) never t is = absurd cc
not_text (scalar.Number n) never t is = absurd cc
not_text (scalar.Text x) never t is = never x refl
not_text scalar.Array never t is = absurd cc
not_text scalar.Object never t is = absurd cc

pub not_absent : (input : Shallow) → (input ≡ scalar.Absent → ⊥) → s.absent ≡ shallow_view input → ⊥
not_absent scalar.Absent never is = never refl
not_absent (scalar.Bool b) never is = absurd cc
not_absent (scalar.Number n) never is = absurd cc
not_absent (scalar.Text x) never is = absurd cc
not_absent scalar.Array never is = absurd cc
not_absent scalar.Object never is = absurd cc
