-- A run reads the same from a script without the members that have unknown names.
use Rattle.std.proofs.Common.{◌≡◌, ℕ, zero, suc, ◌+◌, List, [], ◌∷◌, length, map, take, Bool, false, is_some, ◌||◌, if◌then◌else◌, Option, Some, None, option_map, Result, Err, refl, sym, ap, ◌∙◌}
use Rattle.std.specs.Prelude.{codes}
use Rattle.std.specs.List.{enumerate_from, list_any, sum_by}
use Rattle.std.specs.Option.{option_map_or}
use Rattle.std.proofs.lemmas.List.Sums.{sum_by-cons}
use Rattle.serde_json.specs.Data.{Data, Items, no_items, item}
use Rattle.serde_json.specs.Find.{as_array, as_number, as_u64}
use Rattle.apply_json.specs.Tree.{◌>>=◌, list_of, member_of, text_of, text_or, unless_empty}
use Rattle.apply_json_tree.specs.Trimmed.{trimmed, trimmed_items}
use Rattle.apply_json_tree.proofs.Trimmed.Lookups.{as_array_trimmed, as_bool_trimmed, as_number_trimmed, as_str_trimmed, behind_trimmed, bind_mapped, member_trimmed, non_empty_text_trimmed, text_or_trimmed, text_trimmed}
use Rattle.apply_model.specs.declared.script.diag.Diag.{Diag}
use Rattle.apply_model.specs.Plan.ResourceChange.{ResourceChange}
use Rattle.apply_model.specs.Plan.SavedPlan.{SavedPlan}
use Rattle.apply_plan.specs.declared.script.script_error.ScriptError.{ScriptError}
use Rattle.apply_plan.specs.declared.script.script_error.ScriptError.TheVariants.{BadShape, Duplicate, UnknownChange}
use Rattle.apply_plan.specs.Results as results
use Rattle.apply_plan.specs.Results.{all_or_first, each_with_earlier, or_refuse, unless_refused}
use Rattle.apply_plan.specs.Script.Entry.{Entry, EntryStep, Failure, all_some, diag_from, diag_or_none, each_of, ending_of, entry_of, failure_from, failure_or_none, flag_or_false, may_fail_by, may_fail_or_not}
use Rattle.apply_plan.specs.Script.Entry.{number_or_none, object_or_none, object_text, only_warns_by, only_warns_or_not, output_from, output_of_members, provisioner_from, step_from, wait_from, wait_of_members}
use Rattle.apply_plan.specs.Script.OutcomeMap.{ResolvedEntry, by_number, change_of_entry, count_in, elements_of, entry_at, is_about, names_change, resolved_by, script_of_entries, script_of_tree, unless_stuck}
use Rattle.apply_plan.specs.Script.Refusals.{count_of_waits, fault_of_entry}
use Rattle.laws_validate.specs.Reading as kind
use Rattle.laws_validate.specs.Reading.{Kind, kind_of_item, kind_of_member, reading, without_unknown}

-- ---- arrays

each_same : {A : Type 0} (part : Data → A) (k : Kind) → ((d : Data) → part (trimmed reading k d) ≡ part d) → (ds : Items)
    → map part (list_of (trimmed_items reading k None ds)) ≡ map part (list_of ds)
each_same part k same no_items = refl
each_same part k same (item d ds) =
    ap (λ x. x ∷ map part (list_of (trimmed_items reading k None ds))) (same d) ∙ ap (λ xs. part d ∷ xs) (each_same part k same ds)

-- what is made of the items of an array that may be absent
list_same : {A : Type 0} (part : Data → Option A) (k : Kind) → ((d : Data) → part (trimmed reading (kind_of_item k) d) ≡ part d) → (o : Option Data)
    → each_of part (option_map (trimmed reading k) o) ≡ each_of part o
list_same part k same None = refl
list_same part k same (Some d) =
    ap (λ o. o >>= λ items. all_some (map part (list_of items))) (as_array_trimmed reading k d)
    ∙ bind_mapped (trimmed_items reading (kind_of_item k) None) (λ items. all_some (map part (list_of items))) (λ items. all_some (map part (list_of items)))
    (λ items. ap all_some (each_same part (kind_of_item k) same items)) (as_array d)

-- ---- members that may be absent

at_member : {B : Type 0} (place k : Kind) (name : List ℕ) (f : Option Data → B) (d : Data) → kind_of_member place name ≡ Some k
    → ((o : Option Data) → f (option_map (trimmed reading k) o) ≡ f o) → f (member_of name (trimmed reading place d)) ≡ f (member_of name d)
at_member place k name f d looked same = ap f (member_trimmed reading place k name d looked) ∙ same (member_of name d)

object_same : (k : Kind) (o : Option Data) → object_or_none (option_map (trimmed reading k) o) ≡ object_or_none o
object_same k None = refl
object_same k (Some d) = ap (λ s. s >>= object_text) (as_str_trimmed reading k d)

number_same : (k : Kind) (o : Option Data) → number_or_none (option_map (trimmed reading k) o) ≡ number_or_none o
number_same k None = refl
number_same k (Some d) = ap (λ n. option_map Some (n >>= as_u64)) (as_number_trimmed reading k d)

abbrev whole_in : Option Data → Option ℕ
whole_in findings = (findings >>= as_number) >>= as_u64

whole_same : (k : Kind) (o : Option Data) → whole_in (option_map (trimmed reading k) o) ≡ whole_in o
whole_same k None = refl
whole_same k (Some d) = ap (λ n. n >>= as_u64) (as_number_trimmed reading k d)

only_warns_same : (k : Kind) (o : Option Data) → only_warns_or_not (option_map (trimmed reading k) o) ≡ only_warns_or_not o
only_warns_same k None = refl
only_warns_same k (Some d) = ap (λ s. s >>= only_warns_by) (as_str_trimmed reading k d)

may_fail_same : (k : Kind) (o : Option Data) → may_fail_or_not (option_map (trimmed reading k) o) ≡ may_fail_or_not o
may_fail_same k None = refl
may_fail_same k (Some d) = ap (λ s. s >>= may_fail_by) (as_str_trimmed reading k d)

flag_same : (k : Kind) (o : Option Data) → flag_or_false (option_map (trimmed reading k) o) ≡ flag_or_false o
flag_same k None = refl
flag_same k (Some d) = as_bool_trimmed reading k d

reported_same : (k : Kind) (o : Option Data) → is_some (option_map (trimmed reading k) o) ≡ is_some o
reported_same k None = refl
reported_same k (Some d) = refl

-- ---- diagnostics

record IsOfDiagnostic (k : Kind) : Type 0 where
  summary : kind_of_member k (codes "summary") ≡ Some kind.Other
  detail : kind_of_member k (codes "detail") ≡ Some kind.Other
  range : kind_of_member k (codes "range") ≡ Some kind.Other
  snippet : kind_of_member k (codes "snippet") ≡ Some kind.Other

diag_by : (k : Kind) → IsOfDiagnostic k → (d : Data) → diag_from (trimmed reading k d) ≡ diag_from d
diag_by k is d =
    rw (
      text_trimmed reading k kind.Other (codes "summary") d is.summary,
      text_or_trimmed reading k kind.Other [] (codes "detail") d is.detail,
      at_member k kind.Other (codes "range") object_or_none d is.range (object_same kind.Other),
      at_member k kind.Other (codes "snippet") object_or_none d is.snippet (object_same kind.Other),
    ) refl

diag_same : (o : Option Data) → diag_or_none (option_map (trimmed reading kind.Diagnostic) o) ≡ diag_or_none o
diag_same None = refl
diag_same (Some d) = ap (option_map Some) (diag_by kind.Diagnostic (record { summary = refl; detail = refl; range = refl; snippet = refl }) d)

abbrev failing : Diag → Bool → Failure
failing diag only_warns = record { diag = diag; only_warns = only_warns }

abbrev failure_with : Option Diag → Option Bool → Option Failure
failure_with diag only_warns = diag >>= λ x. only_warns >>= λ y. Some (failing x y)

failure_of : (d : Data) → failure_from (trimmed reading kind.Failure d) ≡ failure_from d
failure_of d =
    ap (λ o. failure_with o (only_warns_or_not (member_of (codes "severity") (trimmed reading kind.Failure d))))
    (diag_by kind.Failure (record { summary = refl; detail = refl; range = refl; snippet = refl }) d)
    ∙ ap (failure_with (diag_from d)) (at_member kind.Failure kind.Other (codes "severity") only_warns_or_not d refl (only_warns_same kind.Other))

failure_same : (o : Option Data) → failure_or_none (option_map (trimmed reading kind.Failure) o) ≡ failure_or_none o
failure_same None = refl
failure_same (Some d) = ap (option_map Some) (failure_of d)

-- ---- items of `after` and of `output`

wait_members_same : (d : Data) → wait_of_members (trimmed reading kind.Wait d) ≡ wait_of_members d
unfolding wait_of_members
wait_members_same d =
    rw (
      text_trimmed reading kind.Wait kind.Other (codes "address") d refl,
      text_or_trimmed reading kind.Wait kind.Other [] (codes "deposed") d refl,
      at_member kind.Wait kind.Other (codes "step") number_or_none d refl (number_same kind.Other),
    ) refl

wait_same : (d : Data) → wait_from (trimmed reading kind.Wait d) ≡ wait_from d
wait_same d = rw (as_str_trimmed reading kind.Wait d, wait_members_same d) refl

output_members_same : (d : Data) → output_of_members (trimmed reading kind.Output d) ≡ output_of_members d
unfolding output_of_members
output_members_same d =
    rw (text_trimmed reading kind.Output kind.Other (codes "text") d refl, at_member kind.Output kind.Other (codes "after") number_or_none d refl (number_same kind.Other)) refl

output_same : (d : Data) → output_from (trimmed reading kind.Output d) ≡ output_from d
output_same d = rw (as_str_trimmed reading kind.Output d, output_members_same d) refl

-- ---- provisioners and steps

provisioner_same : (d : Data) → provisioner_from (trimmed reading kind.Provisioner d) ≡ provisioner_from d
unfolding provisioner_from
provisioner_same d =
    rw (
      non_empty_text_trimmed reading kind.Provisioner kind.Other (codes "provisioner") d refl,
      at_member kind.Provisioner kind.Other (codes "seconds") whole_in d refl (whole_same kind.Other),
      at_member kind.Provisioner kind.Diagnostic (codes "failed") diag_or_none d refl diag_same,
      at_member kind.Provisioner kind.Outputs (codes "output") (each_of output_from) d refl (list_same output_from kind.Outputs output_same),
      at_member kind.Provisioner kind.Other (codes "on_failure") may_fail_or_not d refl (may_fail_same kind.Other),
    ) refl

ending_same : (d : Data) → ending_of (trimmed reading kind.Step d) ≡ ending_of d
unfolding ending_of
ending_same d =
    rw (
      text_or_trimmed reading kind.Step kind.Other [] (codes "id") d refl,
      at_member kind.Step kind.Diagnostic (codes "warning") diag_or_none d refl diag_same,
      at_member kind.Step kind.Failure (codes "failed") failure_or_none d refl failure_same,
    ) refl

step_same : (d : Data) → step_from (trimmed reading kind.Step d) ≡ step_from d
unfolding step_from
step_same d =
    rw (
      at_member kind.Step kind.Other (codes "skipped") flag_or_false d refl (flag_same kind.Other),
      ending_same d,
      at_member kind.Step kind.Provisioners (codes "provisioners") (each_of provisioner_from) d refl (list_same provisioner_from kind.Provisioners provisioner_same),
      at_member kind.Step kind.Waits (codes "after") (each_of wait_from) d refl (list_same wait_from kind.Waits wait_same),
      at_member kind.Step kind.Other (codes "seconds") (λ o. is_some o) d refl (reported_same kind.Other),
      at_member kind.Step kind.Other (codes "seconds") whole_in d refl (whole_same kind.Other),
    ) refl

-- ---- an entry

abbrev entry_with : List ℕ → List ℕ → List EntryStep → Option Entry
entry_with address deposed steps = Some (record { address = address; deposed = unless_empty deposed; steps = steps })

-- what a run reads of the steps, after the other members
abbrev steps_then : (address deposed : List ℕ) → Data → Option Entry
steps_then address deposed d = as_array d >>= λ items. all_some (map step_from (list_of items)) >>= entry_with address deposed

steps_same : (address deposed : List ℕ) (d : Data) → steps_then address deposed (trimmed reading kind.Steps d) ≡ steps_then address deposed d
steps_same address deposed d =
    let made : Items → Option Entry = λ items. all_some (map step_from (list_of items)) >>= entry_with address deposed in
    ap (λ o. o >>= made) (as_array_trimmed reading kind.Steps d)
    ∙ bind_mapped (trimmed_items reading kind.Step None) made made (λ items. ap (λ steps. all_some steps >>= entry_with address deposed) (each_same step_from kind.Step step_same items)) (as_array d)

-- an entry of such an address and such steps
abbrev entry_by : (address deposed : Option (List ℕ)) → (steps : Option Data) → Option Entry
entry_by address deposed steps = address >>= λ x. deposed >>= λ y. steps >>= steps_then x y

by_steps : (address deposed : Option (List ℕ)) (d : Data) → entry_by address deposed (member_of (codes "steps") (trimmed reading kind.Entry d)) ≡ entry_by address deposed (member_of (codes "steps") d)
by_steps None deposed d = refl
by_steps (Some x) None d = refl
by_steps (Some x) (Some y) d = behind_trimmed reading kind.Entry kind.Steps (codes "steps") (steps_then x y) (steps_then x y) d refl (steps_same x y)

entry_same : (d : Data) → entry_of (trimmed reading kind.Entry d) ≡ entry_of d
unfolding entry_of
entry_same d =
    rw (text_trimmed reading kind.Entry kind.Other (codes "address") d refl, text_or_trimmed reading kind.Entry kind.Other [] (codes "deposed") d refl)
    (by_steps (text_of (codes "address") d) (text_or [] (member_of (codes "deposed") d)) d)

-- ---- entries, each with those before it

abbrev left : Data → Data
left d = trimmed reading kind.Entry d

named_same : (change : ResourceChange) (ds : List Data) → list_any (names_change change) (map left ds) ≡ list_any (names_change change) ds
named_same change [] = refl
named_same change (d ∷ ds) =
    ap (λ o. option_map_or (is_about change) o false || list_any (names_change change) (map left ds)) (entry_same d) ∙ ap (λ b. names_change change d || b) (named_same change ds)

count_same : (ds : List Data) → sum_by count_in (map left ds) ≡ sum_by count_in ds
count_same [] = refl
count_same (d ∷ ds) =
    sum_by-cons count_in (left d) (map left ds)
    ∙ ap (λ o. option_map_or (λ entry. count_of_waits entry.steps) o 0 + sum_by count_in (map left ds)) (entry_same d)
    ∙ ap (λ n. count_in d + n) (count_same ds) ∙ sym (sum_by-cons count_in d ds)

length_same : (ds : List Data) → length (map left ds) ≡ length ds
length_same [] = refl
length_same (d ∷ ds) = ap suc (length_same ds)

-- what an entry states about a change, unless an earlier entry is about it
abbrev read_unless : List ResourceChange → (number count : ℕ) → Entry → ℕ × ResourceChange → (again : Bool) → Result ResolvedEntry ScriptError
read_unless changes number count entry findings again =
    if again then Err (Duplicate number)
    else unless_refused (fault_of_entry number changes count findings.1 entry.steps) (resolved_by changes findings.0 entry.steps)

abbrev said_at : List ResourceChange → (number count : ℕ) → Option Entry → (before : List Data) → Result ResolvedEntry ScriptError
said_at changes number count entry before =
    results.◌>>=◌ (or_refuse (BadShape (Some number)) entry) λ x.
    results.◌>>=◌ (or_refuse (UnknownChange number) (change_of_entry changes x)) λ findings.
    read_unless changes number count x findings (list_any (names_change findings.1) before)

by_change : (changes : List ResourceChange) (number count : ℕ) (entry : Entry) (before : List Data) (o : Option (ℕ × ResourceChange))
    → (results.◌>>=◌ (or_refuse (UnknownChange number) o) λ findings. read_unless changes number count entry findings (list_any (names_change findings.1) (map left before)))
    ≡ (results.◌>>=◌ (or_refuse (UnknownChange number) o) λ findings. read_unless changes number count entry findings (list_any (names_change findings.1) before))
by_change changes number count entry before None = refl
by_change changes number count entry before (Some findings) = ap (read_unless changes number count entry findings) (named_same findings.1 before)

by_entry : (changes : List ResourceChange) (number count : ℕ) (o : Option Entry) (before : List Data) → said_at changes number count o (map left before) ≡ said_at changes number count o before
by_entry changes number count None before = refl
by_entry changes number count (Some entry) before = by_change changes number count entry before (change_of_entry changes entry)

at_same : (changes : List ResourceChange) (before : List Data) (d : Data) → entry_at changes (map left before) (left d) ≡ entry_at changes before d
unfolding entry_at
at_same changes before d = rw (entry_same d, length_same before, count_same before) (by_entry changes (length before) (sum_by count_in before) (entry_of d) before)

take_left : (n : ℕ) (ds : List Data) → take n (map left ds) ≡ map left (take n ds)
take_left zero ds = refl
take_left (suc n) [] = refl
take_left (suc n) (d ∷ ds) = ap (λ xs. left d ∷ xs) (take_left n ds)

each_from : {A : Type 0} (answer : List Data → Data → A) → ((before : List Data) (d : Data) → answer (map left before) (left d) ≡ answer before d) → (all : List Data) (n : ℕ) (ds : List Data)
    → map (λ p. answer (take p.0 (map left all)) p.1) (enumerate_from n (map left ds)) ≡ map (λ p. answer (take p.0 all) p.1) (enumerate_from n ds)
each_from answer same all n [] = refl
each_from answer same all n (d ∷ ds) =
    ap (λ x. x ∷ map (λ p. answer (take p.0 (map left all)) p.1) (enumerate_from (n + 1) (map left ds))) (ap (λ before. answer before (left d)) (take_left n all) ∙ same (take n all) d)
    ∙ ap (λ xs. answer (take n all) d ∷ xs) (each_from answer same all (n + 1) ds)

entries_same : (plan : SavedPlan) (ds : List Data) → script_of_entries plan (map left ds) ≡ script_of_entries plan ds
unfolding script_of_entries
entries_same plan ds =
    ap (λ answers. results.◌>>=◌ (all_or_first answers) (λ entries. unless_stuck entries (by_number (length plan.changes) entries)))
    (each_from (entry_at plan.changes) (at_same plan.changes) ds 0 ds)

-- ---- a script

items_left : (ds : Items) → list_of (trimmed_items reading kind.Entry None ds) ≡ map left (list_of ds)
items_left no_items = refl
items_left (item d ds) = ap (λ xs. left d ∷ xs) (items_left ds)

array_left : (o : Option Data) → (option_map (trimmed reading kind.Entries) o >>= as_array) ≡ option_map (trimmed_items reading kind.Entry None) (o >>= as_array)
array_left None = refl
array_left (Some d) = as_array_trimmed reading kind.Entries d

elements_left : (script : Data) → elements_of (without_unknown script) ≡ option_map (trimmed_items reading kind.Entry None) (elements_of script)
elements_left script =
    ap (λ o. o >>= as_array) (member_trimmed reading kind.Script kind.Entries (codes "changes") script refl) ∙ array_left (member_of (codes "changes") script)

pub read_alone : (plan : SavedPlan) (script : Data) → script_of_tree plan (without_unknown script) ≡ script_of_tree plan script
unfolding script_of_tree
read_alone plan script = rw (elements_left script) (through (elements_of script))
  where
    through : (o : Option Items)
        → results.◌>>=◌ (or_refuse (BadShape None) (option_map (trimmed_items reading kind.Entry None) o)) (λ elements. script_of_entries plan (list_of elements))
        ≡ results.◌>>=◌ (or_refuse (BadShape None) o) (λ elements. script_of_entries plan (list_of elements))
    through None = refl
    through (Some ds) = ap (script_of_entries plan) (items_left ds) ∙ entries_same plan (list_of ds)
