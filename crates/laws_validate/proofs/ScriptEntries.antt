-- If a run refuses an entry, the entry has that error.
use Rattle.std.proofs.Common.{◌≡◌, ℕ, ◌+◌, ◌-◌, ◌≤◌, List, [], ◌∷◌, length, map, slice_get, Bool, true, false, cond, ◌&&◌}
use Rattle.std.proofs.Common.{is_some, Option, Some, None, unwrap_or, Err, if◌then◌else◌, refl, sym, ap, ◌∙◌, arith}
use Rattle.std.specs.Prelude.{is_none, nat_le, nat_lt, slice_get}
use Rattle.std.specs.List.{enumerate_from, list_all, list_any, position_from, sum_by, zip}
use Rattle.std.specs.Option.{option_and_then, option_map, option_map_or}
use Rattle.std.proofs.lemmas.Bool.Decides.{nat_tests}
use Rattle.std.proofs.lemmas.List.{length-map}
use Rattle.serde_json.specs.Data.{Data}
use Rattle.serde_json.specs.Find.{as_object, as_str}
use Rattle.apply_model.specs.declared.plan.step_kind.StepKind.{StepKind}
use Rattle.apply_model.specs.declared.script.outcome.Outcome.{Outcome}
use Rattle.apply_model.specs.Plan.ResourceChange.{ResourceChange}
use Rattle.apply_model.specs.Script.Limits.{max_waits}
use Rattle.apply_model.specs.Script.Outcome.{has_too_many_provisioners, has_too_much_output, is_too_long}
use Rattle.apply_plan.specs.declared.script.script_error.ScriptError.{ScriptError}
use Rattle.apply_plan.specs.declared.script.script_error.ScriptError.TheVariants.{Duplicate, NoSuchStep, NotACreate, SecondsRange, TooManyProvisioners, TooManySteps}
use Rattle.apply_plan.specs.declared.script.script_error.ScriptError.TheVariants.{TooManyWaits, TooMuchOutput, UnknownChange, UnknownWait, WarnsNotARead}
use Rattle.apply_resolve.specs.ObjectName.{name_one_object}
use Rattle.apply_plan.specs.Script.Entry.{Entry, EntryStep, all_some, entry_of, step_from}
use Rattle.apply_plan.specs.Script.OutcomeMap.{change_of_entry, count_in, entry_at, names_change}
use Rattle.apply_plan.specs.Script.Refusals as run
use Rattle.apply_plan.specs.Script.Refusals.{count_of_waits, fault_of_entry, fault_of_steps, fault_of_waits, is_any_wait, misplaces_provisioners, passes, warns_not_a_read}
use Rattle.input_validate.specs.declared.findings.finding.Finding.{Finding}
use Rattle.input_validate.specs.declared.findings.name.Name.TheVariants as name
use Rattle.input_validate.specs.declared.findings.path.Segment.TheVariants.{Member}
use Rattle.input_validate.specs.declared.findings.expected.Expected.TheVariants as expected
use Rattle.input_validate.specs.declared.findings.problem.Problem.{Problem}
use Rattle.input_validate.specs.declared.findings.problem.Problem.TheVariants as problem
use Rattle.input_validate.specs.AgainstPlan.{repeat_violation, beyond_at, beyond_in, change_at, change_named, named_first, object_named, step_count_violation, unknown_violations, waits_beyond, waits_in_all, waits_left}
use Rattle.input_validate.specs.ObjectNames.{Named}
use Rattle.input_validate.specs.PlanFindings.{first_named, is_named, name_read}
use Rattle.input_validate.specs.ScriptFindings.{entry_names, entry_table, in_entry, in_step}
use Rattle.input_validate.specs.Rules.{fault_of, faults_of, in_items, inside, items_at, rule, violation_findings, member_at, place_of, ignored}
use Rattle.laws_validate.specs.Laws.{is_entry}
use Rattle.laws_validate.proofs.Alike.{Alike, object_alike}
use Rattle.laws_validate.proofs.CleanAgainstPlan.{all_waits_same, change_same, is_unknown, less}
use Rattle.laws_validate.proofs.Elements.{named}
use Rattle.laws_validate.proofs.EntriesRead.{IsEntryOf, any_first, counts_before, entry_read, findings_pass, name_of_change, named_before}
use Rattle.input_validate.proofs.FirstNames.{same_name}
use Rattle.laws_validate.proofs.AnyFinding.{any_part, any_under, below, suited}
use Rattle.laws_validate.proofs.Joined.{joined}
use Rattle.laws_validate.proofs.Members.{count_same}
use Rattle.laws_validate.proofs.Provisioners.{length_of_all}
use Rattle.laws_validate.proofs.ScriptLimits.{long_reported, many_reported, much_reported}
use Rattle.laws_validate.proofs.ScriptSteps.{any_outcome, each_step, entry_reported, inside_any, pairs_at, step_reported, this_violation}
use Rattle.laws_validate.proofs.ScriptWaits.{beyond_reported, each_kind, no_step_reported, of_no_change_reported, placed_reported, unknown_reported, warns_reported}
use Rattle.laws_validate.proofs.ShapedEntries.{shape_reported}
use Rattle.laws_validate.proofs.AcceptedSteps.{findings_with, outcomes, waits_read}
use Rattle.laws_validate.proofs.Wanted.{object_there}
use Rattle.laws_validate.proofs.ScriptTests.{OfSteps, OfWaits, by_change, by_entry, refused_with}
use Rattle.laws_validate.proofs.Warning.{not_text}

-- what a refusal is of is among these
abbrev IsEntryReported : List Finding → ScriptError → Type 0
IsEntryReported xs refusal = list_any (entry_reported refusal) xs ≡ true

-- ---- the findings of an entry

module _ (p : Finding → Bool) (changes : List ResourceChange) (first left : Option ℕ) (d : Data) (there : is_some (as_object d) ≡ true) where
  abbrev parts : List (List Finding)
  parts =
      violation_findings (unknown_violations (Some changes) d) ∷ violation_findings (repeat_violation (change_at (Some changes) d) first ∷ []) ∷ fault_of d (rule name.Steps expected.Array)
      ∷ violation_findings (step_count_violation (change_at (Some changes) d) d ∷ []) ∷ inside (in_items (in_step (Some changes) (change_at (Some changes) d))) name.Steps d
      ∷ beyond_in true left d ∷ ignored entry_names d ∷ []

  part_reported : (m : ℕ) (part : List Finding) → slice_get parts m ≡ Some part → list_any p part ≡ true
      → list_any p (in_entry (Some changes) first left d) ≡ true
  unfolding in_entry
  part_reported m part at is =
      suited p expected.Entry d (joined (faults_of entry_table d) parts) there (any_part p (faults_of entry_table d) parts m part at is)

  unknown_in : list_any p (violation_findings (unknown_violations (Some changes) d)) ≡ true → list_any p (in_entry (Some changes) first left d) ≡ true
  unknown_in is = part_reported 0 (violation_findings (unknown_violations (Some changes) d)) refl is

  again_in : list_any p (violation_findings (repeat_violation (change_at (Some changes) d) first ∷ [])) ≡ true → list_any p (in_entry (Some changes) first left d) ≡ true
  again_in is = part_reported 1 (violation_findings (repeat_violation (change_at (Some changes) d) first ∷ [])) refl is

  many_in : list_any p (violation_findings (step_count_violation (change_at (Some changes) d) d ∷ [])) ≡ true → list_any p (in_entry (Some changes) first left d) ≡ true
  many_in is = part_reported 3 (violation_findings (step_count_violation (change_at (Some changes) d) d ∷ [])) refl is

  steps_in : list_any p (inside (in_items (in_step (Some changes) (change_at (Some changes) d))) name.Steps d) ≡ true
      → list_any p (in_entry (Some changes) first left d) ≡ true
  steps_in is = part_reported 4 (inside (in_items (in_step (Some changes) (change_at (Some changes) d))) name.Steps d) refl is

  beyond_at_steps : list_any p (beyond_in true left d) ≡ true → list_any p (in_entry (Some changes) first left d) ≡ true
  beyond_at_steps is = part_reported 5 (beyond_in true left d) refl is

-- ---- an entry of no change

entry_object : (k : Data) (entry : Entry) → entry_of k ≡ Some entry → is_some (as_object k) ≡ true
unfolding entry_of
entry_object k entry e =
    object_there (λ it. is_some (entry_of it)) refl (λ b. refl) (λ n. refl) (λ s. refl) (λ ds. refl) k (ap (λ (o : Option Entry). is_some o) e)

abbrev of_object : Bool → Problem
of_object there = if there then problem.UnknownObject else problem.UnknownAddress

object_reported : (n : ℕ) (text deposed there : Bool) → text ≡ false
    → entry_reported (UnknownChange n) (place_of (if text then None else if there && deposed then Some name.Deposed else Some name.Address)
    (of_object there)) ≡ true
object_reported n true deposed there e = absurd cc
object_reported n false true true e = refl
object_reported n false false true e = refl
object_reported n false deposed false e = refl

no_change : (changes : List ResourceChange) (first left : Option ℕ) (n : ℕ) (d k : Data) (entry : Entry) → Alike d k → entry_of k ≡ Some entry
    → change_of_entry changes entry ≡ None
    → IsEntryReported (in_entry (Some changes) first left d) (UnknownChange n)
no_change changes first left n d k entry alike is about =
    let p : Finding → Bool = entry_reported (UnknownChange n) in
    let there : is_some (as_object d) ≡ true = object_alike d k alike ∙ entry_object k entry is in
    let none : change_named changes (named entry.address entry.deposed) ≡ None =
    findings_with (λ c. name_one_object c.address c.deposed entry.address entry.deposed) 0 changes ∙ ap (option_map (λ p. p.1)) about in
    let unknown : is_unknown (Some changes) (object_named k) ≡ true =
    ap (λ (o : Option Named). is_unknown (Some changes) o) (entry_read k entry is).object ∙ ap is_none none in
    unknown_in p changes first left d there
    (unknown_reported p changes d k alike (λ it. object_reported n (is_some (as_str d)) (is_some (member_at name.Deposed d)) it (not_text d there)) unknown)

-- ---- an entry of a change

by_first : (b : Bool) (bound n : ℕ) (o : Option ℕ) → nat_lt n bound ≡ true → (is_some o ≡ true → nat_lt (unwrap_or o 0) bound ≡ true)
    → is_some (cond b (Some n) o) ≡ true
    → nat_lt (unwrap_or (cond b (Some n) o) 0) bound ≡ true
by_first true bound n o here later e = here
by_first false bound n o here later e = later e

-- the earlier entry about the same change stands before
first_below : (test : Option Named → Bool) (bound n : ℕ) (names : List (Option Named)) → n + length names ≤ bound → is_some (position_from test n names) ≡ true
    → nat_lt (unwrap_or (position_from test n names) 0) bound ≡ true
first_below test bound n [] few e = absurd cc
first_below test bound n (x ∷ names) few e =
    by_first (test x) bound n (position_from test (n + 1) names)
    (let l : n + (length names + 1) ≤ bound = omega (arith, few) in grind (arith, nat_tests))
    (λ later. first_below test bound (n + 1) names (omega (arith, few)) later) e

beyond_by : (p : Finding → Bool) (b : Bool) (count : ℕ) (d : Data)
    → ((n most : ℕ) → list_any (below (Member name.Steps) p) (beyond_at n most) ≡ true) → b ≡ true
    → nat_lt (max_waits - count) (waits_in_all d) ≡ true
    → list_any p (beyond_in true (let o : Option ℕ = if b then Some (max_waits - count) else None in o) d) ≡ true
beyond_by p true count d reported few e =
    any_under p (Member name.Steps) (waits_beyond (max_waits - count) 0 (items_at name.Steps d))
    (beyond_reported (below (Member name.Steps) p) reported (max_waits - count) 0 (items_at name.Steps d) e)
beyond_by p false count d reported few e = absurd cc

at_most : (count : ℕ) → nat_le count max_waits ≡ true → count ≤ max_waits
at_most count e = grind (arith, nat_tests)

module _ (changes : List ResourceChange) (before : List Data) (d k : Data) (alike : Alike d k) (entry : Entry) (is : entry_of k ≡ Some entry)
    (it : ℕ × ResourceChange) (about : change_of_entry changes entry ≡ Some it)
    (are : list_all is_entry before ≡ true) (few : nat_le (sum_by waits_in_all before) max_waits ≡ true) where
  there : is_some (as_object d) ≡ true
  there = object_alike d k alike ∙ entry_object k entry is

  read : IsEntryOf k entry
  read = entry_read k entry is

  held_by : change_named changes (named entry.address entry.deposed) ≡ Some it.1
  held_by = findings_with (λ c. name_one_object c.address c.deposed entry.address entry.deposed) 0 changes ∙ ap (option_map (λ p. p.1)) about

  about_it : change_at (Some changes) d ≡ Some it.1
  about_it = change_same (Some changes) d k alike ∙ ap (λ (o : Option Named). option_and_then (change_named changes) o) read.object ∙ held_by

  abbrev findings : List Finding
  findings = in_entry (Some changes) (named_first before k) (waits_left (sum_by waits_in_all before)) d

  first_is_some : is_some (named_first before k) ≡ list_any (names_change it.1) before
  first_is_some =
      let same : name_of_change it.1 ≡ named entry.address entry.deposed =
      same_name (name_of_change it.1) (named entry.address entry.deposed)
      (findings_pass (λ c. name_one_object c.address c.deposed entry.address entry.deposed) changes it.1 held_by) in
      ap (λ (o : Option Named). is_some (first_named (map name_read before) o)) read.read
      ∙ any_first (is_named (named entry.address entry.deposed)) 0 (map name_read before)
      ∙ ap (λ (x : Named). list_any (is_named x) (map name_read before)) (sym same)
      ∙ named_before it.1 before are

  first_reported : is_some (named_first before k) ≡ true → nat_lt (unwrap_or (named_first before k) 0) (length before) ≡ true
  first_reported some =
      let test : Option Named → Bool = is_named (named entry.address entry.deposed) in
      let as_read : named_first before k ≡ position_from test 0 (map name_read before) =
      ap (λ (o : Option Named). first_named (map name_read before) o) read.read in
      let long : length (map name_read before) ≡ length before = length-map before name_read in
      ap (λ (o : Option ℕ). nat_lt (unwrap_or o 0) (length before)) as_read
      ∙ first_below test (length before) 0 (map name_read before) (omega (arith, long)) (ap (λ (o : Option ℕ). is_some o) (sym as_read) ∙ some)

  again_reported : list_any (names_change it.1) before ≡ true → IsEntryReported findings (Duplicate (length before))
  again_reported dup =
      let p : Finding → Bool = entry_reported (Duplicate (length before)) in
      let some : is_some (named_first before k) ≡ true = first_is_some ∙ dup in
      let holds : (is_some (change_at (Some changes) d) && is_some (named_first before k)) ≡ true =
      ap (λ (o : Option ResourceChange). is_some o && is_some (named_first before k)) about_it ∙ some in
      again_in p changes (named_first before k) (waits_left (sum_by waits_in_all before)) d there
      (this_violation p (repeat_violation (change_at (Some changes) d) (named_first before k)) [] holds (first_reported some))

  steps_read : all_some (map step_from (items_at name.Steps k)) ≡ Some entry.steps
  steps_read = ap (λ (ks : List Data). all_some (map step_from ks)) read.listed ∙ read.steps

  counted : length (items_at name.Steps d) ≡ length (outcomes entry.steps)
  counted =
      count_same name.Steps refl d k alike ∙ length_of_all step_from (items_at name.Steps k) entry.steps steps_read
      ∙ sym (length-map entry.steps (λ step. step.outcome))

  -- the findings of the steps of its change
  in_steps : (refusal : ScriptError) → list_any (entry_reported refusal) (inside (in_items (in_step (Some changes) (Some it.1))) name.Steps d) ≡ true
      → IsEntryReported findings refusal
  in_steps refusal reported =
      steps_in (entry_reported refusal) changes (named_first before k) (waits_left (sum_by waits_in_all before)) d there
      (ap (λ (o : Option ResourceChange). list_any (entry_reported refusal) (inside (in_items (in_step (Some changes) o)) name.Steps d)) about_it ∙ reported)

  by_step : (refusal : ScriptError) (test : EntryStep → Bool)
      → ((n : ℕ) (e l : Data) (step : EntryStep) → Alike e l → step_from l ≡ Some step → test step ≡ true
      → list_any (step_reported refusal n) (in_step (Some changes) (Some it.1) n e) ≡ true)
      → list_any test entry.steps ≡ true → IsEntryReported findings refusal
  by_step refusal test reported any = in_steps refusal (each_step refusal (Some changes) (Some it.1) test reported d k alike entry.steps steps_read any)

  by_kind : (refusal : ScriptError) (test : (ℕ × StepKind) × Option Outcome → Bool)
      → ((n : ℕ) (kind : StepKind) (e l : Data) (step : EntryStep) → Alike e l → step_from l ≡ Some step → slice_get it.1.steps n ≡ Some kind
      → test ((n, kind), step.outcome) ≡ true
      → list_any (step_reported refusal n) (in_step (Some changes) (Some it.1) n e) ≡ true)
      → list_any test (zip (enumerate_from 0 it.1.steps) (outcomes entry.steps)) ≡ true → IsEntryReported findings refusal
  by_kind refusal test reported any =
      in_steps refusal
      (inside_any (entry_reported refusal) (in_step (Some changes) (Some it.1)) name.Steps d
      (each_kind it.1 test (below (Member name.Steps) (entry_reported refusal)) (in_step (Some changes) (Some it.1)) reported 0 it.1.steps
      (items_at name.Steps d) (items_at name.Steps k) refl
      (pairs_at name.Steps refl d k alike) entry.steps steps_read any))

  steps_reported : OfSteps (IsEntryReported findings) (length before) (is_some it.1.deposed) it.1.steps entry.steps
  steps_reported =
      let n : ℕ = length before in
      record {
        many = λ e.
            let p : Finding → Bool = entry_reported (TooManySteps n) in
            let holds : option_map_or (λ change. nat_lt (length change.steps) (length (items_at name.Steps d))) (change_at (Some changes) d) false ≡ true =
            ap (λ (o : Option ResourceChange). option_map_or (λ change. nat_lt (length change.steps) (length (items_at name.Steps d))) o false) about_it
            ∙ ap (nat_lt (length it.1.steps)) counted ∙ e in
            many_in p changes (named_first before k) (waits_left (sum_by waits_in_all before)) d there
            (this_violation p (step_count_violation (change_at (Some changes) d) d) [] holds refl);
        long = λ e. by_step (SecondsRange n) (λ step. passes is_too_long step.outcome) (long_reported n (Some changes) (Some it.1))
            (sym (any_outcome (passes is_too_long) entry.steps) ∙ e);
        wide = λ e.
            by_step (TooManyProvisioners n) (λ step. passes has_too_many_provisioners step.outcome) (many_reported n (Some changes) (Some it.1))
            (sym (any_outcome (passes has_too_many_provisioners) entry.steps) ∙ e);
        loud = λ e.
            by_step (TooMuchOutput n) (λ step. passes has_too_much_output step.outcome) (much_reported n (Some changes) (Some it.1))
            (sym (any_outcome (passes has_too_much_output) entry.steps) ∙ e);
        placed = λ e.
            by_kind (NotACreate n) (misplaces_provisioners (is_some it.1.deposed))
            (λ i kind e l step same is at wrong. placed_reported n (Some changes) it.1 i kind e l step same is at wrong) e;
        warns = λ e. by_kind (WarnsNotARead n) warns_not_a_read
            (λ i kind e l step same is at wrong. warns_reported n (Some changes) it.1 i kind e l step same is at wrong) e;
      }

  waits_findings : OfWaits (IsEntryReported findings) (length before) changes (sum_by count_in before) entry.steps
  waits_findings =
      let n : ℕ = length before in
      let count : ℕ = sum_by waits_in_all before in
      record {
        many = λ e.
            let p : Finding → Bool = entry_reported (TooManyWaits n) in
            let own : waits_in_all d ≡ count_of_waits entry.steps =
            all_waits_same d k alike ∙ waits_read (items_at name.Steps k) entry.steps steps_read in
            let over : nat_lt (max_waits - count) (waits_in_all d) ≡ true =
            less max_waits count (waits_in_all d) (at_most count few)
            ∙ ap (λ (m : ℕ). nat_lt max_waits (m + waits_in_all d)) (sym (counts_before before are))
            ∙ ap (λ (m : ℕ). nat_lt max_waits (sum_by count_in before + m)) own ∙ e in
            beyond_at_steps p changes (named_first before k) (waits_left count) d there
            (beyond_by p (nat_le count max_waits) count d (λ i most. refl) few over);
        unknown = λ e.
            by_step (UnknownWait n) (λ step. list_any (run.is_unknown changes) step.after)
            (λ i e l step same is any. of_no_change_reported n changes (Some it.1) i e l step same is any) e;
        lacking = λ e.
            by_step (NoSuchStep n) (λ step. list_any (run.lacks_step changes) step.after)
            (λ i e l step same is any. no_step_reported n changes (Some it.1) i e l step same is any) e;
      }

  of_change : (refusal : ScriptError) → refused_with (list_any (names_change it.1) before) (length before) changes (sum_by count_in before) entry it
      ≡ Err refusal → IsEntryReported findings refusal
  of_change refusal e =
      by_change (IsEntryReported findings) (list_any (names_change it.1) before) (length before) changes (sum_by count_in before) entry it refusal again_reported steps_reported waits_findings e

-- ---- an entry

pub refusal_reported : (changes : List ResourceChange) (before : List Data) (d k : Data) (refusal : ScriptError) → Alike d k
    → list_all is_entry before ≡ true → nat_le (sum_by waits_in_all before) max_waits ≡ true
    → entry_at changes before k ≡ Err refusal → list_any (entry_reported refusal)
    (in_entry (Some changes) (named_first before k) (waits_left (sum_by waits_in_all before)) d) ≡ true
refusal_reported changes before d k refusal alike are few e =
    by_entry (IsEntryReported (in_entry (Some changes) (named_first before k) (waits_left (sum_by waits_in_all before)) d)) changes before k
    (λ none. shape_reported (Some changes) (named_first before k) (waits_left (sum_by waits_in_all before)) d k alike none)
    (λ entry is none. no_change changes (named_first before k) (waits_left (sum_by waits_in_all before)) (length before) d k entry alike is none)
    (λ entry it x is about refused. of_change changes before d k alike entry is it about are few x refused) refusal e
