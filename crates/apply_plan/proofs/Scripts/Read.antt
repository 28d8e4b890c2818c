-- Entries as they are read, one after the other, and forgotten.
use Rattle.std.proofs.Common.{◌≡◌, ◌≢◌, ℕ, ◌+◌, ◌<◌, ◌≤◌, true, false, List, [], ◌∷◌, ◌++◌, codes, length, Option, Some, None, option_map, Result, Ok, Err, refl, sym, ap, ◌∙◌, arith}
use Rattle.std.specs.Prelude.{is_some}
use Rattle.std.specs.List.{position_from}
use Rattle.std.proofs.lemmas.List.{length-append}
use Rattle.serde_json.specs.Data.{Data, null, boolean, number, string, array, object}
use Rattle.serde_json.specs.Find.{as_array, get_member}
use Rattle.apply_json.specs.declared.array_presence.ArrayPresence.TheVariants as kind
use Rattle.apply_json.specs.ShallowView.{members_in}
use Rattle.apply_json.specs.Tree.{list_of, unless_null}
use Rattle.apply_json.specs.Tree as json
use Rattle.apply_json.proofs.Held.{member_in}
use Rattle.apply_model.specs.declared.script.script_step.ScriptStep.{ScriptStep}
use Rattle.apply_model.specs.Plan.SavedPlan.{max_changes}
use Rattle.apply_model.specs.Script.Limits.{max_waits}
use Rattle.apply_plan.specs.declared.script.entries.Entries.{Entries}
use Rattle.apply_plan.specs.declared.script.script_error.ScriptError.{ScriptError}
use Rattle.apply_plan.specs.declared.script.script_error.ScriptError.TheVariants.{BadShape, Memory, NeverBegins}
use Rattle.apply_plan.specs.ListReading.{items_of, made_after}
use Rattle.apply_plan.specs.Results.{◌>>=◌, or_refuse, unless_refused}
use Rattle.apply_resolve.specs.Unreachable.{is_unreachable_at, numbers_from}
use Rattle.apply_plan.specs.Script.EntriesView.{AreNumbersOf, HoldsEntries, StoresOneMore, entries_in, kind_of}
use Rattle.apply_plan.specs.Script.NeverBeginning.{elements_of_tree, never_beginning_in}
use Rattle.apply_plan.specs.Script.NextEntry.{entry_after, resolved_next}
use Rattle.apply_plan.specs.Script.OutcomeMap.{ResolvedEntry, by_number, script_of_entries}
use Rattle.apply_resolve.specs.Placed.{ArePlaced}
use Rattle.apply_plan.proofs.ListReading.{list_of-items_of, made_more, one_more}
use Rattle.apply_plan.proofs.Scripts.Entries.{length-by_number}
use Rattle.apply_plan.proofs.Scripts.NeverBeginning.{made_numbers, refused_numbers}
use Rattle.apply_plan.proofs.Scripts.WholeList.{entries_one_by_one, made_script, no_step_counts, nothing_stated, one_step_count, refused_script, stated_more, same_entry}

-- ---- the entries

pub long : (entries : Entries) (ds : List Data) (holds : HoldsEntries entries ds) → length entries.outcomes.items ≡ length entries.plan.now.changes
long entries ds holds = ap length holds.outcomes.outcomes_are ∙ length-by_number (length entries.plan.now.changes) holds.made

pub holds_none : (entries : Entries) → length entries.plan.now.changes ≤ max_changes → AreNumbersOf entries.numbers entries.plan.now.changes → entries.outcomes.items ≡ by_number (length entries.plan.now.changes) [] → entries.step_counts.items ≡ [] → entries.waits ≡ 0 → entries.fault ≡ None
    → HoldsEntries entries []
unfolding made_after
holds_none entries few numbered outcomes step_counts waits fault =
    let changes = entries.plan.now.changes in
    record {
      made = [];
      few_changes = few;
      numbered = numbered;
      outcomes = rw (waits, step_counts) (nothing_stated changes entries.outcomes.items outcomes);
      step_counts = no_step_counts (length changes) entries.step_counts.items step_counts;
      few = omega (arith, waits);
      so_far = λ not. rw fault refl;
    }

-- one entry more, after a fault
pub holds_past : (entries : Entries) (ds : List Data) (d : Data) → is_some entries.fault ≡ true → HoldsEntries entries ds → HoldsEntries entries (ds ++ d ∷ [])
holds_past entries ds d some holds =
    let changes = entries.plan.now.changes in
    record {
      made = holds.made;
      few_changes = holds.few_changes;
      numbered = holds.numbered;
      outcomes = holds.outcomes;
      step_counts = holds.step_counts;
      few = holds.few;
      so_far = λ not. made_more (entry_after changes) [] ds d ∙ ap (λ r. r >>= one_more (entry_after changes) d) (holds.so_far not) ∙ stays entries.fault some;
    }
  where
    stays : (fault : Option ScriptError) → is_some fault ≡ true → (unless_refused fault holds.made >>= one_more (entry_after entries.plan.now.changes) d) ≡ unless_refused fault holds.made
    stays None none = absurd cc
    stays (Some e) some = refl

none_there : (fault : Option ScriptError) → is_some fault ≡ false → fault ≡ None
none_there None h = refl
none_there (Some x) h = absurd cc

no_want : (fault : Option ScriptError) → is_some fault ≡ false → fault ≢ Some Memory
no_want None h = λ is. absurd cc
no_want (Some x) h = absurd cc

-- one entry more, if there was no fault
next_entry : (entries : Entries) (ds : List Data) (d : Data) (holds : HoldsEntries entries ds) → is_some entries.fault ≡ false → (answer : Result ResolvedEntry ScriptError)
    → resolved_next entries.plan.now.changes entries.outcomes.items entries.waits (length entries.step_counts.items) d ≡ answer
    → made_after (entry_after entries.plan.now.changes) [] (items_of (ds ++ d ∷ [])) ≡ (answer >>= λ one. Ok (holds.made ++ one ∷ []))
next_entry entries ds d holds none answer is =
    let changes = entries.plan.now.changes in
    made_more (entry_after changes) [] ds d ∙ ap (λ r. r >>= one_more (entry_after changes) d) (holds.so_far (no_want entries.fault none) ∙ ap (λ (o : Option ScriptError). unless_refused o holds.made) (none_there entries.fault none))
    ∙ ap (λ (r : Result ResolvedEntry ScriptError). r >>= λ one. Ok (holds.made ++ one ∷ [])) (same_entry changes entries.outcomes.items entries.waits (length entries.step_counts.items) holds.made d answer holds.outcomes is)

pub holds_more : (old new : Entries) (ds : List Data) (d : Data) (change : ℕ) (steps : List ScriptStep) (waits : ℕ) → HoldsEntries old ds → is_some old.fault ≡ false
    → resolved_next old.plan.now.changes old.outcomes.items old.waits (length old.step_counts.items) d ≡ Ok (record { change = change; steps = steps; waits = waits })
    → change < length old.outcomes.items → ArePlaced (length old.outcomes.items) steps → old.waits + waits ≤ max_waits
    → StoresOneMore old change steps waits new → HoldsEntries new (ds ++ d ∷ [])
holds_more old new ds d change steps waits holds none is below placed few keeps =
    let changes = old.plan.now.changes in
    let one : ResolvedEntry = record { change = change; steps = steps; waits = waits } in
    let more = stated_more changes old.outcomes.items old.waits (length old.step_counts.items) holds.made d one holds.outcomes is placed in
    let longer : length (old.step_counts.items ++ (change, length steps) ∷ []) ≡ length old.step_counts.items + 1 = omega (arith, length-append old.step_counts.items ((change, length steps) ∷ [])) in
    record {
      made = holds.made ++ one ∷ [];
      few_changes = rw keeps.plan holds.few_changes;
      numbered = rw (keeps.numbers, keeps.plan) holds.numbered;
      outcomes = rw (keeps.plan, keeps.outcomes, keeps.waits, keeps.step_counts, longer) more;
      step_counts = rw (keeps.plan, keeps.step_counts) (one_step_count (length changes) old.step_counts.items holds.made one holds.step_counts (omega (arith, below, long old ds holds)) placed.few);
      few = rw keeps.waits few;
      so_far = λ not. rw (keeps.plan, keeps.fault) (next_entry old ds d holds none (Ok one) is ∙ ap (λ (o : Option ScriptError). unless_refused o (holds.made ++ one ∷ [])) (sym (none_there old.fault none)));
    }

pub holds_refused : (old new : Entries) (ds : List Data) (d : Data) (fault : ScriptError) → HoldsEntries old ds → is_some old.fault ≡ false
    → (fault ≢ Memory → resolved_next old.plan.now.changes old.outcomes.items old.waits (length old.step_counts.items) d ≡ Err fault)
    → new ≡ record old { fault = Some fault } → HoldsEntries new (ds ++ d ∷ [])
holds_refused old new ds d fault holds none is same = rw same
    (record {
      made = holds.made;
      few_changes = holds.few_changes;
      numbered = holds.numbered;
      outcomes = holds.outcomes;
      step_counts = holds.step_counts;
      few = holds.few;
      so_far = λ not. next_entry old ds d holds none (Err fault) (is (λ want. not (ap (λ (e : ScriptError). Some e) want)));
    })

-- ---- the script of the entries

pub refused_entries : (entries : Entries) (ds : List Data) (fault : ScriptError) → HoldsEntries entries ds → entries.fault ≡ Some fault → fault ≢ Memory → script_of_entries entries.plan.now ds ≡ Err fault
refused_entries entries ds fault holds is known =
    let plan = entries.plan.now in
    ap (script_of_entries plan) (sym (list_of-items_of ds))
    ∙ refused_script plan (items_of ds) fault (sym (entries_one_by_one plan.changes (items_of ds)) ∙ holds.so_far (λ want. known (same (sym is ∙ want))) ∙ rw is refl)
  where
    same : {x y : ScriptError} → Some x ≡ Some y → x ≡ y
    same e = cc

pub made_entries : (entries : Entries) (ds : List Data) (stuck : Option ℕ) → HoldsEntries entries ds → entries.fault ≡ None → stuck ≡ position_from (is_unreachable_at entries.outcomes.items) 0 entries.step_counts.items
    → script_of_entries entries.plan.now ds ≡ unless_refused (option_map NeverBegins stuck) entries.outcomes.items
made_entries entries ds stuck holds none is =
    let plan = entries.plan.now in
    ap (script_of_entries plan) (sym (list_of-items_of ds))
    ∙ made_script plan (items_of ds) entries.outcomes.items entries.waits (length entries.step_counts.items) holds.made entries.step_counts.items stuck holds.outcomes holds.step_counts.counts_are is
    (sym (entries_one_by_one plan.changes (items_of ds)) ∙ holds.so_far (λ want. absurd (let never : None ≡ Some Memory = sym none ∙ want in cc)) ∙ rw none refl)

-- the entries with a step that can never start
pub refused_beginning : (entries : Entries) (ds : List Data) (fault : ScriptError) → HoldsEntries entries ds → entries.fault ≡ Some fault → fault ≢ Memory → never_beginning_in entries.plan.now ds ≡ Err fault
refused_beginning entries ds fault holds is known =
    let plan = entries.plan.now in
    ap (never_beginning_in plan) (sym (list_of-items_of ds))
    ∙ refused_numbers plan (items_of ds) fault (sym (entries_one_by_one plan.changes (items_of ds)) ∙ holds.so_far (λ want. known (same (sym is ∙ want))) ∙ rw is refl)
  where
    same : {x y : ScriptError} → Some x ≡ Some y → x ≡ y
    same e = cc

pub made_beginning : (entries : Entries) (ds : List Data) (stuck : List ℕ) → HoldsEntries entries ds → entries.fault ≡ None → stuck ≡ numbers_from 0 (is_unreachable_at entries.outcomes.items) entries.step_counts.items
    → never_beginning_in entries.plan.now ds ≡ Ok stuck
made_beginning entries ds stuck holds none is =
    let plan = entries.plan.now in
    ap (never_beginning_in plan) (sym (list_of-items_of ds))
    ∙ made_numbers plan (items_of ds) entries.outcomes.items entries.waits (length entries.step_counts.items) holds.made entries.step_counts.items stuck holds.outcomes holds.step_counts.counts_are is
    (sym (entries_one_by_one plan.changes (items_of ds)) ∙ holds.so_far (λ want. absurd (let never : None ≡ Some Memory = sym none ∙ want in cc)) ∙ rw none refl)

-- ---- the top level

abbrev from_found : Option Data → Result (List Data) ScriptError
from_found located = or_refuse (BadShape None) (json.◌>>=◌ (json.◌>>=◌ located unless_null) as_array) >>= λ elements. Ok (list_of elements)

found_at : (d : Data) → elements_of_tree d ≡ from_found (get_member (codes "changes") (members_in d))
found_at d = ap (λ (o : Option Data). or_refuse (BadShape None) (json.◌>>=◌ o as_array) >>= λ elements. Ok (list_of elements)) (member_in (codes "changes") d)

from_list : (o : Option Data) → kind.List ≡ kind_of o → from_found o ≡ Ok (entries_in o)
from_list None is = absurd cc
from_list (Some null) is = absurd cc
from_list (Some (boolean b)) is = absurd cc
from_list (Some (number n)) is = absurd cc
from_list (Some (string s)) is = absurd cc
from_list (Some (array ds)) is = refl
from_list (Some (object ms)) is = absurd cc

from_absent : (o : Option Data) → kind.Absent ≡ kind_of o → from_found o ≡ Err (BadShape None)
from_absent None is = refl
from_absent (Some null) is = refl
from_absent (Some (boolean b)) is = refl
from_absent (Some (number n)) is = refl
from_absent (Some (string s)) is = refl
from_absent (Some (array ds)) is = absurd cc
from_absent (Some (object ms)) is = refl

from_other : (o : Option Data) → kind.Other ≡ kind_of o → from_found o ≡ Err (BadShape None)
from_other None is = refl
from_other (Some null) is = refl
from_other (Some (boolean b)) is = refl
from_other (Some (number n)) is = refl
from_other (Some (string s)) is = refl
from_other (Some (array ds)) is = absurd cc
from_other (Some (object ms)) is = refl

pub elements_of_list : (d : Data) → kind.List ≡ kind_of (get_member (codes "changes") (members_in d)) → elements_of_tree d ≡ Ok (entries_in (get_member (codes "changes") (members_in d)))
elements_of_list d is = found_at d ∙ from_list _ is

pub elements_of_absent : (d : Data) → kind.Absent ≡ kind_of (get_member (codes "changes") (members_in d)) → elements_of_tree d ≡ Err (BadShape None)
elements_of_absent d is = found_at d ∙ from_absent _ is

pub elements_of_other : (d : Data) → kind.Other ≡ kind_of (get_member (codes "changes") (members_in d)) → elements_of_tree d ≡ Err (BadShape None)
elements_of_other d is = found_at d ∙ from_other _ is
