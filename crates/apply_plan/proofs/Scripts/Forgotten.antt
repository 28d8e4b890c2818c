-- The outcomes are removed, change by change.
use Rattle.std.proofs.Common.{◌≡◌, ℕ, ◌+◌, ◌<◌, ◌≤◌, ◌==◌, true, false, Bool, List, [], ◌∷◌, ◌++◌, length, map, get_or, set, Option, Some, None, refl, sym, ap, subst, ◌∙◌, arith, ⊎_elim}
use Rattle.std.specs.Prelude.{◌||◌, is_some}
use Rattle.std.specs.List.{All, list_any}
use Rattle.std.proofs.lemmas.Bool.{cases_Bool}
use Rattle.std.proofs.lemmas.Bool.Decides.{eqb_tells}
use Rattle.std.proofs.lemmas.List.{get_or-set_other, get_or-set_same, get_or_default, length-set, same_lists}
use Rattle.std.proofs.lemmas.List.Elements.{All-pop}
use Rattle.std.proofs.lemmas.List.Folds.{list_any-append}
use Rattle.std.proofs.lemmas.List.FromFn.{get_or-map-range_with_len}
use Rattle.serde_json.specs.Data.{Data}
use Rattle.apply_model.specs.declared.script.script_step.ScriptStep.{ScriptStep}
use Rattle.apply_model.specs.Script.OutcomeMap.{OutcomeMap}
use Rattle.apply_plan.specs.declared.script.entries.Entries.{Entries}
use Rattle.apply_plan.specs.Script.EntriesView.{AreCovered, HoldsEntries, step_count_of}
use Rattle.apply_plan.specs.Script.OutcomeMap.{ResolvedEntry, by_number, outcomes_of}
use Rattle.apply_plan.proofs.Scripts.Entries.{length-by_number}
use Rattle.apply_plan.proofs.Scripts.Read.{long}

-- a change has outcomes if and only if it has a stored entry
named : (made : List ResolvedEntry) (number : ℕ) → is_some (outcomes_of made number) ≡ list_any (λ entry. entry.0 == number) (map step_count_of made)
named [] number = refl
named (one ∷ made) number = ⊎_elim
    (λ (here : (one.change == number) ≡ true). rw here refl)
    (λ (not_here : (one.change == number) ≡ false). rw not_here (named made number))
    (cases_Bool (one.change == number))

pub all_covered : (entries : Entries) (ds : List Data) → HoldsEntries entries ds → AreCovered entries.outcomes.items entries.step_counts.items
all_covered entries ds holds =
    let count = length entries.plan.now.changes in
    let long = long entries ds holds in
    record {
      within = subst (λ (n : ℕ). All (λ entry. (entry.0 < n) × (entry.1 ≤ 2)) entries.step_counts.items) (sym long) holds.step_counts.within;
      covered = λ number below some.
          let place : 0 + number ≡ number = omega arith in
          let outcomes : get_or entries.outcomes.items number None ≡ outcomes_of holds.made number =
          ap (λ (all : OutcomeMap). get_or all number None) holds.outcomes.outcomes_are ∙ get_or-map-range_with_len (outcomes_of holds.made) 0 count number number None (omega (arith, below, long)) place in
          ap (list_any (λ entry. entry.0 == number)) holds.step_counts.counts_are ∙ sym (named holds.made number) ∙ ap is_some (sym outcomes) ∙ some;
    }

never : (o : Option (List ScriptStep)) → o ≡ None → is_some o ≡ true → ⊥
never None none some = absurd cc
never (Some x) none some = absurd cc

-- the change of the last stored entry may have outcomes
pub last_within : (outcomes : OutcomeMap) (all step_counts : List (ℕ × ℕ)) (last : ℕ × ℕ) → all ≡ step_counts ++ last ∷ [] → AreCovered outcomes all → last.0 < length outcomes
last_within outcomes all step_counts last is are =
    (All-pop (λ (entry : ℕ × ℕ). (entry.0 < length outcomes) × (entry.1 ≤ 2)) all step_counts (Some last) is are.within).1.0

-- after its outcomes are removed, the other changes still have stored entries
pub without_last : (outcomes : OutcomeMap) (all step_counts : List (ℕ × ℕ)) (last : ℕ × ℕ) → all ≡ step_counts ++ last ∷ [] → AreCovered outcomes all → AreCovered (set outcomes last.0 None) step_counts
without_last outcomes all step_counts last is are =
    let within : ℕ → Type 0 = λ n. All (λ (entry : ℕ × ℕ). (entry.0 < n) × (entry.1 ≤ 2)) step_counts in
    let long = length-set outcomes last.0 None in
    let parts = All-pop (λ (entry : ℕ × ℕ). (entry.0 < length outcomes) × (entry.1 ≤ 2)) all step_counts (Some last) is are.within in
    record {
      within = subst within (sym long) parts.0;
      covered = λ number below some. ⊎_elim
          (λ same.
          let none = ap (λ (n : ℕ). get_or (set outcomes last.0 None) n None) (sym same.1) ∙ get_or-set_same outcomes last.0 None None parts.1.0 in
          absurd (never (get_or (set outcomes last.0 None) number None) none some))
          (λ apart.
          let there = ap is_some (sym (get_or-set_other outcomes last.0 number None None (λ e. apart.1 (sym e)))) ∙ some in
          others step_counts number apart.0
          (sym (list_any-append (λ (entry : ℕ × ℕ). entry.0 == number) step_counts (last ∷ [])) ∙ ap (list_any (λ (entry : ℕ × ℕ). entry.0 == number)) (sym is) ∙ are.covered number (omega (arith, below, long)) there))
          (eqb_tells last.0 number);
    }
  where
    others : (step_counts : List (ℕ × ℕ)) (number : ℕ) → (last.0 == number) ≡ false → (list_any (λ (entry : ℕ × ℕ). entry.0 == number) step_counts || list_any (λ (entry : ℕ × ℕ). entry.0 == number) (last ∷ [])) ≡ true
        → list_any (λ (entry : ℕ × ℕ). entry.0 == number) step_counts ≡ true
    others step_counts number other any = first (list_any (λ (entry : ℕ × ℕ). entry.0 == number) step_counts) (rw other at any)
      where
        first : (b : Bool) → (b || false) ≡ true → b ≡ true
        first true e = refl
        first false e = e

-- without stored entries no change has outcomes
pub none_left : (outcomes : OutcomeMap) → AreCovered outcomes [] → outcomes ≡ by_number (length outcomes) []
none_left outcomes are = same_lists outcomes (by_number (length outcomes) []) (sym (length-by_number (length outcomes) [])) (λ k d below.
    let place : 0 + k ≡ k = omega arith in
    get_or_default outcomes k d None below ∙ nothing (get_or outcomes k None) (are.covered k below) ∙ sym (get_or-map-range_with_len (outcomes_of []) 0 (length outcomes) k k d below place))
  where
    nothing : (o : Option (List ScriptStep)) → (is_some o ≡ true → false ≡ true) → o ≡ None
    nothing None never = refl
    nothing (Some x) never = absurd (let yes = never refl in cc)
