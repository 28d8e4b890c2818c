-- The entries of a script are read back, one after another.
use Rattle.std.proofs.Common.{◌≡◌, ℕ, zero, suc, ◌+◌, ◌==◌, ◌<◌, ◌≤◌, List, [], ◌∷◌, ◌++◌, false, cond, length, map, slice_get, Option, Some, None, Ok, Err, option_map, option_and_then, refl, sym, ap, ◌∙◌, append_assoc, append-nil, arith}
use Rattle.std.specs.Prelude.{find, IfSome, is_some, sum_by}
use Rattle.std.specs.List.{AllByRecursion, range_with_len}
use Rattle.std.proofs.lemmas.Bool.{ne_eqb}
use Rattle.std.proofs.lemmas.List.Sums.{sum_by-append, sum_by-cons}
use Rattle.std.proofs.lemmas.Option.{same_Some}
use Rattle.apply_model.specs.declared.script.script_step.ScriptStep.{ScriptStep}
use Rattle.apply_model.specs.Plan.ResourceChange.{ResourceChange}
use Rattle.apply_model.specs.Script.Limits.{max_waits}
use Rattle.apply_model.specs.Script.OutcomeMap.{OutcomeMap, stated_steps}
use Rattle.apply_plan.specs.declared.script.script_error.ScriptError.TheVariants.{BadShape, Duplicate, UnknownChange}
use Rattle.apply_plan.specs.ListReading.{items_of, made_after}
use Rattle.apply_plan.specs.Results.{◌>>=◌, or_refuse, unless_refused}
use Rattle.apply_plan.specs.Script.Entry.{Entry}
use Rattle.apply_plan.specs.Script.NextEntry.{count_waits, entry_after, resolved_next}
use Rattle.apply_plan.specs.Script.OutcomeMap.{ResolvedEntry, by_number, change_of_entry, resolved_by}
use Rattle.apply_plan.specs.Script.Refusals.{fault_of_entry}
use Rattle.apply_plan.proofs.Scripts.Entries.{at_number}
use Rattle.stream_record.specs.ScriptText.{entry_steps, unless_no_steps}
use Rattle.laws_record.specs.Writable.{AreWritableEntries, IsWritableChange, IsWritableEntry, NamesEachObjectOnce, waits_in, waits_in_steps}
use Rattle.laws_record.proofs.Faultless.{faultless}
use Rattle.laws_record.proofs.Objects.{all_writable, located}
use Rattle.laws_record.proofs.Resolved.{steps_resolved}
use Rattle.laws_record.proofs.StepsBack.{entry_back, written_step}
use Rattle.laws_record.proofs.Trees.{entry_tree, entry_trees, tree_before}

-- ---- one entry

pub within : {A : Type 0} (xs : List A) (k : ℕ) (x : A) → slice_get xs k ≡ Some x → k < length xs
within [] k x e = absurd cc
within (y ∷ ys) zero x e = omega arith
within (y ∷ ys) (suc k) x e = let less = within ys k x e in omega arith

abbrev AreBefore : ℕ → List ResolvedEntry → Type 0
AreBefore n made = AllByRecursion (λ (entry : ResolvedEntry). entry.change < n) made

none_before : (n : ℕ) (made : List ResolvedEntry) → AreBefore n made → find (λ (entry : ResolvedEntry). entry.change == n) made ≡ None
none_before n [] all = refl
none_before n (entry ∷ made) all =
    let less = all.0 in
    let other = ne_eqb entry.change n (λ e. omega arith) in
    (λ i. cond (other i) (Some entry) (find (λ (e : ResolvedEntry). e.change == n) made)) ∙ none_before n made all.1

-- an entry as it is resolved
abbrev pub resolved : (n : ℕ) → List ScriptStep → ResolvedEntry
resolved n steps = record { change = n; steps = steps; waits = waits_in_steps steps }

abbrev pub resolved_before : (n : ℕ) → Option (List ScriptStep) → List ResolvedEntry → List ResolvedEntry
resolved_before n None entries = entries
resolved_before n (Some steps) entries = resolved n steps ∷ entries

-- the entries of the changes `left`, of which the first has the number n
abbrev pub resolved_from : OutcomeMap → (n : ℕ) → (left : List ResourceChange) → List ResolvedEntry
resolved_from script n [] = []
resolved_from script n (change ∷ left) = resolved_before n (entry_steps script n) (resolved_from script (n + 1) left)

-- an entry has steps
some_steps : (o : Option (List ScriptStep)) → option_and_then unless_no_steps o ≡ Some [] → ⊥
some_steps None e = cc
some_steps (Some []) e = cc
some_steps (Some (step ∷ steps)) e = let no : step ∷ steps ≡ [] = same_Some (step ∷ steps) [] e in cc

before_next : (n : ℕ) (made : List ResolvedEntry) → AreBefore n made → AreBefore (n + 1) made
before_next n [] all = tt
before_next n (entry ∷ made) all = let less = all.0 in (omega arith, before_next n made all.1)

before_push : (n : ℕ) (made : List ResolvedEntry) (entry : ResolvedEntry) → AreBefore n made → entry.change < n → AreBefore n (made ++ entry ∷ [])
before_push n [] entry all less = (less, tt)
before_push n (first ∷ made) entry all less = (all.0, before_push n made entry all.1 less)

push_waits : (made : List ResolvedEntry) (entry : ResolvedEntry) → count_waits (made ++ entry ∷ []) ≡ count_waits made + entry.waits
push_waits made entry =
    let parts = sum_by-append (λ (e : ResolvedEntry). e.waits) made (entry ∷ []) in
    let none : List ResolvedEntry = [] in
    let last = sum_by-cons (λ (e : ResolvedEntry). e.waits) entry none in
    let zero_is : sum_by (λ (e : ResolvedEntry). e.waits) none ≡ 0 = refl in
    omega arith

-- how many waits the entries of some changes have
abbrev pub waits_from : OutcomeMap → (n : ℕ) → (left : List ResourceChange) → ℕ
waits_from script n left = sum_by waits_in (map (entry_steps script) (range_with_len n (length left)))

first_waits : (script : OutcomeMap) (n : ℕ) (change : ResourceChange) (left : List ResourceChange) → waits_from script n (change ∷ left) ≡ waits_in (entry_steps script n) + waits_from script (n + 1) left
first_waits script n change left = sum_by-cons waits_in (entry_steps script n) (map (entry_steps script) (range_with_len (n + 1) (length left)))

module _ (changes : List ResourceChange) (writable : AllByRecursion IsWritableChange changes) (once : NamesEachObjectOnce changes) (script : OutcomeMap) where
  entry_made : (n : ℕ) (change : ResourceChange) (step : ScriptStep) (steps : List ScriptStep) (made : List ResolvedEntry) → slice_get changes n ≡ Some change → IsWritableChange change
      → IsWritableEntry changes script n change (step ∷ steps) → AreBefore n made → count_waits made + waits_in_steps (step ∷ steps) ≤ max_waits
      → entry_after changes made (entry_tree changes change (step ∷ steps)) ≡ Ok (resolved n (step ∷ steps))
  unfolding resolved_next
  entry_made n change step steps made stands change_is is before few =
      let all = step ∷ steps in
      let here = length made in
      let names = map (written_step changes) all in
      let entry : Entry = record { address = change.address; deposed = change.deposed; steps = names } in
      let outcomes = by_number (length changes) made in
      let entry_is = entry_back changes (all_writable changes writable) change step steps change_is is.each in
      let place : 0 + n ≡ n = omega arith in
      let located_is : change_of_entry changes entry ≡ Some (n, change) = located 0 n changes change once stands ∙ ap (λ m. Some (m, change)) place in
      let new : is_some (stated_steps outcomes n) ≡ false =
      ap is_some (at_number (length changes) made n (within changes n change stands) ∙ ap (option_map (λ (e : ResolvedEntry). e.steps)) (none_before n made before)) in
      let fault = faultless changes script n change all is here once (count_waits made) few in
      let back = steps_resolved changes once all is.waits in
      (λ i. or_refuse (BadShape (Some here)) (entry_is i) >>= (λ entry.
      or_refuse (UnknownChange here) (change_of_entry changes entry) >>= (λ located.
      cond (is_some (stated_steps outcomes located.0)) (Err (Duplicate here)) (unless_refused (fault_of_entry here changes (count_waits made) located.1 entry.steps) (resolved_by changes located.0 entry.steps)))))
      ∙ (λ i. or_refuse (UnknownChange here) (located_is i) >>= (λ located.
      cond (is_some (stated_steps outcomes located.0)) (Err (Duplicate here)) (unless_refused (fault_of_entry here changes (count_waits made) located.1 names) (resolved_by changes located.0 names))))
      ∙ (λ i. cond (new i) (Err (Duplicate here)) (unless_refused (fault i) (resolved_by changes n names)))
      ∙ (λ i. Ok (record { change = n; steps = back.back i; waits = back.count i }))

  -- ---- all entries

  abbrev Stands : (n : ℕ) → (left : List ResourceChange) → Type 0
  Stands n left = (k : ℕ) (change : ResourceChange) → slice_get left k ≡ Some change → slice_get changes (n + k) ≡ Some change

  stands_next : (n : ℕ) (change : ResourceChange) (left : List ResourceChange) → Stands n (change ∷ left) → Stands (n + 1) left
  stands_next n change left stands = λ k other is.
      let place : n + suc k ≡ n + 1 + k = omega arith in
      ap (slice_get changes) (sym place) ∙ stands (suc k) other is

  pub all_made : (n : ℕ) (left : List ResourceChange) (made : List ResolvedEntry) → Stands n left → AllByRecursion IsWritableChange left → AreWritableEntries changes script n left → AreBefore n made
      → count_waits made + waits_from script n left ≤ max_waits
      → made_after (entry_after changes) made (items_of (entry_trees changes script n left)) ≡ Ok (made ++ resolved_from script n left)
  unfolding made_after
  all_made n [] made stands all entries before few = ap Ok (sym (append-nil made))
  all_made n (change ∷ left) made stands all entries before few =
      let waits = first_waits script n change left in
      of_steps (entry_steps script n) (some_steps (stated_steps script n)) entries.0 (omega arith)
      (λ more now fits. all_made (n + 1) left more (stands_next n change left stands) all.1 entries.1 now fits)
    where
      of_steps : (o : Option (List ScriptStep)) → (o ≡ Some [] → ⊥) → IfSome o (IsWritableEntry changes script n change)
          → count_waits made + waits_in o + waits_from script (n + 1) left ≤ max_waits
          → ((more : List ResolvedEntry) → AreBefore (n + 1) more → count_waits more + waits_from script (n + 1) left ≤ max_waits
          → made_after (entry_after changes) more (items_of (entry_trees changes script (n + 1) left)) ≡ Ok (more ++ resolved_from script (n + 1) left))
          → made_after (entry_after changes) made (items_of (tree_before changes change o (entry_trees changes script (n + 1) left)))
          ≡ Ok (made ++ resolved_before n o (resolved_from script (n + 1) left))
      of_steps None some is fits more = more made (before_next n made before) (omega arith)
      of_steps (Some []) some is fits more = absurd (some refl)
      of_steps (Some (step ∷ steps)) some is fits more =
          let entry = resolved n (step ∷ steps) in
          let rest = entry_trees changes script (n + 1) left in
          let place : n + 0 ≡ n = omega arith in
          let here = ap (slice_get changes) (sym place) ∙ stands 0 change refl in
          let first = entry_made n change step steps made here all.0 is before (omega arith) in
          let waits = push_waits made entry in
          ap (λ one. one >>= (λ (e : ResolvedEntry). made_after (entry_after changes) (made ++ e ∷ []) (items_of rest))) first
          ∙ more (made ++ entry ∷ []) (before_push (n + 1) made entry (before_next n made before) (omega arith)) (omega arith)
          ∙ ap Ok (append_assoc made (entry ∷ []) (resolved_from script (n + 1) left))
