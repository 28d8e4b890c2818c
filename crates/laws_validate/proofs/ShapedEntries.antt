-- If a run does not read an entry, a finding reports a broken rule.
use Rattle.std.proofs.Common.{◌≡◌, ℕ, suc, ◌-◌, List, [], ◌∷◌, ◌++◌, map, Bool, true, false, not, ◌&&◌, is_some, Option, Some, None, if◌then◌else◌, refl, sym, ap, ◌∙◌}
use Rattle.std.specs.Prelude.{codes, nat_lt}
use Rattle.std.specs.List.{list_any}
use Rattle.serde_json.specs.Data.{Data, Items}
use Rattle.serde_json.specs.Find.{as_array, as_object, as_str}
use Rattle.apply_json.specs.Tree.{◌>>=◌, list_of, member_of, text_of, text_or, unless_empty}
use Rattle.apply_model.specs.Plan.ResourceChange.{ResourceChange}
use Rattle.apply_plan.specs.Script.Entry.{Entry, EntryStep, all_some, entry_of, step_from}
use Rattle.input_validate.specs.declared.findings.finding.Finding.{Finding}
use Rattle.input_validate.specs.declared.findings.name.Name.TheVariants as name
use Rattle.input_validate.specs.declared.findings.path.Segment.TheVariants.{Member}
use Rattle.input_validate.specs.declared.findings.expected.Expected.TheVariants as expected
use Rattle.input_validate.specs.AgainstPlan.{repeat_violation, beyond_at, beyond_in, change_at, step_count_violation, unknown_violations, waits_beyond, waits_in}
use Rattle.input_validate.specs.Findings.{is_refusal, under}
use Rattle.input_validate.specs.ScriptFindings.{entry_names, entry_table, in_entry, in_step}
use Rattle.input_validate.specs.Rules.{fault_of, faults_of, in_items, inside, items_at, rule, violation_findings, ignored, where_suits}
use Rattle.input_validate.specs.Expectations.{is_met}
use Rattle.laws_validate.proofs.Alike.{Alike, member_alike, object_alike}
use Rattle.laws_validate.proofs.Clean.{all_items, appended, clean, clean-fault_of, clean-then_unread, clean-where_suits, is_absent_or}
use Rattle.laws_validate.proofs.Diagnostics.{two}
use Rattle.laws_validate.proofs.Members.{IsCleanBy, array_there, items_inside, text_or_there, text_there}
use Rattle.input_validate.proofs.Options.{and_assoc, not_not}
use Rattle.laws_validate.proofs.Shapes.{IsSame, both_same, is_shape, no_unknown, same_fault, same_faults, same_items, same_picked, same_unread, same_where, shape_under, without, Same}
use Rattle.laws_validate.proofs.Wanted.{each_is, needs_object}
use Rattle.laws_validate.proofs.ShapedSteps.{clean_shaped_step, same_step, shaped_step}

abbrev shaped_entry : Data → List Finding
shaped_entry d = where_suits expected.Entry d
    (faults_of entry_table d
    ++ fault_of d (rule name.Steps expected.Array)
    ++ inside (in_items (λ number. shaped_step)) name.Steps d
    ++ ignored entry_names d)

by_room : (b : Bool) (n most : ℕ) (xs : List Finding) → list_any is_shape xs ≡ false → list_any is_shape (if b then beyond_at n most else xs) ≡ false
by_room true n most xs e = refl
by_room false n most xs e = e

none_beyond : (most n : ℕ) (ds : List Data) → list_any is_shape (waits_beyond most n ds) ≡ false
none_beyond most n [] = refl
none_beyond most n (d ∷ ds) = by_room (nat_lt most (waits_in d)) n most (waits_beyond (most - waits_in d) (suc n) ds)
    (none_beyond (most - waits_in d) (suc n) ds)

by_plan : (has_plan : Bool) (xs : List Finding) → list_any is_shape xs ≡ false
    → list_any is_shape (if has_plan then map (under (Member name.Steps)) xs else []) ≡ false
by_plan true xs e = shape_under (Member name.Steps) xs ∙ e
by_plan false xs e = refl

no_beyond : (has_plan : Bool) (left : Option ℕ) (d : Data) → list_any is_shape (beyond_in has_plan left d) ≡ false
no_beyond has_plan None d = refl
no_beyond has_plan (Some most) d = by_plan has_plan (waits_beyond most 0 (items_at name.Steps d)) (none_beyond most 0 (items_at name.Steps d))

-- only these parts report a broken rule
same_parts : (wrong unknown again list many steps shaped beyond rest : List Finding) → Same wrong wrong → list_any is_shape unknown ≡ false
    → list_any is_shape again ≡ false → Same list list → list_any is_shape many ≡ false → Same steps shaped → list_any is_shape beyond ≡ false
    → Same rest rest → Same (wrong ++ unknown ++ again ++ list ++ many ++ steps ++ beyond ++ rest) (wrong ++ list ++ shaped ++ rest)
same_parts wrong unknown again list many steps shaped beyond rest e1 e2 e3 e4 e5 e6 e7 e8 =
    let s2 = without wrong unknown wrong e1 e2 in
    let s3 = without (wrong ++ unknown) again wrong s2 e3 in
    let s4 = both_same (wrong ++ unknown ++ again) list wrong list s3 e4 in
    let s5 = without (wrong ++ unknown ++ again ++ list) many (wrong ++ list) s4 e5 in
    let s6 = both_same (wrong ++ unknown ++ again ++ list ++ many) steps (wrong ++ list) shaped s5 e6 in
    let s7 = without (wrong ++ unknown ++ again ++ list ++ many ++ steps) beyond (wrong ++ list ++ shaped) s6 e7 in
    both_same (wrong ++ unknown ++ again ++ list ++ many ++ steps ++ beyond) rest (wrong ++ list ++ shaped) rest s7 e8

same_entry : (changes : Option (List ResourceChange)) (first left : Option ℕ) → IsSame (in_entry changes first left) shaped_entry
unfolding in_entry
same_entry changes first left d =
    let change : Option ResourceChange = change_at changes d in
    same_where expected.Entry d _ _
    (same_parts (faults_of entry_table d) (violation_findings (unknown_violations changes d)) (violation_findings (repeat_violation change first ∷ [])) (fault_of d (rule name.Steps expected.Array))
    (violation_findings (step_count_violation change d ∷ [])) (inside (in_items (in_step changes change)) name.Steps d) (inside (in_items (λ number. shaped_step)) name.Steps d)
    (beyond_in (is_some changes) left d) (ignored entry_names d) (same_faults entry_table d) (no_unknown changes d) (same_picked (repeat_violation change first ∷ []))
    (same_fault d (rule name.Steps expected.Array)) (same_picked (step_count_violation change d ∷ []))
    (same_items (in_step changes change) (λ number. shaped_step) (same_step changes change) name.Steps d) (no_beyond (is_some changes) left d)
    (same_unread entry_names d))

abbrev entry_with : List ℕ → List ℕ → List EntryStep → Entry
entry_with address deposed steps = record { address = address; deposed = unless_empty deposed; steps = steps }

of_steps : (x y : List ℕ) (steps : Option (List EntryStep)) → is_some steps ≡ is_some (steps >>= λ s. Some (entry_with x y s))
of_steps x y None = refl
of_steps x y (Some steps) = refl

of_items : (x y : List ℕ) (items : Option Items)
    → is_some (items >>= λ ds. all_some (map step_from (list_of ds)))
    ≡ is_some (items >>= λ ds. all_some (map step_from (list_of ds)) >>= λ s. Some (entry_with x y s))
of_items x y None = refl
of_items x y (Some ds) = of_steps x y (all_some (map step_from (list_of ds)))

entry_reads : (address deposed : Option (List ℕ)) (list : Option Data)
    → ((is_some address && is_some deposed) && is_some (list >>= as_array >>= λ ds. all_some (map step_from (list_of ds))))
    ≡ is_some (address >>= λ x. deposed >>= λ y. list >>= λ l. as_array l >>= λ ds. all_some (map step_from (list_of ds)) >>= λ s. Some (entry_with x y s))
entry_reads None deposed list = refl
entry_reads (Some x) None list = refl
entry_reads (Some x) (Some y) None = refl
entry_reads (Some x) (Some y) (Some l) = of_items x y (as_array l)

each_there : {A : Type 0} (part : Data → Option A) (o : Option Data)
    → (is_met expected.Array o && is_absent_or (all_items (λ e. is_some (part e))) o) ≡ is_some (o >>= as_array >>= λ items. all_some (map part (list_of items)))
each_there part None = refl
each_there part (Some d) = each_is part (Some d)

clean_shaped_entry : IsCleanBy shaped_entry (λ k. is_some (entry_of k))
unfolding entry_of
clean_shaped_entry d k alike =
    let wrong : List Finding = faults_of entry_table d in
    let list : List Finding = fault_of d (rule name.Steps expected.Array) in
    let steps : List Finding = inside (in_items (λ number. shaped_step)) name.Steps d in
    let a : Option (List ℕ) = text_of (codes "address") k in
    let t : Option (List ℕ) = text_or [] (member_of (codes "deposed") k) in
    let o : Option Data = member_of (codes "steps") k in
    let there : Bool = is_met expected.Array o in
    let own : Bool = is_absent_or (all_items (λ e. is_some (step_from e))) o in
    let fit : Bool = is_some (o >>= as_array >>= λ ds. all_some (map step_from (list_of ds))) in
    let e1 : clean wrong ≡ (is_some a && is_some t) =
    two (rule name.Address expected.Text) (rule name.Deposed expected.TextOrAbsent) d
    ∙ ap (λ (b : Bool). b && is_met expected.TextOrAbsent (member_of (codes "deposed") d)) (text_there (codes "address") refl d k alike)
    ∙ ap (λ (b : Bool). is_some a && b) (text_or_there (codes "deposed") refl d k alike) in
    let e2 : clean list ≡ there =
    clean-fault_of d (rule name.Steps expected.Array) ∙ array_there (member_of (codes "steps") d) o (member_alike (codes "steps") refl d k alike) in
    let e3 : clean steps ≡ own = items_inside (λ number. shaped_step) (λ e. is_some (step_from e)) (λ number. clean_shaped_step) name.Steps refl d k alike in
    clean-where_suits expected.Entry d (wrong ++ list ++ steps ++ ignored entry_names d)
    ∙ ap (λ (x : Bool). is_some (as_object d) && x)
    (clean-then_unread (wrong ++ list ++ steps) entry_names d
    ∙ appended (wrong ++ list) steps _ _ (appended wrong list _ _ e1 e2) e3
    ∙ sym (and_assoc (is_some a && is_some t) there own)
    ∙ ap (λ (x : Bool). (is_some a && is_some t) && x) (each_there step_from o))
    ∙ ap (λ (x : Bool). x && ((is_some a && is_some t) && fit)) (object_alike d k alike)
    ∙ needs_object (codes "address") k ((is_some a && is_some t) && fit) (λ none. ap (λ (x : Option Data). (is_some (x >>= as_str) && is_some t) && fit) none)
    ∙ entry_reads a t o

-- if a run does not read an entry, a broken rule is reported in it
pub shape_reported : (changes : Option (List ResourceChange)) (first left : Option ℕ) (d k : Data) → Alike d k → entry_of k ≡ None
    → list_any is_shape (in_entry changes first left d) ≡ true
shape_reported changes first left d k alike none =
    same_entry changes first left d
    ∙ sym (not_not (list_any is_refusal (shaped_entry d)))
    ∙ ap not (clean_shaped_entry d k alike ∙ ap (λ (o : Option Entry). is_some o) none)
