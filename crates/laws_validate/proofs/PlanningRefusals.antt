-- If a command that makes its plan refuses `planning`, an error is reported where the refusal points.
use Rattle.std.proofs.Common.{◌≡◌, ◌⊎◌, inl, inr, ℕ, suc, ◌+◌, ◌≤◌, List, [], ◌∷◌, ◌++◌, length, map, Bool, true, false, not, ◌&&◌, ◌||◌, is_ok, is_some, Option, Some, None, Result, Ok, Err, if◌then◌else◌, refl, sym, ap, subst, ◌∙◌, length-append, arith}
use Rattle.std.specs.Prelude.{codes, fold, is_none, nat_le, nat_lt}
use Rattle.std.specs.List.{list_any}
use Rattle.std.specs.Option.{option_map, option_map_or, option_or}
use Rattle.std.proofs.lemmas.Bool.Decides.{nat_tests}
use Rattle.std.proofs.lemmas.List.{length-map, map-append}
use Rattle.serde_json.specs.Data.{Data, null, boolean, number, string, array, object, Items, no_items, item}
use Rattle.serde_json.specs.Find.{get}
use Rattle.apply_json.specs.ShallowView.{items_in as shown_items}
use Rattle.apply_json.specs.Tree.{items_or_empty, list_of, member_of, tree_of}
use Rattle.apply_json.specs.Verbatim.{mixed_tree_of}
use Rattle.apply_model.specs.declared.plan.mode.Mode.{Mode}
use Rattle.apply_model.specs.Plan.ResourceChange.{ResourceChange}
use Rattle.apply_model.specs.Plan.SavedPlan.{SavedPlan}
use Rattle.apply_model.specs.Script.OutcomeMap.{OutcomeMap}
use Rattle.apply_plan.specs.Bytes.{max_bytes}
use Rattle.apply_plan.specs.declared.script.planning_error.PlanningError.{PlanningError}
use Rattle.apply_plan.specs.declared.script.planning_error.PlanningError.TheVariants.{Malformed, Misfits, NoObject, Repeated, TooMany}
use Rattle.apply_plan.specs.declared.script.script_error.ScriptError.{ScriptError}
use Rattle.apply_plan.specs.declared.script.script_error.ScriptError.TheVariants.{BadShape, NotJson, Planning}
use Rattle.apply_plan.specs.Plan.SavedPlan.{plan_of}
use Rattle.apply_plan.specs.Results as results
use Rattle.apply_plan.specs.Script.Entry.{is_verbatim_name}
use Rattle.apply_plan.specs.Script.OutcomeMap.{script_of}
use Rattle.apply_prior.specs.declared.prior_object.PriorObject.{PriorObject}
use Rattle.apply_planning_script.specs.Items.{Item, item_of, object_of_item}
use Rattle.apply_planning_script.specs.Planning as run
use Rattle.apply_planning_script.specs.Planning.{ReadItems, and_element, checked, fault_of, first_fault, items_in, max_items, said_in, said_in_tree, said_of}
use Rattle.apply_planning_script.specs.Told.{told_by_script, told_of}
use Rattle.input_validate.specs.declared.findings.finding.Finding.{Finding}
use Rattle.input_validate.specs.declared.findings.name.Name.TheVariants as name
use Rattle.input_validate.specs.declared.findings.path.Segment.{Segment}
use Rattle.input_validate.specs.declared.findings.path.Segment.TheVariants.{Item as at_item, Member}
use Rattle.input_validate.specs.declared.findings.expected.Expected.TheVariants as expected
use Rattle.input_validate.specs.declared.findings.problem.Problem.TheVariants.{TooManyPlanned}
use Rattle.input_validate.specs.declared.form.Form.{Form}
use Rattle.input_validate.specs.declared.form.Form.TheVariants.{Applystream, Terraform, TerraformPlan, TerraformApply}
use Rattle.input_validate.specs.Expectations.{is_met}
use Rattle.input_validate.specs.Extras.{extras_findings, outputs_unless}
use Rattle.input_validate.specs.Findings.{finding_at, is_refusal, under}
use Rattle.input_validate.specs.InForm.{doubts_unless, extras_for, findings_before_doubts, findings_in, is_refused}
use Rattle.input_validate.specs.Names.{name_text}
use Rattle.input_validate.specs.ObjectNames.{Named}
use Rattle.input_validate.specs.PlanFindings.{first_named}
use Rattle.input_validate.specs.Planning.{in_planned_after, in_planning, objects_unless, planned_name, planning_findings, planning_violation}
use Rattle.input_validate.specs.Rules.{fault_of as fault_of_member, items_at, member_at, mismatch, rule, violation_findings}
use Rattle.input_validate.specs.Whole.{given_findings, plan_findings}
use Rattle.input_validate.proofs.PriorNames.{objects_in}
use Rattle.laws_validate.specs.Laws.{HasObjectsOf, Planner, goes_to_planned, has_refusal, has_refusal_to_planned, reads_planning}
use Rattle.laws_validate.proofs.Alike.{Alike, AlikeItems, both_trees, bytes_alike, member_alike}
use Rattle.laws_validate.proofs.AnyFinding.{any_left, any_right}
use Rattle.laws_validate.proofs.Clean.{clean, mismatch_refuses}
use Rattle.laws_validate.proofs.FormRefusals.{and_one, not_clean, same_number}
use Rattle.laws_validate.proofs.FormRuns.{known_objects, of_accepted_tree}
use Rattle.laws_validate.proofs.Members.{array_or, at_alike}
use Rattle.laws_validate.proofs.PlannedEntries.{clean_planned, fits}
use Rattle.laws_validate.proofs.PlanningRuns.{after_them, entry_same, faults_of_both, first_more, grows, names_grow, names_of, none_yet, not_full, read_more, read_with, stays}

-- one of the findings is an error where the refusal points
abbrev is_to : ScriptError → Finding → Bool
is_to refusal finding = is_refusal finding && goes_to_planned refusal finding.path

some_is : {A : Type 0} (x y : A) → Some x ≡ Some y → x ≡ y
some_is x y e = cc

err_is : {A E : Type 0} (x y : E) → (let r : Result A E = Err x in r) ≡ Err y → x ≡ y
err_is x y e = cc

no_fault : {A : Type 0} (x : A) → (let o : Option A = None in o) ≡ Some x → ⊥
no_fault x e = cc

-- the findings of an entry with this number
abbrev seen : ℕ → List Finding → List Finding
seen n xs = map (under (Member name.Planning)) (map (under (at_item n)) xs)

module _ (refusal : ScriptError) (n : ℕ) (goes : (path : List Segment) → goes_to_planned refusal (Member name.Planning ∷ at_item n ∷ path) ≡ true) where
  all_there : (xs : List Finding) → list_any (is_to refusal) (seen n xs) ≡ list_any is_refusal xs
  all_there [] = refl
  all_there (x ∷ xs) =
      ap (λ (b : Bool). b || list_any (is_to refusal) (seen n xs)) (and_one (is_refusal x) _ (goes x.path))
      ∙ ap (λ (b : Bool). is_refusal x || b) (all_there xs)

  reported_there : (xs : List Finding) → clean xs ≡ false → list_any (is_to refusal) (seen n xs) ≡ true
  reported_there xs e = all_there xs ∙ not_clean xs e

-- ---- where the fault of an item points

abbrev Points : PlanningError → ℕ → Type 0
Points fault n = (path : List Segment) → goes_to_planned (Planning fault) (Member name.Planning ∷ at_item n ∷ path) ≡ true

by_two : (n : ℕ) (misfit repeated : Bool) (fault : PlanningError) → (let o : Option PlanningError = if misfit then Some (Misfits n) else if repeated then Some (Repeated n) else None in o) ≡ Some fault
    → Points fault n
by_two n true repeated fault e path = ap (λ (x : PlanningError). goes_to_planned (Planning x) (Member name.Planning ∷ at_item n ∷ path)) (sym (some_is (Misfits n) fault e)) ∙ same_number n
by_two n false true fault e path = ap (λ (x : PlanningError). goes_to_planned (Planning x) (Member name.Planning ∷ at_item n ∷ path)) (sym (some_is (Repeated n) fault e)) ∙ same_number n
by_two n false false fault e path = absurd (no_fault fault e)

fault_points : (earlier : List Item) (it : Item) (mode : Option Mode) (fault : PlanningError) → run.fault_with earlier it mode ≡ Some fault → Points fault (length earlier)
fault_points earlier it None fault e path =
    ap (λ (x : PlanningError). goes_to_planned (Planning x) (Member name.Planning ∷ at_item (length earlier) ∷ path)) (sym (some_is (NoObject (length earlier)) fault e)) ∙ same_number (length earlier)
fault_points earlier it (Some mode) fault e path = by_two (length earlier) (run.misfits it mode) (run.is_repeated earlier it) fault e path

-- ---- the entries

-- the first fault of what was read
abbrev fault_in : List PriorObject → ReadItems → Option PlanningError
fault_in priors read = option_or (first_fault priors [] read.items) read.fault

module _ (priors : List PriorObject) where
  -- an error is reported where the fault points, or there are too many elements
  abbrev Reported : PlanningError → List Data → List Data → Type 0
  Reported fault before xs =
      (list_any (is_to (Planning fault)) (map (under (Member name.Planning)) (after_them priors before xs)) ≡ true)
      ⊎ ((fault ≡ TooMany) × (nat_lt max_items (length before + length xs) ≡ true))

  so_many : (before : List Data) (earlier : List Item) → map planned_name before ≡ names_of earlier → length before ≡ length earlier
  so_many before earlier names =
      sym (length-map before planned_name) ∙ ap length names ∙ length-map earlier (λ (it : Item). (let o : Option Named = Some (it.address, it.deposed) in o))

  in_front : (before : List Data) (d : Data) (rest : List Data) (fault : PlanningError) → Points fault (length before) → clean (in_planned_after (Some (objects_in priors)) before d) ≡ false
      → Reported fault before (d ∷ rest)
  in_front before d rest fault points e =
      let own : List Finding = in_planned_after (Some (objects_in priors)) before d in
      let others : List Finding = after_them priors (before ++ d ∷ []) rest in
      inl (ap (list_any (is_to (Planning fault))) (map-append (under (Member name.Planning)) (map (under (at_item (length before))) own) others)
      ∙ any_left (is_to (Planning fault)) (seen (length before) own) (map (under (Member name.Planning)) others) (reported_there (Planning fault) (length before) points own e))

  is_over : (n m : ℕ) → nat_le max_items n ≡ true → nat_lt max_items (n + suc m) ≡ true
  is_over n m e = grind (arith, nat_tests)

  behind : (before : List Data) (d : Data) (rest : List Data) (fault : PlanningError) → Reported fault (before ++ d ∷ []) rest → Reported fault before (d ∷ rest)
  behind before d rest fault (inl h) =
      let own : List Finding = in_planned_after (Some (objects_in priors)) before d in
      let others : List Finding = after_them priors (before ++ d ∷ []) rest in
      inl (ap (list_any (is_to (Planning fault))) (map-append (under (Member name.Planning)) (map (under (at_item (length before))) own) others)
      ∙ any_right (is_to (Planning fault)) (seen (length before) own) (map (under (Member name.Planning)) others) h)
  behind before d rest fault (inr h) =
      inr (h.0, ap (λ (n : ℕ). nat_lt max_items n) (let q : length before + suc (length rest) ≡ length (before ++ d ∷ []) + length rest = omega (arith, length-append before (d ∷ [])) in q) ∙ h.1)

  module _ (before : List Data) (earlier : List Item) (d k : Data) (rest ks : List Data) (alike : Alike d k) (names : map planned_name before ≡ names_of earlier) (none : first_fault priors [] earlier ≡ None) where
    abbrev first : Option ℕ
    first = first_named (map planned_name before) (planned_name d)

    points_here : (fault : PlanningError) → Points fault (length earlier) → Points fault (length before)
    points_here fault points = subst (Points fault) (sym (so_many before earlier names)) points

    -- the fault of the next item, if it has one
    by_fault : (it : Item) → item_of k ≡ Some it
        → (fault_of priors earlier it ≡ None → (fault : PlanningError) → fault_in priors (fold and_element (read_with (earlier ++ it ∷ []) None) ks) ≡ Some fault → Reported fault (before ++ d ∷ []) rest)
        → (o : Option PlanningError) → fault_of priors earlier it ≡ o → (fault : PlanningError) → fault_in priors (fold and_element (read_with (earlier ++ it ∷ []) None) ks) ≡ Some fault
        → Reported fault before (d ∷ rest)
    by_fault it is later None f fault e = behind before d rest fault (later f fault e)
    by_fault it is later (Some own) f fault e =
        let r : ReadItems = fold and_element (read_with (earlier ++ it ∷ []) None) ks in
        let more = grows (earlier ++ it ∷ []) ks in
        let whole : first_fault priors [] r.items ≡ Some own =
        ap (first_fault priors []) more.1 ∙ faults_of_both priors [] (earlier ++ it ∷ []) more.0
        ∙ ap (λ (o : Option PlanningError). option_or o (first_fault priors (earlier ++ it ∷ []) more.0)) (first_more priors earlier none it ∙ f) in
        let same : own ≡ fault = some_is own fault (sym (ap (λ (o : Option PlanningError). option_or o r.fault) whole) ∙ e) in
        let unclean : clean (in_planned_after (Some (objects_in priors)) before d) ≡ false =
        clean_planned (objects_in priors) first d k alike
        ∙ ap (λ (o : Option Item). option_map_or (λ one. fits (objects_in priors) one && not (is_some first)) o false) is
        ∙ entry_same priors before earlier d k it alike is names ∙ ap (λ (o : Option PlanningError). is_none o) f in
        in_front before d rest fault
        (subst (λ (x : PlanningError). Points x (length before)) same
        (points_here own (fault_points earlier it (run.mode_of_object (run.known_mode priors (object_of_item it)) it) own f))) unclean

    by_room : ((it : Item) → item_of k ≡ Some it → fault_of priors earlier it ≡ None → length earlier + 1 ≤ max_items → (fault : PlanningError)
        → fault_in priors (fold and_element (read_with (earlier ++ it ∷ []) None) ks) ≡ Some fault → Reported fault (before ++ d ∷ []) rest)
        → (full : Bool) (o : Option Item) → nat_le max_items (length earlier) ≡ full → item_of k ≡ o → (fault : PlanningError) → fault_in priors (fold and_element (read_more full earlier o) ks) ≡ Some fault
        → Reported fault before (d ∷ rest)
    by_room later true o room is fault e =
        let same : TooMany ≡ fault = some_is TooMany fault (sym (ap (fault_in priors) (stays earlier TooMany ks) ∙ ap (λ (o : Option PlanningError). option_or o (Some TooMany)) none) ∙ e) in
        let many : nat_le max_items (length before) ≡ true = ap (λ (n : ℕ). nat_le max_items n) (so_many before earlier names) ∙ room in
        inr (sym same, is_over (length before) (length rest) many)
    by_room later false None room is fault e =
        let own : PlanningError = Malformed (length earlier) in
        let same : own ≡ fault = some_is own fault (sym (ap (fault_in priors) (stays earlier own ks) ∙ ap (λ (o : Option PlanningError). option_or o (Some own)) none) ∙ e) in
        let unclean : clean (in_planned_after (Some (objects_in priors)) before d) ≡ false =
        clean_planned (objects_in priors) first d k alike ∙ ap (λ (o : Option Item). option_map_or (λ one. fits (objects_in priors) one && not (is_some first)) o false) is in
        in_front before d rest fault (subst (λ (x : PlanningError). Points x (length before)) same (points_here own (λ path. same_number (length earlier)))) unclean
    by_room later false (Some it) room is fault e =
        by_fault it is (λ f other g. later it is f (not_full (length earlier) room) other g) (fault_of priors earlier it) refl fault e

  entries_reported : (before : List Data) (earlier : List Item) (ds es : Items) → AlikeItems ds es → map planned_name before ≡ names_of earlier → first_fault priors [] earlier ≡ None → length earlier ≤ max_items
      → (fault : PlanningError) → fault_in priors (fold and_element (read_with earlier None) (list_of es)) ≡ Some fault → Reported fault before (list_of ds)
  unfolding and_element
  entries_reported before earlier no_items es a names none few fault e =
      absurd (no_fault fault (sym (ap (λ (o : Option PlanningError). option_or o None) none)
      ∙ sym (ap (λ (all : Items). fault_in priors (fold and_element (read_with earlier None) (list_of all))) a) ∙ e))
  entries_reported before earlier (item d ds) es a names none few fault e =
      by_room before earlier d a.0 (list_of ds) (list_of a.1) a.3 names none
      (λ it is f room other g.
      entries_reported (before ++ d ∷ []) (earlier ++ it ∷ []) ds a.1 a.4 (names_grow priors before earlier d a.0 it a.3 is names) (first_more priors earlier none it ∙ f)
      (let longer : length (earlier ++ it ∷ []) ≡ length earlier + 1 = length-append earlier (it ∷ []) in omega (arith, room, longer)) other g)
      (nat_le max_items (length earlier)) (item_of a.0) refl refl fault
      (sym (ap (λ (all : Items). fault_in priors (fold and_element (read_with earlier None) (list_of all))) a.2) ∙ e)

-- ---- the tree

checked_err : (priors : List PriorObject) (read : ReadItems) (o : Option PlanningError) (refusal : ScriptError) → results.unless_refused (option_map Planning o) read.items ≡ Err refusal
    → (fault : PlanningError) × (refusal ≡ Planning fault) × (o ≡ Some fault)
checked_err priors read None refusal e = absurd cc
checked_err priors read (Some fault) refusal e = (fault, sym (err_is (Planning fault) refusal e), refl)

-- the items of the value of `planning`
abbrev items_at_value : Option Data → List Data
items_at_value o = option_map_or (λ value. list_of (shown_items value)) o []

-- what a run reads of the value of `planning`
abbrev taken : List PriorObject → Option Data → Result (List Item) ScriptError
taken priors o = results.◌>>=◌ (results.◌>>=◌ (results.or_refuse (BadShape None) (items_or_empty o)) (λ elements. Ok (items_in (list_of elements)))) (checked priors)

abbrev Cause : List PriorObject → Option Data → ScriptError → Type 0
Cause priors o refusal =
    ((refusal ≡ BadShape None) × (is_met expected.ArrayOrAbsent o ≡ false))
    ⊎ ((fault : PlanningError) × (refusal ≡ Planning fault) × (fault_in priors (items_in (items_at_value o)) ≡ Some fault))

cause : (priors : List PriorObject) (o : Option Data) (refusal : ScriptError) → taken priors o ≡ Err refusal → Cause priors o refusal
cause priors None refusal e = inr (checked_err priors (items_in []) (fault_in priors (items_in [])) refusal e)
cause priors (Some null) refusal e = inl (sym (err_is (BadShape None) refusal e), refl)
cause priors (Some (boolean b)) refusal e = inl (sym (err_is (BadShape None) refusal e), refl)
cause priors (Some (number n)) refusal e = inl (sym (err_is (BadShape None) refusal e), refl)
cause priors (Some (string s)) refusal e = inl (sym (err_is (BadShape None) refusal e), refl)
cause priors (Some (object ms)) refusal e = inl (sym (err_is (BadShape None) refusal e), refl)
cause priors (Some (array ds)) refusal e = inr (checked_err priors (items_in (list_of ds)) (fault_in priors (items_in (list_of ds))) refusal e)

unmet_reported : (b : Bool) (x : Finding) (p : Finding → Bool) → b ≡ false → p x ≡ true → list_any p (if b then [] else x ∷ []) ≡ true
unmet_reported true x p e h = absurd cc
unmet_reported false x p e h = ap (λ (b : Bool). b || false) h

holding_reported : (b : Bool) (x : Finding) (p : Finding → Bool) → b ≡ true → p x ≡ true → list_any p ((if b then x ∷ [] else []) ++ []) ≡ true
holding_reported true x p e h = ap (λ (b : Bool). b || false) h
holding_reported false x p e h = absurd cc

module _ (priors : List PriorObject) (d k : Data) (alike : Alike d k) where
  abbrev own : List Finding
  own = fault_of_member d (rule name.Planning expected.ArrayOrAbsent)

  abbrev many : List Finding
  many = violation_findings (planning_violation d ∷ [])

  abbrev entries : List Finding
  entries = map (under (Member name.Planning)) (after_them priors [] (items_at name.Planning d))

  by_cause : (refusal : ScriptError) → Cause priors (member_of (codes "planning") k) refusal → list_any (is_to refusal) (own ++ many ++ entries) ≡ true
  by_cause refusal (inl h) =
      let x : Finding = finding_at (Member name.Planning) (mismatch expected.ArrayOrAbsent (get (name_text name.Planning) d)) in
      let goes : is_to (BadShape None) x ≡ true = and_one (is_refusal x) true refl ∙ mismatch_refuses expected.ArrayOrAbsent (get (name_text name.Planning) d) in
      let unmet : is_met expected.ArrayOrAbsent (member_at name.Planning d) ≡ false =
      array_or (member_at name.Planning d) (member_of (codes "planning") k) (member_alike (codes "planning") refl d k alike) ∙ h.1 in
      any_left (is_to refusal) (own ++ many) entries
      (any_left (is_to refusal) own many
      (unmet_reported (is_met expected.ArrayOrAbsent (member_at name.Planning d)) x (is_to refusal) unmet (ap (λ (r : ScriptError). is_to r x) h.0 ∙ goes)))
  by_cause refusal (inr h) =
      by_report (at_alike (λ ds ks. (fault : PlanningError) → fault_in priors (items_in ks) ≡ Some fault → Reported priors fault [] ds)
      (λ fault e. absurd (no_fault fault (sym (ap (λ (o : Option PlanningError). option_or o None) (none_yet priors)) ∙ e)))
      (λ ds es a fault e. entries_reported priors [] [] ds es a refl (none_yet priors) (omega arith) fault e) name.Planning refl d k alike h.0 h.2)
    where
      by_report : Reported priors h.0 [] (items_at name.Planning d) → list_any (is_to refusal) (own ++ many ++ entries) ≡ true
      by_report (inl there) = any_right (is_to refusal) (own ++ many) entries (ap (λ (r : ScriptError). list_any (is_to r) entries) h.1 ∙ there)
      by_report (inr over) =
          any_left (is_to refusal) (own ++ many) entries
          (any_right (is_to refusal) own many
          (holding_reported (nat_lt max_items (length (items_at name.Planning d))) (finding_at (Member name.Planning) TooManyPlanned) (is_to refusal)
          (ap (λ (n : ℕ). nat_lt max_items n) (let q : length (items_at name.Planning d) ≡ 0 + length (items_at name.Planning d) = omega arith in q) ∙ over.1)
          (ap (λ (r : ScriptError). is_to r (finding_at (Member name.Planning) TooManyPlanned)) (h.1 ∙ ap Planning over.0))))

  in_tree : (refusal : ScriptError) → results.◌>>=◌ (said_in_tree k) (checked priors) ≡ Err refusal → list_any (is_to refusal) (in_planning (Some (objects_in priors)) d) ≡ true
  unfolding in_planning
  in_tree refusal e = by_cause refusal (cause priors (member_of (codes "planning") k) refusal e)

-- ---- the bytes

by_trees : (priors : List PriorObject) (o p : Option Data) (refusal : ScriptError) → is_some o ≡ is_some p → ((d k : Data) → o ≡ Some d → p ≡ Some k → Alike d k) → is_some o ≡ true
    → results.◌>>=◌ (results.◌>>=◌ (results.or_refuse NotJson p) said_in_tree) (checked priors) ≡ Err refusal
    → has_refusal_to_planned refusal (option_map_or (in_planning (Some (objects_in priors))) o []) ≡ true
by_trees priors None p refusal same alike there e = absurd cc
by_trees priors (Some d) None refusal same alike there e = absurd cc
by_trees priors (Some d) (Some k) refusal same alike there e = in_tree priors d k (alike d k refl refl) refusal e

sized : (large : Bool) (r : Result (List Item) ScriptError) (x : Result ReadItems ScriptError) (priors : List PriorObject) (p : Result ReadItems ScriptError) → large ≡ false
    → results.◌>>=◌ (if large then x else p) (checked priors) ≡ r → results.◌>>=◌ p (checked priors) ≡ r
sized true r x priors p small e = absurd cc
sized false r x priors p small e = e

in_bytes : (priors : List PriorObject) (bytes : List ℕ) (refusal : ScriptError) → nat_lt max_bytes (length bytes) ≡ false → is_some (tree_of bytes) ≡ true
    → said_of priors (Some bytes) ≡ Err refusal → has_refusal_to_planned refusal (planning_findings (Some (objects_in priors)) bytes) ≡ true
in_bytes priors bytes refusal small there e =
    ap (λ (large : Bool). has_refusal_to_planned refusal (if large then [] else option_map_or (in_planning (Some (objects_in priors))) (tree_of bytes) [])) small
    ∙ by_trees priors (tree_of bytes) (mixed_tree_of is_verbatim_name bytes) refusal (both_trees bytes) (bytes_alike bytes) there
    (sized (nat_lt max_bytes (length bytes)) (Err refusal) _ priors _ small e)

told_err : {A B : Type 0} (r : Result A ScriptError) (f : A → B) (refusal : ScriptError) → results.◌>>=◌ r (λ x. Ok (f x)) ≡ Err refusal → r ≡ Err refusal
told_err (Ok x) f refusal e = absurd cc
told_err (Err x) f refusal e = ap (λ (y : ScriptError). Err y) (err_is x refusal e)

-- what is found in `planning` is among all findings
in_extras_for : (p : Finding → Bool) (form : Form) → reads_planning form ≡ true → (refused : Bool) (plan bytes : List ℕ) → list_any p (planning_findings (objects_unless refused plan) bytes) ≡ true
    → list_any p (extras_for form refused plan (Some bytes)) ≡ true
in_extras_for p Applystream e refused plan bytes h = absurd cc
in_extras_for p Terraform e refused plan bytes h = absurd cc
in_extras_for p TerraformPlan e refused plan bytes h = any_right p (extras_findings (outputs_unless refused plan) bytes) (planning_findings (objects_unless refused plan) bytes) h
in_extras_for p TerraformApply e refused plan bytes h = any_right p (extras_findings (outputs_unless refused plan) bytes) (planning_findings (objects_unless refused plan) bytes) h

pub refusal_of_planning : (form : Form) (planner : Planner) (lanes : Bool) (plan bytes : List ℕ) (saved : SavedPlan) (script : OutcomeMap) (refusal : ScriptError) → reads_planning form ≡ true
    → HasObjectsOf plan planner → plan_of plan ≡ Ok saved → script_of saved bytes ≡ Ok script → told_by_script planner.rules planner.planned planner.objects (Some bytes) ≡ Err refusal
    → has_refusal_to_planned refusal (findings_in form lanes plan (Some bytes)) ≡ true
refusal_of_planning form planner lanes plan bytes saved script refusal reads has planned accepted e =
    let refused : Bool = has_refusal (plan_findings plan) in
    let of = of_accepted_tree saved bytes (ap (λ (r : Result OutcomeMap ScriptError). is_ok r) accepted) in
    any_left (is_to refusal) (findings_before_doubts form lanes plan (Some bytes)) (doubts_unless (is_refused form lanes plan (Some bytes)) form lanes plan (Some bytes))
    (any_right (is_to refusal) (given_findings lanes (plan_of plan) (Some bytes)) (extras_for form refused plan (Some bytes))
    (in_extras_for (is_to refusal) form reads refused plan bytes
    (ap (λ (o : Option (List ResourceChange)). has_refusal_to_planned refusal (planning_findings o bytes)) (known_objects plan saved planner has planned)
    ∙ in_bytes planner.objects bytes refusal of.small (ap (λ (o : Option Data). is_some o) of.tree_is)
    (told_err (said_of planner.objects (Some bytes)) (told_of planner.rules planner.planned planner.objects) refusal e))))
