-- What the same bytes state for a command gives the same stream: two values that bytes state differ
-- only in how the code holds lists of texts.
use Rattle.std.proofs.Common.{◌≡◌, ℕ, zero, suc, ◌+◌, ◌&&◌, ◌||◌, Bool, true, false, List, [], ◌∷◌, ◌++◌, Option, Some, None, cond, map, not, refl, sym, ap, ap₂, ◌∙◌, slice_get}
use Rattle.std.specs.Prelude.{Ok, Result, flat_map, is_some, option_map}
use Rattle.std.specs.List.{enumerate_from, filter_map, find, list_any}
use Rattle.std.specs.Option.{option_and_then, option_map_or, option_or}
use Rattle.std.specs.Str.{bytes_eq}
use Rattle.apply_model.specs.declared.details.note.Note.{Note}
use Rattle.apply_model.specs.declared.script.script_step.ScriptStep.{ScriptStep}
use Rattle.apply_model.specs.declared.script.script_step.ScriptStep.TheVariants.{Answered}
use Rattle.apply_model.specs.declared.script.wait.Wait.{Wait}
use Rattle.apply_model.specs.Plan.ResourceChange.{ResourceChange}
use Rattle.apply_events.specs.declared.event.Event.{Event}
use Rattle.apply_events.specs.Step.{Work}
use Rattle.apply_planning.specs.declared.told.Told.{Told}
use Rattle.apply_planning.specs.Names.{name_wait}
use Rattle.apply_planning.specs.PlanningWork.{change_of, ending_of, is_needed, planning_work, stated_of, waits_from}
use Rattle.apply_planning_failures.specs.Planning.{Planning, failure_of, is_lost, is_never_done, is_note, planning_notes}
use Rattle.apply_planning_failures.specs.PlansPart.{kept}
use Rattle.apply_planning_script.specs.Told.{ToldObject, told_view}
use Rattle.apply_resolve.specs.ObjectName.{name_one_object}
use Rattle.apply_model.specs.declared.plan.mode.Mode.{Mode}
use Rattle.apply_model.specs.declared.plan.mode.Mode.TheVariants.{DataSource, Managed}
use Rattle.apply_events.specs.declared.what.What.{What}
use Rattle.apply_events.specs.declared.what.What.TheVariants.{Start}
use Rattle.apply_plan.specs.Results.{◌>>=◌, unless_refused}
use Rattle.apply_plan.specs.declared.script.planning_error.PlanningError.{PlanningError}
use Rattle.apply_plan.specs.declared.script.script_error.ScriptError.{ScriptError}
use Rattle.apply_plan.specs.declared.script.script_error.ScriptError.TheVariants as script_error
use Rattle.apply_plan_terraform.specs.ReadDetails.{DetailsOfPlan}
use Rattle.apply_prior.specs.declared.prior_object.PriorObject.{PriorObject}
use Rattle.apply_prior.specs.Objects.{ObjectOfPlan}
use Rattle.apply_prior.specs.Prior.{PriorOfPlan, object_view, prior_view}
use Rattle.apply_planning_script.specs.declared.rules.PlanningRules.{PlanningRules}
use Rattle.apply_planning_script.specs.Items.{Item, object_of_item}
use Rattle.apply_planning_script.specs.Objects.{ObjectName, is_same_name, number_in, object_of}
use Rattle.apply_planning_script.specs.Planning.{ReadItems, fault_with, first_fault, known_mode, mode_of_object, object_of_prior, said_in_option, said_of}
use Rattle.apply_planning_script.specs.Rules.{PlannedObjects}
use Rattle.apply_planning_script.specs.Told as script
use Rattle.apply_planning_script.specs.Told.{told_by_script, told_known, told_of, told_unless}
use Rattle.apply_text.specs.declared.operation.Operation.TheVariants.{Apply}
use Rattle.apply_run.specs.Bytes.{Inputs, given_script}
use Rattle.apply_run.specs.Read.{IsStated, given_extras}
use Rattle.apply_command.specs.Reading.{AreStated, planned_reading, rules_of, told_for}
use Rattle.std.proofs.lemmas.Option.{slice_get-map}
use Rattle.apply_hooks.specs.declared.rule.Rule.{Rule}
use Rattle.apply_model.specs.Plan.SavedPlan.{SavedPlan}
use Rattle.apply_model.specs.Script.OutcomeMap.{OutcomeMap}
use Rattle.apply_events.specs.Waits.Merging.{time_line}
use Rattle.apply_plan_terraform.specs.Outputs.{written_outputs}
use Rattle.apply_planning.specs.Schedule.{last_second}
use Rattle.apply_planning_failures.specs.PlansPart.{details_at}
use Rattle.apply_prior.specs.declared.drift.Drift.{Drift}
use Rattle.apply_prior.specs.declared.planned_output.PlannedOutput.{PlannedOutput}
use Rattle.apply_text.specs.declared.operation.Operation.{Operation}
use Rattle.apply_text_planning.specs.Notes.{forgotten_in, forgotten_note_of}
use Rattle.apply_text_planning.specs.Totals.{planned_totals}
use Rattle.apply_text_terraform.specs.declared.command.Command.{Command}
use Rattle.apply_command.specs.declared.head_line.HeadLine.{HeadLine}
use Rattle.apply_command.specs.declared.head_line.HeadLine.TheVariants as line
use Rattle.apply_command.specs.Form.{command_form}
use Rattle.apply_command.specs.Head.{HeadInputs, head_lines, is_none, line_text, plan_lines, told_text}
use Rattle.apply_command.specs.Notes.{applies, command_notes, has_failed, tells_plan}
use Rattle.apply_command.specs.Reading.{CommandInputs, failed, form, kept_changes, kept_drifts, planning}
use Rattle.apply_run.specs.Read.{StatedInputs}
use Rattle.apply_writer.specs.Stream.Form.{StreamForm, stream_in}

-- ---- lists that look the same

module _ {X V : Type 0} (view : X → V) where
  maps_alike : {Y : Type 0} (f g : X → Y) → ((x y : X) → view x ≡ view y → f x ≡ g y) → (xs ys : List X) → map view xs ≡ map view ys → map f xs ≡ map g ys
  maps_alike f g same [] [] is = refl
  maps_alike f g same [] (y ∷ ys) is = absurd cc
  maps_alike f g same (x ∷ xs) [] is = absurd cc
  maps_alike f g same (x ∷ xs) (y ∷ ys) is =
      let first : view x ≡ view y = cc in
      let rest : map view xs ≡ map view ys = cc in
      ap₂ (λ a l. a ∷ l) (same x y first) (maps_alike f g same xs ys rest)

  found_alike : {Y : Type 0} (f g : X → Y) (none : Y) → ((x y : X) → view x ≡ view y → f x ≡ g y) → (xs ys : List X) → map view xs ≡ map view ys → (k : ℕ)
      → option_map_or f (slice_get xs k) none ≡ option_map_or g (slice_get ys k) none
  found_alike f g none same [] [] is k = refl
  found_alike f g none same [] (y ∷ ys) is k = absurd cc
  found_alike f g none same (x ∷ xs) [] is k = absurd cc
  found_alike f g none same (x ∷ xs) (y ∷ ys) is zero =
      let first : view x ≡ view y = cc in same x y first
  found_alike f g none same (x ∷ xs) (y ∷ ys) is (suc k) =
      let rest : map view xs ≡ map view ys = cc in found_alike f g none same xs ys rest k

  flats_alike : {Y : Type 0} (f g : X → List Y) → ((x y : X) → view x ≡ view y → f x ≡ g y) → (xs ys : List X) → map view xs ≡ map view ys → flat_map f xs ≡ flat_map g ys
  flats_alike f g same [] [] is = refl
  flats_alike f g same [] (y ∷ ys) is = absurd cc
  flats_alike f g same (x ∷ xs) [] is = absurd cc
  flats_alike f g same (x ∷ xs) (y ∷ ys) is =
      let first : view x ≡ view y = cc in
      let rest : map view xs ≡ map view ys = cc in
      ap₂ (λ a l. a ++ l) (same x y first) (flats_alike f g same xs ys rest)

  any_alike : (f g : ℕ × X → Bool) → ((n : ℕ) (x y : X) → view x ≡ view y → f (n, x) ≡ g (n, y)) → (n : ℕ) (xs ys : List X) → map view xs ≡ map view ys
      → list_any f (enumerate_from n xs) ≡ list_any g (enumerate_from n ys)
  any_alike f g same n [] [] is = refl
  any_alike f g same n [] (y ∷ ys) is = absurd cc
  any_alike f g same n (x ∷ xs) [] is = absurd cc
  any_alike f g same n (x ∷ xs) (y ∷ ys) is =
      let first : view x ≡ view y = cc in
      let rest : map view xs ≡ map view ys = cc in
      ap₂ (λ (a b : Bool). a || b) (same n x y first) (any_alike f g same (n + 1) xs ys rest)

-- ---- told objects that look the same

-- the second object, with the list of the first
abbrev with_list : Told → ToldObject → Told
with_list told shown = record {
  object = shown.object;
  name = shown.name;
  depends_on = told.depends_on;
  id_before = shown.id_before;
  id_after = shown.id_after;
  seconds = shown.seconds;
  failure = shown.failure;
}

-- a function that does not look at that list
by_view : {Y : Type 0} (f : Told → Y) → ((one other : Told) → f (with_list one (told_view other)) ≡ f other) → (one other : Told) → told_view one ≡ told_view other → f one ≡ f other
by_view f ignores one other same = ap (λ (shown : ToldObject). f (with_list one shown)) same ∙ ignores one other

needed_alike : (one other needed others : Told) → told_view one ≡ told_view other → told_view needed ≡ told_view others → is_needed one needed ≡ is_needed other others
needed_alike one other needed others same same_needed =
    ap₂ (λ (a b : ToldObject). list_any (λ name. bytes_eq name b.name) a.depends_on && not (bytes_eq a.name b.name)) same same_needed

waits_alike : (k : ℕ) (xs ys : List Told) → map told_view xs ≡ map told_view ys → (one other : Told) → told_view one ≡ told_view other → waits_from k xs one ≡ waits_from k ys other
waits_alike k [] [] is one other same = refl
waits_alike k [] (y ∷ ys) is one other same = absurd cc
waits_alike k (x ∷ xs) [] is one other same = absurd cc
waits_alike k (x ∷ xs) (y ∷ ys) is one other same =
    let first : told_view x ≡ told_view y = cc in
    let rest : map told_view xs ≡ map told_view ys = cc in
    ap₂ (λ (n : Bool) (l : List Wait). cond n (name_wait k ∷ l) l) (needed_alike one other x y same first) (waits_alike (k + 1) xs ys rest one other same)

module _ (a b : List Told) (same : map told_view a ≡ map told_view b) where
  stated_alike : (one other : Told) → told_view one ≡ told_view other → stated_of a one ≡ stated_of b other
  stated_alike one other is =
      ap₂ (λ (shown : ToldObject) (waits : List Wait). let steps : List ScriptStep = Answered (record { seconds = shown.seconds; provisioners = []; result = ending_of shown.failure; after = waits }) ∷ [] in Some steps)
      is (waits_alike 0 a b same one other is)

  work_alike : planning_work a ≡ planning_work b
  work_alike =
      ap₂ (λ (changes : List ResourceChange) (script : List (Option (List ScriptStep))). let work : Work = record { plan = record { version = []; changes = changes }; script = script; hooks = [] } in work)
      (maps_alike told_view change_of change_of (by_view change_of (λ one other. refl)) a b same)
      (maps_alike told_view (stated_of a) (stated_of b) stated_alike a b same)

  module _ (events : List Event) where
    abbrev of_a : Planning
    of_a = record { told = a; events = events }

    abbrev of_b : Planning
    of_b = record { told = b; events = events }

    notes_alike : planning_notes of_a ≡ planning_notes of_b
    notes_alike =
        let failures : (e : Event) → failure_of (slice_get a e.change) ≡ failure_of (slice_get b e.change) =
        λ e. found_alike told_view (λ (t : Told). option_map_or (λ note. note ∷ []) t.failure []) (λ (t : Told). option_map_or (λ note. note ∷ []) t.failure []) []
        (by_view (λ (t : Told). option_map_or (λ (note : Note). note ∷ []) t.failure []) (λ one other. refl)) a b same e.change in
        λ i. flat_map (λ (e : Event). cond (is_note e.what) (failures e i) []) events

    lost_alike : (address : List ℕ) (deposed : Option (List ℕ)) → is_lost of_a address deposed ≡ is_lost of_b address deposed
    lost_alike address deposed =
        any_alike told_view (λ p. is_never_done of_a p && name_one_object p.1.object.address p.1.object.deposed address deposed)
        (λ p. is_never_done of_b p && name_one_object p.1.object.address p.1.object.deposed address deposed)
        (λ n. by_view (λ (t : Told). is_never_done of_a (n, t) && name_one_object t.object.address t.object.deposed address deposed) (λ one other. refl)) 0 a b same

    kept_alike : (failed : Bool) (changes : List ResourceChange) → kept failed of_a changes ≡ kept failed of_b changes
    kept_alike failed changes =
        λ i. filter_map (λ (p : ℕ × ResourceChange). cond (cond (failed && lost_alike p.1.address p.1.deposed i) false true) (Some p.0) None) (enumerate_from 0 changes)

-- ---- the stream of told objects that look the same

text_ignores : (mode : Mode) (seconds : ℕ) (one other : Told) (what : What) → told_text mode seconds (with_list one (told_view other)) what ≡ told_text mode seconds other what
text_ignores Managed seconds one other Start = refl
text_ignores Managed seconds one other _ = refl
text_ignores DataSource seconds one other Start = refl
text_ignores DataSource seconds one other _ = refl

module _ (command : Command) (lanes : ℕ) (stated : StatedInputs) (drifts : List Drift) (outputs : List PlannedOutput) (start : ℕ) (operation : Operation) where
  abbrev with_told : List Told → CommandInputs
  with_told told = record { stated = stated; drifts = drifts; outputs = outputs; told = told }

  -- the inputs of the lines before an apply, of these parts
  abbrev inputs_of : (told : List Told) → (events : List Event) → (changes : List ℕ) → HeadInputs
  inputs_of told events changes = record {
    plan = stated.plan;
    details = stated.details.changes;
    drifts = drifts;
    outputs = outputs;
    told = told;
    totals = planned_totals (filter_map (details_at stated.plan.changes stated.details.changes) changes);
    start = start;
    took = last_second events;
  }

  abbrev lines_of : (events : List Event) → (said : List Note) → (changes drifts : List ℕ) → List HeadLine
  lines_of events said changes others = head_lines events
      (plan_lines (tells_plan command (has_failed stated.details.note said) said (is_none stated.plan.changes && is_none outputs)) others changes outputs)

  abbrev work_of : (hooks : List (List Rule)) → (said : List Note) → Work
  work_of hooks said =
      let applied = applies command (has_failed stated.details.note said) in
      let none : SavedPlan = record { version = stated.plan.version; changes = [] } in
      let none_of_script : OutcomeMap = [] in record {
        plan = cond applied stated.plan none;
        script = cond applied stated.script none_of_script;
        hooks = hooks;
      }

  abbrev form_of : (told : List Told) → (events : List Event) → (said : List Note) → (changes drifts : List ℕ) → StreamForm
  form_of told events said changes others =
      let applied = applies command (has_failed stated.details.note said) in
      let work = work_of [] said in
      command_form (inputs_of told events changes) (lines_of events said changes others) applied work.plan work.script
      (record {
        details = stated.details.changes;
        notes = command_notes applied stated.details.note (forgotten_note_of (forgotten_in stated.plan.changes stated.details.changes)) said stated.extras.notes;
        outputs = written_outputs stated.details.outputs stated.extras.outputs;
      }) operation

  module _ (a b : List Told) (same : map told_view a ≡ map told_view b) where
    lines_alike : (events : List Event) (changes : List ℕ) (one : HeadLine) → line_text (inputs_of a events changes) one ≡ line_text (inputs_of b events changes) one
    lines_alike events changes line.Version = refl
    lines_alike events changes (line.Planning event) =
        found_alike told_view (λ (t : Told). told_text t.object.mode (start + event.at) t event.what) (λ (t : Told). told_text t.object.mode (start + event.at) t event.what) []
        (by_view (λ (t : Told). told_text t.object.mode (start + event.at) t event.what) (λ one other. text_ignores other.object.mode (start + event.at) one other event.what)) a b same event.change
    lines_alike events changes (line.Drift number) = refl
    lines_alike events changes (line.Planned number) = refl
    lines_alike events changes line.Summary = refl
    lines_alike events changes line.Outputs = refl

    events_alike : time_line (planning_work a) lanes ≡ time_line (planning_work b) lanes
    events_alike = ap (λ (work : Work). time_line work lanes) (work_alike a b same)

    said_alike : planning_notes (planning command lanes (with_told a)) ≡ planning_notes (planning command lanes (with_told b))
    said_alike =
        notes_alike a b same (time_line (planning_work a) lanes)
        ∙ ap (λ (events : List Event). planning_notes (record { told = b; events = events })) events_alike

    changes_alike : (changes : List ResourceChange)
        → kept (failed command lanes (with_told a)) (planning command lanes (with_told a)) changes ≡ kept (failed command lanes (with_told b)) (planning command lanes (with_told b)) changes
    changes_alike changes =
        ap (λ (said : List Note). kept (has_failed stated.details.note said) (planning command lanes (with_told a)) changes) said_alike
        ∙ kept_alike a b same (time_line (planning_work a) lanes) (failed command lanes (with_told b)) changes
        ∙ ap (λ (events : List Event). kept (failed command lanes (with_told b)) (record { told = b; events = events }) changes) events_alike

    same_work : (hooks : List (List Rule)) → work_of hooks (planning_notes (planning command lanes (with_told a))) ≡ work_of hooks (planning_notes (planning command lanes (with_told b)))
    same_work hooks = ap (work_of hooks) said_alike

    streams_alike : (taken : List Event) → stream_in (form command lanes (with_told a) start operation) taken ≡ stream_in (form command lanes (with_told b) start operation) taken
    streams_alike taken =
        let events = time_line (planning_work a) lanes in
        let others = time_line (planning_work b) lanes in
        let said = planning_notes (planning command lanes (with_told a)) in
        let said_of_b = planning_notes (planning command lanes (with_told b)) in
        let changes = kept_changes command lanes (with_told a) in
        let changes_of_b = kept_changes command lanes (with_told b) in
        let drifted = kept_drifts command lanes (with_told a) in
        let of_form = form_of a events said changes drifted in
        let texts : stream_in of_form taken ≡ stream_in (form_of b events said changes drifted) taken =
        λ i. stream_in (record { plan = of_form.plan; head = flat_map (λ (one : HeadLine). lines_alike events changes one i) (lines_of events said changes drifted); line = of_form.line; tail = of_form.tail }) taken in
        texts
        ∙ ap (λ (es : List Event). stream_in (form_of b es said changes drifted) taken) events_alike
        ∙ ap (λ (notes : List Note). stream_in (form_of b others notes changes drifted) taken) said_alike
        ∙ ap (λ (kept : List ℕ). stream_in (form_of b others said_of_b kept drifted) taken) (changes_alike stated.plan.changes)
        ∙ ap (λ (kept : List ℕ). stream_in (form_of b others said_of_b changes_of_b kept) taken) (changes_alike (map (λ drift. drift.change) drifts))

-- ---- prior objects that look the same

module _ (objects others : List PriorObject) (same : map object_view objects ≡ map object_view others) where
  abbrev number : {X : Type 0} → Option (ℕ × X) → Option ℕ
  number found = option_map (λ p. p.0) found

  first_alike : (n : ℕ) (x y : PriorObject) (t u : Bool) → t ≡ u → (xs ys : Option (ℕ × PriorObject)) → number xs ≡ number ys → number (cond t (Some (n, x)) xs) ≡ number (cond u (Some (n, y)) ys)
  first_alike n x y true true is xs ys rest = refl
  first_alike n x y true false is xs ys rest = absurd cc
  first_alike n x y false true is xs ys rest = absurd cc
  first_alike n x y false false is xs ys rest = rest

  numbers_alike : (name : ObjectName) (n : ℕ) (xs ys : List PriorObject) → map object_view xs ≡ map object_view ys
      → number (find (λ p. is_same_name (object_of_prior p.1) name) (enumerate_from n xs)) ≡ number (find (λ p. is_same_name (object_of_prior p.1) name) (enumerate_from n ys))
  numbers_alike name n [] [] is = refl
  numbers_alike name n [] (y ∷ ys) is = absurd cc
  numbers_alike name n (x ∷ xs) [] is = absurd cc
  numbers_alike name n (x ∷ xs) (y ∷ ys) is =
      let first : object_view x ≡ object_view y = cc in
      let rest : map object_view xs ≡ map object_view ys = cc in
      first_alike n x y (is_same_name (object_of_prior x) name) (is_same_name (object_of_prior y) name)
      (ap (λ (shown : ObjectOfPlan). is_same_name (object_of shown.object) name) first)
      (find (λ p. is_same_name (object_of_prior p.1) name) (enumerate_from (n + 1) xs)) (find (λ p. is_same_name (object_of_prior p.1) name) (enumerate_from (n + 1) ys))
      (numbers_alike name (n + 1) xs ys rest)

  number_alike : (name : ObjectName) → number_in object_of_prior objects name ≡ number_in object_of_prior others name
  number_alike name = numbers_alike name 0 objects others same

  mode_at_alike : (k : Option ℕ) → option_map (λ (prior : PriorObject). prior.object.mode) (option_and_then (slice_get objects) k) ≡ option_map (λ (prior : PriorObject). prior.object.mode) (option_and_then (slice_get others) k)
  mode_at_alike None = refl
  mode_at_alike (Some k) =
      sym (slice_get-map (λ (prior : PriorObject). prior.object.mode) objects k)
      ∙ ap (λ (modes : List Mode). slice_get modes k)
      (maps_alike object_view (λ (prior : PriorObject). prior.object.mode) (λ (prior : PriorObject). prior.object.mode) (λ x y is. ap (λ (shown : ObjectOfPlan). shown.object.mode) is) objects others same)
      ∙ slice_get-map (λ (prior : PriorObject). prior.object.mode) others k

  mode_alike : (name : ObjectName) → known_mode objects name ≡ known_mode others name
  mode_alike name =
      mode_at_alike (number_in object_of_prior objects name)
      ∙ ap (λ (k : Option ℕ). option_map (λ (prior : PriorObject). prior.object.mode) (option_and_then (slice_get others) k)) (number_alike name)

  faults_alike : (earlier items : List Item) → first_fault objects earlier items ≡ first_fault others earlier items
  unfolding first_fault
  faults_alike earlier [] = refl
  faults_alike earlier (item ∷ items) =
      ap₂ (λ (fault rest : Option PlanningError). option_or fault rest)
      (ap (λ (known : Option Mode). fault_with earlier item (mode_of_object known item)) (mode_alike (object_of_item item)))
      (faults_alike (earlier ++ item ∷ []) items)

  items_alike : (script : Option (List ℕ)) → said_of objects script ≡ said_of others script
  items_alike script =
      ap (λ (check : ReadItems → Result (List Item) ScriptError). said_in_option script >>= check)
      (λ i. λ read. unless_refused (option_map script_error.Planning (option_or (faults_alike [] read.items i) read.fault)) read.items)

  told_objects_alike : (rules : PlanningRules) (plan : PlannedObjects) (items : List Item) → told_of rules plan objects items ≡ told_of rules plan others items
  told_objects_alike rules plan items =
      ap₂ (λ (known unknown : List ToldObject). known ++ unknown)
      (flats_alike object_view (λ prior. told_known rules plan items (script.object_view prior)) (λ prior. told_known rules plan items (script.object_view prior))
      (λ x y is. ap (λ (shown : ObjectOfPlan). told_known rules plan items (record { object = shown.object; depends_on = shown.depends_on; id_before = shown.id_before })) is) objects others same)
      (λ i. flat_map (λ (item : Item). told_unless (is_some (number_alike (object_of_item item) i)) item) items)

  told_alike : (rules : PlanningRules) (plan : PlannedObjects) (script : Option (List ℕ)) → told_by_script rules plan objects script ≡ told_by_script rules plan others script
  told_alike rules plan script =
      ap (λ (said : Result (List Item) ScriptError). said >>= λ items. Ok (told_of rules plan objects items)) (items_alike script)
      ∙ ap (λ (told : List Item → List ToldObject). said_of others script >>= λ items. Ok (told items)) (λ i. λ items. told_objects_alike rules plan items i)

-- ---- what the same bytes state

same_stated : (plan_bytes : List ℕ) (script_bytes : Option (List ℕ)) (a b : StatedInputs) → IsStated plan_bytes script_bytes a → IsStated plan_bytes script_bytes b → a ≡ b
same_stated plan_bytes script_bytes a b of_a of_b =
    let plans = sym of_a.plan_is ∙ of_b.plan_is in
    let plan : a.plan ≡ b.plan = cc in
    let scripts = sym of_a.script_is ∙ ap (λ (p : SavedPlan). given_script p script_bytes) plan ∙ of_b.script_is in
    let script : a.script ≡ b.script = cc in
    let both = sym of_a.details_are ∙ of_b.details_are in
    let details : a.details ≡ b.details = cc in
    let all = sym of_a.extras_are ∙ ap (λ (d : DetailsOfPlan). given_extras d.outputs script_bytes) details ∙ of_b.extras_are in
    let extras : a.extras ≡ b.extras = cc in
    λ i. record { plan = plan i; script = script i; details = details i; extras = extras i }

module _ (command : Command) (refresh : Bool) (given : Inputs) (read other : CommandInputs) (is : AreStated command refresh given read) (others : AreStated command refresh given other) where
  stated : read.stated ≡ other.stated
  stated = same_stated given.plan given.script read.stated other.stated is.stated others.stated

  priors : prior_view is.prior ≡ prior_view others.prior
  priors = let both = sym is.prior_is ∙ others.prior_is in cc

  drifts : read.drifts ≡ other.drifts
  drifts = is.drifts_are ∙ ap (λ (p : PriorOfPlan). p.drifts) priors ∙ sym others.drifts_are

  outputs : read.outputs ≡ other.outputs
  outputs = is.outputs_are ∙ ap (λ (p : PriorOfPlan). p.outputs) priors ∙ sym others.outputs_are

  told : map told_view read.told ≡ map told_view other.told
  told =
      let same_rules : told_for command refresh read.stated is.prior given.script ≡ told_for command refresh other.stated is.prior given.script = ap (λ (s : StatedInputs). told_for command refresh s is.prior given.script) stated in
      let same_drifts = ap (λ (p : PriorOfPlan). told_by_script (rules_of command refresh other.stated.details.note)
      (record { changes = other.stated.plan.changes; details = other.stated.details.changes; drifts = p.drifts }) is.prior.objects.items given.script) priors in
      let same_objects = told_alike is.prior.objects.items others.prior.objects.items (ap (λ (p : PriorOfPlan). p.objects) priors) (rules_of command refresh other.stated.details.note)
      (record { changes = other.stated.plan.changes; details = other.stated.details.changes; drifts = others.prior.drifts.items }) given.script in
      let both = sym is.told_are ∙ same_rules ∙ same_drifts ∙ same_objects ∙ others.told_are in cc

  module _ (lanes : ℕ) where
    pub work_is : (planned_reading command refresh lanes).work given read ≡ (planned_reading command refresh lanes).work given other
    work_is =
        let same_parts : (planned_reading command refresh lanes).work given read ≡ (planned_reading command refresh lanes).work given (record { stated = other.stated; drifts = other.drifts; outputs = other.outputs; told = read.told }) =
        λ i. (planned_reading command refresh lanes).work given (record { stated = stated i; drifts = drifts i; outputs = outputs i; told = read.told }) in
        same_parts ∙ same_work command lanes other.stated other.drifts other.outputs 0 Apply read.told other.told told given.hooks

    pub stream_of_both : (start : ℕ) (operation : Operation) (taken : List Event) → stream_in (form command lanes read start operation) taken ≡ stream_in (form command lanes other start operation) taken
    stream_of_both start operation taken =
        let same_parts : stream_in (form command lanes read start operation) taken ≡ stream_in (form command lanes (record { stated = other.stated; drifts = other.drifts; outputs = other.outputs; told = read.told }) start operation) taken =
        λ i. stream_in (form command lanes (record { stated = stated i; drifts = drifts i; outputs = outputs i; told = read.told }) start operation) taken in
        same_parts ∙ streams_alike command lanes other.stated other.drifts other.outputs start operation read.told other.told told taken
