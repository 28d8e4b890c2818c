-- Bytes that differ only in what no stream depends on are read alike.
use Rattle.std.proofs.Common.{◌≡◌, ℕ, List, [], ◌∷◌, codes, Bool, true, false, length, ltb, Option, Some, None, Ok, Err, Result, inl, inr, option_map, refl, sym, ap, ◌∙◌, subst}
use Rattle.std.specs.Prelude.{◌&&◌, ◌||◌, not, option_and_then}
use Rattle.std.specs.Option.{is_some}
use Rattle.std.proofs.lemmas.Option.{same_Some}
use Rattle.json.specs.Json as json
use Rattle.json.specs.Print.{print_from}
use Rattle.serde_json.specs.Data.{Data, Members, no_members, member}
use Rattle.serde_json.specs.Find.{as_str, get}
use Rattle.serde_json.specs.Read.{of_json}
use Rattle.apply_json.specs.Verbatim.{mixed_tree, mixed_member, mixed_tree_of, none_verbatim}
use Rattle.apply_json.specs.Tree.{◌>>=◌, member_of, tree_of, unless_null}
use Rattle.apply_json.proofs.VerbatimValues.{whole_tree_of}
use Rattle.apply_model.specs.Plan.SavedPlan.{SavedPlan}
use Rattle.apply_model.specs.Script.OutcomeMap.{OutcomeMap}
use Rattle.apply_plan.specs.declared.plan.plan_error.PlanError.TheVariants as plan_error
use Rattle.apply_plan.specs.declared.script.script_error.ScriptError.{ScriptError}
use Rattle.apply_plan.specs.declared.script.script_error.ScriptError.TheVariants as script_error
use Rattle.apply_plan.specs.Bytes.{max_bytes}
use Rattle.apply_plan.specs.Plan.SavedPlan.{plan_of, plan_of_tree}
use Rattle.apply_plan.specs.Results.{or_refuse}
use Rattle.apply_plan.specs.Script.Entry.{is_verbatim_name}
use Rattle.apply_plan.specs.Script.OutcomeMap.{script_of, script_of_tree}
use Rattle.apply_plan.proofs.Results.{bind_ok, done, guard_ok, ok_is, or_refuse_ok, unless_refused_ok}
use Rattle.apply_plan_terraform.specs.declared.texts.part.Part.{Part}
use Rattle.apply_plan_terraform.specs.declared.texts.part.Part.TheVariants.{Plan, State, Values, Script, Diagnostics, Outputs, Output, OutputChanges, OutputChange, Text}
use Rattle.apply_plan_terraform.specs.Changes.{changes_of}
use Rattle.apply_plan_terraform.specs.Extras.{ExtrasOfScript, extras_of_json, extras_of_script, with_notes}
use Rattle.apply_plan_terraform.specs.Notes.{notes_in_script}
use Rattle.apply_plan_terraform.specs.Outputs.{OutputsOfPlan, change_of, fault_of, is_null, equals_word, member_in, members_or_none, outputs_in_script, outputs_of_plan, text_at, text_in, unless_faulty}
use Rattle.apply_plan_terraform.specs.Plan.{note_of}
use Rattle.apply_plan_terraform.specs.Texts.{is_text, json_of, members_with_texts, part_named, with_texts}
use Rattle.apply_plan_terraform.specs.ReadDetails.{DetailsOfPlan, details_of}
use Rattle.apply_run.specs.Bytes.{Inputs, given_script}
use Rattle.apply_run.specs.Read.{IsStated, StatedInputs, given_extras}
use Rattle.laws_run.specs.LastMembers.{HaveAlike, HaveSame, is_true, last_of}
use Rattle.laws_run.specs.Plans.{AreAlike}
use Rattle.laws_run.specs.Sensitive.{AreReadAlike, AreSameButSecrets, DifferInSecrets, IsSameButSecret, KnowSameOutputs, EachOutputAgrees, PlansAgreeForTerraform, OutputAgrees, OutputChangesAgree, OutputsAgree, ScriptsAgreeForTerraform}
use Rattle.laws_run.proofs.LastMembers.{found_in, step, text_found, tree_of_value}
use Rattle.laws_run.proofs.PlannedElements.{tree_is}
use Rattle.laws_run.proofs.SecretChanges.{same_plan, same_stated}
use Rattle.laws_run.proofs.SecretOutputs.{put_alike}

-- ---- an output

-- a verbatim member is the same if the last member of its name is the same
text_same : (part : Part) (name : List ℕ) → part_named part name ≡ Some Text → is_text part ≡ false → (a b : json.Json) → last_of name a ≡ last_of name b
    → text_at name (with_texts part a) ≡ text_at name (with_texts part b)
text_same part name named is_raw_name a b same =
    ap (λ (o : Option Data). o >>= as_str) (text_found part Text name named is_raw_name a ∙ ap (option_map (with_texts Text)) same ∙ sym (text_found part Text name named is_raw_name b))

-- the text of a flag that is true
secret_text : (last : Option json.Json) → equals_word (codes "true") (option_map (with_texts Text) last >>= as_str) ≡ false → is_true last ≡ false
unfolding print_from
secret_text None is = refl
secret_text (Some json.null) is = refl
secret_text (Some (json.boolean true)) is = absurd cc
secret_text (Some (json.boolean false)) is = refl
secret_text (Some (json.number s)) is = refl
secret_text (Some (json.string s)) is = refl
secret_text (Some (json.array js)) is = refl
secret_text (Some (json.object ms)) is = refl

output_alike : (a b : json.Json) → OutputAgrees a b → IsSameButSecret (with_texts Output a) (with_texts Output b)
output_alike a b alike = record {
  sensitive = text_same Output (codes "sensitive") refl refl a b alike.0.0;
  kind = text_same Output (codes "type") refl refl a b alike.0.1.0;
  value = λ is.
      text_same Output (codes "value") refl refl a b
      (alike.1 (secret_text (last_of (codes "sensitive") a) (ap (λ (o : Option Data). equals_word (codes "true") (o >>= as_str)) (sym (text_found Output Text (codes "sensitive") refl refl a)) ∙ is))).0;
}

same_but_secrets : (ms : Members) → AreSameButSecrets ms ms
same_but_secrets no_members = tt
same_but_secrets (member name d ms) = (refl, record { sensitive = refl; kind = refl; value = λ is. refl }, same_but_secrets ms)

same_by : (ms ns : Members) → ms ≡ ns → AreSameButSecrets ms ns
same_by ms ns same = subst (AreSameButSecrets ms) same (same_but_secrets ms)

abbrev some : Data → Option Data
some d = Some d

-- ---- outputs by their names

each_alike : (ones others : json.Members) (founds finds : Members) → EachOutputAgrees ones others → AreSameButSecrets founds finds
    → AreSameButSecrets (members_with_texts Outputs ones founds) (members_with_texts Outputs others finds)
each_alike json.no_members json.no_members founds finds alike so_far = so_far
each_alike json.no_members (json.member same b others) founds finds alike so_far = absurd alike
each_alike (json.member name a ones) json.no_members founds finds alike so_far = absurd alike
each_alike (json.member name a ones) (json.member same b others) founds finds alike so_far =
    rw (sym alike.0) (each_alike ones others _ _ alike.2 (put_alike name (with_texts Output a) (with_texts Output b) founds finds (output_alike a b alike.1) so_far))

abbrev SameMembers : (one other : Option Data) → Type 0
SameMembers one other = AreSameButSecrets (members_or_none one) (members_or_none other)

-- both places have the same members
moved : (one at other here : Option Data) → one ≡ at → other ≡ here → SameMembers at here → SameMembers one other
moved one at other here first second same = subst (λ (x : Option Data). SameMembers x other) (sym first) (subst (λ (y : Option Data). SameMembers at y) (sym second) same)

known_outputs : (one other : Option json.Json) → AreAlike OutputsAgree one other → SameMembers (option_map (with_texts Outputs) one) (option_map (with_texts Outputs) other)
known_outputs None None alike = tt
known_outputs None (Some b) alike = absurd alike
known_outputs (Some a) None alike = absurd alike
known_outputs (Some a) (Some b) (inl same) = subst (λ (x : json.Json). SameMembers (Some (with_texts Outputs a)) (Some (with_texts Outputs x))) same (same_but_secrets (members_or_none (Some (with_texts Outputs a))))
known_outputs (Some a) (Some b) (inr both) =
    moved (Some (with_texts Outputs a)) (Some (with_texts Outputs (json.object both.0))) (Some (with_texts Outputs b)) (Some (with_texts Outputs (json.object both.1)))
    (ap (λ (j : json.Json). some (with_texts Outputs j)) both.2) (ap (λ (j : json.Json). some (with_texts Outputs j)) both.3)
    (each_alike both.0 both.1 no_members no_members both.4 tt)

known_values : (one other : Option json.Json) → AreAlike (HaveAlike (codes "outputs") OutputsAgree) one other
    → SameMembers (member_in (codes "outputs") (option_map (with_texts Values) one)) (member_in (codes "outputs") (option_map (with_texts Values) other))
known_values None None alike = tt
known_values None (Some b) alike = absurd alike
known_values (Some a) None alike = absurd alike
known_values (Some a) (Some b) alike =
    moved _ _ _ _ (text_found Values Outputs (codes "outputs") refl refl a) (text_found Values Outputs (codes "outputs") refl refl b) (known_outputs (last_of (codes "outputs") a) (last_of (codes "outputs") b) alike)

known_state : (one other : Option json.Json) → AreAlike (HaveAlike (codes "values") (HaveAlike (codes "outputs") OutputsAgree)) one other
    → SameMembers (member_in (codes "outputs") (member_in (codes "values") (option_map (with_texts State) one))) (member_in (codes "outputs") (member_in (codes "values") (option_map (with_texts State) other)))
known_state None None alike = tt
known_state None (Some b) alike = absurd alike
known_state (Some a) None alike = absurd alike
known_state (Some a) (Some b) alike =
    moved _ _ _ _ (ap (member_in (codes "outputs")) (text_found State Values (codes "values") refl refl a)) (ap (member_in (codes "outputs")) (text_found State Values (codes "values") refl refl b))
    (known_values (last_of (codes "values") a) (last_of (codes "values") b) alike)

-- ---- what is planned of outputs

unknown_by : Option (List ℕ) → Bool
unknown_by script_stated = is_some script_stated && not (is_null script_stated || equals_word (codes "false") script_stated)

change_texts : (name : List ℕ) → part_named OutputChange name ≡ Some Text → (one other : Option json.Json)
    → AreAlike (λ a b. last_of name a ≡ last_of name b) one other
    → text_in name (option_map (with_texts OutputChange) one) ≡ text_in name (option_map (with_texts OutputChange) other)
change_texts name named None None alike = refl
change_texts name named None (Some b) alike = absurd alike
change_texts name named (Some a) None alike = absurd alike
change_texts name named (Some a) (Some b) alike = text_same OutputChange name named refl a b alike

-- from alike in one way to alike in another
weaker : {P Q : json.Json → json.Json → Type 0} → ((a b : json.Json) → P a b → Q a b) → (one other : Option json.Json) → AreAlike P one other → AreAlike Q one other
weaker f None None alike = tt
weaker f None (Some b) alike = absurd alike
weaker f (Some a) None alike = absurd alike
weaker f (Some a) (Some b) alike = f a b alike

module _ (name : List ℕ) where
  planned_texts : (key : List ℕ) → part_named OutputChange key ≡ Some Text
      → ((a b : json.Json) → HaveSame (codes "actions" ∷ codes "after_unknown" ∷ []) a b → last_of key a ≡ last_of key b)
      → (one other : Option json.Json) → AreAlike OutputChangesAgree one other
      → text_in key (change_of (option_map (with_texts OutputChanges) one) name) ≡ text_in key (change_of (option_map (with_texts OutputChanges) other) name)
  planned_texts key named same None None alike = refl
  planned_texts key named same None (Some b) alike = absurd alike
  planned_texts key named same (Some a) None alike = absurd alike
  planned_texts key named same (Some a) (Some b) alike =
      ap (text_in key) (text_found OutputChanges OutputChange name refl refl a)
      ∙ change_texts key named (last_of name a) (last_of name b) (weaker same (last_of name a) (last_of name b) (alike name))
      ∙ sym (ap (text_in key) (text_found OutputChanges OutputChange name refl refl b))

-- ---- outputs of a plan

outputs_known : (a b : json.Json) → PlansAgreeForTerraform a b → KnowSameOutputs (outputs_of_plan (with_texts Plan a)) (outputs_of_plan (with_texts Plan b))
unfolding unknown_by
outputs_known a b alike =
    let changes = λ (j : json.Json). text_found Plan OutputChanges (codes "output_changes") refl refl j in
    record {
      known = moved _ _ _ _
          (ap (λ o. member_in (codes "outputs") (member_in (codes "values") o)) (text_found Plan State (codes "prior_state") refl refl a))
          (ap (λ o. member_in (codes "outputs") (member_in (codes "values") o)) (text_found Plan State (codes "prior_state") refl refl b))
          (known_state (last_of (codes "prior_state") a) (last_of (codes "prior_state") b) alike.2);
      unknown = λ name. ap unknown_by
          (ap (λ (o : Option Data). text_in (codes "after_unknown") (change_of o name)) (changes a)
          ∙ planned_texts name (codes "after_unknown") refl (λ x y h. h.1.0) (last_of (codes "output_changes") a) (last_of (codes "output_changes") b) alike.3
          ∙ sym (ap (λ (o : Option Data). text_in (codes "after_unknown") (change_of o name)) (changes b)));
      gone = λ name. ap (equals_word (codes "[\"delete\"]"))
          (ap (λ (o : Option Data). text_in (codes "actions") (change_of o name)) (changes a)
          ∙ planned_texts name (codes "actions") refl (λ x y h. h.0) (last_of (codes "output_changes") a) (last_of (codes "output_changes") b) alike.3
          ∙ sym (ap (λ (o : Option Data). text_in (codes "actions") (change_of o name)) (changes b)));
    }

-- ---- the tree of a plan

-- what is read of bytes is read of their value
record IsOfValue (bytes : List ℕ) (details : DetailsOfPlan) : Type 0 where
  value : json.Json
  value_is : json_of bytes ≡ Some value
  tree : Data
  tree_is : tree_of bytes ≡ Some tree
  made : mixed_tree none_verbatim value ≡ Some tree
  changes : details.changes ≡ changes_of tree
  note : details.note ≡ note_of tree
  outputs : details.outputs ≡ outputs_of_plan (with_texts Plan value)

of_value : (bytes : List ℕ) (details : DetailsOfPlan) → details_of bytes ≡ Some details → IsOfValue bytes details
of_value bytes details e =
    let value = step (json_of bytes) _ details e in
    let tree = step (of_json value.0) _ details value.2 in
    let parsed : tree_of bytes ≡ Some tree.0 = tree_is bytes ∙ ap (option_and_then of_json) value.1 ∙ tree.1 in
    record {
      value = value.0;
      value_is = value.1;
      tree = tree.0;
      tree_is = parsed;
      made = sym (ap (λ (o : Option json.Json). o >>= mixed_tree none_verbatim) value.1) ∙ sym (tree_of_value none_verbatim bytes) ∙ whole_tree_of bytes ∙ parsed;
      changes = sym (ap (λ (d : DetailsOfPlan). d.changes) (same_Some _ details tree.2));
      note = sym (ap (λ (d : DetailsOfPlan). d.note) (same_Some _ details tree.2));
      outputs = sym (ap (λ (d : DetailsOfPlan). d.outputs) (same_Some _ details tree.2));
    }

-- a member of both trees
module _ (is_raw_name : List ℕ → Bool) (a b : json.Json) (d e : Data) (one : mixed_tree is_raw_name a ≡ Some d) (other : mixed_tree is_raw_name b ≡ Some e) where
  member_same : (name : List ℕ) → last_of name a ≡ last_of name b → member_of name d ≡ member_of name e
  member_same name same =
      ap (λ (o : Option Data). o >>= unless_null)
      (found_in is_raw_name name a d one ∙ ap (λ (o : Option json.Json). o >>= mixed_member is_raw_name name) same ∙ sym (found_in is_raw_name name b e other))

same_note : (a b : json.Json) (d e : Data) → mixed_tree none_verbatim a ≡ Some d → mixed_tree none_verbatim b ≡ Some e → PlansAgreeForTerraform a b → note_of d ≡ note_of e
same_note a b d e one other alike =
    let same = member_same none_verbatim a b d e one other in
    rw (same (codes "errored") alike.0.1.1.0, same (codes "complete") alike.0.1.1.1.0) refl

-- bytes have the plan of their tree
planned_from : (bytes : List ℕ) (plan : SavedPlan) (tree : Data) → plan_of bytes ≡ Ok plan → tree_of bytes ≡ Some tree → plan_of_tree tree ≡ Ok plan
unfolding plan_of
planned_from bytes plan tree e is =
    let sized = guard_ok (ltb max_bytes (length bytes)) plan_error.TooLarge _ plan e in
    let parsed = bind_ok (or_refuse plan_error.NotJson (tree_of bytes)) plan_of_tree plan sized.1 in
    ap plan_of_tree (same_Some tree parsed.0 (sym is ∙ or_refuse_ok plan_error.NotJson (tree_of bytes) parsed.0 parsed.1)) ∙ parsed.2

-- ---- a script

-- bytes have the script of the tree of their value
record IsScriptOf (plan : SavedPlan) (value : json.Json) (script : OutcomeMap) : Type 0 where
  tree : Data
  made : mixed_tree is_verbatim_name value ≡ Some tree
  script_is : script_of_tree plan tree ≡ Ok script

script_from : (plan : SavedPlan) (bytes : List ℕ) (script : OutcomeMap) (value : json.Json) → script_of plan bytes ≡ Ok script → json_of bytes ≡ Some value → IsScriptOf plan value script
unfolding script_of
script_from plan bytes script value e is =
    let sized = guard_ok (ltb max_bytes (length bytes)) script_error.TooLarge _ script e in
    let parsed = bind_ok (or_refuse script_error.NotJson (mixed_tree_of is_verbatim_name bytes)) (script_of_tree plan) script sized.1 in
    record {
      tree = parsed.0;
      made = sym (ap (λ (o : Option json.Json). o >>= mixed_tree is_verbatim_name) is) ∙ sym (tree_of_value is_verbatim_name bytes) ∙ or_refuse_ok script_error.NotJson (mixed_tree_of is_verbatim_name bytes) parsed.0 parsed.1;
      script_is = parsed.2;
    }

same_script : (plan : SavedPlan) (a b : json.Json) (d e : Data) → mixed_tree is_verbatim_name a ≡ Some d → mixed_tree is_verbatim_name b ≡ Some e → ScriptsAgreeForTerraform a b → script_of_tree plan d ≡ script_of_tree plan e
unfolding script_of_tree
same_script plan a b d e one other alike = rw (member_same is_verbatim_name a b d e one other (codes "changes") alike.0.0) refl

-- the extras of a script are read of its value
record AreExtrasOf (value : json.Json) (extras : ExtrasOfScript) : Type 0 where
  outputs : outputs_in_script (get (codes "outputs") (with_texts Script value)) ≡ Ok extras.outputs
  notes : notes_in_script (get (codes "diagnostics") (with_texts Script value)) ≡ Ok extras.notes

without_fault : (plan : OutputsOfPlan) (located : Result Members ScriptError) (outputs : Members) → unless_faulty plan located ≡ Ok outputs → located ≡ Ok outputs
without_fault plan (Ok ms) outputs e = ap done (unless_refused_ok (fault_of plan 0 ms) ms outputs e).1
without_fault plan (Err refusal) outputs e = absurd cc

extras_from : (plan : OutputsOfPlan) (bytes : List ℕ) (extras : ExtrasOfScript) (value : json.Json) → extras_of_json plan (json_of bytes) ≡ Ok extras → json_of bytes ≡ Some value → AreExtrasOf value extras
extras_from plan bytes extras value e is =
    let script_stated : extras_of_script plan (with_texts Script value) ≡ Ok extras = sym (ap (extras_of_json plan) is) ∙ e in
    let outputs = bind_ok (unless_faulty plan (outputs_in_script (get (codes "outputs") (with_texts Script value)))) _ extras script_stated in
    let notes = bind_ok (notes_in_script (get (codes "diagnostics") (with_texts Script value))) _ extras outputs.2 in
    let made = ok_is (with_notes outputs.0 notes.0) extras notes.2 in
    record {
      outputs = without_fault plan (outputs_in_script (get (codes "outputs") (with_texts Script value))) outputs.0 outputs.1 ∙ ap (λ (x : ExtrasOfScript). done x.outputs) made;
      notes = notes.1 ∙ ap (λ (x : ExtrasOfScript). done x.notes) made;
    }

stated_outputs_alike : (one other : Option json.Json) (ms ns : Members) → AreAlike OutputsAgree one other
    → outputs_in_script (option_map (with_texts Outputs) one) ≡ Ok ms → outputs_in_script (option_map (with_texts Outputs) other) ≡ Ok ns → AreSameButSecrets ms ns
stated_outputs_alike None None ms ns alike is also = same_by ms ns (ok_is ms ns (sym is ∙ also))
stated_outputs_alike None (Some b) ms ns alike is also = absurd alike
stated_outputs_alike (Some a) None ms ns alike is also = absurd alike
stated_outputs_alike (Some a) (Some b) ms ns (inl same) is also =
    same_by ms ns (ok_is ms ns (sym is ∙ ap (λ (j : json.Json). outputs_in_script (some (with_texts Outputs j))) same ∙ also))
stated_outputs_alike (Some a) (Some b) ms ns (inr both) is also =
    let one : members_with_texts Outputs both.0 no_members ≡ ms = ok_is _ ms (sym (ap (λ (j : json.Json). outputs_in_script (some (with_texts Outputs j))) both.2) ∙ is) in
    let other : members_with_texts Outputs both.1 no_members ≡ ns = ok_is _ ns (sym (ap (λ (j : json.Json). outputs_in_script (some (with_texts Outputs j))) both.3) ∙ also) in
    subst (λ (x : Members). AreSameButSecrets x ns) one (subst (AreSameButSecrets (members_with_texts Outputs both.0 no_members)) other (each_alike both.0 both.1 no_members no_members both.4 tt))

-- ---- all that was read

record Agree (one other : StatedInputs) : Type 0 where
  script : one.script ≡ other.script
  outputs : AreSameButSecrets one.extras.outputs other.extras.outputs
  notes : one.extras.notes ≡ other.extras.notes

no_json : (plan : OutputsOfPlan) (bytes : List ℕ) (extras : ExtrasOfScript) → extras_of_json plan (json_of bytes) ≡ Ok extras → json_of bytes ≡ None → ⊥
no_json plan bytes extras e is = let never : extras_of_json plan None ≡ Ok extras = sym (ap (extras_of_json plan) is) ∙ e in cc

scripts_alike : (one other : StatedInputs) (a b : Option (List ℕ)) → one.plan ≡ other.plan
    → AreAlike (λ x y. AreAlike ScriptsAgreeForTerraform (json_of x) (json_of y)) a b
    → given_script one.plan a ≡ Ok one.script → given_script other.plan b ≡ Ok other.script
    → given_extras one.details.outputs a ≡ Ok one.extras → given_extras other.details.outputs b ≡ Ok other.extras → Agree one other
scripts_alike one other None None plans alike script_a script_b extras_a extras_b =
    let nothing : one.extras ≡ other.extras = ok_is one.extras other.extras (sym extras_a ∙ extras_b) in
    record {
      script = ok_is one.script other.script (sym script_a ∙ script_b);
      outputs = same_by one.extras.outputs other.extras.outputs (ap (λ (x : ExtrasOfScript). x.outputs) nothing);
      notes = ap (λ (x : ExtrasOfScript). x.notes) nothing;
    }
scripts_alike one other None (Some b) plans alike script_a script_b extras_a extras_b = absurd alike
scripts_alike one other (Some a) None plans alike script_a script_b extras_a extras_b = absurd alike
scripts_alike one other (Some a) (Some b) plans alike script_a script_b extras_a extras_b = of_values (json_of a) (json_of b) refl refl alike
  where
    of_values : (x y : Option json.Json) → json_of a ≡ x → json_of b ≡ y → AreAlike ScriptsAgreeForTerraform x y → Agree one other
    of_values None y at_a at_b alike = absurd (no_json one.details.outputs a one.extras extras_a at_a)
    of_values (Some x) None at_a at_b alike = absurd alike
    of_values (Some x) (Some y) at_a at_b alike =
        let s = script_from one.plan a one.script x script_a at_a in
        let t = script_from other.plan b other.script y script_b at_b in
        let u = extras_from one.details.outputs a one.extras x extras_a at_a in
        let v = extras_from other.details.outputs b other.extras y extras_b at_b in
        record {
          script = ok_is one.script other.script
              (sym s.script_is ∙ ap (λ (p : SavedPlan). script_of_tree p s.tree) plans ∙ same_script other.plan x y s.tree t.tree s.made t.made alike ∙ t.script_is);
          outputs = stated_outputs_alike (last_of (codes "outputs") x) (last_of (codes "outputs") y) one.extras.outputs other.extras.outputs alike.1
              (ap outputs_in_script (sym (text_found Script Outputs (codes "outputs") refl refl x)) ∙ u.outputs)
              (ap outputs_in_script (sym (text_found Script Outputs (codes "outputs") refl refl y)) ∙ v.outputs);
          notes = ok_is one.extras.notes other.extras.notes
              (sym u.notes
              ∙ ap notes_in_script (text_found Script Diagnostics (codes "diagnostics") refl refl x ∙ ap (option_map (with_texts Diagnostics)) alike.0.1.0 ∙ sym (text_found Script Diagnostics (codes "diagnostics") refl refl y))
              ∙ v.notes);
        }

pub read_alike : (one other : Inputs) (stated same : StatedInputs) → DifferInSecrets one other → IsStated one.plan one.script stated → IsStated other.plan other.script same → AreReadAlike stated same
read_alike one other stated same alike first second =
    let a = of_value one.plan stated.details first.details_are in
    let b = of_value other.plan same.details second.details_are in
    let values : PlansAgreeForTerraform a.value b.value =
    subst (λ (x : Option json.Json). AreAlike PlansAgreeForTerraform x (Some b.value)) a.value_is (subst (AreAlike PlansAgreeForTerraform (json_of one.plan)) b.value_is alike.plan) in
    let plans : stated.plan ≡ same.plan =
    ok_is stated.plan same.plan
    (sym (planned_from one.plan stated.plan a.tree first.plan_is a.tree_is) ∙ same_plan a.value b.value a.tree b.tree a.made b.made values.1 (values.0.0, (values.0.1.0, tt)) ∙ planned_from other.plan same.plan b.tree second.plan_is b.tree_is) in
    let script_stated = scripts_alike stated same one.script other.script plans alike.script first.script_is second.script_is first.extras_are second.extras_are in
    record {
      plan = plans;
      script = script_stated.script;
      changes = a.changes ∙ same_stated a.value b.value a.tree b.tree a.made b.made values.1 ∙ sym b.changes;
      note = a.note ∙ same_note a.value b.value a.tree b.tree a.made b.made values ∙ sym b.note;
      outputs = subst (λ (x : OutputsOfPlan). KnowSameOutputs x same.details.outputs) (sym a.outputs)
          (subst (KnowSameOutputs (outputs_of_plan (with_texts Plan a.value))) (sym b.outputs) (outputs_known a.value b.value values));
      script_outputs = script_stated.outputs;
      notes = script_stated.notes;
    }
